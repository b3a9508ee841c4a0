-- Where nothing is drained, more is put.
use Rattle.std.proofs.Common.{◌≡◌, ℕ, suc, ◌-◌, Bool, true, false, cond, List, [], ◌∷◌, ◌++◌, length, map, Option, Some, None, option_map, append_assoc, sym, ap, subst, ◌∙◌, refl, arith}
use Rattle.std.specs.Prelude.{slice_get}
use Rattle.std.specs.List.{AllByRecursion}
use Rattle.pcep_framing.specs.Frames.{joined}
use Rattle.plant_play.specs.plant_model.Types.{Message}
use Rattle.pcep_messages.specs.Messages.{Reads}
use Rattle.pcep_messages.specs.Spelling.{IsWritten, message_text}
use Rattle.plant_play.specs.plant_model.Blind.{is_accepted}
use Rattle.plant_play.specs.plant_model.Plant.{Entry}
use Rattle.plant_play.specs.plant_model.RealWire.{wire}
use Rattle.plant_play.specs.plant_model.Wire.{Bytes}
use Rattle.plant_play.specs.Turns.{Turn, entries_of}
use Rattle.plant_client.specs.Hearing.{heard_in, in_frame, in_reading}
use Rattle.plant_client.specs.Telling.{last_of}
use Rattle.run_laws.specs.Outlets.{Outlet, ConnectionChange, bytes_of, handed_in, messages_for, outlet, turn_for, turned, with_put}
use Rattle.run_laws.proofs.PeerLemmas.OutletEvents.{joined_append}
use Rattle.run_laws.proofs.PeerLemmas.Growing.{texts, texts_append}
use Rattle.run_laws.specs.Received.{IsStreamOf}
use Rattle.run_laws.proofs.PeerLemmas.Streams.{stream_of}
use Rattle.client_laws.proofs.Lines.{AllStay}
use Rattle.client_laws.specs.Received.{all_of, last_heard}

-- the connection has this holder, and of what was put there these messages were handed out
pub record IsHeld (own : ℕ) (done : List Message) (x : Outlet) : Type 0 where
  pub holder : x.holder ≡ own
  pub handed : x.handed ≡ bytes_of wire done
  pub rest : List Message
  pub put : x.put ≡ done ++ rest

abbrev pub AreHeld : ℕ → List Message → Option Outlet → Type 0
AreHeld holder done None = ⊥
AreHeld holder done (Some x) = IsHeld holder done x

put_held : (holder : ℕ) (done ms : List Message) (o : Option Outlet) → AreHeld holder done o → AreHeld holder done (option_map (with_put ms) o)
put_held holder done ms None h = h
put_held holder done ms (Some x) h = record { holder = h.holder; handed = h.handed; rest = h.rest ++ ms; put = ap (λ (l : List Message). l ++ ms) h.put ∙ append_assoc done h.rest ms }

pick : (P : Option Outlet → Type 0) (b : Bool) (o o' : Option Outlet) → P o → P o' → P (cond b o o')
pick P true o o' p p' = p
pick P false o o' p p' = p'

pub still_held : (i holder : ℕ) (done : List Message) (ts : List Turn) (older : List Entry) → AllStay i ts → AreHeld holder done (outlet i older) → AreHeld holder done (outlet i (entries_of ts older))
still_held i holder done [] older stay h = h
still_held i holder done (t ∷ ts) older stay h =
    let more : AreHeld holder done (turned (turn_for i t.entry.event) (messages_for i t.entry.deeds) (handed_in t.entry.answer) (outlet i older)) =
    subst (λ (k : ConnectionChange). AreHeld holder done (turned k (messages_for i t.entry.deeds) (handed_in t.entry.answer) (outlet i older))) (sym stay.0) (put_held holder done (messages_for i t.entry.deeds) (outlet i older) h) in
    still_held i holder done ts (t.entry ∷ older) stay.1 (pick (AreHeld holder done) (is_accepted t.entry.answer) _ (outlet i older) more h)

pub bytes_append : (xs ys : List Message) → bytes_of wire (xs ++ ys) ≡ bytes_of wire xs ++ bytes_of wire ys
bytes_append xs ys = ap joined (texts_append wire xs ys) ∙ joined_append (texts wire xs) (texts wire ys)

pub front_off : (xs ys zs : Bytes) → xs ++ ys ≡ xs ++ zs → ys ≡ zs
front_off [] ys zs e = e
front_off (x ∷ xs) ys zs e = front_off xs ys zs cc

-- ---- what is heard

less_one : (n : ℕ) → suc n - 1 ≡ n
less_one n = omega arith

one_on : (x : List ℕ) (xs : List (List ℕ)) (k : ℕ) → slice_get (x ∷ xs) (suc k) ≡ slice_get xs k
one_on x xs k = refl

last_more : (x y : List ℕ) (ys : List (List ℕ)) → last_of (x ∷ y ∷ ys) ≡ last_of (y ∷ ys)
last_more x y ys =
    ap (λ (k : ℕ). slice_get (x ∷ y ∷ ys) k) (less_one (suc (length ys))) ∙ one_on x (y ∷ ys) (length ys) ∙ ap (λ (k : ℕ). slice_get (y ∷ ys) k) (sym (less_one (length ys)))

last_is : (ms : List Message) → AllByRecursion (λ (m : Message). Reads (message_text m) m) ms → in_frame (last_of (map message_text ms)) ≡ last_heard ms
last_is [] each = refl
last_is (m ∷ []) each = ap in_reading each.0
last_is (m ∷ next ∷ ms) each = ap in_frame (last_more (message_text m) (message_text next) (map message_text ms)) ∙ last_is (next ∷ ms) each.1

pub stream_heard : (ms : List Message) → AllByRecursion IsWritten ms → heard_in (bytes_of wire ms) ≡ last_heard ms
stream_heard ms fits =
    let s : IsStreamOf ms (bytes_of wire ms) = stream_of ms fits in
    ap (λ (fs : List (List ℕ)). in_frame (last_of fs)) s.frames ∙ last_is ms s.each

front_written : (xs ys : List Message) → AllByRecursion IsWritten (xs ++ ys) → AllByRecursion IsWritten xs
front_written [] ys all = tt
front_written (x ∷ xs) ys all = (all.0, front_written xs ys all.1)

behind_written : (xs ys : List Message) → AllByRecursion IsWritten (xs ++ ys) → AllByRecursion IsWritten ys
behind_written [] ys all = all
behind_written (x ∷ xs) ys all = behind_written xs ys all.1

pub all_heard : (news : List (List Message)) → AllByRecursion IsWritten (all_of news) → map heard_in (map (bytes_of wire) news) ≡ map last_heard news
all_heard [] all = refl
all_heard (ms ∷ others) all =
    ap (λ h. h ∷ map heard_in (map (bytes_of wire) others)) (stream_heard ms (front_written ms (all_of others) all))
    ∙ ap (λ hs. last_heard ms ∷ hs) (all_heard others (behind_written ms (all_of others) all))

pub first_written : (xs ys : List Message) → AllByRecursion IsWritten (xs ++ ys) → AllByRecursion IsWritten xs
first_written xs ys all = front_written xs ys all
