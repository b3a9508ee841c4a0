-- What an element's taking of one request leaves of its requests.
use Rattle.std.proofs.Common.{◌≡◌, ℕ, Bool, true, false, cond, ◌==◌, Option, Some, None, List, [], ◌∷◌, inl, inr, sym, subst, refl}
use Rattle.std.proofs.lemmas.Bool.{cases_Bool}
use Rattle.plant_model.specs.Types.{As, Addr, Peer, Hop, Message, Asked, Request, Wanted, Wish, Class, RequestKey}
use Rattle.pcep_messages.specs.declared.message.Wish.TheVariants.{Path, Expand}
use Rattle.request_table.specs.Pending.{Pending, ArePending, same_peer, number_of, opened_of, is_full}
use Rattle.plant_model.specs.declared.output.Output.{Output}
use Rattle.plant_model.specs.Names.{the_parent}
use Rattle.plant_model.specs.Wire.{Codec, Checked, Admitted, Wrong}
use Rattle.plant_model.specs.Writing.{request_message, reply_message, busy, unavailable}
use Rattle.disclosure.specs.Policy.{is_denied}
use Rattle.plant_model.specs.Element.{Stage, Waits, Ready, Item, Way, Element, ElementSettings, Taken, silent, only, fresh_id, way_to}
use Rattle.plant_model.specs.Routes.{toward}
use Rattle.plant_model.specs.Taking as taking
use Rattle.plant_model.specs.Taking.{sequence_or, goes_up}
use Rattle.plant_laws.specs.Transcript.{answers_to, Effect, Keeps, begins_if}
use Rattle.plant_laws.proofs.Once.TableSteps.{AnswersOnly, reply_answers, busy_answers}
use Rattle.plant_laws.proofs.Once.TableAsks.{IsAsked, keeps_asked, answered_keeps, repeats_asked, opens_asked}
use Rattle.plant_laws.proofs.Once.ElementSteps.{core}

-- a request that was opened just now is that which was asked, and pins what was given
pub record IsFresh (P : Type 0) (c : Codec) (e : ElementSettings) (pin : P) (p : Peer) (class : Class) (a : Asked) (key : RequestKey) (u : Item P) : Type 0 where
  pub peer : key.peer ≡ p
  pub request : Request
  pub admitted : c.check a e.own ≡ Admitted request
  pub id : request.id ≡ key.id
  pub flags' : request.flags ≡ u.flags
  pub wish' : request.wish ≡ Path u.wanted
  pub class' : u.class ≡ class
  pub pin' : u.pin ≡ pin
  pub sequence' : u.sequence ≡ cond (goes_up e.parent class u.wanted.sequence) [] (sequence_or e.own u.wanted.sequence)

module _ (P : Type 0) (S : Type 0) (c : Codec) (show : S → List Hop) (e : ElementSettings) (pin : P) (p : Peer) (class : Class) (now : ℕ) (a : Asked) (k : Element P S) where
  abbrev Good : RequestKey → Item P → Type 0
  Good = IsFresh P c e pin p class a

  -- the effect on each request, where the ask says this
  abbrev pub asked_effect : Checked → List Output → RequestKey → Effect
  asked_effect r os key = cond (same_peer p key.peer) (begins_if c e.own key.id (answers_to key.peer key.id os) r) Keeps

  abbrev Holds : Checked → Taken P S → Type 0
  Holds r t = IsAsked (core {P = P}) Good (asked_effect r t.outputs) k.pending t.element.pending

  no_effect : (r : Checked) (t : Taken P S) → t.element.pending ≡ k.pending → ArePending k.pending → ((key : RequestKey) → asked_effect r t.outputs key ≡ Keeps) → Holds r t
  no_effect r t same are keeps = subst (λ (q : Pending (Item P)). IsAsked (core {P = P}) Good (asked_effect r t.outputs) k.pending q) (sym same) (keeps_asked core Good k.pending (asked_effect r t.outputs) are keeps)

  cond_same : (b : Bool) → cond b Keeps Keeps ≡ Keeps
  cond_same true = refl
  cond_same false = refl

  cond_twice : (b d : Bool) → cond b (cond d Keeps Keeps) Keeps ≡ Keeps
  cond_twice true d = cond_same d
  cond_twice false d = refl

  module _ (flags x : ℕ) where
    abbrev path_request : Wanted → Request
    path_request w = record { flags = flags; id = x; wish = Path w }

    -- it is answered at once
    refused : (w : Wanted) (m : Message) → AnswersOnly x m → ArePending k.pending → Holds (Admitted (path_request w)) (only p m k)
    refused w m single are = no_effect (Admitted (path_request w)) (only p m k) refl are (λ key. answered_keeps core Good p x m single key)

    denied : (w : Wanted) → ArePending k.pending → Holds (Admitted (path_request w)) (taking.denied p flags x k)
    denied w are = refused w (reply_message flags x unavailable) (reply_answers flags x unavailable) are

    module _ (w : Wanted) (are : ArePending k.pending) (admitted : c.check a e.own ≡ Admitted (path_request w)) (room : is_full k.pending ≡ false) (none : number_of k.pending p x ≡ None) where
      opened : (sequence : List As) (stage : Stage) (t : Taken P S) → t.element.pending ≡ opened_of k.pending p x (taking.item_of pin class flags w sequence stage) → ((key : RequestKey) → answers_to key.peer key.id t.outputs ≡ 0) →
          sequence ≡ cond (goes_up e.parent class w.sequence) [] (sequence_or e.own w.sequence) → Holds (Admitted (path_request w)) t
      opened sequence stage t same quiet is =
          subst (λ (q : Pending (Item P)). IsAsked (core {P = P}) Good (asked_effect (Admitted (path_request w)) t.outputs) k.pending q) (sym same)
          (opens_asked core Good k.pending p x (taking.item_of pin class flags w sequence stage) (λ key. answers_to key.peer key.id t.outputs) are room none quiet
          (record { peer = refl; request = path_request w; admitted = admitted; id = refl; flags' = refl; wish' = refl; class' = refl; pin' = refl; sequence' = is }))

      quiet_request : (q : Peer) (y : ℕ) (t : Addr) (rest : List As) (key : RequestKey) → answers_to key.peer key.id (record { to = q; message = request_message y w t rest } ∷ []) ≡ 0
      quiet_request q y t rest key = elim (cases_Bool (same_peer q key.peer)) [ inl own ↦ rw own refl | inr other ↦ rw other refl ]

      sends_on : (sequence rest : List As) (ref : Bool) (o : Option Way) → sequence ≡ cond (goes_up e.parent class w.sequence) [] (sequence_or e.own w.sequence) →
          Holds (Admitted (path_request w)) (taking.send_on (taking.sight pin p class) (taking.wanting flags x w) sequence rest ref k o)
      sends_on sequence rest ref None is = denied w are
      sends_on sequence rest ref (Some way) is = go way.up ref
        where
          go : (u n : Bool) → Holds (Admitted (path_request w)) (cond u (cond n (taking.denied p flags x k) (taking.sent_on (taking.sight pin p class) (taking.wanting flags x w) sequence rest k way)) (taking.denied p flags x k))
          go true true = denied w are
          go true false =
              let y = fresh_id way.peer way.last_id k.pending.rows in
              opened sequence (Waits way.peer y) (taking.sent_on (taking.sight pin p class) (taking.wanting flags x w) sequence rest k way) refl (quiet_request way.peer y w.target rest) is
          go false n = denied w are

      along : (sequence : List As) → sequence ≡ cond (goes_up e.parent class w.sequence) [] (sequence_or e.own w.sequence) → Holds (Admitted (path_request w)) (taking.take_along e (taking.sight pin p class) (taking.wanting flags x w) k sequence)
      along [] is = denied w are
      along (d ∷ []) is = opened (d ∷ []) (Ready []) (taking.take_along e (taking.sight pin p class) (taking.wanting flags x w) k (d ∷ [])) refl (λ key. refl) is
      along (d ∷ b ∷ rest) is = sends_on (d ∷ b ∷ rest) (b ∷ rest) (is_denied e.deny class b) (way_to (toward b e.routes) k.ways) is

      path_asked : Holds (Admitted (path_request w)) (taking.take_path e (taking.sight pin p class) (taking.wanting flags x w) k)
      path_asked = go (goes_up e.parent class w.sequence) refl
        where
          go : (b : Bool) → goes_up e.parent class w.sequence ≡ b →
              Holds (Admitted (path_request w)) (cond b (taking.send_on (taking.sight pin p class) (taking.wanting flags x w) [] [] false k (way_to the_parent k.ways)) (taking.take_along e (taking.sight pin p class) (taking.wanting flags x w) k (sequence_or e.own w.sequence)))
          go true up = sends_on [] [] false (way_to the_parent k.ways) (rw up refl)
          go false up = along (sequence_or e.own w.sequence) (rw up refl)

    wish_asked : (wish : Wish) → ArePending k.pending → c.check a e.own ≡ Admitted (record { flags = flags; id = x; wish = wish }) → number_of k.pending p x ≡ None →
        Holds (Admitted (record { flags = flags; id = x; wish = wish })) (taking.take_wish show e (taking.sight pin p class) now flags x k wish)
    wish_asked (Expand key pce) are admitted none =
        no_effect (Admitted (record { flags = flags; id = x; wish = Expand key pce })) (taking.take_wish show e (taking.sight pin p class) now flags x k (Expand key pce)) refl are (λ key'. cond_twice (same_peer p key'.peer) (x == key'.id))
    wish_asked (Path w) are admitted none = go (is_full k.pending) refl
      where
        go : (b : Bool) → is_full k.pending ≡ b → Holds (Admitted (path_request w)) (cond b (only p (busy flags x) k) (taking.take_path e (taking.sight pin p class) (taking.wanting flags x w) k))
        go true full = refused w (busy flags x) (busy_answers flags x) are
        go false room = path_asked w are admitted room none

    repeated : (wish : Wish) (number : ℕ) → ArePending k.pending → number_of k.pending p x ≡ Some number → Holds (Admitted (record { flags = flags; id = x; wish = wish })) (silent k)
    repeated (Expand key pce) number are some = no_effect (Admitted (record { flags = flags; id = x; wish = Expand key pce })) (silent k) refl are (λ key'. cond_twice (same_peer p key'.peer) (x == key'.id))
    repeated (Path w) number are some = repeats_asked core Good k.pending p x number are some

  checked_asked : (r : Checked) → ArePending k.pending → c.check a e.own ≡ r → Holds r (taking.take_checked show e pin p class now k r)
  checked_asked (Wrong rp kind value) are is =
      no_effect (Wrong rp kind value) (taking.take_checked show e pin p class now k (Wrong rp kind value)) refl are (λ key. cond_same (same_peer p key.peer))
  checked_asked (Admitted r) are is = go (number_of k.pending p r.id) refl
    where
      go : (o : Option ℕ) → number_of k.pending p r.id ≡ o → Holds (Admitted r) (taking.take_new show e pin p class now r k o)
      go None none = wish_asked r.flags r.id r.wish are is none
      go (Some number) some = repeated r.flags r.id r.wish number are some

  pub asked_step : ArePending k.pending →
      IsAsked (core {P = P}) (IsFresh P c e pin p class a) (asked_effect (c.check a e.own) (taking.take_asked c show e pin p class now a k).outputs) k.pending (taking.take_asked c show e pin p class now a k).element.pending
  asked_step are = checked_asked (c.check a e.own) are refl
