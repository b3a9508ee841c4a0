-- What is put for a closed peer is what the network without topologies says for it.
use Rattle.std.proofs.Common.{◌≡◌, ◌∙◌, inl, inr, ℕ, ◌==◌, Bool, true, false, cond, List, [], ◌∷◌, ◌++◌, append-nil, append_assoc, map, Option, Some, None, ap, refl, sym, subst}
use Rattle.std.proofs.lemmas.List.{map-append}
use Rattle.disclosure.specs.Shown.{open_of}
use Rattle.request_table.specs.Pending.{same_peer}
use Rattle.request_table.proofs.KeyLemmas.{same_peer_is}
use Rattle.plant_network.specs.plant_model.Types.{As, Message as Sent, NetworkParts, Outside}
use Rattle.plant_network.specs.plant_model.declared.event.BlindEvent.{BlindEvent}
use Rattle.plant_network.specs.plant_model.declared.event.Event.{Event}
use Rattle.plant_network.specs.plant_model.declared.event.Event.TheVariants as event
use Rattle.plant_network.specs.plant_model.declared.output.Output.{Output}
use Rattle.plant_network.specs.plant_model.Blind.{Drained as Took, Heard, Message as Said, heard, heard_in, heard_of, is_accepted, is_closed}
use Rattle.plant_network.specs.plant_model.Events as events
use Rattle.plant_network.specs.plant_model.Plant.{Entry, Happened, Pin, Plant, PlantDeed, Run, Segment, Steps, deeds_of}
use Rattle.plant_network.specs.plant_model.RealWire.{wire}
use Rattle.plant_network.specs.plant_model.State.{Clears, Connection, Downs, Expires, Hands, Loads, Pops, Says, Solves, Takes, Ups, sent_by}
use Rattle.plant_network.specs.plant_laws.Worlds.{DisclosedRun}
use Rattle.run_laws.specs.Outlets.{ConnectionChange, Drains, Opens, Outlet, Shuts, Stays, handed_in, messages_for, outlet, outputs_of, put_for, turn_for, turned}
use Rattle.run_laws.proofs.plant_laws.Blind.SaysBlind.{says_as_blind}
use Rattle.run_laws.proofs.plant_laws.Runs.Refused.{refused_same}
use Rattle.desk_laws.specs.Closed.{PutIsSaidBlindly, heard_by}
use Rattle.desk_laws.proofs.Streams.{run_at}

-- ---- what is heard is what is put

abbrev text : Sent → List ℕ
text m = wire.text m

heard_on : (i : ℕ) (xs ys : List Heard) → heard_by i (xs ++ ys) ≡ heard_by i xs ++ heard_by i ys
heard_on i [] ys = refl
heard_on i (Said x ∷ xs) ys = by (same_peer x.to (Outside i)) (heard_on i xs ys)
  where
    by : (b : Bool) → heard_by i (xs ++ ys) ≡ heard_by i xs ++ heard_by i ys → cond b (x.bytes ∷ heard_by i (xs ++ ys)) (heard_by i (xs ++ ys)) ≡ cond b (x.bytes ∷ heard_by i xs) (heard_by i xs) ++ heard_by i ys
    by true same = ap (λ (ms : List (List ℕ)). x.bytes ∷ ms) same
    by false same = same
heard_on i (Took j bytes ∷ xs) ys = heard_on i xs ys

module _ (n : NetworkParts) (i : ℕ) (closed : is_closed n (Outside i) ≡ true) where
  of_sent : (at : As) (os : List Output) → heard_by i (heard_of n (sent_by wire at os)) ≡ map text (put_for i os)
  of_sent at [] = refl
  of_sent at (o ∷ os) = by (same_peer o.to (Outside i)) (is_closed n o.to) refl refl (of_sent at os)
    where
      others : List Heard
      others = heard_of n (sent_by wire at os)

      by : (b k : Bool) → same_peer o.to (Outside i) ≡ b → is_closed n o.to ≡ k → heard_by i others ≡ map text (put_for i os) →
          heard_by i (cond k (Said (record { from = at; to = o.to; bytes = text o.message }) ∷ others) others) ≡ map text (cond b (o.message ∷ put_for i os) (put_for i os))
      by true true is known same = ap (λ (c : Bool). cond c (text o.message ∷ heard_by i others) (heard_by i others)) is ∙ ap (λ (ms : List (List ℕ)). text o.message ∷ ms) same
      by false true is known same = ap (λ (c : Bool). cond c (text o.message ∷ heard_by i others) (heard_by i others)) is ∙ same
      by false false is known same = same
      by true false is known same =
          let no : false ≡ true = sym known ∙ ap (is_closed n) (same_peer_is o.to (Outside i) is) ∙ closed in
          cc

  of_deed : (d : PlantDeed) → heard_by i (heard_in wire n d) ≡ map text (put_for i (outputs_of d))
  of_deed (Takes at from m os) = of_sent at os
  of_deed (Says at o) = of_sent at (o ∷ [])
  of_deed (Downs at p os) = of_sent at os
  of_deed (Solves at k os keys) = of_sent at os
  of_deed (Loads at rows) = refl
  of_deed (Pops from to) = refl
  of_deed (Ups at p) = refl
  of_deed (Clears one other) = refl
  of_deed (Expires now) = refl
  of_deed (Hands j bytes) = by (is_closed n (Outside j))
    where
      by : (k : Bool) → heard_by i (cond k (Took j bytes ∷ []) []) ≡ []
      by true = refl
      by false = refl

  pub of_deeds : (ds : List PlantDeed) → heard_by i (heard wire n ds) ≡ map text (messages_for i ds)
  of_deeds [] = refl
  of_deeds (d ∷ ds) =
      heard_on i (heard wire n ds) (heard_in wire n d)
      ∙ ap (λ (ms : List (List ℕ)). ms ++ heard_by i (heard_in wire n d)) (of_deeds ds)
      ∙ ap (λ (ms : List (List ℕ)). map text (messages_for i ds) ++ ms) (of_deed d)
      ∙ sym (map-append text (messages_for i ds) (put_for i (outputs_of d)))

-- ---- what was put since the connection was opened is the last of what was said

messages_on : (i : ℕ) (ds es : List PlantDeed) → messages_for i (ds ++ es) ≡ messages_for i es ++ messages_for i ds
messages_on i [] es = sym (append-nil (messages_for i es))
messages_on i (d ∷ ds) es = ap (λ (ms : List Sent). ms ++ put_for i (outputs_of d)) (messages_on i ds es) ∙ append_assoc (messages_for i es) (messages_for i ds) (put_for i (outputs_of d))

abbrev EndsWith : Option Outlet → List Sent → Type 0
EndsWith None all = Unit {0}
EndsWith (Some x) all = (before : List Sent) × (all ≡ before ++ x.put)

still : (o : Option Outlet) (all more : List Sent) → more ≡ [] → EndsWith o all → EndsWith o (all ++ more)
still o all more none ends = subst (EndsWith o) (sym (ap (λ (ms : List Sent). all ++ ms) none ∙ append-nil all)) ends

grown : (b : Bool) (t : ConnectionChange) (more : List Sent) (bytes : List ℕ) (o : Option Outlet) (all : List Sent) → (b ≡ false → more ≡ []) → (t ≡ Drains → more ≡ []) → EndsWith o all → EndsWith (cond b (turned t more bytes o) o) (all ++ more)
grown false t more bytes o all refused drained ends = still o all more (refused refl) ends
grown true (Opens holder) more bytes o all refused drained ends = (all, refl)
grown true Shuts more bytes o all refused drained ends = tt
grown true Drains more bytes None all refused drained ends = tt
grown true Drains more bytes (Some x) all refused drained ends = still (Some x) all more (drained refl) ends
grown true Stays more bytes None all refused drained ends = tt
grown true Stays more bytes (Some x) all refused drained ends = (ends.0, ap (λ (ms : List Sent). ms ++ more) ends.1 ∙ append_assoc ends.0 x.put more)

module _ (n : NetworkParts) (i : ℕ) where
  opens_no : {X : Type 0} (holder : ℕ) → Opens holder ≡ Drains → X
  opens_no holder e = cc

  shuts_no : {X : Type 0} → Shuts ≡ Drains → X
  shuts_no e = cc

  stays_no : {X : Type 0} → Stays ≡ Drains → X
  stays_no e = cc

  not_here : {X : Type 0} (b : Bool) (t : ConnectionChange) → (t ≡ Drains → X) → cond b t Stays ≡ Drains → X
  not_here true t so is = so is
  not_here false t so is = stays_no is

  either : (b : Bool) (h k : Happened) → messages_for i h.deeds ≡ [] → messages_for i k.deeds ≡ [] → messages_for i (cond b h k).deeds ≡ []
  either true h k x y = x
  either false h k x y = y

  drain_says : (j holder : ℕ) (s : Plant) (o : Option Connection) → messages_for i (events.drain_open Pin Segment wire n open_of j holder s o).deeds ≡ []
  drain_says j holder s None = refl
  drain_says j holder s (Some x) = either (x.holder == holder) _ _ refl refl

  -- a drain says nothing
  drains_quiet : (s : Plant) (e : Event) (h : Happened) → Steps wire n s e h → turn_for i e ≡ Drains → messages_for i h.deeds ≡ []
  drains_quiet s (event.Drain j holder) h (inl is) turn = ap (λ (g : Happened). messages_for i g.deeds) is ∙ drain_says j holder s (s.accesses j).connection
  drains_quiet s (event.Drain j holder) h (inr none) turn = ap (λ (g : Happened). messages_for i g.deeds) none.1
  drains_quiet s (event.Open j holder) h steps turn = not_here (j == i) (Opens holder) (opens_no holder) turn
  drains_quiet s (event.Shut j) h steps turn = not_here (j == i) Shuts shuts_no turn
  drains_quiet s (event.Load d g) h steps turn = stays_no turn
  drains_quiet s (event.Feed j bytes) h steps turn = stays_no turn
  drains_quiet s (event.Take j) h steps turn = stays_no turn
  drains_quiet s (event.Carry a b) h steps turn = stays_no turn
  drains_quiet s (event.Break a b) h steps turn = stays_no turn
  drains_quiet s (event.Solve d k) h steps turn = stays_no turn
  drains_quiet s (event.Tick t) h steps turn = stays_no turn

  put_last : (es : List Entry) (s : Plant) → Run wire n es s → EndsWith (outlet i es) (messages_for i (deeds_of wire n es))
  put_last [] s run = tt
  put_last (e ∷ older) s run =
      let h : Happened = record { answer = e.answer; state = s; deeds = e.deeds } in
      let before : List Sent = messages_for i (deeds_of wire n older) in
      subst (EndsWith (outlet i (e ∷ older))) (sym (messages_on i e.deeds (deeds_of wire n older)))
      (grown (is_accepted e.answer) (turn_for i e.event) (messages_for i e.deeds) (handed_in e.answer) (outlet i older) before
      (λ no. ap (λ (ds : List PlantDeed). messages_for i ds) (refused_same wire n run.0 e.event h run.3 no).deeds)
      (drains_quiet run.0 e.event h run.3)
      (put_last older run.0 run.1))

pub put_is_said_blindly : PutIsSaidBlindly
put_is_said_blindly n es t run i closed bytes put =
    let at = run_at wire n put.later put.moment t (subst (λ (l : List Entry). Run wire n l t) put.is run) in
    let x : Outlet = put.connection in
    let ds : List PlantDeed = deeds_of wire n put.moment in
    let last : EndsWith (Some x) (messages_for i ds) = subst (λ (o : Option Outlet). EndsWith o (messages_for i ds)) put.is_open (put_last n i put.moment at.0 at.1) in
    λ (trace : List BlindEvent) (s : Plant) (disclosed : DisclosedRun wire n put.moment trace s).
    let blind = says_as_blind wire n put.moment trace s disclosed in
    record {
      said = heard wire n ds;
      left = blind.0;
      says = blind.1;
      before = map text last.0;
      ends = of_deeds n i closed ds ∙ ap (λ (ms : List Sent). map text ms) last.1 ∙ map-append text last.0 x.put;
    }
