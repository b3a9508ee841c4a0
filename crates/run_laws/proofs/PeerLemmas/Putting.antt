-- What was put for a peer was sent in the deeds of the run.
use Rattle.std.proofs.Common.{◌≡◌, ℕ, Bool, true, false, cond, List, [], ◌∷◌, ◌++◌, Option, Some, None, subst, inl, inr}
use Rattle.std.specs.Prelude.{Contains}
use Rattle.std.proofs.lemmas.List.Elements.{Contains-append_cases}
use Rattle.border_costs.proofs.Members.{contains_cases, contains_none}
use Rattle.plant_laws.specs.plant_model.Types.{Message, NetworkParts, Outside}
use Rattle.request_table.specs.Pending.{same_peer}
use Rattle.plant_laws.specs.plant_model.declared.output.Output.{Output}
use Rattle.plant_laws.specs.plant_model.Wire.{Bytes, Codec}
use Rattle.plant_laws.specs.plant_model.Blind.{is_accepted}
use Rattle.plant_laws.specs.plant_model.State.{Clears, Downs, Expires, Hands, Loads, Pops, Says, Solves, Takes, Ups}
use Rattle.plant_laws.specs.plant_model.Plant.{Entry, deeds_of}
use Rattle.plant_laws.specs.Sending.{AllSent, AreAll}
use Rattle.plant_laws.specs.Transcript.{Transcript}
use Rattle.run_laws.specs.Outlets.{Drains, Opens, Outlet, Shuts, Stays, ConnectionChange, handed_in, messages_for, outlet, outputs_of, put_for, turn_for, turned}

module _ (i : ℕ) (Q : Message → Type 0) where
  -- each message that a deed of these puts for the peer
  abbrev pub AllPut : Transcript → Type 0
  AllPut [] = Unit {0}
  AllPut (d ∷ ds) = ((m : Message) → Contains (put_for i (outputs_of d)) m → Q m) × AllPut ds

  pub in_deeds : (ds : Transcript) → AllPut ds → (m : Message) → Contains (messages_for i ds) m → Q m
  in_deeds [] all m h = absurd (contains_none m h)
  in_deeds (d ∷ ds) all m h = elim (Contains-append_cases (messages_for i ds) (put_for i (outputs_of d)) m h) [ inl old ↦ in_deeds ds all.1 m old | inr new ↦ all.0 m new ]

  front : (xs ys : Transcript) → AllPut (xs ++ ys) → AllPut xs
  front [] ys all = tt
  front (x ∷ xs) ys all = (all.0, front xs ys all.1)

  behind : (xs ys : Transcript) → AllPut (xs ++ ys) → AllPut ys
  behind [] ys all = all
  behind (x ∷ xs) ys all = behind xs ys all.1

  -- of a connection of the transcript
  abbrev pub HasPut : Option Outlet → Type 0
  HasPut None = Unit {0}
  HasPut (Some x) = (m : Message) → Contains x.put m → Q m

  turned_puts : (t : ConnectionChange) (ms : List Message) (bytes : Bytes) (o : Option Outlet) → ((m : Message) → Contains ms m → Q m) → HasPut o → HasPut (turned t ms bytes o)
  turned_puts (Opens holder) ms bytes o new old = new
  turned_puts Shuts ms bytes o new old = tt
  turned_puts Drains ms bytes None new old = tt
  turned_puts Drains ms bytes (Some x) new old = old
  turned_puts Stays ms bytes None new old = tt
  turned_puts Stays ms bytes (Some x) new old = λ m h. elim (Contains-append_cases x.put ms m h) [ inl before ↦ old m before | inr more ↦ new m more ]

  pick : (b : Bool) (o o' : Option Outlet) → HasPut o → HasPut o' → HasPut (cond b o o')
  pick true o o' h h' = h
  pick false o o' h h' = h'

  pub outlet_puts : (c : Codec) (n : NetworkParts) (es : List Entry) → AllPut (deeds_of c n es) → HasPut (outlet i es)
  outlet_puts c n [] all = tt
  outlet_puts c n (e ∷ older) all =
      let old = outlet_puts c n older (behind e.deeds (deeds_of c n older) all) in
      pick (is_accepted e.answer) _ _
      (turned_puts (turn_for i e.event) (messages_for i e.deeds) (handed_in e.answer) (outlet i older) (in_deeds e.deeds (front e.deeds (deeds_of c n older) all)) old) old

  pub put_is : (c : Codec) (n : NetworkParts) (es : List Entry) → AllPut (deeds_of c n es) → (x : Outlet) → outlet i es ≡ Some x → (m : Message) → Contains x.put m → Q m
  put_is c n es all x is = subst HasPut is (outlet_puts c n es all)

  -- what is so of all that is sent
  of_first : (b : Bool) (first : Message) (others : List Message) → Q first → ((m : Message) → Contains others m → Q m) → (m : Message) → Contains (cond b (first ∷ others) others) m → Q m
  of_first true first others q more m h = elim (contains_cases first others m h) [ inl same ↦ subst Q same q | inr later ↦ more m later ]
  of_first false first others q more m h = more m h

  of_outputs : (os : List Output) → AreAll Q os → (m : Message) → Contains (put_for i os) m → Q m
  of_outputs [] all m h = absurd (contains_none m h)
  of_outputs (o ∷ os) all m h = of_first (same_peer o.to (Outside i)) o.message (put_for i os) all.0 (λ m' h'. of_outputs os all.1 m' h') m h

  nothing : (m : Message) → Contains (put_for i []) m → Q m
  nothing m h = absurd (contains_none m h)

  pub of_sent : (ds : Transcript) → AllSent Q ds → AllPut ds
  of_sent [] all = tt
  of_sent (Takes at p m os ∷ ds) all = (of_outputs os all.0, of_sent ds all.1)
  of_sent (Says at o ∷ ds) all = (of_outputs (o ∷ []) all.0, of_sent ds all.1)
  of_sent (Downs at p os ∷ ds) all = (of_outputs os all.0, of_sent ds all.1)
  of_sent (Solves at k os keys ∷ ds) all = (of_outputs os all.0, of_sent ds all.1)
  of_sent (Loads at g ∷ ds) all = (nothing, of_sent ds all.1)
  of_sent (Pops a b ∷ ds) all = (nothing, of_sent ds all.1)
  of_sent (Ups at p ∷ ds) all = (nothing, of_sent ds all.1)
  of_sent (Clears a b ∷ ds) all = (nothing, of_sent ds all.1)
  of_sent (Expires now ∷ ds) all = (nothing, of_sent ds all.1)
  of_sent (Hands j bytes ∷ ds) all = (nothing, of_sent ds all.1)
