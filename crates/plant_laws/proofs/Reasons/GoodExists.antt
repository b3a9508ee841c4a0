-- There are good requests: the run of the sample obeys all that the law asks for.
use Rattle.std.proofs.Common.{◌≡◌, ◌≢◌, ◌≤◌, ◌+◌, ℕ, suc, Bool, true, false, cond, ◌==◌, nat_eq, nat_lt, List, [], ◌∷◌, length, Option, Some, None, is_some, sym, ◌∙◌, ap, subst, inl, inr, refl, arith, eqb-true, ltb-true}
use Rattle.std.specs.Prelude.{AllPairs, Contains}
use Rattle.std.specs.Map.{lookup}
use Rattle.std.proofs.lemmas.Bool.{cases_Bool}
use Rattle.std.proofs.lemmas.List.Elements.{All-nil, All-cons}
use Rattle.dom_base.specs.AddrOrder.{rank}
use Rattle.dom_base.specs.Parts.{parts_from}
use Rattle.plant_model.specs.Types.{As, Addr, Peer, Outside, Inner, ParentLink, Message, ElementRow, PeerRow}
use Rattle.dom_base.specs.declared.addr.Addr.TheVariants.{V4, V6}
use Rattle.pcep_objects.specs.Bodies.{body_of}
use Rattle.pcep_messages.specs.Refusals.{is_bound, is_minimised}
use Rattle.pcep_messages.specs.declared.message.Message.TheVariants as messages
use Rattle.request_table.specs.Pending.{same_peer}
use Rattle.plant_text.specs.Names.{same_as, parent_as}
use Rattle.plant_text.specs.Settings.{is_element}
use Rattle.plant_model.specs.declared.output.Output.{Output}
use Rattle.plant_model.specs.RealWire.{wire}
use Rattle.plant_model.proofs.WireLaws.{wire_is_codec}
use Rattle.plant_model.specs.Laws.{IsElement, IsParentLink, IsNetwork, LeadApart, LeadsOut}
use Rattle.plant_model.specs.Samples.{As_}
use Rattle.plant_model.specs.SampleRuns.{element}
use Rattle.plant_model.specs.State.{Connection, Loads, Pops, Takes, Says, Ups, Downs, Clears, Solves, Expires, Hands}
use Rattle.plant_model.specs.Wire.{Bytes}
use Rattle.plant_model.specs.Element.{Row}
use Rattle.plant_model.specs.Parent.{AskingRow}
use Rattle.plant_model.specs.Events.{is_ready, is_ready_row, is_ready_asking}
use Rattle.plant_model.specs.Plant.{Pin, PlantDeed}
use Rattle.plant_laws.specs.About.{IsShort}
use Rattle.plant_laws.specs.Chains.{IsQuiet, HasEmptyInbox}
use Rattle.plant_laws.specs.Good.{HasGoodRequest}
use Rattle.plant_laws.specs.Pending.{IsTaken}
use Rattle.plant_laws.specs.Standing.{texts, messages as messages_in}
use Rattle.plant_laws.specs.Tables.{AreTables}
use Rattle.plant_laws.specs.Transcript.{Transcript, Within, Delivered, Standing, standing, standing_of, left_of, asks, count_asks, put_into, outputs_at}
use Rattle.plant_laws.proofs.Reasons.GoodInboxes.{last_none}
use Rattle.plant_laws.proofs.Reasons.GoodRun.{two, begun, first, second, third, fourth, last}
use Rattle.plant_laws.proofs.Reasons.GoodSample.{any, never, is_ask, now, whole, now_is, rows_one, rows_two, at_first, at_second, is_good, first_within, is_open, goes_further}
use Rattle.plant_laws.proofs.Runs.Lists.{Stands, first_in, all_of, pairs_of}
use Rattle.plant_laws.proofs.Runs.Moments.{opened_within}
use Rattle.plant_laws.proofs.Once.OpenTables.{open_is_pending}
use Rattle.plant_laws.proofs.Runs.Queues.{same_as_is, queues_stand}
use Rattle.plant_laws.proofs.WrittenForm.ReadBack.{in_left, in_standing_of}
use Rattle.plant_laws.proofs.Runs.Rows.{In, in_append}
use Rattle.plant_laws.proofs.Numbering.SentOn.{same_peer_is}

-- ---- the network obeys the rules

abbrev addr_number : Addr → ℕ
addr_number (V4 n) = n
addr_number (V6 n) = n

abbrev one : ElementRow
one = element 1 false

abbrev other : ElementRow
other = element 2 false

is_element_of : (k : ℕ) → 1 ≤ k → k ≤ 2 → IsElement (element k false)
is_element_of k some few = record { real = some; own = omega (arith, few); id = omega (arith, few); life = omega arith; life_most = omega arith }

apart : (one.own ≢ other.own) × (one.id ≢ other.id)
apart = (λ same. (let clash : 1 ≡ 2 = ap (λ (z : As). z.0) same in omega (arith, clash)), λ same. (let clash : 201 ≡ 202 = ap addr_number same in omega (arith, clash)))

elements_differ : AllPairs (λ (a b : ElementRow). (a.own ≢ b.own) × (a.id ≢ b.id)) two.elements
elements_differ =
    pairs_of (λ (a b : ElementRow). (a.own ≢ b.own) × (a.id ≢ b.id)) (one ∷ other ∷ []) (first_apart, ((λ y none. absurd none), tt))
  where
    first_apart : (y : ElementRow) → Stands y (other ∷ []) → (one.own ≢ y.own) × (one.id ≢ y.id)
    first_apart y (inl is) = subst (λ (z : ElementRow). (one.own ≢ z.own) × (one.id ≢ z.id)) (sym is) apart
    first_apart y (inr none) = absurd none

abbrev HasParent : ElementRow → Type 0
HasParent a = a.parent ≡ true → is_some two.parent ≡ true

abbrev Joins : As × As → Type 0
Joins p = (is_element two p.0 ≡ true) × (is_element two p.1 ≡ true) × (p.0 ≢ p.1)

abbrev Apart : As × As → As × As → Type 0
Apart p q = ((p.0 ≡ q.0) × (p.1 ≡ q.1) → ⊥) × ((p.0 ≡ q.1) × (p.1 ≡ q.0) → ⊥)

obeys : IsNetwork two
obeys = record {
  elements_differ = elements_differ;
  elements = All-cons IsElement one (other ∷ []) (is_element_of 1 (omega arith) (omega arith)) (All-cons IsElement other [] (is_element_of 2 (omega arith) (omega arith)) (All-nil IsElement));
  few = omega arith;
  has_parent = All-cons HasParent one (other ∷ []) (λ up. (let clash : false ≡ true = up in cc)) (All-cons HasParent other [] (λ up. (let clash : false ≡ true = up in cc)) (All-nil HasParent));
  links = All-cons Joins (As_ 1, As_ 2) [] (refl, refl, λ same. (let clash : 1 ≡ 2 = ap (λ (z : As). z.0) same in omega (arith, clash))) (All-nil Joins);
  links_differ = pairs_of Apart ((As_ 1, As_ 2) ∷ []) ((λ y none. absurd none), tt);
  peers = all_of (λ (r : PeerRow). is_element two r.at ≡ true) two.peers at_first_one;
  downs = all_of (LeadsOut two) two.peers (λ r there down. (let clash : true ≡ false = sym down ∙ not_down r there in cc));
  downs_differ = pairs_of LeadApart two.peers ((λ y none. absurd none), tt);
  few_parent_links = omega arith;
  parent_links = All-nil IsParentLink;
  parent_links_differ = pairs_of (λ (l m : ParentLink). (l.link.far ≢ m.link.far) × (l.link.near ≢ m.link.near)) [] tt;
}
  where
    at_first_one : (r : PeerRow) → Stands r two.peers → is_element two r.at ≡ true
    at_first_one r (inl is) = ap (λ (z : PeerRow). is_element two z.at) is
    at_first_one r (inr none) = absurd none

    not_down : (r : PeerRow) → Stands r two.peers → r.down ≡ false
    not_down r (inl is) = ap (λ (z : PeerRow). z.down) is
    not_down r (inr none) = absurd none

-- ---- few requests were sent

abbrev outs : PlantDeed → List Output
outs (Takes at p m os) = os
outs (Says at o) = o ∷ []
outs (Downs at p os) = os
outs (Solves at k os keys) = os
outs e = []

abbrev count : Transcript → ℕ
count [] = 0
count (e ∷ older) = count older + length (outs e)

one_more : (m : Message) (ms : List Message) → count_asks (m ∷ ms) ≤ 1 + count_asks ms
one_more (messages.PcReq xs) ms = omega arith
one_more (messages.PcRep xs) ms = omega arith
one_more (messages.PcNtf xs) ms = omega arith
one_more (messages.PcErr xs) ms = omega arith
one_more (messages.Open x) ms = omega arith
one_more messages.Keepalive ms = omega arith
one_more (messages.Close x) ms = omega arith
one_more (messages.Other x) ms = omega arith

put_few : (b : As) (os : List Output) → count_asks (put_into b os) ≤ length os
put_few b [] = omega arith
put_few b (o ∷ os) = go (same_peer o.to (Inner b)) (put_few b os) (one_more o.message (put_into b os))
  where
    go : (t : Bool) → count_asks (put_into b os) ≤ length os → count_asks (o.message ∷ put_into b os) ≤ 1 + count_asks (put_into b os) → count_asks (cond t (o.message ∷ put_into b os) (put_into b os)) ≤ suc (length os)
    go true few more = omega (arith, few, more)
    go false few more = omega (arith, few)

put_at : (b : As) (t : Bool) (os : List Output) → count_asks (put_into b (cond t os [])) ≤ length os
put_at b true os = put_few b os
put_at b false os = omega arith

deed_few : (a b : As) (e : PlantDeed) → count_asks (put_into b (outputs_at a e)) ≤ length (outs e)
deed_few a b (Takes at p m os) = put_at b (same_as at a) os
deed_few a b (Says at o) = put_at b (same_as at a) (o ∷ [])
deed_few a b (Downs at p os) = put_at b (same_as at a) os
deed_few a b (Solves at k os keys) = put_at b (same_as at a) os
deed_few a b _ = omega arith

asks_few : (a b : As) (ds : Transcript) → asks a b ds ≤ count ds
asks_few a b [] = omega arith
asks_few a b (e ∷ ds) = omega (arith, asks_few a b ds, deed_few a b e)

counted : nat_lt (count whole) 100 ≡ true
unfolding begun rank parts_from body_of is_bound is_minimised
counted = refl

short : IsShort now
short a b = (let few = asks_few a b now in let same : count now ≡ count whole = ap count now_is in let less = ltb-true (count whole) 100 counted in omega (arith, few, same, less))

-- ---- it ended quiet

abbrev inbox_at : Option Connection → List (Option Bytes)
inbox_at None = []
inbox_at (Some x) = x.inbox

empty_of : (o : Option Connection) → inbox_at o ≡ [] → HasEmptyInbox o
empty_of None is = tt
empty_of (Some x) is = is

inbox_zero : inbox_at (last.state.accesses 0).connection ≡ []
unfolding last fourth third second first begun rank parts_from body_of is_bound is_minimised
inbox_zero = refl {a = []}

inbox_of : (i : ℕ) → inbox_at (last.state.accesses i).connection ≡ []
inbox_of i = elim (cases_Bool (0 == i)) [
  | inl hit ↦ subst (λ (j : ℕ). inbox_at (last.state.accesses j).connection ≡ []) (eqb-true 0 i hit) inbox_zero
  | inr miss ↦ ap inbox_at (last_none i miss)
]

rows_above : last.state.parent.pending.rows ≡ []
unfolding last fourth third second first begun rank parts_from body_of is_bound is_minimised
rows_above = refl {a = []}

-- a request is pending only where one was taken
abbrev elsewhere : PlantDeed → Bool
elsewhere (Takes at p m os) = cond (is_ask m) (cond (same_as (As_ 1) at) false (cond (same_as (As_ 2) at) false true)) false
elsewhere e = false

none_elsewhere : any elsewhere whole ≡ false
unfolding begun rank parts_from body_of is_bound is_minimised
none_elsewhere = refl

tables : AreTables wire two last.entries last.state
tables = open_is_pending wire wire_is_codec two obeys last.entries last.state last.run

rows_other : (d : As) → same_as (As_ 1) d ≡ false → same_as (As_ 2) d ≡ false → (rows : List (Row Pin)) → (last.state.elements d).pending.rows ≡ rows → rows ≡ []
rows_other d not_one not_two [] is = refl
rows_other d not_one not_two (h ∷ hs) is = delivered taken.at (opened_within wire d h.1.key.peer h.1.key.id now taken.at taken.is_open) taken.delivered
  where
    taken : IsTaken wire two now d h
    taken = tables.taken d h (subst (λ (l : List (Row Pin)). Contains l h) (sym is) (first_in h hs))

    delivered : {X : Type 0} (at : Transcript) → Within at now → Delivered wire at d h.1.key.peer taken.request → X
    delivered [] within none = absurd none
    delivered (e ∷ older) within one' =
        never elsewhere whole none_elsewhere e older (ap elsewhere one'.2 ∙ at_other) (subst (λ (l : Transcript). Within (e ∷ older) l) now_is within)
      where
        at_other : cond (same_as (As_ 1) d) false (cond (same_as (As_ 2) d) false true) ≡ true
        at_other = rw (not_one, not_two) refl

rows_of : (d : As) → (last.state.elements d).pending.rows ≡ []
rows_of d = elim (cases_Bool (same_as (As_ 1) d)) [
  | inl hit ↦ subst (λ (z : As). (last.state.elements z).pending.rows ≡ []) (same_as_is (As_ 1) d hit) rows_one
  | inr miss ↦ elim (cases_Bool (same_as (As_ 2) d)) [
    | inl hit' ↦ subst (λ (z : As). (last.state.elements z).pending.rows ≡ []) (same_as_is (As_ 2) d hit') rows_two
    | inr miss' ↦ rows_other d miss miss' (last.state.elements d).pending.rows refl
  ]
]

-- a message stands in a queue only where one was put
abbrev is_pair : As → As → Bool
is_pair a b = cond (same_as (As_ 1) a) (same_as (As_ 2) b) (cond (same_as (As_ 2) a) (same_as (As_ 1) b) false)

abbrev strays : As → Peer → Bool
strays a (Outside i) = false
strays a (Inner b) = cond (is_pair a b) false true

abbrev stray : As → List Output → Bool
stray a [] = false
stray a (o ∷ os) = cond (strays a o.to) true (stray a os)

abbrev astray : PlantDeed → Bool
astray (Takes at p m os) = stray at os
astray (Says at o) = stray at (o ∷ [])
astray (Downs at p os) = stray at os
astray (Solves at k os keys) = stray at os
astray e = false

none_astray : any astray whole ≡ false
unfolding begun rank parts_from body_of is_bound is_minimised
none_astray = refl

put_to : (a b : As) (os : List Output) (m : Message) → is_pair a b ≡ false → In m (put_into b os) → stray a os ≡ true
put_to a b [] m strange none = absurd none
put_to a b (o ∷ os) m strange i = go (same_peer o.to (Inner b)) refl i (put_to a b os m strange)
  where
    both : (t : Bool) → t ≡ true → cond t true (stray a os) ≡ true
    both true is = refl
    both false is = absurd (let clash : false ≡ true = is in cc)

    more : (t : Bool) → stray a os ≡ true → cond t true (stray a os) ≡ true
    more true is = refl
    more false is = is

    go : (t : Bool) → same_peer o.to (Inner b) ≡ t → In m (cond t (o.message ∷ put_into b os) (put_into b os)) → (In m (put_into b os) → stray a os ≡ true) → stray a (o ∷ os) ≡ true
    go true is i' rest = both (strays a o.to) (ap (strays a) (same_peer_is o.to (Inner b) is) ∙ ap (λ (t : Bool). cond t false true) strange)
    go false is i' rest = more (strays a o.to) (rest i')

at_it : (a b at : As) (os : List Output) (m : Message) → is_pair a b ≡ false → In m (put_into b (cond (same_as at a) os [])) → stray at os ≡ true
at_it a b at os m strange i = go (same_as at a) refl i
  where
    go : (t : Bool) → same_as at a ≡ t → In m (put_into b (cond t os [])) → stray at os ≡ true
    go true is i' = subst (λ (z : As). stray z os ≡ true) (sym (same_as_is at a is)) (put_to a b os m strange i')
    go false is i' = absurd i'

put_by : (a b : As) (e : PlantDeed) (m : Message) → is_pair a b ≡ false → In m (put_into b (outputs_at a e)) → astray e ≡ true
put_by a b (Takes at p x os) m strange i = at_it a b at os m strange i
put_by a b (Says at o) m strange i = at_it a b at (o ∷ []) m strange i
put_by a b (Downs at p os) m strange i = at_it a b at os m strange i
put_by a b (Solves at k os keys) m strange i = at_it a b at os m strange i
put_by a b _ m strange i = absurd i

stood_by : (a b : As) (ds : Transcript) (x : Standing) → is_pair a b ≡ false → In x (standing a b ds) → any astray ds ≡ true
stood_by a b [] x strange none = absurd none
stood_by a b (e ∷ ds) x strange i = elim (in_append x (left_of e a b (standing a b ds)) (standing_of (e ∷ ds) (put_into b (outputs_at a e))) i) [
  | inl old ↦ later (astray e) (stood_by a b ds x strange (in_left e a b x (standing a b ds) old))
  | inr new ↦ now_one (astray e) (put_by a b e x.message strange (in_standing_of (e ∷ ds) x (put_into b (outputs_at a e)) new).1)
]
  where
    later : (t : Bool) → any astray ds ≡ true → cond t true (any astray ds) ≡ true
    later true is = refl
    later false is = is

    now_one : (t : Bool) → t ≡ true → cond t true (any astray ds) ≡ true
    now_one true is = refl
    now_one false is = absurd (let clash : false ≡ true = is in cc)

queue_along : last.state.queues (As_ 1) (As_ 2) ≡ []
unfolding last fourth third second first begun rank parts_from body_of is_bound is_minimised
queue_along = refl {a = []}

queue_back : last.state.queues (As_ 2) (As_ 1) ≡ []
unfolding last fourth third second first begun rank parts_from body_of is_bound is_minimised
queue_back = refl {a = []}

nothing_stands : (a b : As) → is_pair a b ≡ false → (l : List Standing) → standing a b now ≡ l → l ≡ []
nothing_stands a b strange [] is = refl
nothing_stands a b strange (x ∷ xs) is =
    absurd (let clash : false ≡ true = sym none_astray ∙ ap (any astray) (sym now_is) ∙ stood_by a b now x strange (subst (λ (l : List Standing). In x l) (sym is) (inl refl)) in cc)

queue_of : (a b : As) → last.state.queues a b ≡ []
queue_of a b = go (same_as (As_ 1) a) refl (same_as (As_ 2) a) refl (same_as (As_ 1) b) refl (same_as (As_ 2) b) refl
  where
    none : is_pair a b ≡ false → last.state.queues a b ≡ []
    none strange = queues_stand wire two last.entries last.state last.run a b ∙ ap (λ (l : List Standing). texts wire (messages_in l)) (nothing_stands a b strange (standing a b now) refl)

    go : (t : Bool) → same_as (As_ 1) a ≡ t → (u : Bool) → same_as (As_ 2) a ≡ u → (v : Bool) → same_as (As_ 1) b ≡ v → (w : Bool) → same_as (As_ 2) b ≡ w → last.state.queues a b ≡ []
    go true a1 u a2 v b1 true b2 = subst (λ (z : As). last.state.queues z b ≡ []) (same_as_is (As_ 1) a a1) (subst (λ (z : As). last.state.queues (As_ 1) z ≡ []) (same_as_is (As_ 2) b b2) queue_along)
    go true a1 u a2 v b1 false b2 = none (rw (a1, b2) refl)
    go false a1 true a2 true b1 w b2 = subst (λ (z : As). last.state.queues z b ≡ []) (same_as_is (As_ 2) a a2) (subst (λ (z : As). last.state.queues (As_ 2) z ≡ []) (same_as_is (As_ 1) b b1) queue_back)
    go false a1 true a2 false b1 w b2 = none (rw (a1, a2, b1) refl)
    go false a1 false a2 v b1 w b2 = none (rw (a1, a2) refl)

jobs_of : (d : As) (k : ℕ) → is_ready d k last.state ≡ false
jobs_of d k = go (same_as d parent_as)
  where
    go : (t : Bool) → cond t (is_ready_asking (lookup (nat_eq k) last.state.parent.pending.rows)) (is_ready_row (lookup (nat_eq k) (last.state.elements d).pending.rows)) ≡ false
    go true = ap (λ (rows : List AskingRow). is_ready_asking (lookup (nat_eq k) rows)) rows_above
    go false = ap (λ (rows : List (Row Pin)). is_ready_row (lookup (nat_eq k) rows)) (rows_of d)

quiet : IsQuiet last.state
quiet = record { inboxes = λ i. empty_of (last.state.accesses i).connection (inbox_of i); queues = queue_of; jobs = jobs_of }

pub good_requests_exist : HasGoodRequest
good_requests_exist = record {
  n = two;
  obeys = obeys;
  this = last;
  short = short;
  quiet = quiet;
  d = As_ 1;
  real = λ same. (let clash : 1 ≡ 0 = ap (λ (z : As). z.0) same in omega (arith, clash));
  i = 0;
  x = 7;
  at = at_first;
  within = first_within;
  is_open = is_open;
  good = is_good;
  b = As_ 2;
  y = 1;
  taken = at_second;
  further = goes_further;
}
