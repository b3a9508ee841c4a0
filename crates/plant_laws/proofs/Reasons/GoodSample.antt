-- A good request in a run: what the law of good requests asks for holds together.
use Rattle.std.proofs.Common.{◌≡◌, ◌≤◌, ℕ, Bool, true, false, cond, List, [], ◌∷◌, ◌++◌, length, Some, sym, ◌∙◌, ap, subst, inl, inr, refl, arith}
use Rattle.std.specs.Prelude.{◌⊎◌, Contains}
use Rattle.dom_base.specs.AddrOrder.{rank}
use Rattle.dom_base.specs.Parts.{parts_from}
use Rattle.plant_model.specs.Types.{As, Peer, Outside, Inner, Asked, Message, Notice, Request, Wanted, Wish, NetworkParts}
use Rattle.dom_base.specs.declared.addr.Addr.TheVariants.{V4}
use Rattle.pcep_objects.specs.Bodies.{body_of}
use Rattle.pcep_messages.specs.Refusals.{is_bound, is_minimised}
use Rattle.pcep_messages.specs.declared.message.Message.TheVariants as messages
use Rattle.pcep_messages.specs.declared.message.Wish.TheVariants as wishes
use Rattle.request_table.specs.Pending.{Pending, IsFull}
use Rattle.plant_text.specs.Names.{parent_as}
use Rattle.plant_model.specs.declared.output.Output.{Output}
use Rattle.plant_model.specs.RealWire.{wire}
use Rattle.plant_model.specs.Wire.{Codec, Checked, Admitted}
use Rattle.plant_model.specs.Writing.{vspt_flag}
use Rattle.plant_model.specs.Element.{Item, Row, way_to}
use Rattle.plant_model.specs.Routes.{toward}
use Rattle.plant_model.specs.Parent.{is_up}
use Rattle.plant_model.specs.Samples.{As_}
use Rattle.plant_model.specs.Settings.{place}
use Rattle.plant_model.specs.State.{Pops, Takes, Downs, Solves}
use Rattle.plant_model.specs.Plant.{Pin, Plant, PlantDeed, Entry, Run, deeds_of}
use Rattle.plant_laws.specs.Answered.{DropsFor, cancelled, went_down}
use Rattle.plant_laws.specs.Broken.{IsStopped}
use Rattle.plant_laws.specs.Full.{IsCrowded, LacksKeys}
use Rattle.plant_laws.specs.Good.{IsOnWay, first as begins_way, next, GoesWell, IsGood}
use Rattle.plant_laws.specs.MessageCauses.{GoesTo, upward, along}
use Rattle.plant_laws.specs.Met.{Meets, TakesPathRequest}
use Rattle.plant_laws.specs.Solves.{TellsClosed, branches, no_branch, lacks_keys}
use Rattle.plant_laws.specs.Transcript.{Transcript, Within, standing, opened, Handed}
use Rattle.plant_laws.proofs.Reasons.GoodRun.{two, begun, wanted_first, asked_first, sent_on, takes_first, first, asked_second, wanted_second, takes_second, second, answers_second, third, hears_first, fourth, answers_first, last}
use Rattle.plant_laws.proofs.Runs.Lists.{one_of, first_in}
use Rattle.plant_laws.proofs.Runs.Rows as table
use Rattle.plant_laws.proofs.Reasons.MomentCauses.{head_of}

-- ---- the transcript

abbrev base : Transcript
base = deeds_of wire two begun.entries

abbrev pub now : Transcript
now = deeds_of wire two last.entries

abbrev first_deed : PlantDeed
first_deed = Takes (As_ 1) (Outside 0) (messages.PcReq (asked_first ∷ [])) (sent_on ∷ [])

abbrev second_deed : PlantDeed
second_deed = Takes (As_ 2) (Inner (As_ 1)) (messages.PcReq (asked_second ∷ [])) []

-- the moments in which the two took the request
abbrev pub at_first : Transcript
at_first = first_deed ∷ base

abbrev pub at_second : Transcript
at_second = second_deed ∷ Pops (As_ 1) (As_ 2) ∷ at_first

abbrev pub whole : Transcript
whole = answers_first ++ hears_first ++ answers_second ++ at_second

pub now_is : now ≡ whole
unfolding last fourth third second first
now_is = refl

-- nothing is pending in the end
pub rows_one : (last.state.elements (As_ 1)).pending.rows ≡ []
unfolding last fourth third second first begun rank parts_from body_of is_bound is_minimised
rows_one = refl {a = []}

pub rows_two : (last.state.elements (As_ 2)).pending.rows ≡ []
unfolding last fourth third second first begun rank parts_from body_of is_bound is_minimised
rows_two = refl {a = []}

-- ---- tests of deeds

abbrev pub any : (PlantDeed → Bool) → Transcript → Bool
any test [] = false
any test (e ∷ es) = cond (test e) true (any test es)

found : (test : PlantDeed → Bool) (ds : Transcript) (e : PlantDeed) (older : Transcript) → Within (e ∷ older) ds → test e ≡ true → any test ds ≡ true
found test [] e older within is = absurd (let clash : e ∷ older ≡ [] = within in cc)
found test (x ∷ ds) e older (inl same) is =
    let heads : e ≡ x = cc in
    ap (λ (b : Bool). cond b true (any test ds)) (sym (ap test heads) ∙ is)
found test (x ∷ ds) e older (inr within) is = go (test x) (found test ds e older within is)
  where
    go : (b : Bool) → any test ds ≡ true → cond b true (any test ds) ≡ true
    go true more = refl
    go false more = more

pub never : {X : Type 0} (test : PlantDeed → Bool) (ds : Transcript) → any test ds ≡ false → (e : PlantDeed) (older : Transcript) → test e ≡ true → Within (e ∷ older) ds → X
never test ds none e older is within = absurd (let clash : false ≡ true = sym none ∙ found test ds e older within is in cc)

abbrev is_outside : Peer → Bool
is_outside (Outside i) = true
is_outside (Inner a) = false

abbrev pub is_ask : Message → Bool
is_ask (messages.PcReq asks) = true
is_ask m = false

abbrev is_note : Message → Bool
is_note (messages.PcNtf notices) = true
is_note m = false

abbrev asks_inside : PlantDeed → Bool
asks_inside (Takes at p m os) = cond (is_ask m) (cond (is_outside p) false true) false
asks_inside e = false

abbrev asks_outside : PlantDeed → Bool
asks_outside (Takes at p m os) = cond (is_ask m) (is_outside p) false
asks_outside e = false

abbrev falls : PlantDeed → Bool
falls (Downs at p os) = true
falls e = false

abbrev notes : PlantDeed → Bool
notes (Takes at p m os) = is_note m
notes e = false

abbrev says_note : List Output → Bool
says_note [] = false
says_note (o ∷ os) = is_note o.message

abbrev solves_note : PlantDeed → Bool
solves_note (Solves at k os keys) = says_note os
solves_note e = false

none_inside : any asks_inside base ≡ false
unfolding begun rank parts_from body_of is_bound is_minimised
none_inside = refl

none_outside : any asks_outside base ≡ false
unfolding begun rank parts_from body_of is_bound is_minimised
none_outside = refl

none_falls : any falls whole ≡ false
unfolding begun rank parts_from body_of is_bound is_minimised
none_falls = refl

none_notes : any notes whole ≡ false
unfolding begun rank parts_from body_of is_bound is_minimised
none_notes = refl

none_busy : any solves_note whole ≡ false
unfolding begun rank parts_from body_of is_bound is_minimised
none_busy = refl

no_fall : {X : Type 0} (at : As) (p : Peer) (os : List Output) (older : Transcript) → Within (Downs at p os ∷ older) now → X
no_fall at p os older within = never falls whole none_falls (Downs at p os) older refl (subst (λ (l : Transcript). Within (Downs at p os ∷ older) l) now_is within)

no_note : {X : Type 0} (at : As) (p : Peer) (notices : List Notice) (os : List Output) (older : Transcript) → Within (Takes at p (messages.PcNtf notices) os ∷ older) now → X
no_note at p notices os older within =
    never notes whole none_notes (Takes at p (messages.PcNtf notices) os) older refl (subst (λ (l : Transcript). Within (Takes at p (messages.PcNtf notices) os ∷ older) l) now_is within)

-- ---- the state that each of the two moments met

within_front : (deed : PlantDeed) (earlier ds rest : Transcript) → Within (deed ∷ earlier) ds → Within (deed ∷ (earlier ++ rest)) (ds ++ rest)
within_front deed earlier [] rest within = absurd (let clash : deed ∷ earlier ≡ [] = within in cc)
within_front deed earlier (x ∷ ds) rest (inl same) = inl (ap (λ (l : Transcript). l ++ rest) same)
within_front deed earlier (x ∷ ds) rest (inr within) = inr (within_front deed earlier ds rest within)

meets_within : (c : Codec) (n : NetworkParts) (es : List Entry) (s : Plant) (run : Run c n es s) (deed : PlantDeed) (older : Transcript) (before : Plant) → Meets c n es s run deed older before → Within (deed ∷ older) (deeds_of c n es)
meets_within c n [] s run deed older before meets = absurd meets
meets_within c n (e ∷ es) s run deed older before (inl one) =
    subst (λ (l : Transcript). Within (deed ∷ l) (e.deeds ++ deeds_of c n es)) (sym one.2) (within_front deed one.0 e.deeds (deeds_of c n es) one.1)
meets_within c n (e ∷ es) s run deed older before (inr more) = within_behind e.deeds (meets_within c n es run.0 run.1 deed older before more)
  where
    within_behind : (ds : Transcript) → Within (deed ∷ older) (deeds_of c n es) → Within (deed ∷ older) (ds ++ deeds_of c n es)
    within_behind [] within = within
    within_behind (x ∷ ds) within = inr (within_behind ds within)

abbrev MetBy : PlantDeed → Transcript → Plant → Type 0
MetBy deed older before = Meets wire two last.entries last.state last.run deed older before

met_first : (before : Plant) → MetBy first_deed base before → before ≡ begun.state
unfolding last fourth third second first
met_first before (inl one) = never asks_outside answers_first refl first_deed one.0 refl one.1
met_first before (inr (inl one)) = never asks_outside hears_first refl first_deed one.0 refl one.1
met_first before (inr (inr (inl one))) = never asks_outside answers_second refl first_deed one.0 refl one.1
met_first before (inr (inr (inr (inl one)))) = never asks_outside takes_second refl first_deed one.0 refl one.1
met_first before (inr (inr (inr (inr (inl one))))) = one.3
met_first before (inr (inr (inr (inr (inr early))))) = never asks_outside base none_outside first_deed base refl (meets_within wire two begun.entries begun.state begun.run first_deed base before early)

met_second : (before : Plant) → MetBy second_deed (Pops (As_ 1) (As_ 2) ∷ at_first) before → before ≡ first.state
unfolding last fourth third second first
met_second before (inl one) = never asks_inside answers_first refl second_deed one.0 refl one.1
met_second before (inr (inl one)) = never asks_inside hears_first refl second_deed one.0 refl one.1
met_second before (inr (inr (inl one))) = never asks_inside answers_second refl second_deed one.0 refl one.1
met_second before (inr (inr (inr (inl one)))) = one.3
met_second before (inr (inr (inr (inr (inl one))))) = never asks_inside takes_first refl second_deed one.0 refl one.1
met_second before (inr (inr (inr (inr (inr early))))) =
    never asks_inside base none_inside second_deed (Pops (As_ 1) (As_ 2) ∷ at_first) refl (meets_within wire two begun.entries begun.state begun.run second_deed (Pops (As_ 1) (As_ 2) ∷ at_first) before early)

up_first : is_up (way_to (Inner (As_ 2)) (begun.state.elements (As_ 1)).ways) ≡ true
unfolding begun rank parts_from body_of is_bound is_minimised
up_first = refl

abbrev empty : Pending (Item Pin)
empty = record { limit = 1024; given = 0; rows = [] }

empty_first : (begun.state.elements (As_ 1)).pending ≡ empty
unfolding begun rank parts_from body_of is_bound is_minimised
empty_first = refl

empty_second : (first.state.elements (As_ 2)).pending ≡ empty
unfolding first begun rank parts_from body_of is_bound is_minimised
empty_second = refl

has_room : IsFull empty → ⊥
has_room (inl many) = omega (arith, many)
has_room (inr given) = omega (arith, given)

-- ---- what the two took

abbrev first_asked : Asked → Message → Asked
first_asked a (messages.PcReq (x ∷ rest)) = x
first_asked a m = a

abbrev asked_in : Asked → PlantDeed → Asked
asked_in a (Takes at p m os) = first_asked a m
asked_in a e = a

abbrev request_in : Request → Checked → Request
request_in r (Admitted x) = x
request_in r o = r

abbrev wanted_in : Wanted → Wish → Wanted
wanted_in w (wishes.Path x) = x
wanted_in w o = w

admits_first : wire.check asked_first (As_ 1) ≡ Admitted (record { flags = vspt_flag; id = 7; wish = wishes.Path wanted_first })
unfolding rank parts_from body_of is_bound is_minimised
admits_first = refl

admits_second : wire.check asked_second (As_ 2) ≡ Admitted (record { flags = vspt_flag; id = 1; wish = wishes.Path wanted_second })
unfolding rank parts_from body_of is_bound is_minimised
admits_second = refl

-- what a request in this moment asks for
wanted_is : (d : As) (p : Peer) (x : ℕ) (deed : PlantDeed) (older : Transcript) (k : TakesPathRequest wire two last d p x deed older) (a : Asked) (os : List Output) (flags id : ℕ) (w : Wanted) →
    deed ≡ Takes d p (messages.PcReq (a ∷ [])) os → wire.check a d ≡ Admitted (record { flags = flags; id = id; wish = wishes.Path w }) → w ≡ k.wanted
wanted_is d p x deed older k a os flags id w is admits =
    let asked : a ≡ k.asked = ap (asked_in a) (sym is ∙ k.takes) in
    let request : record { flags = flags; id = id; wish = wishes.Path w } ≡ k.request = ap (request_in k.request) (sym admits ∙ ap (λ (z : Asked). wire.check z d) asked ∙ k.admitted) in
    ap (wanted_in w) (ap (λ (z : Request). z.wish) request ∙ k.for_path)

no_parent : {X : Type 0} (k : ℕ) → 1 ≤ k → As_ k ≡ parent_as → X
no_parent k some is = absurd (let zero : k ≡ 0 = ap (λ (z : As). z.0) is in omega (arith, some, zero))

leads_first : (next' : Peer) (rest : List As) (denied : Bool) → GoesTo two (As_ 1) (Outside 0) wanted_first next' rest denied → (next' ≡ Inner (As_ 2)) × (denied ≡ false)
leads_first next' rest denied (upward up n r d) = absurd (let clash : false ≡ true = up in cc)
leads_first next' rest denied (along own b more up is n r d) =
    let same : As_ 1 ∷ As_ 2 ∷ [] ≡ own ∷ b ∷ more = is in
    let to : As_ 2 ≡ b = cc in
    (n ∙ ap (λ (z : As). toward z (place two (As_ 1)).routes) (sym to), d)

leads_second : {X : Type 0} (next' : Peer) (rest : List As) (denied : Bool) → GoesTo two (As_ 2) (Inner (As_ 1)) wanted_second next' rest denied → X
leads_second next' rest denied (upward up n r d) = absurd (let clash : false ≡ true = up in cc)
leads_second next' rest denied (along own b more up is n r d) = absurd (let clash : As_ 2 ∷ [] ≡ own ∷ b ∷ more = is in cc)

-- the head and the rest of a moment
abbrev rest_of : Transcript → Transcript
rest_of [] = []
rest_of (e ∷ older) = older

module _ (deed : PlantDeed) (older : Transcript) (x : ℕ) where
  before_first : at_first ≡ deed ∷ older → (before : Plant) → MetBy deed older before → before ≡ begun.state
  before_first is before meets =
      met_first before (subst (λ (e : PlantDeed). MetBy e base before) (sym (ap (head_of first_deed) is)) (subst (λ (l : Transcript). MetBy deed l before) (sym (ap rest_of is)) meets))

  before_second : at_second ≡ deed ∷ older → (before : Plant) → MetBy deed older before → before ≡ first.state
  before_second is before meets =
      met_second before (subst (λ (e : PlantDeed). MetBy e (Pops (As_ 1) (As_ 2) ∷ at_first) before) (sym (ap (head_of second_deed) is)) (subst (λ (l : Transcript). MetBy deed l before) (sym (ap rest_of is)) meets))

  goes_first : at_first ≡ deed ∷ older → IsStopped wire two last (As_ 1) (Outside 0) x deed older → ⊥
  goes_first is k = stops k.stops
    where
      wanted : wanted_first ≡ k.taking.wanted
      wanted = wanted_is (As_ 1) (Outside 0) x deed older k.taking asked_first (sent_on ∷ []) vspt_flag 7 wanted_first (sym (ap (head_of first_deed) is)) admits_first

      leads : (k.next ≡ Inner (As_ 2)) × (k.denied ≡ false)
      leads = leads_first k.next k.rest k.denied (subst (λ (w : Wanted). GoesTo two (As_ 1) (Outside 0) w k.next k.rest k.denied) (sym wanted) k.goes)

      up : is_up (way_to k.next (k.taking.before.elements (As_ 1)).ways) ≡ true
      up =
          ap (λ (p : Peer). is_up (way_to p (k.taking.before.elements (As_ 1)).ways)) leads.0
          ∙ ap (λ (s : Plant). is_up (way_to (Inner (As_ 2)) (s.elements (As_ 1)).ways)) (before_first is k.taking.before k.taking.meets) ∙ up_first

      stops : (k.denied ≡ true) ⊎ (is_up (way_to k.next (k.taking.before.elements (As_ 1)).ways) ≡ false) → ⊥
      stops (inl denied) = (let clash : false ≡ true = sym leads.1 ∙ denied in cc)
      stops (inr down) = (let clash : true ≡ false = sym up ∙ down in cc)

  goes_second : at_second ≡ deed ∷ older → IsStopped wire two last (As_ 2) (Inner (As_ 1)) x deed older → ⊥
  goes_second is k =
      let wanted = wanted_is (As_ 2) (Inner (As_ 1)) x deed older k.taking asked_second [] vspt_flag 1 wanted_second (sym (ap (head_of second_deed) is)) admits_second in
      leads_second k.next k.rest k.denied (subst (λ (w : Wanted). GoesTo two (As_ 2) (Inner (As_ 1)) w k.next k.rest k.denied) (sym wanted) k.goes)

  room_first : at_first ≡ deed ∷ older → IsCrowded wire two last (As_ 1) (Outside 0) x deed older → ⊥
  room_first is k =
      has_room (subst (λ (t : Pending (Item Pin)). IsFull t) (ap (λ (s : Plant). (s.elements (As_ 1)).pending) (before_first is k.taking.before k.taking.meets) ∙ empty_first) k.full)

  room_second : at_second ≡ deed ∷ older → IsCrowded wire two last (As_ 2) (Inner (As_ 1)) x deed older → ⊥
  room_second is k =
      has_room (subst (λ (t : Pending (Item Pin)). IsFull t) (ap (λ (s : Plant). (s.elements (As_ 2)).pending) (before_second is k.taking.before k.taking.meets) ∙ empty_second) k.full)

-- a solve says of no request that keys lack
keys_suffice : (d : As) (p : Peer) (x : ℕ) (deed : PlantDeed) (older : Transcript) → Within (deed ∷ older) now → LacksKeys wire two last d p x deed older → ⊥
keys_suffice d p x deed older within k = go (k.tells.to_closed k.closed)
  where
    solves : deed ≡ Solves d k.number (record { to = k.tells.held.key.peer; message = k.tells.message } ∷ []) k.tells.keys
    solves = ap (head_of deed) k.tells.sends_one

    go : TellsClosed wire (place two d) (k.number, k.tells.held) k.tells.down k.before.clock (k.before.elements d).keys k.tells.rows.best k.tells.message → ⊥
    go (branches some few is) = omega (arith, few, k.few)
    go (no_branch none is) = (let empty' : length k.tells.rows.best ≡ 0 = ap (λ (l : List _). length l) none in omega (arith, empty', k.few))
    go (lacks_keys few is) = never solves_note whole none_busy deed older (ap solves_note solves ∙ ap is_note is) (subst (λ (l : Transcript). Within (deed ∷ older) l) now_is within)

-- ---- the way of the request

pub data Where : As → Peer → Transcript → Type 0 where
  here : Where (As_ 1) (Outside 0) at_first
  there : Where (As_ 2) (Inner (As_ 1)) at_second

only_second : (b a : As) (asks : List Asked) (os : List Output) (older : Transcript) → Within (Takes b (Inner a) (messages.PcReq asks) os ∷ older) whole → Takes b (Inner a) (messages.PcReq asks) os ∷ older ≡ at_second
only_second b a asks os older (inl is) = absurd (let clash : ◌≡◌ {A = Transcript} (Takes b (Inner a) (messages.PcReq asks) os ∷ older) whole = is in cc)
only_second b a asks os older (inr (inl is)) = absurd (let clash : ◌≡◌ {A = Transcript} (Takes b (Inner a) (messages.PcReq asks) os ∷ older) (hears_first ++ answers_second ++ at_second) = is in cc)
only_second b a asks os older (inr (inr (inl is))) = absurd (let clash : ◌≡◌ {A = Transcript} (Takes b (Inner a) (messages.PcReq asks) os ∷ older) (Pops (As_ 2) (As_ 1) ∷ answers_second ++ at_second) = is in cc)
only_second b a asks os older (inr (inr (inr (inl is)))) = absurd (let clash : ◌≡◌ {A = Transcript} (Takes b (Inner a) (messages.PcReq asks) os ∷ older) (answers_second ++ at_second) = is in cc)
only_second b a asks os older (inr (inr (inr (inr (inl is))))) = is
only_second b a asks os older (inr (inr (inr (inr (inr (inl is)))))) = absurd (let clash : ◌≡◌ {A = Transcript} (Takes b (Inner a) (messages.PcReq asks) os ∷ older) (Pops (As_ 1) (As_ 2) ∷ at_first) = is in cc)
only_second b a asks os older (inr (inr (inr (inr (inr (inr (inl is))))))) = absurd (let clash : ◌≡◌ {A = Transcript} (Takes b (Inner a) (messages.PcReq asks) os ∷ older) at_first = is in cc)
only_second b a asks os older (inr (inr (inr (inr (inr (inr (inr within))))))) = never asks_inside base none_inside (Takes b (Inner a) (messages.PcReq asks) os) older refl within

on_way : (b : As) (q : Peer) (y : ℕ) (taken : Transcript) → IsOnWay now (As_ 1) (Outside 0) 7 at_first b q y taken → Where b q taken
on_way b q y taken begins_way = here
on_way b q y taken (next a b' q' y' z sending taken' w t rest before sent handed within) = go taken' handed within
  where
    go : (l : Transcript) → Handed a b' sending l → Within l now → Where b' (Inner a) l
    go [] handed' within' = absurd handed'
    go (e ∷ []) handed' within' = absurd handed'
    go (e ∷ f ∷ older) handed' within' =
        let one : Takes b' (Inner a) (messages.PcReq handed'.0) handed'.1 ∷ f ∷ older ≡ at_second =
        only_second b' a handed'.0 handed'.1 (f ∷ older) (subst (λ (l : Transcript). Within (Takes b' (Inner a) (messages.PcReq handed'.0) handed'.1 ∷ f ∷ older) l) now_is (subst (λ (x : PlantDeed). Within (x ∷ f ∷ older) now) handed'.3 within')) in
        let heads : ◌≡◌ {A = PlantDeed} (Takes b' (Inner a) (messages.PcReq handed'.0) handed'.1) second_deed = ap (head_of second_deed) one in
        let is_b : b' ≡ As_ 2 = cc in
        let is_a : a ≡ As_ 1 = cc in
        subst (λ (x : As). Where x (Inner a) (e ∷ f ∷ older)) (sym is_b)
        (subst (λ (x : As). Where (As_ 2) (Inner x) (e ∷ f ∷ older)) (sym is_a)
        (subst (λ (l : Transcript). Where (As_ 2) (Inner (As_ 1)) l) (sym (ap (λ (x : PlantDeed). x ∷ f ∷ older) handed'.3 ∙ one)) there))

abbrev number_in : Peer → ℕ
number_in (Inner a) = a.0
number_in (Outside i) = i

none_left : {X : Type 0} (rows : List (Row Pin)) → rows ≡ [] → (h : Row Pin) → Contains rows h → X
none_left rows none h has = absurd (let i = table.in_of h rows has in let out : table.In h [] = subst (table.In h) none i in out)

goes_well : (b : As) (q : Peer) (y : ℕ) (taken : Transcript) → Where b q taken → GoesWell wire two last now b q y taken
goes_well b q y taken here = record {
  allowed = λ deed older is k. goes_first deed older y is k;
  allowed_above = λ deed older is up k. no_parent 1 (omega arith) up;
  ipv4 = λ z w rest sent. (let to : 2 ≡ 0 = ap (λ (o : Output). number_in o.to) (one_of sent_on _ sent) in absurd (omega (arith, to)));
  children = λ a w t r os older up sent within. no_parent 1 (omega arith) up;
  children_room = λ a w t rest flags id os older up sent within. no_parent 1 (omega arith) up;
  room = λ deed older is k. room_first deed older y is k;
  keys = λ deed older within is_open k. keys_suffice (As_ 1) (Outside 0) y deed older within k;
  stays = λ on z w rest os older sent other within. no_fall (As_ 1) on os older within;
  stays_above = λ a os older up other within. no_parent 1 (omega arith) up;
  outside = λ i z w rest sent. absurd (let to = ap (λ (o : Output). is_outside o.to) (one_of sent_on _ sent) in let clash : false ≡ true = to in cc);
  answered = λ i z w rest h sent has key stage. none_left (last.state.elements (As_ 1)).pending.rows rows_one h has;
}
goes_well b q y taken there = record {
  allowed = λ deed older is k. goes_second deed older y is k;
  allowed_above = λ deed older is up k. no_parent 2 (omega arith) up;
  ipv4 = λ z w rest sent. absurd (omega (arith, sent.1));
  children = λ a w t r os older up sent within. no_parent 2 (omega arith) up;
  children_room = λ a w t rest flags id os older up sent within. no_parent 2 (omega arith) up;
  room = λ deed older is k. room_second deed older y is k;
  keys = λ deed older within is_open k. keys_suffice (As_ 2) (Inner (As_ 1)) y deed older within k;
  stays = λ on z w rest os older sent other within. no_fall (As_ 2) on os older within;
  stays_above = λ a os older up other within. no_parent 2 (omega arith) up;
  outside = λ i z w rest sent. absurd (omega (arith, sent.1));
  answered = λ i z w rest h sent has key stage. none_left (last.state.elements (As_ 2)).pending.rows rows_two h has;
}

drops_none : (deed : PlantDeed) (older : Transcript) → Within (deed ∷ older) now → DropsFor (As_ 1) (Outside 0) 7 deed → ⊥
drops_none deed older within (cancelled notices os is has) = no_note (As_ 1) (Outside 0) notices os older (subst (λ (e : PlantDeed). Within (e ∷ older) now) is within)
drops_none deed older within (went_down os is) = no_fall (As_ 1) (Outside 0) os older (subst (λ (e : PlantDeed). Within (e ∷ older) now) is within)

pub is_good : IsGood wire two last now (As_ 1) (Outside 0) 7 at_first
is_good = record {
  kept = λ deed older within after drops. drops_none deed older within drops;
  way = λ b q y taken on. goes_well b q y taken (on_way b q y taken on);
}

pub first_within : Within at_first now
first_within = subst (λ (l : Transcript). Within at_first l) (sym now_is) (inr (inr (inr (inr (inr (inr (inl refl)))))))

second_within : Within at_second now
second_within = subst (λ (l : Transcript). Within at_second l) (sym now_is) (inr (inr (inr (inr (inl refl)))))

pub is_open : opened wire (As_ 1) (Outside 0) 7 at_first ≡ Some at_first
unfolding begun rank parts_from body_of is_bound is_minimised
is_open = refl

stood : standing (As_ 1) (As_ 2) at_first ≡ record { message = messages.PcReq (asked_second ∷ []); put = at_first } ∷ []
unfolding begun rank parts_from body_of is_bound is_minimised
stood = refl

pub goes_further : IsOnWay now (As_ 1) (Outside 0) 7 at_first (As_ 2) (Inner (As_ 1)) 1 at_second
goes_further = next (As_ 1) (As_ 2) (Outside 0) 7 1 at_first at_second wanted_first (V4 3) (As_ 2 ∷ []) begins_way (first_in sent_on []) (asked_second ∷ [], [], [], refl, refl, stood) second_within
