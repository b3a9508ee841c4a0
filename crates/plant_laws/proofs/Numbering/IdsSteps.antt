-- The ids of queues, of what is pending and of what waits, after an element or the parent takes a message; what it sends on asks.
use Rattle.std.proofs.Common.{◌≡◌, ◌⊎◌, ◌≤◌, ◌<◌, ◌+◌, ℕ, suc, Bool, true, false, cond, nat_lt, List, [], ◌∷◌, ◌++◌, Option, Some, None, sym, ◌∙◌, ap, subst, inl, inr, refl, arith}
use Rattle.std.proofs.lemmas.Bool.{eq-eqb}
use Rattle.std.proofs.lemmas.List.Elements.{All-head, All-tail}
use Rattle.plant_model.specs.Types.{As, Addr, ParentLink, Peer, Outside, Inner, Message, Asked, Request, Wanted, RequestKey, Held, NetworkParts, ElementRow}
use Rattle.disclosure.specs.Shown.{open_of}
use Rattle.pcep_messages.specs.declared.message.Message.TheVariants as messages
use Rattle.request_table.specs.Pending.{Pending, ArePending, same_peer, key_of, number_among}
use Rattle.plant_model.specs.declared.output.Output.{Output}
use Rattle.plant_text.specs.Names.{same_as, parent_as}
use Rattle.plant_model.specs.Names.{set_as}
use Rattle.plant_text.specs.Names.{insert_as}
use Rattle.plant_model.specs.Wire.{Codec, Admitted}
use Rattle.plant_model.specs.Writing.{request_message}
use Rattle.plant_model.specs.Laws.{IsCodec, IsNetwork, IsElement, IsSequence}
use Rattle.plant_text.specs.Settings.{class_of, children, children_of}
use Rattle.plant_model.specs.Settings.{place, family}
use Rattle.plant_model.specs.Element.{Waits, Row, Way, Taken, way_to, with_last, fresh_id}
use Rattle.plant_model.specs.Taking.{take}
use Rattle.plant_model.specs.Parent as parent
use Rattle.plant_model.specs.Parent.{Wait, AskingRow, Errand, Parent, errands, errands_to, tails, with_end, all_up, all_waits, ask_all}
use Rattle.plant_model.specs.State.{Takes}
use Rattle.plant_model.specs.Plant.{Pin, Segment}
use Rattle.plant_laws.specs.Transcript.{Transcript, Effect, Keeps, Ends, Begins, put_into, count_asks, asks, tail_of}
use Rattle.plant_laws.specs.About.{IsShort}
use Rattle.plant_laws.proofs.Once.Handing.{In, In-append, IsAsk}
use Rattle.plant_laws.proofs.Numbering.Sends.{NoneAsks}
use Rattle.std.specs.Prelude.{All, slice_index_or}
use Rattle.plant_laws.proofs.Runs.Rows as table
use Rattle.plant_laws.proofs.Runs.Seen.{seen, seen_none}
use Rattle.plant_laws.proofs.Once.TableAsks.{Moves, IsAsked}
use Rattle.plant_laws.proofs.Once.ElementSteps as lower_steps
use Rattle.plant_laws.proofs.Once.ParentSteps as upper_steps
use Rattle.plant_laws.proofs.Once.Takes.{IsSingle, OpenedBy, take_moves, UpperOpenedBy, upper_moves, own_is}
use Rattle.plant_laws.proofs.Once.Leaving as lower
use Rattle.plant_laws.proofs.Once.Leaving.{number_there}
use Rattle.plant_laws.proofs.Once.LeavingUpper as upper
use Rattle.plant_laws.proofs.Runs.NodeMoves.{Elements, ElementWaits, ParentWaits}
use Rattle.plant_laws.proofs.Once.Asks.{Asks}
use Rattle.plant_laws.proofs.Settled.Alive.{IsSound}
use Rattle.plant_laws.proofs.Numbering.Decode.{Rising, rising_none, same_request}
use Rattle.plant_laws.proofs.Numbering.Onward.{SendsOne, IsCalm, take_sends, way_peer}
use Rattle.plant_laws.proofs.Numbering.OnwardUpper as above
use Rattle.plant_laws.proofs.Numbering.Errands.{Last, HasWay, HaveWays, IsBelow, asked_well}
use Rattle.plant_laws.proofs.Numbering.SentOnAsks.{IsGood, good_none, sound_deed, goes_asks, ask_along, one_rises, outside_rises, fresh_next}
use Rattle.plant_laws.proofs.Numbering.Ids.{Ids, element_ids, parent_ids}

as_self : (d : As) → same_as d d ≡ true
as_self d = eq-eqb d.0 d.0 refl

one_counted : (z : As) (p : Peer) (y : ℕ) (w : Wanted) (t : Addr) (l : List As) → p ≡ Inner z → count_asks (put_into z (record { to = p; message = request_message y w t l } ∷ [])) ≡ 1
one_counted z p y w t l is =
    let hit : same_peer p (Inner z) ≡ true = ap (λ (q : Peer). same_peer q (Inner z)) is ∙ eq-eqb z.0 z.0 refl in
    rw hit refl

in_back : {A : Type 0} (x : A) (xs : List A) → In x xs → table.In x xs
in_back x [] h = absurd h
in_back x (y ∷ ys) (inl e) = inl (sym e)
in_back x (y ∷ ys) (inr h) = inr (in_back x ys h)

-- a row after a deed is of an older key, or of a new one
module _ {T : Type 0} {U : Type 0} (core : T → U) (New : RequestKey → U → Type 0) where
  abbrev IsOld : Pending T → RequestKey → Type 0
  IsOld t key = (g : ℕ × Held T) × In g t.rows × (g.1.key ≡ key)

  there : (t : Pending T) (key : RequestKey) (v : U) → seen core key t.rows ≡ Some v → IsOld t key
  there t key v is = go (number_among key t.rows) refl
    where
      go : (o : Option ℕ) → number_among key t.rows ≡ o → IsOld t key
      go None e = absurd (let out : ◌≡◌ {A = Option U} None (Some v) = sym (seen_none core key t.rows e) ∙ is in cc)
      go (Some number) e = let g = number_there key t.rows number e in (g.0, g.1, g.3)

  pub old_or_new : (effect : RequestKey → Effect) (before after : Pending T) → IsAsked core New effect before after → (h : ℕ × Held T) → In h after.rows → IsOld before h.1.key ⊎ ((u : U) × New h.1.key u)
  old_or_new effect before after asked h i =
      go (effect h.1.key) (seen core h.1.key before.rows) refl (seen core h.1.key after.rows) (table.seen_in core after.rows h asked.pending.names (in_back h after.rows i)) (asked.moves h.1.key)
    where
      go : (f : Effect) (o : Option U) → seen core h.1.key before.rows ≡ o → (o' : Option U) → o' ≡ Some (core h.1.item) → Moves New h.1.key f o o' → IsOld before h.1.key ⊎ ((u : U) × New h.1.key u)
      go Keeps o e o' is moves = inl (there before h.1.key (core h.1.item) (e ∙ sym moves ∙ is))
      go Ends o e o' is moves = absurd (let out : ◌≡◌ {A = Option U} None (Some (core h.1.item)) = sym moves ∙ is in cc)
      go Begins None e None is moves = absurd moves
      go Begins None e (Some u) is moves = inr (u, moves)
      go Begins (Some v) e o' is moves = inl (there before h.1.key v e)

abbrev pub AreKids : Parent → Type 0
AreKids K = (w : Wait) → upper.WaitsFor K w → (w.peer ≡ Inner w.child) × (1 ≤ w.child.0)

-- a peer that is another
other_peer : Peer → As → Peer
other_peer (Outside i) a = Inner a
other_peer (Inner b) a = Outside 0

is_other : (p : Peer) (a : As) → same_peer p (other_peer p a) ≡ false
unfolding other_peer
is_other (Outside i) a = refl
is_other (Inner b) a = refl

-- ---- errands

have_append : (ways : List Way) (xs ys : List Errand) → HaveWays ways xs → HaveWays ways ys → HaveWays ways (xs ++ ys)
have_append ways [] ys h g = g
have_append ways (x ∷ xs) ys h g = (h.0, have_append ways xs ys h.1 g)

have_to : (ways : List Way) (child : As) (ns : List Addr) → HasWay ways child → HaveWays ways (errands_to child ns)
have_to ways child [] h = tt
have_to ways child (x ∷ ns) h = (h, have_to ways child ns h)

have_all : (ways : List Way) (links : List ParentLink) (t : Addr) (cs : List As) → all_up cs ways ≡ true → HaveWays ways (errands links t cs)
have_all ways links t [] up = tt
have_all ways links t (child ∷ rest) up = go (way_to (Inner child) ways) refl up (have_all ways links t rest)
  where
    go : (o : Option Way) → way_to (Inner child) ways ≡ o → cond (parent.is_up o) (all_up rest ways) false ≡ true → (all_up rest ways ≡ true → HaveWays ways (errands links t rest)) →
        HaveWays ways (errands_to child (with_end t (tails child links)) ++ errands links t rest)
    go None e u rec = absurd (let out : false ≡ true = u in cc)
    go (Some way) e u rec = pick way.up u
      where
        pick : (b : Bool) → cond b (all_up rest ways) false ≡ true → HaveWays ways (errands_to child (with_end t (tails child links)) ++ errands links t rest)
        pick false u' = absurd (let out : false ≡ true = u' in cc)
        pick true u' = have_append ways (errands_to child (with_end t (tails child links))) (errands links t rest) (have_to ways child (with_end t (tails child links)) (way, e)) (rec u')

child_to : (child : As) (ns : List Addr) (r : Errand) → In r (errands_to child ns) → r.child ≡ child
child_to child [] r h = absurd h
child_to child (x ∷ ns) r (inl same) = ap (λ (e : Errand). e.child) same
child_to child (x ∷ ns) r (inr h) = child_to child ns r h

child_of : (links : List ParentLink) (t : Addr) (cs : List As) (r : Errand) → In r (errands links t cs) → In r.child cs
child_of links t [] r h = absurd h
child_of links t (child ∷ rest) r h = elim (In-append r (errands_to child (with_end t (tails child links))) (errands links t rest) h) [
  | inl own ↦ inl (child_to child (with_end t (tails child links)) r own)
  | inr later ↦ inr (child_of links t rest r later)
]

inserted : (a : As) (xs : List As) (x : As) → In x (insert_as a xs) → (x ≡ a) ⊎ In x xs
inserted a [] x (inl same) = inl same
inserted a [] x (inr none) = absurd none
inserted a (y ∷ ys) x h = go (nat_lt a.0 y.0) (same_as a y) h (inserted a ys x)
  where
    go : (b b' : Bool) → In x (cond b (a ∷ y ∷ ys) (cond b' (y ∷ ys) (y ∷ insert_as a ys))) → (In x (insert_as a ys) → (x ≡ a) ⊎ In x ys) → (x ≡ a) ⊎ In x (y ∷ ys)
    go true b' (inl same) rec = inl same
    go true b' (inr i) rec = inr i
    go false true i rec = inr i
    go false false (inl same) rec = inr (inl same)
    go false false (inr i) rec = elim (rec i) [ inl same ↦ inl same | inr j ↦ inr (inr j) ]

real_child : (rows : List ElementRow) → All IsElement rows → (x : As) → In x (children_of rows) → 1 ≤ x.0
real_child [] all x h = absurd h
real_child (r ∷ rows) all x h = go r.parent h (real_child rows (All-tail IsElement r rows all) x)
  where
    go : (b : Bool) → In x (cond b (insert_as r.own (children_of rows)) (children_of rows)) → (In x (children_of rows) → 1 ≤ x.0) → 1 ≤ x.0
    go false i rec = rec i
    go true i rec = elim (inserted r.own (children_of rows) x i) [
      | inl same ↦ let e = All-head IsElement r rows all in let real = e.real in subst (λ (z : As). 1 ≤ z.0) (sym same) real
      | inr j ↦ rec j
    ]

all_in : (rows : List AskingRow) (v : Wait) → In v (all_waits rows) → (h : AskingRow) × In h rows × In v h.1.item.waits
all_in [] v h = absurd h
all_in (r ∷ rows) v h = elim (In-append v r.1.item.waits (all_waits rows) h) [
  | inl own ↦ (r, inl refl, own)
  | inr later ↦ let g = all_in rows v later in (g.0, inr g.1, g.2)
]

none_ask : (os : List Output) → NoneAsks os → (o : Output) → In o os → IsAsk o.message → ⊥
none_ask [] none o h ask = h
none_ask (x ∷ os) none o (inl same) ask = none.0 (subst (λ (z : Output). IsAsk z.message) same ask)
none_ask (x ∷ os) none o (inr h) ask = none_ask os none.1 o h ask

single_sequence : (child : As) → 1 ≤ child.0 → IsSequence child []
single_sequence child real = record {
  few = omega arith;
  differ = λ i j d lt le. absurd (omega (arith, lt, le));
  real = λ i d lt. first i d lt;
}
  where
    first : (i : ℕ) (d : As) → i < 1 → 1 ≤ (slice_index_or (child ∷ []) i d).0
    first i d lt = let e : i ≡ 0 = omega (arith, lt) in subst (λ (k : ℕ). 1 ≤ (slice_index_or (child ∷ []) k d).0) (sym e) real

module _ (c : Codec) (n : NetworkParts) (codec : IsCodec c) (p : Peer) (m : Message) (one : IsSingle m) (low : As → As → ℕ) (ds : Transcript) (E : Elements) (K : Parent) (ids : Ids low ds E K) where
  -- the id of a request that came from a neighbour
  abbrev pub IsNewId : As → Type 0
  IsNewId at = (a : As) → p ≡ Inner a → (asked : Asked) → m ≡ messages.PcReq (asked ∷ []) → (r : Request) → c.check asked at ≡ Admitted r → r.id ≤ low a at

  module _ (at : As) (real : same_as at parent_as ≡ false) (are : ArePending (E at).pending) (new : IsNewId at) (pin : Pin) (now : ℕ) where
    abbrev After : Taken Pin Segment
    After = take c open_of (place n at) pin p (class_of n p) now m (E at)

    named_at : (a : As) (x : ℕ) (l : List As) → lower.Named Pin Segment After.element (Inner a) x l → x ≤ low a at
    named_at a x l h = elim (old_or_new lower_steps.core (OpenedBy Pin Segment c open_of n at pin p (class_of n p) now (E at) m) _ (E at).pending After.element.pending
        (take_moves Pin Segment c open_of n at pin p (class_of n p) now (E at) m one are) h.0 h.1) [
          | inl old ↦
              ids.names a at x old.0.1.item.sequence
              (subst (λ (z : Bool). cond z (upper.Named K (Inner a) x) (lower.Named Pin Segment (E at) (Inner a) x old.0.1.item.sequence)) (sym real) (old.0, old.1, old.2 ∙ h.2, refl))
          | inr begun ↦
              let f = begun.1.2 in
              let key : h.0.1.key ≡ key_of (Inner a) x = h.2 in
              let peer : p ≡ Inner a = sym f.peer ∙ ap (λ (k : RequestKey). k.peer) key in
              let le = new a peer begun.1.0 begun.1.1 f.request (subst (λ (z : As). c.check begun.1.0 z ≡ Admitted f.request) (own_is n at) f.admitted) in
              let id : f.request.id ≡ x = f.id ∙ ap (λ (k : RequestKey). k.id) key in
              omega (arith, le, id)
        ]

    old_waits : (on : Peer) (id : ℕ) (whole : List As) → lower.WaitsFor Pin Segment After.element on id whole →
        lower.WaitsFor Pin Segment (E at) on id whole ⊎ ((w : Wanted) × In {A = Output} (record { to = on; message = request_message id w w.target (tail_of whole) }) After.outputs)
    old_waits = (lower.take_moves Pin Segment c p (other_peer p at) open_of (place n at) pin (class_of n p) now m (λ notices is. inl (is_other p at)) (E at) are).0.old

    waits_below : (z : As) (h : Row Pin) → In h (E at).pending.rows → (id : ℕ) → h.1.item.stage ≡ Waits (Inner z) id → id ≤ Last (E at).ways z
    waits_below z h i id is =
        subst (λ (x : Bool). id ≤ cond x (Last K.ways z) (Last (E at).ways z)) real
        (ids.waits at z id (tail_of h.1.item.sequence)
        (subst (λ (x : Bool). cond x (ParentWaits K z id (tail_of h.1.item.sequence)) (ElementWaits (E at) z id (tail_of h.1.item.sequence))) (sym real) (h.1.item.sequence, (h, i, is, refl), refl)))

    abbrev Given : Type 0
    Given = Ids low (Takes at p m After.outputs ∷ ds) (set_as at After.element E) K × IsSound c (Takes at p m After.outputs)

    pub element_given : IsShort (Takes at p m After.outputs ∷ ds) → Given
    element_given short = go (take_sends Pin Segment c open_of (place n at) pin p (class_of n p) now (E at) m one)
      where
        own_short : (b : As) → Last (E at).ways b + count_asks (put_into b After.outputs) ≤ 4294967295
        own_short b =
            let s = short at b in
            let t : asks at b ds + count_asks (put_into b (cond (same_as at at) After.outputs [])) ≤ 4294967295 = s in
            let own : same_as at at ≡ true = as_self at in
            let u : asks at b ds + count_asks (put_into b After.outputs) ≤ 4294967295 = subst (λ (x : Bool). asks at b ds + count_asks (put_into b (cond x After.outputs [])) ≤ 4294967295) own t in
            let v : Last (E at).ways b ≤ asks at b ds = subst (λ (x : Bool). cond x (Last K.ways b) (Last (E at).ways b) ≤ asks at b ds) real (ids.short at b) in
            omega arith

        -- what is sent is one request
        given_by : (sends : SendsOne Pin Segment c open_of (place n at) pin p (class_of n p) now (E at) After) →
            (let y = fresh_id sends.way.peer sends.way.last_id (E at).pending.rows in
            let out : Output = record { to = sends.way.peer; message = request_message y sends.wanted sends.wanted.target sends.rest } in
            ((b : As) → Rising (put_into b (out ∷ [])) (Last (E at).ways b) (Last (with_last sends.way.peer y (E at).ways) b) × (Last (with_last sends.way.peer y (E at).ways) b ≤ Last (E at).ways b + count_asks (put_into b (out ∷ [])))) →
            IsGood c out → Given)
        given_by sends rises good = (
          element_ids low (Takes at p m After.outputs) ds E K (λ a b xs. refl) ids at real After (λ a. refl) named_at
              (λ b. subst (λ (ws : List Way). Rising (put_into b After.outputs) (Last (E at).ways b) (Last ws b) × (Last ws b ≤ Last (E at).ways b + count_asks (put_into b After.outputs))) (sym sends.ways)
              (subst (λ (os : List Output). Rising (put_into b os) (Last (E at).ways b) (Last (with_last sends.way.peer (fresh_id sends.way.peer sends.way.last_id (E at).pending.rows) (E at).ways) b)
              × (Last (with_last sends.way.peer (fresh_id sends.way.peer sends.way.last_id (E at).pending.rows) (E at).ways) b ≤ Last (E at).ways b + count_asks (put_into b os))) (sym sends.outs)
              (rises b)))
              old_waits,
          sound_deed c at After.outputs (Takes at p m After.outputs) (λ a. refl) (λ o i. only o (subst (λ (os : List Output). In o os) sends.outs i)),
        )
          where
            only : (o : Output) → In o (record { to = sends.way.peer; message = request_message (fresh_id sends.way.peer sends.way.last_id (E at).pending.rows) sends.wanted sends.wanted.target sends.rest } ∷ []) → IsGood c o
            only o (inl same) = subst (λ (x : Output). IsGood c x) (sym same) good
            only o (inr none) = absurd none

        sent : (sends : SendsOne Pin Segment c open_of (place n at) pin p (class_of n p) now (E at) After) (to : Peer) → sends.to ≡ to → Given
        sent sends (Outside i) is =
            let peer : sends.way.peer ≡ Outside i = way_peer sends.to (E at).ways sends.way sends.found ∙ is in
            given_by sends
            (λ b. outside_rises sends.way.peer i (E at).ways (fresh_id sends.way.peer sends.way.last_id (E at).pending.rows) sends.wanted sends.wanted.target sends.rest peer b)
            (λ b to ask. absurd (let clash : Outside i ≡ Inner b = sym peer ∙ to in cc))
        sent sends (Inner z) is =
            let y = fresh_id sends.way.peer sends.way.last_id (E at).pending.rows in
            let out : Output = record { to = sends.way.peer; message = request_message y sends.wanted sends.wanted.target sends.rest } in
            let found : way_to (Inner z) (E at).ways ≡ Some sends.way = subst (λ (q : Peer). way_to q (E at).ways ≡ Some sends.way) is sends.found in
            let peer : sends.way.peer ≡ Inner z = way_peer (Inner z) (E at).ways sends.way found in
            let counted : count_asks (put_into z (out ∷ [])) ≡ 1 = one_counted z sends.way.peer y sends.wanted sends.wanted.target sends.rest peer in
            let room = own_short z in
            let room' : Last (E at).ways z + count_asks (put_into z (out ∷ [])) ≤ 4294967295 = subst (λ (os : List Output). Last (E at).ways z + count_asks (put_into z os) ≤ 4294967295) sends.outs room in
            let less : Last (E at).ways z < 4294967295 = omega (arith, counted, room') in
            let next : y ≡ suc (Last (E at).ways z) = fresh_next z (E at).ways sends.way (E at).pending.rows found less (waits_below z) in
            let asks' = goes_asks c codec sends.asked (place n at).own (place n at).routes sends.flags sends.id sends.wanted sends.admitted sends.to sends.rest sends.goes z is y (omega (arith, next)) (omega (arith, next, less)) in
            given_by sends (λ b. one_rises sends.way.peer z (E at).ways sends.way y sends.wanted sends.wanted.target sends.rest found next peer b)
            (λ b to ask.
            let peers : Inner z ≡ Inner b = sym peer ∙ to in
            let at' : z ≡ b = cc in
            (y, sends.wanted, sends.wanted.target, sends.rest, refl, subst (λ (x : As). Asks c out.message x y sends.rest) at' asks'))

        go : IsCalm Pin Segment (E at) After ⊎ SendsOne Pin Segment c open_of (place n at) pin p (class_of n p) now (E at) After → Given
        go (inl calm) = (
          element_ids low (Takes at p m After.outputs) ds E K (λ a b xs. refl) ids at real After (λ a. refl) named_at
              (λ b. subst (λ (ws : List Way). Rising (put_into b After.outputs) (Last (E at).ways b) (Last ws b) × (Last ws b ≤ Last (E at).ways b + count_asks (put_into b After.outputs))) (sym calm.ways)
              (rising_none b After.outputs (Last (E at).ways b) calm.none, omega arith))
              old_waits,
          sound_deed c at After.outputs (Takes at p m After.outputs) (λ a. refl) (good_none c After.outputs calm.none),
        )
        go (inr sends) = sent sends sends.to refl

  module _ (net : IsNetwork n) (are : ArePending K.pending) (kids : AreKids K) (new : IsNewId parent_as) where
    abbrev AfterUp : parent.ParentTaken
    AfterUp = parent.take c (family n) p m K

    named_up : (a : As) (x : ℕ) → upper.Named AfterUp.parent (Inner a) x → x ≤ low a parent_as
    named_up a x h = elim (old_or_new upper_steps.core (UpperOpenedBy c (family n) p K m) _ K.pending AfterUp.parent.pending (upper_moves c (family n) p K m one are) h.0 h.1) [
      | inl old ↦ ids.names a parent_as x [] (old.0, old.1, old.2 ∙ h.2)
      | inr begun ↦
          let f = begun.1.2 in
          let key : h.0.1.key ≡ key_of (Inner a) x = h.2 in
          let peer : p ≡ Inner a = sym f.peer ∙ ap (λ (k : RequestKey). k.peer) key in
          let le = new a peer begun.1.0 begun.1.1 f.request f.admitted in
          let id : f.request.id ≡ x = f.id ∙ ap (λ (k : RequestKey). k.id) key in
          omega (arith, le, id)
    ]

    old_up : (w : Wait) → upper.WaitsFor AfterUp.parent w → upper.WaitsFor K w ⊎ upper.IsSent w AfterUp.outputs
    old_up = (upper.take_moves c p (other_peer p parent_as) (family n) m (λ notices is. inl (is_other p parent_as)) K are).0.old

    below_up : IsBelow (all_waits K.pending.rows) K.ways
    below_up v i b peer = let g = all_in K.pending.rows v i in ids.waits parent_as b v.id (v.child ∷ []) (v, (g.0, g.1, g.2), peer, refl, refl)

    pub parent_given : IsShort (Takes parent_as p m AfterUp.outputs ∷ ds) → Ids low (Takes parent_as p m AfterUp.outputs ∷ ds) E AfterUp.parent × IsSound c (Takes parent_as p m AfterUp.outputs) × AreKids AfterUp.parent
    parent_given short = go (above.take_sends c p (family n) m one K are)
      where
        go : above.IsCalm K AfterUp ⊎ above.SendsAll c p (family n) K AfterUp → Ids low (Takes parent_as p m AfterUp.outputs ∷ ds) E AfterUp.parent × IsSound c (Takes parent_as p m AfterUp.outputs) × AreKids AfterUp.parent
        go (inl calm) = (
          parent_ids low (Takes parent_as p m AfterUp.outputs) ds E K (λ a b xs. refl) ids AfterUp (λ a. refl) named_up
              (λ b. subst (λ (ws : List Way). Rising (put_into b AfterUp.outputs) (Last K.ways b) (Last ws b) × (Last ws b ≤ Last K.ways b + count_asks (put_into b AfterUp.outputs))) (sym calm.ways)
              (rising_none b AfterUp.outputs (Last K.ways b) calm.none, omega arith))
              old_up (λ q y. (let a = calm.fewer q y in let b = ids.once q y in omega arith)),
          sound_deed c parent_as AfterUp.outputs (Takes parent_as p m AfterUp.outputs) (λ a. refl) (good_none c AfterUp.outputs calm.none),
          λ w h. elim (old_up w h) [ inl before ↦ kids w before | inr sent ↦ absurd (none_ask AfterUp.outputs calm.none _ sent.1 tt) ],
        )
        go (inr sends) =
            let rs = errands n.parent_links sends.wanted.target (children n) in
            let taken = all_waits K.pending.rows in
            let A = ask_all sends.wanted taken rs K.ways in
            let well = asked_well sends.wanted taken rs K.ways below_up (have_all K.ways n.parent_links sends.wanted.target (children n) sends.up)
            (λ b. subst (λ (os : List Output). Last K.ways b + count_asks (put_into b os) ≤ 4294967295) sends.outs (let s = short parent_as b in let t = ids.short parent_as b in omega (arith, s, t))) in
            let real : (r : Errand) → In r rs → 1 ≤ r.child.0 = (λ r i. real_child n.elements net.elements r.child (child_of n.parent_links sends.wanted.target (children n) r i)) in (
              parent_ids low (Takes parent_as p m AfterUp.outputs) ds E K (λ a b xs. refl) ids AfterUp (λ a. refl) named_up
                  (λ b. subst (λ (ws : List Way). Rising (put_into b AfterUp.outputs) (Last K.ways b) (Last ws b) × (Last ws b ≤ Last K.ways b + count_asks (put_into b AfterUp.outputs))) (sym sends.ways)
                  (subst (λ (os : List Output). Rising (put_into b os) (Last K.ways b) (Last A.ways b) × (Last A.ways b ≤ Last K.ways b + count_asks (put_into b os))) (sym sends.outs) (well.rising b, well.last b)))
                  old_up (λ q y. (let a = well.counts q y (ids.once q y) in let b = sends.waits q y in omega (arith, a, b))),
              sound_deed c parent_as AfterUp.outputs (Takes parent_as p m AfterUp.outputs) (λ a. refl)
                  (λ o i.
                  let w = well.ids o (subst (λ (os : List Output). In o os) sends.outs i) in
                  let y = w.2.0 in
                  (λ b to ask.
                  let message : o.message ≡ request_message y sends.wanted w.0.target (w.0.child ∷ []) = ap (λ (x : Output). x.message) w.2.3 in
                  let peers : Inner w.0.child ≡ Inner b = sym (ap (λ (x : Output). x.to) w.2.3) ∙ to in
                  let at : w.0.child ≡ b = cc in (
                    y,
                    sends.wanted,
                    w.0.target,
                    w.0.child ∷ [],
                    message,
                    subst (λ (m' : Message). Asks c m' b y (w.0.child ∷ [])) (sym message)
                        (subst (λ (x : As). Asks c (request_message y sends.wanted w.0.target (w.0.child ∷ [])) x y (w.0.child ∷ [])) at
                        (ask_along c codec sends.asked parent_as sends.flags sends.id sends.wanted sends.admitted y w.0.target w.0.child [] w.2.1 w.2.2 (single_sequence w.0.child (real w.0 w.1)))),
                  ))),
              λ v h. elim (old_up v h) [
                | inl before ↦ kids v before
                | inr sent ↦
                    let w = well.ids _ (subst (λ (os : List Output). In {A = Output} (record { to = v.peer; message = request_message v.id sent.0 v.target (v.child ∷ []) }) os) sends.outs sent.1) in
                    let peers : v.peer ≡ Inner w.0.child = ap (λ (x : Output). x.to) w.2.3 in
                    let same = same_request v.id w.2.0 sent.0 sends.wanted v.target w.0.target (v.child ∷ []) (w.0.child ∷ []) (ap (λ (x : Output). x.message) w.2.3) in
                    let lists : v.child ∷ [] ≡ w.0.child ∷ [] = same.1 in
                    let child : v.child ≡ w.0.child = cc in
                    (peers ∙ ap (λ (x : As). Inner x) (sym child), subst (λ (x : As). 1 ≤ x.0) (sym child) (real w.0 w.1))
              ],
            )
