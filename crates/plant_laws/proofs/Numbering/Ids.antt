-- As long as no id comes round: the ids of the requests in a queue rise, above those that are pending at its end and up to the last
-- one sent; nothing waits for a later one, and the parent waits for each once.
use Rattle.std.proofs.Common.{◌≡◌, ◌⊎◌, ◌≤◌, ◌+◌, ℕ, Bool, true, false, cond, List, [], ◌∷◌, ◌++◌, Some, sym, ◌∙◌, ap, subst, inl, inr, refl, arith}
use Rattle.std.proofs.lemmas.Bool.{cases_Bool, eq-eqb}
use Rattle.plant_model.specs.Types.{As, Peer, Inner, Message, Wanted}
use Rattle.plant_model.specs.declared.output.Output.{Output}
use Rattle.plant_text.specs.Names.{same_as, same_link, parent_as}
use Rattle.plant_model.specs.Names.{set_as, set_pair}
use Rattle.plant_model.specs.Writing.{request_message}
use Rattle.request_table.specs.Pending.{Pending}
use Rattle.plant_model.specs.Element.{Item, Taken}
use Rattle.plant_model.specs.Parent as parent
use Rattle.plant_model.specs.Parent.{Parent, ParentTaken, Wait, all_waits}
use Rattle.plant_model.specs.State.{Deed, Pops, Clears}
use Rattle.plant_model.specs.Plant.{Pin, Segment}
use Rattle.plant_laws.specs.Transcript.{Transcript, Standing, standing, put_into, outputs_at, left_of, tail_of, asks, count_asks}
use Rattle.plant_laws.specs.Standing.{messages as messages_in}
use Rattle.plant_laws.proofs.Runs.Decompose.{nil_right}
use Rattle.plant_laws.proofs.Runs.Queues.{same_as_is}
use Rattle.plant_laws.proofs.Once.Handing.{In}
use Rattle.plant_laws.proofs.Once.Leaving as lower
use Rattle.plant_laws.proofs.Once.LeavingUpper as upper
use Rattle.plant_laws.proofs.Numbering.TakenUpper.{count_waits}
use Rattle.plant_laws.proofs.Settled.UnderWay.{In-put, queues_at, queue_now, with_sent}
use Rattle.plant_laws.proofs.Runs.NodeMoves.{Elements, named_of, waits_of, ElementWaits, ParentWaits}
use Rattle.plant_laws.proofs.Numbering.Decode.{request_id, id_of, Rising, rising_le, rising_append, rising_tail, rising_in}
use Rattle.plant_laws.proofs.Numbering.Errands.{Last}

as_self : (d : As) → same_as d d ≡ true
as_self d = eq-eqb d.0 d.0 refl

abbrev pub last_of : Elements → Parent → As → As → ℕ
last_of E K a b = cond (same_as a parent_as) (Last K.ways b) (Last (E a).ways b)

pub record Ids (low : As → As → ℕ) (ds : Transcript) (E : Elements) (K : Parent) : Type 0 where
  pub names : (a b : As) (x : ℕ) (l : List As) → named_of E K b (Inner a) x l → x ≤ low a b
  pub climbs : (a b : As) → Rising (queues_at ds a b) (low a b) (last_of E K a b)
  pub waits : (a b : As) (id : ℕ) (l : List As) → waits_of E K a b id l → id ≤ last_of E K a b
  pub short : (a b : As) → last_of E K a b ≤ asks a b ds
  pub once : (q : Peer) (y : ℕ) → count_waits q y (all_waits K.pending.rows) ≤ 1

-- a node does something and sends os
module _ (low : As → As → ℕ) (d : As) (os : List Output) (e : Deed Segment) (ds : Transcript) (E E' : Elements) (K K' : Parent)
    (outs : (a : As) → outputs_at a e ≡ cond (same_as d a) os []) (left : (a b : As) (xs : List Standing) → left_of e a b xs ≡ xs)
    (names : (a b : As) (x : ℕ) (l : List As) → named_of E' K' b (Inner a) x l → x ≤ low a b)
    (others : (a b : As) → same_as d a ≡ false → last_of E' K' a b ≡ last_of E K a b)
    (sends : (b : As) → Rising (put_into b os) (last_of E K d b) (last_of E' K' d b) × (last_of E' K' d b ≤ last_of E K d b + count_asks (put_into b os)))
    (waits : (a b : As) (id : ℕ) (l : List As) → waits_of E' K' a b id l → waits_of E K a b id l ⊎ ((a ≡ d) × ((m : Message) × In m (put_into b os) × (request_id m ≡ Some id))))
    (once : (q : Peer) (y : ℕ) → count_waits q y (all_waits K'.pending.rows) ≤ 1) (ids : Ids low ds E K) where
  grows : (a b : As) → last_of E K a b ≤ last_of E' K' a b
  grows a b = elim (cases_Bool (same_as d a)) [
    | inl hit ↦ subst (λ (z : As). last_of E K z b ≤ last_of E' K' z b) (same_as_is d a hit) (rising_le (put_into b os) (last_of E K d b) (last_of E' K' d b) (sends b).0)
    | inr miss ↦ let same = others a b miss in omega (arith, same)
  ]

  pub node_ids : Ids low (e ∷ ds) E' K'
  node_ids = record {
    names = names;
    climbs = λ a b. subst (λ (q : List Message). Rising q (low a b) (last_of E' K' a b)) (sym (queue_now d os ds e outs left a b)) (climbs a b);
    waits = λ a b id l w. elim (waits a b id l w) [
      | inl before ↦ let le = ids.waits a b id l before in let more = grows a b in omega arith
      | inr new ↦ subst (λ (z : As). id ≤ last_of E' K' z b) (sym new.0) (rising_in (put_into b os) (last_of E K d b) (last_of E' K' d b) new.1.0 id (sends b).0 new.1.1 new.1.2)
    ];
    short = λ a b. short a b;
    once = once;
  }
    where
      climbs : (a b : As) → Rising (with_sent d os (queues_at ds) a b) (low a b) (last_of E' K' a b)
      climbs a b = elim (cases_Bool (same_as d a)) [
        | inl hit ↦
            let is : d ≡ a = same_as_is d a hit in
            rising_append (queues_at ds a b) (cond (same_as d a) (put_into b os) []) (low a b) (last_of E K a b) (last_of E' K' a b) (ids.climbs a b)
            (subst (λ (x : Bool). Rising (cond x (put_into b os) []) (last_of E K a b) (last_of E' K' a b)) (sym hit)
            (subst (λ (z : As). Rising (put_into b os) (last_of E K z b) (last_of E' K' z b)) is (sends b).0))
        | inr miss ↦
            subst (λ (x : Bool). Rising (queues_at ds a b ++ cond x (put_into b os) []) (low a b) (last_of E' K' a b)) (sym miss)
            (subst (λ (q : List Message). Rising q (low a b) (last_of E' K' a b)) (sym (nil_right (queues_at ds a b)))
            (subst (λ (z : ℕ). Rising (queues_at ds a b) (low a b) z) (sym (others a b miss)) (ids.climbs a b)))
      ]

      short : (a b : As) → last_of E' K' a b ≤ asks a b (e ∷ ds)
      short a b =
          subst (λ (l : List Output). last_of E' K' a b ≤ asks a b ds + count_asks (put_into b l)) (sym (outs a))
          (elim (cases_Bool (same_as d a)) [
            | inl hit ↦
                let is : d ≡ a = same_as_is d a hit in
                subst (λ (x : Bool). last_of E' K' a b ≤ asks a b ds + count_asks (put_into b (cond x os []))) (sym hit)
                (let s = ids.short a b in let one = subst (λ (z : As). last_of E' K' z b ≤ last_of E K z b + count_asks (put_into b os)) is (sends b).1 in omega arith)
            | inr miss ↦
                subst (λ (x : Bool). last_of E' K' a b ≤ asks a b ds + count_asks (put_into b (cond x os []))) (sym miss)
                (let s = ids.short a b in let same = others a b miss in omega (arith, s, same))
          ])

-- an element, or the parent
module _ (low : As → As → ℕ) (e : Deed Segment) (ds : Transcript) (E : Elements) (K : Parent) (left : (a b : As) (xs : List Standing) → left_of e a b xs ≡ xs) (ids : Ids low ds E K) where
  pub element_ids : (d : As) → same_as d parent_as ≡ false → (t : Taken Pin Segment) → ((a : As) → outputs_at a e ≡ cond (same_as d a) t.outputs []) →
      ((a : As) (x : ℕ) (l : List As) → lower.Named Pin Segment t.element (Inner a) x l → x ≤ low a d) →
      ((b : As) → Rising (put_into b t.outputs) (Last (E d).ways b) (Last t.element.ways b) × (Last t.element.ways b ≤ Last (E d).ways b + count_asks (put_into b t.outputs))) →
      ((on : Peer) (id : ℕ) (whole : List As) → lower.WaitsFor Pin Segment t.element on id whole →
      lower.WaitsFor Pin Segment (E d) on id whole ⊎ ((w : Wanted) × In {A = Output} (record { to = on; message = request_message id w w.target (tail_of whole) }) t.outputs)) →
      Ids low (e ∷ ds) (set_as d t.element E) K
  element_ids d real t outs names sends old =
      node_ids low d t.outputs e ds E (set_as d t.element E) K K outs left
      (λ a b x l h. named a b x l h (cases_Bool (same_as d b)))
      (λ a b miss. subst (λ (x : Bool). cond (same_as a parent_as) (Last K.ways b) (Last (cond x t.element (E a)).ways b) ≡ last_of E K a b) (sym miss) refl)
      (λ b. sent b)
      (λ a b id l w. waited a b id l w (cases_Bool (same_as d a)))
      ids.once ids
    where
      own_last : (b : As) → last_of (set_as d t.element E) K d b ≡ Last t.element.ways b
      own_last b = ap (λ (x : Bool). cond x (Last K.ways b) (Last (set_as d t.element E d).ways b)) real ∙ ap (λ (x : Bool). Last (cond x t.element (E d)).ways b) (as_self d)

      was_last : (b : As) → last_of E K d b ≡ Last (E d).ways b
      was_last b = ap (λ (x : Bool). cond x (Last K.ways b) (Last (E d).ways b)) real

      sent : (b : As) → Rising (put_into b t.outputs) (last_of E K d b) (last_of (set_as d t.element E) K d b) × (last_of (set_as d t.element E) K d b ≤ last_of E K d b + count_asks (put_into b t.outputs))
      sent b =
          subst (λ (z : ℕ). Rising (put_into b t.outputs) (last_of E K d b) z × (z ≤ last_of E K d b + count_asks (put_into b t.outputs))) (sym (own_last b))
          (subst (λ (z : ℕ). Rising (put_into b t.outputs) z (Last t.element.ways b) × (Last t.element.ways b ≤ z + count_asks (put_into b t.outputs))) (sym (was_last b)) (sends b))

      named : (a b : As) (x : ℕ) (l : List As) → named_of (set_as d t.element E) K b (Inner a) x l → (same_as d b ≡ true) ⊎ (same_as d b ≡ false) → x ≤ low a b
      named a b x l h (inr miss) =
          ids.names a b x l (subst (λ (z : Bool). cond (same_as b parent_as) (upper.Named K (Inner a) x) (lower.Named Pin Segment (cond z t.element (E b)) (Inner a) x l)) miss h)
      named a b x l h (inl hit) =
          let is : d ≡ b = same_as_is d b hit in
          let low' : same_as b parent_as ≡ false = ap (λ (z : As). same_as z parent_as) (sym is) ∙ real in
          let here : lower.Named Pin Segment t.element (Inner a) x l =
          subst (λ (z : Bool). lower.Named Pin Segment (cond z t.element (E b)) (Inner a) x l) hit
          (subst (λ (z : Bool). cond z (upper.Named K (Inner a) x) (lower.Named Pin Segment (set_as d t.element E b) (Inner a) x l)) low' h) in
          subst (λ (z : As). x ≤ low a z) is (names a x l here)

      waited : (a b : As) (id : ℕ) (l : List As) → waits_of (set_as d t.element E) K a b id l → (same_as d a ≡ true) ⊎ (same_as d a ≡ false) →
          waits_of E K a b id l ⊎ ((a ≡ d) × ((m : Message) × In m (put_into b t.outputs) × (request_id m ≡ Some id)))
      waited a b id l h (inr miss) = inl (subst (λ (z : Bool). cond (same_as a parent_as) (ParentWaits K b id l) (ElementWaits (cond z t.element (E a)) b id l)) miss h)
      waited a b id l h (inl hit) =
          let is : d ≡ a = same_as_is d a hit in
          let low' : same_as a parent_as ≡ false = ap (λ (z : As). same_as z parent_as) (sym is) ∙ real in
          let here : ElementWaits t.element b id l =
          subst (λ (z : Bool). ElementWaits (cond z t.element (E a)) b id l) hit
          (subst (λ (z : Bool). cond z (ParentWaits K b id l) (ElementWaits (set_as d t.element E a) b id l)) low' h) in
          elim (old (Inner b) id here.0 here.1) [
            | inl before ↦
                inl (subst (λ (z : Bool). cond z (ParentWaits K b id l) (ElementWaits (E a) b id l)) (sym low')
                (subst (λ (z : As). ElementWaits (E z) b id l) is (here.0, before, here.2)))
            | inr sent' ↦
                inr (sym is, (request_message id sent'.0 sent'.0.target (tail_of here.0), In-put b (request_message id sent'.0 sent'.0.target (tail_of here.0)) t.outputs sent'.1, id_of id sent'.0 sent'.0.target (tail_of here.0)))
          ]

  pub parent_ids : (t : ParentTaken) → ((a : As) → outputs_at a e ≡ cond (same_as parent_as a) t.outputs []) →
      ((a : As) (x : ℕ) → upper.Named t.parent (Inner a) x → x ≤ low a parent_as) →
      ((b : As) → Rising (put_into b t.outputs) (Last K.ways b) (Last t.parent.ways b) × (Last t.parent.ways b ≤ Last K.ways b + count_asks (put_into b t.outputs))) →
      ((w : Wait) → upper.WaitsFor t.parent w → upper.WaitsFor K w ⊎ upper.IsSent w t.outputs) →
      ((q : Peer) (y : ℕ) → count_waits q y (all_waits t.parent.pending.rows) ≤ 1) →
      Ids low (e ∷ ds) E t.parent
  parent_ids t outs names sends old once =
      node_ids low parent_as t.outputs e ds E E K t.parent outs left
      (λ a b x l h. named a b x l h (cases_Bool (same_as b parent_as)))
      (λ a b miss. other a b (back a miss))
      (λ b. sends b)
      (λ a b id l w. waited a b id l w (cases_Bool (same_as a parent_as)))
      once ids
    where
      back : (a : As) → same_as parent_as a ≡ false → same_as a parent_as ≡ false
      back a miss = elim (cases_Bool (same_as a parent_as)) [
        | inl hit ↦
            let is : a ≡ parent_as = same_as_is a parent_as hit in
            absurd (let clash : true ≡ false = sym (as_self parent_as) ∙ ap (λ (z : As). same_as parent_as z) (sym is) ∙ miss in cc)
        | inr low' ↦ low'
      ]

      other : (a b : As) → same_as a parent_as ≡ false → last_of E t.parent a b ≡ last_of E K a b
      other a b low' =
          ap (λ (x : Bool). cond x (Last t.parent.ways b) (Last (E a).ways b)) low' ∙ sym (ap (λ (x : Bool). cond x (Last K.ways b) (Last (E a).ways b)) low')

      named : (a b : As) (x : ℕ) (l : List As) → named_of E t.parent b (Inner a) x l → (same_as b parent_as ≡ true) ⊎ (same_as b parent_as ≡ false) → x ≤ low a b
      named a b x l h (inr low') =
          ids.names a b x l (subst (λ (z : Bool). cond z (upper.Named K (Inner a) x) (lower.Named Pin Segment (E b) (Inner a) x l)) (sym low')
          (subst (λ (z : Bool). cond z (upper.Named t.parent (Inner a) x) (lower.Named Pin Segment (E b) (Inner a) x l)) low' h))
      named a b x l h (inl up) =
          let here : upper.Named t.parent (Inner a) x = subst (λ (z : Bool). cond z (upper.Named t.parent (Inner a) x) (lower.Named Pin Segment (E b) (Inner a) x l)) up h in
          subst (λ (z : As). x ≤ low a z) (sym (same_as_is b parent_as up)) (names a x here)

      waited : (a b : As) (id : ℕ) (l : List As) → waits_of E t.parent a b id l → (same_as a parent_as ≡ true) ⊎ (same_as a parent_as ≡ false) →
          waits_of E K a b id l ⊎ ((a ≡ parent_as) × ((m : Message) × In m (put_into b t.outputs) × (request_id m ≡ Some id)))
      waited a b id l h (inr low') =
          inl (subst (λ (z : Bool). cond z (ParentWaits K b id l) (ElementWaits (E a) b id l)) (sym low') (subst (λ (z : Bool). cond z (ParentWaits t.parent b id l) (ElementWaits (E a) b id l)) low' h))
      waited a b id l h (inl up) =
          let here : ParentWaits t.parent b id l = subst (λ (z : Bool). cond z (ParentWaits t.parent b id l) (ElementWaits (E a) b id l)) up h in
          elim (old here.0 here.1) [
            | inl before ↦ inl (subst (λ (z : Bool). cond z (ParentWaits K b id l) (ElementWaits (E a) b id l)) (sym up) (here.0, before, here.2, here.3, here.4))
            | inr sent ↦
                let m = request_message here.0.id sent.0 here.0.target (here.0.child ∷ []) in
                let there : In {A = Output} (record { to = Inner b; message = m }) t.outputs = subst (λ (p : Peer). In {A = Output} (record { to = p; message = m }) t.outputs) here.2 sent.1 in
                inr (same_as_is a parent_as up, (m, In-put b m t.outputs there, id_of here.0.id sent.0 here.0.target (here.0.child ∷ []) ∙ ap (λ (y : ℕ). Some y) here.3))
          ]

-- ---- queues that lose something

pub record Popped (a b : As) (m : Message) (ds : Transcript) (E : Elements) (K : Parent) : Type 0 where
  pub low : As → As → ℕ
  pub ids : Ids low (Pops a b ∷ ds) E K
  pub new : (y : ℕ) → request_id m ≡ Some y → y ≤ low a b

pub pop_ids : (low : As → As → ℕ) (a b : As) (ds : Transcript) (E : Elements) (K : Parent) (x : Standing) (xs : List Standing) → standing a b ds ≡ x ∷ xs → Ids low ds E K → Popped a b x.message ds E K
pop_ids low a b ds E K x xs stands ids =
    let r = rising_tail x.message (messages_in xs) (low a b) (last_of E K a b) (subst (λ (l : List Standing). Rising (messages_in l) (low a b) (last_of E K a b)) stands (ids.climbs a b)) in
    record {
      low = set_pair a b r.0 low;
      ids = record {
        names = λ a' b' y l h. let le = ids.names a' b' y l h in let more = above r.0 r.1 a' b' in omega arith;
        climbs = λ a' b'. climbs r.0 r.2 a' b';
        waits = ids.waits;
        short = λ a' b'. let s = ids.short a' b' in omega (arith, s);
        once = ids.once;
      };
      new = λ y is. let le = (r.3 y is).1 in let same = own r.0 in omega (arith, le, same);
    }
  where
    own : (new : ℕ) → set_pair a b new low a b ≡ new
    own new = ap (λ (z : Bool). cond z (cond (same_as b b) new (low a b)) (low a b)) (as_self a) ∙ ap (λ (z : Bool). cond z new (low a b)) (as_self b)

    above : (new : ℕ) → low a b ≤ new → (a' b' : As) → low a' b' ≤ set_pair a b new low a' b'
    above new le a' b' = go (same_as a a') (same_as b b') refl refl
      where
        go : (t u : Bool) → same_as a a' ≡ t → same_as b b' ≡ u → low a' b' ≤ cond t (cond u new (low a' b')) (low a' b')
        go true true e f = subst (λ (z : As). low z b' ≤ new) (same_as_is a a' e) (subst (λ (z : As). low a z ≤ new) (same_as_is b b' f) le)
        go true false e f = omega arith
        go false u e f = omega arith

    climbs : (new : ℕ) → Rising (messages_in xs) new (last_of E K a b) → (a' b' : As) → Rising (queues_at (Pops a b ∷ ds) a' b') (set_pair a b new low a' b') (last_of E K a' b')
    climbs new h a' b' = go (same_as a a') (same_as b b') refl refl
      where
        go : (t u : Bool) → same_as a a' ≡ t → same_as b b' ≡ u →
            Rising (messages_in (cond t (cond u (tail_of (standing a' b' ds)) (standing a' b' ds)) (standing a' b' ds) ++ [])) (cond t (cond u new (low a' b')) (low a' b')) (last_of E K a' b')
        go true true e f =
            subst (λ (l : List Standing). Rising (messages_in l) new (last_of E K a' b')) (sym (nil_right (tail_of (standing a' b' ds))))
            (subst (λ (z : As). Rising (messages_in (tail_of (standing z b' ds))) new (last_of E K z b')) (same_as_is a a' e)
            (subst (λ (z : As). Rising (messages_in (tail_of (standing a z ds))) new (last_of E K a z)) (same_as_is b b' f)
            (subst (λ (l : List Standing). Rising (messages_in (tail_of l)) new (last_of E K a b)) (sym stands) h)))
        go true false e f = subst (λ (l : List Standing). Rising (messages_in l) (low a' b') (last_of E K a' b')) (sym (nil_right (standing a' b' ds))) (ids.climbs a' b')
        go false u e f = subst (λ (l : List Standing). Rising (messages_in l) (low a' b') (last_of E K a' b')) (sym (nil_right (standing a' b' ds))) (ids.climbs a' b')

pub clear_ids : (low : As → As → ℕ) (one other : As) (ds : Transcript) (E : Elements) (K : Parent) → Ids low ds E K → Ids low (Clears one other ∷ ds) E K
clear_ids low one other ds E K ids = record {
  names = ids.names;
  climbs = λ a b. climbs a b (same_link one other a b);
  waits = ids.waits;
  short = λ a b. let s = ids.short a b in omega (arith, s);
  once = ids.once;
}
  where
    climbs : (a b : As) (t : Bool) → Rising (messages_in (cond t [] (standing a b ds) ++ [])) (low a b) (last_of E K a b)
    climbs a b true = rising_le (queues_at ds a b) (low a b) (last_of E K a b) (ids.climbs a b)
    climbs a b false = subst (λ (l : List Standing). Rising (messages_in l) (low a b) (last_of E K a b)) (sym (nil_right (standing a b ds))) (ids.climbs a b)

-- a deed that sends nothing, of nodes that keep what counts
pub quiet_ids : (low : As → As → ℕ) (e : Deed Segment) (ds : Transcript) (E E' : Elements) (K K' : Parent) → ((a b : As) → standing a b (e ∷ ds) ≡ standing a b ds ++ []) → ((a b : As) → asks a b (e ∷ ds) ≡ asks a b ds + 0) →
    ((d : As) → (E' d).pending ≡ (E d).pending) → ((d b : As) → Last (E' d).ways b ≡ Last (E d).ways b) → K'.pending ≡ K.pending → ((b : As) → Last K'.ways b ≡ Last K.ways b) →
    Ids low ds E K → Ids low (e ∷ ds) E' K'
quiet_ids low e ds E E' K K' same count rows ways above ways' ids = record {
  names = λ a b x l h. ids.names a b x l (named a b x l (same_as b parent_as) h);
  climbs = λ a b. subst (λ (z : ℕ). Rising (queues_at (e ∷ ds) a b) (low a b) z) (sym (lasts a b))
      (subst (λ (l : List Standing). Rising (messages_in l) (low a b) (last_of E K a b)) (sym (same a b ∙ nil_right (standing a b ds))) (ids.climbs a b));
  waits = λ a b id l h. let le = ids.waits a b id l (waited a b id l (same_as a parent_as) h) in let same' = lasts a b in omega (arith, le, same');
  short = λ a b. let s = ids.short a b in let same' = lasts a b in let more = count a b in omega (arith, s, same', more);
  once = λ q y. subst (λ (p : Pending parent.Asking). count_waits q y (all_waits p.rows) ≤ 1) (sym above) (ids.once q y);
}
  where
    lasts : (a b : As) → last_of E' K' a b ≡ last_of E K a b
    lasts a b = go (same_as a parent_as)
      where
        go : (x : Bool) → cond x (Last K'.ways b) (Last (E' a).ways b) ≡ cond x (Last K.ways b) (Last (E a).ways b)
        go true = ways' b
        go false = ways a b

    named : (a b : As) (x : ℕ) (l : List As) (z : Bool) → cond z (upper.Named K' (Inner a) x) (lower.Named Pin Segment (E' b) (Inner a) x l) → cond z (upper.Named K (Inner a) x) (lower.Named Pin Segment (E b) (Inner a) x l)
    named a b x l true h = (h.0, subst (λ (p : Pending parent.Asking). In h.0 p.rows) above h.1, h.2)
    named a b x l false h = (h.0, subst (λ (p : Pending (Item Pin)). In h.0 p.rows) (rows b) h.1, h.2, h.3)

    waited : (a b : As) (id : ℕ) (l : List As) (z : Bool) → cond z (ParentWaits K' b id l) (ElementWaits (E' a) b id l) → cond z (ParentWaits K b id l) (ElementWaits (E a) b id l)
    waited a b id l true h = (h.0, (h.1.0, subst (λ (p : Pending parent.Asking). In h.1.0 p.rows) above h.1.1, h.1.2), h.2, h.3, h.4)
    waited a b id l false h = (h.0, (h.1.0, subst (λ (p : Pending (Item Pin)). In h.1.0 p.rows) (rows a) h.1.1, h.1.2, h.1.3), h.2)
