-- The front of a search, arc by arc and node by node.
use Rattle.std.proofs.Common.{◌≡◌, ◌≢◌, inl, inr, ℕ, ◌<◌, ◌≤◌, Bool, true, false, List, [], ◌∷◌, ◌++◌, length, arith, refl, sym, ◌∙◌, ap, subst, None, Some}
use Rattle.std.specs.Prelude.{slice_set, slice_index_or}
use Rattle.std.specs.declared.option.Option.{Option}
use Rattle.std.proofs.lemmas.Bool.Decides.{eqb_tells}
use Rattle.std.proofs.lemmas.List.{get_or-set_same, get_or-set_other}
use Rattle.std.proofs.Math.ListN.{length-set}
use Rattle.std.proofs.lemmas.List.Elements.{All-push, All-weaker, Contains-push, Contains-append_left}
use Rattle.dom_base.specs.declared.query.Label.{Label}
use Rattle.walk_laws.specs.Certificate.{AtMost}
use Rattle.path_search.specs.declared.arc.Arc.{Arc}
use Rattle.path_search.specs.Arcs.{label_at, IsArcAmong, joined, IsBelow, Lowers, IsRelaxed, AreSupported, Keeps, Settles}
use Rattle.path_search.specs.Front.{cost_of, cost_at, is_done, IsFront, IsLeastAt, Spreads}
use Rattle.path_search.proofs.Relaxing.{IsWritten, written, below_most, same_le, lowers_keeps}

-- more arcs support no less
more_arcs : (cap : ℕ) (arcs : List Arc) (a : Arc) (start labels : List (Option Label)) → AreSupported cap arcs start labels → AreSupported cap (arcs ++ a ∷ []) start labels
more_arcs cap arcs a start labels are i b is =
    let s = are i b is in
    record {
      within = s.within;
      made = elim s.made [ inl first ↦ inl first | inr by ↦ inr (by.0, Contains-append_left arcs (a ∷ []) by.0 by.1, by.2) ];
    }

-- an arc that changes nothing
pub front_same : (cap : ℕ) (arcs : List Arc) (a : Arc) (start labels : List (Option Label)) (waiting : List (Option ℕ)) (done : List Bool) (last : Label) →
    IsFront cap arcs start labels waiting done last → is_done done a.head ≡ true → IsRelaxed cap labels a → IsFront cap (arcs ++ a ∷ []) start labels waiting done last
front_same cap arcs a start labels waiting done last f head relaxed = record {
  same_length = f.same_length;
  as_long = f.as_long;
  supported = more_arcs cap arcs a start labels f.supported;
  no_higher = f.no_higher;
  settled = f.settled;
  apart = f.apart;
  waits = f.waits;
  later = f.later;
  heads = All-push (λ (x : Arc). is_done done x.head ≡ true) arcs a f.heads head;
  relaxed = All-push (IsRelaxed cap labels) arcs a f.relaxed relaxed;
}

-- a settled label is below what an arc from the last one makes
not_below : (a : Arc) (last b : Label) → 1 ≤ a.weight → b.cost ≤ last.cost → IsBelow (joined a last) (Some b) → ⊥
not_below a last b heavy le (inl lt) = omega (arith, le, lt)
not_below a last b heavy le (inr same) = omega (arith, le, same.0)

-- no arc lowers a settled label
pub unsettled : (cap : ℕ) (arcs : List Arc) (a : Arc) (start labels : List (Option Label)) (waiting : List (Option ℕ)) (done : List Bool) (last : Label) →
    IsFront cap arcs start labels waiting done last → 1 ≤ a.weight → IsBelow (joined a last) (label_at labels a.tail) → is_done done a.tail ≡ true → ⊥
unsettled cap arcs a start labels waiting done last f heavy below is =
    let s = f.settled a.tail is in
    not_below a last s.0 heavy s.1.1 (subst (λ (o : Option Label). IsBelow (joined a last) o) s.1.0 below)

-- what was relaxed stays so where the label of another node is lowered
still_relaxed : (cap : ℕ) (old new : List (Option Label)) (t : ℕ) (v : Label) (a : Arc) → IsWritten old new t v → IsBelow v (label_at old t) → a.head ≢ t →
    IsRelaxed cap old a → IsRelaxed cap new a
still_relaxed cap old new t v a w better other was rest at_head within =
    let most : AtMost (label_at old a.tail) (joined a rest) = was rest (sym (w.others a.head other) ∙ at_head) within in
    elim (eqb_tells a.tail t) [
      | inl same ↦
          let here : label_at new a.tail ≡ Some v = ap (label_at new) same.1 ∙ w.here in
          subst (λ (o : Option Label). AtMost o (joined a rest)) (sym here)
          (below_most v (label_at old t) (joined a rest) better (subst (λ n. AtMost (label_at old n) (joined a rest)) same.1 most))
      | inr differs ↦ subst (λ (o : Option Label). AtMost o (joined a rest)) (sym (w.others a.tail differs.1)) most
    ]

-- a cost is written at a place, and stands there; elsewhere nothing changes
record IsPut (old new : List (Option ℕ)) (t : ℕ) (c : Option ℕ) : Type 0 where
  pub here : cost_at new t ≡ c
  pub others : (i : ℕ) → i ≢ t → cost_at new i ≡ cost_at old i

put_at : (old new : List (Option ℕ)) (t : ℕ) (c : Option ℕ) → t < length old → new ≡ slice_set old t c → IsPut old new t c
put_at old new t c below is = record {
  here = rw is (get_or-set_same old t c None below);
  others = λ i other. rw is (get_or-set_other old t i c None other);
}

-- an arc from the last settled node lowers a label
pub front_lowered : (cap : ℕ) (arcs : List Arc) (a : Arc) (start old new : List (Option Label)) (waiting next : List (Option ℕ)) (done : List Bool) (last : Label) →
    IsFront cap arcs start old waiting done last → IsArcAmong (length old) a → is_done done a.head ≡ true → label_at old a.head ≡ Some last →
    Lowers cap a old new → next ≡ slice_set waiting a.tail (cost_of (label_at new a.tail)) → IsFront cap (arcs ++ a ∷ []) start new next done last
front_lowered cap arcs a start old new waiting next done last f among head at_head low is =
    let both : Some low.rest ≡ Some last = sym low.at_head ∙ at_head in
    let rest_is : low.rest ≡ last = cc in
    let v : Label = joined a low.rest in
    let w : IsWritten old new a.tail v = written old new a.tail v among.tail low.is in
    let below : IsBelow (joined a last) (label_at old a.tail) = subst (λ (r : Label). IsBelow (joined a r) (label_at old a.tail)) rest_is low.better in
    let fresh : is_done done a.tail ≡ true → ⊥ = unsettled cap arcs a start old waiting done last f among.heavy below in
    let k : Keeps cap (arcs ++ a ∷ []) old new = lowers_keeps cap (arcs ++ a ∷ []) a old new (Contains-push arcs a) among low in
    let puts : next ≡ slice_set waiting a.tail (Some v.cost) = is ∙ ap (λ (o : Option Label). slice_set waiting a.tail (cost_of o)) w.here in
    let ww : IsPut waiting next a.tail (Some v.cost) = put_at waiting next a.tail (Some v.cost) (omega (arith, among.tail, f.as_long)) puts in
    let other : (i : ℕ) → is_done done i ≡ true → i ≢ a.tail = λ i done_i same. fresh (subst (λ n. is_done done n ≡ true) same done_i) in
    record {
      same_length = k.same_length ∙ f.same_length;
      as_long = (ap length puts ∙ simp length-set) ∙ (f.as_long ∙ sym k.same_length);
      supported = k.supported start (more_arcs cap arcs a start old f.supported);
      no_higher = k.no_higher start f.no_higher;
      settled = λ i done_i. let s = f.settled i done_i in (s.0, (w.others i (other i done_i) ∙ s.1.0, s.1.1));
      apart = λ i done_i. ww.others i (other i done_i) ∙ f.apart i done_i;
      waits = λ i not_done.
          elim (eqb_tells i a.tail) [
            | inl same ↦ (ap (cost_at next) same.1 ∙ ww.here) ∙ sym (ap cost_of (ap (label_at new) same.1 ∙ w.here))
            | inr differs ↦ ww.others i differs.1 ∙ (f.waits i not_done ∙ sym (ap cost_of (w.others i differs.1)))
          ];
      later = λ i n is_n.
          elim (eqb_tells i a.tail) [
            | inl same ↦
                let is_v : Some v.cost ≡ Some n = sym ww.here ∙ (sym (ap (cost_at next) same.1) ∙ is_n) in
                let v_is : v.cost ≡ n = cc in
                omega (arith, v_is, ap (λ (r : Label). r.cost) rest_is)
            | inr differs ↦ f.later i n (sym (ww.others i differs.1) ∙ is_n)
          ];
      heads = All-push (λ (x : Arc). is_done done x.head ≡ true) arcs a f.heads head;
      relaxed = All-push (IsRelaxed cap new) arcs a
          (λ j d below_j.
          let x : Arc = slice_index_or arcs j d in
          still_relaxed cap old new a.tail v x w low.better (other x.head (f.heads j d below_j)) (f.relaxed j d below_j))
          (λ rest at_rest within.
          let same : Some rest ≡ Some low.rest = sym at_rest ∙ (w.others a.head (other a.head head) ∙ low.at_head) in
          let rest_same : low.rest ≡ rest = cc in
          subst (λ (o : Option Label). AtMost o (joined a rest)) (sym w.here) (same_le v (joined a rest) (ap (joined a) rest_same)));
    }

pub front_spread : (cap : ℕ) (arcs : List Arc) (a : Arc) (start old new : List (Option Label)) (waiting next : List (Option ℕ)) (done : List Bool) (last : Label) →
    IsFront cap arcs start old waiting done last → IsArcAmong (length old) a → is_done done a.head ≡ true → label_at old a.head ≡ Some last →
    Spreads cap a old new waiting next → IsFront cap (arcs ++ a ∷ []) start new next done last
front_spread cap arcs a start old new waiting next done last f among head at_head (inl low) = front_lowered cap arcs a start old new waiting next done last f among head at_head low.0 low.1
front_spread cap arcs a start old new waiting next done last f among head at_head (inr same) =
    let kept : IsFront cap arcs start new next done last =
    subst (λ (ls : List (Option Label)). IsFront cap arcs start ls next done last) (sym same.0)
    (subst (λ (ws : List (Option ℕ)). IsFront cap arcs start old ws done last) (sym same.1.0) f) in
    front_same cap arcs a start new next done last kept head (subst (λ (ls : List (Option Label)). IsRelaxed cap ls a) (sym same.0) same.1.1)

pub set_done : (done : List Bool) (v : ℕ) → v < length done → (is_done (slice_set done v true) v ≡ true) × ((i : ℕ) → i ≢ v → is_done (slice_set done v true) i ≡ is_done done i)
set_done done v below = (get_or-set_same done v true false below, λ i other. get_or-set_other done v i true false other)

-- a node that waits isn't settled yet
pub undone : (cap : ℕ) (arcs : List Arc) (start labels : List (Option Label)) (waiting : List (Option ℕ)) (done : List Bool) (last : Label) (v n : ℕ) →
    IsFront cap arcs start labels waiting done last → cost_at waiting v ≡ Some n → is_done done v ≡ false
undone cap arcs start labels waiting done last v n f at = go (is_done done v) refl
  where
    go : (t : Bool) → is_done done v ≡ t → is_done done v ≡ false
    go false now = now
    go true now = let bad : None ≡ Some n = sym (f.apart v now) ∙ at in cc

labelled : (o : Option Label) (n : ℕ) → cost_of o ≡ Some n → (b : Label) × ((o ≡ Some b) × (b.cost ≡ n))
labelled None n is = let bad : None ≡ Some n = is in cc
labelled (Some b) n is = (b, (refl, (let both : Some b.cost ≡ Some n = is in cc)))

-- a node that waits has a label of the cost that waits
pub label_that_waits : (cap : ℕ) (arcs : List Arc) (start labels : List (Option Label)) (waiting : List (Option ℕ)) (done : List Bool) (last : Label) (v n : ℕ) →
    IsFront cap arcs start labels waiting done last → cost_at waiting v ≡ Some n → (b : Label) × ((label_at labels v ≡ Some b) × (b.cost ≡ n))
label_that_waits cap arcs start labels waiting done last v n f at =
    labelled (label_at labels v) n (sym (f.waits v (undone cap arcs start labels waiting done last v n f at)) ∙ at)

-- the least node that waits is settled
pub front_taken : (cap : ℕ) (arcs : List Arc) (start labels : List (Option Label)) (waiting next : List (Option ℕ)) (done after : List Bool) (last b : Label) (v n : ℕ) →
    IsFront cap arcs start labels waiting done last → v < length waiting → v < length done → IsLeastAt waiting v n → label_at labels v ≡ Some b → b.cost ≡ n →
    next ≡ slice_set waiting v None → after ≡ slice_set done v true → IsFront cap arcs start labels next after b
front_taken cap arcs start labels waiting next done after last b v n f below room least at_v cost is is_after =
    let taken : IsPut waiting next v None = put_at waiting next v None below is in
    let here : is_done after v ≡ true = rw is_after ((set_done done v room).0) in
    let kept : (i : ℕ) → i ≢ v → is_done after i ≡ is_done done i = λ i other. rw is_after ((set_done done v room).1 i other) in
    let low : last.cost ≤ n = f.later v n least.at in
    let mono : (i : ℕ) → is_done done i ≡ true → is_done after i ≡ true =
    λ i done_i. elim (eqb_tells i v) [ inl same ↦ ap (is_done after) same.1 ∙ here | inr differs ↦ kept i differs.1 ∙ done_i ] in
    record {
      same_length = f.same_length;
      as_long = (ap length is ∙ simp length-set) ∙ f.as_long;
      supported = f.supported;
      no_higher = f.no_higher;
      settled = λ i done_i.
          elim (eqb_tells i v) [
            | inl same ↦ (b, (ap (label_at labels) same.1 ∙ at_v, omega arith))
            | inr differs ↦ let s = f.settled i (sym (kept i differs.1) ∙ done_i) in (s.0, (s.1.0, omega (arith, s.1.1, low, cost)))
          ];
      apart = λ i done_i.
          elim (eqb_tells i v) [
            | inl same ↦ ap (cost_at next) same.1 ∙ taken.here
            | inr differs ↦ taken.others i differs.1 ∙ f.apart i (sym (kept i differs.1) ∙ done_i)
          ];
      waits = λ i not_done.
          elim (eqb_tells i v) [
            | inl same ↦ let bad : true ≡ false = sym here ∙ (sym (ap (is_done after) same.1) ∙ not_done) in cc
            | inr differs ↦ taken.others i differs.1 ∙ f.waits i (sym (kept i differs.1) ∙ not_done)
          ];
      later = λ i m is_m.
          elim (eqb_tells i v) [
            | inl same ↦ let bad : None ≡ Some m = sym taken.here ∙ (sym (ap (cost_at next) same.1) ∙ is_m) in cc
            | inr differs ↦ omega (arith, least.least i m (sym (taken.others i differs.1) ∙ is_m), cost)
          ];
      heads = All-weaker (λ (x : Arc). is_done done x.head ≡ true) (λ (x : Arc). is_done after x.head ≡ true) (λ x h. mono x.head h) arcs f.heads;
      relaxed = f.relaxed;
    }

-- when no node waits the arcs are settled
pub front_over : (cap : ℕ) (arcs : List Arc) (start labels : List (Option Label)) (waiting : List (Option ℕ)) (done : List Bool) (last : Label) →
    IsFront cap arcs start labels waiting done last → Settles cap arcs start labels
front_over cap arcs start labels waiting done last f = record {
  same_length = f.same_length;
  no_higher = f.no_higher;
  relaxed = f.relaxed;
  supported = f.supported;
}
