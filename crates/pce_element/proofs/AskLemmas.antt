-- What an element does with a request, by what its code looks at.
use Rattle.std.proofs.Common.{◌≡◌, ◌≤◌, ℕ, Bool, true, false, not, Some, None, List, [], ◌∷◌, ◌++◌, length, drop, arith, refl, sym, ap, subst}
use Rattle.std.specs.Prelude.{slice_get}
use Rattle.std.proofs.lemmas.List.{append-nil}
use Rattle.pce_common.specs.plant_model.Types.{As, Peer, Wanted, Class}
use Rattle.disclosure.specs.Policy.{is_denied}
use Rattle.request_table.specs.Pending.{opened_of}
use Rattle.pce_common.specs.plant_model.declared.output.Output.{Output}
use Rattle.pce_common.specs.plant_model.Element.{Element, ElementSettings, Ready, Taken, each, silent, way_to}
use Rattle.pce_common.specs.plant_model.Routes.{toward}
use Rattle.pce_common.specs.plant_model.Taking.{item_of, send_on, take_along, sight, wanting}
use Rattle.pce_element.specs.Changes.{IsDraft}
use Rattle.pce_element.specs.Seen.{Seen}
use Rattle.pce_element.specs.declared.change.Draft.{Draft}

pub along_next : {P : Type 0} {S : Type 0} → (e : ElementSettings) (pin : P) (p : Peer) (class : Class) (flags x : ℕ) (w : Wanted) (k : Element P S) (sequence : List As) (next : As) → slice_get sequence 1 ≡ Some next →
    send_on (sight pin p class) (wanting flags x w) sequence (drop 1 sequence) (is_denied e.deny class next) k (way_to (toward next e.routes) k.ways) ≡ take_along e (sight pin p class) (wanting flags x w) k sequence
along_next e pin p class flags x w k [] next at = absurd (let no : None ≡ Some next = at in cc)
along_next e pin p class flags x w k (a ∷ []) next at = absurd (let no : None ≡ Some next = at in cc)
along_next e pin p class flags x w k (a ∷ b ∷ rest) next at =
    let same : Some b ≡ Some next = at in
    ap (λ (n : As). send_on (sight pin p class) (wanting flags x w) (a ∷ b ∷ rest) (b ∷ rest) (is_denied e.deny class n) k (way_to (toward n e.routes) k.ways)) (let same' : next ≡ b = cc in same')

pub along_own : {P : Type 0} {S : Type 0} → (e : ElementSettings) (pin : P) (p : Peer) (class : Class) (flags x : ℕ) (w : Wanted) (k : Element P S) (sequence : List As) → length sequence ≡ 1 →
    silent (record k { pending = opened_of k.pending p x (item_of pin class flags w sequence (Ready [])) }) ≡ take_along e (sight pin p class) (wanting flags x w) k sequence
along_own e pin p class flags x w k [] one = absurd (omega (arith, one))
along_own e pin p class flags x w k (a ∷ []) one = refl
along_own e pin p class flags x w k (a ∷ b ∷ rest) one = absurd (omega (arith, one))

pub own_alone : (sequence : List As) → 1 ≤ length sequence → slice_get sequence 1 ≡ None → length sequence ≡ 1
own_alone [] some none = absurd (omega (arith, some))
own_alone (a ∷ []) some none = refl
own_alone (a ∷ b ∷ rest) some none = absurd (let no : Some b ≡ None = none in cc)

-- ---- a message of one part

pub draft_of : {P : Type 0} {S : Type 0} {D : Type 0} → (s : Seen P S) (t u : Taken P S) (d : Draft D S) → t ≡ u → IsDraft s t d → IsDraft s u d
draft_of {P} {S} {D} s t u d same is = subst (λ (x : Taken P S). IsDraft s x d) same is

pub only_one : {P : Type 0} {S : Type 0} → {X : Type 0} (f : X → Element P S → Taken P S) (x : X) (k : Element P S) → f x k ≡ each f (x ∷ []) k
only_one {P} {S} f x k = ap (λ (os : List Output). let t : Taken P S = record { element = (f x k).element; outputs = os } in t) (sym (append-nil (f x k).outputs))

pub one_of : {X : Type 0} (xs rest : List X) (x : X) → xs ≡ rest ++ x ∷ [] → length xs ≤ 1 → xs ≡ x ∷ []
one_of xs [] x is few = is
one_of xs (y ∷ rest) x is few = absurd (two rest (subst (λ (zs : _). length zs ≤ 1) is few))
  where
    two : (zs : List _) → length (y ∷ zs ++ x ∷ []) ≤ 1 → ⊥
    two [] few' = omega (arith, few')
    two (z ∷ zs) few' = omega (arith, few')

pub first_of_one : {X : Type 0} (xs rest : List X) (x : X) → xs ≡ x ∷ rest → length xs ≤ 1 → xs ≡ x ∷ []
first_of_one xs [] x is few = is
first_of_one xs (y ∷ rest) x is few = absurd (omega (arith, subst (λ (zs : _). length zs ≤ 1) is few))

pub not_back : (a b : Bool) → a ≡ not b → not a ≡ b
not_back a true is = ap not is
not_back a false is = ap not is
