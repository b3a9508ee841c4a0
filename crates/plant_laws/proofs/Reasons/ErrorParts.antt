-- What is said to an error of an element, or the parent: what its one error calls for.
use Rattle.std.proofs.Common.{◌≡◌, ℕ, Bool, List, [], ◌++◌, Option, Some, None, sym, ◌∙◌, ap, subst, inl, inr, refl, arith}
use Rattle.std.specs.Prelude.{◌⊎◌}
use Rattle.plant_model.specs.Types.{Peer, Asked, Message}
use Rattle.pcep_codes.specs.declared.errors.TheConstants as errors
use Rattle.plant_model.specs.declared.output.Output.{Output}
use Rattle.plant_model.specs.Writing.{error_message}
use Rattle.plant_laws.specs.MessageCauses.{Asker, IsOutOfProfile, OnError, Part, parts, OnParts}
use Rattle.plant_laws.proofs.Runs.Decompose.{nil_right}

-- PCErr 8/0 and 4/2 are not out of the profile
pub unknown_fine : IsOutOfProfile errors.UNKNOWN_REQUEST → ⊥
unknown_fine (inl is) = (let clash : 8 ≡ 4 = is.0 in omega (arith, clash))
unknown_fine (inr is) = (let clash : 8 ≡ 13 = is.0 in omega (arith, clash))

pub kind_fine : IsOutOfProfile errors.KIND_NOT_SERVED → ⊥
kind_fine (inl is) = (let clash : 2 ≡ 4 = is.1 in omega (arith, clash))
kind_fine (inr is) = (let clash : 4 ≡ 13 = is.0 in omega (arith, clash))

module _ (K : Type 0) (Waiting : K → ℕ → Asker → Type 0) (OnAsked : Asked → K → List Output → Type 0) (left : Message → K → K) (of_parent' : Bool) (q : Peer) where
  abbrev Ons : List Part → K → List Output → Type 0
  Ons xs k os = OnParts K Waiting OnAsked left of_parent' q xs k os

  pub one_error : (rp : Option (ℕ × ℕ)) (kind value : ℕ) (m : Message) (k : K) (os : List Output) → m ≡ error_message rp kind value → Ons (parts m) k os →
      (os ≡ []) ⊎ ((rp' : ℕ × ℕ) × (rp ≡ Some rp') × OnError (Waiting k rp'.1) (kind, value) os)
  one_error rp kind value m k os is on = go rp (subst (λ (z : Message). Ons (parts z) k os) is on)
    where
      go : (o : Option (ℕ × ℕ)) → Ons (parts (error_message o kind value)) k os → (os ≡ []) ⊎ ((rp' : ℕ × ℕ) × (o ≡ Some rp') × OnError (Waiting k rp'.1) (kind, value) os)
      go None on' = inl on'
      go (Some rp') on' = inr (rp', refl, subst (OnError (Waiting k rp'.1) (kind, value)) (sym (on'.2 ∙ ap (λ (l : List Output). on'.0 ++ l) on'.4 ∙ nil_right on'.0)) on'.3)
