-- What lasts in each of several steps lasts over all of them.
use Rattle.std.proofs.Common.{◌≡◌, ◌∙◌, Bool, Option, Some, None, refl, ap}
use Rattle.plant_model.specs.Types.{Held}
use Rattle.request_table.specs.Pending.{Pending}
use Rattle.plant_model.specs.Parent as parent
use Rattle.plant_model.specs.State.{State}
use Rattle.plant_laws.specs.Lasting.{held_at, LastsAs, RequestsLast, JobsLast, can_solve}

module _ {T : Type 0} (ready : T → Bool) where
  pub still_as : (o : Option (Held T)) → LastsAs ready o o
  still_as None = tt
  still_as (Some h) = λ is. refl

  pub on_as : (o p q : Option (Held T)) → LastsAs ready o p → LastsAs ready p q → LastsAs ready o q
  on_as o p None first second = tt
  on_as None None (Some k) first second = absurd second
  on_as (Some i) None (Some k) first second = absurd second
  on_as None (Some j) (Some k) first second = absurd first
  on_as (Some i) (Some j) (Some k) first second =
      λ is. let same : j ≡ i = first is in second (ap (λ (x : Held T). ready x.item) same ∙ is) ∙ same

  pub requests_still : (p : Pending T) → RequestsLast ready p p
  requests_still p = λ n below. (below, still_as (held_at n p))

  pub requests_on : (a b c : Pending T) → RequestsLast ready a b → RequestsLast ready b c → RequestsLast ready a c
  requests_on a b c first second = λ n below.
      let one = first n below in
      let two = second n one.0 in
      (two.0, on_as (held_at n a) (held_at n b) (held_at n c) one.1 two.1)

pub jobs_still : {P : Type 0} {S : Type 0} (s : State P S) → JobsLast s s
jobs_still s = record { elements = λ d. requests_still can_solve (s.elements d).pending; parent = requests_still parent.is_ready s.parent.pending }

pub jobs_on : {P : Type 0} {S : Type 0} (a b c : State P S) → JobsLast a b → JobsLast b c → JobsLast a c
jobs_on a b c first second = record {
  elements = λ d. requests_on can_solve (a.elements d).pending (b.elements d).pending (c.elements d).pending (first.elements d) (second.elements d);
  parent = requests_on parent.is_ready a.parent.pending b.parent.pending c.parent.pending first.parent second.parent;
}
