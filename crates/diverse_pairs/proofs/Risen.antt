-- What a test at one link tells of its condition.
use Rattle.std.proofs.Common.{◌≡◌, Bool, ℕ, List, Some, sym, ◌∙◌, subst}
use Rattle.std.specs.Prelude.{◌↔◌, IsTrue, Contains}
use Rattle.dom_base.specs.declared.addr.Addr.{Addr}
use Rattle.dom_base.specs.declared.link.Link.{Link}
use Rattle.dom_base.specs.declared.query.Query.{Query}
use Rattle.te_links.specs.Rows.{Rows}
use Rattle.path_certificate.specs.Offers.{IsAdmittedAt}
use Rattle.diverse_pairs.specs.Conditions.{RisesRight, LinkHolds, LinkHoldsAt, Leaves}

pub rise_told : (g : Rows) (q : Query) (p : Addr → ℕ) (used : List Addr) (i : ℕ) (l : Link) (in_use r : Bool) → IsAdmittedAt g q i l → (IsTrue in_use ↔ Contains used l.far) →
    (IsTrue r ↔ RisesRight q p (IsTrue in_use) l) → IsTrue r ↔ LinkHoldsAt g q p used i
rise_told g q p used i l in_use r at uses rises = (
  λ is m at_m admitted.
      let both : Some l ≡ Some m = sym at.at_link ∙ at_m in
      let same : l ≡ m = cc in
      let told = rises.0 is in
      let here : LinkHolds q p used l = (λ lacks. told.0 (λ t. lacks (uses.0 t)), λ has. told.1 (uses.1 has)) in
      subst (LinkHolds q p used) same here,
  λ holds.
      let here = holds l at.at_link at.admitted in
      rises.1 (λ lacks. here.0 (λ has. lacks (uses.1 has)), λ t. here.1 (uses.0 t)),
)

-- the link that leaves is the one at the place
pub leaves_by : (g : Rows) (q : Query) (nodes : List Addr) (i : ℕ) (l : Link) → IsAdmittedAt g q i l → Leaves g q nodes i → Contains nodes l.from × ¬ Contains nodes l.to
leaves_by g q nodes i l at leaves =
    let both : Some leaves.link ≡ Some l = sym leaves.at_link ∙ at.at_link in
    let same : leaves.link ≡ l = cc in
    let P : Link → Type 0 = λ k. Contains nodes k.from × ¬ Contains nodes k.to in
    subst P same (leaves.inside, leaves.outside)
