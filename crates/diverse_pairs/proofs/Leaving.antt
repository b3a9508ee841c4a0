-- Links that leave a cut, as links are looked at one after the other.
use Rattle.std.proofs.Common.{◌≡◌, inl, inr, ℕ, ◌+◌, ◌<◌, ◌≤◌, Bool, true, false, not, List, length, refl, subst, arith}
use Rattle.std.specs.Prelude.{◌↔◌, IsTrue, Contains}
use Rattle.std.proofs.lemmas.Bool.{cases_lt}
use Rattle.std.proofs.lemmas.Option.{slice_get_within}
use Rattle.dom_base.specs.declared.addr.Addr.{Addr}
use Rattle.dom_base.specs.declared.link.Link.{Link}
use Rattle.dom_base.specs.declared.query.Query.{Query}
use Rattle.te_links.specs.Rows.{Rows}
use Rattle.path_certificate.specs.Offers.{IsAdmittedAt}
use Rattle.diverse_pairs.specs.Conditions.{Leaves, IsOnlyToLeave}
use Rattle.diverse_pairs.proofs.Risen.{leaves_by}

-- a link that begins inside leaves where it doesn't end inside
pub leave_told : (g : Rows) (q : Query) (nodes : List Addr) (i : ℕ) (l : Link) (starts ends : Bool) → IsAdmittedAt g q i l → (IsTrue starts ↔ Contains nodes l.from) →
    (IsTrue ends ↔ Contains nodes l.to) → starts ≡ true → IsTrue (not ends) ↔ Leaves g q nodes i
leave_told g q nodes i l starts true at begins stays is = (
  λ bad. let no : false ≡ true = bad in absurd cc,
  λ leaves. absurd ((leaves_by g q nodes i l at leaves).1 (stays.0 refl)),
)
leave_told g q nodes i l starts false at begins stays is = (
  λ yes. record {
    link = l;
    at_link = at.at_link;
    admitted = at.admitted;
    inside = begins.0 is;
    outside = λ has. let no : false ≡ true = stays.1 has in cc;
  },
  λ leaves. refl,
)

pub stay_told : (g : Rows) (q : Query) (nodes : List Addr) (i : ℕ) (l : Link) (starts : Bool) → IsAdmittedAt g q i l → (IsTrue starts ↔ Contains nodes l.from) → starts ≡ false →
    IsTrue starts ↔ Leaves g q nodes i
stay_told g q nodes i l starts at begins is = (
  λ yes. let no : starts ≡ true = yes in absurd cc,
  λ leaves. begins.1 (leaves_by g q nodes i l at leaves).0,
)

-- one of the first k links leaves
abbrev pub LeavesBefore : Rows → Query → List Addr → ℕ → Type 0
LeavesBefore g q nodes k = (j : ℕ) × (j < k) × Leaves g q nodes j

pub skip_told : (g : Rows) (q : Query) (nodes : List Addr) (k : ℕ) (seen : Bool) → (IsTrue seen ↔ LeavesBefore g q nodes k) → ¬ Leaves g q nodes k → IsTrue seen ↔ LeavesBefore g q nodes (k + 1)
skip_told g q nodes k seen told stays = (
  λ is. let has = told.0 is in (has.0, omega (arith, has.1), has.2),
  λ has. elim (cases_lt has.0 k) [
    | inl lt ↦ told.1 (has.0, lt, has.2)
    | inr ge ↦ let same : has.0 ≡ k = omega (arith, has.1, ge) in absurd (stays (subst (Leaves g q nodes) same has.2))
  ],
)

pub skip_only : (g : Rows) (q : Query) (nodes : List Addr) (k : ℕ) → ((i : ℕ) → i < k → IsOnlyToLeave g q nodes i) → ¬ Leaves g q nodes k → (i : ℕ) → i < k + 1 → IsOnlyToLeave g q nodes i
skip_only g q nodes k only stays i below j before earlier here =
    elim (cases_lt i k) [
      | inl lt ↦ only i lt j before earlier here
      | inr ge ↦ let same : i ≡ k = omega arith in stays (subst (Leaves g q nodes) same here)
    ]

pub take_told : (g : Rows) (q : Query) (nodes : List Addr) (k : ℕ) → Leaves g q nodes k → IsTrue true ↔ LeavesBefore g q nodes (k + 1)
take_told g q nodes k leaves = (λ yes. (k, omega arith, leaves), λ has. refl)

pub take_only : (g : Rows) (q : Query) (nodes : List Addr) (k : ℕ) → ((i : ℕ) → i < k → IsOnlyToLeave g q nodes i) → ¬ LeavesBefore g q nodes k → (i : ℕ) → i < k + 1 → IsOnlyToLeave g q nodes i
take_only g q nodes k only none i below j before earlier here =
    elim (cases_lt i k) [
      | inl lt ↦ only i lt j before earlier here
      | inr ge ↦ none (j, omega arith, earlier)
    ]

pub all_only : (g : Rows) (q : Query) (nodes : List Addr) (k : ℕ) → length g.links ≤ k → ((i : ℕ) → i < k → IsOnlyToLeave g q nodes i) → (i : ℕ) → IsOnlyToLeave g q nodes i
all_only g q nodes k past only i j before earlier here =
    let below : i < length g.links = slice_get_within g.links i here.link here.at_link in
    only i (omega arith) j before earlier here
