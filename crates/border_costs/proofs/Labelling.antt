-- The labels of all nodes, as rows of a certificate.
use Rattle.std.proofs.Common.{◌≡◌, ◌⊎◌, inl, inr, ℕ, suc, List, [], ◌∷◌, length, Bool, true, false, nat_eq, arith, refl, sym, ◌∙◌, ap, subst, Some, None}
use Rattle.std.specs.Prelude.{Contains, slice_get}
use Rattle.std.specs.List.{zip}
use Rattle.std.specs.declared.option.Option.{Option}
use Rattle.std.proofs.lemmas.List.Elements.{Contains-push_cases, Contains-append_cases}
use Rattle.dom_base.specs.AddrOrder.{rank}
use Rattle.dom_base.specs.declared.addr.Addr.{Addr}
use Rattle.dom_base.specs.declared.query.Query.{Query}
use Rattle.dom_base.specs.declared.query.Seed.{Seed}
use Rattle.dom_base.specs.declared.query.Label.{Label}
use Rattle.te_links.specs.Rows.{Rows}
use Rattle.dom_base.proofs.Ranks.{Decides-rank}
use Rattle.walk_laws.specs.Labels.{IsLabel}
use Rattle.walk_laws.specs.Certificate.{Certifies}
use Rattle.walk_laws.proofs.Admitted.{reaches_admits}
use Rattle.walk_laws.proofs.Complete.{least_certified}
use Rattle.path_search.specs.Arcs.{label_at}
use Rattle.path_search.specs.Search.{AreLabels}
use Rattle.path_certificate.specs.Rows.{label_in}

-- what the rows say of an address: the label at a place of it, or none where it stands nowhere
record IsFound (ns : List Addr) (ls : List (Option Label)) (n : Addr) : Type 0 where
  pub place : ℕ
  pub at : slice_get ns place ≡ Some n
  pub label : label_in (zip ns ls) n ≡ label_at ls place

record IsLost (ns : List Addr) (ls : List (Option Label)) (n : Addr) : Type 0 where
  pub nowhere : ¬ Contains ns n
  pub label : label_in (zip ns ls) n ≡ None

found : (ns : List Addr) (ls : List (Option Label)) (n : Addr) → length ls ≡ length ns → IsFound ns ls n ⊎ IsLost ns ls n
found [] ls n same = inr (record { nowhere = λ has. absurd (omega (arith, has.1)); label = refl })
found (m ∷ ns) [] n same = absurd (omega arith)
found (m ∷ ns) (o ∷ ls) n same = go (nat_eq (rank m) (rank n)) refl (found ns ls n (omega arith))
  where
    later : nat_eq (rank m) (rank n) ≡ false → label_in (zip (m ∷ ns) (o ∷ ls)) n ≡ label_in (zip ns ls) n
    later is = rw is refl

    go : (b : Bool) → nat_eq (rank m) (rank n) ≡ b → IsFound ns ls n ⊎ IsLost ns ls n → IsFound (m ∷ ns) (o ∷ ls) n ⊎ IsLost (m ∷ ns) (o ∷ ls) n
    go true is rest = inl (record { place = 0; at = ap Some ((Decides-rank m n).0 is); label = rw is refl })
    go false is (inl f) = inl (record { place = suc f.place; at = f.at; label = later is ∙ f.label })
    go false is (inr l) = inr (record {
      nowhere = λ has. elim (Contains-append_cases (m ∷ []) ns n has) [
        | inr there ↦ l.nowhere there
        | inl here ↦ elim (Contains-push_cases [] m n here) [
          | inl nothing ↦ omega (arith, nothing.1)
          | inr one ↦ (let t = (Decides-rank m n).1 one in cc)
        ]
      ];
      label = later is ∙ l.label;
    })

-- so each address has its label
labelled : (g : Rows) (q : Query) (seeds : List Seed) (ls : List (Option Label)) → AreLabels g q seeds ls → (n : Addr) → IsLabel g q seeds n (label_in (zip g.nodes ls) n)
labelled g q seeds ls are n =
    elim (found g.nodes ls n are.same_length) [
      | inl f ↦ subst (IsLabel g q seeds n) (sym f.label) (are.each f.place n f.at)
      | inr l ↦ subst (IsLabel g q seeds n) (sym l.label) (λ a r. l.nowhere (reaches_admits g q seeds n a r).is_node)
    ]

-- and the rows meet the conditions of a certificate
pub certified : (g : Rows) (q : Query) (seeds : List Seed) (ls : List (Option Label)) → AreLabels g q seeds ls → Certifies g q seeds (label_in (zip g.nodes ls))
certified g q seeds ls are = least_certified g q seeds (label_in (zip g.nodes ls)) (labelled g q seeds ls are)
