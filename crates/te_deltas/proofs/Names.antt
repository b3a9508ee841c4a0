-- Names of rows that are the same.
use Rattle.std.proofs.Common.{◌≡◌, Bool, true, false, refl, sym, ◌∙◌, ap}
use Rattle.std.specs.Bool.{Decides}
use Rattle.std.specs.BTreeMap.{is_at}
use Rattle.std.proofs.lemmas.Bool.Decides.{same_from_decides}
use Rattle.te_deltas.specs.declared.name.RowName.{RowName}
use Rattle.te_deltas.specs.declared.name.RowName.TheVariants.{Node, Link, Out, Entry as EntryName}
use Rattle.te_deltas.specs.contracts.name.RowNameOrd.TheImpl as derived
use Rattle.te_deltas.specs.contracts.name.RowNamePartialEq.TheImpl as compared
use Rattle.te_deltas.specs.Changes.{same_name}
use Rattle.dom_base.proofs.Ranks.{Decides-rank}
use Rattle.te_links.proofs.Compared.{addr_told, entry_told}
use Rattle.te_links.proofs.Moved.{same_entry as entry_tested}

wrong : {X : Type 0} → false ≡ true → X
wrong h = absurd cc

pub name_is : (a b : RowName) → same_name a b ≡ true → a ≡ b
name_is (Node a) (Node b) h = ap Node ((Decides-rank a b).0 h)
name_is (Link a) (Link b) h = ap Link ((Decides-rank a b).0 h)
name_is (Out a) (Out b) h = ap Out ((Decides-rank a b).0 h)
name_is (EntryName d) (EntryName e) h = ap EntryName ((entry_tested d e).0 h)
name_is (Node a) (Link b) h = wrong h
name_is (Node a) (Out b) h = wrong h
name_is (Node a) (EntryName b) h = wrong h
name_is (Link a) (Node b) h = wrong h
name_is (Link a) (Out b) h = wrong h
name_is (Link a) (EntryName b) h = wrong h
name_is (Out a) (Node b) h = wrong h
name_is (Out a) (Link b) h = wrong h
name_is (Out a) (EntryName b) h = wrong h
name_is (EntryName a) (Node b) h = wrong h
name_is (EntryName a) (Link b) h = wrong h
name_is (EntryName a) (Out b) h = wrong h

pub name_self : (a : RowName) → same_name a a ≡ true
name_self (Node a) = (Decides-rank a a).1 refl
name_self (Link a) = (Decides-rank a a).1 refl
name_self (Out a) = (Decides-rank a a).1 refl
name_self (EntryName e) = (entry_tested e e).1 refl

pub Decides-name : (a b : RowName) → Decides (same_name a b) (a ≡ b)
Decides-name a b = (name_is a b, λ is. ap (λ (c : RowName). same_name a c) (sym is) ∙ name_self a)

both_ways : (a b : Bool) → (a ≡ true → b ≡ true) → (b ≡ true → a ≡ true) → a ≡ b
both_ways true true to from = refl
both_ways false false to from = refl
both_ways true false to from = sym (to refl)
both_ways false true to from = from refl

pub name_back : (a b : RowName) → same_name a b ≡ same_name b a
name_back a b = both_ways (same_name a b) (same_name b a) (λ h. (Decides-name b a).1 (sym (name_is a b h))) (λ h. (Decides-name a b).1 (sym (name_is b a h)))

-- the derived order ties the same names
pub order_same : (a b : RowName) → is_at (derived.cmp-value.it a) b ≡ same_name a b
order_same (Node a) (Node b) = same_from_decides _ _ (addr_told a b) (Decides-rank a b)
order_same (Link a) (Link b) = same_from_decides _ _ (addr_told a b) (Decides-rank a b)
order_same (Out a) (Out b) = same_from_decides _ _ (addr_told a b) (Decides-rank a b)
order_same (EntryName d) (EntryName e) = same_from_decides _ _ (entry_told d e) (entry_tested d e)
order_same (Node a) (Link b) = refl
order_same (Node a) (Out b) = refl
order_same (Node a) (EntryName b) = refl
order_same (Link a) (Node b) = refl
order_same (Link a) (Out b) = refl
order_same (Link a) (EntryName b) = refl
order_same (Out a) (Node b) = refl
order_same (Out a) (Link b) = refl
order_same (Out a) (EntryName b) = refl
order_same (EntryName a) (Node b) = refl
order_same (EntryName a) (Link b) = refl
order_same (EntryName a) (Out b) = refl

-- and so does the derived comparison
pub compared_same : (a b : RowName) → compared.eq-value.it a b ≡ same_name a b
compared_same (Node a) (Node b) = refl
compared_same (Link a) (Link b) = refl
compared_same (Out a) (Out b) = refl
compared_same (EntryName a) (EntryName b) = refl
compared_same (Node a) (Link b) = refl
compared_same (Node a) (Out b) = refl
compared_same (Node a) (EntryName b) = refl
compared_same (Link a) (Node b) = refl
compared_same (Link a) (Out b) = refl
compared_same (Link a) (EntryName b) = refl
compared_same (Out a) (Node b) = refl
compared_same (Out a) (Link b) = refl
compared_same (Out a) (EntryName b) = refl
compared_same (EntryName a) (Node b) = refl
compared_same (EntryName a) (Link b) = refl
compared_same (EntryName a) (Out b) = refl
