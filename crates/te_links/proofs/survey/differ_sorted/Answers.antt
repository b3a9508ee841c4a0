use Rattle.std.proofs.Common.{List, subst}
use Rattle.std.specs.Prelude.{IsPermutation}
use Rattle.std.proofs.lemmas.List.Sorted.{IsPermutation-sym, IsNonDecreasingBy-from_sort}
use Rattle.dom_base.specs.AddrOrder.{rank}
use Rattle.dom_base.specs.declared.addr.Addr.{Addr}
use Rattle.te_links.proofs.Moved.{permuted_differ, strictly}
use Rattle.te_links.proofs.Different.{risen_differ}
use Rattle.te_links.proofs.survey.differ_sorted.Goals as goal

pub returns : goal.returns
returns c =
    let addrs = c.args.addrs.now in
    let sorted = c.sort_unstable.new.self.items in
    let moved : IsPermutation addrs sorted = subst (λ (xs : List Addr). IsPermutation xs sorted) c.in_ok-sorted.ensures.items c.sort_unstable.ensures.permutation in
    let up = IsNonDecreasingBy-from_sort (λ (a : Addr). rank a) sorted c.sort_unstable.ensures.sorted in
    let told = rw c.deref.ensures.value at c.rises.ensures in (
      λ is. permuted_differ sorted addrs (IsPermutation-sym addrs sorted moved) (risen_differ sorted (told.0 is)),
      λ differ. told.1 (strictly (λ (a : Addr). a) sorted up (permuted_differ addrs sorted moved differ)),
    )
