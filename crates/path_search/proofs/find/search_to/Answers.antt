use Rattle.std.proofs.Common.{◌≡◌, ◌<◌, Bool, false, List, length, refl, sym, ap, subst, arith}
use Rattle.std.specs.Prelude.{All}
use Rattle.std.proofs.lemmas.List.{length-replicate}
use Rattle.path_search.specs.Front.{is_done}
use Rattle.path_search.proofs.Certified.{start_within}
use Rattle.path_search.proofs.ReadLinks.{none_done}
use Rattle.path_search.proofs.find.search_to.Goals as goal

pub settle_to-reach-requires : goal.settle_to-reach-requires
settle_to-reach-requires g c κs =
    let rows = g.G.Links.rows c.args.links.now in
    let starts = c.in_ok-labels.ensures.starts in
    let labels = c.in_ok-labels.labels in
    rw c.deref_mut.ensures.value (
      (refl, tt),
      (
        c.in_ok-labels.ensures.rules,
        (
          c.in_ok-asked.ensures,
          (
            subst (λ n. All (λ i. i < n) c.args.stops.now) (sym starts.same_length) c.requires,
            (
              starts.same_length,
              (
                start_within rows c.args.query.now c.args.seeds.now labels starts,
                (
                  c.in_ok-waiting.ensures,
                  (
                    omega (arith, ap (λ (bs : List Bool). length bs) c.in_ok-done.ensures, length-replicate {A = Bool} c.len.result false, c.len.ensures),
                    (λ i. subst (λ (bs : List Bool). is_done bs i ≡ false) (sym c.in_ok-done.ensures) (none_done c.len.result i)),
                  ),
                ),
              ),
            ),
          ),
        ),
      ),
    )

pub returns-clause-labels : goal.returns-clause-labels
returns-clause-labels g c = c.settle_to-reach.ensures.labels c.args.seeds.now c.in_ok-labels.ensures.starts
