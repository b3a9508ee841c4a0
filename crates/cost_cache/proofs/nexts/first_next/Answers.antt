use Rattle.std.proofs.Common.{ℕ, slice_index_or, refl, sym, subst, ◌∙◌}
use Rattle.te_links.specs.Rows.{Rows, IsTopology}
use Rattle.te_links.specs.Index.{LinkBeginsAt}
use Rattle.walk_laws.specs.Walks.{AdmitsNode}
use Rattle.std.specs.Prelude.{slice_get, ◌≡◌, Some}
use Rattle.path_search.specs.Segments.{IsLoose, AreOpen}
use Rattle.path_search.proofs.Choosing.{loose_all, loose_up_to}
use Rattle.cost_cache.specs.Hops.{IsTightNext}
use Rattle.cost_cache.proofs.nexts.first_next.Goals as goal
use borrow.Author.Count.{below_more}

pub tight_next-requires : goal.tight_next-requires
tight_next-requires g c κs =
    let rows = g.G.Links.rows c.args.links.now in
    let inv = c.loop-index.invariant in
    let k = c.loop-index.index-index in
    let p = slice_index_or c.links_from-leaving.result.now k 0 in
    let begins : LinkBeginsAt rows.nodes rows.links c.args.place p = c.links_from-leaving.ensures.places.begins k 0 c.loop-index-test.true in (
      (refl, tt),
      (
        subst IsTopology (sym inv.same) c.links_from-leaving.ensures.rules,
        (
          subst (λ (h : Rows). AreOpen h c.args.prepared.now c.args.labels.now) (sym inv.same) c.requires.labels,
          (
            subst (λ (h : Rows). AdmitsNode h c.args.prepared.now c.args.node) (sym inv.same) c.requires.node,
            (
              subst (λ (h : Rows). slice_get h.nodes c.args.place ≡ Some c.args.node) (sym inv.same) c.requires.place,
              subst (λ (h : Rows). LinkBeginsAt h.nodes h.links c.args.place p) (sym inv.same) begins,
            ),
          ),
        ),
      ),
    )

pub returns-in-Some-clause-next : goal.returns-in-Some-clause-next
returns-in-Some-clause-next g c =
    let rows = g.G.Links.rows c.args.links.now in
    let inv = c.loop-index.invariant in
    let leaving = c.links_from-leaving.result.now in
    let k = c.loop-index.index-index in
    let p = slice_index_or leaving k 0 in
    let tight : IsTightNext rows c.args.prepared.now c.args.labels.now c.args.node c.args.label.now p c.in-Some.next =
    subst (λ (h : Rows). IsTightNext h c.args.prepared.now c.args.labels.now c.args.node c.args.label.now p c.in-Some.next) inv.same c.in-Some.ensures.next in (
      p,
      tight,
      λ i below. loose_up_to rows c.args.prepared.now c.args.labels.now c.args.node c.args.label.now c.args.place leaving k
          c.links_from-leaving.ensures.places c.requires.place c.loop-index-test.true inv.loose i below,
    )

pub loop-index-preserved : goal.loop-index-preserved
loop-index-preserved g c =
    let rows = g.G.Links.rows c.args.links.now in
    let inv = c.loop-index.invariant in
    let leaving = c.links_from-leaving.result.now in
    let k = c.loop-index.index-index in
    let Loose : ℕ → Type 0 = λ j. IsLoose rows c.args.prepared.now c.args.labels.now c.args.node c.args.label.now (slice_index_or leaving j 0) in
    let here : Loose k = subst (λ (h : Rows). IsLoose h c.args.prepared.now c.args.labels.now c.args.node c.args.label.now (slice_index_or leaving k 0)) inv.same c.in_default.ensures.next in
    record {
      loose = below_more Loose k inv.loose here;
      same = c.tight_next.ensures.same ∙ inv.same;
    }

pub returns-clause-next : goal.returns-clause-next
returns-clause-next g c =
    loose_all (g.G.Links.rows c.args.links.now) c.args.prepared.now c.args.labels.now c.args.node c.args.label.now c.args.place c.links_from-leaving.result.now c.loop-index.index-index
    c.links_from-leaving.ensures.places c.requires.place c.loop-index-test.false c.loop-index.invariant.loose
