use Rattle.std.proofs.Common.{◌≡◌, ◌∙◌, List, Option, ap, arith, subst}
use Rattle.dom_edge.specs.Stores.{Files}
use Rattle.plant_text.specs.declared.settings.ElementRow.{ElementRow}
use Rattle.plant_text.specs.declared.settings.NetworkParts.{NetworkParts}
use Rattle.plant_network.specs.Topologies.{whole}
use Rattle.ted_watch.specs.Watch.{published}
use Rattle.network_serving.specs.Loading.{LoadsNamed}
use Rattle.network_serving.proofs.Loads.{loaded_more, none_more, none_shown}
use Rattle.network_serving.proofs.loading.load_all.Goals as goal

pub load_row-requires-clause-first : goal.load_row-requires-clause-first
load_row-requires-clause-first g c =
    let rows : List ElementRow = c.as_slice-rows.result.now in
    let same : rows ≡ c.args.network.now.elements = c.as_slice-rows.ensures ∙ ap (λ (m : NetworkParts). m.elements) c.parts-parts.ensures.parts in
    none_shown (g.T.Store.files c.args.store.now) c.args.network.now rows c.loop-i.i c.index-rows-i.result (published c.loop-i.publisher) (whole c.loop-i.plant) c.parts-parts.ensures.rules same c.loop-i-test.true c.index-rows-i.is
    c.loop-i.invariant.loaded

pub loop-i-preserved : goal.loop-i-preserved
loop-i-preserved g c =
    let rows : List ElementRow = c.as_slice-rows.result.now in
    let row : ElementRow = c.index-rows-i.result in
    let w = whole c.loop-i.plant in
    let v = whole c.load_row.new.plant in
    let shown = published c.loop-i.publisher in
    let more = published c.load_row.new.publisher in
    let so_far = c.loop-i.invariant in
    let step = c.in_ok-load_row.ensures in
    let loads : LoadsNamed (g.T.Store.files c.args.store.now) row.own row.topology w shown v more = subst (λ (fs : Option Files). LoadsNamed fs row.own row.topology w shown v more) so_far.files step.loads in
    record {
      loaded = loaded_more (g.T.Store.files c.args.store.now) c.args.network.now rows c.loop-i.i row w shown v more c.loop-i-test.true c.index-rows-i.is so_far.loaded loads;
      none = none_more (g.T.Store.files c.args.store.now) row.own row.topology w shown v more loads so_far.none;
      elements = step.elements;
      list = step.list ∙ so_far.list;
      files = step.files ∙ so_far.files;
      later = omega (arith, so_far.later, step.later);
    }
