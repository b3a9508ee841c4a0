use Rattle.std.proofs.Common.{◌<◌, Bool, List, length, refl}
use Rattle.std.proofs.lemmas.Result.{IfOk-weaker}
use Rattle.std.specs.Prelude.{All}
use Rattle.diverse_pairs.specs.Listed.{listed}
use Rattle.diverse_pairs.specs.Paths.{turned, Goes, TurnsTight}
use Rattle.diverse_pairs.specs.Uses.{tight_marks}
use Rattle.diverse_pairs.proofs.Tightness.{tight_leads, tight_falls}
use Rattle.diverse_pairs.proofs.Uses.{tight_marked}
use Rattle.diverse_pairs.proofs.Beginning.{path_within}
use Rattle.diverse_pairs.proofs.turning.tight_path.Goals as goal

pub lowest_path-requires-clause-leads : goal.lowest_path-requires-clause-leads
lowest_path-requires-clause-leads c =
    let arcs = listed c.args.arcs.now in
    let marks = tight_marks c.args.distances.now arcs in
    tight_leads arcs c.args.target c.args.distances.now marks c.args.source c.requires.among c.requires.distances (tight_marked c.args.distances.now arcs) c.requires.source c.requires.reached

pub lowest_path-requires-clause-falling : goal.lowest_path-requires-clause-falling
lowest_path-requires-clause-falling c =
    let arcs = listed c.args.arcs.now in
    tight_falls arcs c.args.distances.now (tight_marks c.args.distances.now arcs) c.requires.among (tight_marked c.args.distances.now arcs)

pub returns : goal.returns
returns c =
    let arcs = listed c.args.arcs.now in
    let ds = c.args.distances.now in
    let marks = tight_marks ds arcs in
    record {
      within = IfOk-weaker c.lowest_path.result (λ path. Goes arcs marks c.args.source path.items c.args.target) (λ path. All (λ i. i < length arcs) path.items)
          (λ path goes. path_within arcs marks c.args.target path.items c.args.source (length arcs) refl goes) c.lowest_path.ensures;
      turns = IfOk-weaker c.lowest_path.result (λ path. Goes arcs marks c.args.source path.items c.args.target)
          (λ path. (old : List Bool) → TurnsTight arcs ds c.args.source c.args.target old (turned old path.items))
          (λ path goes old. record { marks = marks; path = path.items; tight = tight_marked ds arcs; goes = goes; is = refl }) c.lowest_path.ensures;
    }
