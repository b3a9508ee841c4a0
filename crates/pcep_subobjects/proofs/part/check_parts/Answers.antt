use Rattle.std.proofs.Common.{◌≤◌, ◌∙◌, sym, length, arith}
use Rattle.std.proofs.lemmas.List.{length-drop}
use Rattle.pcep_subobjects.proofs.PartLaws.{one_more_passed, fault_here, no_fault, some_left, none_left}
use Rattle.pcep_subobjects.proofs.part.check_parts.Goals as goal

pub returns-in-Err : goal.returns-in-Err
returns-in-Err g c = fault_here g.P.Part.at c.args.start c.args.bytes.now c.loop-rest.place c.loop-rest.rest.now c.in-Err.fault c.loop-rest.invariant.passed (some_left c.loop-rest.rest.now (sym c.is_empty.ensures ∙ c.loop-rest-test.true)) c.in-Err.ensures.found

pub loop-rest-preserved : goal.loop-rest-preserved
loop-rest-preserved g c =
    let within : c.in-Ok.len ≤ length c.loop-rest.rest.now = c.in-Ok.ensures.within in
    rw c.split_at.ensures.back (record {
      passed = one_more_passed g.P.Part.at c.args.start c.args.bytes.now c.loop-rest.place c.loop-rest.rest.now c.in-Ok.len c.loop-rest.invariant.passed c.in-Ok.ensures.some within c.in-Ok.ensures.found;
      place = omega (arith, c.loop-rest.invariant.place, within, length-drop c.in-Ok.len c.loop-rest.rest.now);
    })

pub returns : goal.returns
returns g c = no_fault g.P.Part.at c.args.start c.args.bytes.now c.loop-rest.place c.loop-rest.rest.now c.loop-rest.invariant.passed (none_left c.loop-rest.rest.now (sym c.is_empty.ensures ∙ c.loop-rest-test.false))
