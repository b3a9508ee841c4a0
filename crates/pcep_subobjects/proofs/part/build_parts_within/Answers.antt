use Rattle.std.proofs.Common.{◌≤◌, ◌∙◌, sym, length, arith}
use Rattle.std.proofs.lemmas.List.{length-drop}
use Rattle.dom_base.specs.Parts.{parts_from}
use Rattle.dom_base.proofs.Parts.{goes_on, ends}
use Rattle.pcep_subobjects.proofs.PartLaws.{is_good, some_left, none_left}
use Rattle.pcep_subobjects.proofs.part.build_parts_within.Goals as goal

pub build-requires : goal.build-requires
build-requires g c = is_good g.P.Part.at c.loop-rest.built c.loop-rest.place c.loop-rest.rest.now (parts_from g.P.Part.at c.args.start 0 c.args.bytes.now) c.loop-rest.invariant.reading c.requires.good (some_left c.loop-rest.rest.now (sym c.is_empty.ensures ∙ c.loop-rest-test.true))

pub loop-rest-preserved : goal.loop-rest-preserved
loop-rest-preserved g c =
    let within : c.in_ok-part.len ≤ length c.loop-rest.rest.now = c.in_ok-part.ensures.within in
    rw (c.in_ok-push.ensures.ok, c.split_at.ensures.back) (record {
      reading = sym (goes_on g.P.Part.at c.loop-rest.built c.loop-rest.place c.loop-rest.rest.now c.in_ok-part.part c.in_ok-part.len c.in_ok-part.ensures.some within c.in_ok-part.ensures.found) ∙ c.loop-rest.invariant.reading;
      place = omega (arith, c.loop-rest.invariant.place, within, length-drop c.in_ok-part.len c.loop-rest.rest.now);
    })

pub returns : goal.returns
returns g c = sym c.loop-rest.invariant.reading ∙ ends g.P.Part.at c.loop-rest.built c.loop-rest.place c.loop-rest.rest.now (none_left c.loop-rest.rest.now (sym c.is_empty.ensures ∙ c.loop-rest-test.false))
