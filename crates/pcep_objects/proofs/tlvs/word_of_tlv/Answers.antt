use Rattle.std.proofs.Common.{◌≤◌, ◌+◌, sym, ◌∙◌, length, arith}
use Rattle.std.proofs.lemmas.Bool.{eqb-true}
use Rattle.std.proofs.lemmas.Result.{err_from_is_err_and}
use Rattle.pcep_subobjects.proofs.PartLaws.{some_left}
use Rattle.pcep_objects.proofs.Found.{passes_tlv, stops_tlv, ends_tlvs, only_fault}
use Rattle.pcep_objects.proofs.tlvs.word_of_tlv.Goals as goal

pub returns-in_err-type_here : goal.returns-in_err-type_here
returns-in_err-type_here c =
    let p = err_from_is_err_and c.from_residual.result c.from_residual.ensures.1 in
    rw (p.1, p.2) (only_fault c.in_err-type_here.field-0.0 ∙ sym (stops_tlv c.loop-rest.found c.args.kind c.loop-rest.invariant.0 c.loop-rest.rest.now (some_left c.loop-rest.rest.now (sym c.is_empty.ensures ∙ c.loop-rest-test.true)) c.in_err-type_here.ensures.found) ∙ c.loop-rest.invariant.1)

pub loop-rest-preserved : goal.loop-rest-preserved
loop-rest-preserved c =
    let within : c.in_ok-type_here.len ≤ length c.loop-rest.rest.now = c.in_ok-type_here.ensures.within in (
      c.loop-rest.invariant.0 + c.in_ok-type_here.len,
      rw (c.first_of-found.ensures, c.split_at.ensures.back)
          (sym (passes_tlv c.loop-rest.found c.args.kind c.loop-rest.invariant.0 c.loop-rest.rest.now (record { kind = c.in_ok-type_here.type_here; value = c.in_ok-type_here.value.now }) c.in_ok-type_here.len (omega (arith, c.in_ok-type_here.ensures.some)) within c.in_ok-type_here.ensures.found) ∙ c.loop-rest.invariant.1),
    )

pub returns : goal.returns
returns c = sym (ends_tlvs c.loop-rest.found c.args.kind c.loop-rest.invariant.0 c.loop-rest.rest.now (eqb-true _ _ (sym c.is_empty.ensures ∙ c.loop-rest-test.false))) ∙ c.loop-rest.invariant.1
