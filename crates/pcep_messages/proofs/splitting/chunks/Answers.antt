use Rattle.std.proofs.Common.{◌≡◌, ◌≤◌, ◌+◌, sym, ◌∙◌, length, Err, refl, arith}
use Rattle.std.proofs.lemmas.Bool.{eqb-true}
use Rattle.dom_base.proofs.Parts.{goes_on, stops, ends}
use Rattle.pcep_messages.specs.declared.message.Bad.TheVariants.{Malformed}
use Rattle.pcep_messages.specs.Splitting.{octets_at, chunks_of}
use Rattle.pcep_subobjects.proofs.PartLaws.{some_left}
use Rattle.pcep_messages.proofs.splitting.chunks.Goals as goal

pub returns-in-None : goal.returns-in-None
returns-in-None c =
    let p = c.loop-rest.invariant.0 in
    let e : chunks_of c.args.bytes.now ≡ Err (Malformed p) = sym c.loop-rest.invariant.1 ∙ stops octets_at c.loop-rest.found p c.loop-rest.rest.now Malformed (some_left c.loop-rest.rest.now (sym c.is_empty.ensures ∙ c.loop-rest-test.true)) c.in-None.ensures in
    rw e refl

pub loop-rest-preserved : goal.loop-rest-preserved
loop-rest-preserved c =
    let within : c.in-Some.len ≤ length c.loop-rest.rest.now = c.in-Some.ensures.2 in
    let some : 1 ≤ c.in-Some.len = omega (arith, c.in-Some.ensures.1) in (
      c.loop-rest.invariant.0 + c.in-Some.len,
      rw (c.in_ok-push.ensures.ok, c.from_vec.ensures, c.in_ok-from_slice.ensures.items, c.split_at.ensures.front, c.split_at.ensures.back)
          (sym (goes_on octets_at c.loop-rest.found c.loop-rest.invariant.0 c.loop-rest.rest.now _ c.in-Some.len some within c.in-Some.ensures.0) ∙ c.loop-rest.invariant.1),
    )

pub returns : goal.returns
returns c = sym c.loop-rest.invariant.1 ∙ ends octets_at c.loop-rest.found c.loop-rest.invariant.0 c.loop-rest.rest.now (eqb-true _ _ (sym c.is_empty.ensures ∙ c.loop-rest-test.false))
