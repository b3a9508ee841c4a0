use Rattle.std.proofs.Common.{◌≡◌, ◌∙◌, true, false, arith, inr}
use Rattle.plant_text.proofs.DocumentLaws.{document_is}
use Rattle.network_check.proofs.documents.parse.Goals as goal

pub returns-in-Ok : goal.returns-in-Ok
returns-in-Ok c = document_is c.args.text.now c.utf8.text ∙ c.in-Ok.ensures.ok

pub returns-in-Some : goal.returns-in-Some
returns-in-Some c =
    let failed = c.in-Some.ensures in
    let within = c.in-Err.ensures.span in (
      document_is c.args.text.now c.utf8.text ∙ c.in-Err.ensures.refused (λ memory. absurd (let never : true ≡ false = failed.none.1 memory in cc)),
      inr (c.utf8.text, (c.in-Some.range.start, omega (arith, failed.range.0, within.0, within.1), rw c.as_bytes.ensures.value at c.line_of.ensures)),
    )
