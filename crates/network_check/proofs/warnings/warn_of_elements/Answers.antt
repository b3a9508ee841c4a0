use Rattle.std.proofs.Common.{◌∙◌, ◌+◌, ◌++◌, ℕ, List, ap, append_assoc, drop, sym}
use Rattle.plant_text.specs.declared.settings.ElementRow.{ElementRow}
use Rattle.network_check.specs.Warnings.{element_warnings, elements_warnings}
use Rattle.network_check.proofs.Peers.{elements_next}
use Rattle.network_check.proofs.warnings.warn_of_elements.Goals as goal

pub loop-i-preserved : goal.loop-i-preserved
loop-i-preserved c =
    let page = c.args.page.now in
    let elements : List ElementRow = c.as_slice-elements.result.now in
    let i = c.loop-i.i in
    let e : ElementRow = c.index-elements-i.result in
    let others = elements_warnings page.file.now page.text.now c.args.parts.now (i + 1) (drop (i + 1) elements) in
    ap (λ (v : List ℕ). v ++ others) c.in_ok-warn_of_element.ensures
    ∙ append_assoc c.loop-i.into.items (element_warnings page.file.now page.text.now c.args.parts.now i e) others
    ∙ ap (λ (v : List ℕ). c.loop-i.into.items ++ v) (sym (elements_next page.file.now page.text.now c.args.parts.now elements i e c.loop-i-test.true c.index-elements-i.is))
    ∙ c.loop-i.invariant
