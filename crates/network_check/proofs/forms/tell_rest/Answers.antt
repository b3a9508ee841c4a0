use Rattle.std.proofs.Common.{◌≡◌, ◌∙◌, ◌++◌, OnOk, ℕ, List, ap, subst, sym}
use Rattle.network_check.specs.declared.slots.Slot.TheVariants.{Group}
use Rattle.network_check.specs.Forms.{extra_text, plain_text, rest_text, wrong_text}
use Rattle.network_check.proofs.Wording.{rest_ends, rest_extra, rest_wrong}
use Rattle.network_check.proofs.forms.tell_rest.Goals as goal

pub returns-then-not-has_groups : goal.returns-then-not-has_groups
returns-then-not-has_groups c =
    let said : rest_text c.args.file.now c.args.line c.args.has_groups c.loop-word.words ≡ extra_text c.args.file.now c.args.line c.in-Some.word.now =
    rest_extra c.args.file.now c.args.line c.args.has_groups c.loop-word.words c.in-Some.word.now c.next_word.new.self c.in-Some.ensures c.if-not-has_groups.true in
    let whole : c.loop-word.into.items ++ extra_text c.args.file.now c.args.line c.in-Some.word.now ≡ c.args.into.now.items ++ rest_text c.args.file.now c.args.line c.args.has_groups c.args.words.now =
    sym (ap (λ (v : List ℕ). c.loop-word.into.items ++ v) said) ∙ c.loop-word.invariant in
    subst (λ (v : List ℕ). OnOk c.tell_extra.result (c.tell_extra.new.into.items ≡ v)) whole c.tell_extra.ensures

pub returns-then-not-is_slot : goal.returns-then-not-is_slot
returns-then-not-is_slot c =
    let said : rest_text c.args.file.now c.args.line c.args.has_groups c.loop-word.words ≡ wrong_text c.args.file.now c.args.line Group c.in-Some.word.now =
    rest_wrong c.args.file.now c.args.line c.args.has_groups c.loop-word.words c.in-Some.word.now c.next_word.new.self c.in-Some.ensures c.if-not-has_groups.false
    (sym c.is_slot.ensures ∙ c.if-not-is_slot.true) in
    let whole : c.loop-word.into.items ++ wrong_text c.args.file.now c.args.line Group c.in-Some.word.now ≡ c.args.into.now.items ++ rest_text c.args.file.now c.args.line c.args.has_groups c.args.words.now =
    sym (ap (λ (v : List ℕ). c.loop-word.into.items ++ v) said) ∙ c.loop-word.invariant in
    subst (λ (v : List ℕ). OnOk c.tell_wrong.result (c.tell_wrong.new.into.items ≡ v)) whole c.tell_wrong.ensures

pub returns : goal.returns
returns c =
    let said : rest_text c.args.file.now c.args.line c.args.has_groups c.loop-word.words ≡ plain_text c.args.file.now c.args.line =
    rest_ends c.args.file.now c.args.line c.args.has_groups c.loop-word.words c.in_default.ensures.0 in
    let whole : c.loop-word.into.items ++ plain_text c.args.file.now c.args.line ≡ c.args.into.now.items ++ rest_text c.args.file.now c.args.line c.args.has_groups c.args.words.now =
    sym (ap (λ (v : List ℕ). c.loop-word.into.items ++ v) said) ∙ c.loop-word.invariant in
    subst (λ (v : List ℕ). OnOk c.tell_plain.result (c.tell_plain.new.into.items ≡ v)) whole c.tell_plain.ensures
