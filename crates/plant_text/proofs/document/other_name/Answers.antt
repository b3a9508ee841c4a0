use Rattle.std.proofs.Common.{◌∙◌, ap, not, option_map, string_bytes}
use Rattle.plant_text.specs.SettingsText.{top_key}
use Rattle.plant_text.proofs.TextLaws.{find_name}
use Rattle.plant_text.proofs.document.other_name.Goals as goal

pub returns-in_ok-copy_of-in-Some : goal.returns-in_ok-copy_of-in-Some
returns-in_ok-copy_of-in-Some c =
    rw (c.in_ok-copy_of-in-Some.ensures ∙ c.as_str.ensures.value)
    (ap (option_map (λ k. string_bytes k)) c.in-Some.ensures ∙ find_name (λ k. not (top_key k)) c.args.root.now.entries)

pub returns-in-None : goal.returns-in-None
returns-in-None c = ap (option_map (λ k. string_bytes k)) c.in-None.ensures ∙ find_name (λ k. not (top_key k)) c.args.root.now.entries
