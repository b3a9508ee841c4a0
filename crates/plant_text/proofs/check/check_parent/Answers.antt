use Rattle.std.proofs.Common.{codes, sym, ◌∙◌, ap, option_map}
use Rattle.plant_text.specs.Rules.{at_row, table, told, parent_rules, parent_link_rules}
use Rattle.plant_text.proofs.RuleLaws.{first_at_row, tells_behind}
use Rattle.plant_text.proofs.check.check_parent.Goals as goal

pub returns : goal.returns
returns c =
    let s = c.args.sheet.now in
    tells_behind (at_row (codes "parent") 0 (parent_rules s)) (table (codes "parent.link") 256 (parent_link_rules s) s.parts.parent_links s.cuts.parent_links) c.check_table.result
    (first_at_row (codes "parent") 0 (parent_rules s) ∙ ap (option_map (told (codes "parent") 0)) (sym c.in_default.ensures))
    c.check_table.ensures
