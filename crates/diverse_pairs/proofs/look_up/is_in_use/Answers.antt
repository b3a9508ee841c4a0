use Rattle.std.proofs.Common.{◌≡◌, true, inl, inr}
use Rattle.std.proofs.lemmas.List.Elements.{Contains-append_right, Contains-append_cases}
use Rattle.diverse_pairs.proofs.look_up.is_in_use.Goals as goal

pub returns-else-in_first : goal.returns-else-in_first
returns-else-in_first c =
    let first = c.args.first.now in
    let second = c.args.second.now in (
      λ is. Contains-append_right first second c.args.far (c.stands-in_second.ensures.0 is),
      λ has. elim (Contains-append_cases first second c.args.far has) [
        | inl one ↦ let bad : c.stands-in_first.result ≡ true = c.stands-in_first.ensures.1 one in absurd cc
        | inr other ↦ c.stands-in_second.ensures.1 other
      ],
    )
