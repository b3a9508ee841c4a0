use Rattle.std.proofs.Common.{◌≡◌, ℕ, List, None, Err, subst}
use Rattle.client_laws.specs.plant_model.Types.{Asked, Message}
use Rattle.diverse_pairs.specs.declared.asking.Pair.{Pair}
use Rattle.diverse_pairs.specs.declared.asking.PairError.{PairError}
use Rattle.diverse_pairs.specs.declared.asking.PairError.TheVariants.{NotBuilt}
use Rattle.diverse_pairs.specs.Asking.{AskPair, AnswersPair, first_refusal}
use Rattle.pce_tool.specs.Requests.{Spells}
use Rattle.pce_tool.proofs.pair_reading.read_pair_request.Goals as goal

not_built : (own : ℕ) (told asked : List Asked) (e : PairError) → told ≡ asked → e ≡ NotBuilt → AnswersPair own told (Err e) →
    (first_refusal own asked ≡ None) × ((p : Pair) → AskPair own asked p → ⊥)
not_built own told asked e same is h =
    subst (λ (x : List Asked). AnswersPair own x (Err NotBuilt)) same (subst (λ (y : PairError). AnswersPair own told (Err y)) is h)

pub returns-in-Err-NotBuilt : goal.returns-in-Err-NotBuilt
returns-in-Err-NotBuilt c =
    let spells = subst (λ (m : Message). Spells c.args.text.now m) c.in-Some.ensures c.in-Ok.ensures in
    let said = not_built c.args.own.0 _ c.in-Some.asked c.in-Err-NotBuilt.field-0 c.as_slice.ensures c.in-Err-NotBuilt.field-0-is c.in-Err-NotBuilt.ensures in
    (c.in-Some.asked, spells, said.0, said.1)
