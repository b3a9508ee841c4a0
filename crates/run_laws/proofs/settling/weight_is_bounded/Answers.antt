use Rattle.run_laws.proofs.SettlingLemmas.Bounds as Bounds
use Rattle.run_laws.proofs.settling.weight_is_bounded.Goals as goal

pub returns : goal.returns
returns c = record { weighs = Bounds.weighs_at_most; light = Bounds.messages_are_light; few = Bounds.few_follow }
