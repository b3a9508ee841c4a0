use Rattle.plant_text.proofs.SettingLaws.{rules_are_worth}
use Rattle.plant_text.proofs.law.settings_are_sound.Goals as goal

pub returns : goal.returns
returns c = rules_are_worth
