-- What a desk was handed is a first part of what was told at its lock.
use Rattle.std.proofs.Common.{◌≡◌, ℕ, List, Option, Some, None, subst}
use Rattle.std.specs.Prelude.{Contains}
use Rattle.plant_lock.specs.History.{entries_at}
use Rattle.plant_lock.specs.Views.{LegalFrom}
use Rattle.kept_plant.specs.Handing.{hands_in}
use Rattle.kept_plant.specs.Turns.{KeptAdmits, KeptAllows, kept_after, kept_of}
use Rattle.kept_plant.specs.declared.acts.KeptAct.{KeptAct}
use Rattle.kept_plant.specs.declared.acts.KeptAnswer.{KeptAnswer}
use Rattle.kept_plant.specs.declared.kept.KeptPlant.{KeptPlant}
use Rattle.kept_plant.proofs.Handing.{hands_among, hands_tell}
use Rattle.turn_desk.specs.Seats.{Seated}
use Rattle.turn_desk.specs.Telling.{DeskTells, TellsFrom}
use Rattle.turn_desk.proofs.Found.{own_is_seen}

pub desk_tells : (s : Seated) (places : List ℕ) → s.own ≡ entries_at s.seen places → DeskTells s
desk_tells s places own legal = from s.start legal
  where
    from : (o : Option KeptPlant) → LegalFrom kept_of KeptAdmits KeptAllows kept_after o s.seen → TellsFrom o s.seen s.own
    from None legal = tt
    from (Some k) legal = λ unended whole.
        hands_tell (kept_of k) s.seen (hands_in s.own) unended legal
        (hands_among s.own s.seen (λ e is. own_is_seen s.seen places e (subst (λ (es : List (KeptAct × KeptAnswer)). Contains es e) own is))) whole
