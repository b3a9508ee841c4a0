-- The sample runs, worked out.
use Rattle.std.proofs.Common.{refl}
use Rattle.dom_base.specs.AddrOrder.{rank}
use Rattle.dom_base.specs.Parts.{parts_from}
use Rattle.pcep_objects.specs.Bodies.{body_of}
use Rattle.pcep_messages.specs.Refusals.{is_bound, is_minimised}
use Rattle.plant_model.specs.Samples.{answers, after}
use Rattle.plant_model.specs.SampleRuns.{ThreeDomains, BreakIsTold, LoadKeepsPin, KeysAreGuarded, IdsTellWhoSent, GoesOutside, NoPathTellsClients, ParentAnswers}

pub three_domains : ThreeDomains
unfolding answers rank parts_from body_of is_bound is_minimised
three_domains = refl

pub break_is_told : BreakIsTold
unfolding answers rank parts_from body_of is_bound is_minimised
break_is_told = refl

pub load_keeps_pin : LoadKeepsPin
unfolding after rank parts_from body_of is_bound is_minimised
load_keeps_pin = record { pinned = refl; newest = refl; unheard = refl }

pub keys_are_guarded : KeysAreGuarded
unfolding answers rank parts_from body_of is_bound is_minimised
keys_are_guarded = record { client = refl; last_moment = refl; expired = refl; neighbour = refl; other = refl }

pub ids_tell_who_sent : IdsTellWhoSent
unfolding answers rank parts_from body_of is_bound is_minimised
ids_tell_who_sent = refl

pub goes_outside : GoesOutside
unfolding answers rank parts_from body_of is_bound is_minimised
goes_outside = record { shown = refl; closed = refl }

pub no_path_tells_clients : NoPathTellsClients
unfolding answers rank parts_from body_of is_bound is_minimised
no_path_tells_clients = record { client = refl; neighbour = refl }

pub parent_answers : ParentAnswers
unfolding answers rank parts_from body_of is_bound is_minimised
parent_answers = record { four = refl; six = refl }
