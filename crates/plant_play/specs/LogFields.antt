-- The transcript of events, by the fields of a log.
use Rattle.plant_play.specs.declared.log.Log.TheInside.{Inside}
use Rattle.plant_play.specs.Logs.{Told}

abbrev pub log_of : Inside → Told
log_of a = record { is_kept = a.is_kept; text = a.text.items }
