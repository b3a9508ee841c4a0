-- Why a solved job is not answered.
use Rattle.std.specs.Prelude.{◌≡◌, Option, Some, None}
use Rattle.plant_model.specs.declared.outcome.Refused.{Refused}
use Rattle.plant_model.specs.declared.outcome.Refused.TheVariants.{NoSuchJob, NoMemory}

-- there is no such job; or there is one, and memory ran out
abbrev pub IsWhyNot : {J : Type 0} → Option J → Refused → Type 0
IsWhyNot None why = why ≡ NoSuchJob
IsWhyNot (Some job) why = why ≡ NoMemory
