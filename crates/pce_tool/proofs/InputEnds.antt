-- An input that was not read gives no request.
use Rattle.std.proofs.Common.{ℕ, List}
use Rattle.std.specs.declared.option.Option.{Option}
use Rattle.pce_tool.specs.declared.reading.Why.{Why}
use Rattle.pce_tool.specs.declared.status.Status.{Status}
use Rattle.pce_tool.specs.declared.status.Status.TheVariants as status
use Rattle.pce_tool.specs.Parts.{IsInputStatus, IsNeverBad}

pub whatever_is_bad : (IsBad : List ℕ → Why → Type 0) (input : Option (List ℕ)) (counts : ℕ × ℕ) (s : Status) → IsInputStatus IsNeverBad input counts s → IsInputStatus IsBad input counts s
whatever_is_bad IsBad input counts status.Ok h = absurd h
whatever_is_bad IsBad input counts status.Usage h = absurd h
whatever_is_bad IsBad input counts status.ReadFault h = h
whatever_is_bad IsBad input counts status.WriteFault h = absurd h
whatever_is_bad IsBad input counts (status.BadNetwork file line fault) h = absurd h
whatever_is_bad IsBad input counts status.Faulty h = absurd h
whatever_is_bad IsBad input counts (status.BadLine line) h = absurd h
whatever_is_bad IsBad input counts status.NoMemory h = tt
whatever_is_bad IsBad input counts (status.BadRequest why) h = absurd h.3
whatever_is_bad IsBad input counts (status.Refuted place) h = absurd h
whatever_is_bad IsBad input counts (status.TooLarge name) h = h
