-- The requests to the drawn network, one by one.
use Rattle.std.specs.Prelude.{ℕ, ◌+◌, List, Some, map}
use Rattle.std.specs.List.{range_with_len}
use Rattle.plant_client.specs.declared.question.Question.{Question}
use Rattle.network_files.specs.DrawnRequests.{ends_at, sequence}
use Rattle.plant_client.specs.declared.requests.Demand.{Demand}
use Rattle.plant_client.specs.declared.requests.Demand.TheVariants as demand

-- The word of a bandwidth is of single precision (RFC 5440, 7.7): 1 octet a second, or 0.
abbrev pub word_of : Demand → ℕ
word_of demand.One = 1065353216
word_of demand.Zero = 0

-- the request behind so many others; ids rise from 1
abbrev pub question : Demand → ℕ → Question
question d k = record { id = k + 1; source = (ends_at k).source; target = (ends_at k).target; bandwidth = Some (word_of d); sequence = sequence }

-- so many, one behind the other
abbrev pub questions : Demand → ℕ → List Question
questions d n = map (question d) (range_with_len 0 n)

-- how many may be asked for, since each takes a key of an element
abbrev pub requests_most : ℕ
requests_most = 8000
