-- What is left to do for an outside peer behind a take.
use Rattle.std.specs.Prelude.{◌*◌, ◌^◌, ℕ, nat_lt, Bool, cond, length, Option}
use Rattle.pcep_framing.specs.Frames.{joined}
use Rattle.plant_model.specs.Names.{is_empty}
use Rattle.plant_model.specs.State.{Connection}
use Rattle.network_links.specs.Flow.{inbox_of, out_of}
use Rattle.network_links.specs.declared.rest.Rest.{Rest}
use Rattle.network_links.specs.declared.rest.Rest.TheVariants.{Nothing, Messages, Backlog}

-- more octets than may wait for a peer of whom more is taken
abbrev pub has_backlog : Option Connection → Bool
has_backlog c = nat_lt (2 ^ 20) (length (joined (out_of c)))

abbrev pub rest_of : Option Connection → Rest
rest_of c = cond (is_empty (inbox_of c)) Nothing (cond (has_backlog c) Backlog Messages)
