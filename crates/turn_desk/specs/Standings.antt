-- The state of a desk at a moment.
use Rattle.turn_desk.specs.Desks.{Stand, stand_at}
use Rattle.turn_desk.specs.declared.standing.Standing.{Standing}

abbrev pub stood : Standing → Stand
stood s = stand_at s.seat.value s.spent_at
