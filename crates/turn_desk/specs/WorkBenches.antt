-- What contracts see of a worker's bench.
use Rattle.server_loops.specs.Benches.{Benched}
use Rattle.turn_desk.specs.Desks.{Stand, stand_of}
use Rattle.turn_desk.specs.Works.{worked_of}
use Rattle.turn_desk.specs.declared.workbench.WorkBench.{WorkBench}

-- the desk behind it
abbrev pub desk_of : {R : Type 0} → WorkBench R → Stand
desk_of {R} b = stand_of b.desk

-- its calls are those that were noted, and all else is the desk's
abbrev pub bench_of : {R : Type 0} → WorkBench R → Benched
bench_of {R} b = worked_of (stand_of b.desk) b.noted.items
