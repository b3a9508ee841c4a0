use Rattle.std.proofs.Common.{◌≡◌, []}
use Rattle.turn_desk.specs.Desks.{IsStill}
use Rattle.turn_desk.specs.WorkBenches.{bench_of, desk_of}
use Rattle.network_serving.specs.Working.{HaveLacked}
use Rattle.network_serving.proofs.working.work_on.Given as goal

-- in all tries so far memory ran out, and before the first the cache is new
abbrev pub invariant-loop-run : goal.invariant-loop-run
invariant-loop-run g l = record {
  lacked : HaveLacked l.index l.turns l.run (bench_of l.initial.bench) (bench_of l.bench);
  new : l.run ≡ 0 → l.cache.entries ≡ [];
  stays : IsStill (desk_of l.initial.bench) (desk_of l.bench);
}
