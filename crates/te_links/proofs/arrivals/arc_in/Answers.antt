use Rattle.std.proofs.lemmas.Option.{slice_get-get_or}
use Rattle.te_links.specs.declared.arrivals.Arc.{Arc}
use Rattle.te_links.proofs.arrivals.arc_in.Goals as goal

pub returns : goal.returns
returns c = let none : Arc = record { tail = 0; igp = 0; te = 0 } in slice_get-get_or c.args.arcs.now c.args.k none c.requires
