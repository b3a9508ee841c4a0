use Rattle.std.proofs.lemmas.Option.{slice_get-get_or}
use Rattle.te_links.proofs.arrivals.place_in.Goals as goal

pub returns : goal.returns
returns c = slice_get-get_or c.args.places.now c.args.k 0 c.requires
