use Rattle.network_links.specs.Sides.{Empties}
use Rattle.network_links.proofs.RowLemmas.{both_there, nothing_empties, no_side_at, no_back_side_at}
use Rattle.network_links.proofs.links.Links.clear.Goals as goal

pub returns-in-Some : goal.returns-in-Some
returns-in-Some c =
    both_there c.args.a c.args.b c.in-Some.place.link c.in-Some.place.end c.deref.result.now c.self.inside.links.items c.args.self.now c.deref.ensures.value c.self.view_is
    Empties c.in-Some.ensures c.index_mut.result.now c.clear.new.self c.index_mut.ensures.value (record {
      adjacency = c.clear.ensures.adjacency;
      lower = record { kept = c.clear.ensures.lower; room = c.clear.ensures.lower_room };
      upper = record { kept = c.clear.ensures.upper; room = c.clear.ensures.upper_room };
    })

pub returns-in-None : goal.returns-in-None
returns-in-None c =
    nothing_empties c.args.a c.args.b c.args.self.now
    (no_side_at c.args.a c.args.b c.deref.result.now c.self.inside.links.items c.args.self.now c.deref.ensures.value c.self.view_is c.in-None.ensures)
    (no_back_side_at c.args.a c.args.b c.deref.result.now c.self.inside.links.items c.args.self.now c.deref.ensures.value c.self.view_is c.in-None.ensures)
