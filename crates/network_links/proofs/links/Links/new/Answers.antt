use Rattle.std.proofs.Common.{◌≡◌, ◌++◌, ◌∷◌, [], List, ◌+◌, drop, sym, subst}
use Rattle.std.specs.Prelude.{All}
use Rattle.network_links.specs.Adjacencies.{are_adjacencies}
use Rattle.network_links.specs.Links.{Joined}
use Rattle.network_links.specs.Sides.{adjacencies_in}
use Rattle.network_links.proofs.FreshLemmas.{IsNewLink, all_adjacencies, all_new, new_links, one_more}
use Rattle.network_links.proofs.links.Links.new.Goals as goal

pub loop-lower-preserved : goal.loop-lower-preserved
loop-lower-preserved c =
    let i = c.loop-lower.lower-index in
    let ps = c.args.adjacencies.now in
    let xs = c.loop-lower.links.items in
    let x = c.in_ok-new_link.field-0 in
    let is_new : IsNewLink x = record {
      lower = record { kept = c.in_ok-new_link.ensures.lower; room = c.in_ok-new_link.ensures.lower_room };
      upper = record { kept = c.in_ok-new_link.ensures.upper; room = c.in_ok-new_link.ensures.upper_room };
    } in
    let pushed : c.push.new.self.items ≡ xs ++ x ∷ [] = c.in_ok-push.ensures.items in
    subst (λ (ys : List Joined). (adjacencies_in ys ++ are_adjacencies (drop (i + 1) ps) ≡ are_adjacencies ps) × All IsNewLink ys) (sym pushed)
    (one_more ps i xs x (record { 0 = 0 }, record { 0 = 0 }) c.loop-lower-test.true c.in_ok-new_link.ensures.adjacency c.loop-lower.invariant.0, all_new xs x c.loop-lower.invariant.1 is_new)

pub returns : goal.returns
returns c = new_links (are_adjacencies c.args.adjacencies.now) c.loop-lower.links.items (all_adjacencies c.args.adjacencies.now c.loop-lower.lower-index (adjacencies_in c.loop-lower.links.items) c.loop-lower-test.false c.loop-lower.invariant.0) c.loop-lower.invariant.1
