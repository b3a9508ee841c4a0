use Rattle.std.proofs.Common.{Err, List, arith, length, refl, set, subst}
use Rattle.std.proofs.lemmas.Option.{slice_get_read}
use Rattle.plant_model.specs.declared.outcome.Refused.TheVariants.{NoSuchPeer}
use Rattle.network_links.specs.declared.access.Access.{Access}
use Rattle.network_links.specs.Accesses.{DrainsGuest}
use Rattle.network_links.specs.Peers.{Changes, guests_of}
use Rattle.network_links.proofs.PeerLemmas.{guest_changes, nobody_changes}
use Rattle.network_links.proofs.peers.Peers.drain.Goals as goal

pub returns-then-peer-len : goal.returns-then-peer-len
returns-then-peer-len c =
    let so = DrainsGuest c.args.holder c.drain.result in
    let items = c.self.inside.rows.items in
    let x = c.index_mut.result.now in
    let new = set items c.args.peer c.drain.new.access in
    subst (λ (xs : List Access). Changes c.args.peer so (guests_of xs) (guests_of new)) c.self.view_is
    (guest_changes so c.args.peer items new x c.drain.new.access (slice_get_read items (length items) c.args.peer x refl (omega arith) c.index_mut.ensures.value) refl c.drain.ensures)

pub returns-else-peer-len : goal.returns-else-peer-len
returns-else-peer-len c =
    let so = DrainsGuest c.args.holder (Err NoSuchPeer) in
    subst (λ (xs : List Access). Changes c.args.peer so (guests_of xs) (guests_of xs)) c.self.view_is
    (nobody_changes so c.args.peer c.self.inside.rows.items (omega arith) (refl, refl))
