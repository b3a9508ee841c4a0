use Rattle.std.proofs.Common.{◌∙◌, ◌+◌, ◌++◌, ℕ, List, ap, append_assoc, drop, sym, take}
use Rattle.plant_text.specs.declared.settings.PeerRow.{PeerRow}
use Rattle.network_check.specs.Warnings.{peer_warnings, peers_warnings}
use Rattle.network_check.proofs.Peers.{peers_next}
use Rattle.network_check.proofs.warnings.warn_of_peers.Goals as goal

pub loop-i-preserved : goal.loop-i-preserved
loop-i-preserved c =
    let page = c.args.page.now in
    let watch = c.args.parts.now.watch in
    let peers : List PeerRow = c.as_slice-peers.result.now in
    let i = c.loop-i.i in
    let p : PeerRow = c.index-peers-i.result in
    let others = peers_warnings page.file.now page.text.now watch (take (i + 1) peers) (drop (i + 1) peers) in
    ap (λ (v : List ℕ). v ++ others) c.in_ok-warn_of_peer.ensures
    ∙ append_assoc c.loop-i.into.items (peer_warnings page.file.now page.text.now watch i (take i peers) p) others
    ∙ ap (λ (v : List ℕ). c.loop-i.into.items ++ v) (sym (peers_next page.file.now page.text.now watch peers i p c.loop-i-test.true c.index-peers-i.is))
    ∙ c.loop-i.invariant
