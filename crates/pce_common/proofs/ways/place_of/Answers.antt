use Rattle.std.proofs.Common.{◌≡◌, ◌∙◌, ◌+◌, suc, true, false, sym, ap, subst, arith, get_or}
use Rattle.plant_model.specs.Types.{Peer}
use Rattle.request_table.specs.Pending.{same_peer}
use Rattle.plant_model.specs.Element.{Way}
use Rattle.pce_common.proofs.WayLemmas.{Skips, skips_here, skips_more, skips_all}
use Rattle.pce_common.proofs.ways.place_of.Goals as goal

pub returns-then-is_same_peer : goal.returns-then-is_same_peer
returns-then-is_same_peer c =
    let way : Way = c.index-rows-i.result in
    let same : same_peer (get_or c.args.rows.now c.loop-i.i way).peer c.args.peer ≡ true =
    ap (λ (w : Way). same_peer w.peer c.args.peer) (sym c.index-rows-i.is) ∙ ap (λ (p : Peer). same_peer p c.args.peer) (sym c.peer.ensures) ∙ sym c.is_same_peer.ensures ∙ c.if-is_same_peer.true in
    skips_here c.args.peer c.loop-i.i c.args.rows.now way c.loop-i.invariant (omega arith) same

pub loop-i-preserved : goal.loop-i-preserved
loop-i-preserved c =
    let way : Way = c.index-rows-i.result in
    let other : same_peer (get_or c.args.rows.now c.loop-i.i way).peer c.args.peer ≡ false =
    ap (λ (w : Way). same_peer w.peer c.args.peer) (sym c.index-rows-i.is) ∙ ap (λ (p : Peer). same_peer p c.args.peer) (sym c.peer.ensures) ∙ sym c.is_same_peer.ensures ∙ c.if-is_same_peer.false in
    let next : suc c.loop-i.i ≡ c.loop-i.i + 1 = omega arith in
    subst (λ i. Skips c.args.peer i c.args.rows.now) next (skips_more c.args.peer c.loop-i.i c.args.rows.now way c.loop-i.invariant (omega arith) other)

pub returns : goal.returns
returns c = skips_all c.args.peer c.loop-i.i c.args.rows.now c.loop-i.invariant (omega arith)
