use Rattle.std.proofs.Common.{◌∙◌, ℕ, suc, List, ◌++◌, ◌+◌, [], cond, drop, append_assoc, sym, ap, add-one}
use Rattle.plant_text.specs.Sents.{sent_line}
use Rattle.plant_network.specs.plant_model.Blind.{is_closed}
use Rattle.transcript.specs.Lines.{name_of}
use Rattle.blind_play.specs.Making.{closed_text}
use Rattle.blind_play.proofs.HeardLemmas.{closed_next}
use Rattle.blind_play.proofs.telling.write_kth.Goals as goal

pub returns : goal.returns
returns c =
    let n = c.args.parts.now in
    let ss = c.args.said.now.kept in
    let number = c.args.line in
    let way = c.way-to.result in
    let line = cond (is_closed n way.1) (sent_line number way.0 (name_of n.peers way.1) c.bytes.result.now) [] in
    let old = c.args.into.now.items in
    ap (λ (v : List ℕ). v ++ closed_text number n (drop (c.args.k + 1) ss)) c.in_ok-write_if_closed.ensures
    ∙ ap (λ (j : ℕ). (old ++ line) ++ closed_text number n (drop j ss)) (add-one c.args.k)
    ∙ append_assoc old line (closed_text number n (drop (suc c.args.k) ss))
    ∙ ap (λ (v : List ℕ). old ++ v) (sym (closed_next number n c.args.k ss way c.bytes.result.now c.way-to.ensures c.bytes.ensures))
