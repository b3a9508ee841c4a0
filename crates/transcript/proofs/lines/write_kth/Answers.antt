use Rattle.std.proofs.Common.{◌∙◌, ℕ, suc, List, ◌++◌, ◌+◌, drop, append_assoc, sym, ap, add-one}
use Rattle.plant_text.specs.Sents.{sent_line}
use Rattle.transcript.specs.Lines.{name_of, sents_text}
use Rattle.transcript.proofs.LineLemmas.{sent_next}
use Rattle.transcript.proofs.lines.write_kth.Goals as goal

pub returns : goal.returns
returns c =
    let peers = c.args.peers.now in
    let ss = c.args.said.now.kept in
    let n = c.args.line in
    let way = c.way-to.result in
    let line = sent_line n way.0 (name_of peers way.1) c.bytes.result.now in
    let old = c.args.into.now.items in
    ap (λ (v : List ℕ). v ++ sents_text n peers (drop (c.args.k + 1) ss)) c.in_ok-write_sent.ensures
    ∙ ap (λ (j : ℕ). (old ++ line) ++ sents_text n peers (drop j ss)) (add-one c.args.k)
    ∙ append_assoc old line (sents_text n peers (drop (suc c.args.k) ss))
    ∙ ap (λ (v : List ℕ). old ++ v) (sym (sent_next n peers c.args.k ss way c.bytes.result.now c.way-to.ensures c.bytes.ensures))
