-- Parts of a line one behind the other, and lines of messages.
use Rattle.std.proofs.Common.{◌≡◌, ◌∙◌, ℕ, zero, suc, Some, None, List, [], ◌∷◌, ◌++◌, drop, append_assoc, decimal, ap, option_map}
use Rattle.std.specs.Prelude.{slice_get}
use Rattle.network_links.specs.plant_model.Types.{As, Peer, Sent, PeerRow}
use Rattle.line_text.specs.Hexadecimal.{hex_text}
use Rattle.plant_text.specs.Sents.{sent_line}
use Rattle.transcript.specs.Lines.{name_of, sents_text}

pub sent_parts : (v : List ℕ) (line : ℕ) (from : As) (to bytes : List ℕ) →
    v ++ decimal line ++ 32 ∷ [] ++ decimal from.0 ++ 62 ∷ [] ++ to ++ 32 ∷ [] ++ hex_text bytes ++ 10 ∷ [] ≡ v ++ sent_line line from to bytes
sent_parts v line from to bytes = simp append_assoc

abbrev way_of : Sent → As × Peer
way_of s = (s.from, s.to)

-- the k-th message is the first of those from there on
pub sent_next : (line : ℕ) (peers : List PeerRow) (k : ℕ) (ss : List Sent) (way : As × Peer) (bytes : List ℕ) →
    option_map {U = As × Peer} (λ (s : Sent). (s.from, s.to)) (slice_get ss k) ≡ Some way → option_map (λ (s : Sent). s.bytes) (slice_get ss k) ≡ Some bytes →
    sents_text line peers (drop k ss) ≡ sent_line line way.0 (name_of peers way.1) bytes ++ sents_text line peers (drop (suc k) ss)
sent_next line peers zero [] way bytes is told = absurd (let no : None ≡ Some bytes = told in cc)
sent_next line peers (suc k) [] way bytes is told = absurd (let no : None ≡ Some bytes = told in cc)
sent_next line peers zero (s ∷ ss) way bytes is told =
    let one : Some (way_of s) ≡ Some way = is in
    let two : Some s.bytes ≡ Some bytes = told in
    let w : way_of s ≡ way = cc in
    let b : s.bytes ≡ bytes = cc in
    ap (λ (a : As × Peer). sent_line line a.0 (name_of peers a.1) s.bytes ++ sents_text line peers ss) w
    ∙ ap (λ (x : List ℕ). sent_line line way.0 (name_of peers way.1) x ++ sents_text line peers ss) b
sent_next line peers (suc k) (s ∷ ss) way bytes is told = sent_next line peers k ss way bytes is told
