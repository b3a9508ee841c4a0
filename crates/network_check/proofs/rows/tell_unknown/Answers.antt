use Rattle.std.proofs.Common.{◌≡◌, ◌++◌, ◌∷◌, ◌∙◌, ℕ, List, String, Global, ap, append_assoc, map, string_bytes, sym}
use Rattle.network_check.specs.Columns.{strange_text, unknown_text}
use Rattle.network_check.specs.Stands.{Stand, stand_of}
use Rattle.network_check.proofs.rows.tell_unknown.Goals as goal

-- one more key is told
key_told : (s : Stand) (old new name : List ℕ) (key : String Global) (left rest : List (String Global)) → new ≡ old ++ strange_text s name → name ≡ string_bytes key → left ≡ key ∷ rest
    → new ++ unknown_text s (map string_bytes rest) ≡ old ++ unknown_text s (map string_bytes left)
key_told s old new name key left rest told is next =
    ap (λ (v : List ℕ). v ++ unknown_text s (map string_bytes rest)) (told ∙ ap (λ (n : List ℕ). old ++ strange_text s n) is)
    ∙ append_assoc old (strange_text s (string_bytes key)) (unknown_text s (map string_bytes rest))
    ∙ sym (ap (λ (ks : List (String Global)). old ++ unknown_text s (map string_bytes ks)) next)

pub loop-key-preserved : goal.loop-key-preserved
loop-key-preserved c =
    key_told (stand_of c.args.row.now) c.loop-key.into.items c.tell_strange.new.into.items c.as_str.result.now c.in-Some.key.now c.loop-key.key-iterator c.next.new.self c.in_ok-tell_strange.ensures
    c.as_str.ensures.value c.in-Some.ensures.steps
    ∙ c.loop-key.invariant
