-- What one more event adds to what events tell.
use Rattle.std.proofs.Common.{◌≡◌, ℕ, List, [], ◌∷◌, ◌++◌, append_assoc, append-nil, refl, sym, ap, ◌∙◌}
use Rattle.te_links.specs.Rows.{Rows}
use Rattle.plant_text.specs.declared.settings.PeerRow.{PeerRow}
use Rattle.event_tape.specs.declared.told.Told.{Told}
use Rattle.event_lines.specs.EventLines.{event_line}
use Rattle.plant_record.specs.Parts.{last_tick, lines_behind, load_count, loaded_by, tick_after, topologies}

pub topologies_append : (xs ys : List Told) → topologies (xs ++ ys) ≡ topologies xs ++ topologies ys
topologies_append [] ys = refl
topologies_append (e ∷ es) ys = ap (λ (gs : List Rows). loaded_by e ++ gs) (topologies_append es ys) ∙ sym (append_assoc (loaded_by e) (topologies es) (topologies ys))

pub topologies_more : (xs : List Told) (e : Told) → topologies (xs ++ e ∷ []) ≡ topologies xs ++ loaded_by e
topologies_more xs e = topologies_append xs (e ∷ []) ∙ ap (λ (gs : List Rows). topologies xs ++ gs) (append-nil (loaded_by e))

pub tick_more : (t : ℕ) (es : List Told) (e : Told) → last_tick t (es ++ e ∷ []) ≡ tick_after (last_tick t es) e
tick_more t [] e = refl
tick_more t (x ∷ es) e = tick_more (tick_after t x) es e

pub lines_more : (peers : List PeerRow) (before es : List Told) (e : Told) → lines_behind peers before (es ++ e ∷ []) ≡ lines_behind peers before es ++ event_line peers (load_count ((before ++ es) ++ e ∷ [])) e
lines_more peers before [] e =
    let line : List Told → List ℕ = λ (xs : List Told). event_line peers (load_count (xs ++ e ∷ [])) e in
    append-nil (line before) ∙ ap line (sym (append-nil before))
lines_more peers before (x ∷ es) e =
    let line : List Told → List ℕ = λ (xs : List Told). event_line peers (load_count (xs ++ e ∷ [])) e in
    let first : List ℕ = event_line peers (load_count (before ++ x ∷ [])) x in
    ap (λ (text : List ℕ). first ++ text) (lines_more peers (before ++ x ∷ []) es e ∙ ap (λ (xs : List Told). lines_behind peers (before ++ x ∷ []) es ++ line xs) (append_assoc before (x ∷ []) es))
    ∙ sym (append_assoc first (lines_behind peers (before ++ x ∷ []) es) (line (before ++ x ∷ es)))
