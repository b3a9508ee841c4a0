-- What a piece leads to, as a function and as a relation.
use Rattle.std.proofs.Common.{◌≡◌, ◌≤◌, ◌%◌, ℕ, zero, suc, Bool, true, false, not, cond, ◌==◌, ◌&&◌, nat_le, nat_lt, List, [], ◌++◌, length, take, drop, sym, ◌∙◌, ap, subst, inl, inr, refl, arith, append_assoc, length-append, length-drop, length-take, ◌+◌}
use Rattle.std.proofs.lemmas.List.{take-append-drop}
use Rattle.std.proofs.lemmas.Bool.{leb-true, eqb-true, le-leb, eq-eqb, ltb-true, ltb-false, and_parts, and_from}
use Rattle.pcep_framing.specs.Frames.{Framing, IsHead, version_of, length_field, joined, Splits, FeedsBy, FeedsTo}
use Rattle.pcep_framing.specs.Feeding.{Progress, is_head, stopped, with_frame, cut_by, feed_of, FeedsAsSaid}
use Rattle.pcep_framing.proofs.FrameLemmas.{field_front, head_less, splits_once, frames_once}

pub head_is : (bytes : List ℕ) → 4 ≤ length bytes → is_head bytes ≡ true → IsHead bytes
head_is bytes whole e =
    let a = and_parts (version_of bytes == 1) (nat_le 4 (length_field bytes) && (length_field bytes % 4 == 0)) e in
    let b = and_parts (nat_le 4 (length_field bytes)) (length_field bytes % 4 == 0) a.1 in
    record { whole = whole; version = eqb-true (version_of bytes) 1 a.0; least = leb-true 4 (length_field bytes) b.0; multiple = eqb-true (length_field bytes % 4) 0 b.1 }

pub is_head_from : (bytes : List ℕ) → IsHead bytes → is_head bytes ≡ true
is_head_from bytes h =
    and_from (version_of bytes == 1) (nat_le 4 (length_field bytes) && (length_field bytes % 4 == 0)) (eq-eqb (version_of bytes) 1 h.version)
    (and_from (nat_le 4 (length_field bytes)) (length_field bytes % 4 == 0) (le-leb 4 (length_field bytes) h.least) (eq-eqb (length_field bytes % 4) 0 h.multiple))

abbrev IsCut : List ℕ → Progress → Type 0
IsCut bytes fed = Splits bytes fed.frames fed.framing.bad fed.framing.held

-- a whole message at the front, and what is cut behind it
one_more : (bytes : List ℕ) (fed : Progress) → IsHead bytes → length_field bytes ≤ length bytes → IsCut (drop (length_field bytes) bytes) fed →
    IsCut bytes (with_frame (take (length_field bytes) bytes) fed)
one_more bytes fed head within cut =
    let n = length_field bytes in
    let front = take n bytes in
    let long : length front ≡ n = omega (arith, length-take n bytes) in
    let whole : 4 ≤ length front = omega (arith, head.least) in
    let split : front ++ drop n bytes ≡ bytes = take-append-drop n bytes in
    let again : IsHead (front ++ drop n bytes) = subst IsHead (sym split) head in
    record {
      all = append_assoc front (joined fed.frames) fed.framing.held ∙ ap (λ (l : List ℕ). front ++ l) cut.all ∙ split;
      each = (
        record { head = head_less front (drop n bytes) whole again; exact = long ∙ ap length_field (sym split) ∙ field_front front (drop n bytes) whole },
        cut.each,
      );
      stops = cut.stops;
    }

cut_is : (steps : ℕ) (bytes : List ℕ) → length bytes ≤ steps → IsCut bytes (cut_by steps bytes)
cut_is zero bytes few = record { all = refl; each = tt; stops = inl (omega (arith, few)) }
cut_is (suc steps) bytes few = go (nat_lt (length bytes) 4) refl (is_head bytes) refl (nat_lt (length bytes) (length_field bytes)) refl (λ h. cut_is steps (drop (length_field bytes) bytes) h)
  where
    go : (a : Bool) → nat_lt (length bytes) 4 ≡ a → (b : Bool) → is_head bytes ≡ b → (d : Bool) → nat_lt (length bytes) (length_field bytes) ≡ d →
        (length (drop (length_field bytes) bytes) ≤ steps → IsCut (drop (length_field bytes) bytes) (cut_by steps (drop (length_field bytes) bytes))) →
        IsCut bytes (cond a (stopped false bytes) (cond (not b) (stopped true bytes) (cond d (stopped false bytes) (with_frame (take (length_field bytes) bytes) (cut_by steps (drop (length_field bytes) bytes))))))
    go true is b is' d is'' more = record { all = refl; each = tt; stops = inl (ltb-true (length bytes) 4 is) }
    go false is false is' d is'' more =
        record { all = refl; each = tt; stops = (ltb-false (length bytes) 4 is, λ h. no (sym is' ∙ is_head_from bytes h)) }
      where
        no : false ≡ true → ⊥
        no e = cc
    go false is true is' true is'' more =
        record { all = refl; each = tt; stops = inr (head_is bytes (ltb-false (length bytes) 4 is) is', ltb-true (length bytes) (length_field bytes) is'') }
    go false is true is' false is'' more =
        let head = head_is bytes (ltb-false (length bytes) 4 is) is' in
        let within : length_field bytes ≤ length bytes = ltb-false (length bytes) (length_field bytes) is'' in
        one_more bytes (cut_by steps (drop (length_field bytes) bytes)) head within (more (omega (arith, few, within, head.least, length-drop (length_field bytes) bytes)))

-- what the function says is what the piece leads to
pub feed_feeds : (framing : Framing) (piece : List ℕ) → FeedsTo framing piece (feed_of framing piece).frames (feed_of framing piece).framing
feed_feeds framing piece = go framing.bad refl
  where
    go : (b : Bool) → framing.bad ≡ b →
        FeedsBy b framing piece (cond b (record { frames = []; framing = framing }) (cut_by (length framing.held + length piece) (framing.held ++ piece))).frames
        (cond b (record { frames = []; framing = framing }) (cut_by (length framing.held + length piece) (framing.held ++ piece))).framing
    go true is = (refl, refl)
    go false is = cut_is (length framing.held + length piece) (framing.held ++ piece) (omega (arith, length-append framing.held piece))

-- and what a piece leads to is what the function says
pub feed_is : (framing new : Framing) (piece : List ℕ) (frames : List (List ℕ)) → FeedsTo framing piece frames new →
    (frames ≡ (feed_of framing piece).frames) × (new ≡ (feed_of framing piece).framing)
feed_is framing new piece frames feeds = go framing.bad feeds (feed_feeds framing piece)
  where
    same : (a b : Framing) → a.held ≡ b.held → a.bad ≡ b.bad → a ≡ b
    same a b held bad = ap (λ (l : List ℕ). let f : Framing = record { held = l; bad = a.bad } in f) held ∙ ap (λ (t : Bool). let f : Framing = record { held = b.held; bad = t } in f) bad

    go : (b : Bool) → FeedsBy b framing piece frames new → FeedsBy b framing piece (feed_of framing piece).frames (feed_of framing piece).framing →
        (frames ≡ (feed_of framing piece).frames) × (new ≡ (feed_of framing piece).framing)
    go true one other = (one.0 ∙ sym other.0, one.1 ∙ sym other.1)
    go false one other =
        let fed = feed_of framing piece in
        let a = splits_once (framing.held ++ piece) new.held fed.framing.held frames fed.frames new.bad fed.framing.bad one other in
        let b = frames_once (framing.held ++ piece) frames fed.frames new.bad fed.framing.bad (record { rest = new.held; splits = one }) (record { rest = fed.framing.held; splits = other }) in
        (a.0, same new fed.framing a.1 b.1)

pub feeds_as_said : FeedsAsSaid
feeds_as_said framing new piece frames = (
  feed_is framing new piece frames,
  λ (same : (frames ≡ (feed_of framing piece).frames) × (new ≡ (feed_of framing piece).framing)).
      subst (λ (ms : List (List ℕ)). FeedsTo framing piece ms new) (sym same.0) (subst (λ (f : Framing). FeedsTo framing piece (feed_of framing piece).frames f) (sym same.1) (feed_feeds framing piece)),
)
