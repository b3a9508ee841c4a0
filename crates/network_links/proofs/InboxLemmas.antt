-- What a piece of a stream brings to a connection.
use Rattle.std.proofs.Common.{◌≡◌, ◌∙◌, ◌++◌, ℕ, List, [], ◌∷◌, Some, Option, Bool, false, cond, map, sym, ap, refl, append_assoc}
use Rattle.std.specs.List.{flat_map}
use Rattle.pcep_framing.specs.Frames.{Framing}
use Rattle.pcep_framing.specs.Feeding.{feed_of}
use Rattle.plant_model.specs.State.{Connection}
use Rattle.plant_model.specs.RealWire.{wire}
use Rattle.plant_model.specs.Events.{split_all, bad_item, is_down, fed}
use Rattle.network_links.specs.Ends.{Roomy, with_kept, fed_while_up}
use Rattle.network_links.specs.Inboxes.{brings}

abbrev pub parts_of : List ℕ → List (Option (List ℕ))
parts_of frame = map Some (wire.split frame)

-- the items of all frames, frame by frame
pub split_all_is : (frames : List (List ℕ)) → flat_map parts_of frames ≡ split_all wire frames
split_all_is [] = refl
split_all_is (f ∷ frames) = ap (λ (items : List (Option (List ℕ))). parts_of f ++ items) (split_all_is frames)

-- what is handed out of a framer, by what was fed to it
pub brings_is : (piece : List ℕ) (from : Framing) (frames : List (List ℕ)) (bad : Bool) → frames ≡ (feed_of from piece).frames → bad ≡ (feed_of from piece).framing.bad →
    split_all wire frames ++ bad_item bad ≡ brings piece from
brings_is piece from frames bad is_frames is_bad =
    ap (λ (fs : List (List ℕ)). split_all wire fs ++ bad_item bad) is_frames ∙ ap (λ (b : Bool). split_all wire (feed_of from piece).frames ++ bad_item b) is_bad

-- a connection with another framer, and with items behind those that it had
pub fed_is : (old : Roomy Connection) (piece : List ℕ) (from framing : Framing) (had items inbox : List (Option (List ℕ))) →
    is_down old.kept.session.phase ≡ false → from ≡ old.kept.framing → had ≡ old.kept.inbox →
    framing ≡ (feed_of from piece).framing → items ≡ brings piece from → inbox ≡ had ++ items →
    with_kept (record old.kept { framing = framing; inbox = inbox }) old ≡ with_kept (fed_while_up piece old.kept) old
fed_is old piece from framing had items inbox up is_from is_had is_framing is_items is_inbox =
    let g = feed_of old.kept.framing piece in
    let parts = split_all wire g.frames in
    let to : framing ≡ g.framing = is_framing ∙ ap (λ (f : Framing). (feed_of f piece).framing) is_from in
    let all : inbox ≡ (old.kept.inbox ++ parts) ++ bad_item g.framing.bad =
    is_inbox ∙ ap (λ (before : List (Option (List ℕ))). before ++ items) is_had
    ∙ ap (λ (more : List (Option (List ℕ))). old.kept.inbox ++ more) (is_items ∙ ap (brings piece) is_from)
    ∙ sym (append_assoc old.kept.inbox parts (bad_item g.framing.bad)) in
    ap (λ (f : Framing). with_kept (record old.kept { framing = f; inbox = inbox }) old) to
    ∙ ap (λ (i : List (Option (List ℕ))). with_kept (record old.kept { framing = g.framing; inbox = i }) old) all
    ∙ ap (λ (b : Bool). with_kept (cond b old.kept (fed wire piece old.kept)) old) (sym up)
