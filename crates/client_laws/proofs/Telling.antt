-- What is told of messages one behind the other is what the last answers.
use Rattle.std.proofs.Common.{◌≡◌, ℕ, suc, ◌-◌, List, [], ◌∷◌, length, map, sym, ap, ◌∙◌, refl, arith}
use Rattle.std.specs.Prelude.{slice_get}
use Rattle.std.specs.List.{AllByRecursion}
use Rattle.plant_play.specs.plant_model.Types.{Message}
use Rattle.pcep_messages.specs.Messages.{Reads}
use Rattle.pcep_messages.specs.Spelling.{message_text}
use Rattle.plant_client.specs.Telling.{frame_lines, last_of, lines_of, told_text}
use Rattle.run_laws.specs.Received.{IsStreamOf}
use Rattle.client_laws.specs.Told.{last_lines}

less_one : (n : ℕ) → suc n - 1 ≡ n
less_one n = omega arith

one_on : (x : List ℕ) (xs : List (List ℕ)) (k : ℕ) → slice_get (x ∷ xs) (suc k) ≡ slice_get xs k
one_on x xs k = refl

last_more : (x y : List ℕ) (ys : List (List ℕ)) → last_of (x ∷ y ∷ ys) ≡ last_of (y ∷ ys)
last_more x y ys =
    ap (λ (k : ℕ). slice_get (x ∷ y ∷ ys) k) (less_one (suc (length ys))) ∙ one_on x (y ∷ ys) (length ys) ∙ ap (λ (k : ℕ). slice_get (y ∷ ys) k) (sym (less_one (length ys)))

last_told : (ms : List Message) → AllByRecursion (λ (m : Message). Reads (message_text m) m) ms → frame_lines (last_of (map message_text ms)) ≡ last_lines ms
last_told [] each = refl
last_told (m ∷ []) each = ap lines_of each.0
last_told (m ∷ next ∷ ms) each = ap frame_lines (last_more (message_text m) (message_text next) (map message_text ms)) ∙ last_told (next ∷ ms) each.1

pub stream_told : (ms : List Message) (stream : List ℕ) → IsStreamOf ms stream → told_text stream ≡ last_lines ms
stream_told ms stream is = ap (λ (fs : List (List ℕ)). frame_lines (last_of fs)) is.frames ∙ last_told ms is.each
