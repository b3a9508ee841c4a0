-- The inputs of a tick, one after the other.
use Rattle.std.proofs.Common.{◌≡◌, ℕ, zero, suc, ◌+◌, List, [], ◌∷◌, ◌++◌, length, refl, ap, ◌∙◌, arith}
use Rattle.pce_common.specs.plant_model.Types.{Tick, Hop, NetworkParts, PeerRow}
use Rattle.pcep_session.specs.declared.session.Input.TheVariants as input
use Rattle.plant_text.specs.Settings.{Adjacency}
use Rattle.pce_common.specs.plant_model.RealWire.{wire}
use Rattle.pce_common.specs.plant_model.Deeds as deeds
use Rattle.pce_common.specs.plant_model.Deeds.{Going}

module _ {P : Type 0} {S : Type 0} (show : S → List Hop) (n : NetworkParts) (now : Tick) where
  -- a tick to the outside peers below a number
  abbrev pub peers_to : ℕ → Going P S → Going P S
  peers_to zero g = g
  peers_to (suc i) g = deeds.outside_input P S wire n show i (input.Tick now) (peers_to i g)

  pub peers_are : (rows : List PeerRow) (i : ℕ) (g : Going P S) → deeds.tick_outside P S wire n show i rows now (peers_to i g) ≡ peers_to (i + length rows) g
  peers_are [] i g = let e : i ≡ i + 0 = omega arith in ap (λ (k : ℕ). peers_to k g) e
  peers_are (r ∷ rows) i g =
      let one : i + 1 ≡ suc i = omega arith in
      let all : suc i + length rows ≡ i + length (r ∷ rows) = omega arith in
      ap (λ (k : ℕ). deeds.tick_outside P S wire n show k rows now (peers_to (suc i) g)) one ∙ peers_are rows (suc i) g ∙ ap (λ (k : ℕ). peers_to k g) all

  -- all of them
  pub peers_all : (rows : List PeerRow) (g : Going P S) → deeds.tick_outside P S wire n show 0 rows now g ≡ peers_to (length rows) g
  peers_all rows g = let e : 0 + length rows ≡ length rows = omega arith in peers_are rows 0 g ∙ ap (λ (k : ℕ). peers_to k g) e

  -- links one behind the other
  pub adjacencies_append : (xs ys : List Adjacency) (g : Going P S) → deeds.tick_adjacencies P S wire n show (xs ++ ys) now g ≡ deeds.tick_adjacencies P S wire n show ys now (deeds.tick_adjacencies P S wire n show xs now g)
  adjacencies_append [] ys g = refl
  adjacencies_append (x ∷ xs) ys g =
      adjacencies_append xs ys (deeds.inner_input P S wire n show x x.upper x.lower (input.Tick now) (deeds.inner_input P S wire n show x x.lower x.upper (input.Tick now) g))
