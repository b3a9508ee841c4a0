-- Paths over arcs in use.
use Rattle.std.specs.Prelude.{◌≡◌, ◌≢◌, ◌⊎◌, ◌<◌, ◌≤◌, ℕ, Bool, true, not, List, [], ◌∷◌, slice_set, Contains}
use Rattle.std.specs.declared.option.Option.{Option}
use Rattle.diverse_pairs.specs.declared.arcs.Arc.{Arc}
use Rattle.diverse_pairs.specs.Arcs.{IsArc, at, is_used, HasArcFrom}
use Rattle.diverse_pairs.specs.Distances.{AreTight}

-- the first arc in use from a node, and where it leads
pub record IsFirstFrom (arcs : List (Option Arc)) (in_use : List Bool) (from place head : ℕ) : Type 0 where
  pub arc : Arc
  pub is_arc : IsArc arcs place arc
  pub used : is_used in_use place ≡ true
  pub tail : arc.tail ≡ from
  pub same_head : arc.head ≡ head
  pub first : (j : ℕ) (b : Arc) → IsArc arcs j b → is_used in_use j ≡ true → b.tail ≡ from → place ≤ j

-- the first of those whose places stand in a list
pub record IsFirstAmong (arcs : List (Option Arc)) (in_use : List Bool) (from : ℕ) (places : List ℕ) (place head : ℕ) : Type 0 where
  pub arc : Arc
  pub is_arc : IsArc arcs place arc
  pub used : is_used in_use place ≡ true
  pub tail : arc.tail ≡ from
  pub same_head : arc.head ≡ head
  pub first : (j : ℕ) (b : Arc) → Contains places j → IsArc arcs j b → is_used in_use j ≡ true → b.tail ≡ from → place ≤ j

-- no arc in use from the node has its place in the list
abbrev pub HasNoneAmong : List (Option Arc) → List Bool → ℕ → List ℕ → Type 0
HasNoneAmong arcs in_use from places = (j : ℕ) (b : Arc) → Contains places j → IsArc arcs j b → is_used in_use j ≡ true → b.tail ≡ from → ⊥

-- the path takes at each node the first arc in use, up to the target
abbrev pub Goes : List (Option Arc) → List Bool → ℕ → List ℕ → ℕ → Type 0
Goes arcs in_use u [] t = u ≡ t
Goes arcs in_use u (i ∷ is) t = (u ≢ t) × (v : ℕ) × IsFirstFrom arcs in_use u i v × Goes arcs in_use v is t

-- an arc in use ends at the node
pub record HasArcInto (arcs : List (Option Arc)) (in_use : List Bool) (n : ℕ) : Type 0 where
  pub place : ℕ
  pub arc : Arc
  pub is_arc : IsArc arcs place arc
  pub used : is_used in_use place ≡ true
  pub head : arc.head ≡ n

-- from the source, and from each node that an arc in use leads to, one leads on, up to the target
abbrev pub LeadsOn : List (Option Arc) → List Bool → ℕ → ℕ → Type 0
LeadsOn arcs in_use s t = (n : ℕ) → n ≢ t → (n ≡ s) ⊎ HasArcInto arcs in_use n → HasArcFrom arcs in_use n

-- the heights fall over each arc in use
abbrev pub Falling : List (Option Arc) → List Bool → List ℕ → Type 0
Falling arcs in_use heights = (i : ℕ) (a : Arc) → IsArc arcs i a → is_used in_use i ≡ true → at heights a.head < at heights a.tail

-- each arc of the path is put into use, or taken out of use
abbrev pub turned : List Bool → List ℕ → List Bool
turned in_use [] = in_use
turned in_use (i ∷ is) = turned (slice_set in_use i (not (is_used in_use i))) is

-- the arcs of the path by the first tight arcs are turned
pub record TurnsTight (arcs : List (Option Arc)) (distances : List ℕ) (source target : ℕ) (old new : List Bool) : Type 0 where
  pub marks : List Bool
  pub path : List ℕ
  pub tight : AreTight arcs distances marks
  pub goes : Goes arcs marks source path target
  pub is : new ≡ turned old path

-- the arcs of the path by the first arcs in use are taken out of use
pub record TakesPath (arcs : List (Option Arc)) (source target : ℕ) (old new : List Bool) (path : List ℕ) : Type 0 where
  pub goes : Goes arcs old source path target
  pub is : new ≡ turned old path
