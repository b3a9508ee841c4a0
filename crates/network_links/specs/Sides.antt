-- A row of links, as what each end sends to the other.
use Rattle.std.specs.Prelude.{◌≡◌, ℕ, zero, suc, true, false, cond, List, [], ◌∷◌, Option, Some, None, Result, OnOk, map, drop, slice_get}
use Rattle.plant_model.specs.Types.{As, NoMemory, Tick, State as Session}
use Rattle.pcep_session.specs.declared.actions.Own.TheVariants.{Open}
use Rattle.plant_text.specs.Names.{same_as, same_link}
use Rattle.plant_text.specs.Settings.{Adjacency, has_adjacency}
use Rattle.plant_model.specs.Names.{set_pair}
use Rattle.plant_model.specs.Wire.{Bytes}
use Rattle.plant_model.specs.Deeds.{our_offer}
use Rattle.network_links.specs.declared.link.End.{End}
use Rattle.network_links.specs.declared.link.End.TheVariants.{Lower, Upper}
use Rattle.network_links.specs.Ends.{Roomy, Sender, with_kept, sends, begun, own_bytes}
use Rattle.network_links.specs.Links.{Joined, at_end, set_end, new_sender}
use Rattle.network_links.specs.Rooms.{Queue, KeepsRoom, Grows, Spends, Frees, queue}
use Rattle.network_links.specs.Flow.{no_room}

abbrev pub Side : Type 0
Side = Roomy Sender

-- the side at an end without a link
abbrev pub no_side : Side
no_side = record { kept = new_sender; spare = no_room }

-- the first link between two ends, in either order
abbrev pub link_at : As → As → List Joined → Option Joined
link_at a b [] = None
link_at a b (x ∷ xs) = cond (same_link x.adjacency.lower x.adjacency.upper a b) (Some x) (link_at a b xs)

-- that this end of a link is the lower one, or else the upper
abbrev pub end_of : As → Adjacency → End
end_of a x = cond (same_as x.lower a) Lower Upper

abbrev pub side_or : As → Option Joined → Side
side_or a None = no_side
side_or a (Some x) = at_end (end_of a x.adjacency) x

-- what one end sends to the other
abbrev pub side_at : List Joined → As → As → Side
side_at xs a b = side_or a (link_at a b xs)

abbrev pub adjacencies_in : List Joined → List Adjacency
adjacencies_in xs = map (λ (x : Joined). x.adjacency) xs

-- the first link between two ends stands at this place
abbrev pub IsFirst : As → As → ℕ → List Joined → Type 0
IsFirst a b i [] = ⊥
IsFirst a b zero (x ∷ xs) = same_link x.adjacency.lower x.adjacency.upper a b ≡ true
IsFirst a b (suc i) (x ∷ xs) = (same_link x.adjacency.lower x.adjacency.upper a b ≡ false) × IsFirst a b i xs

-- ---- a row as contracts see it

pub record Row : Type 0 where
  pub adjacencies : List Adjacency
  pub sides : As → As → Side

abbrev pub row_of : List Joined → Row
row_of xs = record { adjacencies = adjacencies_in xs; sides = side_at xs }

abbrev pub set_side : As → As → Side → Row → Row
set_side a b s r = record r { sides = set_pair a b s r.sides }

abbrev pub with_session : Session → Side → Side
with_session session s = with_kept (record s.kept { session = session }) s

-- what one end sends to the other stands in this link at this end
pub record IsPlace (a b : As) (i : ℕ) (e : End) (xs : List Joined) : Type 0 where
  pub link : Joined
  pub first : IsFirst a b i xs
  pub found : slice_get xs i ≡ Some link
  pub end : e ≡ end_of a link.adjacency

-- links whose sessions have not begun, each end of which keeps room for what its session says of itself
pub record AreNewLinks (adjacencies : List Adjacency) (r : Row) : Type 0 where
  pub adjacencies_are : r.adjacencies ≡ adjacencies
  pub sides : (a b : As) → (r.sides a b).kept ≡ new_sender
  pub room : (a b : As) → has_adjacency a b adjacencies ≡ true → KeepsRoom 0 0 (queue [] (r.sides a b).spare)

-- ---- what calls do to an end of a link

abbrev pub kept_queue : Side → Queue
kept_queue s = queue s.kept.out s.spare

pub record DropsFirst (x y : Side) : Type 0 where
  pub kept : y.kept ≡ record x.kept { out = drop 1 x.kept.out }
  pub room : Frees (kept_queue x) (kept_queue y)

pub record Empties (x y : Side) : Type 0 where
  pub kept : y.kept ≡ record x.kept { out = [] }
  pub room : Frees (kept_queue x) (kept_queue y)

pub record Reserves (messages bytes : ℕ) (r : Result (Unit {0}) NoMemory) (x y : Side) : Type 0 where
  pub same : y.kept ≡ x.kept
  pub ok : OnOk r (KeepsRoom messages bytes (kept_queue y))
  pub room : Grows x.spare y.spare

pub record Sends (message : Bytes) (x y : Side) : Type 0 where
  pub kept : y.kept ≡ sends message x.kept
  pub room : Spends message x.spare y.spare

pub record Begins (sid : ℕ) (now : Tick) (x y : Side) : Type 0 where
  pub kept : y.kept ≡ begun sid now x.kept
  pub room : Spends (own_bytes (Open (our_offer sid))) x.spare y.spare

-- an end of a link changes in this way, and nothing else does
pub record EndChanges (e : End) (so : Side → Side → Type 0) (x y : Joined) : Type 0 where
  pub rest : y ≡ set_end e (at_end e y) x
  pub does : so (at_end e x) (at_end e y)

-- both ends
pub record BothChange (so : Side → Side → Type 0) (x y : Joined) : Type 0 where
  pub adjacency : y.adjacency ≡ x.adjacency
  pub lower : so x.lower y.lower
  pub upper : so x.upper y.upper

-- what one end sends to the other changes in this way, and nothing else does
pub record SideChanges (a b : As) (so : Side → Side → Type 0) (old new : Row) : Type 0 where
  pub rest : new ≡ set_side a b (new.sides a b) old
  pub does : so (old.sides a b) (new.sides a b)

pub record BothSidesChange (a b : As) (so : Side → Side → Type 0) (old new : Row) : Type 0 where
  pub rest : new ≡ set_side a b (new.sides a b) (set_side b a (new.sides b a) old)
  pub here : so (old.sides a b) (new.sides a b)
  pub there : so (old.sides b a) (new.sides b a)
