-- Which message is carried first: that of the least pair of sender and receiver.
use Rattle.std.specs.Prelude.{◌≡◌, ◌<◌, ◌≤◌, ◌⊎◌, Bool, true, false, not, List, [], ◌∷◌, ◌++◌, All, Contains, Option, Some, None}
use Rattle.plant_model.specs.Types.{As}
use Rattle.plant_text.specs.Settings.{Adjacency}
use Rattle.plant_model.specs.Names.{is_empty}
use Rattle.network_links.specs.Flow.{Flow}

-- by the sender, then by the receiver
abbrev pub IsAtMost : As × As → As × As → Type 0
IsAtMost p q = (p.0.0 < q.0.0) ⊎ ((p.0.0 ≡ q.0.0) × (p.1.0 ≤ q.1.0))

-- both ways of each link
abbrev pub ways : List Adjacency → List (As × As)
ways [] = []
ways (x ∷ xs) = (x.lower, x.upper) ∷ (x.upper, x.lower) ∷ ways xs

-- a message is on its way from one to the other
abbrev pub has_mail : Flow → As × As → Bool
has_mail f p = not (is_empty (f.queues p.0 p.1))

pub record IsLeast (f : Flow) (all : List (As × As)) (p : As × As) : Type 0 where
  pub there : Contains all p
  pub waits : has_mail f p ≡ true
  pub least : All (λ q. has_mail f q ≡ true → IsAtMost p q) all

abbrev pub WaitsAmong : Flow → List (As × As) → Option (As × As) → Type 0
WaitsAmong f all None = All (λ q. has_mail f q ≡ false) all
WaitsAmong f all (Some p) = IsLeast f all p

-- the pair between which the next message is carried; None where no message is on its way
abbrev pub WaitsNext : Flow → Option (As × As) → Type 0
WaitsNext f found = WaitsAmong f (ways f.adjacencies) found

-- one more way is looked at
abbrev pub LooksFurther : Flow → As × As → Option (As × As) → Option (As × As) → Type 0
LooksFurther f way old new = (all : List (As × As)) → WaitsAmong f all old → WaitsAmong f (all ++ way ∷ []) new
