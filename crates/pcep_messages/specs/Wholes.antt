-- What splitting and grouping keep: the parts joined are the content, in order, and each has its one RP (RFC 5440, 6.4 and 6.5).
use Rattle.std.specs.Prelude.{◌≡◌, ◌≤◌, ◌⊎◌, ℕ, List, [], ◌∷◌, ◌++◌, drop, map, All, count_by}
use Rattle.std.specs.List.{flat_map}
use Rattle.pcep_objects.specs.declared.object.Object.{Object}
use Rattle.pcep_messages.specs.Groups.{is_rp, requests_of, reply_groups, report_groups}
use Rattle.pcep_messages.specs.Splitting.{begins_rp, frame_with, split_of}

abbrev pub joined : {X : Type 0} → List (List X) → List X
joined {X} parts = flat_map (λ (part : List X). part) parts

-- A frame as several, each of the octets of some of its objects in order. Together they are all that stands behind its header,
-- and each has one RP.
pub record IsSplit (frame : List ℕ) : Type 0 where
  pub first : ℕ
  pub kind : ℕ
  pub groups : List (List (List ℕ))
  pub parts : split_of frame ≡ map (frame_with first kind) groups
  pub whole : joined (joined groups) ≡ drop 4 frame
  pub one_rp : All (λ group. count_by begins_rp group ≡ 1) groups

-- a frame stays alone, or is split so
abbrev pub SplitsWhole : Type 0
SplitsWhole = (frame : List ℕ) → (split_of frame ≡ frame ∷ []) ⊎ IsSplit frame

-- requests joined are all objects, and each has at most one RP
abbrev pub RequestsAreWhole : Type 0
RequestsAreWhole = (os : List Object) → (joined (requests_of os) ≡ os) × All (λ group. count_by is_rp group ≤ 1) (requests_of os)

-- replies joined are all objects from the first RP on, and each has one RP
pub record AreReplies (os : List Object) : Type 0 where
  pub front : List Object
  pub whole : front ++ joined (reply_groups os) ≡ os
  pub no_rp : count_by is_rp front ≡ 0
  pub one_rp : All (λ group. count_by is_rp group ≡ 1) (reply_groups os)

abbrev pub RepliesAreWhole : Type 0
RepliesAreWhole = (os : List Object) → AreReplies os

-- notices or reports joined are all objects
abbrev pub ReportsAreWhole : Type 0
ReportsAreWhole = (os : List Object) → joined (report_groups os) ≡ os
