-- Where vertices stand.
use Rattle.std.proofs.Common.{◌≡◌, inl, inr, ℕ, ◌<◌, Bool, true, false, cond, List, [], ◌∷◌, ◌++◌, length, arith, sym, ◌∙◌, ap, None, Some, get_or, take, All, ◌+◌}
use Rattle.std.specs.Prelude.{Contains, slice_get, if◌then◌else◌}
use Rattle.std.specs.List.{list_any, position_or_len}
use Rattle.std.proofs.lemmas.Bool.{cases_lt, lt-ltb}
use Rattle.std.proofs.lemmas.Option.{slice_get_within, slice_get-get_or, same_Some}
use Rattle.std.proofs.lemmas.List.Elements.{Contains-append_left, All-weaker, All-more}
use Rattle.std.proofs.lemmas.List.Quantifiers.{position-Some}
use Rattle.std.proofs.lemmas.List.Sums.{fails_before_first}
use Rattle.pce_common.specs.plant_model.Types.{ParentLink}
use Rattle.pce_common.specs.plant_model.declared.upper.ChildRow.{ChildRow}
use Rattle.pce_common.specs.plant_model.declared.upper.BorderJob.{BorderJob}
use Rattle.pce_common.specs.plant_model.BorderGraph.{Vertex, Enter, Leave}
use Rattle.indexmap.specs.IndexSet.{insert_key}
use Rattle.indexmap.proofs.CallerLemmas.{Contains-insert_key}
use Rattle.pce_parent.specs.declared.spot.Spot.{Spot}
use Rattle.pce_parent.specs.Places.{spot_of, same_spot, place_of, IsAt, Adds, Holds, HasLink, HasEnd}
use Rattle.pce_parent.proofs.SpotLaws.{same_spot_is, same_spot_self, one_vertex}

-- what stands at the place of a spot
pub stands_there : (spots : List Spot) (s : Spot) (k : ℕ) → place_of spots s ≡ Some k → slice_get spots k ≡ Some s
stands_there spots s k is =
    let found = position-Some (same_spot s) spots k s is in
    slice_get-get_or spots k s found.0 ∙ ap (λ (x : Spot). Some x) (sym (same_spot_is s (get_or spots k s) found.1))

pub within : (spots : List Spot) (v : Vertex) (k : ℕ) → IsAt spots v k → k < length spots
within spots v k is = slice_get_within spots k (spot_of v) (stands_there spots (spot_of v) k is)

-- a spot among others has a place
pub has_place : (spots : List Spot) (s : Spot) → Contains spots s → (k : ℕ) × (place_of spots s ≡ Some k)
has_place spots s (i, below, is) =
    let first : ℕ = position_or_len (same_spot s) spots in
    elim (cases_lt first (length spots)) [
      | inl lt ↦ (first, ap (λ (b : Bool). cond b (Some first) None) (lt-ltb first (length spots) lt))
      | inr ge ↦
          let fails : same_spot s (get_or spots i s) ≡ false = fails_before_first (same_spot s) spots i s (omega arith) in
          let bad : true ≡ false = sym (same_spot_self s) ∙ ap (same_spot s) (sym is) ∙ fails in
          absurd (cc)
    ]

-- at one place stands one vertex
pub same_vertex : (spots : List Spot) (v u : Vertex) (k : ℕ) → IsAt spots v k → IsAt spots u k → v ≡ u
same_vertex spots v u k is_v is_u =
    one_vertex v u (same_Some (spot_of v) (spot_of u) (sym (stands_there spots (spot_of v) k is_v) ∙ stands_there spots (spot_of u) k is_u))

pub same_place : (spots : List Spot) (v : Vertex) (k m : ℕ) → IsAt spots v k → IsAt spots v m → k ≡ m
same_place spots v k m is_k is_m = same_Some k m (sym is_k ∙ is_m)

-- what is inserted is there, and so is what was
holds_by : (ks : List Spot) (k : Spot) (b : Bool) (s : Spot) → Contains ks s → Contains (if b then ks else ks ++ k ∷ []) s
holds_by ks k true s has = has
holds_by ks k false s has = Contains-append_left ks (k ∷ []) s has

pub inserted : (ks : List Spot) (k : Spot) → Adds ks k (insert_key same_spot ks k)
inserted ks k = record {
  holds = λ s has. holds_by ks k (list_any (same_spot k) ks) s has;
  added = Contains-insert_key same_spot same_spot_is ks k;
}

-- ---- the vertices of a job, one after the other

pub has_link : (old mid new : List Spot) (l : ParentLink) → Adds old (spot_of (Leave l.from_as l.link.from)) mid → Adds mid (spot_of (Enter l.to_as l.link.to)) new →
    Holds old new × HasLink new l
has_link old mid new l tail head = (
  λ s has. head.holds s (tail.holds s has),
  record { tail = head.holds (spot_of (Leave l.from_as l.link.from)) tail.added; head = head.added },
)

link_stays : (old new : List Spot) → Holds old new → (l : ParentLink) → HasLink old l → HasLink new l
link_stays old new holds l has = record {
  tail = holds (spot_of (Leave l.from_as l.link.from)) has.tail;
  head = holds (spot_of (Enter l.to_as l.link.to)) has.head;
}

end_stays : (j : BorderJob) (old new : List Spot) → Holds old new → (r : ChildRow) → HasEnd j old r → HasEnd j new r
end_stays j old new holds r has = λ is. holds (spot_of (Leave r.at r.target)) (has is)

pub links_stay : (old new : List Spot) (ls : List ParentLink) → Holds old new → All (HasLink old) ls → All (HasLink new) ls
links_stay old new ls holds all = All-weaker (HasLink old) (HasLink new) (link_stays old new holds) ls all

pub more_links : (old new : List Spot) (ls : List ParentLink) (i : ℕ) (d : ParentLink) → i < length ls → Holds old new → All (HasLink old) (take i ls) →
    HasLink new (get_or ls i d) → All (HasLink new) (take (i + 1) ls)
more_links old new ls i d below holds all has =
    All-more (HasLink new) ls i d below (links_stay old new (take i ls) holds all) has

pub more_ends : (j : BorderJob) (old new : List Spot) (rs : List ChildRow) (i : ℕ) (d : ChildRow) → i < length rs → Holds old new → All (HasEnd j old) (take i rs) →
    HasEnd j new (get_or rs i d) → All (HasEnd j new) (take (i + 1) rs)
more_ends j old new rs i d below holds all has =
    All-more (HasEnd j new) rs i d below (All-weaker (HasEnd j old) (HasEnd j new) (end_stays j old new holds) (take i rs) all) has
