-- The parent as contracts see it, by its fields.
use Rattle.std.specs.Prelude.{◌≡◌, ◌<◌, ◌+◌, ◌-◌, ◌≤◌, min, length, All, AllPairs}
use Rattle.std.specs.VecDeque.{deque_capacity, deque_len}
use Rattle.pce_common.specs.plant_model.Types.{As}
use Rattle.pce_common.specs.plant_model.declared.TheConstants.{PARENT_PENDING_MAX}
use Rattle.pce_common.specs.plant_model.Parent.{Parent, Family}
use Rattle.pce_parent.specs.Seen.{Seen}
use Rattle.pce_parent.specs.Solution.{IsWeighed}
use Rattle.pce_parent.specs.declared.parent.Parent.TheInside.{Inside}

abbrev pub family_of : Inside → Family
family_of a = record { children = a.children; links = a.links }

abbrev pub parent_of : Inside → Parent
parent_of a = record { pending = a.requests.kept; ways = a.ways }

-- a request that is pending may be lost, and there is memory for that
abbrev pub seen_of : Inside → Seen
seen_of a = record {
  id = a.id;
  family = family_of a;
  losing = record { parent = parent_of a; lost = a.lost.items };
  room = min a.requests.spare (deque_capacity a.lost - (deque_len a.lost + length a.requests.kept.rows));
}

pub record HoldsParent (a : Inside) : Type 0 where
  pub lost_fit : deque_len a.lost + length a.requests.kept.rows ≤ deque_capacity a.lost
  pub limit : a.requests.kept.limit ≡ PARENT_PENDING_MAX
  pub last : a.last ≡ a.requests.kept.given
  pub rising : AllPairs (λ (x y : As). x.0 < y.0) a.children
  pub weighed : All IsWeighed a.links
