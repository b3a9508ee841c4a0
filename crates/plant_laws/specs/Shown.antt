-- The walk that an answer shows (RFC 5520: a key stands for a segment).
use Rattle.std.specs.Prelude.{◌≡◌, ℕ, Bool, true, false, List, [], ◌∷◌, ◌++◌, map, Contains, Some, None}
use Rattle.plant_model.specs.Types.{Addr, Link, Query, Seed, Hop, NetworkParts, Target, Down, Issued, Branch}
use Rattle.te_links.specs.Rows.{Rows}
use Rattle.walk_laws.specs.Labels.{IsLabel, IsSegment}
use Rattle.walk_laws.specs.Crossing.{Last, Links, Over, query_in}
use Rattle.walk_laws.specs.Crossing as crossing
use Rattle.border_costs.specs.declared.job.Target.TheVariants.{Node, Next}
use Rattle.disclosure.specs.Shown.{open_of, closed_of}
use Rattle.border_costs.specs.Asks.{AreSeedsTo, beyond}
use Rattle.vspt_tree.specs.Branches.{first_least}
use Rattle.plant_model.specs.Branches.{downs}
use Rattle.plant_model.specs.Settings.{place}
use Rattle.plant_model.specs.Plant.{Segment}
use Rattle.plant_laws.specs.Transcript.{Visit, pinned, keys_at, domains}
use Rattle.plant_laws.specs.Ends.{End, Inside, Asked, goal_of}
use Rattle.pcep_subobjects.specs.Hops.{strict_hop}
use Rattle.walk_laws.specs.Composition.{AreBeyond}

-- the part of one domain: written out, or the entry and a key that stands for it
abbrev pub segment_of : Addr → List Link → Segment
segment_of entry links = entry ∷ map (λ l. l.far) links

abbrev pub IsPart : Bool → List (Issued Segment) → Addr → Addr → List Link → List Hop → Type 0
IsPart true keys id entry links part = part ≡ open_of (segment_of entry links)
IsPart false keys id entry links part =
    (k : Issued Segment) × Contains keys k × (k.segment ≡ segment_of entry links) × (part ≡ closed_of entry k.number id None)

-- the chosen segment towards an exit, over rows of what lies beyond
pub record IsChosenTo (g : Rows) (q : Query) (target : Target) (down : List Down) (entry exit : Addr) (links : List Link) : Type 0 where
  pub seeds : List Seed
  pub are_seeds : AreSeedsTo g q down target seeds
  pub cost : ℕ
  pub label : IsLabel g q seeds entry (Some (record { cost = cost; exit = exit }))
  pub segment : IsSegment g q seeds entry (record { cost = cost; exit = exit }) links

-- how a branch ends in the last domain
abbrev pub ending : Bool → Addr → List Hop
ending true t = []
ending false t = strict_hop t ∷ []

-- What the hops show of the last domain of a chain: its chosen segment, and then the target, or the far address of an out link and
-- the hops of the first least branch that was told of its head. A walk that ends otherwise than the goal says is not shown.
abbrev pub ShowsLast : NetworkParts → Bool → Query → End → Visit → Addr → List Hop → Last → Type 0
ShowsLast n open' q (Inside t) one e hs (Links last) = record {
  part : List Hop;
  is_part : IsPart open' (keys_at one.solved) (place n one.own).id e last part;
  chosen : IsChosenTo (pinned one.own one.at) (query_in q one.own) (Node t) [] e t last;
  is_hops : hs ≡ part ++ ending open' t;
}
ShowsLast n open' q (Asked next told) one e hs (Over l c) = record {
  part : List Hop;
  is_part : IsPart open' (keys_at one.solved) (place n one.own).id e l.links part;
  chosen : IsChosenTo (pinned one.own one.at) (query_in q one.own) (Next next) (downs told) e l.out.link.far l.links;
  row : Branch;
  is_row : first_least l.out.link.to told ≡ Some row;
  is_cost : row.cost ≡ c;
  is_hops : hs ≡ part ++ strict_hop l.out.link.far ∷ row.hops;
}
ShowsLast n open' q (Inside t) one e hs (Over l c) = ⊥
ShowsLast n open' q (Asked next told) one e hs (Links last) = ⊥

-- The hops show this walk along the chain, the first part open or closed, and the others closed. The part of each domain is the
-- chosen segment over the least costs of the rest. No chain is empty, and a walk crosses from each domain but the last to the next: of
-- others nothing is shown.
abbrev pub ShowsAlong : NetworkParts → Bool → Query → End → List Visit → Addr → List Hop → List crossing.Leg → Last → Type 0
ShowsAlong n open' q end [] e hs legs last = ⊥
ShowsAlong n open' q end (one ∷ []) e hs [] last = ShowsLast n open' q end one e hs last
ShowsAlong n open' q end (one ∷ []) e hs (l ∷ ls) last = ⊥
ShowsAlong n open' q end (one ∷ next ∷ rest) e hs [] last = ⊥
ShowsAlong n open' q end (one ∷ next ∷ rest) e hs (l ∷ ls) last = record {
  part : List Hop;
  is_part : IsPart open' (keys_at one.solved) (place n one.own).id e l.links part;
  rows : List Down;
  right : AreBeyond q one.own (pinned next.own next.at) (domains rest) (goal_of end) (beyond rows);
  chosen : IsChosenTo (pinned one.own one.at) (query_in q one.own) (Next next.own) rows e l.out.link.far l.links;
  below : List Hop;
  shown : ShowsAlong n false q end (next ∷ rest) l.out.link.to below ls last;
  is_hops : hs ≡ part ++ strict_hop l.out.link.far ∷ below;
}
