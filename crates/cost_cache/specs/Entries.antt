-- The content of cache entries, and the topologies for which they are good.
use Rattle.std.specs.Prelude.{◌≡◌, ◌≤◌, ℕ, List, length, None, Some, Contains, slice_get, slice_index_or}
use Rattle.std.specs.declared.option.Option.{Option}
use Rattle.dom_base.specs.declared.addr.Addr.{Addr}
use Rattle.dom_base.specs.declared.names.As.{As}
use Rattle.dom_base.specs.declared.link.Link.{Link}
use Rattle.dom_base.specs.declared.query.Query.{Query}
use Rattle.dom_base.specs.declared.query.Seed.{Seed}
use Rattle.dom_base.specs.declared.query.Label.{Label}
use Rattle.te_links.specs.Rows.{Rows}
use Rattle.walk_laws.specs.Labels.{EndsAt, IsChosen}
use Rattle.path_certificate.specs.declared.limits.TheConstants.{SEEDS_MAX}
use Rattle.path_search.specs.Arcs.{label_at}
use Rattle.path_search.specs.Search.{AreLabels}
use Rattle.border_costs.specs.Asks.{AreSeedsTo}
use Rattle.lru.specs.LruCache.{LruCache, lru_cache, put_entries}
use Rattle.cost_cache.specs.declared.key.Key.{Key}
use Rattle.cost_cache.specs.declared.kept.Kept.{Kept}
use Rattle.cost_cache.specs.declared.kept.Next.{Next}
use Rattle.cost_cache.specs.Keys.{same_key}

-- the link is the next one: its far address, and the place of the node that it ends at
pub record Leads (g : Rows) (l : Link) (x : Next) : Type 0 where
  pub far : x.far ≡ l.far
  pub end : slice_get g.nodes x.end ≡ Some l.to

-- the next link of the chosen segment from a node with label a; none where the segment ends at the node
abbrev pub IsNext : Rows → Query → List Seed → Addr → Label → Option Next → Type 0
IsNext g q seeds n a None = EndsAt seeds n a
IsNext g q seeds n a (Some x) = (¬ EndsAt seeds n a) × ((l : Link) × (rest : Label) × IsChosen g q seeds n a l rest × Leads g l x)

abbrev pub next_at : List (Option Next) → ℕ → Option Next
next_at nexts i = slice_index_or nexts i None

-- each node with a label has its next link
pub record AreNexts (g : Rows) (q : Query) (seeds : List Seed) (labels : List (Option Label)) (nexts : List (Option Next)) : Type 0 where
  pub same_length : length nexts ≡ length g.nodes
  pub each : (i : ℕ) (n : Addr) (a : Label) → slice_get g.nodes i ≡ Some n → label_at labels i ≡ Some a → IsNext g q seeds n a (next_at nexts i)

-- the labels of all nodes over these seeds, and the next links of their chosen segments
pub record AreKept (g : Rows) (q : Query) (seeds : List Seed) (kept : Kept) : Type 0 where
  pub labels : AreLabels g q seeds kept.labels
  pub nexts : AreNexts g q seeds kept.labels kept.nexts

-- what is kept is right for a key in a topology
pub record IsKept (g : Rows) (key : Key) (kept : Kept) : Type 0 where
  pub seeds : List Seed
  pub are_seeds : AreSeedsTo g key.query key.down key.target seeds
  pub few : length seeds ≤ SEEDS_MAX
  pub are_kept : AreKept g key.query seeds kept

-- the keys with what is kept under each, the last used first, and how many there may be
abbrev pub Entries : Type 0
Entries = LruCache Key Kept

-- the cache has an entry under this key
abbrev pub Has : Entries → Key → Type 0
Has cache key = (kept : Kept) × Contains cache.entries (key, kept)

-- good for an element, a generation and a topology: each entry of that element and generation is right in that topology
abbrev pub IsGood : As → ℕ → Rows → Entries → Type 0
IsGood at generation g cache =
    (key : Key) (kept : Kept) → Contains cache.entries (key, kept) → key.at ≡ at → key.generation ≡ generation → IsKept g key kept

-- good for every element and generation
abbrev pub IsGoodForAll : Rows → Entries → Type 0
IsGoodForAll g cache = (at : As) (generation : ℕ) → IsGood at generation g cache

-- good for every element, generation and topology
abbrev pub IsGoodEverywhere : Entries → Type 0
IsGoodEverywhere cache = (g : Rows) → IsGoodForAll g cache

-- another element or another generation
abbrev pub IsOther : Key → As → ℕ → Type 0
IsOther key at generation = ¬ ((key.at ≡ at) × (key.generation ≡ generation))

-- for another element or generation the cache is good for what it was good for
abbrev pub KeepsOthers : Key → Entries → Entries → Type 0
KeepsOthers key old new = (at : As) (generation : ℕ) (g : Rows) → IsOther key at generation → IsGood at generation g old → IsGood at generation g new

-- The entries after an answer: the key was used last, and the others stand as the order of `lru` leaves them, which drops the
-- one that was used longest ago where a new key finds no room.
abbrev pub IsAfter : Entries → Key → Entries → Type 0
IsAfter old key new = (kept : Kept) × (new ≡ lru_cache (put_entries same_key old key kept) old.cap)
