-- What the rules need to know of a row and the rows before it.
use Rattle.std.specs.Prelude.{◌≡◌, ◌≤◌, ◌<◌, ◌==◌, ◌+◌, ℕ, List, Some, length, map, take, count_by, AllPairs, Contains, IsPermutation, slice_get, slice_index_or}
use Rattle.std.specs.declared.cmp.Ordering.{Ordering}
use Rattle.std.specs.BTreeMap.{is_at}
use Rattle.dom_base.specs.AddrOrder.{rank}
use Rattle.dom_base.specs.declared.addr.Addr.{Addr}
use Rattle.te_links.specs.declared.rows.Entry.{Entry}
use Rattle.te_links.specs.declared.survey.Survey.{Survey}
use Rattle.te_links.specs.declared.limits.TheConstants.{TAILS_MAX, ENTRY_NODES_MAX}
use Rattle.te_links.specs.Rows.{Rows, FewDifferent, all_links}

-- for each key how often it stands among those before it
pub record CountsBefore {K : Type 0} (cmp : K → K → Ordering) (keys : List K) (counts : List ℕ) : Type 0 where
  pub each : length counts ≡ length keys
  pub at_key : (k : ℕ) (x : K) → slice_get keys k ≡ Some x → slice_index_or counts k 0 ≡ count_by (is_at (cmp x)) (take k keys)

-- at most so many of the first n addresses differ, and more of one more
pub record IsFewUpTo (most : ℕ) (addrs : List Addr) (n : ℕ) : Type 0 where
  pub within : n ≤ length addrs
  pub few : FewDifferent most (take n addrs)
  pub ends : n < length addrs → ¬ FewDifferent most (take (n + 1) addrs)

-- each count says whether the key stands before
pub record TellsRepeats {K : Type 0} (keys : List K) (counts : List ℕ) : Type 0 where
  pub each : length counts ≡ length keys
  pub repeats : (k : ℕ) (x : K) → slice_get keys k ≡ Some x → 0 < slice_index_or counts k 0 → Contains (take k keys) x
  pub differs : (k : ℕ) (x : K) → slice_get keys k ≡ Some x → slice_index_or counts k 0 ≡ 0 → ¬ Contains (take k keys) x

pub record IsSurvey (g : Rows) (s : Survey) : Type 0 where
  pub nodes : IsPermutation g.nodes s.nodes.items
  pub rising : AllPairs (λ a b. rank a ≤ rank b) s.nodes.items
  pub same_node : TellsRepeats g.nodes s.same_node.items
  pub same_near : TellsRepeats (map (λ l. l.near) (all_links g)) s.same_near.items
  pub same_far : TellsRepeats (map (λ l. l.far) (all_links g)) s.same_far.items
  pub same_entry : TellsRepeats g.entries s.same_entry.items
  pub domains : length s.same_domain.items ≡ length g.entries
  pub same_domain : (k : ℕ) (e : Entry) → slice_get g.entries k ≡ Some e → slice_index_or s.same_domain.items k 0 ≡ count_by (λ f. f.from_as.0 == e.from_as.0) (take k g.entries)
  pub tails : IsFewUpTo TAILS_MAX (map (λ o. o.link.from) g.outs) s.tails_end
  pub entry_nodes : IsFewUpTo ENTRY_NODES_MAX (map (λ e. e.node) g.entries) s.entry_nodes_end
