-- What best rows show is within the ranges of the wire: segments have few addresses, and costs are within the cap.
use Rattle.std.proofs.Common.{◌≡◌, ◌≤◌, ◌*◌, ℕ, suc, List, [], ◌∷◌, length, map, Option, Some, None, sym, ap, subst, inl, inr, refl, arith, length-append}
use Rattle.std.specs.Prelude.{Contains}
use Rattle.std.specs.List.{AllByRecursion}
use Rattle.std.proofs.lemmas.List.{length-map}
use Rattle.std.proofs.lemmas.List.Concat.{flat_map-cons}
use Rattle.std.proofs.lemmas.List.Elements.{All-contains, Contains-append_left, Contains-append_right}
use Rattle.plant_model.specs.Types.{Addr, Link, As, Query, Seed, Label, OutLink, Best, Ask, Target}
use Rattle.dom_base.specs.declared.addr.Addr.TheVariants.{V4, V6}
use Rattle.te_links.specs.Rows.{Rows, all_links}
use Rattle.walk_laws.specs.Walks.{Walk}
use Rattle.walk_laws.specs.Labels.{IsSegment}
use Rattle.walk_laws.proofs.Short.{segment_short}
use Rattle.pcep_subobjects.specs.Addresses.{IsAddr}
use Rattle.pcep_subobjects.specs.Hops as hops
use Rattle.pcep_subobjects.specs.Hops.{hop_text, hops_text, strict_hop}
use Rattle.pcep_messages.specs.declared.message.Answer.TheVariants.{Paths}
use Rattle.pcep_messages.specs.Spelling.{IsWritten}
use Rattle.disclosure.specs.Shown.{open_of}
use Rattle.border_costs.proofs.Members.{contains_none, contains_head, contains_tail, contains_cases}
use Rattle.border_costs.specs.declared.job.Target.TheVariants.{Node, Next}
use Rattle.border_costs.specs.declared.answer.Answer.{Answer}
use Rattle.border_costs.specs.Solutions.{AreRows, AreBest, IsBest, IsHead}
use Rattle.plant_model.specs.Plant.{IsLinkInRange}
use Rattle.plant_model.specs.Laws.{AreWords}
use Rattle.plant_model.specs.Writing.{reply_message}
use Rattle.plant_laws.specs.Topologies.{IsDomain}
use Rattle.plant_laws.proofs.WrittenForm.InForm.{paths_written}

-- a segment within the ranges of the wire
abbrev pub SegFits : List Addr → Type 0
SegFits t = AllByRecursion IsAddr t × (length t ≤ 1025)

pub open_written : (t : List Addr) → AllByRecursion IsAddr t → hops.AreWritten (open_of t)
open_written [] all = tt
open_written (a ∷ t) all = ((refl, refl, all.0), open_written t all.1)

pub hop_short : (a : Addr) → length (hop_text (strict_hop a)) ≤ 20
hop_short (V4 n) = omega arith
hop_short (V6 n) = omega arith

pub open_short : (t : List Addr) → length (hops_text (open_of t)) ≤ 20 * length t
open_short [] = omega arith
open_short (a ∷ t) = omega (arith, ap length (flat_map-cons hop_text (strict_hop a) (open_of t)), length-append (hop_text (strict_hop a)) (hops_text (open_of t)), hop_short a, open_short t)

-- a key is shown in written form
pub seg_written : (t : List Addr) (flags id : ℕ) → AreWords (flags, id) → SegFits t → IsWritten (reply_message flags id (Paths (record { hops = open_of t; metric = None } ∷ [])))
seg_written t flags id words fits =
    paths_written flags id 20500 (record { hops = open_of t; metric = None } ∷ []) words tt (omega arith)
    (record { route = open_written t fits.0; few = omega (arith, open_short t, fits.1); metric = tt }, tt) (omega arith)

-- ---- best rows

module _ (d : As) (g : Rows) (domain : IsDomain d g) (ask : Ask) where
  node_fits : (a : Addr) → Contains g.nodes a → IsAddr a
  node_fits a there = All-contains IsAddr g.nodes a domain.range.nodes there

  in_outs : (outs : List OutLink) (o : OutLink) → Contains outs o → Contains (map (λ o. o.link) outs) o.link
  in_outs [] o there = absurd (contains_none o there)
  in_outs (x ∷ xs) o there = elim (contains_cases x xs o there) [
    | inl same ↦ subst (λ (z : OutLink). Contains (map (λ (w : OutLink). w.link) (x ∷ xs)) z.link) same (contains_head x.link (map (λ o. o.link) xs))
    | inr more ↦ contains_tail x.link (map (λ o. o.link) xs) o.link (in_outs xs o more)
  ]

  inner_far : (l : Link) → Contains g.links l → IsAddr l.far
  inner_far l there = (All-contains IsLinkInRange (all_links g) l domain.range.links (Contains-append_left g.links (map (λ o. o.link) g.outs) l there)).far

  outer_far : (o : OutLink) → Contains g.outs o → IsAddr o.link.far
  outer_far o there = (All-contains IsLinkInRange (all_links g) o.link domain.range.links (Contains-append_right g.links (map (λ o. o.link) g.outs) o.link (in_outs g.outs o there))).far

  fars_fit : (q : Query) (seeds : List Seed) (ls : List Link) (u : Addr) (a : Label) → IsSegment g q seeds u a ls → AllByRecursion IsAddr (map (λ l. l.far) ls)
  fars_fit q seeds [] u a is = tt
  fars_fit q seeds (l ∷ ls) u a is = (inner_far l is.1.1.tight.admitted.is_link, fars_fit q seeds ls l.to is.1.0 is.1.2)

  first_node : (q : Query) (u v : Addr) (ls : List Link) → Walk g q u v ls → Contains g.nodes u
  first_node q u v [] walk = walk.1.is_node
  first_node q u v (l ∷ ls) walk = subst (Contains g.nodes) walk.0 walk.1.from.is_node

  -- what is known of a best row
  pub record BestFits (b : Best) : Type 0 where
    pub segment : SegFits b.segment
    pub entry : IsAddr b.entry
    pub cost : b.cost ≤ ask.query.cap
    pub exit : (head : Addr) → b.head ≡ Some head → IsAddr b.exit

  exit_fits : (target : Target) (exit : Addr) (head : Option Addr) → IsHead g ask.query ask.down target exit head → (h : Addr) → head ≡ Some h → IsAddr exit
  exit_fits (Node t) exit head is h e = absurd (no (sym is) e)
    where
      no : None ≡ head → head ≡ Some h → ⊥
      no p q = cc
  exit_fits (Next b) exit head is h e = subst IsAddr is.is_exit (outer_far is.out is.least.out.is_out)

  best_fits : (seeds : List Seed) (entry : Addr) (b : Best) → IsBest g ask seeds entry b → BestFits b
  best_fits seeds entry b is =
      let a : Label = record { cost = b.cost; exit = b.exit } in
      let node = first_node ask.query entry is.label.0.seed.node is.label.0.links is.label.0.walk in
      let short = segment_short g ask.query seeds domain.topology is.links entry a is.label is.chosen in
      record {
        segment = subst SegFits (sym is.shown) (
          (node_fits entry node, fars_fit ask.query seeds is.links entry a is.chosen),
          omega (arith, short, domain.topology.few_nodes, length-map {A = Link} {B = Addr} is.links (λ l. l.far)),
        );
        entry = subst IsAddr (sym is.is_entry) (node_fits entry node);
        cost = is.label.0.within;
        exit = exit_fits ask.target b.exit b.head is.is_head;
      }

  all_fit : (seeds : List Seed) (entries : List Addr) (bs : List Best) → AreBest g ask seeds entries bs → AllByRecursion BestFits bs × (length bs ≤ length entries)
  all_fit seeds [] bs are = subst (λ (l : List Best). AllByRecursion BestFits l × (length l ≤ 0)) (sym are) (tt, omega arith)
  all_fit seeds (entry ∷ entries) bs (inl none) = let rest = all_fit seeds entries bs none.1 in (rest.0, omega (arith, rest.1))
  all_fit seeds (entry ∷ entries) bs (inr some) =
      let rest = all_fit seeds entries some.1 some.4 in
      subst (λ (l : List Best). AllByRecursion BestFits l × (length l ≤ suc (length entries))) (sym some.2) ((best_fits seeds entry some.0 some.3, rest.0), omega (arith, rest.1))

  pub rows_fit : (rows : Answer) → AreRows g ask rows → AllByRecursion BestFits rows.best × (length rows.best ≤ length ask.entries)
  rows_fit rows right = all_fit right.seeds ask.entries rows.best right.best

  pub segments_fit : (bs : List Best) → AllByRecursion BestFits bs → AllByRecursion (λ (b : Best). SegFits b.segment) bs
  segments_fit [] all = tt
  segments_fit (b ∷ bs) all = (all.0.segment, segments_fit bs all.1)
