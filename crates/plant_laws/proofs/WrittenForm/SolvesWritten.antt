-- What the solve of an element sends is in written form, and fits one message.
use Rattle.std.proofs.Common.{◌≡◌, ◌≢◌, ◌≤◌, ◌<◌, ◌+◌, ◌*◌, ◌^◌, ◌==◌, ℕ, zero, suc, get_or, Bool, true, false, cond, nat_lt, List, [], ◌∷◌, ◌++◌, length, map, filter, sym, ◌∙◌, ap, subst, refl, arith}
use Rattle.std.specs.Prelude.{All, Contains, Option, Some, None, IsSome, count_by}
use Rattle.std.specs.List.{AllByRecursion}
use Rattle.std.proofs.lemmas.Bool.{eqb-false}
use Rattle.std.proofs.lemmas.List.{length-map}
use Rattle.std.proofs.lemmas.List.Elements.{All-nil, All-cons, All-head, All-tail}
use Rattle.std.proofs.lemmas.List.Sums.{sum_by-cons}
use Rattle.dom_base.specs.declared.limits.TheConstants.{COST_MAX}
use Rattle.plant_model.specs.Types.{Addr, As, Metric, Entry, Path, Class, Best, Branch, ElementRow, NetworkParts}
use Rattle.dom_base.specs.declared.query.Metric.TheVariants.{Igp, Te, Hops}
use Rattle.dom_base.specs.AddrOrder.{rank}
use Rattle.te_links.specs.Rows.{Rows, IsTopology}
use Rattle.pcep_subobjects.specs.Addresses.{IsAddr}
use Rattle.pcep_subobjects.specs.Hops as hops
use Rattle.pcep_subobjects.specs.Hops.{strict_hop}
use Rattle.pcep_messages.specs.declared.message.Answer.TheVariants.{Paths}
use Rattle.pcep_messages.specs.Spelling.{IsWritten, AreMeasured}
use Rattle.disclosure.specs.Shown.{open_of, closed_of}
use Rattle.disclosure.specs.declared.class.Class.TheVariants.{Client, Neighbour, Parent}
use Rattle.path_keys.specs.Keys.{number_after, number_most}
use Rattle.plant_text.specs.Names.{same_as, parent_as}
use Rattle.plant_text.specs.Settings.{row_of, deny_at}
use Rattle.plant_model.specs.Names.{same_addr}
use Rattle.plant_model.specs.Rising.{has_addr, insert_addr}
use Rattle.plant_model.specs.Wire.{Codec}
use Rattle.plant_model.specs.Laws.{IsCodec, IsNetwork, IsElement, AreWords}
use Rattle.pcep_messages.specs.Requests.{type_of_metric}
use Rattle.plant_model.specs.Writing.{no_path, reply_message}
use Rattle.vspt_tree.specs.Branches.{better, first_least}
use Rattle.plant_model.specs.Branches.{hops_of, onward, open_branch, end_of, path_of}
use Rattle.plant_model.specs.Jobs.{entry_nodes, entries_of}
use Rattle.plant_model.specs.Element.{Item, Row, Element, ElementSettings, Taken, is_client}
use Rattle.plant_model.specs.Solving.{commit, client_reply, closed_reply, closed_paths, free, job_found}
use Rattle.plant_model.specs.Settings.{place, place_from}
use Rattle.plant_model.specs.Routes.{routes}
use Rattle.plant_model.specs.Plant.{Pin, Segment, Plant, Happened, Entry as RunEntry, Run, deeds_of, ask, ElementSolves}
use Rattle.plant_laws.specs.Topologies.{IsDomain}
use Rattle.plant_laws.specs.About.{IsShort}
use Rattle.plant_laws.specs.Sending.{AreAll, AllSent}
use Rattle.plant_laws.proofs.WrittenForm.InForm.{all_append, busy_written, no_path_written, MetricFits, PathFits, room, paths_written}
use Rattle.plant_laws.proofs.WrittenForm.BestFits.{BestFits, open_written, open_short, hop_short, rows_fit}
use Rattle.plant_laws.proofs.WrittenForm.DownsFit.{HopsFit, BranchesFit, text_cons, text_append, closed_short, ended_short, downs_fit}
use Rattle.plant_laws.proofs.WrittenForm.ElementSays.{Ok, under}
use Rattle.plant_laws.proofs.WrittenForm.AllWritten.{AllFit}
use Rattle.plant_laws.proofs.Least.EntriesRise.{nodes_rise}
use Rattle.plant_laws.proofs.Keys.KeysHold.{run_good, lives_of}
use Rattle.plant_laws.proofs.Least.OfRun.{solved_of, given_of}
use Rattle.border_costs.proofs.Members.{contains_head, contains_tail}

-- ---- how many entries an asker is answered for

counted : {X : Type 0} (p : X → Bool) (xs : List X) → length (filter p xs) ≡ count_by p xs
counted p [] = refl
counted p (x ∷ xs) = go (p x) (counted p xs) ∙ sym (sum_by-cons (λ x. cond (p x) 1 0) x xs)
  where
    go : (b : Bool) → length (filter p xs) ≡ count_by p xs → length (cond b (x ∷ filter p xs) (filter p xs)) ≡ cond b 1 0 + count_by p xs
    go true is = omega (arith, is)
    go false is = omega (arith, is)

insert_few : (n : Addr) (xs : List Addr) → length (insert_addr n xs) ≤ suc (length xs)
insert_few n [] = omega arith
insert_few n (a ∷ rest) = go (nat_lt (rank n) (rank a)) (same_addr n a) (insert_few n rest)
  where
    go : (b d : Bool) → length (insert_addr n rest) ≤ suc (length rest) → length (cond b (n ∷ a ∷ rest) (cond d (a ∷ rest) (a ∷ insert_addr n rest))) ≤ suc (suc (length rest))
    go true d le = omega arith
    go false true le = omega arith
    go false false le = omega (arith, le)

insert_all : (P : Addr → Type 0) (n : Addr) (xs : List Addr) → P n → All P xs → All P (insert_addr n xs)
insert_all P n [] is all = All-cons P n [] is (All-nil P)
insert_all P n (a ∷ rest) is all = go (nat_lt (rank n) (rank a)) (same_addr n a) (insert_all P n rest is (All-tail P a rest all))
  where
    go : (b d : Bool) → All P (insert_addr n rest) → All P (cond b (n ∷ a ∷ rest) (cond d (a ∷ rest) (a ∷ insert_addr n rest)))
    go true d more = All-cons P n (a ∷ rest) is all
    go false true more = all
    go false false more = All-cons P a (insert_addr n rest) (All-head P a rest all) more

nodes_all : (P : Addr → Type 0) (es : List Entry) → ((e : Entry) → Contains es e → P e.node) → All P (entry_nodes es)
nodes_all P [] each = All-nil P
nodes_all P (e ∷ es) each = insert_all P e.node (entry_nodes es) (each e (contains_head e es)) (nodes_all P es (λ x c. each x (contains_tail e es x c)))

mapped : (es : List Entry) (e : Entry) → Contains es e → Contains (map (λ (e : Entry). e.node) es) e.node
mapped es e there = (there.0, omega (arith, there.1, length-map {A = Entry} {B = Addr} es (λ e. e.node)), get_or-map-node es there.0 e there.1 there.2)
  where
    get_or-map-node : (es : List Entry) (k : ℕ) (e : Entry) → k < length es → get_or es k e ≡ e → get_or (map (λ (e : Entry). e.node) es) k e.node ≡ e.node
    get_or-map-node [] k e less is = absurd (omega (arith, less))
    get_or-map-node (x ∷ xs) zero e less is = ap (λ (z : Entry). z.node) is
    get_or-map-node (x ∷ xs) (suc k) e less is = get_or-map-node xs k e (omega (arith, less)) is

nodes_few : (es : List Entry) (g : Rows) → g.entries ≡ es → IsTopology g → length (entry_nodes es) ≤ 64
nodes_few es g is valid =
    subst (λ (l : List Entry). length (entry_nodes l) ≤ 64) is
    (valid.few_entry_nodes (entry_nodes g.entries) (λ i j d less within same. (let lt = nodes_rise g.entries i j d less within in let eq = ap rank same in omega (arith, lt, eq)))
    (nodes_all (Contains (map (λ (e : Entry). e.node) g.entries)) g.entries (mapped g.entries)))

pub entries_few : (class : Class) (source : Addr) (g : Rows) → IsTopology g → length (entries_of class source g) ≤ 65
entries_few (Client may) source g valid = omega arith
entries_few (Neighbour a) source g valid =
    let few = valid.few_entries a in
    omega (arith, few, counted (λ (e : Entry). same_as e.from_as a) g.entries, length-map {A = Entry} {B = Addr} (filter (λ (e : Entry). same_as e.from_as a) g.entries) (λ e. e.node))
entries_few Parent source g valid = go (has_addr source g.nodes)
  where
    few : length (entry_nodes g.entries) ≤ 64
    few = nodes_few g.entries g refl valid

    go : (b : Bool) → length (cond b (insert_addr source (entry_nodes g.entries)) (entry_nodes g.entries)) ≤ 65
    go true = omega (arith, few, insert_few source (entry_nodes g.entries))
    go false = omega (arith, few)

-- ---- hops

abbrev MaybeFits : Option Branch → Type 0
MaybeFits None = Unit {0}
MaybeFits (Some b) = HopsFit 900 b.hops

first_fits : (n : Addr) (bs : List Branch) → BranchesFit 900 bs → MaybeFits (first_least n bs)
first_fits n [] all = tt
first_fits n (b ∷ bs) all = go (same_addr b.entry n) (first_least n bs) (first_fits n bs all.1)
  where
    better_fits : (o : Option Branch) → MaybeFits o → MaybeFits (better b o)
    better_fits None h = all.0
    better_fits (Some other) h = pick (nat_lt other.cost b.cost)
      where
        pick : (x : Bool) → MaybeFits (cond x (Some other) (Some b))
        pick true = h
        pick false = all.0

    go : (x : Bool) (o : Option Branch) → MaybeFits o → MaybeFits (cond x (better b o) o)
    go true o h = better_fits o h
    go false o h = h

onward_fits : (exit : Addr) (head : Option Addr) (down : List Branch) → ((h : Addr) → head ≡ Some h → IsAddr exit) → BranchesFit 900 down → HopsFit 920 (onward exit head down)
onward_fits exit None down is all = record { written = tt; short = omega arith }
onward_fits exit (Some head) down is all = go (first_least head down) (first_fits head down all)
  where
    go : (o : Option Branch) → MaybeFits o → HopsFit 920 (strict_hop exit ∷ hops_of o)
    go None h = record { written = ((refl, refl, is head refl), tt); short = omega (arith, text_cons (strict_hop exit) [], hop_short exit) }
    go (Some b) h = record { written = ((refl, refl, is head refl), h.written); short = omega (arith, text_cons (strict_hop exit) b.hops, hop_short exit, h.short) }

-- ---- the paths of a solve

pub metric_fits : (c : Codec) → IsCodec c → (m : Metric) (cost : ℕ) → cost ≤ COST_MAX → MetricFits (Some (type_of_metric m, c.word cost))
metric_fits c codec Igp cost le = (omega arith, codec.costs.words cost le)
metric_fits c codec Te cost le = (omega arith, codec.costs.words cost le)
metric_fits c codec Hops cost le = (omega arith, codec.costs.words cost le)

closed_fits : (entry : Addr) (key : ℕ) (pce exit : Addr) (head : Option Addr) (target : Addr) (down : List Branch) → IsAddr entry → key < 2 ^ 16 → IsAddr pce → IsAddr target → ((h : Addr) → head ≡ Some h → IsAddr exit) → BranchesFit 900 down →
    HopsFit 960 (closed_of entry key pce (end_of head target) ++ onward exit head down)
closed_fits entry key pce exit None target down at_entry at_key at_pce at_target at_exit all = record {
  written = ((refl, refl, at_entry), ((at_key, at_pce), ((refl, refl, at_target), tt)));
  short = omega (arith, text_append (closed_of entry key pce (Some target)) [], ended_short entry key pce target);
}
closed_fits entry key pce exit (Some head) target down at_entry at_key at_pce at_target at_exit all =
    let more = onward_fits exit (Some head) down at_exit all in
    record {
      written = ((refl, refl, at_entry), ((at_key, at_pce), more.written));
      short = omega (arith, text_append (closed_of entry key pce None) (onward exit (Some head) down), closed_short entry key pce, more.short);
    }

after_fits : (key : ℕ) → key ≤ number_most → number_after key ≤ number_most
after_fits key le = go (key == number_most) refl
  where
    go : (b : Bool) → (key == number_most) ≡ b → cond b 1 (key + 1) ≤ number_most
    go true is = omega arith
    go false is = let other = eqb-false key number_most is in omega (arith, le, other)

room_is : {X : Type 0} (xs : List X) → room 976 xs ≡ 976 * length xs
room_is [] = refl
room_is (x ∷ xs) = omega (arith, room_is xs)

measured : (ps : List Path) → AllByRecursion (λ (p : Path). IsSome p.metric) ps → AreMeasured (Paths ps)
measured [] all = tt
measured (p ∷ []) all = tt
measured (p ∷ q ∷ ps) all = all

-- ---- what a solve sends

no_path_fits : (flags id : ℕ) (s t : Bool) → AreWords (flags, id) → IsWritten (reply_message flags id (no_path s t))
no_path_fits flags id true true w = no_path_written flags id 0 0 w (omega arith) (omega arith)
no_path_fits flags id true false w = no_path_written flags id 0 2 w (omega arith) (omega arith)
no_path_fits flags id false true w = no_path_written flags id 0 4 w (omega arith) (omega arith)
no_path_fits flags id false false w = no_path_written flags id 0 6 w (omega arith) (omega arith)

module _ (c : Codec) (codec : IsCodec c) (n : NetworkParts) (d : As) (h : Row Pin) (domain : IsDomain d h.1.item.pin.topology) (down : List Branch) (downs : BranchesFit 900 down) (e : ElementSettings) (at_id : IsAddr e.id)
    (words : AreWords (h.1.item.flags, h.1.key.id)) (at_target : IsAddr h.1.item.wanted.target) (cap : h.1.item.wanted.query.cap ≤ COST_MAX) where
  abbrev Fits : Best → Type 0
  Fits b = BestFits d h.1.item.pin.topology domain (ask c n d h down) b

  abbrev m : Metric
  m = h.1.item.wanted.query.metric

  cost_fits : (b : Best) → Fits b → b.cost ≤ COST_MAX
  cost_fits b fits = let le = fits.cost in omega (arith, le, cap)

  open_fits : (b : Best) → Fits b → PathFits 21420 (path_of c m b.cost (open_branch b down))
  open_fits b fits =
      let more = onward_fits b.exit b.head down fits.exit downs in
      record {
        route = all_append hops.IsWritten (open_of b.segment) (onward b.exit b.head down) (open_written b.segment fits.segment.0) more.written;
        few = omega (arith, text_append (open_of b.segment) (onward b.exit b.head down), open_short b.segment, fits.segment.1, more.short);
        metric = metric_fits c codec m b.cost (cost_fits b fits);
      }

  client_written : (s t : Bool) (best : List Best) → AllByRecursion Fits best → IsWritten (client_reply c h down s t best)
  client_written s t [] all = no_path_fits h.1.item.flags h.1.key.id s t words
  client_written s t (b ∷ bs) all =
      paths_written h.1.item.flags h.1.key.id 21420 (path_of c m b.cost (open_branch b down) ∷ []) words tt (omega arith) (open_fits b all.0, tt) (omega arith)

  abbrev told : ℕ → List Best → List Path
  told key best = closed_paths c e.id m h.1.item.wanted.target down key best

  closed_all : (key : ℕ) (best : List Best) → key ≤ number_most → AllByRecursion Fits best → AllByRecursion (PathFits 960) (told key best) × (length (told key best) ≡ length best) × AllByRecursion (λ (p : Path). IsSome p.metric) (told key best)
  closed_all key [] le all = (tt, refl, tt)
  closed_all key (b ∷ bs) le all =
      let more = closed_all (number_after key) bs (after_fits key le) all.1 in
      let fit = closed_fits b.entry key e.id b.exit b.head h.1.item.wanted.target down all.0.entry (omega (arith, le)) at_id at_target all.0.exit downs in
      ((record { route = fit.written; few = fit.short; metric = metric_fits c codec m b.cost (cost_fits b all.0) }, more.0), ap suc more.1, (refl, more.2))

  pub commit_written : (now : ℕ) (stands : Best → Segment) (s t : Bool) (best : List Best) (k : Element Pin Segment) → AllByRecursion Fits best → length best ≤ 65 → k.keys.next ≤ number_most →
      AreAll IsWritten (commit c e h down now stands (job_found s t best) k).outputs
  commit_written now stands s t best k all few next = choose (is_client h.1.item.class) _ _ (client_written s t best all, tt) (closed best all few)
    where
      choose : (b : Bool) (x y : Taken Pin Segment) → AreAll IsWritten x.outputs → AreAll IsWritten y.outputs → AreAll IsWritten (cond b x y).outputs
      choose true x y p q = p
      choose false x y p q = q

      closed : (best : List Best) → AllByRecursion Fits best → length best ≤ 65 → AreAll IsWritten (closed_reply c e h down now stands k best).outputs
      closed [] all few = (no_path_written h.1.item.flags h.1.key.id 0 0 words (omega arith) (omega arith), tt)
      closed (b ∷ bs) all few =
          let paths = closed_all k.keys.next (b ∷ bs) next all in
          choose (nat_lt (free now k.keys) (length (b ∷ bs))) _ _ (busy_written h.1.item.flags h.1.key.id words, tt) (
            paths_written h.1.item.flags h.1.key.id 960 (told k.keys.next (b ∷ bs)) words (measured (told k.keys.next (b ∷ bs)) paths.2) (omega arith) paths.0
                (omega (arith, room_is (told k.keys.next (b ∷ bs)), paths.1, few)),
            tt,
          )

-- ---- of a run

place_id : (d : As) (n : NetworkParts) → IsNetwork n → IsAddr (place n d).id
place_id d n net = go n.elements net.elements
  where
    go : (rs : List ElementRow) → All IsElement rs → IsAddr (place_from d (deny_at d n.deny) (routes n d) (row_of d rs)).id
    go [] all = omega arith
    go (r ∷ rs) all = pick (same_as r.own d) (go rs (All-tail IsElement r rs all))
      where
        pick : (b : Bool) → IsAddr (place_from d (deny_at d n.deny) (routes n d) (row_of d rs)).id → IsAddr (place_from d (deny_at d n.deny) (routes n d) (cond b (Some r) (row_of d rs))).id
        pick true more = (All-head IsElement r rs all).id
        pick false more = more

module _ (c : Codec) (codec : IsCodec c) (n : NetworkParts) (net : IsNetwork n) (es : List RunEntry) (s : Plant) (run : Run c n es s) (written : AllSent IsWritten (deeds_of c n es)) (fit : AllFit c codec n net s) (short : IsShort (deeds_of c n es)) where
  pub element_writes : (d : As) → d ≢ parent_as → (k : ℕ) (h : Happened) (x : ElementSolves c n d k s h) →
      AreAll IsWritten (commit c (place n d) (k, x.held) x.down s.clock (λ b. b.segment) (job_found x.rows.source_known x.rows.target_known x.rows.best) (s.elements d)).outputs
  element_writes d real k h x =
      let now = deeds_of c n es in
      let given = given_of c codec n net es s run written short in
      let solved = solved_of c codec n net es s run written d k h x in
      let downs : BranchesFit 900 x.down = downs_fit c codec n now given written d real k _ _ solved in
      let ok : Ok (Item Pin) (λ i. i.flags) (λ i. i.wanted) x.held = under (Item Pin) (λ i. i.flags) (λ i. i.wanted) k (s.elements d).pending.rows x.held (fit.elements d).0 x.is_held in
      let rows = rows_fit d x.held.item.pin.topology solved.domain (ask c n d (k, x.held) x.down) x.rows x.right in
      let few = entries_few x.held.item.class x.held.item.wanted.source x.held.item.pin.topology solved.domain.topology in
      commit_written c codec n d (k, x.held) solved.domain x.down downs (place n d) (place_id d n net) ok.0 ok.1.1 ok.1.2
      s.clock (λ b. b.segment) x.rows.source_known x.rows.target_known x.rows.best (s.elements d) rows.0 (omega (arith, rows.1, few))
      ((run_good c n (lives_of n net) es s run).fine d).are.next_most
