-- Topologies are loaded into a network that has just been made, and shown.
use Rattle.std.proofs.Common.{◌≡◌, ◌≢◌, ◌∙◌, ◌⊎◌, inl, inr, ◌+◌, ◌≤◌, ◌<◌, ◌==◌, ℕ, zero, suc, Bool, true, false, cond, ◌||◌, eqb, eqb-true, eq-eqb, true≢false, is_some, List, [], ◌∷◌, ◌++◌, length, map, filter, take, get_or, All, AllPairs, option_map, ap, refl, sym, subst, arith, append-nil, Option, Some, None, Ok}
use mathlib.Core.List.{IsPrefix}
use Rattle.std.specs.List.{AllByRecursion, cons_option, last_or}
use Rattle.std.specs.Set.{is_member}
use Rattle.std.proofs.lemmas.Bool.{ne_eqb}
use Rattle.std.proofs.lemmas.List.{length-map, map-append, take_more}
use Rattle.std.proofs.lemmas.List.Elements.{All-push, filter_map-append}
use Rattle.dom_base.specs.declared.names.As.{As}
use Rattle.dom_edge.specs.Stores.{Files, HasFile}
use Rattle.te_links.specs.Rows.{IsInOrder, IsTopology, Rows}
use Rattle.te_text.specs.Reads as text
use Rattle.network_files.specs.Loading.{FileSays}
use Rattle.plant_text.specs.declared.settings.ElementRow.{ElementRow}
use Rattle.plant_text.specs.declared.settings.NetworkParts.{NetworkParts}
use Rattle.plant_text.specs.Names.{same_as}
use Rattle.plant_text.specs.Networks.{ObeysRules, with_peers}
use Rattle.plant_text.specs.Reads.{Reads}
use Rattle.plant_text.specs.Settings.{is_element, row_of}
use Rattle.plant_text.specs.SettingsText.{sheet_in}
use Rattle.plant_text.proofs.SettingLaws.{rules_are_worth}
use Rattle.plant_network.specs.plant_model.declared.event.Event.{Event}
use Rattle.plant_network.specs.plant_model.declared.event.Event.TheVariants as event
use Rattle.plant_network.specs.plant_model.declared.outcome.Outcome.TheVariants.{Loaded}
use Rattle.plant_network.specs.plant_model.Events.{Answered}
use Rattle.plant_network.specs.plant_model.Plant.{IsGiven, PlantDeed, Run}
use Rattle.plant_network.specs.plant_model.RealWire.{wire}
use Rattle.plant_network.specs.Topologies.{Held, whole}
use Rattle.plant_network.specs.Whole.{GoesOn, IsBegun, Stepped, Whole}
use Rattle.run_laws.proofs.TextLemmas.RowRanges.{text_in_range}
use Rattle.ted_watch.specs.declared.shown.Shown.{Shown}
use Rattle.ted_watch.specs.Published.{IsAbove, MayFollow, is_of, last_of}
use Rattle.ted_watch.proofs.Few.{few_among}
use Rattle.server_loops.specs.Operating.{AreOfElements}
use Rattle.server_loops.proofs.Turning.{all_on}
use Rattle.turn_desk.specs.Desks.{IsOpened, Stand, split_from}
use Rattle.turn_desk.specs.Histories.{NoneIsPending}
use Rattle.turn_desk.proofs.Beginning.{loads_keep_none}
use Rattle.logbook.specs.Pages.{Book}
use Rattle.network_serving.specs.Bases.{IsReady, server}
use Rattle.network_serving.specs.Files.{topology_max}
use Rattle.network_serving.specs.Loaded.{IsInFile, IsLoaded, Load, entry_of, load_event, load_events, named, named_by, place_of}
use Rattle.network_serving.specs.Loading.{IsBehind, LoadsAt, LoadsNamed}
use Rattle.network_serving.specs.Starting.{IsFresh}

-- ---- what files say

pub says : (files : Option Files) (name bytes : List ℕ) (g : Rows) → HasFile files name bytes → length bytes ≤ topology_max → text.Reads bytes g → FileSays text.Reads topology_max files name g
says files name bytes g has within reads = record { bytes = bytes; is_file = has; within = within; is_text = reads }

-- a text gives one network
pub read_one : (bytes : List ℕ) (n m : NetworkParts) → Reads bytes n → Reads bytes m → n ≡ m
read_one bytes n m a b =
    let both : Some a.root ≡ Some b.root = sym a.reads ∙ b.reads in
    let one : a.root ≡ b.root = cc in
    a.rows ∙ ap (λ root. (sheet_in root).parts) one ∙ sym b.rows

-- ---- what may be shown

abbrev numbers : List ElementRow → List ℕ
numbers rows = map (λ (r : ElementRow). r.own.0) rows

-- an element is among the numbers of the rows
member_of : (rows : List ElementRow) (at : As) → is_some (row_of at rows) ≡ true → is_member eqb (numbers rows) at.0 ≡ true
member_of [] at is = absurd (true≢false (sym is))
member_of (r ∷ rows) at is = by (r.own.0 == at.0) refl is (member_of rows at)
  where
    by : (b : Bool) → (r.own.0 == at.0) ≡ b → is_some (cond b (Some r) (row_of at rows)) ≡ true → (is_some (row_of at rows) ≡ true → is_member eqb (numbers rows) at.0 ≡ true) → (eqb at.0 r.own.0 || is_member eqb (numbers rows) at.0) ≡ true
    by true e found rec = ap (λ (b : Bool). b || is_member eqb (numbers rows) at.0) (eq-eqb at.0 r.own.0 (sym (eqb-true r.own.0 at.0 e)))
    by false e found rec = or_true (eqb at.0 r.own.0) (is_member eqb (numbers rows) at.0) (rec found)
      where
        or_true : (a b : Bool) → b ≡ true → (a || b) ≡ true
        or_true true b e = refl
        or_true false b e = e

above_none : (s : Shown) (o : Option Shown) → o ≡ None → IsAbove s o
above_none s o none t is = absurd (let no : None ≡ Some t = sym none ∙ is in let bad : ⊥ = cc in bad)

-- the first entry of an element may be shown
pub may_be_first : (n : NetworkParts) (list : List Shown) (s : Shown) → ObeysRules n → AreOfElements n list → is_element n s.at ≡ true → last_of s.at.0 list ≡ None → MayFollow list s
may_be_first n list s rules all element none =
    let every : All (λ (t : Shown). is_element n t.at ≡ true) (list ++ s ∷ []) = All-push (λ (t : Shown). is_element n t.at ≡ true) list s all element in
    let few = few_among (numbers n.elements) (list ++ s ∷ []) (λ k d lt. member_of n.elements _ (every k d lt)) in
    let sixteen : length n.elements ≤ 16 = (rules_are_worth (with_peers n _) rules.obeyed).elements.few in
    record { above = above_none s (last_of s.at.0 list) none; few = omega (arith, few, sixteen, length-map n.elements (λ (r : ElementRow). r.own.0)) }

pub shown_too : (n : NetworkParts) (list new : List Shown) (s : Shown) → AreOfElements n list → is_element n s.at ≡ true → new ≡ list ++ s ∷ [] → AreOfElements n new
shown_too n list new s all element is = subst (AreOfElements n) (sym is) (All-push (λ (t : Shown). is_element n t.at ≡ true) list s all element)

-- ---- one load

pub loads_at : (at : As) (g : Rows) (w v : Whole) (shown more : List Shown) (answer : Answered) (k nodes links : ℕ) → answer ≡ Ok (Loaded k) → g.own ≡ at → IsTopology g → IsInOrder g → nodes ≡ length g.nodes → links ≡ length g.links →
    Stepped w (event.Load at g) answer v → GoesOn w (event.Load at g) answer v → more ≡ shown ++ record { at = at; generation = k; nodes = nodes; links = links } ∷ [] → LoadsAt at g w shown v more
loads_at at g w v shown more answer k nodes links is own rules order n l stepped goes shows = record {
  own = own;
  rules = rules;
  order = order;
  generation = k;
  stepped = subst (λ (r : Answered). Stepped w (event.Load at g) r v) is stepped;
  goes = subst (λ (r : Answered). GoesOn w (event.Load at g) r v) is goes;
  shows = shows ∙ ap (λ (z : ℕ × ℕ). shown ++ record { at = at; generation = k; nodes = z.0; links = z.1 } ∷ []) (λ i. (n i, l i));
}

module _ (files : Option Files) (at : As) where
  pub none_named : (topology : Option (List ℕ)) (w : Whole) (shown : List Shown) → topology ≡ None → LoadsNamed files at topology w shown w shown
  none_named topology w shown is = subst (λ (o : Option (List ℕ)). LoadsNamed files at o w shown w shown) (sym is) (refl, refl)

  pub one_named : (topology : Option (List ℕ)) (name : List ℕ) (g : Rows) (w : Whole) (shown : List Shown) (v : Whole) (more : List Shown) → topology ≡ Some name → FileSays text.Reads topology_max files name g → LoadsAt at g w shown v more →
      LoadsNamed files at topology w shown v more
  one_named topology name g w shown v more is in_file loads = subst (λ (o : Option (List ℕ)). LoadsNamed files at o w shown v more) (sym is) (g, in_file, loads)

  pub none_more : (topology : Option (List ℕ)) (w : Whole) (shown : List Shown) (v : Whole) (more : List Shown) → LoadsNamed files at topology w shown v more → NoneIsPending w.state → NoneIsPending v.state
  none_more None w shown v more is none = subst (λ (x : Whole). NoneIsPending x.state) (sym is.0) none
  none_more (Some name) w shown v more is none = loads_keep_none w at is.0 (Ok (Loaded is.2.generation)) v is.2.stepped none

-- ---- all loads

load_events_on : (ls : List Load) (l : Load) → load_events (ls ++ l ∷ []) ≡ load_event l ∷ load_events ls
load_events_on [] l = refl
load_events_on (x ∷ xs) l = ap (λ (es : List (Event × Answered)). es ++ load_event x ∷ []) (load_events_on xs l)

module _ (files : Option Files) (n : NetworkParts) where
  pub loaded_none : (rows : List ElementRow) (shown : List Shown) (w : Whole) → rows ≡ [] → shown ≡ [] → IsBegun n w → IsLoaded files n rows shown w
  loaded_none rows shown w empty unshown begun = record {
    network = begun.0;
    loads = [];
    are_named = ap named (sym empty);
    are_read = tt;
    entries = [];
    run = begun.1;
    are_loads = refl;
    are_shown = unshown;
  }

  module _ (front : List ElementRow) (row : ElementRow) (w : Whole) (shown : List Shown) (v : Whole) (more : List Shown) (is : IsLoaded files n front shown w) where
    named_on : (o : Option (As × List ℕ)) → named_by row ≡ o → named (front ++ row ∷ []) ≡ named front ++ cons_option o []
    named_on o same = filter_map-append named_by front (row ∷ []) ∙ ap (λ (p : Option (As × List ℕ)). named front ++ cons_option p []) same

    none_loaded : row.topology ≡ None → (v ≡ w) × (more ≡ shown) → IsLoaded files n (front ++ row ∷ []) more v
    none_loaded none same = record {
      network = ap (λ (x : Whole). x.network) same.0 ∙ is.network;
      loads = is.loads;
      are_named = is.are_named ∙ sym (append-nil (named front)) ∙ sym (named_on None (ap (λ (o : Option (List ℕ)). option_map (λ (name : List ℕ). (row.own, name)) o) none));
      are_read = is.are_read;
      entries = is.entries;
      run = subst (λ (x : Whole). Run wire n is.entries x.state) (sym same.0) is.run;
      are_loads = is.are_loads;
      are_shown = same.1 ∙ is.are_shown;
    }

    module _ (name : List ℕ) (g : Rows) (named_it : row.topology ≡ Some name) (in_file : FileSays text.Reads topology_max files name g) (loads : LoadsAt row.own g w shown v more) where
      abbrev one : Load
      one = record { at = row.own; file = name; rows = g; generation = loads.generation }

      given : IsGiven (event.Load row.own g)
      given = (loads.own, loads.rules, loads.order, text_in_range in_file.bytes g in_file.is_text)

      abbrev Goes : Type 0
      Goes = (deeds : List PlantDeed) × Run wire n (record { event = event.Load row.own g; answer = Ok (Loaded loads.generation); deeds = deeds } ∷ is.entries) v.state

      goes_on : Goes
      goes_on =
          let run : Run wire w.network is.entries w.state = subst (λ (m : NetworkParts). Run wire m is.entries w.state) (sym is.network) is.run in
          subst (λ (m : NetworkParts). (deeds : List PlantDeed) × Run wire m (record { event = event.Load row.own g; answer = Ok (Loaded loads.generation); deeds = deeds } ∷ is.entries) v.state) is.network (loads.goes given is.entries run)

      one_loaded : IsLoaded files n (front ++ row ∷ []) more v
      one_loaded = record {
        network = loads.stepped.network ∙ is.network;
        loads = is.loads ++ one ∷ [];
        are_named = map-append place_of is.loads (one ∷ []) ∙ ap (λ (ps : List (As × List ℕ)). ps ++ (row.own, name) ∷ []) is.are_named
            ∙ sym (named_on (Some (row.own, name)) (ap (λ (o : Option (List ℕ)). option_map (λ (file : List ℕ). (row.own, file)) o) named_it));
        are_read = all_on (IsInFile files) is.loads (one ∷ []) is.are_read (in_file, tt);
        entries = record { event = event.Load row.own g; answer = Ok (Loaded loads.generation); deeds = goes_on.0 } ∷ is.entries;
        run = goes_on.1;
        are_loads = ap (λ (es : List (Event × Answered)). load_event one ∷ es) is.are_loads ∙ sym (load_events_on is.loads one);
        are_shown = loads.shows ∙ ap (λ (ss : List Shown). ss ++ entry_of one ∷ []) is.are_shown ∙ sym (map-append entry_of is.loads (one ∷ []));
      }

    row_loaded : (o : Option (List ℕ)) → row.topology ≡ o → LoadsNamed files row.own o w shown v more → IsLoaded files n (front ++ row ∷ []) more v
    row_loaded None same loads = none_loaded same loads
    row_loaded (Some name) same loads = one_loaded name loads.0 same loads.1 loads.2

  -- one row more
  pub loaded_more : (rows : List ElementRow) (i : ℕ) (row : ElementRow) (w : Whole) (shown : List Shown) (v : Whole) (more : List Shown) → i < length rows → row ≡ get_or rows i row → IsLoaded files n (take i rows) shown w →
      LoadsNamed files row.own row.topology w shown v more → IsLoaded files n (take (i + 1) rows) more v
  loaded_more rows i row w shown v more below at is loads =
      subst (λ (rs : List ElementRow). IsLoaded files n rs more v) (sym (take_more rows i row below ∙ ap (λ (r : ElementRow). take i rows ++ r ∷ []) (sym at))) (row_loaded (take i rows) row w shown v more is row.topology refl loads)

-- ---- rows of different elements

abbrev Differ : ElementRow → ElementRow → Type 0
Differ d e = d.own ≢ e.own

apart : (rows : List ElementRow) (i : ℕ) (d : ElementRow) → AllPairs Differ rows → i < length rows → AllByRecursion (λ (r : ElementRow). r.own ≢ (get_or rows i d).own) (take i rows)
apart [] i d differ below = absurd (let no : ⊥ = omega (arith, below) in no)
apart (r ∷ rows) zero d differ below = tt
apart (r ∷ rows) (suc i) d differ below =
    (differ 0 (suc i) d (omega arith) below, apart rows i d (λ a b e lt within. differ (suc a) (suc b) e (omega (arith, lt)) (omega (arith, within))) (omega (arith, below)))

as_is : (a b : As) → a.0 ≡ b.0 → a ≡ b
as_is a b e = ap (λ (k : ℕ). let d : As = record { 0 = k } in d) e

module _ (at : As) where
  abbrev Other : As × List ℕ → Type 0
  Other p = p.0 ≢ at

  other_names : (rows : List ElementRow) → AllByRecursion (λ (r : ElementRow). r.own ≢ at) rows → AllByRecursion Other (named rows)
  other_names [] all = tt
  other_names (r ∷ rows) all = by r.topology (other_names rows all.1)
    where
      by : (o : Option (List ℕ)) → AllByRecursion Other (named rows) → AllByRecursion Other (cons_option (option_map (λ (name : List ℕ). (r.own, name)) o) (named rows))
      by None rest = rest
      by (Some name) rest = (all.0, rest)

  none_of : (loads : List Load) → AllByRecursion Other (map place_of loads) → filter (is_of at.0) (map entry_of loads) ≡ []
  none_of [] all = refl
  none_of (l ∷ loads) all =
      let no : is_of at.0 (entry_of l) ≡ false = ne_eqb l.at.0 at.0 (λ e. all.0 (as_is l.at at e)) in
      ap (λ (b : Bool). cond b (entry_of l ∷ filter (is_of at.0) (map entry_of loads)) (filter (is_of at.0) (map entry_of loads))) no ∙ none_of loads all.1

-- of the next row nothing was shown
pub none_shown : (files : Option Files) (n : NetworkParts) (rows : List ElementRow) (i : ℕ) (row : ElementRow) (shown : List Shown) (w : Whole) → ObeysRules n → rows ≡ n.elements → i < length rows → row ≡ get_or rows i row →
    IsLoaded files n (take i rows) shown w → last_of row.own.0 shown ≡ None
none_shown files n rows i row shown w rules same below at is =
    let differ : AllPairs Differ rows = subst (AllPairs Differ) (sym same) (rules_are_worth (with_peers n _) rules.obeyed).elements.numbers_differ in
    let others : AllByRecursion (λ (r : ElementRow). r.own ≢ row.own) (take i rows) = subst (λ (x : ElementRow). AllByRecursion (λ (r : ElementRow). r.own ≢ x.own) (take i rows)) (sym at) (apart rows i row differ below) in
    let places : AllByRecursion (Other row.own) (map place_of is.loads) = subst (AllByRecursion (Other row.own)) (sym is.are_named) (other_names row.own (take i rows) others) in
    ap (last_of row.own.0) is.are_shown ∙ ap (last_or None) (none_of row.own is.loads places)

found : (rows : List ElementRow) (i : ℕ) (d : ElementRow) → i < length rows → is_some (row_of (get_or rows i d).own rows) ≡ true
found [] i d below = absurd (let no : ⊥ = omega (arith, below) in no)
found (r ∷ rows) zero d below = ap (λ (b : Bool). is_some (cond b (Some r) (row_of r.own rows))) (eq-eqb r.own.0 r.own.0 refl)
found (r ∷ rows) (suc i) d below = by (same_as r.own (get_or rows i d).own) (row_of (get_or rows i d).own rows) (found rows i d (omega (arith, below)))
  where
    by : (b : Bool) (o : Option ElementRow) → is_some o ≡ true → is_some (cond b (Some r) o) ≡ true
    by true o is = refl
    by false o is = is

-- a row is of an element
pub row_is_element : (n : NetworkParts) (rows : List ElementRow) (i : ℕ) (row : ElementRow) → rows ≡ n.elements → i < length rows → row ≡ get_or rows i row → is_element n row.own ≡ true
row_is_element n rows i row same below at =
    ap (λ (rs : List ElementRow). is_some (row_of row.own rs)) (sym same) ∙ ap (λ (r : ElementRow). is_some (row_of r.own rows)) at ∙ found rows i row below

-- ---- the lock is opened

pub opened_behind : (files : Option Files) (n : NetworkParts) (desk : Stand) (shown : List Shown) (held : Held) → IsOpened held desk → IsLoaded files n n.elements shown (whole held) → IsBehind files n desk shown
opened_behind files n desk shown held opened loaded = (held, opened, loaded)

empty_front : (xs ys : List Shown) → ys ≡ [] → IsPrefix xs ys → ys ≡ xs
empty_front [] ys none front = none
empty_front (x ∷ xs) ys none front = absurd (let both : (x ∷ xs) ++ front.0 ≡ [] = front.1 ∙ none in let no : ⊥ = cc in no)

-- a watcher that knew nothing knows what it learnt
pub learnt_all : (old new shown : List Shown) → old ≡ [] → (new ≡ old) ⊎ (new ≡ shown) → IsPrefix shown new → new ≡ shown
learnt_all old new shown none (inl same) front = empty_front shown new (same ∙ none) front
learnt_all old new shown none (inr same) front = same

pub all_ready : (files before : Option Files) (n : NetworkParts) (desk : Stand) (shown : List Shown) (list : Book) → before ≡ files → IsBehind before n desk shown → IsReady files n (server desk shown list)
all_ready files before n desk shown list same behind =
    let b : IsBehind files n desk shown = subst (λ (fs : Option Files). IsBehind fs n desk shown) same behind in
    record { held = b.0; opened = b.1; loaded = b.2 }

-- a desk at a lock that was just opened has made no turn
pub ready_is_fresh : (files : Option Files) (n : NetworkParts) (desk : Stand) (shown : List Shown) (list : Book) → IsReady files n (server desk shown list) → IsFresh desk
ready_is_fresh files n desk shown list ready = ap split_from ready.opened ∙ sym ready.opened
