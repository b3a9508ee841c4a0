-- The opening, and what a solve does, over what is seen of the pins.
use Rattle.std.proofs.Common.{◌≡◌, ℕ, Bool, true, false, cond, nat_eq, List, [], ◌∷◌, ◌++◌, Option, Some, sym, ◌∙◌, ap, subst, refl}
use Rattle.std.specs.Map.{lookup}
use Rattle.plant_model.specs.Types.{As, Best, Branch, NetworkParts}
use Rattle.disclosure.specs.Shown.{open_of}
use Rattle.plant_model.specs.declared.outcome.Outcome.TheVariants.{Done}
use Rattle.plant_text.specs.Names.{parent_as}
use Rattle.plant_model.specs.Wire.{Codec}
use Rattle.plant_model.specs.Element.{Element, Row, Taken, is_client}
use Rattle.plant_model.specs.Solving.{commit, job_found}
use Rattle.plant_model.specs.BorderGraph.{Found}
use Rattle.plant_model.specs.Parent as parent
use Rattle.plant_text.specs.Settings.{Adjacency, adjacencies, class_of}
use Rattle.plant_model.specs.Settings.{place}
use Rattle.plant_model.specs.State.{Deed}
use Rattle.plant_model.specs.Deeds.{Going, with_element, with_parent, begin_adjacency}
use Rattle.plant_model.specs.Deeds as deeds
use Rattle.plant_model.specs.Events as events
use Rattle.plant_model.specs.Plant.{Pin, Segment, Happened, opened, first_pin, ElementSolves, ParentSolves}
use Rattle.plant_model.specs.Blind.{Heard, heard, heard_in}
use Rattle.plant_laws.proofs.Runs.Decompose.{append_assoc, nil_right}
use Rattle.plant_laws.proofs.Blind.Strip.{bare, bare_held, bare_looked, bare_lookup}
use Rattle.plant_laws.proofs.Blind.Alike.{AreAlike, same_alike, Alike}
use Rattle.plant_laws.proofs.Blind.AlikeSolves.{commit_closed, commit_client}
use Rattle.plant_laws.proofs.Blind.Simulate.{Blank, Full, Sim, Both, puts_sim, heard_same, with_element_sim, with_parent_sim, begin_adjacency_both}
use Rattle.plant_laws.proofs.Blind.SimulateEvents.{Happen}
use Rattle.plant_laws.proofs.Blind.OneJoin.{AllOne}
use Rattle.plant_laws.proofs.Blind.OneReply.{one_commit}

module _ (Q : Type 0) (view : As → Pin → Q) (c : Codec) (n : NetworkParts) where
  abbrev U : Type 0
  U = Unit {0}

  abbrev pub seen_opening : Going Q U
  seen_opening = events.opening Q U c n (λ u. []) (λ d. view d (first_pin d))

  -- the opening states
  begun_both : (xs : List Adjacency) (g : Going Pin Segment) (h : Going Q U) → Both Q view c n g h →
      Both Q view c n (events.begin_adjacencies Pin Segment c n open_of xs g) (events.begin_adjacencies Q U c n (λ u. []) xs h)
  begun_both [] g h both = both
  begun_both (x ∷ xs) g h both = begun_both xs (begin_adjacency Pin Segment c n open_of 0 x g) (begin_adjacency Q U c n (λ u. []) 0 x h) (begin_adjacency_both Q view c n 0 x g h both)

  pub opened_both : Both Q view c n (opened c n) seen_opening
  opened_both =
      begun_both (adjacencies n) (record { state = events.bare Pin Segment c n open_of first_pin; deeds = [] }) (record { state = events.bare Q U c n (λ u. []) (λ d. view d (first_pin d)); deeds = [] })
      (record {
        sim = record {
          clock = refl;
          elements = λ d. refl;
          parent = refl;
          current = λ d. refl;
          sessions = λ x y. refl;
          queues = λ x y. refl;
          accesses = λ i. record { opened = refl; connection = tt };
        };
        heard' = refl;
      })

  -- a job of an element that is answered by these best ways
  abbrev pub seen_solve : As → Row Q → List Branch → List Best → Blank Q → events.Happened Q U
  seen_solve d h down best b = events.answered Q U c n (λ u. []) Done (deeds.solve Q U c n (λ u. []) d h down (λ y. tt) (job_found true true best) b)

  abbrev pub seen_upper : parent.AskingRow → Option Found → Blank Q → events.Happened Q U
  seen_upper h a b = events.answered Q U c n (λ u. []) Done (deeds.solve_upper Q U c n (λ u. []) h a b)

  module _ (d : As) (k : ℕ) (s : Full) (b : Blank Q) (sim : Sim Q view n s b) (h : Happened) (x : ElementSolves c n d k s h) where
    pub held_seen : lookup (nat_eq k) (b.elements d).pending.rows ≡ Some (bare_held (view d) x.held)
    held_seen =
        ap (λ (e : Element Q U). lookup (nat_eq k) e.pending.rows) (sim.elements d)
        ∙ bare_lookup Pin Segment Q (view d) k (s.elements d).pending.rows ∙ ap (λ o. bare_looked (view d) o) x.is_held

    -- what is alike makes events that are alike
    happen : (best : List Best) →
        Alike Pin Segment Q (view d) n (commit c (place n d) (k, x.held) x.down s.clock (λ y. y.segment) (job_found x.rows.source_known x.rows.target_known x.rows.best) (s.elements d))
        (commit c (place n d) (k, bare_held (view d) x.held) x.down s.clock (λ y. tt) (job_found true true best) (bare (view d) (s.elements d))) →
        Happen Q view c n h (seen_solve d (k, bare_held (view d) x.held) x.down best b)
    happen best alike0 =
        let r = commit c (place n d) (k, x.held) x.down s.clock (λ y. y.segment) (job_found x.rows.source_known x.rows.target_known x.rows.best) (s.elements d) in
        let r' = commit c (place n d) (k, bare_held (view d) x.held) x.down b.clock (λ y. tt) (job_found true true best) (b.elements d) in
        let alike1 = subst (λ (e : Element Q U). Alike Pin Segment Q (view d) n r (commit c (place n d) (k, bare_held (view d) x.held) x.down s.clock (λ y. tt) (job_found true true best) e)) (sym (sim.elements d)) alike0 in
        let alike : Alike Pin Segment Q (view d) n r r' = subst (λ (now : ℕ). Alike Pin Segment Q (view d) n r (commit c (place n d) (k, bare_held (view d) x.held) x.down now (λ y. tt) (job_found true true best) (b.elements d))) (sym sim.clock) alike1 in
        let v = with_element Pin Segment c n open_of d r.element s in
        let v' = with_element Q U c n (λ u. []) d r'.element b in
        subst (λ (g : Happened). Happen Q view c n g (seen_solve d (k, bare_held (view d) x.held) x.down best b)) (sym x.is)
        (record {
          sim = puts_sim Q view c n d r.outputs r'.outputs v v' alike.outputs (with_element_sim Q view c n d r.element r'.element s b alike.element sim);
          heard' = heard_same Q view c n d r.outputs r'.outputs alike.outputs;
          accepted = refl;
        })

    closed_not : (e : Bool) → e ≡ true → cond e false true ≡ false
    closed_not true f = refl
    closed_not false f = let no : false ≡ true = f in cc

    pub client_seen : is_client x.held.item.class ≡ true → x.held.item.class ≡ class_of n x.held.key.peer → Happen Q view c n h (seen_solve d (k, bare_held (view d) x.held) x.down [] b)
    client_seen client fit =
        happen [] (commit_client Pin Segment Q (view d) n c (place n d) (k, x.held) x.down s.clock (λ y. y.segment) x.rows.source_known x.rows.target_known x.rows.best (s.elements d) client
        (closed_not (is_client (class_of n x.held.key.peer)) (ap is_client (sym fit) ∙ client)))

    -- by rows that differ in their segments alone
    pub closed_seen : (best : List Best) → is_client x.held.item.class ≡ false → AllOne x.rows.best best → Happen Q view c n h (seen_solve d (k, bare_held (view d) x.held) x.down best b)
    closed_seen best closed one =
        let r = commit c (place n d) (k, x.held) x.down s.clock (λ y. y.segment) (job_found x.rows.source_known x.rows.target_known x.rows.best) (s.elements d) in
        happen best (subst (λ (t : Taken Q U). Alike Pin Segment Q (view d) n r t)
        (one_commit Q c (place n d) (k, bare_held (view d) x.held) x.down s.clock (bare (view d) (s.elements d)) x.rows.best best false closed one)
        (commit_closed Pin Segment Q (view d) n c (place n d) (k, x.held) x.down s.clock (λ y. y.segment) x.rows.source_known x.rows.target_known x.rows.best (s.elements d) closed))

  -- a job of the parent
  pub upper_seen : (k : ℕ) (s : Full) (b : Blank Q) → Sim Q view n s b → (h : Happened) (x : ParentSolves c n k s h) → Happen Q view c n h (seen_upper (k, x.held) x.answer b)
  upper_seen k s b sim h x =
      let r = parent.commit c (k, x.held) x.answer s.parent in
      let r' = parent.commit c (k, x.held) x.answer b.parent in
      let same : r' ≡ r = ap (λ (p : parent.Parent). parent.commit c (k, x.held) x.answer p) sim.parent in
      let alike : AreAlike n r.outputs r'.outputs = subst (λ (g : parent.ParentTaken). AreAlike n r.outputs g.outputs) (sym same) (same_alike n r.outputs) in
      let v = with_parent Pin Segment c n open_of r.parent s in
      let v' = with_parent Q U c n (λ u. []) r'.parent b in
      subst (λ (g : Happened). Happen Q view c n g (seen_upper (k, x.held) x.answer b)) (sym x.is)
      (record {
        sim = puts_sim Q view c n parent_as r.outputs r'.outputs v v' alike (with_parent_sim Q view c n r.parent r'.parent s b (ap (λ (g : parent.ParentTaken). g.parent) same) sim);
        heard' = heard_same Q view c n parent_as r.outputs r'.outputs alike;
        accepted = refl;
      })

  -- what was heard before, and in the event
  pub heard_append : {S : Type 0} (xs ys : List (Deed S)) → heard c n (xs ++ ys) ≡ heard c n ys ++ heard c n xs
  heard_append [] ys = sym (nil_right (heard c n ys))
  heard_append (x ∷ xs) ys =
      ap (λ (l : List Heard). l ++ heard_in c n x) (heard_append xs ys) ∙ append_assoc (heard c n ys) (heard c n xs) (heard_in c n x)
