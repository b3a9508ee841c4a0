-- In every state of a run what waits is under way, as long as no id comes round and all that is sent is in written form.
use Rattle.std.proofs.Common.{◌≡◌, ◌≤◌, ◌<◌, ◌==◌, ℕ, Bool, true, false, cond, List, [], ◌∷◌, ◌++◌, Option, Some, None, sym, ◌∙◌, ap, subst, inl, inr, refl, arith}
use Rattle.std.proofs.lemmas.Bool.{cases_Bool, eq-eqb}
use Rattle.plant_model.specs.Types.{As, Peer, Inner, Held, RequestKey, NetworkParts}
use Rattle.te_links.specs.Rows.{Rows}
use Rattle.disclosure.specs.Shown.{open_of}
use Rattle.request_table.specs.Pending.{AreNamedOnce, number_of, number_among, same_key, same_peer, key_of}
use Rattle.request_table.proofs.KeyLemmas.{same_key_is, same_key_self}
use Rattle.plant_text.specs.Names.{same_as, parent_as}
use Rattle.plant_model.specs.Names.{same_id}
use Rattle.plant_model.specs.Wire.{Bytes, Codec}
use Rattle.plant_model.specs.Laws.{IsCodec, IsNetwork}
use Rattle.plant_text.specs.Settings.{Adjacency, adjacencies}
use Rattle.plant_model.specs.Routes.{routes}
use Rattle.plant_model.specs.Settings.{inner_ways, ways_along, place}
use Rattle.plant_model.specs.Element.{Stage, Waits, Row, way_to}
use Rattle.plant_model.specs.Parent as parent
use Rattle.plant_model.specs.Parent.{last_to}
use Rattle.plant_model.specs.State.{Loads, Solves}
use Rattle.plant_model.specs.Deeds.{with_element, with_parent}
use Rattle.plant_model.specs.Solving.{commit, job_found}
use Rattle.plant_model.specs.Events as events
use Rattle.plant_model.specs.Events.{split_all}
use Rattle.plant_model.specs.Plant.{Pin, Segment, Plant, Happened, Entry, Run, deeds_of, first_pin, load_new, ElementSolves, ParentSolves}
use Rattle.plant_laws.specs.Transcript.{Transcript, Standing, standing}
use Rattle.plant_laws.specs.Sending.{AllSent}
use Rattle.plant_laws.specs.Standing.{messages as messages_in}
use Rattle.plant_laws.proofs.Runs.Acts.{Acts}
use Rattle.plant_laws.proofs.Runs.Queues.{Stand, act_stands, sent_stands, left_stands}
use Rattle.plant_laws.proofs.Once.Handing.{In}
use Rattle.plant_laws.proofs.Runs.Rows as table
use Rattle.plant_laws.proofs.Settled.Waits.{Both, both_same, does_both, bare_both}
use Rattle.plant_laws.proofs.Once.DeedByDeed.{If, if_same, if_kept, act_keeps, load_keeps, solve_keeps, upper_keeps}
use Rattle.plant_laws.proofs.Runs.Unrouted.{way_inside}
use Rattle.plant_laws.proofs.Runs.Trips.{AllIn, Step}
use Rattle.plant_laws.proofs.Runs.StepActs.{step_holds}
use Rattle.plant_laws.proofs.Runs.Travel.{run_travels}
use Rattle.plant_laws.proofs.Numbering.Taken.{peer_self}
use Rattle.plant_laws.proofs.Once.Leaving as lower
use Rattle.plant_laws.proofs.Once.Leaving.{number_there}
use Rattle.plant_laws.proofs.Once.LeavingUpper as upper
use Rattle.plant_laws.proofs.Runs.NodeMoves.{ElementWaits, ParentWaits}
use Rattle.plant_laws.proofs.Once.Asks.{Asks}
use Rattle.plant_laws.proofs.Settled.Alive.{Core, IsAlive, AreSound, CancelsNone}
use Rattle.plant_laws.proofs.Settled.AliveSteps.{Fits, step_alive, load_alive, solve_alive, upper_alive}
use Rattle.plant_laws.proofs.Numbering.Decode.{request_id, id_of, Rising, rising_tail}
use Rattle.plant_laws.proofs.Numbering.Errands.{Last}
use Rattle.plant_laws.proofs.Numbering.Ids.{last_of}
use Rattle.plant_laws.proofs.Numbering.Known.{Prem, prem_tail, Known, act_known, load_known, solve_known, upper_known}
use Rattle.plant_laws.specs.Waiting.{wait_alike}

in_flip : {A : Type 0} (x : A) (xs : List A) → table.In x xs → In x xs
in_flip x [] h = absurd h
in_flip x (y ∷ ys) (inl e) = inl (sym e)
in_flip x (y ∷ ys) (inr h) = inr (in_flip x ys h)

in_unflip : {A : Type 0} (x : A) (xs : List A) → In x xs → table.In x xs
in_unflip x [] h = absurd h
in_unflip x (y ∷ ys) (inl e) = inl (sym e)
in_unflip x (y ∷ ys) (inr h) = inr (in_unflip x ys h)

id_self : (q : Peer) (y : ℕ) → same_id q y q y ≡ true
id_self q y = ap (λ (b : Bool). cond b (y == y) false) (peer_self q) ∙ eq-eqb y y refl

-- one row for each key
none_there : {T : Type 0} (key : RequestKey) (rows : List (ℕ × Held T)) (h : ℕ × Held T) → In h rows → h.1.key ≡ key → number_among key rows ≡ None → ⊥
none_there key [] h i is none = i
none_there {T} key (r ∷ rows) h i is none = go (same_key key r.1.key) refl none i (λ j e. none_there key rows h j is e)
  where
    go : (b : Bool) → same_key key r.1.key ≡ b → cond b (Some r.0) (number_among key rows) ≡ None → In h (r ∷ rows) → (In h rows → number_among key rows ≡ None → ⊥) → ⊥
    go true hit e j rec = let out : ◌≡◌ {A = Option ℕ} (Some r.0) None = e in cc
    go false miss e (inr j) rec = rec j e
    go false miss e (inl same) rec =
        let at : same_key key r.1.key ≡ true = ap (λ (k : RequestKey). same_key key k) (sym (ap (λ (z : ℕ × Held T). z.1.key) same) ∙ is) ∙ same_key_self key in
        let clash : true ≡ false = sym at ∙ miss in cc

one_row : {T : Type 0} (rows : List (ℕ × Held T)) (g h : ℕ × Held T) → AreNamedOnce rows → In g rows → In h rows → g.1.key ≡ h.1.key → g ≡ h
one_row [] g h names i j same = absurd i
one_row (r ∷ rows) g h names (inl a) (inl b) same = a ∙ sym b
one_row {T} (r ∷ rows) g h names (inl a) (inr j) same = absurd (none_there r.1.key rows h j (sym same ∙ ap (λ (z : ℕ × Held T). z.1.key) a) names.0)
one_row {T} (r ∷ rows) g h names (inr i) (inl b) same = absurd (none_there r.1.key rows g i (same ∙ ap (λ (z : ℕ × Held T). z.1.key) b) names.0)
one_row (r ∷ rows) g h names (inr i) (inr j) same = one_row rows g h names.1 i j same

module _ (c : Codec) (n : NetworkParts) (codec : IsCodec c) (net : IsNetwork n) where
  fits : (ds : Transcript) (s : Core) → Both c n ds s → Known c n codec net ds s → Fits c ds s.elements s.parent
  fits ds s both known = record {
    are = both.0.elements;
    are_up = both.0.parent;
    once = λ d q y g h i j is is'. once d q y g h i j is is';
    once_up = known.ids.once;
    fresh = λ a b x xs stands id l ask. (let above = higher a b x xs stands id l ask in (λ real. fresh a b id above real, λ up. fresh_up a b id above up));
  }
    where
      once : (d : As) (q : Peer) (y : ℕ) (g h : Row Pin) → In g (s.elements d).pending.rows → In h (s.elements d).pending.rows → g.1.item.stage ≡ Waits q y → h.1.item.stage ≡ Waits q y → g ≡ h
      once d q y g h i j is is' = elim (cases_Bool (same_key g.1.key h.1.key)) [
        | inl hit ↦ one_row (s.elements d).pending.rows g h (both.0.elements d).names i j (same_key_is g.1.key h.1.key hit)
        | inr miss ↦
            let apart = both.1.1 d g h (in_unflip g (s.elements d).pending.rows i) (in_unflip h (s.elements d).pending.rows j) miss in
            absurd (let clash : true ≡ false = sym (id_self q y) ∙ ap (λ (x : Stage). wait_alike x (Waits q y)) (sym is) ∙ ap (λ (x : Stage). wait_alike g.1.item.stage x) (sym is') ∙ apart in cc)
      ]

      higher : (a b : As) (x : Standing) (xs : List Standing) → standing a b ds ≡ x ∷ xs → (id : ℕ) (l : List As) → Asks c x.message b id l → known.low a b < id
      higher a b x xs stands id l ask =
          let r = rising_tail x.message (messages_in xs) (known.low a b) (last_of s.elements s.parent a b)
          (subst (λ (k : List Standing). Rising (messages_in k) (known.low a b) (last_of s.elements s.parent a b)) stands (known.ids.climbs a b)) in
          (r.3 id (ap request_id ask.is ∙ id_of id ask.sent ask.end l)).0

      fresh : (a b : As) (id : ℕ) → known.low a b < id → same_as b parent_as ≡ false → number_of (s.elements b).pending (Inner a) id ≡ None
      fresh a b id less real = go (number_of (s.elements b).pending (Inner a) id) refl
        where
          go : (o : Option ℕ) → number_of (s.elements b).pending (Inner a) id ≡ o → o ≡ None
          go None e = refl
          go (Some number) e =
              let g = number_there (key_of (Inner a) id) (s.elements b).pending.rows number e in
              let le = known.ids.names a b id g.0.1.item.sequence
              (subst (λ (z : Bool). cond z (upper.Named s.parent (Inner a) id) (lower.Named Pin Segment (s.elements b) (Inner a) id g.0.1.item.sequence)) (sym real) (g.0, g.1, g.3, refl)) in
              absurd (omega arith)

      fresh_up : (a b : As) (id : ℕ) → known.low a b < id → b ≡ parent_as → number_of s.parent.pending (Inner a) id ≡ None
      fresh_up a b id less up = go (number_of s.parent.pending (Inner a) id) refl
        where
          go : (o : Option ℕ) → number_of s.parent.pending (Inner a) id ≡ o → o ≡ None
          go None e = refl
          go (Some number) e =
              let g = number_there (key_of (Inner a) id) s.parent.pending.rows number e in
              let le = known.ids.names a parent_as id [] (g.0, g.1, g.3) in
              let less' = subst (λ (z : As). known.low a z < id) up less in
              absurd (omega arith)

  -- ---- the induction

  abbrev Base : Transcript → Core → Type 0
  Base ds s = If c n (Both c n) ds s × Stand c n ds s × (Prem c n codec net ds → Known c n codec net ds s)

  prem_drop : (es ds : Transcript) → Prem c n codec net (es ++ ds) → Prem c n codec net ds
  prem_drop [] ds p = p
  prem_drop (e ∷ es) ds p = prem_drop es ds (prem_tail c n codec net e (es ++ ds) p)

  cancels_drop : (es ds : Transcript) → AllSent CancelsNone (es ++ ds) → AllSent CancelsNone ds
  cancels_drop [] ds p = p
  cancels_drop (e ∷ es) ds p = cancels_drop es ds p.1

  act_base : (ds : Transcript) (s t : Core) (es : Transcript) → Base ds s → Acts Pin Segment c n open_of s es t → Base (es ++ ds) t
  act_base ds s t es base act = (
    act_keeps c n (If c n (Both c n)) (if_same c n (Both c n) (both_same c n)) (if_kept c n (Both c n) (does_both c n)) ds s t es base.0 act,
    act_stands c n ds s t es base.1 act,
    λ prem.
        let old = prem_drop es ds prem in
        let both = base.0 old.2 in
        act_known c n codec net ds s t es base.1 old both.0.elements both.0.parent (base.2 old) act prem,
  )

  abbrev Inv : Transcript → Core → Type 0
  Inv ds s = Base ds s × (Prem c n codec net ds → AllSent CancelsNone ds → IsAlive c n ds s)

  sound_of : (ds : Transcript) (s : Core) → Base ds s → Prem c n codec net ds → AllSent CancelsNone ds → AreSound c ds
  sound_of ds s base prem cancels = (prem.0, cancels, (base.2 prem).sound)

  fits_of : (ds : Transcript) (s : Core) → Base ds s → Prem c n codec net ds → Fits c ds s.elements s.parent
  fits_of ds s base prem = fits ds s (base.0 prem.2) (base.2 prem)

  abbrev Any : Bytes → Type 0
  Any bytes = Unit {0}

  any_in : (xs : List (Option Bytes)) → AllIn c n Any xs
  any_in [] = tt
  any_in (None ∷ xs) = any_in xs
  any_in (Some bytes ∷ xs) = (tt, any_in xs)

  step_inv : (ds : Transcript) (s t : Core) (es : Transcript) → Inv ds s → Step c n Any s es t → Inv (es ++ ds) t
  step_inv ds s t es inv step =
      let base = step_holds c n Any Base act_base ds s t es inv.0 step in (
        base,
        λ prem cancels.
            let old = prem_drop es ds prem in
            let none = cancels_drop es ds cancels in
            step_alive c n codec Any ds s t es step (sound_of ds s inv.0 old none) inv.0.1 (fits_of ds s inv.0 old) (inv.1 old none) (sound_of (es ++ ds) t base prem cancels),
      )

  load_inv : (ds : Transcript) (s : Plant) (d : As) (g : Rows) → Inv ds s → Inv (Loads d g ∷ ds) (load_new c n d g s).state
  load_inv ds s d g inv = (
    (load_keeps c n (If c n (Both c n)) (if_same c n (Both c n) (both_same c n)) (if_kept c n (Both c n) (does_both c n)) ds s d g inv.0.0, left_stands c n s s ds (Loads d g) (λ a. refl) (λ a b. inv.0.1 a b), λ prem. load_known c n codec net ds s d g (inv.0.2 (prem_tail c n codec net (Loads d g) ds prem))),
    λ prem cancels. load_alive c n codec ds s d g (inv.1 (prem_tail c n codec net (Loads d g) ds prem) cancels.1),
  )

  solve_inv : (ds : Transcript) (s : Plant) (d : As) (k : ℕ) (h : Happened) → Inv ds s → ElementSolves c n d k s h → Inv (h.deeds ++ ds) h.state
  solve_inv ds s d k h inv x =
      let base : Base (h.deeds ++ ds) h.state = (
        solve_keeps c n (If c n (Both c n)) (if_same c n (Both c n) (both_same c n)) (if_kept c n (Both c n) (does_both c n)) ds s d k h inv.0.0 x,
        stands,
        λ prem. (let old = prem_drop h.deeds ds prem in solve_known c n codec net ds s d k h (inv.0.0 old.2).0.elements (inv.0.2 old) x),
      ) in (
        base,
        λ prem cancels.
            let old = prem_drop h.deeds ds prem in
            solve_alive c n codec ds s d k h x (fits_of ds s inv.0 old) (inv.1 old (cancels_drop h.deeds ds cancels)) (sound_of (h.deeds ++ ds) h.state base prem cancels),
      )
    where
      stands : Stand c n (h.deeds ++ ds) h.state
      stands =
          let r = commit c (place n d) (k, x.held) x.down s.clock (λ b. b.segment) (job_found x.rows.source_known x.rows.target_known x.rows.best) (s.elements d) in
          subst (λ (h' : Happened). Stand c n (h'.deeds ++ ds) h'.state) (sym x.is)
          (sent_stands c n d r.outputs s (with_element Pin Segment c n open_of d r.element s) ds (Solves d k r.outputs r.element.keys.issued) refl (λ a. refl) (λ a b xs. refl) inv.0.1)

  upper_inv : (ds : Transcript) (s : Plant) (k : ℕ) (h : Happened) → Inv ds s → ParentSolves c n k s h → Inv (h.deeds ++ ds) h.state
  upper_inv ds s k h inv x =
      let base : Base (h.deeds ++ ds) h.state = (
        upper_keeps c n (If c n (Both c n)) (if_same c n (Both c n) (both_same c n)) (if_kept c n (Both c n) (does_both c n)) ds s k h inv.0.0 x,
        stands,
        λ prem. (let old = prem_drop h.deeds ds prem in upper_known c n codec net ds s k h (inv.0.0 old.2).0.parent (inv.0.2 old) x),
      ) in (
        base,
        λ prem cancels.
            let old = prem_drop h.deeds ds prem in
            upper_alive c n codec ds s k h x (fits_of ds s inv.0 old) (inv.1 old (cancels_drop h.deeds ds cancels)) (sound_of (h.deeds ++ ds) h.state base prem cancels),
      )
    where
      stands : Stand c n (h.deeds ++ ds) h.state
      stands =
          let r = parent.commit c (k, x.held) x.answer s.parent in
          subst (λ (h' : Happened). Stand c n (h'.deeds ++ ds) h'.state) (sym x.is)
          (sent_stands c n parent_as r.outputs s (with_parent Pin Segment c n open_of r.parent s) ds (Solves parent_as k r.outputs []) refl (λ a. refl) (λ a b xs. refl) inv.0.1)

  -- at first nothing waits, and no id was sent
  first_last : (p : Peer) (d : As) (xs : List Adjacency) → last_to (way_to p (ways_along d xs)) ≡ 0
  first_last p d [] = refl
  first_last p d (x ∷ xs) = go (same_as x.lower d) (same_as x.upper d) (first_last p d xs)
    where
      one : (b : Bool) (q : Peer) → last_to (way_to p (ways_along d xs)) ≡ 0 → last_to (cond b (Some (record { peer = q; up = false; last_id = 0 })) (way_to p (ways_along d xs))) ≡ 0
      one true q rec = refl
      one false q rec = rec

      go : (b b' : Bool) → last_to (way_to p (ways_along d xs)) ≡ 0 →
          last_to (way_to p (cond b (record { peer = Inner x.upper; up = false; last_id = 0 } ∷ ways_along d xs) (cond b' (record { peer = Inner x.lower; up = false; last_id = 0 } ∷ ways_along d xs) (ways_along d xs)))) ≡ 0
      go true b' rec = one (same_peer (Inner x.upper) p) (Inner x.upper) rec
      go false true rec = one (same_peer (Inner x.lower) p) (Inner x.lower) rec
      go false false rec = rec

  abbrev bare : Core
  bare = events.bare Pin Segment c n open_of first_pin

  none_named : (z : Bool) (a b : As) (x : ℕ) (l : List As) → cond z (upper.Named bare.parent (Inner a) x) (lower.Named Pin Segment (bare.elements b) (Inner a) x l) → ⊥
  none_named true a b x l h = h.1
  none_named false a b x l h = h.1

  none_waited : (z : Bool) (a b : As) (id : ℕ) (l : List As) → cond z (ParentWaits bare.parent b id l) (ElementWaits (bare.elements a) b id l) → ⊥
  none_waited true a b id l h = h.1.1
  none_waited false a b id l h = h.1.1

  bare_inv : Inv [] bare
  bare_inv = (
    (
      (bare_both c n),
      (λ a b. refl),
      λ prem. record {
        low = λ a b. 0;
        ids = record {
          names = λ a b x l h. absurd (none_named (same_as b parent_as) a b x l h);
          climbs = λ a b. omega arith;
          waits = λ a b id l h. absurd (none_waited (same_as a parent_as) a b id l h);
          short = λ a b. last a b (same_as a parent_as);
          once = λ q y. omega arith;
        };
        kids = λ w h. absurd h.1;
        sound = tt;
      },
    ),
    λ prem cancels a b id l h. absurd (none_waited (same_as a parent_as) a b id l h),
  )
    where
      last : (a b : As) (z : Bool) → cond z (Last bare.parent.ways b) (Last (bare.elements a).ways b) ≤ 0
      last a b true = let e = first_last (Inner b) parent_as (adjacencies n) in omega (arith, e)
      last a b false = let e = ap last_to (way_inside b (inner_ways n a) (routes n a)) ∙ first_last (Inner b) a (adjacencies n) in omega (arith, e)

  pub run_inv : (es : List Entry) (s : Plant) → Run c n es s → Inv (deeds_of c n es) s
  run_inv es s run = (run_travels c n Any (λ fs. any_in (split_all c fs)) Inv bare_inv step_inv (λ ds s' d g given inv. load_inv ds s' d g inv) solve_inv upper_inv es s run).0
