-- Each step keeps the rule of the ticket lock.
use Rattle.std.proofs.Common.{◌≡◌, ℕ, zero, suc, ◌+◌, ◌^◌, ◌<◌, ◌≤◌, ◌≢◌, eqb, List, [], ◌∷◌, ◌++◌, length, get_or, set, sym, refl, ap, ap₂, ◌∙◌, subst, ⊎_elim, arith, length-append, Option, Bool, true, false, ltb, cond, eq-eqb, ne_eqb, lt_of_not-le}
use lib.Seq.{set-get_or}
use mathlib.Core.Option.{none, some, some-injective, some-ne-none}
use mathlib.Core.Option as maybe
use mathlib.Core.Logic.{dite}
use native.Mathlib.Decide.{ℕ_discrete, dec_le}
use Rattle.std.proofs.lemmas.Bool.{ltb-true, lt-ltb}
use lib.ListN.{get_elem?}
use prog.Atomic.{either}
use Rattle.atomic_table.specs.Table.{State, Me, Act, Valid, carried_after, step, keeps, takes, gives, stepped, Allows, Splits, Joins, opening, put_back, rest}
use Rattle.atomic_table.proofs.Lists.{at_set, at_snoc, set_here, set_else, at_longer, exchanged}
use Rattle.std.specs.declared.snapshot.Snapshot.{Snapshot}
use Rattle.plant_lock.specs.declared.view.View.{View}
use Rattle.plant_lock.specs.declared.view.Slot.{Slot}
use Rattle.plant_lock.specs.declared.view.Slot.TheVariants.{Value, Entry}
use Rattle.plant_lock.specs.declared.view.SeatStage.{SeatStage}
use Rattle.plant_lock.specs.declared.view.SeatStage.TheVariants.{Idle, Waits, Serves}
use Rattle.plant_lock.specs.History.{replay, Legal, StartsWith, times, once_below, longer}
use Rattle.plant_lock.specs.Views.{opened, gone, kept_half, given_half, both, LegalFrom, LeadsTo}
use Rattle.plant_lock.specs.Rule.{places_at, view_shares, HasTicket, StageOk, SlotOk, LiveOk, Ruled}
use Rattle.plant_lock.specs.Steps.{of_entry, looked, drew, Taken, took_at, took, advanced, learned}
use Rattle.plant_lock.proofs.Lists.{set_at, one_at, there_set, total_set, total_snoc, part_below, parts_below, alone, times_append, once_next, once_none, starts_self, starts_more, shorter, replay_snoc, legal_snoc, legal_start}

module _ {T S A B : Type 0} (plain : T → S) (admits : S → A → Type 0) (allows : S → A → B → Type 0) (after : S → A → B → S) (start : T) (seats : ℕ) where
  abbrev V : Type 0
  V = View T A B

  abbrev St : Type 0
  St = State (Slot T A B) V

  abbrev M : Type 0
  M = Me (Slot T A B) V

  abbrev R : St → Type 0
  R = Ruled plain admits allows after start seats

  abbrev Live : List (A × B) → ℕ → (ℕ → ℕ) → maybe.Option ℕ → ℕ → V → Type 0
  Live = LiveOk plain admits allows after start

  idle_serves : (t : ℕ) → Idle ≢ Serves t
  idle_serves t e = cc e

  waits_serves : (t u : ℕ) → Waits t ≢ Serves u
  waits_serves t u e = cc e

  word_next : (s : St) (r : R s) → get_or s.words 0 0 ≡ r.next
  word_next s r = ap (λ (ws : List ℕ). get_or ws 0 0) r.words

  word_served : (s : St) (r : R s) → get_or s.words 1 0 ≡ length r.history
  word_served s r = ap (λ (ws : List ℕ). get_or ws 1 0) r.words

  -- one seat's view changes, and what else is given
  changed : (s : St) (r : R s) (id : ℕ) (v w : V) → get_elem? s.views id ≡ some v → w.shares ≡ v.shares
      → (h : List (A × B)) (n : ℕ) (owner : ℕ → ℕ) (holder : maybe.Option ℕ) (ws : List ℕ) (homes : List (maybe.Option (Slot T A B)))
      → ws ≡ n ∷ length h ∷ [] → n ≤ 2 ^ 63 → length h ≤ n → Legal admits allows after (plain start) h
      → ((t : ℕ) → length h ≤ t → t < n → (u : V) × (get_elem? (set s.views id w) (owner t) ≡ some u) × HasTicket u.stage t)
      → SlotOk plain admits allows after (plain start) h homes (set s.views id w) holder
      → (0 < w.shares → Live h n owner holder id w)
      → (0 < v.shares) → ((x : ℕ) → places_at x w + once_below x (length r.history) ≡ places_at x v + once_below x (length h))
      → ((j : ℕ) (u : V) → j ≢ id → get_elem? s.views j ≡ some u → 0 < u.shares → Live r.history r.next r.owner r.holder j u → Live h n owner holder j u)
      → R record { words = ws; homes = homes; views = set s.views id w }
  changed s r id v w at same h n owner holder ws homes words bound behind legal out slot mine some_share places others = record {
    history = h;
    next = n;
    owner = owner;
    holder = holder;
    words = words;
    bound = bound;
    behind = behind;
    legal = legal;
    out = out;
    slot = slot;
    live = λ j u e pos. ⊎_elim (λ (t : (j ≡ id) × (w ≡ u)). subst (λ (x : ℕ × V). Live h n owner holder x.0 x.1) (λ i. (sym t.0 i, t.1 i)) (mine (subst (λ (x : V). 0 < x.shares) (sym t.1) pos)))
        (λ (t : (j ≢ id) × (get_elem? s.views j ≡ some u)). others j u t.0 t.1 pos (r.live j u t.1 pos)) (at_set s.views id j w u e);
    whole = let p = total_set view_shares s.views id v w at in let q = r.whole in omega arith;
    few = r.few;
    placed = λ x. let p = total_set (places_at x) s.views id v w at in let q = r.placed x in let e = places x in omega arith;
    left = λ j u e z. ⊎_elim (λ (t : (j ≡ id) × (w ≡ u)). let same' : w.shares ≡ u.shares = ap view_shares t.1 in absurd (omega arith))
        (λ (t : (j ≢ id) × (get_elem? s.views j ≡ some u)). r.left j u t.1 z) (at_set s.views id j w u e);
  }

  -- the seat that has the slot still has it, after a change of another view or of what has the same stage and is still live
  slot_stays : (h : List (A × B)) (homes : List (maybe.Option (Slot T A B))) (views : List V) (id : ℕ) (v w : V) → get_elem? views id ≡ some v
      → (0 < v.shares → v.stage ≡ Serves (length h) → (0 < w.shares) × (w.stage ≡ Serves (length h))) → (holder : maybe.Option ℕ)
      → SlotOk plain admits allows after (plain start) h homes views holder → SlotOk plain admits allows after (plain start) h homes (set views id w) holder
  slot_stays h homes views id v w at more none o = o
  slot_stays h homes views id v w at more (some k) o =
      let t = there_set (λ (u : V). (0 < u.shares) × (u.stage ≡ Serves (length h))) views id k v w at (λ p. more p.0 p.1) (o.0, o.1, (o.2, o.3)) in (t.0, t.1, t.2.0, t.2.1)

  slot_longer : (h : List (A × B)) (homes : List (maybe.Option (Slot T A B))) (views : List V) (g : V) → (holder : maybe.Option ℕ)
      → SlotOk plain admits allows after (plain start) h homes views holder → SlotOk plain admits allows after (plain start) h homes (views ++ g ∷ []) holder
  slot_longer h homes views g none o = o
  slot_longer h homes views g (some k) o = (o.0, at_longer views (g ∷ []) k o.0 o.1, o.2, o.3)

  -- one seat's view changes but for its stage, and nothing else does
  restated : (s : St) (r : R s) (id : ℕ) (v w : V) → get_elem? s.views id ≡ some v → 0 < v.shares → w.places ≡ v.places → w.shares ≡ v.shares → w.stage ≡ v.stage → (0 < w.shares → Live r.history r.next r.owner r.holder id w)
      → R record { words = s.words; homes = s.homes; views = set s.views id w }
  restated s r id v w at some_share places same stage mine = changed s r id v w at same r.history r.next r.owner r.holder s.words s.homes r.words r.bound r.behind r.legal
      (λ t lo hi. there_set (λ (u : V). HasTicket u.stage t) s.views id (r.owner t) v w at (subst (λ (x : SeatStage). HasTicket x t) (sym stage)) (r.out t lo hi))
      (slot_stays r.history s.homes s.views id v w at (λ pos is. (subst (λ (x : ℕ). 0 < x) (sym same) pos, stage ∙ is)) r.holder r.slot) mine some_share (λ x. ap (λ (l : List ℕ). times x l + once_below x (length r.history)) places) (λ j u ne e pos l. l)

  -- the words after a step that leaves them
  word_same : (s : St) (i : ℕ) → set s.words i (get_or s.words i 0) ≡ s.words
  word_same s i = set-get_or s.words i 0

  -- a step that leaves the words, and takes and gives nothing
  rested : (s : St) (i id : ℕ) (me : M) (w : V) → R record { words = s.words; homes = s.homes; views = set s.views id w } → R (stepped s i (get_or s.words i 0) id me.1 w keeps)
  rested s i id me w = subst (λ (ws : List ℕ). R record { words = ws; homes = s.homes; views = set s.views id w }) (sym (word_same s i))

  pub looks : (n id : ℕ) (me : M) → 0 < me.0.shares → Allows R n id me 0 (λ x. x) (looked plain admits allows after (step n 0 0 0 none) me)
  looks n id me pos s r _ at _ = let w : V = record me.0 { met = get_or s.words 0 0 } in let l = r.live id me.0 at pos in (
    w,
    keeps,
    tt,
    rested s 0 id me w (restated s r id me.0 w at pos refl refl refl (λ _. record { starts = l.starts; seen = l.seen; told = l.told; met = let q = word_next s r in omega arith; stage = l.stage })),
    refl,
  )

  -- the owner of the ticket n is id from now on
  abbrev owned : (ℕ → ℕ) → ℕ → ℕ → ℕ → ℕ
  owned owner n id t = cond (eqb t n) id (owner t)

  owned_here : (owner : ℕ → ℕ) (n id : ℕ) → owned owner n id n ≡ id
  owned_here owner n id = ap (λ (b : Bool). cond b id (owner n)) (eq-eqb n n refl)

  owned_else : (owner : ℕ → ℕ) (n id t : ℕ) → t ≢ n → owned owner n id t ≡ owner t
  owned_else owner n id t ne = ap (λ (b : Bool). cond b id (owner t)) (ne_eqb t n ne)

  stage_drawn : (h : List (A × B)) (n : ℕ) (owner : ℕ → ℕ) (holder : maybe.Option ℕ) (id j : ℕ) (seen : List (A × B)) (st : SeatStage)
      → StageOk plain admits allows after h n owner holder j seen st → StageOk plain admits allows after h (n + 1) (owned owner n id) holder j seen st
  stage_drawn h n owner holder id j seen Idle k = tt
  stage_drawn h n owner holder id j seen (Waits t) k = let a = k.1 in (k.0, omega arith, owned_else owner n id t (omega arith) ∙ k.2)
  stage_drawn h n owner holder id j seen (Serves t) k = let a = k.1 in (k.0, omega arith, owned_else owner n id t (omega arith) ∙ k.2, k.3, k.4)

  pub draws : (n id : ℕ) (me : M) (old new : ℕ) → 0 < me.0.shares → me.0.stage ≡ Idle → old < 2 ^ 63 → new ≡ old + 1 → Allows R n id me 0 (λ x. either (eqb x old) new x) (drew plain admits allows after (step n 0 old new none) me)
  draws n id me old new pos idle low is s r _ at _ = let x : ℕ = get_or s.words 0 0 in let l = r.live id me.0 at pos in let nx = word_next s r in
      exchanged x old new (λ (y : ℕ). (w : V) × (a : Act (Slot T A B)) × Valid s.homes me.1 a × R (stepped s 0 y id me.1 w a) × drew plain admits allows after (step n 0 old new none) me x (w, carried_after me.1 a))
      (λ hit. let w : V = record me.0 { met = x; stage = Waits x } in let m : ℕ = r.next in let here : x ≡ m = nx in (
        w,
        keeps,
        tt,
        changed s r id me.0 w at refl r.history (m + 1) (owned r.owner m id) r.holder (set s.words 0 new) s.homes
            (ap₂ (λ (ws : List ℕ) (y : ℕ). set ws 0 y) r.words (is ∙ (let q : old + 1 ≡ m + 1 = omega arith in q))) (omega arith) (let b = r.behind in omega arith) r.legal
            (λ t lo hi. dite (ℕ_discrete t m)
            (λ e. (w, subst (λ (k : ℕ). get_elem? (set s.views id w) k ≡ some w) (sym (ap (owned r.owner m id) e ∙ owned_here r.owner m id)) (set_at s.views id me.0 w at), here ∙ sym e))
            (λ ne. subst (λ (k : ℕ). (u : V) × (get_elem? (set s.views id w) k ≡ some u) × HasTicket u.stage t) (sym (owned_else r.owner m id t ne))
            (there_set (λ (u : V). HasTicket u.stage t) s.views id (r.owner t) me.0 w at (λ has. absurd (subst (λ (z : SeatStage). HasTicket z t) idle has)) (r.out t lo (omega arith)))))
            (slot_stays r.history s.homes s.views id me.0 w at (λ _ srv. absurd (idle_serves (length r.history) (sym idle ∙ srv))) r.holder r.slot)
            (λ _. record { starts = l.starts; seen = l.seen; told = l.told; met = omega arith; stage = (let b = r.behind in omega arith, omega arith, ap (owned r.owner m id) here ∙ owned_here r.owner m id) })
            pos (λ _. refl)
            (λ j u ne e p k. record { starts = k.starts; seen = k.seen; told = k.told; met = let q = k.met in omega arith; stage = stage_drawn r.history m r.owner r.holder id j u.seen u.stage k.stage }),
        ((λ _. refl), (λ miss. absurd (miss hit))),
      ))
      (λ miss. let w : V = record me.0 { met = x } in (
        w,
        keeps,
        tt,
        rested s 0 id me w (restated s r id me.0 w at pos refl refl refl (λ _. record { starts = l.starts; seen = l.seen; told = l.told; met = omega arith; stage = l.stage })),
        ((λ hit. absurd (miss hit)), (λ _. refl)),
      ))

  stage_held : (h : List (A × B)) (n : ℕ) (owner : ℕ → ℕ) (id j : ℕ) (seen : List (A × B)) (st : SeatStage)
      → StageOk plain admits allows after h n owner none j seen st → StageOk plain admits allows after h n owner (some id) j seen st
  stage_held h n owner id j seen Idle k = tt
  stage_held h n owner id j seen (Waits t) k = k
  stage_held h n owner id j seen (Serves t) k = absurd (some-ne-none j (sym k.4))

  -- the seat whose ticket is served takes the slot
  takes_home : (s : St) (r : R s) (n id t : ℕ) (me : M) → 0 < me.0.shares → me.0.stage ≡ Waits t → get_elem? s.views id ≡ some me.0 → get_or s.words 1 0 ≡ t → Live r.history r.next r.owner r.holder id me.0
      → (holder : maybe.Option ℕ) → holder ≡ r.holder → SlotOk plain admits allows after (plain start) r.history s.homes s.views holder
      → (w : V) × (a : Act (Slot T A B)) × Valid s.homes me.1 a × R (stepped s 1 (get_or s.words 1 0) id me.1 w a) × Taken plain admits allows after me t (w, carried_after me.1 a)
  takes_home s r n id t me pos waits at found l none is o =
      let h : List (A × B) = r.history in let len : length h ≡ t = sym (word_served s r) ∙ found in let w : V = record me.0 { seen = h; stage = Serves t } in
      let k : StageOk plain admits allows after h r.next r.owner r.holder id me.0.seen (Waits t) = subst (StageOk plain admits allows after h r.next r.owner r.holder id me.0.seen) waits l.stage in (
        w,
        takes 0 (Value o.0),
        o.1,
        changed s r id me.0 w at refl h r.next r.owner (some id) (set s.words 1 (get_or s.words 1 0)) (set s.homes 0 none) (word_same s 1 ∙ r.words) r.bound r.behind r.legal
            (λ u lo hi. there_set (λ (x : V). HasTicket x.stage u) s.views id (r.owner u) me.0 w at (λ has. subst (λ (z : SeatStage). HasTicket z u) waits has) (r.out u lo hi))
            (w, set_at s.views id me.0 w at, pos, ap Serves (sym len))
            (λ _. record { starts = l.starts; seen = starts_self h; told = l.told; met = l.met; stage = (sym len, k.1, k.2, refl, refl) })
            pos (λ _. refl)
            (λ j u ne e p m. record { starts = m.starts; seen = m.seen; told = m.told; met = m.met; stage = stage_held h r.next r.owner id j u.seen u.stage (subst (λ (x : maybe.Option ℕ). StageOk plain admits allows after h r.next r.owner x j u.seen u.stage) (sym is) m.stage) }),
        (o.0, h, refl, l.seen, len, subst (λ (z : Option T). LegalFrom plain admits allows after z h) (sym l.starts) r.legal, subst (λ (z : Option T). LeadsTo plain admits allows after z h (plain o.0)) (sym l.starts) o.2),
      )
  takes_home s r n id t me pos waits at found l (some j) is o =
      let h : List (A × B) = r.history in let len : length h ≡ t = sym (word_served s r) ∙ found in
      let k : StageOk plain admits allows after h r.next r.owner r.holder id me.0.seen (Waits t) = subst (StageOk plain admits allows after h r.next r.owner r.holder id me.0.seen) waits l.stage in
      let m : StageOk plain admits allows after h r.next r.owner r.holder j o.0.seen (Serves (length h)) = subst (StageOk plain admits allows after h r.next r.owner r.holder j o.0.seen) o.3 (r.live j o.0 o.1 o.2).stage in
      let same : j ≡ id = sym m.2 ∙ (ap r.owner len ∙ k.2) in let v : o.0 ≡ me.0 = one_at s.views id o.0 me.0 (subst (λ (x : ℕ). get_elem? s.views x ≡ some o.0) same o.1) at in
      absurd (waits_serves t (length h) (sym waits ∙ (ap (λ (x : V). x.stage) (sym v) ∙ o.3)))

  pub takes_slot : (n id t : ℕ) (me : M) → 0 < me.0.shares → me.0.stage ≡ Waits t → Allows R n id me 1 (λ x. x) (took plain admits allows after (step n 1 0 0 none) me)
  takes_slot n id t me pos waits s r _ at _ = let x : ℕ = get_or s.words 1 0 in let l = r.live id me.0 at pos in
      subst (λ (z : SeatStage). (w : V) × (a : Act (Slot T A B)) × Valid s.homes me.1 a × R (stepped s 1 x id me.1 w a) × took_at plain admits allows after z me x (w, carried_after me.1 a)) (sym waits)
      (dite (ℕ_discrete x t)
      (λ hit. let g = takes_home s r n id t me pos waits at hit l r.holder refl r.slot in (g.0, g.1, g.2, g.3, ((λ _. g.4), (λ miss. absurd (miss hit)))))
      (λ miss. (me.0, keeps, tt, rested s 1 id me me.0 (restated s r id me.0 me.0 at pos refl refl refl (λ _. l)), ((λ hit. absurd (miss hit)), (λ _. refl)))))

  stage_advanced : (h : List (A × B)) (e : A × B) (n : ℕ) (owner : ℕ → ℕ) (id j : ℕ) (seen : List (A × B)) (st : SeatStage) → j ≢ id → owner (length h) ≡ id
      → StageOk plain admits allows after h n owner (some id) j seen st → StageOk plain admits allows after (h ++ e ∷ []) n owner none j seen st
  stage_advanced h e n owner id j seen Idle ne mine k = tt
  stage_advanced h e n owner id j seen (Waits t) ne mine k = let len = length-append h (e ∷ []) in let le = k.0 in
      let other : t ≢ length h = λ q. ne (sym k.2 ∙ (ap owner q ∙ mine)) in (omega arith, k.1, k.2)
  stage_advanced h e n owner id j seen (Serves t) ne mine k = absurd (ne (sym (some-injective id j k.4)))

  -- the entry joins the history, and the value comes home
  advances_home : (s : St) (r : R s) (n id t : ℕ) (me : M) (new : ℕ) (y : T) (a : A) (b : B) → 0 < length s.homes → 0 < me.0.shares → me.0.stage ≡ Serves t → new ≡ t + 1
      → get_elem? s.views id ≡ some me.0 → Live r.history r.next r.owner r.holder id me.0
      → admits (replay after (plain start) me.0.seen) a → allows (replay after (plain start) me.0.seen) a b → plain y ≡ after (replay after (plain start) me.0.seen) a b
      → R record { words = set s.words 1 new; homes = set s.homes 0 (some (Value y)); views = set s.views id record me.0 { seen = me.0.seen ++ (a, b) ∷ []; places = me.0.places ++ t ∷ []; stage = Idle } }
  advances_home s r n id t me new y a b some_slot pos serves more at l may can left =
      let h : List (A × B) = r.history in let e : A × B = (a, b) in let len = length-append h (e ∷ []) in
      let k : StageOk plain admits allows after h r.next r.owner r.holder id me.0.seen (Serves t) = subst (StageOk plain admits allows after h r.next r.owner r.holder id me.0.seen) serves l.stage in
      let same : me.0.seen ≡ h = k.3 in let w : V = record me.0 { seen = me.0.seen ++ e ∷ []; places = me.0.places ++ t ∷ []; stage = Idle } in
      let is : t ≡ length h = k.0 in let mine : r.owner (length h) ≡ id = sym (ap r.owner is) ∙ k.2 in let low : t < r.next = k.1 in
      changed s r id me.0 w at refl (h ++ e ∷ []) r.next r.owner none (set s.words 1 new) (set s.homes 0 (some (Value y)))
      (ap₂ (λ (ws : List ℕ) (z : ℕ). set ws 1 z) r.words (let q : new ≡ length (h ++ e ∷ []) = omega arith in q)) r.bound (omega arith)
      (legal_snoc admits allows after (plain start) h a b r.legal (subst (λ (z : List (A × B)). admits (replay after (plain start) z) a) same may) (subst (λ (z : List (A × B)). allows (replay after (plain start) z) a b) same can))
      (λ u lo hi. there_set (λ (x : V). HasTicket x.stage u) s.views id (r.owner u) me.0 w at
      (λ has. let q : t ≡ u = subst (λ (z : SeatStage). HasTicket z u) serves has in absurd (omega arith)) (r.out u (omega arith) hi))
      (y, set_here s.homes 0 (some (Value y)) some_slot, left ∙ (ap (λ (z : List (A × B)). after (replay after (plain start) z) a b) same ∙ sym (replay_snoc after (plain start) h a b)))
      (λ _. record { starts = l.starts; seen = subst (λ (z : List (A × B)). StartsWith (h ++ e ∷ []) (z ++ e ∷ [])) (sym same) (starts_self (h ++ e ∷ [])); told = starts_more h (e ∷ []) me.0.told l.told; met = l.met; stage = tt })
      pos (λ x. let a = times_append x me.0.places (t ∷ []) in let b = once_next x (length h) in let c : length (h ++ e ∷ []) ≡ length h + 1 = omega arith in let d = ap (once_below x) c in let f = ap (λ (z : ℕ). times x (z ∷ [])) is in omega arith)
      (λ j u ne at' p m. record {
        starts = m.starts;
        seen = starts_more h (e ∷ []) u.seen m.seen;
        told = starts_more h (e ∷ []) u.told m.told;
        met = m.met;
        stage = stage_advanced h e r.next r.owner id j u.seen u.stage ne mine (subst (λ (x : maybe.Option ℕ). StageOk plain admits allows after h r.next r.owner x j u.seen u.stage) k.4 m.stage);
      })

  pub advances : (n id t : ℕ) (me : M) (old new : ℕ) (y : T) (p : S) (a : Snapshot A) (b : Snapshot B) (said : Slot T A B) → 0 < n → 0 < me.0.shares → me.0.stage ≡ Serves t → old ≡ t → new ≡ t + 1 → me.1 ≡ (0, Value y) ∷ [] → said ≡ Entry a b
      → LeadsTo plain admits allows after me.0.start me.0.seen p → admits p a.value → allows p a.value b.value → plain y ≡ after p a.value b.value
      → Allows R n id me 1 (λ x. either (eqb x old) new x) (advanced plain admits allows after (step n 1 old new (some said)) me)
  advances n id t me old new y p a b said some_slot pos serves was more carries says leads may can left s r wide at _ =
      let x : ℕ = get_or s.words 1 0 in let l = r.live id me.0 at pos in let h : List (A × B) = r.history in
      let k : StageOk plain admits allows after h r.next r.owner r.holder id me.0.seen (Serves t) = subst (StageOk plain admits allows after h r.next r.owner r.holder id me.0.seen) serves l.stage in
      let from : p ≡ replay after (plain start) me.0.seen = subst (λ (z : Option T). LeadsTo plain admits allows after z me.0.seen p) l.starts leads in
      let w : V = record me.0 { seen = me.0.seen ++ (a.value, b.value) ∷ []; places = me.0.places ++ t ∷ []; stage = Idle } in
      let hit : x ≡ old = word_served s r ∙ (sym k.0 ∙ sym was) in
      let home : R record { words = set s.words 1 new; homes = set s.homes 0 (some (Value y)); views = set s.views id w } =
      advances_home s r n id t me new y a.value b.value (subst (λ (z : ℕ). 0 < z) (sym wide) some_slot) pos serves more at l (subst (λ (z : S). admits z a.value) from may) (subst (λ (z : S). allows z a.value b.value) from can) (left ∙ ap (λ (z : S). after z a.value b.value) from) in (
        w,
        gives,
        tt,
        subst (λ (z : List (ℕ × Slot T A B)). R record { words = set s.words 1 (either (eqb x old) new x); homes = put_back s.homes z; views = set s.views id w }) (sym carries)
            (subst (λ (z : Bool). R record { words = set s.words 1 (either z new x); homes = set s.homes 0 (some (Value y)); views = set s.views id w }) (sym (eq-eqb x old hit)) home),
        subst (λ (z : Slot T A B). of_entry (some z) (λ c d. ◌≡◌ {A = M} (w, rest me.1) (record me.0 { seen = me.0.seen ++ (c, d) ∷ []; places = me.0.places ++ old ∷ []; stage = Idle }, rest me.1))) (sym says)
            (ap (λ (z : ℕ). (record me.0 { seen = me.0.seen ++ (a.value, b.value) ∷ []; places = me.0.places ++ z ∷ []; stage = Idle }, rest me.1)) (sym was)),
      )

  longer_when : (xs ys : List (A × B)) (c : Bool) → ltb (length xs) (length ys) ≡ c → (h : List (A × B)) → StartsWith h xs → StartsWith h ys
      → StartsWith (cond c ys xs) xs × StartsWith (cond c ys xs) ys × StartsWith h (cond c ys xs)
  longer_when xs ys true is h a b = (shorter h xs ys a b (let q = ltb-true (length xs) (length ys) is in omega arith), starts_self ys, b)
  longer_when xs ys false is h a b = (starts_self xs, shorter h ys xs b a (dite (dec_le (length ys) (length xs)) (λ le. le) (λ ne. let e = lt-ltb (length xs) (length ys) (lt_of_not-le ne) in absurd (cc (e, is)))), a)

  pub learns : (n id : ℕ) (me : M) → 0 < me.0.shares → me.0.stage ≡ Idle → Allows R n id me 1 (λ x. x) (learned plain admits allows after (step n 1 0 0 none) me)
  learns n id me pos idle s r _ at _ = let w : V = record me.0 { seen = longer me.0.seen me.0.told } in let l = r.live id me.0 at pos in
      let q = longer_when me.0.seen me.0.told (ltb (length me.0.seen) (length me.0.told)) refl r.history l.seen l.told in (
        w,
        keeps,
        tt,
        rested s 1 id me w (restated s r id me.0 w at pos refl refl refl (λ _. record {
          starts = l.starts;
          seen = q.2;
          told = l.told;
          met = l.met;
          stage = subst (StageOk plain admits allows after r.history r.next r.owner r.holder id w.seen) (sym idle) tt;
        })),
        (refl, q.0, q.1, subst (λ (z : Option T). LegalFrom plain admits allows after z w.seen) (sym l.starts) (legal_start admits allows after (plain start) r.history w.seen r.legal q.2), (let part = part_below view_shares s.views id me.0 at in let all = r.whole in let few = r.few in omega arith)),
      )

  stage_idle : (h : List (A × B)) (n : ℕ) (owner : ℕ → ℕ) (holder : maybe.Option ℕ) (id : ℕ) (seen : List (A × B)) (st : SeatStage) → st ≡ Idle → StageOk plain admits allows after h n owner holder id seen st
  stage_idle h n owner holder id seen st is = subst (StageOk plain admits allows after h n owner holder id seen) (sym is) tt

  pub splits : (id : ℕ) (v : V) → 1 < v.shares → Splits R id v (kept_half v) (given_half v)
  splits id v some_share s r at = let l = r.live id v at (omega arith) in let w : V = kept_half v in let g : V = given_half v in
      let longer_there : (P : V → Type 0) → (k : ℕ) → (P v → P w) → ((u : V) × (get_elem? s.views k ≡ some u) × P u) → (u : V) × (get_elem? (set s.views id w ++ g ∷ []) k ≡ some u) × P u =
      λ P k more t. let x = there_set P s.views id k v w at more t in (x.0, at_longer (set s.views id w) (g ∷ []) k x.0 x.1, x.2) in record {
        history = r.history;
        next = r.next;
        owner = r.owner;
        holder = r.holder;
        words = r.words;
        bound = r.bound;
        behind = r.behind;
        legal = r.legal;
        out = λ t lo hi. longer_there (λ (u : V). HasTicket u.stage t) (r.owner t) (λ has. has) (r.out t lo hi);
        slot = slot_longer r.history s.homes (set s.views id w) g r.holder (slot_stays r.history s.homes s.views id v w at (λ pos is. (omega arith, is)) r.holder r.slot);
        live = λ j u e pos. ⊎_elim
            (λ (e' : get_elem? (set s.views id w) j ≡ some u). ⊎_elim
            (λ (t : (j ≡ id) × (w ≡ u)). subst (λ (x : ℕ × V). Live r.history r.next r.owner r.holder x.0 x.1) (λ i. (sym t.0 i, t.1 i)) (record { starts = l.starts; seen = l.seen; told = l.told; met = l.met; stage = l.stage }))
            (λ (t : (j ≢ id) × (get_elem? s.views j ≡ some u)). r.live j u t.1 pos) (at_set s.views id j w u e'))
            (λ (e' : g ≡ u). subst (Live r.history r.next r.owner r.holder j) e' (record { starts = l.starts; seen = l.seen; told = l.told; met = l.met; stage = tt }))
            (at_snoc (set s.views id w) g u j e);
        whole = let p = total_set view_shares s.views id v w at in let q = total_snoc view_shares (set s.views id w) g in let x = r.whole in omega arith;
        few = r.few;
        placed = λ x. let p = total_set (places_at x) s.views id v w at in let q = total_snoc (places_at x) (set s.views id w) g in let y = r.placed x in omega arith;
        left = λ j u e z. ⊎_elim
            (λ (e' : get_elem? (set s.views id w) j ≡ some u). ⊎_elim
            (λ (t : (j ≡ id) × (w ≡ u)). let same : w.shares ≡ u.shares = ap view_shares t.1 in absurd (omega arith))
            (λ (t : (j ≢ id) × (get_elem? s.views j ≡ some u)). r.left j u t.1 z) (at_set s.views id j w u e'))
            (λ (e' : g ≡ u). sym (ap (λ (y : V). y.places) e'))
            (at_snoc (set s.views id w) g u j e);
      }

  gone_ok : (h : List (A × B)) (n : ℕ) (owner : ℕ → ℕ) (holder : maybe.Option ℕ) (id : ℕ) → 0 < (gone {T = T} {A = A} {B = B}).shares → Live h n owner holder id gone
  gone_ok h n owner holder id pos = absurd (omega arith)

  met_below : (a b n : ℕ) (c : Bool) → a ≤ n → b ≤ n → cond c b a ≤ n
  met_below a b n true p q = q
  met_below a b n false p q = p

  pub joins : (id : ℕ) (v : V) (other : ℕ) (w : V) → 0 < v.shares → 0 < w.shares → w.stage ≡ Idle → Joins R id v other w (both v w) gone
  joins id v other w pos pos' idle s r at ne at' = let l = r.live id v at pos in let u : V = both v w in
      let there : get_elem? s.views other ≡ some w = sym (set_else s.views id other u ne) ∙ at' in let m = r.live other w there pos' in
      let vs : List V = set s.views id u in record {
        history = r.history;
        next = r.next;
        owner = r.owner;
        holder = r.holder;
        words = r.words;
        bound = r.bound;
        behind = r.behind;
        legal = r.legal;
        out = λ t lo hi. there_set (λ (x : V). HasTicket x.stage t) vs other (r.owner t) w gone at' (λ has. absurd (subst (λ (z : SeatStage). HasTicket z t) idle has))
            (there_set (λ (x : V). HasTicket x.stage t) s.views id (r.owner t) v u at (λ has. has) (r.out t lo hi));
        slot = slot_stays r.history s.homes vs other w gone at' (λ _ srv. absurd (idle_serves (length r.history) (sym idle ∙ srv))) r.holder
            (slot_stays r.history s.homes s.views id v u at (λ p is. (omega arith, is)) r.holder r.slot);
        live = λ j x e p. ⊎_elim
            (λ (t : (j ≡ other) × (gone ≡ x)). subst (λ (z : V). Live r.history r.next r.owner r.holder j z) t.1 (gone_ok r.history r.next r.owner r.holder j (subst (λ (z : V). 0 < z.shares) (sym t.1) p)))
            (λ (t : (j ≢ other) × (get_elem? vs j ≡ some x)). ⊎_elim
            (λ (q : (j ≡ id) × (u ≡ x)). subst (λ (z : ℕ × V). Live r.history r.next r.owner r.holder z.0 z.1) (λ i. (sym q.0 i, q.1 i))
            (record { starts = l.starts; seen = l.seen; told = m.seen; met = met_below v.met w.met r.next (ltb v.met w.met) l.met m.met; stage = l.stage }))
            (λ (q : (j ≢ id) × (get_elem? s.views j ≡ some x)). r.live j x q.1 p) (at_set s.views id j u x t.1))
            (at_set vs other j gone x e);
        whole = let a = total_set view_shares s.views id v u at in let b = total_set view_shares vs other w gone at' in let c = r.whole in omega arith;
        few = r.few;
        placed = λ x. let p = total_set (places_at x) s.views id v u at in let q = total_set (places_at x) vs other w gone at' in let y = r.placed x in let z = times_append x v.places w.places in omega arith;
        left = λ j x e z. ⊎_elim
            (λ (t : (j ≡ other) × (gone ≡ x)). sym (ap (λ (y : V). y.places) t.1))
            (λ (t : (j ≢ other) × (get_elem? vs j ≡ some x)). ⊎_elim
            (λ (q : (j ≡ id) × (u ≡ x)). let same : u.shares ≡ x.shares = ap view_shares q.1 in absurd (omega arith))
            (λ (q : (j ≢ id) × (get_elem? s.views j ≡ some x)). r.left j x q.1 z) (at_set s.views id j u x t.1))
            (at_set vs other j gone x e);
      }

  opened_ok : (j : ℕ) (u : V) → get_elem? (opened start seats ∷ []) j ≡ some u → Live [] 0 (λ _. 0) none j u
  opened_ok zero u e = subst (Live [] 0 (λ _. 0) none 0) (some-injective (opened start seats) u e) (record { starts = refl; seen = ([], refl); told = ([], refl); met = omega arith; stage = tt })
  opened_ok (suc j) u e = absurd (some-ne-none u (sym e))

  opened_left : (j : ℕ) (u : V) → get_elem? (opened start seats ∷ []) j ≡ some u → u.places ≡ []
  opened_left zero u e = sym (ap (λ (y : V). y.places) (some-injective (opened start seats) u e))
  opened_left (suc j) u e = absurd (some-ne-none u (sym e))

  pub opens : (x : T) → x ≡ start → seats < 2 ^ 32 → R (opening (0 ∷ 0 ∷ []) (Value x ∷ []) (opened start seats))
  opens x is small = record {
    history = [];
    next = 0;
    owner = λ _. 0;
    holder = none;
    words = refl;
    bound = omega arith;
    behind = omega arith;
    legal = tt;
    out = λ t lo hi. absurd (omega arith);
    slot = (x, refl, ap plain is);
    live = λ j u e p. opened_ok j u e;
    whole = omega arith;
    few = small;
    placed = λ x. let z = once_none x in omega arith;
    left = λ j u e z. opened_left j u e;
  }

  closes_at : (id : ℕ) (v : V) (s : St) (r : R s) → get_elem? s.views id ≡ some v → v.shares ≡ seats → v.stage ≡ Idle → Live r.history r.next r.owner r.holder id v
      → (holder : maybe.Option ℕ) → SlotOk plain admits allows after (plain start) r.history s.homes s.views holder
      → (h : List (A × B)) × (x : T) × (get_elem? s.homes 0 ≡ some (some (Value x))) × StartsWith h v.seen × LegalFrom plain admits allows after v.start h × LeadsTo plain admits allows after v.start h (plain x) × ((y : ℕ) → times y v.places ≡ once_below y (length h))
  closes_at id v s r at all idle l none o = (
    r.history,
    o.0,
    o.1,
    l.seen,
    subst (λ (z : Option T). LegalFrom plain admits allows after z r.history) (sym l.starts) r.legal,
    subst (λ (z : Option T). LeadsTo plain admits allows after z r.history (plain o.0)) (sym l.starts) o.2,
    (λ y. sym (alone (places_at y) s.views id v at (λ j u ne e. let p = parts_below view_shares s.views j id u v e at ne in let q = r.whole in let z : u.shares ≡ 0 = omega arith in ap (times y) (r.left j u e z))) ∙ r.placed y),
  )
  closes_at id v s r at all idle l (some k) o = dite (ℕ_discrete k id)
      (λ e. let same : o.0 ≡ v = one_at s.views id o.0 v (subst (λ (z : ℕ). get_elem? s.views z ≡ some o.0) e o.1) at in absurd (idle_serves (length r.history) (sym idle ∙ (ap (λ (z : V). z.stage) (sym same) ∙ o.3))))
      (λ ne. let p = parts_below view_shares s.views k id o.0 v o.1 at ne in let q = r.whole in let some_share = o.2 in absurd (omega arith))

  -- the seat that has all shares is alone, so the value lies in the slot
  pub closes : (id : ℕ) (v : V) (s : St) → R s → get_elem? s.views id ≡ some v → v.shares ≡ seats → 0 < seats → v.stage ≡ Idle
      → (h : List (A × B)) × (x : T) × (get_elem? s.homes 0 ≡ some (some (Value x))) × StartsWith h v.seen × LegalFrom plain admits allows after v.start h × LeadsTo plain admits allows after v.start h (plain x) × ((y : ℕ) → times y v.places ≡ once_below y (length h))
  closes id v s r at all pos idle = let l = r.live id v at (omega arith) in closes_at id v s r at all idle l r.holder r.slot
