-- Taking a message and answering a job leave which neighbours an element, or the parent, may send requests.
use Rattle.std.proofs.Common.{◌≡◌, ℕ, Bool, true, false, cond, Option, Some, is_some, List, [], ◌∷◌, refl, ◌∙◌}
use Rattle.plant_laws.specs.plant_model.Types.{As, Peer, Inner, Hop, Message, Wanted, Class, Best, Branch}
use Rattle.request_table.specs.Pending.{same_peer}
use Rattle.plant_laws.specs.plant_model.Wire.{Codec}
use Rattle.plant_laws.specs.plant_model.Element.{Row, Way, Element, ElementSettings, way_to, with_last, with_up}
use Rattle.plant_laws.specs.plant_model.Taking.{take}
use Rattle.plant_laws.specs.plant_model.Solving.{commit, job_found}
use Rattle.plant_laws.specs.plant_model.BorderGraph.{Found}
use Rattle.plant_laws.specs.plant_model.Parent as parent
use Rattle.plant_laws.specs.plant_model.Parent.{Wait, Errand, Family, Parent, AskingRow, is_up}
use Rattle.plant_laws.proofs.Runs.TakesKept.{take_after, commit_after}
use Rattle.plant_laws.proofs.Runs.ParentTakesKept as parent_kept
use Rattle.run_laws.proofs.SettlingLemmas.Reaching.{last_up}

-- the same neighbours may be sent requests, and there are ways to the same
pub record SameView (ws vs : List Way) : Type 0 where
  pub some : (b : As) → is_some (way_to (Inner b) ws) ≡ is_some (way_to (Inner b) vs)
  pub up : (b : As) → is_up (way_to (Inner b) ws) ≡ is_up (way_to (Inner b) vs)

pub same_view : (ws : List Way) → SameView ws ws
same_view ws = record { some = λ b. refl; up = λ b. refl }

pub view_on : (us ws vs : List Way) → SameView us ws → SameView ws vs → SameView us vs
view_on us ws vs h h' = record { some = λ b. h.some b ∙ h'.some b; up = λ b. h.up b ∙ h'.up b }

some_at : (b : Bool) (v w : Way) (o p : Option Way) → is_some o ≡ is_some p → is_some (cond b (Some v) o) ≡ is_some (cond b (Some w) p)
some_at true v w o p same = refl
some_at false v w o p same = same

last_some : (q p : Peer) (y : ℕ) (ways : List Way) → is_some (way_to q (with_last p y ways)) ≡ is_some (way_to q ways)
last_some q p y [] = refl
last_some q p y (w ∷ ws) = go (last_some q p y ws) (same_peer w.peer p)
  where
    go : is_some (way_to q (with_last p y ws)) ≡ is_some (way_to q ws) → (b : Bool) → is_some (way_to q (cond b (record w { last_id = y } ∷ ws) (w ∷ with_last p y ws))) ≡ is_some (way_to q (w ∷ ws))
    go more true = some_at (same_peer w.peer q) (record w { last_id = y }) w (way_to q ws) (way_to q ws) refl
    go more false = some_at (same_peer w.peer q) w w (way_to q (with_last p y ws)) (way_to q ws) more

pub up_some : (q p : Peer) (v : Bool) (ways : List Way) → is_some (way_to q (with_up p v ways)) ≡ is_some (way_to q ways)
up_some q p v [] = refl
up_some q p v (w ∷ ws) = go (up_some q p v ws) (same_peer w.peer p)
  where
    go : is_some (way_to q (with_up p v ws)) ≡ is_some (way_to q ws) → (b : Bool) → is_some (way_to q (cond b (record w { up = v } ∷ ws) (w ∷ with_up p v ws))) ≡ is_some (way_to q (w ∷ ws))
    go more true = some_at (same_peer w.peer q) (record w { up = v }) w (way_to q ws) (way_to q ws) refl
    go more false = some_at (same_peer w.peer q) w w (way_to q (with_up p v ws)) (way_to q ws) more

pub last_view : (p : Peer) (y : ℕ) (ws : List Way) → SameView (with_last p y ws) ws
last_view p y ws = record { some = λ b. last_some (Inner b) p y ws; up = λ b. last_up (Inner b) p y ws }

pub way_risen : (p : Peer) (ways : List Way) → is_up (way_to p (with_up p true ways)) ≡ is_some (way_to p ways)
way_risen p [] = refl
way_risen p (w ∷ ws) = go (way_risen p ws) (same_peer w.peer p) refl
  where
    go : is_up (way_to p (with_up p true ws)) ≡ is_some (way_to p ws) → (b : Bool) → same_peer w.peer p ≡ b → is_up (way_to p (cond b (record w { up = true } ∷ ws) (w ∷ with_up p true ws))) ≡ is_some (way_to p (w ∷ ws))
    go more true hit = rw hit refl
    go more false miss = rw miss more

-- ---- an element

module _ (P : Type 0) (S : Type 0) (c : Codec) (show : S → List Hop) (e : ElementSettings) (pin : P) (p : Peer) (class : Class) (now : ℕ) where
  abbrev Kept : Element P S → Element P S → Type 0
  Kept k t = SameView t.ways k.ways

  pub take_kept : (m : Message) (k : Element P S) → Kept k (take c show e pin p class now m k).element
  take_kept m k =
      take_after (Kept k) (λ number t same. same) c e pin p class show now m
      (λ none a r w is wish. record { ready = λ own t same. same; sent = λ sequence on y t same. view_on (with_last on y t.ways) t.ways k.ways (last_view on y t.ways) same })
      (λ r paths h t i below found tells same. same) k (same_view k.ways)

  pub commit_kept : (h : Row P) (down : List Branch) (stands : Best → S) (source_known target_known : Bool) (best : List Best) (k : Element P S) → Kept k (commit c e h down now stands (job_found source_known target_known best) k).element
  commit_kept h down stands source_known target_known best k =
      commit_after (Kept k) (λ number t same. same) c e h down now stands source_known target_known best (λ bs t same. same) k (same_view k.ways)

-- ---- the parent

asks_above : (w : Wanted) (taken : List Wait) (rs : List Errand) (ws : List Way) → SameView (parent.ask_all w taken rs ws).ways ws
asks_above w taken [] ws = same_view ws
asks_above w taken (r ∷ rs) ws =
    let y = parent.next_id (Inner r.child) taken ws in
    let one : Wait = record { peer = Inner r.child; id = y; child = r.child; target = r.target } in
    view_on (parent.ask_all w (one ∷ taken) rs (with_last (Inner r.child) y ws)).ways (with_last (Inner r.child) y ws) ws (asks_above w (one ∷ taken) rs (with_last (Inner r.child) y ws)) (last_view (Inner r.child) y ws)

module _ (c : Codec) (f : Family) (p : Peer) where
  abbrev Kept_ : Parent → Parent → Type 0
  Kept_ k t = SameView t.ways k.ways

  pub take_above : (m : Message) (k : Parent) → Kept_ k (parent.take c f p m k).parent
  take_above m k =
      parent_kept.take_after (Kept_ k) (λ number t same. same) c f p
      (λ flags x w t same.
      let es = parent.errands f.links w.target f.children in
      view_on (parent.ask_all w (parent.all_waits t.pending.rows) es t.ways).ways t.ways k.ways (asks_above w (parent.all_waits t.pending.rows) es t.ways) same) m
      (λ r h t i found same. same) k (same_view k.ways)

  pub commit_above : (h : AskingRow) (o : Option Found) (k : Parent) → Kept_ k (parent.commit c h o k).parent
  commit_above h o k = parent_kept.commit_after (Kept_ k) (λ number t same. same) c h o k (same_view k.ways)
