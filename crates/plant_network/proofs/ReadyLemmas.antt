-- Each job that is ready can be solved: its member has jobs, and the request of its number is ready.
use Rattle.std.proofs.Common.{◌≡◌, ◌<◌, ℕ, zero, suc, Bool, true, false, cond, nat_eq, nat_lt, is_some, Option, Some, None, List, [], ◌∷◌, ◌++◌, length, map, arith, inl, inr, refl, sym, ◌∙◌, ap, subst}
use Rattle.std.specs.Prelude.{IfSome, filter, slice_get}
use Rattle.std.specs.Map.{lookup}
use Rattle.std.proofs.lemmas.Bool.{cases_Bool, eq-eqb, eqb-true, ne_eqb}
use Rattle.network_events.specs.plant_model.Types.{As, Peer, Outside, Inner, Held as Asked, ElementRow, NetworkParts}
use Rattle.request_table.specs.Pending.{NumbersRise}
use Rattle.request_table.proofs.KeyLemmas.{same_peer_self}
use Rattle.plant_text.specs.Names.{insert_as, parent_as, same_as}
use Rattle.plant_text.specs.Settings.{elements_of, has_adjacency, is_element, adjacencies, row_of}
use Rattle.network_events.specs.plant_model.Deeds.{element_of}
use Rattle.network_events.specs.plant_model.Element as element
use Rattle.network_events.specs.plant_model.Element.{Item}
use Rattle.network_events.specs.plant_model.Events.{has_jobs, is_ready, is_ready_asking, is_ready_row, jobs_at, jobs_of, ready_jobs}
use Rattle.network_events.specs.plant_model.Parent as parent
use Rattle.network_events.specs.plant_model.Plant.{Pin, Plant}
use Rattle.network_events.specs.plant_model.State.{Connection}
use Rattle.network_events.specs.pce_common.Membership.{is_member}
use Rattle.network_events.specs.pce_common.Owed.{count_by_asker, is_peer}
use Rattle.network_events.specs.network_links.Carried.{flow_of}
use Rattle.network_events.specs.Rooms.{is_live, is_talking}
use Rattle.network_events.proofs.LossEvents.{open_below}
use Rattle.plant_network.specs.Topologies.{Held, IsSound, whole}
use Rattle.plant_network.specs.Jobs.{CanSolve}

-- ---- of requests whose numbers rise, the ready ones are found by their numbers

module _ {T : Type 0} (ready : T → Bool) where
  -- each is the number of a request that is ready, above low
  abbrev pub AreFound : ℕ → List (ℕ × Asked T) → List ℕ → Type 0
  AreFound low rows [] = Unit {0}
  AreFound low rows (k ∷ ks) = (low < k) × ((h : Asked T) × (lookup (nat_eq k) rows ≡ Some h) × (ready h.item ≡ true)) × AreFound low rows ks

  found_behind : (low : ℕ) (x : ℕ × Asked T) (xs : List (ℕ × Asked T)) (ks : List ℕ) → low < x.0 → AreFound x.0 xs ks → AreFound low (x ∷ xs) ks
  found_behind low x xs [] less are = tt
  found_behind low x xs (k ∷ ks) less are =
      let other : nat_eq k x.0 ≡ false = ne_eqb k x.0 (λ same. omega (arith, same, are.0)) in
      (omega (arith, less, are.0), (are.1.0, rw other are.1.1, are.1.2), found_behind low x xs ks less are.2)

  pub ready_found : (low high : ℕ) (rows : List (ℕ × Asked T)) → NumbersRise low rows high → AreFound low rows (map (λ h. h.0) (filter (λ h. ready h.1.item) rows))
  ready_found low high [] rises = tt
  ready_found low high (x ∷ xs) rises = go (ready x.1.item) refl (found_behind low x xs (map (λ h. h.0) (filter (λ h. ready h.1.item) xs)) rises.0 (ready_found x.0 high xs rises.1))
    where
      go : (b : Bool) → ready x.1.item ≡ b → AreFound low (x ∷ xs) (map (λ h. h.0) (filter (λ h. ready h.1.item) xs)) →
          AreFound low (x ∷ xs) (map (λ h. h.0) (cond b (x ∷ filter (λ h. ready h.1.item) xs) (filter (λ h. ready h.1.item) xs)))
      go true is more = (rises.0, (x.1, rw (eq-eqb x.0 x.0 refl) refl, is), more)
      go false is more = more

-- ---- jobs

module _ (n : NetworkParts) (s : Plant) where
  abbrev IsJob : As × ℕ → Type 0
  IsJob p = (has_jobs n p.0 ≡ true) × (is_ready p.0 p.1 s ≡ true)

  abbrev AreJobs : List (As × ℕ) → Type 0
  AreJobs [] = Unit {0}
  AreJobs (p ∷ ps) = IsJob p × AreJobs ps

  jobs_append : (ps qs : List (As × ℕ)) → AreJobs ps → AreJobs qs → AreJobs (ps ++ qs)
  jobs_append [] qs one other = other
  jobs_append (p ∷ ps) qs one other = (one.0, jobs_append ps qs one.1 other)

  job_at : (jobs : List (As × ℕ)) (k : ℕ) (p : As × ℕ) → AreJobs jobs → slice_get jobs k ≡ Some p → IsJob p
  job_at [] k p are is = absurd (let no : None ≡ Some p = is in cc)
  job_at (x ∷ xs) zero p are is = subst IsJob (let same : Some x ≡ Some p = is in cc) are.0
  job_at (x ∷ xs) (suc k) p are is = job_at xs k p are.1 is

  -- those of an element
  jobs_below : (d : As) (low : ℕ) (ks : List ℕ) → is_element n d ≡ true → same_as d parent_as ≡ false → AreFound (λ (i : Item Pin). element.is_ready i.stage) low (s.elements d).pending.rows ks → AreJobs (jobs_at d ks)
  jobs_below d low [] known below are = tt
  jobs_below d low (k ∷ ks) known below are = (
    (
      ap (λ (b : Bool). cond b (is_some n.parent) (is_element n d)) below ∙ known,
      ap (λ (b : Bool). cond b (is_ready_asking (lookup (nat_eq k) s.parent.pending.rows)) (is_ready_row (lookup (nat_eq k) (s.elements d).pending.rows))) below
          ∙ ap is_ready_row are.1.1 ∙ are.1.2,
    ),
    jobs_below d low ks known below are.2,
  )

  -- those of the parent
  jobs_above : (low : ℕ) (ks : List ℕ) → is_some n.parent ≡ true → AreFound parent.is_ready low s.parent.pending.rows ks → AreJobs (jobs_at parent_as ks)
  jobs_above low [] has are = tt
  jobs_above low (k ∷ ks) has are = ((has, ap is_ready_asking are.1.1 ∙ are.1.2), jobs_above low ks has are.2)

-- ---- the elements of the settings

abbrev AreRowsOf : List ElementRow → List As → Type 0
AreRowsOf rows [] = Unit {0}
AreRowsOf rows (d ∷ ds) = (is_some (row_of d rows) ≡ true) × AreRowsOf rows ds

rows_behind : (r : ElementRow) (rows : List ElementRow) (ds : List As) → AreRowsOf rows ds → AreRowsOf (r ∷ rows) ds
rows_behind r rows [] are = tt
rows_behind r rows (d ∷ ds) are = (go (same_as r.own d), rows_behind r rows ds are.1)
  where
    go : (b : Bool) → is_some (cond b (Some r) (row_of d rows)) ≡ true
    go true = refl
    go false = are.0

rows_inserted : (rows : List ElementRow) (d : As) (ds : List As) → is_some (row_of d rows) ≡ true → AreRowsOf rows ds → AreRowsOf rows (insert_as d ds)
rows_inserted rows d [] has are = (has, tt)
rows_inserted rows d (a ∷ rest) has are = go (nat_lt d.0 a.0) (same_as d a) (rows_inserted rows d rest has are.1)
  where
    go : (b c : Bool) → AreRowsOf rows (insert_as d rest) → AreRowsOf rows (cond b (d ∷ a ∷ rest) (cond c (a ∷ rest) (a ∷ insert_as d rest)))
    go true c more = (has, are)
    go false true more = are
    go false false more = (are.0, more)

each_has_row : (rows : List ElementRow) → AreRowsOf rows (elements_of rows)
each_has_row [] = tt
each_has_row (r ∷ rows) =
    rows_inserted (r ∷ rows) r.own (elements_of rows) (ap (λ (b : Bool). is_some (cond b (Some r) (row_of r.own rows))) (eq-eqb r.own.0 r.own.0 refl))
    (rows_behind r rows (elements_of rows) (each_has_row rows))

-- ---- without a parent nothing is pending above

module _ (h : Held) (sound : IsSound h) where
  abbrev n : NetworkParts
  n = (whole h).network

  abbrev s : Plant
  s = (whole h).state

  no_queue : is_some n.parent ≡ false → (to : Peer) → is_live n (flow_of h.carried) parent_as to ≡ false
  no_queue none (Outside i) = go (same_as parent_as (element_of n i)) refl ((flow_of h.carried).accesses i).connection refl
    where
      go : (b : Bool) → same_as parent_as (element_of n i) ≡ b → (c : Option Connection) → ((flow_of h.carried).accesses i).connection ≡ c → cond b (is_talking c) false ≡ false
      go false at c is = refl
      go true at None is = refl
      go true at (Some x) is =
          let member : is_member n (element_of n i) ≡ true = sound.joined.peers i (omega (arith, open_below h.carried i (ap is_some is), sound.kept.of.peers_are)) in
          let same : parent_as.0 ≡ (element_of n i).0 = eqb-true parent_as.0 (element_of n i).0 at in
          let here : same_as (element_of n i) parent_as ≡ true = eq-eqb (element_of n i).0 parent_as.0 (sym same) in
          let has : is_some n.parent ≡ true = sym (ap (λ (b : Bool). cond b (is_some n.parent) (is_element n (element_of n i))) here) ∙ member in
          absurd (let no : true ≡ false = sym has ∙ none in cc)
  no_queue none (Inner b) = go (has_adjacency parent_as b (adjacencies n)) refl
    where
      go : (c : Bool) → has_adjacency parent_as b (adjacencies n) ≡ c → c ≡ false
      go false is = refl
      go true is = absurd (let no : true ≡ false = sym (sound.joined.links parent_as b is) ∙ none in cc)

  none_above : is_some n.parent ≡ false → s.parent.pending.rows ≡ []
  none_above none = go s.parent.pending.rows (λ to. sound.kept.roomy.answers.dead parent_as to (no_queue none to))
    where
      go : (rows : List parent.AskingRow) → ((to : Peer) → count_by_asker (is_peer to) rows ≡ 0) → rows ≡ []
      go [] owes = refl
      go (x ∷ xs) owes =
          let one : cond (is_peer x.1.key.peer x.1.key.peer) (suc (count_by_asker (is_peer x.1.key.peer) xs)) (count_by_asker (is_peer x.1.key.peer) xs) ≡ 0 = counts x.1.key.peer (owes x.1.key.peer) in
          absurd (let no : suc (count_by_asker (is_peer x.1.key.peer) xs) ≡ 0 = sym (ap (λ (b : Bool). cond b (suc (count_by_asker (is_peer x.1.key.peer) xs)) (count_by_asker (is_peer x.1.key.peer) xs)) (same_peer_self x.1.key.peer)) ∙ one in omega (arith, no))
        where
          counts : (to : Peer) → count_by_asker (is_peer to) (x ∷ xs) ≡ 0 → cond (is_peer to x.1.key.peer) (suc (count_by_asker (is_peer to) xs)) (count_by_asker (is_peer to) xs) ≡ 0
          counts to e = split (is_peer to x.1.key.peer) e
            where
              split : (b : Bool) → length (cond b (x ∷ filter (λ h. is_peer to h.1.key.peer) xs) (filter (λ h. is_peer to h.1.key.peer) xs)) ≡ 0 → cond b (suc (count_by_asker (is_peer to) xs)) (count_by_asker (is_peer to) xs) ≡ 0
              split true e' = e'
              split false e' = e'

  -- ---- all of them

  above : AreJobs n s (jobs_at parent_as (parent.ready_numbers s.parent.pending.rows))
  above = elim (cases_Bool (is_some n.parent)) [
    | inl has ↦ jobs_above n s 0 (parent.ready_numbers s.parent.pending.rows) has (ready_found parent.is_ready 0 s.parent.pending.given s.parent.pending.rows sound.order.parent)
    | inr none ↦ subst (λ (rows : List parent.AskingRow). AreJobs n s (jobs_at parent_as (parent.ready_numbers rows))) (sym (none_above none)) tt
  ]

  each_below : (ds : List As) → AreRowsOf n.elements ds → AreJobs n s (jobs_of s ds)
  each_below [] are = tt
  each_below (d ∷ ds) are =
      jobs_append n s (jobs_at d (element.ready_numbers (s.elements d).pending.rows)) (jobs_of s ds)
      (jobs_below n s d 0 (element.ready_numbers (s.elements d).pending.rows) are.0 (sound.below d are.0)
      (ready_found (λ (i : Item Pin). element.is_ready i.stage) 0 (s.elements d).pending.given (s.elements d).pending.rows (sound.order.elements d)))
      (each_below ds are.1)

  all_jobs : AreJobs n s (ready_jobs n s)
  all_jobs = jobs_append n s (jobs_at parent_as (parent.ready_numbers s.parent.pending.rows)) (jobs_of s (elements_of n.elements)) above (each_below (elements_of n.elements) (each_has_row n.elements))

  pub can_solve : (k : ℕ) (found : Option (As × ℕ)) → found ≡ slice_get (ready_jobs n s) k → IfSome found (λ job. CanSolve (whole h) job.0 job.1)
  can_solve k None is = tt
  can_solve k (Some p) is = let job = job_at n s (ready_jobs n s) k p all_jobs (sym is) in record { has = job.0; ready = job.1 }
