-- Whatever an element does, each of its requests that can be solved stays as it is until it ends.
use Rattle.std.proofs.Common.{◌≡◌, ◌≤◌, ℕ, Bool, true, false, List, [], ◌∷◌, refl}
use Rattle.std.proofs.Math.Nat.{le_refl}
use Rattle.plant_model.specs.Types.{Peer, Hop, Message, Class, Best, Branch}
use Rattle.request_table.specs.Pending.{Pending, opened_of, closed_of}
use Rattle.request_table.specs.Lends.{written_of}
use Rattle.path_keys.specs.Keys.{Keys, issue_of}
use Rattle.plant_model.specs.Wire.{Codec}
use Rattle.plant_model.specs.Branches.{branches_in}
use Rattle.plant_model.specs.Element.{is_ready, Stage, Waits, Ready, Item, Row, Element, ElementSettings, each, waits_for, at_stage, stays, upped, downed}
use Rattle.plant_model.specs.Taking.{item_of, take}
use Rattle.plant_model.specs.Solving.{commit, issued_all, job_found}
use Rattle.plant_laws.specs.Lasting.{can_solve}
use Rattle.plant_laws.proofs.Least.RowsKept.{found_in}
use Rattle.plant_laws.proofs.Runs.TakesKept.{take_after, commit_after}
use Rattle.plant_laws.proofs.LastingLemmas.Tables.{Becomes, still, and_then, closed, opened, filtered, written}

-- a request that waits can't be solved
not_ready : (p : Peer) (y : ℕ) (stage : Stage) → waits_for p y stage ≡ true → is_ready stage ≡ false
not_ready p y (Waits on id) waits = refl
not_ready p y (Ready branches) waits = absurd (let no : false ≡ true = waits in cc)

-- keys are issued at the moment
module _ {S : Type 0} where
  issued_before : (now : ℕ) (means : Best → S) (best : List Best) (keys : Keys S) → keys.clock ≤ now → (issued_all now means best keys).clock ≤ now
  issued_before now means [] keys before = before
  issued_before now means (b ∷ bs) keys before = issued_before now means bs (issue_of keys now (means b)) (le_refl now)

module _ {P : Type 0} {S : Type 0} where
  -- the keys stay, too
  abbrev pub Lasts : Element P S → Element P S → Type 0
  Lasts k t = Becomes can_solve k.pending t.pending × (t.keys ≡ k.keys)

  stands : (k : Element P S) → Lasts k k
  stands k = (still can_solve k.pending, refl)

  -- a change of the table alone
  changed : (k t : Element P S) (p : Pending (Item P)) → Becomes can_solve t.pending p → Lasts k t → Becomes can_solve k.pending p × (t.keys ≡ k.keys)
  changed k t p step lasts = (and_then can_solve k.pending t.pending p lasts.0 step, lasts.1)

  pub take_lasts : (c : Codec) (show : S → List Hop) (e : ElementSettings) (pin : P) (p : Peer) (class : Class) (now : ℕ) (m : Message) (k : Element P S) → Lasts k (take c show e pin p class now m k).element
  take_lasts c show e pin p class now m k =
      take_after (Lasts k) (λ number t lasts. changed k t (closed_of t.pending number) (closed can_solve number t.pending) lasts) c e pin p class show now m
      (λ none a r w is wish. record {
        ready = λ own t lasts.
            let item = item_of pin class r.flags w (own ∷ []) (Ready []) in
            changed k t (opened_of t.pending p r.id item) (opened can_solve p r.id item t.pending) lasts;
        sent = λ sequence on y t lasts.
            let item = item_of pin class r.flags w sequence (Waits on y) in
            changed k t (opened_of t.pending p r.id item) (opened can_solve p r.id item t.pending) lasts;
      })
      (λ r paths h t i below found tells lasts.
      let there = found_in p r.id t.pending.rows h found in
      let item = at_stage (Ready (branches_in c h.1.item.wanted.query.metric paths)) h.1.item in
      changed k t (written_of t.pending h.0 item) (written can_solve h item t.pending there.0 (not_ready p r.id h.1.item.stage there.1)) lasts) k (stands k)

  pub upped_lasts : (p : Peer) (k : Element P S) → Lasts k (upped p k)
  upped_lasts p k = stands k

  pub downed_lasts : (p : Peer) (k : Element P S) → Lasts k (downed p k).element
  downed_lasts p k = (filtered can_solve (stays p) k.pending, refl)

  -- an answer issues keys at the moment
  pub record Answers (now : ℕ) (k t : Element P S) : Type 0 where
    pub lasts : Becomes can_solve k.pending t.pending
    pub keys : k.keys.clock ≤ now → t.keys.clock ≤ now

  pub commit_lasts : (c : Codec) (e : ElementSettings) (h : Row P) (down : List Branch) (now : ℕ) (means : Best → S) (source_known target_known : Bool) (best : List Best) (k : Element P S) →
      Answers now k (commit c e h down now means (job_found source_known target_known best) k).element
  commit_lasts c e h down now means source_known target_known best k =
      commit_after (Answers now k) (λ number t a. record { lasts = and_then can_solve k.pending t.pending (closed_of t.pending number) a.lasts (closed can_solve number t.pending); keys = a.keys })
      c e h down now means source_known target_known best
      (λ bs t a. record { lasts = a.lasts; keys = λ before. issued_before now means bs t.keys (a.keys before) }) k (record { lasts = still can_solve k.pending; keys = λ before. before })
