-- What a change of a table or of ways leaves of those that can be reached.
use Rattle.std.proofs.Common.{◌≡◌, ◌∙◌, ℕ, Bool, true, false, cond, Option, Some, List, [], ◌∷◌, ◌++◌, nat_eq, refl, sym, ap, subst}
use Rattle.std.specs.Prelude.{filter}
use Rattle.std.specs.Map.{remove_entry}
use Rattle.plant_laws.specs.plant_model.Types.{As, Peer, Outside, Inner, Held}
use Rattle.request_table.specs.Pending.{same_peer}
use Rattle.request_table.specs.Lends.{with_item}
use Rattle.plant_laws.specs.plant_model.declared.output.Output.{Output}
use Rattle.plant_laws.specs.plant_model.Element.{Way, way_to, with_last, with_up}
use Rattle.plant_laws.specs.plant_model.Parent as parent
use Rattle.plant_laws.proofs.Numbering.SentOn.{same_peer_is}
use Rattle.run_laws.specs.Settling.{Reaches, AllReach, KeepsTo, is_ordinary}

-- ---- tables

module _ {T : Type 0} (Up : As → Type 0) where
  pub all_append : (rows : List (ℕ × Held T)) (h : ℕ × Held T) → AllReach Up rows → Reaches Up h.1.key.peer → AllReach Up (rows ++ h ∷ [])
  all_append [] h all one = (one, tt)
  all_append (x ∷ xs) h all one = (all.0, all_append xs h all.1 one)

  pub all_removed : (n : ℕ) (rows : List (ℕ × Held T)) → AllReach Up rows → AllReach Up (remove_entry (nat_eq n) rows)
  all_removed n [] all = tt
  all_removed n (x ∷ xs) all = go (nat_eq n x.0) (all_removed n xs all.1)
    where
      go : (b : Bool) → AllReach Up (remove_entry (nat_eq n) xs) → AllReach Up (cond b xs (x ∷ remove_entry (nat_eq n) xs))
      go true rest = all.1
      go false rest = (all.0, rest)

  pub all_written : (n : ℕ) (i : T) (rows : List (ℕ × Held T)) → AllReach Up rows → AllReach Up (with_item n i rows)
  all_written n i [] all = tt
  all_written n i (x ∷ xs) all = go (nat_eq n x.0) (all_written n i xs all.1)
    where
      go : (b : Bool) → AllReach Up (with_item n i xs) → AllReach Up (cond b ((x.0, record x.1 { item = i }) ∷ xs) (x ∷ with_item n i xs))
      go true rest = (all.0, all.1)
      go false rest = (all.0, rest)

-- fewer rows, and others that can be reached
module _ {T : Type 0} (Up Other : As → Type 0) (test : ℕ × Held T → Bool) (on : (h : ℕ × Held T) → test h ≡ true → Reaches Up h.1.key.peer → Reaches Other h.1.key.peer) where
  pub all_filtered : (rows : List (ℕ × Held T)) → AllReach Up rows → AllReach Other (filter test rows)
  all_filtered [] all = tt
  all_filtered (x ∷ xs) all = go (test x) refl (all_filtered xs all.1)
    where
      go : (b : Bool) → test x ≡ b → AllReach Other (filter test xs) → AllReach Other (cond b (x ∷ filter test xs) (filter test xs))
      go true is rest = (on x is all.0, rest)
      go false is rest = rest

module _ (Up Other : As → Type 0) (on : (b : As) → Up b → Other b) where
  pub reaches_on : (p : Peer) → Reaches Up p → Reaches Other p
  reaches_on (Outside i) h = tt
  reaches_on (Inner b) h = on b h

module _ {T : Type 0} (Up Other : As → Type 0) (on : (b : As) → Up b → Other b) where
  all_on : (rows : List (ℕ × Held T)) → AllReach Up rows → AllReach Other rows
  all_on [] all = tt
  all_on (x ∷ xs) all = (reaches_on Up Other on x.1.key.peer all.0, all_on xs all.1)

  pub keeps_on : (rows : List (ℕ × Held T)) (ways : List Way) → KeepsTo Up rows ways → KeepsTo Other rows ways
  keeps_on rows ways keeps = record { asked = all_on rows keeps.asked; asks = λ b up. on b (keeps.asks b up) }

-- ---- ways

up_at : (b : Bool) (w : Way) (o p : Option Way) → parent.is_up o ≡ parent.is_up p → (v : Way) → v.up ≡ w.up → parent.is_up (cond b (Some v) o) ≡ parent.is_up (cond b (Some w) p)
up_at true w o p rest v same = same
up_at false w o p rest v same = rest

pub last_up : (q p : Peer) (y : ℕ) (ways : List Way) → parent.is_up (way_to q (with_last p y ways)) ≡ parent.is_up (way_to q ways)
last_up q p y [] = refl
last_up q p y (w ∷ ws) = go (last_up q p y ws) (same_peer w.peer p)
  where
    go : parent.is_up (way_to q (with_last p y ws)) ≡ parent.is_up (way_to q ws) → (b : Bool) → parent.is_up (way_to q (cond b (record w { last_id = y } ∷ ws) (w ∷ with_last p y ws))) ≡ parent.is_up (way_to q (w ∷ ws))
    go more true = up_at (same_peer w.peer q) w (way_to q ws) (way_to q ws) refl (record w { last_id = y }) refl
    go more false = up_at (same_peer w.peer q) w (way_to q (with_last p y ws)) (way_to q ws) more w refl

pub never : (b : Bool) → b ≡ false → b ≡ true → ⊥
never b is other = cc

same_peer_flips : (p q : Peer) → same_peer p q ≡ false → same_peer q p ≡ false
same_peer_flips p q miss = go (same_peer q p) refl
  where
    go : (b : Bool) → same_peer q p ≡ b → same_peer q p ≡ false
    go false is = is
    go true is =
        let same : q ≡ p = same_peer_is q p is in
        absurd (never (same_peer p p) (subst (λ (z : Peer). same_peer p z ≡ false) same miss) (subst (λ (z : Peer). same_peer z p ≡ true) same is))

-- another peer's way stays, whatever becomes of this one
pub other_up : (p q : Peer) (v : Bool) (ways : List Way) → same_peer p q ≡ false → parent.is_up (way_to q (with_up p v ways)) ≡ parent.is_up (way_to q ways)
other_up p q v [] apart = refl
other_up p q v (w ∷ ws) apart = go (other_up p q v ws apart) (same_peer w.peer p) refl
  where
    go : parent.is_up (way_to q (with_up p v ws)) ≡ parent.is_up (way_to q ws) → (b : Bool) → same_peer w.peer p ≡ b → parent.is_up (way_to q (cond b (record w { up = v } ∷ ws) (w ∷ with_up p v ws))) ≡ parent.is_up (way_to q (w ∷ ws))
    go more true hit =
        let miss : same_peer w.peer q ≡ false = ap (λ (z : Peer). same_peer z q) (same_peer_is w.peer p hit) ∙ apart in
        rw miss refl
    go more false miss = up_at (same_peer w.peer q) w (way_to q (with_up p v ws)) (way_to q ws) more w refl

pub way_down : (p : Peer) (ways : List Way) → parent.is_up (way_to p (with_up p false ways)) ≡ false
way_down p [] = refl
way_down p (w ∷ ws) = go (way_down p ws) (same_peer w.peer p) refl
  where
    go : parent.is_up (way_to p (with_up p false ws)) ≡ false → (b : Bool) → same_peer w.peer p ≡ b → parent.is_up (way_to p (cond b (record w { up = false } ∷ ws) (w ∷ with_up p false ws))) ≡ false
    go more true hit = rw hit refl
    go more false miss = rw miss more

-- ---- a session comes up or goes down

module _ {T : Type 0} (Up : As → Type 0) (p : Peer) (rows : List (ℕ × Held T)) (ways : List Way) (keeps : KeepsTo Up rows ways) where
  pub upped_keeps : Reaches Up p → KeepsTo Up rows (with_up p true ways)
  upped_keeps reached = record { asked = keeps.asked; asks = λ b up. go b (same_peer p (Inner b)) refl up }
    where
      go : (b : As) (hit : Bool) → same_peer p (Inner b) ≡ hit → parent.is_up (way_to (Inner b) (with_up p true ways)) ≡ true → Up b
      go b true is up = subst (Reaches Up) (same_peer_is p (Inner b) is) reached
      go b false is up = keeps.asks b (sym (other_up p (Inner b) true ways is) ∙ up)

  module _ (Other : As → Type 0) (on : (b : As) → same_peer p (Inner b) ≡ false → Up b → Other b) where
    pub downed_keeps : (test : ℕ × Held T → Bool) → ((h : ℕ × Held T) → test h ≡ true → same_peer h.1.key.peer p ≡ false) → KeepsTo Other (filter test rows) (with_up p false ways)
    downed_keeps test apart = record {
      asked = all_filtered Up Other test (λ h is reached. move h.1.key.peer (apart h is) reached) rows keeps.asked;
      asks = λ b up. go b (same_peer p (Inner b)) refl up;
    }
      where
        move : (q : Peer) → same_peer q p ≡ false → Reaches Up q → Reaches Other q
        move (Outside i) miss reached = tt
        move (Inner b) miss reached = on b (same_peer_flips (Inner b) p miss) reached

        go : (b : As) (hit : Bool) → same_peer p (Inner b) ≡ hit → parent.is_up (way_to (Inner b) (with_up p false ways)) ≡ true → Other b
        go b true is up =
            let same : p ≡ Inner b = same_peer_is p (Inner b) is in
            absurd (never _ (subst (λ (q : Peer). parent.is_up (way_to q (with_up p false ways)) ≡ false) same (way_down p ways)) up)
        go b false is up = on b is (keeps.asks b (sym (other_up p (Inner b) false ways is) ∙ up))

-- ---- what is sent

-- to whom a message is sent can be reached, by an ordinary message
module _ (Up : As → Type 0) where
  abbrev pub IsSound : Output → Type 0
  IsSound o = Reaches Up o.to × (is_ordinary o.message ≡ true)

  abbrev pub AreSound : List Output → Type 0
  AreSound [] = Unit {0}
  AreSound (o ∷ os) = IsSound o × AreSound os

  pub sound_append : (xs ys : List Output) → AreSound xs → AreSound ys → AreSound (xs ++ ys)
  sound_append [] ys h k = k
  sound_append (x ∷ xs) ys h k = (h.0, sound_append xs ys h.1 k)
