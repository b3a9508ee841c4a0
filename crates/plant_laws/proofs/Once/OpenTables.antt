-- The law of open requests, from the tables of a run.
use Rattle.std.proofs.Common.{◌≡◌, ◌≢◌, ℕ, Bool, true, false, cond, Option, Some, None, is_some, List, [], ◌∷◌, Contains, inl, inr, sym, subst, refl}
use Rattle.std.proofs.lemmas.Bool.{cases_Bool}
use Rattle.plant_model.specs.Types.{As, Peer, NetworkParts}
use Rattle.request_table.specs.Pending.{Pending, key_of, number_among, number_of}
use Rattle.request_table.proofs.KeyLemmas.{same_key_is}
use Rattle.plant_text.specs.Names.{same_as, parent_as}
use Rattle.plant_model.specs.Wire.{Codec}
use Rattle.plant_model.specs.Element.{Row}
use Rattle.plant_model.specs.Parent.{AskingRow}
use Rattle.plant_model.specs.Plant.{Pin, Plant}
use Rattle.plant_laws.specs.Transcript.{Transcript, loads, opened}
use Rattle.plant_laws.specs.Pending.{IsTaken}
use Rattle.plant_laws.specs.Chains.{is_pending}
use Rattle.plant_laws.specs.Runs.{InRuns}
use Rattle.plant_laws.specs.Tables.{IsTakenAbove, OpenIsPendingIn}
use Rattle.plant_laws.proofs.Runs.Queues.{same_as_is}
use Rattle.plant_laws.proofs.Runs.Seen.{seen, seen_none, seen_some}
use Rattle.plant_laws.proofs.Runs.Rows.{In, in_of, numbered, seen_in}
use Rattle.plant_laws.proofs.Runs.Inboxes.{contains}
use Rattle.plant_laws.proofs.Once.ElementSteps as lower
use Rattle.plant_laws.proofs.Once.ParentSteps as upper
use Rattle.plant_laws.proofs.Once.Opened.{Matches, IsRequest, IsUpperRequest, Holds}
use Rattle.plant_laws.proofs.Once.OpenedRuns.{run_opened}
use Rattle.plant_laws.proofs.WrittenForm.RequestsWritten.{requests_are_single}

-- what is open has a row, and what has a row is open
matched_some : {T : Type 0} {U : Type 0} (core : T → U) (Good : U → Transcript → Type 0) (t : Pending T) (p : Peer) (x : ℕ) (o : Option Transcript) (at : Transcript) → o ≡ Some at →
    Matches Good (seen core (key_of p x) t.rows) o → is_some (number_of t p x) ≡ true
matched_some core Good t p x o at is matches = go (number_of t p x) refl
  where
    go : (q : Option ℕ) → number_of t p x ≡ q → is_some q ≡ true
    go (Some number) e = refl
    go None e = absurd (subst (λ z. Matches Good None z) is (subst (λ z. Matches Good z o) (seen_none core (key_of p x) t.rows e) matches))

some_matched : {T : Type 0} {U : Type 0} (core : T → U) (Good : U → Transcript → Type 0) (t : Pending T) (p : Peer) (x : ℕ) (o : Option Transcript) → is_some (number_of t p x) ≡ true →
    Matches Good (seen core (key_of p x) t.rows) o → (at : Transcript) × (o ≡ Some at)
some_matched {T} {U} core Good t p x o is matches = go (number_of t p x) refl is
  where
    ends : (u : U) (o : Option Transcript) → Matches Good (Some u) o → (at : Transcript) × (o ≡ Some at)
    ends u None m = absurd m
    ends u (Some at) m = (at, refl)

    go : (q : Option ℕ) → number_of t p x ≡ q → is_some q ≡ true → (at : Transcript) × (o ≡ Some at)
    go None e is = absurd (let out : false ≡ true = is in cc)
    go (Some number) e is = let r = seen_some core (key_of p x) t.rows number e in ends r.0 o (subst (λ z. Matches Good z o) r.1 matches)

-- a row with what matches it
pub row_matched : {U : Type 0} (Good : U → Transcript → Type 0) (u : U) (o : Option Transcript) → Matches Good (Some u) o → (at : Transcript) × (o ≡ Some at) × Good u at
row_matched Good u None m = absurd m
row_matched Good u (Some at) m = (at, refl, m)

module _ (c : Codec) (n : NetworkParts) (ds : Transcript) (s : Plant) (held : Holds c n ds s) where
  no_row : (d : As) (h : Row Pin) → same_as d parent_as ≡ true → Contains (s.elements d).pending.rows h → ⊥
  no_row d h up i =
      in_none (s.elements parent_as).pending.rows held.nothing (subst (λ z. In h (s.elements z).pending.rows) (same_as_is d parent_as up) (in_of h (s.elements d).pending.rows i))
    where
      in_none : (rows : List (Row Pin)) → rows ≡ [] → In h rows → ⊥
      in_none [] e none = none
      in_none (row ∷ rows) e some = let out : row ∷ rows ≡ [] = e in cc

  abbrev pub Found : As → Row Pin → Type 0
  Found d h = (at : Transcript) × (opened c d h.1.key.peer h.1.key.id ds ≡ Some at) × IsRequest c n d h.1.key.peer h.1.key.id (lower.core h.1.item) at

  pub found : (d : As) (h : Row Pin) → Contains (s.elements d).pending.rows h → Found d h
  found d h i =
      elim (cases_Bool (same_as d parent_as)) [
        | inl up ↦ absurd (no_row d h up i)
        | inr low ↦
            row_matched (IsRequest c n d h.1.key.peer h.1.key.id) (lower.core h.1.item) (opened c d h.1.key.peer h.1.key.id ds)
            (subst (λ o. Matches (IsRequest c n d h.1.key.peer h.1.key.id) o (opened c d h.1.key.peer h.1.key.id ds))
            (seen_in lower.core (s.elements d).pending.rows h (held.elements d).names (in_of h (s.elements d).pending.rows i)) (held.rows d h.1.key.peer h.1.key.id low))
      ]

  found_above : (h : AskingRow) → Contains s.parent.pending.rows h → (at : Transcript) × (opened c parent_as h.1.key.peer h.1.key.id ds ≡ Some at) × IsUpperRequest c n h.1.key.peer h.1.key.id (upper.core h.1.item) at
  found_above h i =
      row_matched (IsUpperRequest c n h.1.key.peer h.1.key.id) (upper.core h.1.item) (opened c parent_as h.1.key.peer h.1.key.id ds)
      (subst (λ o. Matches (IsUpperRequest c n h.1.key.peer h.1.key.id) o (opened c parent_as h.1.key.peer h.1.key.id ds))
      (seen_in upper.core s.parent.pending.rows h held.parent.names (in_of h s.parent.pending.rows i)) (held.asking h.1.key.peer h.1.key.id))

  pub taken : (d : As) (h : Row Pin) → Contains (s.elements d).pending.rows h → IsTaken c n ds d h
  taken d h i =
      let r = found d h i in
      let g = r.2 in
      record { at = r.0; is_open = r.1; request = g.request; delivered = g.delivered; flags = g.flags'; id = g.id; wanted = g.wish'; class = g.class'; pin = g.topology }

  pub pinned : (d : As) (h : Row Pin) (i : Contains (s.elements d).pending.rows h) → h.1.item.pin.number ≡ loads d (taken d h i).at
  unfolding taken found
  pinned d h i = (found d h i).2.number

  pub taken_above : (h : AskingRow) → Contains s.parent.pending.rows h → IsTakenAbove c ds h
  taken_above h i =
      let r = found_above h i in
      let g = r.2 in
      record { at = r.0; is_open = r.1; request = g.request; delivered = g.delivered; flags = g.flags'; id = g.id; wanted = g.wish' }

  pub pending : (d : As) (p : Peer) (x : ℕ) (at : Transcript) → opened c d p x ds ≡ Some at → is_pending s d p x ≡ true
  pending d p x at is =
      elim (cases_Bool (same_as d parent_as)) [
        | inl up ↦
            rw up (matched_some upper.core (IsUpperRequest c n p x) s.parent.pending p x (opened c parent_as p x ds) at
            (subst (λ z. opened c z p x ds ≡ Some at) (same_as_is d parent_as up) is) (held.asking p x))
        | inr low ↦ rw low (matched_some lower.core (IsRequest c n d p x) (s.elements d).pending p x (opened c d p x ds) at is (held.rows d p x low))
      ]

  pub is_opened : (d : As) (p : Peer) (x : ℕ) → is_pending s d p x ≡ true → (at : Transcript) × (opened c d p x ds ≡ Some at)
  is_opened d p x there =
      elim (cases_Bool (same_as d parent_as)) [
        | inl up ↦
            subst (λ z. (at : Transcript) × (opened c z p x ds ≡ Some at)) (sym (same_as_is d parent_as up))
            (some_matched upper.core (IsUpperRequest c n p x) s.parent.pending p x (opened c parent_as p x ds) (rw up at there) (held.asking p x))
        | inr low ↦ some_matched lower.core (IsRequest c n d p x) (s.elements d).pending p x (opened c d p x ds) (rw low at there) (held.rows d p x low)
      ]

pub open_is_pending : InRuns OpenIsPendingIn
open_is_pending c codec n net es s run =
    let held = run_opened c n es s run (requests_are_single c codec n net es s run) in
    record {
      tables = held.elements;
      above = held.parent;
      limits = held.limits;
      limit_above = held.limit;
      taken = taken c n _ s held;
      pinned = pinned c n _ s held;
      taken_above = taken_above c n _ s held;
      pending = pending c n _ s held;
      «open» = is_opened c n _ s held;
    }

-- the row of a request that is pending at an element
pub pending_row : (s : Plant) (d : As) → d ≢ parent_as → (p : Peer) (x : ℕ) → is_pending s d p x ≡ true → (h : Row Pin) × Contains (s.elements d).pending.rows h × (h.1.key ≡ key_of p x)
pending_row s d real p x is = go (number_among (key_of p x) (s.elements d).pending.rows) refl (low (same_as d parent_as) refl is)
  where
    low : (b : Bool) → same_as d parent_as ≡ b → cond b (is_some (number_of s.parent.pending p x)) (is_some (number_of (s.elements d).pending p x)) ≡ true → is_some (number_of (s.elements d).pending p x) ≡ true
    low true up is' = absurd (real (same_as_is d parent_as up))
    low false down is' = is'

    go : (o : Option ℕ) → number_among (key_of p x) (s.elements d).pending.rows ≡ o → is_some o ≡ true → (h : Row Pin) × Contains (s.elements d).pending.rows h × (h.1.key ≡ key_of p x)
    go None at is' = (let clash : false ≡ true = is' in cc)
    go (Some number) at is' = (let h = numbered (key_of p x) (s.elements d).pending.rows number at in (h.0, contains h.0 (s.elements d).pending.rows h.1, sym (same_key_is (key_of p x) h.0.1.key h.3)))
