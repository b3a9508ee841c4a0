-- Events as the model has them, from the deeds that they are.
use Rattle.std.proofs.Common.{◌≡◌, ℕ, ◌==◌, is_some, Bool, true, false, cond, List, [], ◌∷◌, Option, Some, None, Ok, Err, refl, ap, subst, ◌∙◌, inl, inr}
use Rattle.std.proofs.lemmas.Bool.{cases_Bool, eqb-true}
use Rattle.pce_common.specs.plant_model.Types.{As, Peer, Outside, Inner, Hop, NetworkParts}
use Rattle.plant_text.specs.Settings.{adjacency, is_linked}
use Rattle.pce_common.specs.plant_model.declared.outcome.Outcome.TheVariants.{Done}
use Rattle.pce_common.specs.plant_model.declared.outcome.Refused.TheVariants.{NoSuchPeer}
use Rattle.pce_common.specs.plant_model.declared.output.Lost.{Lost}
use Rattle.pce_common.specs.plant_model.RealWire.{wire}
use Rattle.pce_common.specs.plant_model.State.{State, Connection, said}
use Rattle.pce_common.specs.plant_model.Deeds as deeds
use Rattle.pce_common.specs.plant_model.Deeds.{element_of, on_connection, with_more}
use Rattle.pce_common.specs.plant_model.Element.{ticked}
use Rattle.pce_common.specs.plant_model.Wire.{Bytes}
use Rattle.pce_common.specs.plant_model.Events as events
use Rattle.network_links.specs.Flow.{Flow, ClearsSaid, put_flow, shut}
use Rattle.network_events.specs.Happening.{IsDone}
use Rattle.pce_common.specs.Membership.{Membership, expired}
use Rattle.network_events.specs.Standing.{IsAt, here_of, Goes, state_of}
use Rattle.network_events.specs.Telling.{Tells, tell_all, lost_bytes}
use Rattle.network_events.proofs.GoLaws.{accounts_same, said_none}

module _ {P : Type 0} {S : Type 0} (show : S → List Hop) (n : NetworkParts) where
  -- an event begins, once what was said is cleared
  pub begins_at : (ms : Membership P S) (f f1 : Flow) → ClearsSaid f f1 → IsAt (events.idle P S wire n show (state_of ms f)) ms f1
  begins_at ms f f1 clears = record { state = ap (state_of ms) clears.kept; said = ap (λ (x : Flow). x.said) clears.kept }

  pub break_none : (a b : As) (ms : Membership P S) (f : Flow) → is_linked n a b ≡ false → IsDone (events.break P S wire n show a b (state_of ms f)) (Err NoSuchPeer) ms f
  break_none a b ms f miss = rw miss (record { answer = refl; state = refl; said = tt })

  pub carry_none : (a b : As) (ms : Membership P S) (f : Flow) → is_linked n a b ≡ false → IsDone (events.carry P S wire n show a b (state_of ms f)) (Err NoSuchPeer) ms f
  carry_none a b ms f miss = rw miss (record { answer = refl; state = refl; said = tt })

  pub break_done : (a b : As) (m : NetworkParts) (ms ms' : Membership P S) (lost lost' : As → List Lost) (f f1 f' : Flow) → is_linked n a b ≡ true → ClearsSaid f f1 →
      Goes (λ k. deeds.break_adjacency P S wire k show (adjacency a b)) (here_of n ms lost f1) (here_of m ms' lost' f') → IsDone (events.break P S wire n show a b (state_of ms f)) (Ok Done) ms' f'
  break_done a b m ms ms' lost lost' f f1 f' hit clears goes =
      let at = goes.goes (events.idle P S wire n show (state_of ms f)) (begins_at ms f f1 clears) in
      rw hit (record { answer = refl; state = at.state; said = at.said })

-- ---- a shut

opened_put : (i : ℕ) (at : As) (to : Peer) (m : Bytes) (f : Flow) → ((put_flow at to m f).accesses i).opened ≡ (f.accesses i).opened
opened_put i at (Inner b) m f = refl
opened_put i at (Outside j) m f = elim (cases_Bool (j == i)) [
  | inl hit ↦
      let same : j ≡ i = eqb-true j i hit in
      ap (λ (b : Bool). (cond b (on_connection (with_more m) (f.accesses j)) (f.accesses i)).opened) hit ∙ ap (λ (k : ℕ). (f.accesses k).opened) same
  | inr miss ↦ ap (λ (b : Bool). (cond b (on_connection (with_more m) (f.accesses j)) (f.accesses i)).opened) miss
]

opened_told : (i : ℕ) (at : As) (ls : List Lost) (f : Flow) → ((tell_all at ls f).accesses i).opened ≡ (f.accesses i).opened
opened_told i at [] f = refl
opened_told i at (l ∷ ls) f = opened_told i at ls (put_flow at l.to (lost_bytes l) f) ∙ opened_put i at l.to (lost_bytes l) f

module _ {P : Type 0} {S : Type 0} (show : S → List Hop) (n : NetworkParts) where
  pub shut_none : (i : ℕ) (ms : Membership P S) (f : Flow) → is_some (f.accesses i).connection ≡ false → IsDone (events.shut P S wire n show i (state_of ms f)) (Err NoSuchPeer) ms f
  shut_none i ms f miss = go (f.accesses i).connection miss
    where
      go : (c : Option Connection) → is_some c ≡ false → IsDone (events.shut_open P S wire n show i (state_of ms f) c) (Err NoSuchPeer) ms f
      go None e = record { answer = refl; state = refl; said = tt }
      go (Some x) e = cc

  pub shut_done : (i : ℕ) (at : As) (m : NetworkParts) (ms ms' : Membership P S) (lost lost' : As → List Lost) (ls : List Lost) (f f1 f2 f3 : Flow) → is_some (f.accesses i).connection ≡ true → at ≡ element_of n i → ClearsSaid f f1 →
      Tells at ls f1 f2 → Goes (λ k. deeds.fall P S wire k show at (Outside i)) (here_of n ms lost f1) (here_of m ms' lost' f2) → f3 ≡ shut i f2 → IsDone (events.shut P S wire n show i (state_of ms f)) (Ok Done) ms' f3
  shut_done i at m ms ms' lost lost' ls f f1 f2 f3 hit at_is clears tells goes is = go (f.accesses i).connection hit
    where
      opened_is : (f2.accesses i).opened ≡ (f.accesses i).opened
      opened_is = ap (λ (x : Flow). (x.accesses i).opened) tells.kept ∙ opened_told i at ls f1 ∙ ap (λ (x : Flow). (x.accesses i).opened) clears.kept

      done : IsAt (deeds.fall P S wire n show (element_of n i) (Outside i) (events.idle P S wire n show (state_of ms f))) ms' f2
      done = subst (λ (a : As). IsAt (deeds.fall P S wire n show a (Outside i) (events.idle P S wire n show (state_of ms f))) ms' f2) at_is
          (goes.goes (events.idle P S wire n show (state_of ms f)) (begins_at show n ms f f1 clears))

      go : (c : Option Connection) → is_some c ≡ true → IsDone (events.shut_open P S wire n show i (state_of ms f) c) (Ok Done) ms' f3
      go None e = cc
      go (Some x) e = record {
        answer = refl;
        state = ap (state_of ms') is ∙ ap (λ (k : ℕ). events.set_access P S wire n show i (record { opened = k; connection = None }) (state_of ms' f2)) opened_is
            ∙ ap (events.set_access P S wire n show i (record { opened = (f.accesses i).opened; connection = None })) done.state;
        said = ap (λ (y : Flow). y.said) is ∙ done.said;
      }

  -- keys expire
  pub goes_expire : (now : ℕ) (n' : NetworkParts) (ms ms' : Membership P S) (lost lost' : As → List Lost) (f : Flow) → n' ≡ n → ms' ≡ expired now ms → lost' ≡ lost →
      Goes (λ k. deeds.expire P S wire k show now) (here_of n ms lost f) (here_of n' ms' lost' f)
  goes_expire now n' ms ms' lost lost' f same_n same_ms same_lost = record {
    network = same_n;
    lost = λ none a. ap (λ (l : As → List Lost). l a) same_lost ∙ none a;
    adjacencies = refl;
    peers = refl;
    room = accounts_same f;
    goes = λ g is. record {
      state = ap (λ (x : Membership P S). state_of x f) same_ms ∙ ap (λ (s : State P S). record s { elements = λ d. ticked now (s.elements d) }) is.state;
      said = is.said ∙ said_none (said wire g.deeds) [] refl;
    };
  }
