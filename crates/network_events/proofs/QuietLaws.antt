-- A tick at which a session has nothing to say or to do changes that session alone, and one at which it has some is left for later.
use Rattle.std.proofs.Common.{◌≡◌, ℕ, Bool, true, false, cond, Option, Some, None, List, [], ◌∷◌, refl, ap, sym, subst, ◌∙◌}
use Rattle.std.specs.Option.{option_map}
use Rattle.pce_common.specs.plant_model.Types.{As, Peer, Outside, Inner, Tick, Hop, Action, State as Session, NetworkParts}
use Rattle.pcep_session.specs.declared.session.Input.TheVariants as input
use Rattle.pcep_session.specs.Quiet.{is_nothing, is_quiet, after_quiet}
use Rattle.pcep_session.specs.Table.{turn_of}
use Rattle.pce_common.specs.plant_model.declared.output.Lost.{Lost}
use Rattle.pce_common.specs.plant_model.State.{Connection, Access}
use Rattle.pce_common.specs.plant_model.Deeds.{on_connection, with_session}
use Rattle.network_links.specs.QuietSides.{is_quiet_peer, ticked_quietly}
use Rattle.network_links.specs.Quiet.{IsReached, is_quiet_at, ticked_at}
use Rattle.network_links.specs.Flow.{Flow, change_access, set_access, set_session}
use Rattle.network_links.proofs.PeerLemmas.{number_same}
use Rattle.network_links.proofs.RowLemmas.{pair_same}
use Rattle.pce_common.specs.Membership.{Membership}
use Rattle.network_events.specs.Standing.{here_of, Goes}
use Rattle.network_events.proofs.GoLaws.{goes_same}
use Rattle.network_events.specs.Peers.{IsEnd, input_at}
use Rattle.network_events.proofs.InputLaws.{input_closed, input_stays}

nothing_is : (as' : List Action) → is_nothing as' ≡ true → [] ≡ as'
nothing_is [] e = refl
nothing_is (a ∷ as') e = absurd (let clash : false ≡ true = e in cc)

-- a connection that is this one changes alike
change_like : (g h : Connection → Connection) (i : ℕ) (f : Flow) (o : Option Connection) → (f.accesses i).connection ≡ o →
    on_connection g (record { opened = (f.accesses i).opened; connection = o }) ≡ on_connection h (record { opened = (f.accesses i).opened; connection = o }) → change_access i g f ≡ change_access i h f
change_like g h i f o is same =
    ap (λ (p : Option Connection). set_access i (on_connection g (record { opened = (f.accesses i).opened; connection = p })) f) is
    ∙ ap (λ (a : Access). set_access i a f) same
    ∙ sym (ap (λ (p : Option Connection). set_access i (on_connection h (record { opened = (f.accesses i).opened; connection = p })) f) is)

module _ (now : Tick) where
  quiet_session : (s : Session) → is_quiet now s ≡ true → after_quiet now s ≡ (turn_of s (input.Tick now)).next
  quiet_session s quiet = ap (λ (b : Bool). cond b (turn_of s (input.Tick now)).next s) quiet

  loud_session : (s : Session) → is_quiet now s ≡ false → after_quiet now s ≡ s
  loud_session s loud = ap (λ (b : Bool). cond b (turn_of s (input.Tick now)).next s) loud

  loud_access : (opened : ℕ) (o : Option Connection) → is_quiet_peer now o ≡ false → on_connection (ticked_quietly now) (record { opened = opened; connection = o }) ≡ record { opened = opened; connection = o }
  loud_access opened None loud = refl
  loud_access opened (Some x) loud = ap (λ (s : Session). let a : Access = record { opened = opened; connection = Some (with_session s x) } in a) (loud_session x.session loud)

  -- nothing changes where the session of a peer has something to say or to do
  loud_peer : (i : ℕ) (f f1 : Flow) → is_quiet_peer now (f.accesses i).connection ≡ false → f1 ≡ change_access i (ticked_quietly now) f → f1 ≡ f
  loud_peer i f f1 loud is =
      is ∙ ap (λ (accesses : ℕ → Access). let g : Flow = record f { accesses = accesses } in g)
      (number_same i (on_connection (ticked_quietly now) (f.accesses i)) f.accesses (loud_access (f.accesses i).opened (f.accesses i).connection loud))

  -- the same at an end of a link
  loud_end : (at b : As) (f f1 : Flow) → is_quiet now (f.sessions at b) ≡ false → f1 ≡ set_session at b (after_quiet now (f.sessions at b)) f → f1 ≡ f
  loud_end at b f f1 loud is =
      is ∙ ap (λ (sessions : As → As → Session). let g : Flow = record f { sessions = sessions } in g)
      (pair_same at b (after_quiet now (f.sessions at b)) f.sessions (loud_session (f.sessions at b) loud))

  -- of any peer
  pub loud_at : (at : As) (to : Peer) (f f1 : Flow) → is_quiet_at now at to f ≡ false → f1 ≡ ticked_at now at to f → f1 ≡ f
  loud_at at (Outside i) f f1 loud is = loud_peer i f f1 loud is
  loud_at at (Inner b) f f1 loud is = loud_end at b f f1 loud is

  module _ {P : Type 0} {S : Type 0} (show : S → List Hop) (n : NetworkParts) (ms : Membership P S) (lost : As → List Lost) where
    closed_peer : (at : As) (i : ℕ) (f f1 : Flow) → (f.accesses i).connection ≡ None → f1 ≡ change_access i (ticked_quietly now) f → Goes (λ k. input_at P S k show at (Outside i) (input.Tick now)) (here_of n ms lost f) (here_of n ms lost f1)
    closed_peer at i f f1 none is =
        let same : f1 ≡ f = loud_none is in
        subst (λ (g : Flow). Goes (λ k. input_at P S k show at (Outside i) (input.Tick now)) (here_of n ms lost f) (here_of n ms lost g)) (sym same)
        (input_closed show n ms lost (input.Tick now) f at (Outside i) (ap (option_map (λ (k : Connection). k.session)) none))
      where
        loud_none : f1 ≡ change_access i (ticked_quietly now) f → f1 ≡ f
        loud_none is' =
            is' ∙ ap (λ (accesses : ℕ → Access). let g : Flow = record f { accesses = accesses } in g)
            (number_same i (on_connection (ticked_quietly now) (f.accesses i)) f.accesses
            (ap (λ (o : Option Connection). on_connection (ticked_quietly now) (record { opened = (f.accesses i).opened; connection = o })) none
            ∙ ap (λ (o : Option Connection). let a : Access = record { opened = (f.accesses i).opened; connection = o } in a) (sym none)))

    open_peer : (at : As) (i : ℕ) (f f1 : Flow) (x : Connection) → IsEnd n f at (Outside i) → (f.accesses i).connection ≡ Some x → is_quiet now x.session ≡ true → f1 ≡ change_access i (ticked_quietly now) f →
        Goes (λ k. input_at P S k show at (Outside i) (input.Tick now)) (here_of n ms lost f) (here_of n ms lost f1)
    open_peer at i f f1 x end some quiet is =
        input_stays show n ms lost (input.Tick now) f at (Outside i) x.session (after_quiet now x.session) true [] f1 (here_of n ms lost f1) end
        (ap (option_map (λ (k : Connection). k.session)) some) (nothing_is (turn_of x.session (input.Tick now)).actions quiet) (quiet_session x.session quiet) refl refl
        (is ∙ change_like (ticked_quietly now) (with_session (after_quiet now x.session)) i f (Some x) some refl)
        (goes_same (here_of n ms lost f1))

    quiet_peer : (at : As) (i : ℕ) (f f1 : Flow) → IsEnd n f at (Outside i) → is_quiet_peer now (f.accesses i).connection ≡ true → f1 ≡ change_access i (ticked_quietly now) f →
        Goes (λ k. input_at P S k show at (Outside i) (input.Tick now)) (here_of n ms lost f) (here_of n ms lost f1)
    quiet_peer at i f f1 end quiet is = go (f.accesses i).connection refl
      where
        go : (o : Option Connection) → (f.accesses i).connection ≡ o → Goes (λ k. input_at P S k show at (Outside i) (input.Tick now)) (here_of n ms lost f) (here_of n ms lost f1)
        go None none = closed_peer at i f f1 none is
        go (Some x) some = open_peer at i f f1 x end some (sym (ap (is_quiet_peer now) some) ∙ quiet) is

    -- a tick at which a session has nothing to say or to do
    pub quiet_at : (at : As) (to : Peer) (f f1 : Flow) → IsEnd n f at to → is_quiet_at now at to f ≡ true → f1 ≡ ticked_at now at to f → Goes (λ k. input_at P S k show at to (input.Tick now)) (here_of n ms lost f) (here_of n ms lost f1)
    quiet_at at (Outside i) f f1 end quiet is = quiet_peer at i f f1 end quiet is
    quiet_at at (Inner b) f f1 end quiet is =
        input_stays show n ms lost (input.Tick now) f at (Inner b) (f.sessions at b) (after_quiet now (f.sessions at b)) true [] f1 (here_of n ms lost f1) end
        refl (nothing_is (turn_of (f.sessions at b) (input.Tick now)).actions quiet) (quiet_session (f.sessions at b) quiet) refl refl is (goes_same (here_of n ms lost f1))

-- an end is there
pub reached : (n : NetworkParts) (f : Flow) (at : As) (to : Peer) → IsEnd n f at to → IsReached at to f
reached n f at (Outside i) end = tt
reached n f at (Inner b) end = end.linked
