-- What a session has said, over all inputs.
use Rattle.std.proofs.Common.{◌≡◌, ◌≢◌, ℕ, ◌+◌, ◌≤◌, List, [], ◌∷◌, ◌++◌, arith, refl, sym, subst}
use Rattle.pcep_messages.specs.declared.message.Message.{Message}
use Rattle.pcep_messages.specs.declared.message.Message.TheVariants.{Open as OpenMessage, Keepalive as KeepaliveMessage, PcReq, PcRep, PcNtf, PcErr, Close as CloseMessage, Other}
use Rattle.pcep_session.specs.declared.actions.Action.{Action}
use Rattle.pcep_session.specs.declared.actions.Action.TheVariants.{Send, Up as SayUp, Down as SayDown, Pass}
use Rattle.pcep_session.specs.declared.session.Input.{Input}
use Rattle.pcep_session.specs.declared.session.Input.TheVariants.{Begin, Got, Bad, Tick as Ticked}
use Rattle.pcep_session.specs.declared.state.Phase.{Phase}
use Rattle.pcep_session.specs.declared.state.Phase.TheVariants.{Idle, OpenWait, KeepWait, Up, Down}
use Rattle.pcep_session.specs.declared.state.State.{State}
use Rattle.pcep_session.specs.Table.{SessionStep, turn_in, turn_of, new_state}
use Rattle.pcep_session.specs.Order.{after_inputs, done_over, ups, downs, passes, opens, IsOrdered, KeepsOrder}
use Rattle.pcep_session.proofs.MoveLemmas.{Move, stays, hands_on, begins, agrees, rises, falls, moves}

ups-append : (a b : List Action) → ups (a ++ b) ≡ ups a + ups b
ups-append [] b = omega arith
ups-append (SayUp ∷ a) b = omega (arith, ups-append a b)
ups-append (Send own ∷ a) b = ups-append a b
ups-append (SayDown reason ∷ a) b = ups-append a b
ups-append (Pass message ∷ a) b = ups-append a b

downs-append : (a b : List Action) → downs (a ++ b) ≡ downs a + downs b
downs-append [] b = omega arith
downs-append (SayDown reason ∷ a) b = omega (arith, downs-append a b)
downs-append (SayUp ∷ a) b = downs-append a b
downs-append (Send own ∷ a) b = downs-append a b
downs-append (Pass message ∷ a) b = downs-append a b

got_opens : (message : Message) (inputs : List Input) → opens (Got message ∷ inputs) ≡ opens (Got message ∷ []) + opens inputs
got_opens (OpenMessage body) inputs = omega arith
got_opens KeepaliveMessage inputs = omega arith
got_opens (PcReq list) inputs = omega arith
got_opens (PcRep list) inputs = omega arith
got_opens (PcNtf list) inputs = omega arith
got_opens (PcErr list) inputs = omega arith
got_opens (CloseMessage reason) inputs = omega arith
got_opens (Other kind) inputs = omega arith

opens-cons : (input : Input) (inputs : List Input) → opens (input ∷ inputs) ≡ opens (input ∷ []) + opens inputs
opens-cons Begin inputs = omega arith
opens-cons (Got message) inputs = got_opens message inputs
opens-cons Bad inputs = omega arith
opens-cons (Ticked tick) inputs = omega arith

-- how often it has said that it is up and down, and how many Opens have come, in each phase
abbrev pub Standing : Phase → ℕ → ℕ → ℕ → Type 0
Standing Idle u d o = (u ≡ 0) × (d ≡ 0)
Standing OpenWait u d o = (u ≡ 0) × (d ≡ 0)
Standing KeepWait u d o = (u ≡ 0) × (d ≡ 0) × (1 ≤ o)
Standing Up u d o = (u ≡ 1) × (d ≡ 0) × (1 ≤ o)
Standing Down u d o = (u ≤ 1) × (d ≡ 1)

-- more Opens do no harm
stands_on : (phase : Phase) (u d o v e p : ℕ) → Standing phase u d o → v ≡ u → e ≡ d → o ≤ p → Standing phase v e p
stands_on Idle u d o v e p at same_u same_d more = (omega (arith, at.0), omega (arith, at.1))
stands_on OpenWait u d o v e p at same_u same_d more = (omega (arith, at.0), omega (arith, at.1))
stands_on KeepWait u d o v e p at same_u same_d more = (omega (arith, at.0), omega (arith, at.1), omega (arith, at.2))
stands_on Up u d o v e p at same_u same_d more = (omega (arith, at.0), omega (arith, at.1), omega (arith, at.2))
stands_on Down u d o v e p at same_u same_d more = (omega (arith, at.0), omega (arith, at.1))

-- before it is down it has not said so, and at most once that it is up
not_down : (phase : Phase) (u d o : ℕ) → Standing phase u d o → phase ≢ Down → (u ≤ 1) × (d ≡ 0)
not_down Idle u d o at other = (omega (arith, at.0), at.1)
not_down OpenWait u d o at other = (omega (arith, at.0), at.1)
not_down KeepWait u d o at other = (omega (arith, at.0), at.1)
not_down Up u d o at other = (omega (arith, at.0), at.1)
not_down Down u d o at other = absurd (other refl)

at_most_once : (phase : Phase) (u d o : ℕ) → Standing phase u d o → (u ≤ 1) × (d ≤ 1)
at_most_once Idle u d o at = (omega (arith, at.0), omega (arith, at.1))
at_most_once OpenWait u d o at = (omega (arith, at.0), omega (arith, at.1))
at_most_once KeepWait u d o at = (omega (arith, at.0), omega (arith, at.1))
at_most_once Up u d o at = (omega (arith, at.0), omega (arith, at.1))
at_most_once Down u d o at = (at.0, omega (arith, at.1))

is_down : (phase : Phase) (u d o : ℕ) → Standing phase u d o → d ≡ 1 → phase ≡ Down
is_down Idle u d o at said = absurd (omega (arith, at.1))
is_down OpenWait u d o at said = absurd (omega (arith, at.1))
is_down KeepWait u d o at said = absurd (omega (arith, at.1))
is_down Up u d o at said = absurd (omega (arith, at.1))
is_down Down u d o at said = refl

moved : (from : Phase) (input : Input) (turn : SessionStep) (u d o : ℕ) → Standing from u d o → Move from input turn →
    Standing turn.next.phase (u + ups turn.actions) (d + downs turn.actions) (o + opens (input ∷ []))
moved from input turn u d o at (stays next mute) =
    rw next (stands_on from u d o (u + ups turn.actions) (d + downs turn.actions) (o + opens (input ∷ [])) at (omega (arith, mute.ups)) (omega (arith, mute.downs)) (omega arith))
moved from input turn u d o at (hands_on is next no_up no_down) =
    rw next (stands_on from u d o (u + ups turn.actions) (d + downs turn.actions) (o + opens (input ∷ [])) at (omega arith) (omega arith) (omega arith))
moved from input turn u d o at (begins is next mute) =
    let before : Standing Idle u d o = subst (λ p. Standing p u d o) is at in
    rw next (omega (arith, before.0, mute.ups), omega (arith, before.1, mute.downs))
moved from input turn u d o at (agrees is next opened mute) =
    let before : Standing OpenWait u d o = subst (λ p. Standing p u d o) is at in
    rw next (omega (arith, before.0, mute.ups), omega (arith, before.1, mute.downs), omega arith)
moved from input turn u d o at (rises is next by up no_down no_pass) =
    let before : Standing KeepWait u d o = subst (λ p. Standing p u d o) is at in
    rw next (omega (arith, before.0), omega (arith, before.1), omega (arith, before.2))
moved from input turn u d o at (falls other next no_up down no_pass) =
    let before = not_down from u d o at other in
    rw next (omega (arith, before.0), omega (arith, before.1))

stands_over : (inputs : List Input) (s : State) (u d o : ℕ) → Standing s.phase u d o →
    Standing (after_inputs s inputs).phase (u + ups (done_over s inputs)) (d + downs (done_over s inputs)) (o + opens inputs)
stands_over [] s u d o at = stands_on s.phase u d o (u + 0) (d + 0) (o + 0) at (omega arith) (omega arith) (omega arith)
stands_over (input ∷ inputs) s u d o at =
    let turn = turn_of s input in
    let rest = done_over turn.next inputs in
    let next = moved s.phase input turn u d o at (moves s input) in
    let more = stands_over inputs turn.next (u + ups turn.actions) (d + downs turn.actions) (o + opens (input ∷ [])) next in
    stands_on (after_inputs turn.next inputs).phase ((u + ups turn.actions) + ups rest) ((d + downs turn.actions) + downs rest) ((o + opens (input ∷ [])) + opens inputs)
    (u + ups (turn.actions ++ rest)) (d + downs (turn.actions ++ rest)) (o + opens (input ∷ inputs))
    more (omega (arith, ups-append turn.actions rest)) (omega (arith, downs-append turn.actions rest)) (omega (arith, opens-cons input inputs))

silent_down : (phase : Phase) (s : State) (input : Input) → phase ≡ Down → (turn_in phase s input).actions ≡ []
silent_down phase s input is = subst (λ p. (turn_in p s input).actions ≡ []) (sym is) refl

by_keepalive : (from : Phase) (input : Input) (turn : SessionStep) → Move from input turn → ups turn.actions ≡ 1 → (input ≡ Got KeepaliveMessage) × (from ≡ KeepWait)
by_keepalive from input turn (stays next mute) up = absurd (omega (arith, mute.ups))
by_keepalive from input turn (hands_on is next no_up no_down) up = absurd (omega arith)
by_keepalive from input turn (begins is next mute) up = absurd (omega (arith, mute.ups))
by_keepalive from input turn (agrees is next opened mute) up = absurd (omega (arith, mute.ups))
by_keepalive from input turn (rises is next by up_said no_down no_pass) up = (by, is)
by_keepalive from input turn (falls other next no_up down no_pass) up = absurd (omega arith)

passes_up : (from : Phase) (input : Input) (turn : SessionStep) → Move from input turn → 1 ≤ passes turn.actions → from ≡ Up
passes_up from input turn (stays next mute) some = absurd (omega (arith, mute.passes))
passes_up from input turn (hands_on is next no_up no_down) some = is
passes_up from input turn (begins is next mute) some = absurd (omega (arith, mute.passes))
passes_up from input turn (agrees is next opened mute) some = absurd (omega (arith, mute.passes))
passes_up from input turn (rises is next by up_said no_down no_pass) some = absurd (omega arith)
passes_up from input turn (falls other next no_up down no_pass) some = absurd (omega arith)

ordered_at : (start after : State) (inputs : List Input) (input : Input) → after ≡ after_inputs start inputs → Standing after.phase (ups (done_over start inputs)) (downs (done_over start inputs)) (opens inputs) →
    IsOrdered start inputs input
ordered_at start after inputs input is at =
    let u = ups (done_over start inputs) in
    let d = downs (done_over start inputs) in
    let o = opens inputs in
    let s = after_inputs start inputs in
    let stands : Standing s.phase u d o = subst (λ (t : State). Standing t.phase u d o) is at in
    let turn = turn_of s input in
    record {
      up_once = (at_most_once s.phase u d o stands).0;
      down_once = (at_most_once s.phase u d o stands).1;
      silent_after_down = λ said. silent_down s.phase s input (is_down s.phase u d o stands said);
      up_by_keepalive = λ up. (by_keepalive s.phase input turn (moves s input) up).0;
      up_after_open = λ up. (subst (λ p. Standing p u d o) (by_keepalive s.phase input turn (moves s input) up).1 stands).2;
      pass_after_up = λ some. (subst (λ p. Standing p u d o) (passes_up s.phase input turn (moves s input) some) stands).0;
      pass_before_down = λ some. (subst (λ p. Standing p u d o) (passes_up s.phase input turn (moves s input) some) stands).1;
    }

pub keeps_order : KeepsOrder
keeps_order offer now inputs input =
    let start = new_state offer now in
    let over = stands_over inputs start 0 0 0 (refl, refl) in
    ordered_at start (after_inputs start inputs) inputs input refl
    (stands_on (after_inputs start inputs).phase (0 + ups (done_over start inputs)) (0 + downs (done_over start inputs)) (0 + opens inputs)
    (ups (done_over start inputs)) (downs (done_over start inputs)) (opens inputs) over (omega arith) (omega arith) (omega arith))
