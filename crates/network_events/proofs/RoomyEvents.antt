-- The room that is kept stays so through a fall, a break, and what changes no queue.
use Rattle.std.proofs.Common.{◌≡◌, ◌≤◌, ℕ, ◌+◌, true, false, List, [], ◌∷◌, ◌++◌, length, refl, ap, sym, subst, ◌∙◌, arith}
use Rattle.pce_common.specs.plant_model.Types.{As, Peer, Outside, Inner, Hop, Sent, NetworkParts}
use Rattle.plant_text.specs.Names.{same_as}
use Rattle.plant_text.specs.Settings.{elements_of}
use Rattle.pce_common.specs.plant_model.declared.output.Lost.{Lost}
use Rattle.pce_common.specs.plant_model.RealWire.{wire}
use Rattle.pce_common.specs.plant_model.State.{State}
use Rattle.pce_common.specs.plant_model.Deeds as deeds
use Rattle.pce_common.specs.plant_model.Deeds.{Going, element_of}
use Rattle.network_links.specs.Flow.{Flow}
use Rattle.network_events.specs.Accounts.{Accounts}
use Rattle.pce_common.specs.Membership.{Membership, is_member, expired, fallen, lost_at}
use Rattle.pce_common.specs.Owed.{pending_at, pending_in}
use Rattle.network_events.specs.Rooms.{is_talking}
use Rattle.network_events.specs.Roomy.{KeepsOn}
use Rattle.network_events.specs.Standing.{IsAt, here_of, Goes}
use Rattle.network_events.proofs.BreakLaws.{told}
use Rattle.network_events.proofs.RoomySteps.{pays_on}
use Rattle.network_events.proofs.RoomyDeeds.{Leaves, Closes, members_of, talks, break_says, break_sid, break_leaves, break_queues, fall_leaves, expire_leaves, spoken}
use Rattle.network_events.proofs.RoomyPays.{live_like, still_pays, fall_pays, break_pays, ends_pays}

module _ {P : Type 0} {S : Type 0} (show : S → List Hop) (n : NetworkParts) where
  -- what a deed of the model leaves, of members and traffic
  pub carried : (m : Membership P S → Membership P S) (ss : Membership P S → List Sent) (g g' : Going P S) (ms ms' : Membership P S) (f f' : Flow) →
      Leaves (m (members_of g.state)) (ss (members_of g.state)) g g' → IsAt g ms f → IsAt g' ms' f' →
      (ms' ≡ m ms) × (f'.said ≡ f.said ++ ss ms) × ((i : ℕ) → is_talking (f'.accesses i).connection ≡ is_talking (f.accesses i).connection)
  carried m ss g g' ms ms' f f' leaves is is' =
      let same : members_of g.state ≡ ms = sym (ap members_of is.state) in (
        ap members_of is'.state ∙ leaves.members ∙ ap m same,
        is'.said ∙ leaves.said ∙ ap (λ (x : List Sent). x ++ ss (members_of g.state)) (sym is.said) ∙ ap (λ (x : Membership P S). f.said ++ ss x) same,
        λ i. ap (talks i) is'.state ∙ leaves.talks i ∙ sym (ap (talks i) is.state),
      )

  -- nothing is said, and members stay as they are
  pub still_keeps : (own all : ℕ) (g g' : Going P S) (ms ms' : Membership P S) (f f' : Flow) → own ≤ all → Accounts f f' → Leaves (members_of g.state) [] g g' → IsAt g ms f → IsAt g' ms' f' → KeepsOn all n ms f → KeepsOn own n ms' f'
  still_keeps own all g g' ms ms' f f' some room leaves is is' keeps =
      let c = carried (λ x. x) (λ x. []) g g' ms ms' f f' leaves is is' in
      subst (λ (x : Membership P S). KeepsOn own n x f') (sym c.0)
      (pays_on n 0 own all ms ms f f' [] (still_pays n ms f f' room c.1 (live_like n f f' c.2) keeps.answers.dead) (omega (arith, some)) keeps)

  -- ---- a session goes down

  pub fall_keeps : (own : ℕ) (d : As) (p : Peer) (g : Going P S) (n' : NetworkParts) (ms ms' : Membership P S) (lost lost' : As → List Lost) (f f' : Flow) → is_member n d ≡ true →
      Goes (λ k. deeds.fall P S wire k show d p) (here_of n ms lost f) (here_of n' ms' lost' f') → IsAt g ms f → KeepsOn own n ms f → (ms' ≡ fallen d p ms) × KeepsOn own n ms' f'
  fall_keeps own d p g n' ms ms' lost lost' f f' member goes is keeps =
      let c = carried (fallen d p) (λ x. told d (lost_at d p x)) g (deeds.fall P S wire n show d p g) ms ms' f f' (fall_leaves show n d p g) is (goes.goes g is) in (
        c.0,
        subst (λ (x : Membership P S). KeepsOn own n x f') (sym c.0)
            (pays_on n 0 own own ms (fallen d p ms) f f' (told d (lost_at d p ms)) (fall_pays n d p ms f f' member goes.room c.1 (live_like n f f' c.2) keeps.answers.dead) (omega arith) keeps),
      )

  -- ---- a link breaks

  pub break_at : (own all : ℕ) (l u : As) (g : Going P S) (ms ms' : Membership P S) (f f' : Flow) → 2 + own ≤ all → same_as l u ≡ false → is_member n l ≡ true → is_member n u ≡ true → Accounts f f' → IsAt g ms f →
      IsAt (deeds.break_adjacency P S wire n show (record { lower = l; upper = u }) g) ms' f' → KeepsOn all n ms f → KeepsOn own n ms' f'
  break_at own all l u g ms ms' f f' some apart lower upper room is is' keeps =
      let sid = break_sid l u g in
      let c = carried (λ x. fallen u (Inner l) (fallen l (Inner u) x)) (λ x. break_says sid l u x) g (deeds.break_adjacency P S wire n show (record { lower = l; upper = u }) g) ms ms' f f' (break_leaves show n l u g) is is' in
      let queues = break_queues show n l u g apart in
      subst (λ (x : Membership P S). KeepsOn own n x f') (sym c.0)
      (pays_on n 2 own all ms (fallen u (Inner l) (fallen l (Inner u) ms)) f f' (break_says sid l u ms)
      (break_pays n l u sid ms f f' lower upper room c.1 (live_like n f f' c.2) keeps.answers.dead
      (ap (λ (s : State P S). s.queues l u) is'.state ∙ queues.0) (ap (λ (s : State P S). s.queues u l) is'.state ∙ queues.1)) some keeps)

  pub break_keeps : (own all : ℕ) (l u : As) (g : Going P S) (n' : NetworkParts) (ms ms' : Membership P S) (lost lost' : As → List Lost) (f f' : Flow) → 2 + own ≤ all → same_as l u ≡ false → is_member n l ≡ true → is_member n u ≡ true →
      Goes (λ k. deeds.break_adjacency P S wire k show (record { lower = l; upper = u })) (here_of n ms lost f) (here_of n' ms' lost' f') → IsAt g ms f → KeepsOn all n ms f → KeepsOn own n ms' f'
  break_keeps own all l u g n' ms ms' lost lost' f f' some apart lower upper goes is keeps =
      break_at own all l u g ms ms' f f' some apart lower upper goes.room is (goes.goes g is) keeps

  -- ---- the session of an outside peer is over

  pub closes_keeps : (own all i most : ℕ) (g g' : Going P S) (ms ms' : Membership P S) (f f' : Flow) → most + own ≤ all → is_member n (element_of n i) ≡ true → Accounts f f' → IsAt g ms f → IsAt g' ms' f' → Closes show n i most g g' →
      KeepsOn all n ms f → KeepsOn own n ms' f'
  closes_keeps own all i most g g' ms ms' f f' some member room is is' closes keeps =
      let e : As = element_of n i in
      let same : members_of g.state ≡ ms = sym (ap members_of is.state) in
      let members : ms' ≡ fallen e (Outside i) ms = ap members_of is'.state ∙ closes.members ∙ ap (fallen e (Outside i)) same in
      let said : f'.said ≡ f.said ++ (spoken e (Outside i) closes.words ++ told e (lost_at e (Outside i) ms)) =
      is'.said ∙ closes.said ∙ ap (λ (x : List Sent). x ++ (spoken e (Outside i) closes.words ++ told e (lost_at e (Outside i) (members_of g.state)))) (sym is.said)
      ∙ ap (λ (x : Membership P S). f.said ++ (spoken e (Outside i) closes.words ++ told e (lost_at e (Outside i) x))) same in
      subst (λ (x : Membership P S). KeepsOn own n x f') (sym members)
      (pays_on n most own all ms (fallen e (Outside i) ms) f f' (spoken e (Outside i) closes.words ++ told e (lost_at e (Outside i) ms))
      (ends_pays n i most closes.words ms f f' member room closes.few closes.short said
      (ap (talks i) is'.state ∙ closes.over) (λ j miss. ap (talks j) is'.state ∙ closes.others j miss ∙ sym (ap (talks j) is.state)) keeps.answers.dead) some keeps)

  -- ---- keys expire

  expired_pending : (now : ℕ) (ms : Membership P S) (ds : List As) → pending_at ds (expired now ms) ≡ pending_at ds ms
  expired_pending now ms [] = refl
  expired_pending now ms (d ∷ ds) = ap (λ (k : ℕ). length (ms.elements d).pending.rows + k) (expired_pending now ms ds)

  pub expire_keeps : (own now : ℕ) (g : Going P S) (n' : NetworkParts) (ms ms' : Membership P S) (lost lost' : As → List Lost) (f f' : Flow) →
      Goes (λ k. deeds.expire P S wire k show now) (here_of n ms lost f) (here_of n' ms' lost' f') → IsAt g ms f → KeepsOn own n ms f → KeepsOn own n ms' f'
  expire_keeps own now g n' ms ms' lost lost' f f' goes is keeps =
      let c = carried (expired now) (λ x. []) g (deeds.expire P S wire n show now g) ms ms' f f' (expire_leaves show n now g) is (goes.goes g is) in
      let k = pays_on n 0 own own ms ms f f' [] (still_pays n ms f f' goes.room c.1 (live_like n f f' c.2) keeps.answers.dead) (omega arith) keeps in
      let same : pending_in (elements_of n.elements) (expired now ms) ≡ pending_in (elements_of n.elements) ms = ap (λ (x : ℕ). length ms.parent.pending.rows + x) (expired_pending now ms (elements_of n.elements)) in
      subst (λ (x : Membership P S). KeepsOn own n x f') (sym c.0) (record {
        answers = record { live = λ at to live. k.answers.live at to live; dead = λ at to over. k.answers.dead at to over };
        said = record { messages = omega (arith, same, k.said.messages); bytes = omega (arith, same, k.said.bytes) };
        again = record { messages = omega (arith, same, k.again.messages); bytes = omega (arith, same, k.again.bytes) };
      })
