-- Each step of a link keeps links calm: ticks, messages that are carried, and a break.
use Rattle.std.proofs.Common.{◌≡◌, ◌⊎◌, ◌∙◌, ◌<◌, ◌+◌, ◌%◌, ℕ, Bool, true, false, cond, List, [], ◌∷◌, ◌++◌, Option, Some, None, inl, inr, refl, sym, ap, subst, arith}
use Rattle.std.proofs.lemmas.Bool.{cases_Bool}
use Rattle.plant_laws.specs.plant_model.Types.{As, Tick, Message, Action, Phase, State as Session, NetworkParts, Inner}
use Rattle.disclosure.specs.Shown.{open_of}
use Rattle.pcep_messages.specs.declared.message.Message.TheVariants as messages
use Rattle.pcep_session.specs.declared.session.Input.TheVariants as input
use Rattle.pcep_session.specs.declared.actions.Action.TheVariants as action
use Rattle.pcep_session.specs.declared.actions.Own.TheVariants as own
use Rattle.pcep_session.specs.declared.state.Phase.TheVariants as phase
use Rattle.pcep_session.specs.Table.{new_state, turn_of}
use Rattle.request_table.specs.Pending.{same_peer}
use Rattle.plant_text.specs.Names.{same_as}
use Rattle.plant_text.specs.Settings.{Adjacency, is_linked}
use Rattle.plant_laws.specs.plant_model.Names.{is_empty, set_pair}
use Rattle.plant_laws.specs.plant_model.Wire.{Bytes, Codec}
use Rattle.plant_laws.specs.plant_model.Laws.{IsCodec}
use Rattle.plant_laws.specs.plant_model.State.{Pops}
use Rattle.plant_laws.specs.plant_model.Deeds.{own_message, our_offer, is_due, is_tick, any_fall, read_as, put_to, with_inner, fall, say, clear, inner_acts, inner_input, begin_adjacency, break_adjacency, tick_adjacencies}
use Rattle.plant_laws.specs.plant_model.Plant.{Pin, Segment}
use Rattle.plant_laws.proofs.WrittenForm.InForm.{own_written}
use Rattle.run_laws.specs.Settling.{IsOpen, IsKeepalive, IsOrdinary, Holds, TablesReach, IsUp}
use Rattle.run_laws.proofs.SettlingLemmas.Pairs.{AllApart, both, both_are, both_flips, first_apart, second_apart, same_back, set_here, set_other, set_all}
use Rattle.run_laws.proofs.SettlingLemmas.Turns.{ticks, Hears, opens, rises, keeps, passes, opened_sends, risen_holds, up_reads}
use Rattle.run_laws.proofs.SettlingLemmas.Calm.{Core, Move, tables_on, Calm, QueuesCalm, Again, Kept, more_queues, give_kept, rise_kept, fall_again, fall_sessions, fall_tables, fall_kept}

module _ (c : Codec) (codec : IsCodec c) (n : NetworkParts) where
  -- ---- what sessions say is read again

  pub open_again : (sid : ℕ) → sid < 256 → IsOpen c (c.text (own_message (own.Open (our_offer sid))))
  open_again sid fits = (our_offer sid, codec.texts.reads (own_message (own.Open (our_offer sid))) (own_written (own.Open (our_offer sid)) (omega arith, omega arith, fits)))

  pub keepalive_again : IsKeepalive c (c.text (own_message own.Keepalive))
  keepalive_again = codec.texts.reads messages.Keepalive (own_written own.Keepalive tt)

  keepalive_ordinary : IsOrdinary c (c.text (own_message own.Keepalive))
  keepalive_ordinary = (messages.Keepalive, keepalive_again, refl)

  -- ---- a change of one link

  module _ (a b : As) (s t : Core) (others : (a' b' : As) → both a b a' b' ≡ false → both b a a' b' ≡ false → ((t.sessions a' b').phase ≡ (s.sessions a' b').phase) × (t.queues a' b' ≡ s.queues a' b')) where
    pub link_queues : Holds c (t.sessions a b).phase (t.sessions b a).phase (t.queues a b) → Holds c (t.sessions b a).phase (t.sessions a b).phase (t.queues b a) → QueuesCalm c n s → QueuesCalm c n t
    link_queues here back calm a' b' linked = elim (cases_Bool (both a b a' b')) [
      | inl hit ↦
          let same = both_are a b a' b' hit in
          subst (λ (z : As). Holds c (t.sessions z b').phase (t.sessions b' z).phase (t.queues z b')) same.0
          (subst (λ (z : As). Holds c (t.sessions a z).phase (t.sessions z a).phase (t.queues a z)) same.1 here)
      | inr miss ↦
          elim (cases_Bool (both b a a' b')) [
            | inl hit ↦
                let same = both_are b a a' b' hit in
                subst (λ (z : As). Holds c (t.sessions z b').phase (t.sessions b' z).phase (t.queues z b')) same.0
                (subst (λ (z : As). Holds c (t.sessions b z).phase (t.sessions z b).phase (t.queues b z)) same.1 back)
            | inr miss' ↦
                let there = others a' b' miss miss' in
                let back' = others b' a' (both_flips a b b' a' ∙ miss') (both_flips b a b' a' ∙ miss) in
                subst (λ (q : List Bytes). Holds c (t.sessions a' b').phase (t.sessions b' a').phase q) (sym there.1)
                (subst (λ (p : Phase). Holds c (t.sessions a' b').phase p (s.queues a' b')) (sym back'.0)
                (subst (λ (p : Phase). Holds c p (s.sessions b' a').phase (s.queues a' b')) (sym there.0) (calm a' b' linked)))
          ]
    ]

  -- ---- ticks

  phase_same : (at b : As) (next : Session) (s : Core) → next.phase ≡ (s.sessions at b).phase → (a' b' : As) → (set_pair at b next s.sessions a' b').phase ≡ (s.sessions a' b').phase
  phase_same at b next s same a' b' = set_all (λ (z w : As) (x : Session). x.phase ≡ (s.sessions z w).phase) at b next s.sessions same (λ z w miss. refl) a' b'

  -- a session in the phase that it was in
  phase_calm : (at b : As) (next : Session) (s : Core) → next.phase ≡ (s.sessions at b).phase → Calm c n s → Calm c n (with_inner Pin Segment c n open_of at b next s)
  phase_calm at b next s same calm =
      let t = with_inner Pin Segment c n open_of at b next s in
      let on = phase_same at b next s same in
      record {
        queues = λ a' b' linked. subst (λ (p : Phase). Holds c (t.sessions a' b').phase p (s.queues a' b')) (sym (on b' a'))
            (subst (λ (p : Phase). Holds c p (s.sessions b' a').phase (s.queues a' b')) (sym (on a' b')) (calm.queues a' b' linked));
        tables = let moved = tables_on (IsUp s) (IsUp t) s (λ a' b' up. on a' b' ∙ up) calm.tables in record { elements = moved.elements; parent = moved.parent };
      }

  pick : (b : Bool) (g h : Move) → Kept c n g → Kept c n h → Kept c n (cond b g h)
  pick true g h r r' = r
  pick false g h r r' = r'

  -- an open session says a Keepalive
  say_keepalive : (at b : As) (g : Move) → (Calm c n g.state → IsUp g.state at b) → Kept c n g → Kept c n (say Pin Segment c n open_of at (Inner b) own.Keepalive g)
  say_keepalive at b g up kept again =
      let calm = kept again.1 in
      record {
        queues = more_queues c n at b (c.text (own_message own.Keepalive)) g.state (up calm) keepalive_ordinary calm.queues;
        tables = record { elements = calm.tables.elements; parent = calm.tables.parent };
      }

  -- ---- a link is begun anew

  module _ (l u : As) (apart : same_as l u ≡ false) where
    apart_back : same_as u l ≡ false
    apart_back = same_back l u apart

    -- both queues are emptied, and each gets one message
    abbrev emptied : (As → As → List Bytes) → As → As → List Bytes
    emptied q = set_pair l u [] (set_pair u l [] q)

    abbrev first_put : Bytes → (As → As → List Bytes) → As → As → List Bytes
    first_put y q = set_pair l u (emptied q l u ++ y ∷ []) (emptied q)

    abbrev both_put : Bytes → (As → As → List Bytes) → As → As → List Bytes
    both_put y q = set_pair u l (first_put y q u l ++ y ∷ []) (first_put y q)

    there_queue : (y : Bytes) (q : As → As → List Bytes) → both_put y q l u ≡ y ∷ []
    there_queue y q =
        set_other u l (first_put y q u l ++ y ∷ []) (first_put y q) l u (first_apart u l l u apart_back)
        ∙ set_here l u (emptied q l u ++ y ∷ []) (emptied q)
        ∙ ap (λ (z : List Bytes). z ++ y ∷ []) (set_here l u [] (set_pair u l [] q))

    back_queue : (y : Bytes) (q : As → As → List Bytes) → both_put y q u l ≡ y ∷ []
    back_queue y q =
        set_here u l (first_put y q u l ++ y ∷ []) (first_put y q)
        ∙ ap (λ (z : List Bytes). z ++ y ∷ []) (set_other l u (emptied q l u ++ y ∷ []) (emptied q) u l (first_apart l u u l apart)
        ∙ set_other l u [] (set_pair u l [] q) u l (first_apart l u u l apart) ∙ set_here u l [] q)

    other_queue : (y : Bytes) (q : As → As → List Bytes) (a b : As) → both l u a b ≡ false → both u l a b ≡ false → both_put y q a b ≡ q a b
    other_queue y q a b miss miss' =
        set_other u l (first_put y q u l ++ y ∷ []) (first_put y q) a b miss'
        ∙ set_other l u (emptied q l u ++ y ∷ []) (emptied q) a b miss
        ∙ set_other l u [] (set_pair u l [] q) a b miss
        ∙ set_other u l [] q a b miss'

    module _ {A : Type 0} (v w : A) (f : As → As → A) where
      pub there_set : set_pair u l w (set_pair l u v f) l u ≡ v
      there_set = set_other u l w (set_pair l u v f) l u (first_apart u l l u apart_back) ∙ set_here l u v f

      pub back_set : set_pair u l w (set_pair l u v f) u l ≡ w
      back_set = set_here u l w (set_pair l u v f)

      pub other_set : (a b : As) → both l u a b ≡ false → both u l a b ≡ false → set_pair u l w (set_pair l u v f) a b ≡ f a b
      other_set a b miss miss' = set_other u l w (set_pair l u v f) a b miss' ∙ set_other l u v f a b miss

  -- whom the ends of a link do not reach
  abbrev Apart : As → As → Core → As → As → Type 0
  Apart l u s d b = IsUp s d b × (both l u d b ≡ false) × (both u l d b ≡ false)

  begun_calm : (sid : ℕ) → sid < 256 → (x : Adjacency) → same_as x.lower x.upper ≡ false → (g : Move) → QueuesCalm c n g.state → TablesReach (Apart x.lower x.upper g.state) g.state →
      Calm c n (begin_adjacency Pin Segment c n open_of sid x (clear Pin Segment c n open_of x g)).state
  begun_calm sid fits x apart g calm tables =
      let l = x.lower in
      let u = x.upper in
      let t = (begin_adjacency Pin Segment c n open_of sid x (clear Pin Segment c n open_of x g)).state in
      let y = c.text (own_message (own.Open (our_offer sid))) in
      let next = (turn_of (new_state (our_offer sid) (record { 0 = g.state.clock })) input.Begin).next in
      let here : (t.sessions l u).phase ≡ phase.OpenWait = ap (λ (z : Session). z.phase) (there_set l u apart next next g.state.sessions) in
      let back : (t.sessions u l).phase ≡ phase.OpenWait = ap (λ (z : Session). z.phase) (back_set l u apart next next g.state.sessions) in
      let one : Holds c phase.OpenWait phase.OpenWait (y ∷ []) = (open_again sid fits, tt) in
      let moved : TablesReach (IsUp t) g.state =
      tables_on (Apart l u g.state) (IsUp t) g.state (λ d b up. ap (λ (z : Session). z.phase) (other_set l u apart next next g.state.sessions d b up.1 up.2) ∙ up.0) tables in
      record {
        queues = link_queues l u g.state t
            (λ a b miss miss'. (ap (λ (z : Session). z.phase) (other_set l u apart next next g.state.sessions a b miss miss'), other_queue l u apart y g.state.queues a b miss miss'))
            (subst (λ (q : List Bytes). Holds c (t.sessions l u).phase (t.sessions u l).phase q) (sym (there_queue l u apart y g.state.queues))
            (subst (λ (p : Phase). Holds c (t.sessions l u).phase p (y ∷ [])) (sym back) (subst (λ (p : Phase). Holds c p phase.OpenWait (y ∷ [])) (sym here) one)))
            (subst (λ (q : List Bytes). Holds c (t.sessions u l).phase (t.sessions l u).phase q) (sym (back_queue l u apart y g.state.queues))
            (subst (λ (p : Phase). Holds c (t.sessions u l).phase p (y ∷ [])) (sym here) (subst (λ (p : Phase). Holds c p phase.OpenWait (y ∷ [])) (sym back) one)))
            calm;
        tables = record { elements = moved.elements; parent = moved.parent };
      }

  -- ---- a link breaks

  abbrev Once : As → As → Core → As → As → Type 0
  Once l u s d b = IsUp s d b × (both l u d b ≡ false)

  abbrev Twice : As → As → Core → As → As → Type 0
  Twice l u s d b = Once l u s d b × (both u l d b ≡ false)

  pub break_adjacency_kept : (x : Adjacency) → same_as x.lower x.upper ≡ false → (g : Move) → Kept c n g → Kept c n (break_adjacency Pin Segment c n open_of x g)
  break_adjacency_kept x apart g kept again =
      let l = x.lower in
      let u = x.upper in
      let f = fall Pin Segment c n open_of l (Inner u) g in
      let h = fall Pin Segment c n open_of u (Inner l) f in
      let again_h : Again c n h.deeds = again.1.1.1 in
      let again_f : Again c n f.deeds = fall_again c n u (Inner l) f again_h in
      let calm_g : Calm c n g.state = kept (fall_again c n l (Inner u) g again_f) in
      let calm_h : Calm c n h.state = fall_kept c n u (Inner l) f (fall_kept c n l (Inner u) g kept) again_h in
      let sessions : h.state.sessions ≡ g.state.sessions = fall_sessions c n u (Inner l) f ∙ fall_sessions c n l (Inner u) g in
      let first : TablesReach (Once l u g.state) f.state = fall_tables c n l (Inner u) g (IsUp g.state) (Once l u g.state) (once l u) calm_g.tables in
      let second : TablesReach (Twice l u g.state) h.state = fall_tables c n u (Inner l) f (Once l u g.state) (Twice l u g.state) (twice l u) first in
      begun_calm (((g.state.sessions l u).offer.sid + 1) % 256) (omega arith) x apart h calm_h.queues
      (tables_on (Twice l u g.state) (Apart l u h.state) h.state (λ d b up. (subst (λ (z : As → As → Session). (z d b).phase ≡ phase.Up) (sym sessions) up.0.0, up.0.1, up.1)) second)
    where
      once : (l u d b : As) → (same_as l d ≡ false) ⊎ (same_peer (Inner u) (Inner b) ≡ false) → IsUp g.state d b → Once l u g.state d b
      once l u d b (inl miss) up = (up, first_apart l u d b miss)
      once l u d b (inr miss) up = (up, second_apart l u d b miss)

      twice : (l u d b : As) → (same_as u d ≡ false) ⊎ (same_peer (Inner l) (Inner b) ≡ false) → Once l u g.state d b → Twice l u g.state d b
      twice l u d b (inl miss) once' = (once', first_apart u l d b miss)
      twice l u d b (inr miss) once' = (once', second_apart u l d b miss)

  -- ---- ticks

  tick_kept : (x : Adjacency) → same_as x.lower x.upper ≡ false → (at b : As) (now : Tick) (g : Move) → Kept c n g → Kept c n (inner_input Pin Segment c n open_of x at b (input.Tick now) g)
  tick_kept x apart at b now g kept = go (any_fall (turn_of (g.state.sessions at b) (input.Tick now)).actions) refl
    where
      go : (falls : Bool) → any_fall (turn_of (g.state.sessions at b) (input.Tick now)).actions ≡ falls → Kept c n (cond falls (break_adjacency Pin Segment c n open_of x g)
          (inner_acts Pin Segment c n open_of at b true (turn_of (g.state.sessions at b) (input.Tick now)).actions
          (record { state = with_inner Pin Segment c n open_of at b (turn_of (g.state.sessions at b) (input.Tick now)).next g.state; deeds = g.deeds })))
      go true falls = break_adjacency_kept x apart g kept
      go false stays =
          let s = g.state.sessions at b in
          let r = turn_of s (input.Tick now) in
          let t = ticks now s stays in
          let h : Move = record { state = with_inner Pin Segment c n open_of at b r.next g.state; deeds = g.deeds } in
          let kept' : Kept c n h = λ again. phase_calm at b r.next g.state t.same (kept again) in
          elim t.actions [
            | inl none ↦ subst (λ (as' : List Action). Kept c n (inner_acts Pin Segment c n open_of at b true as' h)) (sym none) kept'
            | inr says ↦
                subst (λ (as' : List Action). Kept c n (inner_acts Pin Segment c n open_of at b true as' h)) (sym says.1)
                (pick (cond true (cond (is_due own.Keepalive) (cond (is_empty (h.state.queues at b)) false true) false) false) h (say Pin Segment c n open_of at (Inner b) own.Keepalive h) kept'
                (say_keepalive at b h (λ calm. phase_same at b r.next g.state t.same at b ∙ says.0) kept'))
          ]

  pub tick_adjacencies_kept : (xs : List Adjacency) → AllApart xs → (now : Tick) (g : Move) → Kept c n g → Kept c n (tick_adjacencies Pin Segment c n open_of xs now g)
  tick_adjacencies_kept [] all now g kept = kept
  tick_adjacencies_kept (x ∷ xs) all now g kept =
      let h = inner_input Pin Segment c n open_of x x.lower x.upper (input.Tick now) g in
      tick_adjacencies_kept xs all.1 now (inner_input Pin Segment c n open_of x x.upper x.lower (input.Tick now) h)
      (tick_kept x all.0 x.upper x.lower now h (tick_kept x all.0 x.lower x.upper now g kept))

  -- ---- a message is carried

  module _ (a b : As) (apart : same_as a b ≡ false) (linked : is_linked n a b ≡ true) (linked_back : is_linked n b a ≡ true) (s : Core) (calm : Calm c n s) (x : Bytes) (rest : List Bytes) (is : s.queues a b ≡ x ∷ rest) where
    apart_ends : same_as b a ≡ false
    apart_ends = same_back a b apart

    abbrev popped : Core
    popped = record s { queues = set_pair a b rest s.queues }

    abbrev moved : Session → Core
    moved next = with_inner Pin Segment c n open_of b a next popped

    -- the sender's session, and what is left for the receiver
    sender_same : (next : Session) → (moved next).sessions a b ≡ s.sessions a b
    sender_same next = set_other b a next s.sessions a b (first_apart b a a b apart_ends)

    receiver_now : (next : Session) → (moved next).sessions b a ≡ next
    receiver_now next = set_here b a next s.sessions

    left : (next : Session) → (moved next).queues a b ≡ rest
    left next = set_here a b rest s.queues

    back_same : (next : Session) → (moved next).queues b a ≡ s.queues b a
    back_same next = set_other a b rest s.queues b a (first_apart a b b a apart)

    others_same : (next : Session) (a' b' : As) → both a b a' b' ≡ false → both b a a' b' ≡ false → (((moved next).sessions a' b').phase ≡ (s.sessions a' b').phase) × ((moved next).queues a' b' ≡ s.queues a' b')
    others_same next a' b' miss miss' = (ap (λ (z : Session). z.phase) (set_other b a next s.sessions a' b' miss'), set_other a b rest s.queues a' b' miss)

    -- who was up is up
    ups_on : (next : Session) → ((s.sessions b a).phase ≡ phase.Up → next.phase ≡ phase.Up) → (d e : As) → IsUp s d e → IsUp (moved next) d e
    ups_on next on d e up = elim (cases_Bool (both b a d e)) [
      | inl hit ↦
          let same = both_are b a d e hit in
          let was : (s.sessions b a).phase ≡ phase.Up = subst (λ (z : As). IsUp s z a) (sym same.0) (subst (λ (z : As). IsUp s d z) (sym same.1) up) in
          subst (λ (z : As). IsUp (moved next) z e) same.0 (subst (λ (z : As). IsUp (moved next) b z) same.1 (ap (λ (z : Session). z.phase) (receiver_now next) ∙ on was))
      | inr miss ↦ ap (λ (z : Session). z.phase) (set_other b a next s.sessions d e miss) ∙ up
    ]

    moved_tables : (next : Session) → ((s.sessions b a).phase ≡ phase.Up → next.phase ≡ phase.Up) → TablesReach (IsUp (moved next)) s
    moved_tables next on = tables_on (IsUp s) (IsUp (moved next)) s (ups_on next on) calm.tables

    here_holds : (next : Session) (p : Phase) → next.phase ≡ p → Holds c (s.sessions a b).phase p rest → Holds c ((moved next).sessions a b).phase ((moved next).sessions b a).phase ((moved next).queues a b)
    here_holds next p same held =
        subst (λ (q : List Bytes). Holds c ((moved next).sessions a b).phase ((moved next).sessions b a).phase q) (sym (left next))
        (subst (λ (z : Phase). Holds c ((moved next).sessions a b).phase z rest) (sym (ap (λ (z : Session). z.phase) (receiver_now next) ∙ same))
        (subst (λ (z : Session). Holds c z.phase p rest) (sym (sender_same next)) held))

    back_holds : (next : Session) (p : Phase) (q : List Bytes) → next.phase ≡ p → Holds c p (s.sessions a b).phase q → Holds c ((moved next).sessions b a).phase ((moved next).sessions a b).phase q
    back_holds next p q same held =
        subst (λ (z : Phase). Holds c z ((moved next).sessions a b).phase q) (sym (ap (λ (z : Session). z.phase) (receiver_now next) ∙ same))
        (subst (λ (z : Session). Holds c p z.phase q) (sym (sender_same next)) held)

    -- the receiver's session is up now
    up_calm : (next : Session) → next.phase ≡ phase.Up → Holds c (s.sessions a b).phase phase.Up rest → Holds c phase.Up (s.sessions a b).phase (s.queues b a) → Calm c n (moved next)
    up_calm next up held back =
        let tables = moved_tables next (λ was. up) in
        record {
          queues = link_queues a b s (moved next) (others_same next) (here_holds next phase.Up up held)
              (subst (λ (q : List Bytes). Holds c ((moved next).sessions b a).phase ((moved next).sessions a b).phase q) (sym (back_same next)) (back_holds next phase.Up (s.queues b a) up back)) calm.queues;
          tables = record { elements = tables.elements; parent = tables.parent };
        }

    -- it has read an Open, and says a Keepalive
    abbrev said : Session → Core
    said next = put_to Pin Segment c n open_of b (c.text (own_message own.Keepalive)) (moved next) (Inner a)

    said_calm : (next : Session) → next.phase ≡ phase.KeepWait → (s.sessions b a).phase ≡ phase.OpenWait → Holds c (s.sessions a b).phase phase.KeepWait rest → Calm c n (said next)
    said_calm next is_next was held =
        let y = c.text (own_message own.Keepalive) in
        let tables = moved_tables next (λ up. (let clash : phase.OpenWait ≡ phase.Up = sym was ∙ up in cc)) in
        let more = (moved next).queues b a ++ y ∷ [] in
        let before : Holds c phase.OpenWait (s.sessions a b).phase (s.queues b a) = subst (λ (z : Phase). Holds c z (s.sessions a b).phase (s.queues b a)) was (calm.queues b a linked_back) in
        let after : Holds c phase.KeepWait (s.sessions a b).phase more =
        subst (λ (q : List Bytes). Holds c phase.KeepWait (s.sessions a b).phase (q ++ y ∷ [])) (sym (back_same next)) (opened_sends c (s.sessions a b).phase (s.queues b a) y before keepalive_again) in
        record {
          queues = link_queues a b s (said next)
              (λ a' b' miss miss'. ((others_same next a' b' miss miss').0, set_other b a more (moved next).queues a' b' miss' ∙ (others_same next a' b' miss miss').1))
              (subst (λ (q : List Bytes). Holds c ((moved next).sessions a b).phase ((moved next).sessions b a).phase q) (sym (set_other b a more (moved next).queues a b (first_apart b a a b apart_ends)))
              (here_holds next phase.KeepWait is_next held))
              (subst (λ (q : List Bytes). Holds c ((moved next).sessions b a).phase ((moved next).sessions a b).phase q) (sym (set_here b a more (moved next).queues))
              (back_holds next phase.KeepWait more is_next after))
              calm.queues;
          tables = record { elements = tables.elements; parent = tables.parent };
        }

    not_tick : (o : Option Message) → is_tick (read_as o) ≡ false
    not_tick None = refl
    not_tick (Some m) = refl

    abbrev after_pop : Move
    after_pop = record { state = popped; deeds = Pops a b ∷ [] }

    pub carried_calm : (z : Adjacency) → Hears c (s.sessions a b).phase (s.sessions b a).phase x rest (turn_of (s.sessions b a) (read_as (c.read x))) → Kept c n (inner_input Pin Segment c n open_of z b a (read_as (c.read x)) after_pop)
    carried_calm z heard = go heard
      where
        r_next : Session
        r_next = (turn_of (s.sessions b a) (read_as (c.read x))).next

        start : Move
        start = record { state = moved (turn_of (s.sessions b a) (read_as (c.read x))).next; deeds = Pops a b ∷ [] }

        -- by what the session does
        by : (as' : List Action) → (turn_of (s.sessions b a) (read_as (c.read x))).actions ≡ as' → Kept c n (cond (any_fall as') (break_adjacency Pin Segment c n open_of z after_pop) (inner_acts Pin Segment c n open_of b a false as' start)) →
            Kept c n (inner_input Pin Segment c n open_of z b a (read_as (c.read x)) after_pop)
        by as' actions kept =
            subst (λ (l : List Action). Kept c n (cond (any_fall l) (break_adjacency Pin Segment c n open_of z after_pop) (inner_acts Pin Segment c n open_of b a (is_tick (read_as (c.read x))) l start))) (sym actions)
            (subst (λ (t : Bool). Kept c n (cond (any_fall as') (break_adjacency Pin Segment c n open_of z after_pop) (inner_acts Pin Segment c n open_of b a t as' start))) (sym (not_tick (c.read x))) kept)

        up_back : (s.sessions b a).phase ≡ phase.Up → Holds c phase.Up (s.sessions a b).phase (s.queues b a)
        up_back was = subst (λ (p : Phase). Holds c p (s.sessions a b).phase (s.queues b a)) was (calm.queues b a linked_back)

        go : Hears c (s.sessions a b).phase (s.sessions b a).phase x rest (turn_of (s.sessions b a) (read_as (c.read x))) → Kept c n (inner_input Pin Segment c n open_of z b a (read_as (c.read x)) after_pop)
        go (opens is_open at actions next held) = by (action.Send own.Keepalive ∷ []) actions (λ again. said_calm r_next next at held)
        go (rises is_keepalive at actions next held) =
            let back = risen_holds c (s.sessions a b).phase (s.queues b a) (subst (λ (p : Phase). Holds c p (s.sessions a b).phase (s.queues b a)) at (calm.queues b a linked_back)) (up_reads c (s.sessions a b).phase rest held) in
            by (action.Up ∷ []) actions (rise_kept c n b (Inner a) start (λ calm'. ap (λ (w : Session). w.phase) (receiver_now r_next) ∙ next) (λ again. up_calm r_next next held back))
        go (keeps is_keepalive at actions next held) = by [] actions (λ again. up_calm r_next next held (up_back at))
        go (passes m read ordinary at actions next held) =
            by (action.Pass m ∷ []) actions (give_kept c n b (Inner a) m start (λ calm'. ap (λ (w : Session). w.phase) (receiver_now r_next) ∙ next) (λ again. up_calm r_next next held (up_back at)))
