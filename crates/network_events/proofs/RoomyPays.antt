-- What sessions say is paid for: a first word, a fall, last words, and all that a break says.
use Rattle.std.proofs.Common.{◌≡◌, ◌≤◌, ◌⊎◌, ℕ, ◌+◌, ◌*◌, Bool, true, false, cond, ◌==◌, List, [], ◌∷◌, ◌++◌, length, refl, ap, sym, subst, ◌∙◌, arith, inl, inr}
use Rattle.std.proofs.lemmas.Bool.{cases_Bool, eqb-true}
use Rattle.pce_common.specs.plant_model.Types.{As, Peer, Outside, Inner, Sent, NetworkParts}
use Rattle.pcep_session.specs.declared.actions.Own.TheVariants as own
use Rattle.request_table.specs.Pending.{same_peer}
use Rattle.plant_queues.specs.Messages.{total}
use Rattle.plant_queues.specs.Sents.{size_of, sent_of}
use Rattle.plant_text.specs.Names.{same_as, parent_as}
use Rattle.plant_text.specs.Settings.{elements_of}
use Rattle.pce_common.specs.plant_model.Element.{upped}
use Rattle.pce_common.specs.plant_model.Parent as parent
use Rattle.pce_common.specs.plant_model.Deeds.{element_of, our_offer}
use Rattle.pce_common.specs.plant_model.Wire.{Bytes}
use Rattle.network_links.specs.Ends.{own_bytes}
use Rattle.network_links.specs.Flow.{Flow, KeepsRoomAt, queue_at}
use Rattle.network_events.specs.Accounts.{Accounts, goes_into, count_into, bytes_into}
use Rattle.network_events.specs.Acting.{size_in}
use Rattle.pce_common.specs.Membership.{Membership, is_member, fallen, lost_at, raised, with_element, with_parent}
use Rattle.pce_common.specs.Owed.{is_peer, owed, pending_at, pending_in}
use Rattle.network_events.specs.Rooms.{is_live, is_talking}
use Rattle.network_events.proofs.GoLaws.{as_is, into_is}
use Rattle.network_events.proofs.OwedLaws.{fallen_none, raised_count}
use Rattle.network_events.proofs.BreakLaws.{count_append, bytes_append, told, told_length, told_size, length_both, size_both}
use Rattle.network_events.proofs.RoomyNeeds.{fallen_owed, lost_pending}
use Rattle.network_events.proofs.RoomySteps.{Fewer, First, Pays, queue_keeps, live_queue, told_bytes, told_paid}
use Rattle.network_events.proofs.RoomyDeeds.{break_says, open_of, spoken}

-- the same connections are used, and so the same queues
pub live_like : (n : NetworkParts) (f f' : Flow) → ((i : ℕ) → is_talking (f'.accesses i).connection ≡ is_talking (f.accesses i).connection) → (at : As) (to : Peer) → is_live n f' at to ≡ is_live n f at to
live_like n f f' same at (Outside i) = ap (λ (b : Bool). cond (same_as at (element_of n i)) b false) (same i)
live_like n f f' same at (Inner b) = refl

-- a queue that has one message alone
first_alone : (at d : As) (to p : Peer) (m : Bytes) (before after : ℕ) (f' : Flow) → goes_into at to (sent_of d p m) ≡ true → queue_at d p f' ≡ m ∷ [] → length m ≤ 12 → after ≤ before →
    First before after (queue_at at to f')
first_alone at d to p m before after f' hit alone short le =
    let is : queue_at at to f' ≡ m ∷ [] = (into_is at d to p m hit f').1 ∙ alone in
    let count : length (queue_at at to f') ≡ 1 = ap length is in
    let size : total (λ (x : Bytes). length x) (queue_at at to f') ≡ length m + 0 = ap (total (λ (x : Bytes). length x)) is in
    record { messages = omega (arith, count); bytes = omega (arith, size, short); owed = le }

-- one message counts where it goes
one_count : (at : As) (to : Peer) (s : Sent) (b : Bool) → goes_into at to s ≡ b → (count_into at to (s ∷ []) ≡ cond b 1 0) × (bytes_into at to (s ∷ []) ≡ cond b (length s.bytes) 0)
one_count at to s b is =
    let count : cond {A = ℕ} (goes_into at to s) 1 0 ≡ cond {A = ℕ} b 1 0 = ap (λ (c : Bool). cond {A = ℕ} c 1 0) is in
    let size : cond {A = ℕ} (goes_into at to s) (length s.bytes) 0 ≡ cond {A = ℕ} b (length s.bytes) 0 = ap (λ (c : Bool). cond {A = ℕ} c (length s.bytes) 0) is in
    (omega (arith, count), omega (arith, size))

spoken_length : (d : As) (p : Peer) (words : List Bytes) → length (spoken d p words) ≡ length words
spoken_length d p [] = refl
spoken_length d p (m ∷ words) = omega (arith, spoken_length d p words)

spoken_size : (d : As) (p : Peer) (words : List Bytes) → total size_of (spoken d p words) ≡ size_in words
spoken_size d p [] = refl
spoken_size d p (m ∷ words) = omega (arith, spoken_size d p words)

-- what is said into one queue is not said into another
spoken_elsewhere : (at d : As) (to p : Peer) (words : List Bytes) → ((m : Bytes) → goes_into at to (sent_of d p m) ≡ false) → (count_into at to (spoken d p words) ≡ 0) × (bytes_into at to (spoken d p words) ≡ 0)
spoken_elsewhere at d to p [] miss = (refl, refl)
spoken_elsewhere at d to p (m ∷ words) miss =
    let rest = spoken_elsewhere at d to p words miss in
    let one = one_count at to (sent_of d p m) false (miss m) in
    (omega (arith, rest.0, one.0), omega (arith, rest.1, one.1))

first_part : (b c : Bool) → cond b c false ≡ true → b ≡ true
first_part true c e = refl
first_part false c e = cc

-- a message that goes into a queue that is used, from one that uses it
place_is : (n : NetworkParts) (f : Flow) (at d : As) (to p : Peer) (m : Bytes) → goes_into at to (sent_of d p m) ≡ true → is_live n f at to ≡ true → is_live n f d p ≡ true → (d ≡ at) × (p ≡ to)
place_is n f at d (Outside j) (Outside i) m hit live live' =
    let same : i ≡ j = eqb-true i j hit in (
      as_is d (element_of n i) (first_part (same_as d (element_of n i)) (is_talking (f.accesses i).connection) live') ∙ ap (element_of n) same
          ∙ sym (as_is at (element_of n j) (first_part (same_as at (element_of n j)) (is_talking (f.accesses j).connection) live)),
      ap Outside same,
    )
place_is n f at d (Inner c) (Inner b) m hit live live' =
    let both : (same_peer (Inner b) (Inner c) ≡ true) × (same_as d at ≡ true) = parts (same_peer (Inner b) (Inner c)) (same_as d at) hit in
    (as_is d at both.1, ap Inner (as_is b c both.0))
  where
    parts : (x y : Bool) → cond x y false ≡ true → (x ≡ true) × (y ≡ true)
    parts true y e = (refl, e)
    parts false y e = cc
place_is n f at d (Outside j) (Inner b) m hit live live' = cc
place_is n f at d (Inner c) (Outside i) m hit live live' = cc

module _ {P : Type 0} {S : Type 0} (n : NetworkParts) where
  -- nothing is said
  pub still_pays : (ms : Membership P S) (f f' : Flow) → Accounts f f' → f'.said ≡ f.said ++ [] → ((at : As) (to : Peer) → is_live n f' at to ≡ is_live n f at to) →
      ((at : As) (to : Peer) → is_live n f at to ≡ false → owed at to ms ≡ 0) → Pays 0 n ms ms f f' []
  still_pays ms f f' room said live dead = record {
    room = room;
    said = said;
    live = λ at to is. sym (live at to) ∙ is;
    answers = λ at to is. inl (record { messages = omega arith; bytes = omega arith });
    dead = λ at to is. dead at to (sym (live at to) ∙ is);
    messages = omega arith;
    bytes = omega arith;
    pending = omega arith;
  }

  -- a message of a session's own goes into an empty queue
  pub word_pays : (d : As) (p : Peer) (m : Bytes) (ms : Membership P S) (f f' : Flow) → Accounts f f' → f'.said ≡ f.said ++ sent_of d p m ∷ [] → ((at : As) (to : Peer) → is_live n f' at to ≡ is_live n f at to) →
      ((at : As) (to : Peer) → is_live n f at to ≡ false → owed at to ms ≡ 0) → queue_at d p f' ≡ m ∷ [] → length m ≤ 12 → Pays 1 n ms ms f f' (sent_of d p m ∷ [])
  word_pays d p m ms f f' room said live dead alone short = record {
    room = room;
    said = said;
    live = λ at to is. sym (live at to) ∙ is;
    answers = λ at to is. answers at to;
    dead = λ at to is. dead at to (sym (live at to) ∙ is);
    messages = omega arith;
    bytes = omega (arith, short);
    pending = omega arith;
  }
    where
      answers : (at : As) (to : Peer) → Fewer at to (owed at to ms) (owed at to ms) (sent_of d p m ∷ []) ⊎ First (owed at to ms) (owed at to ms) (queue_at at to f') ⊎ KeepsRoomAt at to (owed at to ms) (32 * owed at to ms) f'
      answers at to = elim (cases_Bool (goes_into at to (sent_of d p m))) [
        | inl hit ↦ inr (inl (first_alone at d to p m (owed at to ms) (owed at to ms) f' hit alone short (omega arith)))
        | inr miss ↦
            let none = one_count at to (sent_of d p m) false miss in
            inl (record { messages = omega (arith, none.0); bytes = omega (arith, none.1) })
      ]

  -- a session goes down, and its connection may stay
  pub fall_pays : (d : As) (p : Peer) (ms : Membership P S) (f f' : Flow) → is_member n d ≡ true → Accounts f f' → f'.said ≡ f.said ++ told d (lost_at d p ms) → ((at : As) (to : Peer) → is_live n f' at to ≡ is_live n f at to) →
      ((at : As) (to : Peer) → is_live n f at to ≡ false → owed at to ms ≡ 0) → Pays 0 n ms (fallen d p ms) f f' (told d (lost_at d p ms))
  fall_pays d p ms f f' member room said live dead =
      let lost = lost_pending n d p ms member in
      record {
        room = room;
        said = said;
        live = λ at to is. sym (live at to) ∙ is;
        answers = λ at to is.
            let paid = told_paid n f d at p to ms dead (sym (live at to) ∙ is) in
            inl (record { messages = paid; bytes = omega (arith, paid, told_bytes at d to (lost_at d p ms)) });
        dead = λ at to is. omega (arith, dead at to (sym (live at to) ∙ is), fallen_owed n d at p to ms);
        messages = omega (arith, lost, told_length d (lost_at d p ms));
        bytes = omega (arith, lost, told_size d (lost_at d p ms));
        pending = omega (arith, lost);
      }

  -- A link breaks.
  pub break_pays : (l u : As) (sid : ℕ) (ms : Membership P S) (f f' : Flow) → is_member n l ≡ true → is_member n u ≡ true → Accounts f f' → f'.said ≡ f.said ++ break_says sid l u ms →
      ((at : As) (to : Peer) → is_live n f' at to ≡ is_live n f at to) → ((at : As) (to : Peer) → is_live n f at to ≡ false → owed at to ms ≡ 0) →
      f'.queues l u ≡ own_bytes (own.Open (our_offer sid)) ∷ [] → f'.queues u l ≡ own_bytes (own.Open (our_offer sid)) ∷ [] →
      Pays 2 n ms (fallen u (Inner l) (fallen l (Inner u) ms)) f f' (break_says sid l u ms)
  break_pays l u sid ms f f' lower upper room said live dead below above = record {
    room = room;
    said = said;
    live = λ at to is. sym (live at to) ∙ is;
    answers = λ at to is. answers at to (sym (live at to) ∙ is);
    dead = λ at to is. dead2 at to (sym (live at to) ∙ is);
    messages = omega (arith, length_is, lost1, lost2);
    bytes = omega (arith, size_is, lost1, lost2);
    pending = omega (arith, lost1, lost2);
  }
    where
      m1 : Membership P S
      m1 = fallen l (Inner u) ms

      m2 : Membership P S
      m2 = fallen u (Inner l) m1

      a : List Sent
      a = told l (lost_at l (Inner u) ms)

      b : List Sent
      b = told u (lost_at u (Inner l) m1)

      o1 : List Sent
      o1 = open_of sid l u ∷ []

      o2 : List Sent
      o2 = open_of sid u l ∷ []

      lost1 : pending_in (elements_of n.elements) m1 + length (lost_at l (Inner u) ms) ≤ pending_in (elements_of n.elements) ms
      lost1 = lost_pending n l (Inner u) ms lower

      lost2 : pending_in (elements_of n.elements) m2 + length (lost_at u (Inner l) m1) ≤ pending_in (elements_of n.elements) m1
      lost2 = lost_pending n u (Inner l) m1 upper

      dead1 : (at : As) (to : Peer) → is_live n f at to ≡ false → owed at to m1 ≡ 0
      dead1 at to is = omega (arith, dead at to is, fallen_owed n l at (Inner u) to ms)

      dead2 : (at : As) (to : Peer) → is_live n f at to ≡ false → owed at to m2 ≡ 0
      dead2 at to is = omega (arith, dead1 at to is, fallen_owed n u at (Inner l) to m1)

      fewer : (at : As) (to : Peer) → owed at to m2 ≤ owed at to ms
      fewer at to = omega (arith, fallen_owed n l at (Inner u) to ms, fallen_owed n u at (Inner l) to m1)

      length_is : length (a ++ b ++ [] ++ o1 ++ o2) ≡ length (lost_at l (Inner u) ms) + length (lost_at u (Inner l) m1) + 2
      length_is = omega (arith, length_both (a ++ b ++ [] ++ o1) o2, length_both (a ++ b ++ []) o1, length_both (a ++ b) [], length_both a b, told_length l (lost_at l (Inner u) ms), told_length u (lost_at u (Inner l) m1))

      size_is : total size_of (a ++ b ++ [] ++ o1 ++ o2) ≡ 32 * length (lost_at l (Inner u) ms) + 32 * length (lost_at u (Inner l) m1) + 24
      size_is = omega (arith, size_both (a ++ b ++ [] ++ o1) o2, size_both (a ++ b ++ []) o1, size_both (a ++ b) [], size_both a b, told_size l (lost_at l (Inner u) ms), told_size u (lost_at u (Inner l) m1))

      answers : (at : As) (to : Peer) → is_live n f at to ≡ true → Fewer at to (owed at to ms) (owed at to m2) (a ++ b ++ [] ++ o1 ++ o2) ⊎ First (owed at to ms) (owed at to m2) (queue_at at to f') ⊎ KeepsRoomAt at to (owed at to m2) (32 * owed at to m2) f'
      answers at to is = elim (cases_Bool (goes_into at to (open_of sid l u))) [
        | inl hit ↦ inr (inl (first_alone at l to (Inner u) (own_bytes (own.Open (our_offer sid))) (owed at to ms) (owed at to m2) f' hit below (omega arith) (fewer at to)))
        | inr miss ↦ elim (cases_Bool (goes_into at to (open_of sid u l))) [
          | inl hit ↦ inr (inl (first_alone at u to (Inner l) (own_bytes (own.Open (our_offer sid))) (owed at to ms) (owed at to m2) f' hit above (omega arith) (fewer at to)))
          | inr miss' ↦ inl (rest miss miss')
        ]
      ]
        where
          rest : goes_into at to (open_of sid l u) ≡ false → goes_into at to (open_of sid u l) ≡ false → Fewer at to (owed at to ms) (owed at to m2) (a ++ b ++ [] ++ o1 ++ o2)
          rest miss miss' =
              let paid1 = told_paid n f l at (Inner u) to ms dead is in
              let paid2 = told_paid n f u at (Inner l) to m1 dead1 is in
              let none1 = one_count at to (open_of sid l u) false miss in
              let none2 = one_count at to (open_of sid u l) false miss' in
              record {
                messages = omega (arith, count_append at to (a ++ b ++ [] ++ o1) o2, count_append at to (a ++ b ++ []) o1, count_append at to (a ++ b) [], count_append at to a b, paid1, paid2, none1.0, none2.0);
                bytes = omega (
                  arith,
                  bytes_append at to (a ++ b ++ [] ++ o1) o2,
                  bytes_append at to (a ++ b ++ []) o1,
                  bytes_append at to (a ++ b) [],
                  bytes_append at to a b,
                  paid1,
                  paid2,
                  none1.1,
                  none2.1,
                  told_bytes at l to (lost_at l (Inner u) ms),
                  told_bytes at u to (lost_at u (Inner l) m1),
                );
              }

  -- The session of an outside peer says last words, if it does, and goes down for good.
  pub ends_pays : (i most : ℕ) (words : List Bytes) (ms : Membership P S) (f f' : Flow) → is_member n (element_of n i) ≡ true → Accounts f f' → length words ≤ most → size_in words ≤ 12 * most →
      f'.said ≡ f.said ++ (spoken (element_of n i) (Outside i) words ++ told (element_of n i) (lost_at (element_of n i) (Outside i) ms)) →
      is_talking (f'.accesses i).connection ≡ false → ((j : ℕ) → (i == j) ≡ false → is_talking (f'.accesses j).connection ≡ is_talking (f.accesses j).connection) →
      ((at : As) (to : Peer) → is_live n f at to ≡ false → owed at to ms ≡ 0) →
      Pays most n ms (fallen (element_of n i) (Outside i) ms) f f' (spoken (element_of n i) (Outside i) words ++ told (element_of n i) (lost_at (element_of n i) (Outside i) ms))
  ends_pays i most words ms f f' member room few short said over others dead = record {
    room = room;
    said = said;
    live = live;
    answers = λ at to is. inl (answers at to is);
    dead = gone;
    messages = omega (arith, length_both (spoken e (Outside i) words) (told e (lost_at e (Outside i) ms)), told_length e (lost_at e (Outside i) ms), lost, few, spoken_length e (Outside i) words);
    bytes = omega (arith, size_both (spoken e (Outside i) words) (told e (lost_at e (Outside i) ms)), told_size e (lost_at e (Outside i) ms), lost, short, spoken_size e (Outside i) words);
    pending = omega (arith, lost);
  }
    where
      e : As
      e = element_of n i

      lost : pending_in (elements_of n.elements) (fallen e (Outside i) ms) + length (lost_at e (Outside i) ms) ≤ pending_in (elements_of n.elements) ms
      lost = lost_pending n e (Outside i) ms member

      -- a queue that is used is none of this peer
      other : (at : As) (to : Peer) → is_live n f' at to ≡ true → (is_live n f at to ≡ true) × ((m : Bytes) → goes_into at to (sent_of e (Outside i) m) ≡ false)
      other at (Inner b) is = (is, λ m. refl)
      other at (Outside j) is = elim (cases_Bool (i == j)) [
        | inl hit ↦
            let same : i ≡ j = eqb-true i j hit in
            let quiet : is_talking (f'.accesses j).connection ≡ false = subst (λ (k : ℕ). is_talking (f'.accesses k).connection ≡ false) same over in
            absurd (none (same_as at (element_of n j)) (ap (λ (b : Bool). cond (same_as at (element_of n j)) b false) (sym quiet) ∙ is))
        | inr miss ↦ (ap (λ (b : Bool). cond (same_as at (element_of n j)) b false) (sym (others j miss)) ∙ is, λ m. miss)
      ]
        where
          none : (b : Bool) → cond b false false ≡ true → ⊥
          none true x = cc
          none false x = cc

      live : (at : As) (to : Peer) → is_live n f' at to ≡ true → is_live n f at to ≡ true
      live at to is = (other at to is).0

      answers : (at : As) (to : Peer) → is_live n f' at to ≡ true → Fewer at to (owed at to ms) (owed at to (fallen e (Outside i) ms)) (spoken e (Outside i) words ++ told e (lost_at e (Outside i) ms))
      answers at to is =
          let was = other at to is in
          let none = spoken_elsewhere at e to (Outside i) words was.1 in
          let paid = told_paid n f e at (Outside i) to ms dead was.0 in
          record {
            messages = omega (arith, count_append at to (spoken e (Outside i) words) (told e (lost_at e (Outside i) ms)), none.0, paid);
            bytes = omega (arith, bytes_append at to (spoken e (Outside i) words) (told e (lost_at e (Outside i) ms)), none.1, paid, told_bytes at e to (lost_at e (Outside i) ms));
          }

      -- no answer is owed to it any more
      gone : (at : As) (to : Peer) → is_live n f' at to ≡ false → owed at to (fallen e (Outside i) ms) ≡ 0
      gone at (Inner b) is = omega (arith, dead at (Inner b) is, fallen_owed n e at (Outside i) (Inner b) ms)
      gone at (Outside j) is = elim (cases_Bool (i == j)) [
        | inl hit ↦
            let same : i ≡ j = eqb-true i j hit in
            subst (λ (k : ℕ). owed at (Outside k) (fallen e (Outside i) ms) ≡ 0) same (here_gone (cases_Bool (same_as at e)))
        | inr miss ↦
            omega (arith, dead at (Outside j) (ap (λ (b : Bool). cond (same_as at (element_of n j)) b false) (sym (others j miss)) ∙ is), fallen_owed n e at (Outside i) (Outside j) ms)
      ]
        where
          here_gone : (same_as at e ≡ true) ⊎ (same_as at e ≡ false) → owed at (Outside i) (fallen e (Outside i) ms) ≡ 0
          here_gone (inl hit) = subst (λ (x : As). owed x (Outside i) (fallen e (Outside i) ms) ≡ 0) (sym (as_is at e hit)) (fallen_none (is_peer (Outside i)) e (Outside i) ms (λ q miss. miss)).0
          here_gone (inr miss) = omega (arith, dead at (Outside i) (ap (λ (b : Bool). cond b (is_talking (f.accesses i).connection) false) miss), fallen_owed n e at (Outside i) (Outside i) ms)

  -- ---- what is said into room that was made for it

  pub reserved_pays : (d : As) (p : Peer) (m : Bytes) (ms : Membership P S) (f f' : Flow) → Accounts f f' → f'.said ≡ f.said ++ sent_of d p m ∷ [] → ((at : As) (to : Peer) → is_live n f' at to ≡ is_live n f at to) →
      ((at : As) (to : Peer) → is_live n f at to ≡ false → owed at to ms ≡ 0) → is_live n f d p ≡ true → length m ≤ 20 → KeepsRoomAt d p (1 + owed d p ms) (20 + 32 * owed d p ms) f →
      Pays 2 n ms ms f f' (sent_of d p m ∷ [])
  reserved_pays d p m ms f f' room said live dead used short keeps = record {
    room = room;
    said = said;
    live = λ at to is. sym (live at to) ∙ is;
    answers = λ at to is. answers at to (sym (live at to) ∙ is);
    dead = λ at to is. dead at to (sym (live at to) ∙ is);
    messages = omega arith;
    bytes = omega (arith, short);
    pending = omega arith;
  }
    where
      there : KeepsRoomAt d p (owed d p ms) (32 * owed d p ms) f'
      there =
          let one = one_of (goes_into d p (sent_of d p m)) refl in
          queue_keeps d p (1 + owed d p ms) (20 + 32 * owed d p ms) (owed d p ms) (32 * owed d p ms) (sent_of d p m ∷ []) f f' room said (live_queue n f d p used)
          (omega (arith, one.0)) (omega (arith, one.1, short)) keeps
        where
          one_of : (b : Bool) → goes_into d p (sent_of d p m) ≡ b → (count_into d p (sent_of d p m ∷ []) ≤ 1) × (bytes_into d p (sent_of d p m ∷ []) ≤ length m)
          one_of true is = let c = one_count d p (sent_of d p m) true is in (omega (arith, c.0), omega (arith, c.1))
          one_of false is = let c = one_count d p (sent_of d p m) false is in (omega (arith, c.0), omega (arith, c.1))

      answers : (at : As) (to : Peer) → is_live n f at to ≡ true → Fewer at to (owed at to ms) (owed at to ms) (sent_of d p m ∷ []) ⊎ First (owed at to ms) (owed at to ms) (queue_at at to f') ⊎ KeepsRoomAt at to (owed at to ms) (32 * owed at to ms) f'
      answers at to is = elim (cases_Bool (goes_into at to (sent_of d p m))) [
        | inl hit ↦
            let place = place_is n f at d to p m hit is used in
            inr (inr (subst (λ (x : As). KeepsRoomAt x to (owed x to ms) (32 * owed x to ms) f') place.0
            (subst (λ (q : Peer). KeepsRoomAt d q (owed d q ms) (32 * owed d q ms) f') place.1 there)))
        | inr miss ↦
            let none = one_count at to (sent_of d p m) false miss in
            inl (record { messages = omega (arith, none.0); bytes = omega (arith, none.1) })
      ]

  -- ---- a session that comes up

  rows_same : (ms ms' : Membership P S) → ((d : As) → length (ms'.elements d).pending.rows ≡ length (ms.elements d).pending.rows) → (ds : List As) → pending_at ds ms' ≡ pending_at ds ms
  rows_same ms ms' same [] = refl
  rows_same ms ms' same (d ∷ ds) = omega (arith, same d, rows_same ms ms' same ds)

  raised_pending : (ds : List As) (at : As) (p : Peer) (ms : Membership P S) → pending_in ds (raised at p ms) ≡ pending_in ds ms
  raised_pending ds at p ms = elim (cases_Bool (same_as at parent_as)) [
    | inl upper ↦ rw upper (upper_rises)
    | inr inner ↦ rw inner (inner_rises)
  ]
    where
      upper_rises : length ms.parent.pending.rows + pending_at ds (with_parent (parent.upped p ms.parent) ms) ≡ length ms.parent.pending.rows + pending_at ds ms
      upper_rises = omega (arith, rows_same ms (with_parent (parent.upped p ms.parent) ms) (λ d. refl) ds)

      place : (d : As) → length ((with_element at (upped p (ms.elements at)) ms).elements d).pending.rows ≡ length (ms.elements d).pending.rows
      place d = go (same_as at d) (as_is at d)
        where
          go : (b : Bool) → (b ≡ true → at ≡ d) → length (cond b (upped p (ms.elements at)) (ms.elements d)).pending.rows ≡ length (ms.elements d).pending.rows
          go true is = ap (λ (a : As). length (ms.elements a).pending.rows) (is refl)
          go false is = refl

      inner_rises : length ms.parent.pending.rows + pending_at ds (with_element at (upped p (ms.elements at)) ms) ≡ length ms.parent.pending.rows + pending_at ds ms
      inner_rises = omega (arith, rows_same ms (with_element at (upped p (ms.elements at)) ms) place ds)

  pub raise_pays : (d : As) (p : Peer) (ms : Membership P S) (f f' : Flow) → Accounts f f' → f'.said ≡ f.said ++ [] → ((at : As) (to : Peer) → is_live n f' at to ≡ is_live n f at to) →
      ((at : As) (to : Peer) → is_live n f at to ≡ false → owed at to ms ≡ 0) → Pays 0 n ms (raised d p ms) f f' []
  raise_pays d p ms f f' room said live dead =
      let same = raised_pending (elements_of n.elements) d p ms in
      record {
        room = room;
        said = said;
        live = λ at to is. sym (live at to) ∙ is;
        answers = λ at to is. inl (record { messages = omega (arith, raised_count (is_peer to) d at p ms); bytes = omega (arith, raised_count (is_peer to) d at p ms) });
        dead = λ at to is. omega (arith, dead at to (sym (live at to) ∙ is), raised_count (is_peer to) d at p ms);
        messages = omega (arith, same);
        bytes = omega (arith, same);
        pending = omega (arith, same);
      }
