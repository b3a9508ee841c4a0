-- What deeds of the model leave of members, of connections and of what is said, and how much of that room pays for.
use Rattle.std.proofs.Common.{◌≡◌, ◌≤◌, ℕ, ◌+◌, ◌*◌, ◌%◌, Bool, true, false, not, cond, ◌==◌, Option, Some, None, List, [], ◌∷◌, ◌++◌, length, refl, ap, sym, subst, ◌∙◌, arith, inl, inr, append_assoc, append-nil}
use Rattle.std.specs.Option.{option_map}
use Rattle.std.proofs.lemmas.Bool.{cases_Bool, eqb-true}
use Rattle.pce_common.specs.plant_model.Types.{As, Peer, Outside, Inner, Hop, Sent, NetworkParts, Action, Own, State as Session}
use Rattle.plant_queues.specs.Sents.{sent_of}
use Rattle.plant_text.specs.Names.{same_as, parent_as}
use Rattle.plant_text.specs.Settings.{Adjacency}
use Rattle.pce_common.specs.plant_model.declared.output.Output.{Output}
use Rattle.pce_common.specs.plant_model.Names.{is_empty, set_pair, set_number}
use Rattle.pce_common.specs.plant_model.Wire.{Bytes}
use Rattle.pce_common.specs.plant_model.RealWire.{wire}
use Rattle.pce_common.specs.plant_model.Element as element
use Rattle.pce_common.specs.plant_model.Parent as parent
use Rattle.pce_common.specs.plant_model.State.{State, Access, Connection, said}
use Rattle.pce_common.specs.plant_model.Events.{is_down}
use Rattle.pce_common.specs.plant_model.Deeds as deeds
use Rattle.pce_common.specs.plant_model.Deeds.{Going, any_fall, element_of, on_connection, with_more, with_session, with_inbox, our_offer, is_due, is_out_empty}
use Rattle.pcep_session.specs.declared.actions.Action.TheVariants as action
use Rattle.pcep_session.specs.declared.actions.Own.TheVariants as own
use Rattle.network_links.specs.Ends.{own_bytes, said_in}
use Rattle.network_links.specs.Flow.{Flow, out_of, queue_at}
use Rattle.network_events.specs.Acting.{IsOwnTurn, size_in}
use Rattle.network_events.specs.Peers.{acts_at, down_at, is_out_empty_at}
use Rattle.network_events.specs.Standing.{IsAt}
use Rattle.pce_common.specs.Membership.{Membership, expired, fallen, lost_at, raised}
use Rattle.network_events.specs.Rooms.{is_talking}
use Rattle.network_events.proofs.GoLaws.{length_push, self, total_push}
use Rattle.network_events.proofs.BreakLaws.{told}
use Rattle.network_events.proofs.InputLaws.{session_in, set_at, some_is}
use Rattle.network_events.proofs.RoomyNeeds.{apart_back}

-- the members of a state
abbrev pub members_of : {P : Type 0} {S : Type 0} → State P S → Membership P S
members_of s = record { elements = s.elements; parent = s.parent; current = s.current }

abbrev pub talks : {P : Type 0} {S : Type 0} → ℕ → State P S → Bool
talks i s = is_talking (s.accesses i).connection

-- what a deed leaves: its members, and more that is said; the same connections are used
pub record Leaves {P : Type 0} {S : Type 0} (ms : Membership P S) (ss : List Sent) (g g' : Going P S) : Type 0 where
  pub members : members_of g'.state ≡ ms
  pub said : said wire g'.deeds ≡ said wire g.deeds ++ ss
  pub talks : (i : ℕ) → talks i g'.state ≡ talks i g.state

more_talks : (c : Option Connection) (k : ℕ) (bytes : Bytes) → is_talking (on_connection (with_more bytes) (record { opened = k; connection = c })).connection ≡ is_talking c
more_talks None k bytes = refl
more_talks (Some x) k bytes = refl

-- messages of its own that a session says one after the other
abbrev pub spoken : As → Peer → List Bytes → List Sent
spoken at to [] = []
spoken at to (m ∷ ms) = sent_of at to m ∷ spoken at to ms

spoken_push : (at : As) (to : Peer) (ms : List Bytes) (m : Bytes) → spoken at to ms ++ sent_of at to m ∷ [] ≡ spoken at to (ms ++ m ∷ [])
spoken_push at to [] m = refl
spoken_push at to (x ∷ ms) m = ap (λ (ss : List Sent). sent_of at to x ∷ ss) (spoken_push at to ms m)

empty_is : (out : List Bytes) → is_empty out ≡ true → out ≡ []
empty_is [] e = refl
empty_is (x ∷ out) e = cc

-- an Open from one end to the other
abbrev pub open_of : ℕ → As → As → Sent
open_of sid at b = sent_of at (Inner b) (own_bytes (own.Open (our_offer sid)))

-- the number of the sessions that a break begins
abbrev pub break_sid : {P : Type 0} {S : Type 0} → As → As → Going P S → ℕ
break_sid l u g = ((g.state.sessions l u).offer.sid + 1) % 256

-- a link that breaks: answers to what is lost at the lower end and at the upper, and an Open from each
abbrev pub break_says : {P : Type 0} {S : Type 0} → ℕ → As → As → Membership P S → List Sent
break_says sid l u ms = told l (lost_at l (Inner u) ms) ++ told u (lost_at u (Inner l) (fallen l (Inner u) ms)) ++ [] ++ open_of sid l u ∷ [] ++ open_of sid u l ∷ []

-- ---- maps

pub pair_self : {A : Type 0} (a b : As) (v : A) (f : As → As → A) → set_pair a b v f a b ≡ v
pair_self a b v f =
    ap (λ (c : Bool). cond c (cond (same_as b b) v (f a b)) (f a b)) (self a.0) ∙ ap (λ (c : Bool). cond c v (f a b)) (self b.0)

pub pair_miss : {A : Type 0} (a b x y : As) (v : A) (f : As → As → A) → same_as a x ≡ false → set_pair a b v f x y ≡ f x y
pair_miss a b x y v f miss = ap (λ (c : Bool). cond c (cond (same_as b y) v (f x y)) (f x y)) miss

pub number_self : {A : Type 0} (i : ℕ) (v : A) (f : ℕ → A) → set_number i v f i ≡ v
number_self i v f = ap (λ (c : Bool). cond c v (f i)) (self i)

pub number_miss : {A : Type 0} (i j : ℕ) (v : A) (f : ℕ → A) → (i == j) ≡ false → set_number i v f j ≡ f j
number_miss i j v f miss = ap (λ (c : Bool). cond c v (f j)) miss

module _ {P : Type 0} {S : Type 0} (show : S → List Hop) (n : NetworkParts) where
  put_members : (at : As) (bytes : Bytes) (to : Peer) (s : State P S) → members_of (deeds.put_to P S wire n show at bytes s to) ≡ members_of s
  put_members at bytes (Outside i) s = refl
  put_members at bytes (Inner b) s = refl

  pub put_talks : (at : As) (bytes : Bytes) (to : Peer) (s : State P S) (i : ℕ) → talks i (deeds.put_to P S wire n show at bytes s to) ≡ talks i s
  put_talks at bytes (Inner b) s i = refl
  put_talks at bytes (Outside j) s i = go (j == i) (eqb-true j i)
    where
      go : (b : Bool) → (b ≡ true → j ≡ i) → is_talking (cond b (on_connection (with_more bytes) (s.accesses j)) (s.accesses i)).connection ≡ is_talking (s.accesses i).connection
      go true is = more_talks (s.accesses j).connection (s.accesses j).opened bytes ∙ ap (λ (k : ℕ). is_talking (s.accesses k).connection) (is refl)
      go false is = refl

  puts_leave : (at : As) (os : List Output) (s : State P S) → (members_of (deeds.puts P S wire n show at os s) ≡ members_of s) × ((i : ℕ) → talks i (deeds.puts P S wire n show at os s) ≡ talks i s)
  puts_leave at [] s = (refl, λ i. refl)
  puts_leave at (o ∷ os) s =
      let rest = puts_leave at os (deeds.put P S wire n show at o s) in
      (rest.0 ∙ put_members at (wire.text o.message) o.to s, λ i. rest.1 i ∙ put_talks at (wire.text o.message) o.to s i)

  pub same_leaves : (g : Going P S) → Leaves (members_of g.state) [] g g
  same_leaves g = record { members = refl; said = sym (append-nil (said wire g.deeds)); talks = λ i. refl }

  -- a session that goes down
  pub fall_leaves : (at : As) (p : Peer) (g : Going P S) → Leaves (fallen at p (members_of g.state)) (told at (lost_at at p (members_of g.state))) g (deeds.fall P S wire n show at p g)
  fall_leaves at p g = elim (cases_Bool (same_as at parent_as)) [
    | inl upper ↦ let puts = puts_leave at above.outputs (deeds.with_parent P S wire n show above.parent g.state) in rw upper (record { members = puts.0; said = refl; talks = puts.1 })
    | inr inner ↦ let puts = puts_leave at below.outputs (deeds.with_element P S wire n show at below.element g.state) in rw inner (record { members = puts.0; said = refl; talks = puts.1 })
  ]
    where
      above : parent.ParentTaken
      above = parent.downed p g.state.parent

      below : element.Taken P S
      below = element.downed p (g.state.elements at)

  -- a session that comes up
  pub rise_leaves : (at : As) (p : Peer) (g : Going P S) → Leaves (raised at p (members_of g.state)) [] g (deeds.rise P S wire n show at p g)
  rise_leaves at p g = elim (cases_Bool (same_as at parent_as)) [
    | inl upper ↦ rw upper (record { members = refl; said = refl; talks = λ i. refl })
    | inr inner ↦ rw inner (record { members = refl; said = refl; talks = λ i. refl })
  ]

  -- one deed after the other
  pub leaves_then : (ms1 ms2 : Membership P S) (one two : List Sent) (g g1 g2 : Going P S) → Leaves ms1 one g g1 → Leaves ms2 two g1 g2 → Leaves ms2 (one ++ two) g g2
  leaves_then ms1 ms2 one two g g1 g2 x y = record {
    members = y.members;
    said = y.said ∙ ap (λ (ss : List Sent). ss ++ two) x.said ∙ append_assoc (said wire g.deeds) one two;
    talks = λ i. y.talks i ∙ x.talks i;
  }

  clear_leaves : (x : Adjacency) (g : Going P S) → Leaves (members_of g.state) [] g (deeds.clear P S wire n show x g)
  clear_leaves x g = record { members = refl; said = refl; talks = λ i. refl }

  begin_leaves : (sid : ℕ) (at b : As) (g : Going P S) → Leaves (members_of g.state) (open_of sid at b ∷ []) g (deeds.begin_end P S wire n show sid at b g)
  begin_leaves sid at b g = record { members = refl; said = refl; talks = λ i. refl }

  pub break_leaves : (l u : As) (g : Going P S) → Leaves (fallen u (Inner l) (fallen l (Inner u) (members_of g.state))) (break_says (break_sid l u g) l u (members_of g.state)) g (deeds.break_adjacency P S wire n show (record { lower = l; upper = u }) g)
  break_leaves l u g = all
    where
      sid : ℕ
      sid = break_sid l u g

      ms : Membership P S
      ms = members_of g.state

      x : Adjacency
      x = record { lower = l; upper = u }

      g1 : Going P S
      g1 = deeds.fall P S wire n show l (Inner u) g

      g2 : Going P S
      g2 = deeds.fall P S wire n show u (Inner l) g1

      g3 : Going P S
      g3 = deeds.clear P S wire n show x g2

      g4 : Going P S
      g4 = deeds.begin_end P S wire n show sid l u g3

      one : Leaves (fallen l (Inner u) ms) (told l (lost_at l (Inner u) ms)) g g1
      one = fall_leaves l (Inner u) g

      two : Leaves (fallen u (Inner l) (fallen l (Inner u) ms)) (told u (lost_at u (Inner l) (fallen l (Inner u) ms))) g1 g2
      two = subst (λ (y : Membership P S). Leaves (fallen u (Inner l) y) (told u (lost_at u (Inner l) y)) g1 g2) one.members (fall_leaves u (Inner l) g1)

      three : Leaves (fallen u (Inner l) (fallen l (Inner u) ms)) [] g2 g3
      three = subst (λ (y : Membership P S). Leaves y [] g2 g3) two.members (clear_leaves x g2)

      four : Leaves (fallen u (Inner l) (fallen l (Inner u) ms)) (open_of sid l u ∷ []) g3 g4
      four = subst (λ (y : Membership P S). Leaves y (open_of sid l u ∷ []) g3 g4) two.members (begin_leaves sid l u g3)

      five : Leaves (fallen u (Inner l) (fallen l (Inner u) ms)) (open_of sid u l ∷ []) g4 (deeds.begin_end P S wire n show sid u l g4)
      five = subst (λ (y : Membership P S). Leaves y (open_of sid u l ∷ []) g4 (deeds.begin_end P S wire n show sid u l g4)) two.members (begin_leaves sid u l g4)

      all : Leaves (fallen u (Inner l) (fallen l (Inner u) ms)) (break_says sid l u ms) g (deeds.begin_end P S wire n show sid u l g4)
      all =
          let m1 = fallen l (Inner u) ms in
          let m2 = fallen u (Inner l) m1 in
          let a = leaves_then m1 m2 _ _ g g1 g2 one two in
          let b = leaves_then m2 m2 _ _ g g2 g3 a three in
          let c = leaves_then m2 m2 _ _ g g3 g4 b four in
          leaves_then m2 m2 _ _ g g4 (deeds.begin_end P S wire n show sid u l g4) c five

  -- both queues of the link have its Open alone
  pub break_queues : (l u : As) (g : Going P S) → same_as l u ≡ false →
      ((deeds.break_adjacency P S wire n show (record { lower = l; upper = u }) g).state.queues l u ≡ own_bytes (own.Open (our_offer (break_sid l u g))) ∷ []) ×
      ((deeds.break_adjacency P S wire n show (record { lower = l; upper = u }) g).state.queues u l ≡ own_bytes (own.Open (our_offer (break_sid l u g))) ∷ [])
  break_queues l u g apart = (
    pair_miss u l l u _ q4 (apart_back l u apart) ∙ pair_self l u _ q3 ∙ ap (λ (out : List Bytes). out ++ open' ∷ []) to_upper,
    pair_self u l _ q4 ∙ ap (λ (out : List Bytes). out ++ open' ∷ []) (pair_miss l u u l _ q3 apart ∙ to_lower),
  )
    where
      sid : ℕ
      sid = break_sid l u g

      open' : Bytes
      open' = own_bytes (own.Open (our_offer sid))

      q2 : As → As → List Bytes
      q2 = (deeds.fall P S wire n show u (Inner l) (deeds.fall P S wire n show l (Inner u) g)).state.queues

      q3 : As → As → List Bytes
      q3 = set_pair l u [] (set_pair u l [] q2)

      q4 : As → As → List Bytes
      q4 = set_pair l u (q3 l u ++ open' ∷ []) q3

      to_upper : q3 l u ≡ []
      to_upper = pair_self l u [] (set_pair u l [] q2)

      to_lower : q3 u l ≡ []
      to_lower = pair_miss l u u l [] (set_pair u l [] q2) apart ∙ pair_self u l [] q2

  -- ---- an outside session at a tick

  pub access_talks : (i j : ℕ) (h : Connection → Connection) (s : State P S) → ((x : Connection) → is_down (h x).session.phase ≡ is_down x.session.phase) → talks j (deeds.with_access P S wire n show i h s) ≡ talks j s
  access_talks i j h s same = go (i == j) (eqb-true i j)
    where
      one : (c : Option Connection) (k : ℕ) → is_talking (on_connection h (record { opened = k; connection = c })).connection ≡ is_talking c
      one None k = refl
      one (Some x) k = ap not (same x)

      go : (b : Bool) → (b ≡ true → i ≡ j) → is_talking (cond b (on_connection h (s.accesses i)) (s.accesses j)).connection ≡ is_talking (s.accesses j).connection
      go true is = one (s.accesses i).connection (s.accesses i).opened ∙ ap (λ (k : ℕ). is_talking (s.accesses k).connection) (is refl)
      go false is = refl

  -- a connection whose session is as much over as it was
  pub access_leaves : (i : ℕ) (h : Connection → Connection) (g : Going P S) → ((x : Connection) → is_down (h x).session.phase ≡ is_down x.session.phase) →
      Leaves (members_of g.state) [] g (record { state = deeds.with_access P S wire n show i h g.state; deeds = g.deeds })
  access_leaves i h g same = record { members = refl; said = sym (append-nil (said wire g.deeds)); talks = λ j. access_talks i j h g.state same }

  pub say_leaves : (at : As) (to : Peer) (o : Own) (g : Going P S) → Leaves (members_of g.state) (sent_of at to (own_bytes o) ∷ []) g (deeds.say P S wire n show at to o g)
  say_leaves at to o g = record { members = put_members at (own_bytes o) to g.state; said = refl; talks = put_talks at (own_bytes o) to g.state }

  -- A connection whose session says so many words at most, and is over.
  pub record Closes (i most : ℕ) (g g' : Going P S) : Type 0 where
    pub words : List Bytes
    pub few : length words ≤ most
    pub short : size_in words ≤ 12 * most
    pub members : members_of g'.state ≡ fallen (element_of n i) (Outside i) (members_of g.state)
    pub said : said wire g'.deeds ≡ said wire g.deeds ++ (spoken (element_of n i) (Outside i) words ++ told (element_of n i) (lost_at (element_of n i) (Outside i) (members_of g.state)))
    pub over : talks i g'.state ≡ false
    pub others : (j : ℕ) → (i == j) ≡ false → talks j g'.state ≡ talks j g.state

  over_talks : (i : ℕ) (next : Session) (s : State P S) → is_down next.phase ≡ true → talks i (deeds.with_access P S wire n show i (with_session next) s) ≡ false
  over_talks i next s over = ap (λ (a : Access). is_talking a.connection) (number_self i (on_connection (with_session next) (s.accesses i)) s.accesses) ∙ go (s.accesses i).connection
    where
      go : (c : Option Connection) → is_talking (on_connection (with_session next) (record { opened = (s.accesses i).opened; connection = c })).connection ≡ false
      go None = refl
      go (Some x) = ap not over

  pub closes_after : (i most : ℕ) (words : List Bytes) (next : Session) (g g1 : Going P S) → length words ≤ most → size_in words ≤ 12 * most → is_down next.phase ≡ true →
      Leaves (members_of g.state) (spoken (element_of n i) (Outside i) words) (record { state = deeds.with_access P S wire n show i (with_session next) g.state; deeds = g.deeds }) g1 →
      Closes i most g (deeds.fall P S wire n show (element_of n i) (Outside i) (record { state = deeds.with_access P S wire n show i (with_inbox []) g1.state; deeds = g1.deeds }))
  closes_after i most words next g g1 few short over leaves =
      let at : As = element_of n i in
      let ms : Membership P S = members_of g.state in
      let g2 : Going P S = record { state = deeds.with_access P S wire n show i (with_inbox []) g1.state; deeds = g1.deeds } in
      let falls = fall_leaves at (Outside i) g2 in
      let same : members_of g2.state ≡ ms = leaves.members in
      record {
        words = words;
        few = few;
        short = short;
        members = falls.members ∙ ap (fallen at (Outside i)) same;
        said = falls.said ∙ ap (λ (x : Membership P S). said wire g1.deeds ++ told at (lost_at at (Outside i) x)) same
            ∙ ap (λ (ss : List Sent). ss ++ told at (lost_at at (Outside i) ms)) leaves.said ∙ append_assoc (said wire g.deeds) (spoken at (Outside i) words) (told at (lost_at at (Outside i) ms));
        over = falls.talks i ∙ access_talks i i (with_inbox []) g1.state (λ x. refl) ∙ leaves.talks i ∙ over_talks i next g.state over;
        others = λ j miss. falls.talks j ∙ access_talks i j (with_inbox []) g1.state (λ x. refl) ∙ leaves.talks j
            ∙ ap (λ (a : Access). is_talking a.connection) (number_miss i j (on_connection (with_session next) (g.state.accesses i)) g.state.accesses miss);
      }

  -- what it says, and then goes down
  pub closes_by : (i most : ℕ) (ticks : Bool) (as' : List Action) (words : List Bytes) (next : Session) (g g1 : Going P S) → IsOwnTurn as' → any_fall as' ≡ true → is_down next.phase ≡ true →
      length words + length (said_in as') ≤ most → size_in words + size_in (said_in as') ≤ 12 * most → Leaves (members_of g.state) (spoken (element_of n i) (Outside i) words) (set_at show n (element_of n i) (Outside i) next g) g1 →
      Closes i most g (acts_at P S n show (element_of n i) (Outside i) ticks as' g1)
  closes_by i most ticks [] words next g g1 turn falls over few short leaves = cc
  closes_by i most ticks (action.Send o ∷ as') words next g g1 turn falls over few short leaves =
      go (cond ticks (cond (is_due o) (cond (is_out_empty (g1.state.accesses i).connection) false true) false) false)
      (closes_by i most ticks as' words next g g1 turn falls over (omega (arith, few)) (omega (arith, short)) leaves)
      (closes_by i most ticks as' (words ++ own_bytes o ∷ []) next g g2 turn falls over (omega (arith, few, length_push words (own_bytes o))) (omega (arith, short, total_push words (own_bytes o))) more)
    where
      e : As
      e = element_of n i

      g2 : Going P S
      g2 = deeds.say P S wire n show e (Outside i) o g1

      more : Leaves (members_of g.state) (spoken e (Outside i) (words ++ own_bytes o ∷ [])) (set_at show n e (Outside i) next g) g2
      more = subst (λ (ss : List Sent). Leaves (members_of g.state) ss (set_at show n e (Outside i) next g) g2) (spoken_push e (Outside i) words (own_bytes o))
          (leaves_then (members_of g.state) (members_of g.state) (spoken e (Outside i) words) (sent_of e (Outside i) (own_bytes o) ∷ []) (set_at show n e (Outside i) next g) g1 g2 leaves
          (subst (λ (y : Membership P S). Leaves y (sent_of e (Outside i) (own_bytes o) ∷ []) g1 g2) leaves.members (say_leaves e (Outside i) o g1)))

      go : (b : Bool) → Closes i most g (acts_at P S n show e (Outside i) ticks as' g1) → Closes i most g (acts_at P S n show e (Outside i) ticks as' g2) → Closes i most g (acts_at P S n show e (Outside i) ticks as' (cond b g1 g2))
      go true left said = left
      go false left said = said
  closes_by i most ticks (action.Up ∷ as') words next g g1 turn falls over few short leaves = let none : false ≡ true = subst (λ (ys : List Action). any_fall ys ≡ true) turn falls in cc
  closes_by i most ticks (action.Down why ∷ as') words next g g1 turn falls over few short leaves =
      let e = element_of n i in
      subst (λ (ys : List Action). Closes i most g (acts_at P S n show e (Outside i) ticks ys (down_at P S n show e (Outside i) g1))) (sym turn)
      (closes_after i most words next g g1 (omega (arith, few)) (omega (arith, short)) over leaves)
  closes_by i most ticks (action.Pass m ∷ as') words next g g1 turn falls over few short leaves = absurd turn

  -- ---- any session

  -- the state that was set
  pub session_set : (at : As) (to : Peer) (s next : Session) (g : Going P S) → session_in at to g.state ≡ Some s → session_in at to (set_at show n at to next g).state ≡ Some next
  session_set at (Inner b) s next g there = ap Some (pair_self at b next g.state.sessions)
  session_set at (Outside i) s next g there =
      ap (λ (a : Access). option_map (λ (k : Connection). k.session) a.connection) (number_self i (on_connection (with_session next) (g.state.accesses i)) g.state.accesses) ∙ go (g.state.accesses i).connection there
    where
      go : (c : Option Connection) → option_map (λ (k : Connection). k.session) c ≡ Some s → option_map (λ (k : Connection). k.session) (on_connection (with_session next) (record { opened = (g.state.accesses i).opened; connection = c })).connection ≡ Some next
      go None e = cc
      go (Some k) e = refl

  -- as much waits for the peer as before
  pub out_set : (at : As) (to : Peer) (next : Session) (g : Going P S) → is_out_empty_at P S n show at to (set_at show n at to next g).state ≡ is_out_empty_at P S n show at to g.state
  out_set at (Inner b) next g = refl
  out_set at (Outside i) next g =
      ap (λ (a : Access). is_out_empty a.connection) (number_self i (on_connection (with_session next) (g.state.accesses i)) g.state.accesses) ∙ go (g.state.accesses i).connection
    where
      go : (c : Option Connection) → is_out_empty (on_connection (with_session next) (record { opened = (g.state.accesses i).opened; connection = c })).connection ≡ is_out_empty c
      go None = refl
      go (Some k) = refl

  -- a message that is said first waits alone
  pub said_alone : (at : As) (to : Peer) (s : Session) (o : Own) (g : Going P S) (ms : Membership P S) (f : Flow) → session_in at to g.state ≡ Some s → is_out_empty_at P S n show at to g.state ≡ true →
      IsAt (deeds.say P S wire n show at to o g) ms f → queue_at at to f ≡ own_bytes o ∷ []
  said_alone at (Inner b) s o g ms f there none is =
      ap (λ (z : State P S). z.queues at b) is.state ∙ pair_self at b (g.state.queues at b ++ own_bytes o ∷ []) g.state.queues ∙ ap (λ (out : List Bytes). out ++ own_bytes o ∷ []) (empty_is (g.state.queues at b) none)
  said_alone at (Outside i) s o g ms f there none is =
      ap (λ (z : State P S). out_of (z.accesses i).connection) is.state ∙ ap (λ (a : Access). out_of a.connection) (number_self i (on_connection (with_more (own_bytes o)) (g.state.accesses i)) g.state.accesses)
      ∙ go (g.state.accesses i).connection there none
    where
      go : (c : Option Connection) → option_map (λ (k : Connection). k.session) c ≡ Some s → is_out_empty c ≡ true →
          out_of (on_connection (with_more (own_bytes o)) (record { opened = (g.state.accesses i).opened; connection = c })).connection ≡ own_bytes o ∷ []
      go None e e' = cc
      go (Some k) e e' = ap (λ (out : List Bytes). out ++ own_bytes o ∷ []) (empty_is k.out e')

  -- a step after which it is as much over as before
  pub stays_leaves : (at : As) (to : Peer) (s next : Session) (g : Going P S) → session_in at to g.state ≡ Some s → is_down next.phase ≡ is_down s.phase → Leaves (members_of g.state) [] g (set_at show n at to next g)
  stays_leaves at (Inner b) s next g there same = record { members = refl; said = sym (append-nil (said wire g.deeds)); talks = λ i. refl }
  stays_leaves at (Outside i) s next g there same = record { members = refl; said = sym (append-nil (said wire g.deeds)); talks = λ j. go j (i == j) (eqb-true i j) }
    where
      one : (c : Option Connection) → option_map (λ (k : Connection). k.session) c ≡ Some s → is_talking (on_connection (with_session next) (record { opened = (g.state.accesses i).opened; connection = c })).connection ≡ is_talking c
      one None e = cc
      one (Some k) e = ap not (same ∙ ap (λ (q : Session). is_down q.phase) (sym (some_is k.session s e)))

      go : (j : ℕ) (b : Bool) → (b ≡ true → i ≡ j) → is_talking (cond b (on_connection (with_session next) (g.state.accesses i)) (g.state.accesses j)).connection ≡ is_talking (g.state.accesses j).connection
      go j true hit = one (g.state.accesses i).connection there ∙ ap (λ (k : ℕ). is_talking (g.state.accesses k).connection) (hit refl)
      go j false hit = refl

  pub expire_leaves : (now : ℕ) (g : Going P S) → Leaves (expired now (members_of g.state)) [] g (deeds.expire P S wire n show now g)
  expire_leaves now g = record { members = refl; said = refl; talks = λ i. refl }
