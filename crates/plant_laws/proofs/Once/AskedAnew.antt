-- What is said to the sender of a message that asks: one answer at most, under the id of the request, and none to a repeat of one
-- that is pending.
use Rattle.std.proofs.Common.{◌≡◌, ◌+◌, ◌≤◌, ◌==◌, ℕ, Bool, true, false, cond, List, [], ◌∷◌, Option, Some, None, refl, arith}
use Rattle.plant_model.specs.Types.{Peer, Inner, As, Hop, Asked, Message, Request, Wanted, Wish, Class}
use Rattle.pcep_messages.specs.declared.message.Message.TheVariants as messages
use Rattle.pcep_messages.specs.declared.message.Wish.TheVariants.{Path, Expand}
use Rattle.disclosure.specs.Policy.{is_denied}
use Rattle.request_table.specs.Pending.{Pending, number_of, is_full, same_peer}
use Rattle.plant_text.specs.Names.{parent_as}
use Rattle.plant_model.specs.Names.{the_parent, has_pair}
use Rattle.plant_model.specs.Wire.{Codec, Checked, Admitted, Wrong}
use Rattle.plant_model.specs.Writing.{error_message, reply_message, request_message, busy, unavailable, no_key, ids_of}
use Rattle.plant_model.specs.Element.{Element, Way, ElementSettings, Taken, fresh_id, way_to, with_last}
use Rattle.plant_model.specs.Routes.{toward}
use Rattle.plant_model.specs.Taking.{take, take_asked, take_checked, take_new, take_wish, take_path, take_along, send_on, sequence_or, goes_up, expansion, sight, wanting}
use Rattle.plant_model.specs.Parent as parent
use Rattle.plant_model.specs.Parent.{Family, Parent, ParentTaken, Wait, Errand}
use Rattle.plant_laws.specs.Transcript.{one_if, has_id, count_answers, answers_to}
use Rattle.plant_laws.proofs.Once.Counting.{answers_append, reply_at, busy_at}

-- how often a message asks under an id: that of the request, or of the RP of what is refused
abbrev pub asks_under : ℕ → Checked → ℕ
asks_under x (Admitted r) = one_if (r.id == x)
asks_under x (Wrong None kind value) = 0
asks_under x (Wrong (Some rp) kind value) = one_if (rp.1 == x)

-- what is asked is not pending
abbrev pub IsNew : {T : Type 0} → Pending T → Peer → Checked → Type 0
IsNew t p (Admitted r) = number_of t p r.id ≡ None
IsNew t p (Wrong rp kind value) = Unit {0}

said : (p q : Peer) (x n : ℕ) (m : Message) → count_answers x m ≤ n → answers_to q x (record { to = p; message = m } ∷ []) ≤ n
said p q x n m le = go (same_peer p q)
  where
    go : (b : Bool) → cond b (count_answers x m) 0 + 0 ≤ n
    go true = omega (arith, le)
    go false = omega arith

-- an error tells the RP of what was refused
error_under : (x : ℕ) (rp : Option (ℕ × ℕ)) (kind value : ℕ) → count_answers x (error_message rp kind value) ≤ asks_under x (Wrong rp kind value)
error_under x rp kind value = go rp (has_pair 8 0 ((kind, value) ∷ []))
  where
    either : (b b' : Bool) → one_if (cond b false (cond b' true false)) + 0 ≤ one_if b'
    either true b' = omega arith
    either false true = omega arith
    either false false = omega arith

    neither : (b : Bool) → one_if (cond b false false) + 0 ≤ 0
    neither true = omega arith
    neither false = omega arith

    go : (rp : Option (ℕ × ℕ)) (b : Bool) → one_if (cond b false (has_id x (ids_of rp))) + 0 ≤ asks_under x (Wrong rp kind value)
    go None b = neither b
    go (Some r) b = either b (r.1 == x)

-- an element
module _ (P : Type 0) (S : Type 0) (show : S → List Hop) (e : ElementSettings) (pin : P) (p : Peer) (class : Class) (now : ℕ) (q : Peer) (x : ℕ) where
  abbrev says : Taken P S → ℕ
  says t = answers_to q x t.outputs

  pick : (n : ℕ) (b : Bool) (t u : Taken P S) → says t ≤ n → says u ≤ n → says (cond b t u) ≤ n
  pick n true t u h g = h
  pick n false t u h g = g

  denies : (flags y : ℕ) → answers_to q x (record { to = p; message = reply_message flags y unavailable } ∷ []) ≤ one_if (y == x)
  denies flags y = said p q x (one_if (y == x)) (reply_message flags y unavailable) (reply_at flags y unavailable x)

  sends : (flags y : ℕ) (w : Wanted) (sequence rest : List As) (refused : Bool) (k : Element P S) (o : Option Way) → says (send_on (sight pin p class) (wanting flags y w) sequence rest refused k o) ≤ one_if (y == x)
  sends flags y w sequence rest refused k None = denies flags y
  sends flags y w sequence rest refused k (Some way) =
      pick (one_if (y == x)) way.up _ _
      (pick (one_if (y == x)) refused _ _ (denies flags y) (said way.peer q x (one_if (y == x)) (request_message (fresh_id way.peer way.last_id k.pending.rows) w w.target rest) (omega arith))) (denies flags y)

  along : (flags y : ℕ) (w : Wanted) (k : Element P S) (sequence : List As) → says (take_along e (sight pin p class) (wanting flags y w) k sequence) ≤ one_if (y == x)
  along flags y w k [] = denies flags y
  along flags y w k (a ∷ []) = omega arith
  along flags y w k (a ∷ b ∷ rest) = sends flags y w (a ∷ b ∷ rest) (b ∷ rest) (is_denied e.deny class b) k (way_to (toward b e.routes) k.ways)

  wishes : (flags y : ℕ) (k : Element P S) (wish : Wish) → says (take_wish show e (sight pin p class) now flags y k wish) ≤ one_if (y == x)
  wishes flags y k (Path w) =
      pick (one_if (y == x)) (is_full k.pending) _ (take_path e (sight pin p class) (wanting flags y w) k) (said p q x (one_if (y == x)) (busy flags y) (busy_at flags y x))
      (pick (one_if (y == x)) (goes_up e.parent class w.sequence) _ _ (sends flags y w [] [] false k (way_to the_parent k.ways)) (along flags y w k (sequence_or e.own w.sequence)))
  wishes flags y k (Expand key pce) =
      said p q x (one_if (y == x)) (reply_message flags y (expansion show e class now key pce k)) (reply_at flags y (expansion show e class now key pce k) x)

  news : (r : Request) (k : Element P S) (o : Option ℕ) → says (take_new show e pin p class now r k o) ≤ one_if (r.id == x)
  news r k (Some number) = omega arith
  news r k None = wishes r.flags r.id k r.wish

  checks : (k : Element P S) (o : Checked) → says (take_checked show e pin p class now k o) ≤ asks_under x o
  checks k (Wrong rp kind value) = said p q x (asks_under x (Wrong rp kind value)) (error_message rp kind value) (error_under x rp kind value)
  checks k (Admitted r) = news r k (number_of k.pending p r.id)

  fresh : (k : Element P S) (o : Checked) → 1 ≤ says (take_checked show e pin p class now k o) → IsNew k.pending p o
  fresh k (Wrong rp kind value) some = tt
  fresh k (Admitted r) some = go (number_of k.pending p r.id) some
    where
      go : (o : Option ℕ) → 1 ≤ says (take_new show e pin p class now r k o) → o ≡ None
      go None some = refl
      go (Some number) some = absurd (omega (arith, some))

  module _ (c : Codec) (a : Asked) (k : Element P S) where
    alone : says (take c show e pin p class now (messages.PcReq (a ∷ [])) k) ≡ says (take_asked c show e pin p class now a k)
    alone = omega (arith, answers_append q x (take_asked c show e pin p class now a k).outputs [])

    pub said_under : says (take c show e pin p class now (messages.PcReq (a ∷ [])) k) ≤ asks_under x (c.check a e.own)
    said_under = omega (arith, alone, checks k (c.check a e.own))

    pub said_new : 1 ≤ says (take c show e pin p class now (messages.PcReq (a ∷ [])) k) → IsNew k.pending p (c.check a e.own)
    said_new some = fresh k (c.check a e.own) (omega (arith, alone, some))

-- the parent
module _ (f : Family) (p : Peer) (q : Peer) (x : ℕ) where
  abbrev says_above : ParentTaken → ℕ
  says_above t = answers_to q x t.outputs

  pick_above : (n : ℕ) (b : Bool) (t u : ParentTaken) → says_above t ≤ n → says_above u ≤ n → says_above (cond b t u) ≤ n
  pick_above n true t u h g = h
  pick_above n false t u h g = g

  asks_all : (w : Wanted) (before : List Wait) (rs : List Errand) (ways : List Way) → answers_to q x (parent.ask_all w before rs ways).outputs ≡ 0
  asks_all w before [] ways = refl
  asks_all w before (r ∷ rs) ways =
      let y = parent.next_id (Inner r.child) before ways in
      let one : Wait = record { peer = Inner r.child; id = y; child = r.child; target = r.target } in
      let rest = asks_all w (one ∷ before) rs (with_last (Inner r.child) y ways) in
      let none = said (Inner r.child) q x 0 (request_message y w r.target (r.child ∷ [])) (omega arith) in
      omega (arith, rest, none)

  wishes_above : (flags y : ℕ) (k : Parent) (wish : Wish) → says_above (parent.take_wish f p flags y k wish) ≤ one_if (y == x)
  wishes_above flags y k (Expand key pce) = said p q x (one_if (y == x)) (reply_message flags y no_key) (reply_at flags y no_key x)
  wishes_above flags y k (Path w) =
      pick_above (one_if (y == x)) (is_full k.pending) _ _ (said p q x (one_if (y == x)) (busy flags y) (busy_at flags y x))
      (pick_above (one_if (y == x)) (parent.all_up f.children k.ways) _ _
      (let none = asks_all w (parent.all_waits k.pending.rows) (parent.errands f.links w.target f.children) k.ways in omega (arith, none))
      (said p q x (one_if (y == x)) (reply_message flags y unavailable) (reply_at flags y unavailable x)))

  news_above : (r : Request) (k : Parent) (o : Option ℕ) → says_above (parent.take_new f p r k o) ≤ one_if (r.id == x)
  news_above r k (Some number) = omega arith
  news_above r k None = wishes_above r.flags r.id k r.wish

  checks_above : (k : Parent) (o : Checked) → says_above (parent.take_checked f p k o) ≤ asks_under x o
  checks_above k (Wrong rp kind value) = said p q x (asks_under x (Wrong rp kind value)) (error_message rp kind value) (error_under x rp kind value)
  checks_above k (Admitted r) = news_above r k (number_of k.pending p r.id)

  fresh_above : (k : Parent) (o : Checked) → 1 ≤ says_above (parent.take_checked f p k o) → IsNew k.pending p o
  fresh_above k (Wrong rp kind value) some = tt
  fresh_above k (Admitted r) some = go (number_of k.pending p r.id) some
    where
      go : (o : Option ℕ) → 1 ≤ says_above (parent.take_new f p r k o) → o ≡ None
      go None some = refl
      go (Some number) some = absurd (omega (arith, some))

  module _ (c : Codec) (a : Asked) (k : Parent) where
    alone_above : says_above (parent.take c f p (messages.PcReq (a ∷ [])) k) ≡ says_above (parent.take_asked c f p a k)
    alone_above = omega (arith, answers_append q x (parent.take_asked c f p a k).outputs [])

    pub above_under : says_above (parent.take c f p (messages.PcReq (a ∷ [])) k) ≤ asks_under x (c.check a parent_as)
    above_under = omega (arith, alone_above, checks_above k (c.check a parent_as))

    pub above_new : 1 ≤ says_above (parent.take c f p (messages.PcReq (a ∷ [])) k) → IsNew k.pending p (c.check a parent_as)
    above_new some = fresh_above k (c.check a parent_as) (omega (arith, alone_above, some))
