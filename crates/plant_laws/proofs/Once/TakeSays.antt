-- Where a reply of paths, or that there are none, comes from when an element takes a message: a key, or a reply that is passed on.
use Rattle.std.proofs.Common.{◌≡◌, ℕ, Bool, true, false, cond, List, [], ◌∷◌, Option, Some, None, sym, ◌∙◌, ap, subst, inl, inr, refl, arith}
use Rattle.std.specs.Prelude.{Contains, ◌==◌}
use Rattle.std.proofs.lemmas.List.Elements.{Contains-append_cases}
use Rattle.plant_model.specs.Types.{Addr, As, Peer, Asked, Answer, Path as PathRow, Reply, Message, Request, Wanted, Wish, Class}
use Rattle.pcep_messages.specs.declared.message.Answer.TheVariants.{Paths, NoPath}
use Rattle.pcep_messages.specs.declared.message.Message.TheVariants as messages
use Rattle.pcep_messages.specs.declared.message.Wish.TheVariants.{Path, Expand}
use Rattle.disclosure.specs.Shown.{open_of}
use Rattle.request_table.specs.Pending.{same_peer, number_of, is_full}
use Rattle.plant_model.specs.declared.output.Output.{Output}
use Rattle.plant_model.specs.Names.{the_parent}
use Rattle.plant_model.specs.Wire.{Codec, Checked, Admitted, Wrong}
use Rattle.plant_model.specs.Writing.{reply_message, error_message, request_message, unavailable, busy}
use Rattle.disclosure.specs.Policy.{is_denied}
use Rattle.plant_model.specs.Element.{Item, Row, Way, Element, ElementSettings, Taken, each, waiting, waits_for, way_to, fresh_id}
use Rattle.plant_model.specs.Routes.{toward}
use Rattle.plant_model.specs.Taking.{goes_up, sequence_or, send_on, take_along, take_path, take_wish, take_new, take_checked, take_asked, take_answer, take_reply, made_ready, answered, expansion, sight, wanting}
use Rattle.plant_model.specs.Plant.{Pin, Segment}
use Rattle.border_costs.proofs.Members.{contains_none}
use Rattle.plant_laws.proofs.Runs.Rows.{In}
use Rattle.plant_laws.proofs.Least.Spoken.{is_reply, one_said, reply_is}
use Rattle.plant_laws.proofs.Least.RowsKept.{found_in, readies, ends}
use Rattle.plant_laws.proofs.Runs.TablesKept.{Keeps, in_rows}
use Rattle.plant_laws.proofs.Runs.TakesKept.{reply_after}
use Rattle.plant_laws.proofs.Least.Readied as readied
use Rattle.plant_laws.proofs.Least.Readied.{FromOld}
use Rattle.plant_laws.specs.Certified.{Tells}

no_reply : (m : Message) (r : Reply) → is_reply m ≡ false → m ≡ messages.PcRep (r ∷ []) → ⊥
no_reply m r none same = differ (sym none ∙ ap is_reply same)
  where
    differ : false ≡ true → ⊥
    differ e = cc

abbrev pub OneTold : Peer → Reply → List Output → Type 0
OneTold to r os = Contains os (record { to = to; message = messages.PcRep (r ∷ []) })

module _ (to : Peer) (r : Reply) (paths : List PathRow) (tells : Tells r.answer paths) where
  -- one message that is no reply, or tells of no paths
  pub other_one : (q : Peer) (m : Message) → is_reply m ≡ false → OneTold to r (record { to = q; message = m } ∷ []) → ⊥
  other_one q m none h = no_reply m r none (one_said q to m r h).1

  pub not_known : (q : Peer) (flags x : ℕ) → OneTold to r (record { to = q; message = reply_message flags x unavailable } ∷ []) → ⊥
  not_known q flags x h =
      let is = reply_is (record { flags = flags; id = x; answer = unavailable }) r (one_said q to (reply_message flags x unavailable) r h).1 in
      let t : Tells unavailable paths = subst (λ (a : Answer). Tells a paths) (ap (λ (z : Reply). z.answer) (sym is)) tells in
      let one : 1 ≡ 0 = t.0 in
      omega (arith, one)

  module _ (c : Codec) (e : ElementSettings) (pin : Pin) (p : Peer) (class : Class) (now : ℕ) where
    pub record IsKeyReply (a : Asked) : Type 0 where
      pub request : Request
      pub admits : c.check a e.own ≡ Admitted request
      pub key : ℕ
      pub pce : Addr
      pub wish : request.wish ≡ Expand key pce
      pub flags : r.flags ≡ request.flags
      pub is_to : p ≡ to

    abbrev Silent : Taken Pin Segment → Type 0
    Silent t = OneTold to r t.outputs → ⊥

    pick : (b : Bool) (t u : Taken Pin Segment) → Silent t → Silent u → Silent (cond b t u)
    pick true t u f g = f
    pick false t u f g = g

    on_says : (flags x : ℕ) (w : Wanted) (sequence rest : List As) (refused : Bool) (k : Element Pin Segment) (o : Option Way) → Silent (send_on (sight pin p class) (wanting flags x w) sequence rest refused k o)
    on_says flags x w sequence rest refused k None = not_known p flags x
    on_says flags x w sequence rest refused k (Some way) =
        pick way.up _ _ (pick refused _ _ (not_known p flags x) (λ h. other_one way.peer (request_message (fresh_id way.peer way.last_id k.pending.rows) w w.target rest) refl h)) (not_known p flags x)

    along_says : (flags x : ℕ) (w : Wanted) (k : Element Pin Segment) (path : List As) → Silent (take_along e (sight pin p class) (wanting flags x w) k path)
    along_says flags x w k [] h = not_known p flags x h
    along_says flags x w k (a ∷ []) h = contains_none _ h
    along_says flags x w k (a ∷ b ∷ rest) h = on_says flags x w (a ∷ b ∷ rest) (b ∷ rest) (is_denied e.deny class b) k (way_to (toward b e.routes) k.ways) h

    path_says : (flags x : ℕ) (w : Wanted) (k : Element Pin Segment) → Silent (take_path e (sight pin p class) (wanting flags x w) k)
    path_says flags x w k =
        pick (goes_up e.parent class w.sequence) _ _ (on_says flags x w [] [] false k (way_to the_parent k.ways)) (along_says flags x w k (sequence_or e.own w.sequence))

    pub asked_says : (a : Asked) (k : Element Pin Segment) → OneTold to r (take_asked c open_of e pin p class now a k).outputs → IsKeyReply a
    asked_says a k = go (c.check a e.own) refl
      where
        wish_says : (q : Request) → c.check a e.own ≡ Admitted q → (v : Wish) → q.wish ≡ v → OneTold to r (take_wish open_of e (sight pin p class) now q.flags q.id k v).outputs → IsKeyReply a
        wish_says q is (Path w) wish h = absurd (pick (is_full k.pending) _ _ (λ h'. other_one p (busy q.flags q.id) refl h') (path_says q.flags q.id w k) h)
        wish_says q is (Expand key pce) wish h =
            let answer = expansion open_of e class now key pce k in
            let s = one_said p to (reply_message q.flags q.id answer) r h in
            let same = reply_is (record { flags = q.flags; id = q.id; answer = answer }) r s.1 in
            record { request = q; admits = is; key = key; pce = pce; wish = wish; flags = ap (λ (z : Reply). z.flags) (sym same); is_to = s.0 }

        new_says : (q : Request) → c.check a e.own ≡ Admitted q → (o : Option ℕ) → OneTold to r (take_new open_of e pin p class now q k o).outputs → IsKeyReply a
        new_says q is None h = wish_says q is q.wish refl h
        new_says q is (Some number) h = absurd (contains_none _ h)

        go : (o : Checked) → c.check a e.own ≡ o → OneTold to r (take_checked open_of e pin p class now k o).outputs → IsKeyReply a
        go (Wrong rp kind value) is h = absurd (other_one p (error_message rp kind value) refl h)
        go (Admitted q) is h = new_says q is (number_of k.pending p q.id) h

  module _ (c : Codec) (p : Peer) where
    -- a reply that is passed on, and the row that waits for it
    pub record IsPassed (h : Row Pin) (reply : Reply) : Type 0 where
      pub upper : same_peer p the_parent ≡ true
      pub is_to : h.1.key.peer ≡ to
      pub id : r.id ≡ h.1.key.id
      pub answer : r.answer ≡ reply.answer

    quiet_pick : (b : Bool) (t u : Taken Pin Segment) → (OneTold to r t.outputs → ⊥) → (OneTold to r u.outputs → ⊥) → OneTold to r (cond b t u).outputs → ⊥
    quiet_pick true t u f g = f
    quiet_pick false t u f g = g

    ready_says : (h : Row Pin) (a : Answer) (k : Element Pin Segment) → OneTold to r (made_ready c h a k).outputs → ⊥
    ready_says h (Paths ps) k = λ said. contains_none _ said
    ready_says h (NoPath nature vector) k = quiet_pick (nature == 0) _ _ (λ said. contains_none _ said) (not_known h.1.key.peer h.1.item.flags h.1.key.id)

    answer_says : (reply : Reply) (k : Element Pin Segment) (o : Option (Row Pin)) → OneTold to r (take_answer c p reply k o).outputs → (h : Row Pin) × (o ≡ Some h) × IsPassed h reply
    answer_says reply k None = λ said. absurd (other_one p (error_message (Some (reply.flags, reply.id)) 8 0) refl said)
    answer_says reply k (Some h) = go (same_peer p the_parent) refl
      where
        go : (b : Bool) → same_peer p the_parent ≡ b → OneTold to r (cond b (answered h (reply_message h.1.item.flags h.1.key.id reply.answer) k) (made_ready c h reply.answer k)).outputs → (g : Row Pin) × (Some h ≡ Some g) × IsPassed g reply
        go true is said =
            let s = one_said h.1.key.peer to (reply_message h.1.item.flags h.1.key.id reply.answer) r said in
            let same = reply_is (record { flags = h.1.item.flags; id = h.1.key.id; answer = reply.answer }) r s.1 in
            (h, refl, record { upper = is; is_to = s.0; id = ap (λ (z : Reply). z.id) (sym same); answer = ap (λ (z : Reply). z.answer) (sym same) })
        go false is said = absurd (ready_says h reply.answer k said)

    -- of several replies, by the rows before them
    pub record IsPassedOn (old : List (Row Pin)) (rs : List Reply) : Type 0 where
      pub row : Row Pin
      pub is_row : In row old
      pub reply : Reply
      pub is_reply' : In reply rs
      pub waits : waits_for p reply.id row.1.item.stage ≡ true
      pub passed : IsPassed row reply

    module _ (old : List (Row Pin)) (rs : List Reply) where
      abbrev Held_ : Element Pin Segment → Type 0
      Held_ k = Keeps (FromOld c old p rs) k.pending

      some_same : {X : Type 0} (x y : X) → ◌≡◌ {A = Option X} (Some x) (Some y) → x ≡ y
      some_same x y e = cc

      one_says : (reply : Reply) → In reply rs → (k : Element Pin Segment) → Held_ k → OneTold to r (take_reply c p reply k).outputs → IsPassedOn old rs
      one_says reply i k held said =
          let a = answer_says reply k (waiting p reply.id k.pending.rows) said in
          let found = found_in p reply.id k.pending.rows a.0 a.1 in
          go a.0 a.2 found.1 (in_rows (FromOld c old p rs) a.0 k.pending.rows held.rows found.0)
        where
          go : (h : Row Pin) → IsPassed h reply → waits_for p reply.id h.1.item.stage ≡ true → FromOld c old p rs h.1 → IsPassedOn old rs
          go h passed waits (inl q) = record {
            row = q.0;
            is_row = q.1;
            reply = reply;
            is_reply' = i;
            waits = subst (λ (x : Item Pin). waits_for p reply.id x.stage ≡ true) q.3 waits;
            passed = record { upper = passed.upper; is_to = sym (ap (λ z. z.peer) q.2) ∙ passed.is_to; id = passed.id ∙ ap (λ z. z.id) q.2; answer = passed.answer };
          }
          go h passed waits (inr (inl q)) = absurd (readied.no_wait c old p rs reply q.0.1.item _ h.1.item q.3.is waits)
          go h passed waits (inr (inr q)) = absurd (readied.none_in c old p rs reply q.0 i)

      pub replies_say : (rest : List Reply) → ((x : Reply) → In x rest → In x rs) → (k : Element Pin Segment) → Held_ k → OneTold to r (each (take_reply c p) rest k).outputs → IsPassedOn old rs
      replies_say [] within k held said = absurd (contains_none _ said)
      replies_say (x ∷ xs) within k held said =
          elim (Contains-append_cases (take_reply c p x k).outputs (each (take_reply c p) xs (take_reply c p x k).element).outputs _ said) [
            | inl here ↦ one_says x (within x (inl refl)) k held here
            | inr later ↦
                replies_say xs (λ y i. within y (inr i)) (take_reply c p x k).element
                (reply_after Held_ (ends (FromOld c old p rs)) c p rs (readies (FromOld c old p rs) c p rs (readied.made_ready c old p rs)) x (within x (inl refl)) k held) later
          ]
