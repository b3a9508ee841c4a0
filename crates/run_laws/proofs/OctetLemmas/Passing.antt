-- What an element sends on for a message: with the requests that go from one end to another it is no heavier than the message.
use Rattle.std.proofs.Common.{◌≡◌, ◌≢◌, ◌∙◌, ◌⊎◌, ◌≤◌, ◌<◌, ◌+◌, ◌^◌, ◌==◌, ℕ, Bool, true, false, cond, List, [], ◌∷◌, Option, Some, None, length, inl, inr, refl, sym, ap, subst, arith}
use Rattle.std.specs.Prelude.{All}
use Rattle.std.proofs.Math.Nat.{le_refl}
use Rattle.std.proofs.lemmas.Bool.{eqb-false, ne_eqb}
use Rattle.std.proofs.lemmas.List.Elements.{All-nil, All-tail}
use Rattle.plant_laws.specs.plant_model.Types.{As, Peer, Outside, Inner, Class, Asked, Message, Request, Wanted, Wish, NetworkParts}
use Rattle.disclosure.specs.Shown.{open_of}
use Rattle.pcep_subobjects.specs.Subobjects.{AreOctets}
use Rattle.pcep_messages.specs.Spelling.{IsWritten}
use Rattle.pcep_messages.specs.declared.message.Message.TheVariants as messages
use Rattle.pcep_messages.specs.declared.message.Wish.TheVariants.{Path, Expand}
use Rattle.plant_text.specs.Names.{same_as, parent_as}
use Rattle.plant_laws.specs.plant_model.declared.output.Output.{Output}
use Rattle.plant_laws.specs.plant_model.Names.{the_parent}
use Rattle.plant_laws.specs.plant_model.Wire.{Bytes, Codec, Checked, Admitted, Wrong}
use Rattle.plant_laws.specs.plant_model.Laws.{IsCodec, IsSequence, Admits, IsRequestInRange, CanBeSent}
use Rattle.plant_laws.specs.plant_model.Writing.{asked_of, request_message}
use Rattle.plant_laws.specs.plant_model.Element.{Element, ElementSettings, Taken, fresh_id, is_waiting}
use Rattle.plant_laws.specs.plant_model.Routes.{toward}
use Rattle.plant_laws.specs.plant_model.Taking.{take, sequence_or}
use Rattle.plant_laws.specs.plant_model.Plant.{Pin, Segment}
use Rattle.plant_laws.specs.Sending.{AreAll}
use Rattle.plant_laws.proofs.Once.Takes.{IsSingle}
use Rattle.plant_laws.specs.Transcript.{one_if}
use Rattle.plant_laws.proofs.Least.FromElement.{admits_path, later_sequence, real_next}
use Rattle.plant_laws.proofs.WrittenForm.ElementSays.{IsId, WaysOk, WayOk, next_fits, next_some, ways_last, way_fits}
use Rattle.plant_laws.proofs.Numbering.NumberRuns.{toward_inner}
use Rattle.plant_laws.proofs.Numbering.Onward.{IsCalm, SendsOne, GoesTo, Of, take_of, way_peer}
use Rattle.run_laws.proofs.OctetLemmas.Heavy.{checked_heavy, asked_heavy, message_heavy, read_heavy}
use Rattle.run_laws.proofs.OctetLemmas.Steps.{goes, route_heavy, few_routes, alone_routes, up_steps, on_steps}
use Rattle.run_laws.proofs.OctetLemmas.Putting.{asked_by, one_asked, IsFair, IsMeant, Passes, passes_none, passes_one, passes_more}

-- how many requests a message has that was read
abbrev asked_in : Option Message → ℕ
asked_in None = 0
asked_in (Some (messages.PcReq asked)) = length asked
asked_in (Some (messages.PcRep replies)) = 0
asked_in (Some (messages.PcNtf notices)) = 0
asked_in (Some (messages.PcErr reports)) = 0
asked_in (Some (messages.Open body)) = 0
asked_in (Some messages.Keepalive) = 0
asked_in (Some (messages.Close why)) = 0
asked_in (Some (messages.Other kind)) = 0

-- what is behind the own domain
behind : (own own' next : As) (rest more : List As) → own ∷ rest ≡ own' ∷ next ∷ more → rest ≡ next ∷ more
behind own own' next rest more same = cc

-- where it is of requests, the bytes say it
abbrev pub ReadsAsks : Codec → Bytes → Message → Type 0
ReadsAsks c bytes m = (asks : List Asked) → m ≡ messages.PcReq asks → c.read bytes ≡ Some (messages.PcReq asks)

module _ (x y : As) (c : Codec) (codec : IsCodec c) (n : NetworkParts) where
  -- a request in written form is fair
  written_fair : (asked : Asked) → IsWritten (messages.PcReq (asked ∷ [])) → IsFair c n (c.text (messages.PcReq (asked ∷ [])))
  written_fair asked written others is = (codec.texts.bytes (messages.PcReq (asked ∷ [])) written, sym (ap asked_in (sym (codec.texts.reads (messages.PcReq (asked ∷ [])) written) ∙ is)))

  written_heavy : (b : As) (asked : Asked) → IsWritten (messages.PcReq (asked ∷ [])) → read_heavy x y c b (c.read (c.text (messages.PcReq (asked ∷ [])))) ≡ asked_heavy x y c b asked
  written_heavy b asked written = ap (λ (o : Option Message). read_heavy x y c b o) (codec.texts.reads (messages.PcReq (asked ∷ [])) written) ∙ plain (asked_heavy x y c b asked)
    where
      plain : (w : ℕ) → w + 0 ≡ w
      plain w = omega arith

  -- it goes from x to y once at most
  sequence_few : (own : As) (sequence : List As) → (sequence ≡ []) ⊎ ((rest : List As) × (sequence ≡ own ∷ rest) × IsSequence own rest) → route_heavy x y (sequence_or own sequence) ≤ 1
  sequence_few own sequence (inl none) = subst (λ (l : List As). route_heavy x y (sequence_or own l) ≤ 1) (sym none) (alone_routes x y own)
  sequence_few own sequence (inr some) = subst (λ (l : List As). route_heavy x y (sequence_or own l) ≤ 1) (sym some.1) (few_routes x y own some.0 some.2.differ)

  checked_few : (own : As) (a : Asked) → checked_heavy x y c own (c.check a own) ≤ 1
  checked_few own a = go (c.check a own) refl
    where
      wish : (r : Request) → c.check a own ≡ Admitted r → (w : Wish) → r.wish ≡ w → checked_heavy x y c own (Admitted (record r { wish = w })) ≤ 1
      wish r is (Path w) asks = sequence_few own w.sequence (codec.onward.own a own r.flags r.id w (admits_path c a own r w is asks)).2
      wish r is (Expand key pce) asks = omega arith

      go : (o : Checked) → c.check a own ≡ o → checked_heavy x y c own o ≤ 1
      go (Wrong rp kind value) is = omega arith
      go (Admitted r) is = wish r is r.wish refl

  asked_few : (own : As) (a : Asked) → asked_heavy x y c own a ≤ 1
  asked_few own a = go (same_as own parent_as)
    where
      go : (t : Bool) → cond t 0 (checked_heavy x y c own (c.check a own)) ≤ 1
      go true = omega arith
      go false = checked_few own a

  -- a message with one request weighs one at most
  pub message_few : (own : As) (m : Message) → IsSingle m → message_heavy x y c own m ≤ 1
  message_few own (messages.PcReq []) one = omega arith
  message_few own (messages.PcReq (a ∷ [])) one = let few = asked_few own a in omega (arith, few)
  message_few own (messages.PcReq (a ∷ b ∷ rest)) one = absurd (let two : length (a ∷ b ∷ rest) ≡ 1 = one in omega (arith, two))
  message_few own (messages.PcRep replies) one = omega arith
  message_few own (messages.PcNtf notices) one = omega arith
  message_few own (messages.PcErr reports) one = omega arith
  message_few own (messages.Open body) one = omega arith
  message_few own messages.Keepalive one = omega arith
  message_few own (messages.Close why) one = omega arith
  message_few own (messages.Other kind) one = omega arith

  -- ---- a request that is sent on

  module _ (bytes : Bytes) (a : Asked) (own : As) (flags id : ℕ) (w : Wanted) (octets : AreOctets bytes) (read : c.read bytes ≡ Some (messages.PcReq (a ∷ []))) (admits : Admits c a own flags id w) (number : ℕ) (some : 1 ≤ number) (fits : IsId number) where
    range : IsRequestInRange flags id w
    range = (codec.onward.sends bytes a own flags id w octets read admits).0

    can : CanBeSent w
    can = (codec.onward.sends bytes a own flags id w octets read admits).1

    -- to the parent, which asks nobody
    up_written : IsWritten (request_message number w w.target [])
    up_written = can number w.target [] fits range.target range.kinds (omega arith) (All-nil (λ (d : As). d.0 < 2 ^ 16))

    up_light : (b : As) → the_parent ≡ Inner b → read_heavy x y c b (c.read (c.text (request_message number w w.target []))) ≤ 0
    up_light b is =
        let same : parent_as ≡ b = ap (λ (p : Peer). inner_of p) is in
        let heavy = written_heavy b (asked_of number w w.target []) up_written in
        let none : asked_heavy x y c b (asked_of number w w.target []) ≡ 0 = subst (λ (z : As). asked_heavy x y c z (asked_of number w w.target []) ≡ 0) same refl in
        omega (arith, heavy, none)
      where
        inner_of : Peer → As
        inner_of (Inner d) = d
        inner_of (Outside i) = parent_as

    up_asked : (p : Peer) → p ≡ the_parent → asked_by (same_as own x) y (record { to = p; message = request_message number w w.target [] } ∷ []) ≤ cond (same_as y parent_as) 1 0
    up_asked p to =
        subst (λ (q : Peer). asked_by (same_as own x) y (record { to = q; message = request_message number w w.target [] } ∷ []) ≤ cond (same_as y parent_as) 1 0) (sym to)
        (go (same_as own x) (same_as y parent_as) refl (one_asked (same_as own x) y the_parent (request_message number w w.target [])))
      where
        go : (t u : Bool) → same_as y parent_as ≡ u → asked_by (same_as own x) y (record { to = the_parent; message = request_message number w w.target [] } ∷ []) ≤ one_if (cond t (same_as parent_as y) false) →
            asked_by (same_as own x) y (record { to = the_parent; message = request_message number w w.target [] } ∷ []) ≤ cond u 1 0
        go false u is one = plain (asked_by (same_as own x) y (record { to = the_parent; message = request_message number w w.target [] } ∷ [])) (cond u 1 0) one
          where
            plain : (a v : ℕ) → a ≤ 0 → a ≤ v
            plain a v le = omega (arith, le)
        go true true is one = plain (asked_by (same_as own x) y (record { to = the_parent; message = request_message number w w.target [] } ∷ [])) (same_as parent_as y) one
          where
            plain : (a : ℕ) (t : Bool) → a ≤ one_if t → a ≤ 1
            plain a true le = le
            plain a false le = omega (arith, le)
        go true false is one =
            let apart : (parent_as.0 == y.0) ≡ false = ne_eqb parent_as.0 y.0 (λ e. eqb-false y.0 parent_as.0 is (sym e)) in
            let none : one_if (same_as parent_as y) ≡ 0 = ap one_if apart in
            plain (asked_by (same_as own x) y (record { to = the_parent; message = request_message number w w.target [] } ∷ [])) (one_if (same_as parent_as y)) one none
          where
            plain : (a v : ℕ) → a ≤ v → v ≡ 0 → a ≤ 0
            plain a v le is' = omega (arith, le, is')

    pub up_passes : (p : Peer) → p ≡ the_parent → Passes c n x y own (record { to = p; message = request_message number w w.target [] } ∷ []) (cond (same_as y parent_as) 1 0 + 0)
    up_passes p to =
        passes_one c n x y own (record { to = p; message = request_message number w w.target [] }) (cond (same_as y parent_as) 1 0) 0 (up_asked p to)
        (written_fair (asked_of number w w.target []) up_written) (λ b is. up_light b (sym to ∙ is))

    -- along the rest of its sequence
    module _ (own' next : As) (more : List As) (along : w.sequence ≡ own' ∷ next ∷ more) where
      abbrev OnOwn : Type 0
      OnOwn = (w.sequence ≡ own ∷ next ∷ more) × IsSequence own (next ∷ more)

      own_is : (w.sequence ≡ []) ⊎ ((rest : List As) × (w.sequence ≡ own ∷ rest) × IsSequence own rest) → OnOwn
      own_is (inl none) = absurd (let out : [] ≡ own' ∷ next ∷ more = sym none ∙ along in cc)
      own_is (inr s) =
          let rest : s.0 ≡ next ∷ more = behind own own' next s.0 more (sym s.1 ∙ along) in
          (s.1 ∙ ap (λ (l : List As). own ∷ l) rest, subst (λ (l : List As). IsSequence own l) rest s.2)

      on_own : OnOwn
      on_own = own_is (codec.onward.own a own flags id w admits).2

      pub on_route : route_heavy x y (sequence_or own w.sequence) ≡ route_heavy x y (own ∷ next ∷ more)
      on_route = ap (λ (l : List As). route_heavy x y (sequence_or own l)) on_own.0

      pub on_real : next ≢ parent_as
      on_real = real_next own next more on_own.1

      on_written : IsWritten (request_message number w w.target (next ∷ more))
      on_written =
          let few = on_own.1.few in
          can number w.target (next ∷ more) fits range.target range.kinds (omega (arith, few))
          (All-tail (λ (d : As). d.0 < 2 ^ 16) own' (next ∷ more) (subst (λ (l : List As). All (λ (d : As). d.0 < 2 ^ 16) l) along range.sequence))

      on_checked : checked_heavy x y c next (c.check (asked_of number w w.target (next ∷ more)) next) ≡ route_heavy x y (next ∷ more)
      on_checked = ap (λ (o : Checked). checked_heavy x y c next o) (codec.onward.admits a own flags id w admits number w.target next more some fits (later_sequence own next more on_own.1))

      on_light : (b : As) → Inner next ≡ Inner b → read_heavy x y c b (c.read (c.text (request_message number w w.target (next ∷ more)))) ≤ route_heavy x y (next ∷ more)
      on_light b is =
          let same : next ≡ b = ap (λ (p : Peer). inner_of p) is in
          subst (λ (z : As). read_heavy x y c z (c.read (c.text (request_message number w w.target (next ∷ more)))) ≤ route_heavy x y (next ∷ more)) same
          (plain (read_heavy x y c next (c.read (c.text (request_message number w w.target (next ∷ more))))) (asked_heavy x y c next (asked_of number w w.target (next ∷ more))) (route_heavy x y (next ∷ more))
          (written_heavy next (asked_of number w w.target (next ∷ more)) on_written) (go (same_as next parent_as)))
        where
          inner_of : Peer → As
          inner_of (Inner d) = d
          inner_of (Outside i) = next

          plain : (r z l : ℕ) → r ≡ z → z ≤ l → r ≤ l
          plain r z l one two = omega (arith, one, two)

          go : (t : Bool) → cond t 0 (checked_heavy x y c next (c.check (asked_of number w w.target (next ∷ more)) next)) ≤ route_heavy x y (next ∷ more)
          go true = none (route_heavy x y (next ∷ more))
            where
              none : (l : ℕ) → 0 ≤ l
              none l = omega arith
          go false = plain (checked_heavy x y c next (c.check (asked_of number w w.target (next ∷ more)) next)) (route_heavy x y (next ∷ more)) (route_heavy x y (next ∷ more)) on_checked (le_refl (route_heavy x y (next ∷ more)))

      pub on_passes : (p : Peer) → p ≡ Inner next → Passes c n x y own (record { to = p; message = request_message number w w.target (next ∷ more) } ∷ []) (one_if (goes x y own next) + route_heavy x y (next ∷ more))
      on_passes p to =
          passes_one c n x y own (record { to = p; message = request_message number w w.target (next ∷ more) }) (one_if (goes x y own next)) (route_heavy x y (next ∷ more))
          (subst (λ (q : Peer). asked_by (same_as own x) y (record { to = q; message = request_message number w w.target (next ∷ more) } ∷ []) ≤ one_if (goes x y own next)) (sym to)
          (one_asked (same_as own x) y (Inner next) (request_message number w w.target (next ∷ more))))
          (written_fair (asked_of number w w.target (next ∷ more)) on_written) (λ b is. on_light b (sym to ∙ is))

      -- an outside peer is asked by no link
      pub out_passes : (i : ℕ) (p : Peer) → p ≡ Outside i → Passes c n x y own (record { to = p; message = request_message number w w.target (next ∷ more) } ∷ []) 0
      out_passes i p to =
          passes_one c n x y own (record { to = p; message = request_message number w w.target (next ∷ more) }) 0 0
          (subst (λ (q : Peer). asked_by (same_as own x) y (record { to = q; message = request_message number w w.target (next ∷ more) } ∷ []) ≤ 0) (sym to) (none_there (same_as own x)))
          (written_fair (asked_of number w w.target (next ∷ more)) on_written) (λ b is. absurd (let clash : Outside i ≡ Inner b = sym to ∙ is in cc))
        where
          none_there : (t : Bool) → asked_by t y (record { to = Outside i; message = request_message number w w.target (next ∷ more) } ∷ []) ≤ 0
          none_there true = one_asked true y (Outside i) (request_message number w w.target (next ∷ more))
          none_there false = one_asked false y (Outside i) (request_message number w w.target (next ∷ more))

  -- ---- an element

  module _ (own : As) (real : same_as own parent_as ≡ false) (e : ElementSettings) (is_own : e.own ≡ own) (pin : Pin) (p : Peer) (class : Class) (now : ℕ) (k : Element Pin Segment) (ok : WaysOk k.ways) where
    abbrev After : Message → Taken Pin Segment
    After m = take c open_of e pin p class now m k

    pub record Takes (m : Message) : Type 0 where
      pub ways : WaysOk (After m).element.ways
      pub passes : Passes c n x y own (After m).outputs (message_heavy x y c own m)

    -- a request weighs what its domains do
    heavy_is : (a : Asked) (flags id : ℕ) (w : Wanted) → Admits c a own flags id w → message_heavy x y c own (messages.PcReq (a ∷ [])) ≡ route_heavy x y (sequence_or own w.sequence)
    heavy_is a flags id w admits =
        plain (asked_heavy x y c own a) (route_heavy x y (sequence_or own w.sequence))
        (ap (λ (t : Bool). cond t 0 (checked_heavy x y c own (c.check a own))) real ∙ ap (λ (o : Checked). checked_heavy x y c own o) admits)
      where
        plain : (h l : ℕ) → h ≡ l → h + 0 ≡ l
        plain h l is = omega (arith, is)

    sends_one : (bytes : Bytes) (m : Message) (a : Asked) → m ≡ messages.PcReq (a ∷ []) → AreOctets bytes → c.read bytes ≡ Some (messages.PcReq (a ∷ [])) → (z : SendsOne Pin Segment c open_of e pin p class now k (After m)) → z.asked ≡ a → Takes m
    sends_one bytes m a asks octets read z is = record {
      ways = subst WaysOk (sym z.ways) (ways_last z.way.peer number k.ways fits ok);
      passes = subst (λ (os : List Output). Passes c n x y own os (message_heavy x y c own m)) (sym z.outs) (go z.rest z.goes);
    }
      where
        number : ℕ
        number = fresh_id z.way.peer z.way.last_id k.pending.rows

        fits : IsId number
        fits = next_fits k.pending.rows (is_waiting z.way.peer k.pending.rows) z.way.last_id (subst WayOk z.found (way_fits z.to k.ways ok))

        some : 1 ≤ number
        some = next_some k.pending.rows (is_waiting z.way.peer k.pending.rows) z.way.last_id

        peer : z.way.peer ≡ z.to
        peer = way_peer z.to k.ways z.way z.found

        admits : Admits c a own z.flags z.id z.wanted
        admits =
            subst (λ (d : As). c.check a d ≡ Admitted (record { flags = z.flags; id = z.id; wish = Path z.wanted })) is_own
            (subst (λ (b : Asked). c.check b e.own ≡ Admitted (record { flags = z.flags; id = z.id; wish = Path z.wanted })) is z.admitted)

        weighs : message_heavy x y c own m ≡ route_heavy x y (sequence_or own z.wanted.sequence)
        weighs = ap (λ (b : Message). message_heavy x y c own b) asks ∙ heavy_is a z.flags z.id z.wanted admits

        Goal : List As → Type 0
        Goal rest = Passes c n x y own (record { to = z.way.peer; message = request_message number z.wanted z.wanted.target rest } ∷ []) (message_heavy x y c own m)

        up : (l w v : ℕ) → w ≡ l → v ≤ l → v + 0 ≤ w
        up l w v one two = omega (arith, one, two)

        on : (w l r v h : ℕ) → w ≡ l → l ≡ r → v + h ≤ r → v + h ≤ w
        on w l r v h one two three = omega (arith, one, two, three)

        -- along its sequence, to an element or to an outside peer
        led : (own' next : As) (more : List As) → z.wanted.sequence ≡ own' ∷ next ∷ more → (q : Peer) → toward next e.routes ≡ q → z.to ≡ q → Goal (next ∷ more)
        led own' next more along (Outside i) is to =
            passes_more c n x y own (record { to = z.way.peer; message = request_message number z.wanted z.wanted.target (next ∷ more) } ∷ []) 0 (message_heavy x y c own m) (omega arith)
            (out_passes bytes a own z.flags z.id z.wanted octets read admits number some fits own' next more along i z.way.peer (peer ∙ to))
        led own' next more along (Inner b) is to =
            passes_more c n x y own (record { to = z.way.peer; message = request_message number z.wanted z.wanted.target (next ∷ more) } ∷ []) (one_if (goes x y own next) + route_heavy x y (next ∷ more)) (message_heavy x y c own m)
            (on (message_heavy x y c own m) (route_heavy x y (sequence_or own z.wanted.sequence)) (route_heavy x y (own ∷ next ∷ more)) (one_if (goes x y own next)) (route_heavy x y (next ∷ more)) weighs
            (on_route bytes a own z.flags z.id z.wanted octets read admits number some fits own' next more along)
            (on_steps x y own next more (on_real bytes a own z.flags z.id z.wanted octets read admits number some fits own' next more along)))
            (on_passes bytes a own z.flags z.id z.wanted octets read admits number some fits own' next more along z.way.peer
            (peer ∙ to ∙ ap (λ (d : As). Inner d) (toward_inner next b e.routes (sym is))))

        go : (rest : List As) → GoesTo Pin Segment e.routes z.wanted z.to rest → Goal rest
        go rest (inl t) =
            subst Goal (sym t.1)
            (passes_more c n x y own (record { to = z.way.peer; message = request_message number z.wanted z.wanted.target [] } ∷ []) (cond (same_as y parent_as) 1 0 + 0) (message_heavy x y c own m)
            (up (route_heavy x y (sequence_or own z.wanted.sequence)) (message_heavy x y c own m) (cond (same_as y parent_as) 1 0) weighs (up_steps x y (sequence_or own z.wanted.sequence)))
            (up_passes bytes a own z.flags z.id z.wanted octets read admits number some fits z.way.peer (peer ∙ t.0)))
        go rest (inr t) = subst Goal (sym t.4) (led t.0 t.1 t.2 t.5 (toward t.1 e.routes) refl t.3)

    -- a message whose requests were read from bytes
    pub takes : (bytes : Bytes) (m : Message) → ReadsAsks c bytes m → IsFair c n bytes → IsSingle m → AreAll (IsMeant c n) (After m).outputs → Takes m
    takes bytes m read fair one meant = go (take_of Pin Segment c open_of e pin p class now k m one)
      where
        calm : IsCalm Pin Segment k (After m) → Takes m
        calm z = record {
          ways = subst WaysOk (sym z.ways) ok;
          passes = passes_more c n x y own (After m).outputs 0 (message_heavy x y c own m) (omega arith) (passes_none c n x y own (After m).outputs meant z.none);
        }

        go : Of Pin Segment c open_of e pin p class now k m (After m) → Takes m
        go (inl z) = calm z
        go (inr z) =
            let read' : c.read bytes ≡ Some (messages.PcReq (z.0 ∷ [])) = read (z.0 ∷ []) z.1 in
            let octets = (fair (z.0 ∷ []) read').0 in
            sends_one bytes m z.0 z.1 octets read' z.2 z.3
