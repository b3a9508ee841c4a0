-- What an element says to a client when others speak to it: a word that answers a request, or what the parent told of it.
use Rattle.std.proofs.Common.{◌≡◌, ◌⊎◌, ℕ, Bool, true, false, List, [], ◌∷◌, ◌++◌, map, Some, sym, subst, ◌∙◌, inl, inr, refl}
use Rattle.plant_play.specs.plant_model.Types.{As, Peer, Inner, Outside, Answer, Asked, Message, ErrorReport, Notice, Reply, Wanted, NetworkParts}
use Rattle.plant_play.specs.plant_model.Routes.{StaysInside}
use Rattle.pcep_codes.specs.declared.errors.TheConstants as errors
use Rattle.pcep_messages.specs.declared.message.Answer.TheVariants.{NoPath}
use Rattle.plant_play.specs.plant_model.declared.output.Output.{Output}
use Rattle.plant_play.specs.plant_model.Element.{Element}
use Rattle.plant_play.specs.plant_model.Names.{the_parent}
use Rattle.plant_play.specs.plant_model.Parent.{Errand, Parent}
use Rattle.plant_play.specs.plant_model.Plant.{Pin, Segment}
use Rattle.plant_play.specs.plant_model.Wire.{Codec}
use Rattle.plant_play.specs.plant_model.Writing.{busy, error_message, reply_message, unavailable}
use Rattle.run_laws.specs.plant_laws.Causes.{AnswersLost}
use Rattle.run_laws.specs.plant_laws.MessageCauses.{AreAsked, Asker, GoesTo, OnError, OnNotice, OnPart, OnParts, OnPath, OnReply, OnRequest, OnRequestAbove, Part, along, alone, upward}
use Rattle.run_laws.specs.plant_laws.MessageCauses as causes
use Rattle.run_laws.proofs.plant_laws.Runs.Unrouted.{unrouted}

-- what is said to the peer is of this kind
abbrev pub Each : ℕ → (Message → Type 0) → List Output → Type 0
Each i Q [] = Unit {0}
Each i Q (o ∷ os) = (o.to ≡ Outside i → Q o.message) × Each i Q os

pub each_append : (i : ℕ) (Q : Message → Type 0) (os os' : List Output) → Each i Q os → Each i Q os' → Each i Q (os ++ os')
each_append i Q [] os' h k = k
each_append i Q (o ∷ os) os' h k = (h.0, each_append i Q os os' h.1 k)

-- it denies the request of this id, or says that it can't be served now
pub data IsDenial (y : ℕ) (m : Message) : Type 0 where
  none : (flags nature vector : ℕ) → m ≡ reply_message flags y (NoPath nature vector) → IsDenial y m
  full : (flags : ℕ) → m ≡ busy flags y → IsDenial y m
  failed : (flags : ℕ) → m ≡ error_message (Some (flags, y)) errors.CHAIN_FAILED.0 errors.CHAIN_FAILED.1 → IsDenial y m

abbrev pub Denies : Message → Type 0
Denies m = (y : ℕ) × IsDenial y m

-- or it is what the parent told to one of these
abbrev pub Passes : (Asker → Type 0) → Peer → Message → Type 0
Passes Waiting p m = (a : Asker) × (answer : Answer) × Waiting a × (a.peer ≡ p) × (m ≡ reply_message a.flags a.id answer)

inner_is : (b : As) (i : ℕ) → Inner b ≡ Outside i → ⊥
inner_is b i e = cc

module _ (i : ℕ) where
  abbrev pub Says : (Message → Type 0) → List Output → Type 0
  Says Q os = Each i Q os

  pub nothing : (Q : Message → Type 0) (os : List Output) → os ≡ [] → Says Q os
  nothing Q os is = subst (Says Q) (sym is) tt

  pub one : (Q : Message → Type 0) (to : Peer) (m : Message) (os : List Output) → os ≡ record { to = to; message = m } ∷ [] → (to ≡ Outside i → Q m) → Says Q os
  one Q to m os is each = subst (Says Q) (sym is) (each, tt)

  denied : (a : Asker) (os : List Output) → os ≡ causes.chain_broken a → Says Denies os
  denied a os is = one Denies a.peer (reply_message a.flags a.id unavailable) os is (λ to. (a.id, none a.flags _ _ refl))

  is_full : (a : Asker) (os : List Output) → os ≡ causes.table_full a → Says Denies os
  is_full a os is = one Denies a.peer (busy a.flags a.id) os is (λ to. (a.id, full a.flags refl))

  -- ---- what comes back

  module _ (Waiting : Asker → Type 0) where
    on_notice : (kinds : List (ℕ × ℕ)) (os : List Output) → OnNotice Waiting kinds os → Says Denies os
    on_notice kinds os (causes.next_is_full a kind waits is) = is_full a os is
    on_notice kinds os (causes.noted_for_nobody nobody is) = nothing Denies os is
    on_notice kinds os (causes.of_other_kind kind is) = nothing Denies os is

    on_error : (e : ℕ × ℕ) (os : List Output) → OnError Waiting e os → Says Denies os
    on_error e os (causes.failed_for_nobody nobody is) = nothing Denies os is
    on_error e os (causes.of_reply unknown is) = nothing Denies os is
    on_error e os (causes.out_of_profile a waits out is) = one Denies a.peer (error_message (Some (a.flags, a.id)) errors.CHAIN_FAILED.0 errors.CHAIN_FAILED.1) os is (λ to. (a.id, failed a.flags refl))
    on_error e os (causes.other_error a waits known inside is) = denied a os is

    abbrev Replied : Message → Type 0
    Replied m = Denies m ⊎ Passes Waiting (Outside i) m

    weaker : (os : List Output) → Says Denies os → Says Replied os
    weaker [] h = tt
    weaker (o ∷ os) h = (λ to. inl (h.0 to), weaker os h.1)

    pub on_reply : (of_parent : Bool) (p : Peer) (r : Reply) (os : List Output) → (p ≡ Outside i → ⊥) → OnReply Waiting of_parent p r os → Says Replied os
    on_reply of_parent p r os other (causes.unknown nobody is) = one Replied p _ os is (λ to. absurd (other to))
    on_reply of_parent p r os other (causes.goes_on a waits up is) = one Replied a.peer (reply_message a.flags a.id r.answer) os is (λ to. inr (a, r.answer, waits, to, refl))
    on_reply of_parent p r os other (causes.is_kept a waits low tells is) = nothing Replied os is
    on_reply of_parent p r os other (causes.is_broken a waits low none' is) = weaker os (denied a os is)

  -- ---- a request of another

  module _ (c : Codec) (n : NetworkParts) (downs : StaysInside n) (d : As) (p : Peer) where
    goes_inside : (w : Wanted) (next : Peer) (rest : List As) (refused : Bool) → GoesTo n d p w next rest refused → next ≡ Outside i → ⊥
    goes_inside w next rest refused (causes.upward up is none' fine) to = (let clash : the_parent ≡ Outside i = sym is ∙ to in cc)
    goes_inside w next rest refused (causes.along own b more low is on behind fine) to = inner_is b i (sym (on ∙ unrouted n downs d b) ∙ to)

    -- what is said of a path, to who asks for it
    pub on_path : (Q : Message → Type 0) (k : Element Pin Segment) (a : Asker) (w : Wanted) (os : List Output) → a.peer ≡ p → (a.peer ≡ Outside i → Q (reply_message a.flags a.id unavailable)) → OnPath n d k a w os → Says Q os
    on_path Q k a w os same broken (causes.ends_here own low is none') = nothing Q os none'
    on_path Q k a w os same broken (causes.no_session next rest refused goes down is) = one Q a.peer (reply_message a.flags a.id unavailable) os is broken
    on_path Q k a w os same broken (causes.is_refused next rest goes is) = one Q a.peer (reply_message a.flags a.id unavailable) os is broken
    on_path Q k a w os same broken (causes.sent_on next rest way goes found up is) =
        one Q next _ os is (λ to. absurd (goes_inside w next rest false (subst (λ (z : Peer). GoesTo n d z w next rest false) same goes) to))

    pub on_request : (other : p ≡ Outside i → ⊥) (now : ℕ) (asked : Asked) (k : Element Pin Segment) (os : List Output) → OnRequest c n d p now asked k os → Says Denies os
    on_request other now asked k os (causes.wrong rp kind value e is) = one Denies p _ os is (λ to. absurd (other to))
    on_request other now asked k os (causes.again r number e there is) = nothing Denies os is
    on_request other now asked k os (causes.key_shown r key pce segment e new wish behind is) = one Denies p _ os is (λ to. absurd (other to))
    on_request other now asked k os (causes.key_refused r key pce e new wish behind is) = one Denies p _ os is (λ to. absurd (other to))
    on_request other now asked k os (causes.no_room r w e new wish full' is) = one Denies p _ os is (λ to. absurd (other to))
    on_request other now asked k os (causes.for_path r w e new wish room on) = on_path Denies k (record { peer = p; flags = r.flags; id = r.id }) w os refl (λ to. absurd (other to)) on

  all_asked : (Q : Message → Type 0) (w : Wanted) (rs : List Errand) (os : List Output) → AreAsked w rs os → Says Q os
  all_asked Q w [] os is = nothing Q os is
  all_asked Q w (r ∷ rs) os asks = subst (Says Q) (sym asks.2) (λ to. absurd (inner_is r.child i to), all_asked Q w rs asks.1 asks.3)

  pub on_request_above : (c : Codec) (n : NetworkParts) (p : Peer) (other : p ≡ Outside i → ⊥) (asked : Asked) (k : Parent) (os : List Output) → OnRequestAbove c n p asked k os → Says Denies os
  on_request_above c n p other asked k os (causes.wrong_above rp kind value e is) = one Denies p _ os is (λ to. absurd (other to))
  on_request_above c n p other asked k os (causes.again_above r number e there is) = nothing Denies os is
  on_request_above c n p other asked k os (causes.key_above r key pce e new wish is) = one Denies p _ os is (λ to. absurd (other to))
  on_request_above c n p other asked k os (causes.no_room_above r w e new wish full' is) = one Denies p _ os is (λ to. absurd (other to))
  on_request_above c n p other asked k os (causes.child_down r w child e new wish room among down is) = one Denies p _ os is (λ to. absurd (other to))
  on_request_above c n p other asked k os (causes.all_asked r w e new wish room up asks) = all_asked Denies w _ os asks

  -- ---- a message that is no reply

  -- replies of others go on from elements alone
  abbrev pub IsNoReply : Bool → Part → Type 0
  IsNoReply of_parent (causes.Replies r) = of_parent ≡ false
  IsNoReply of_parent _ = Unit {0}

  abbrev pub AreNoReplies : Bool → List Part → Type 0
  AreNoReplies of_parent [] = Unit {0}
  AreNoReplies of_parent (x ∷ xs) = IsNoReply of_parent x × AreNoReplies of_parent xs

  module _ (K : Type 0) (Waiting : K → ℕ → Asker → Type 0) (OnAsked : Asked → K → List Output → Type 0) (left : Message → K → K) (of_parent : Bool) (p : Peer) (other : p ≡ Outside i → ⊥)
      (asked : (a : Asked) (k : K) (os : List Output) → OnAsked a k os → Says Denies os) where
    not_passed : (Wait : Asker → Type 0) (r : Reply) (os : List Output) → of_parent ≡ false → OnReply Wait of_parent p r os → Says Denies os
    not_passed Wait r os low (causes.unknown nobody is) = one Denies p _ os is (λ to. absurd (other to))
    not_passed Wait r os low (causes.goes_on a waits up is) = absurd (let clash : true ≡ false = sym up ∙ low in cc)
    not_passed Wait r os low (causes.is_kept a waits low' tells is) = nothing Denies os is
    not_passed Wait r os low (causes.is_broken a waits low' none' is) = denied a os is

    on_part : (x : Part) → IsNoReply of_parent x → (k : K) (os : List Output) → OnPart K Waiting OnAsked left of_parent p x k os → Says Denies os
    on_part (causes.Asks a) plain k os on = asked a k os on
    on_part (causes.Replies r) plain k os on = not_passed (Waiting k r.id) r os plain on
    on_part (causes.Notes kinds rp) plain k os on = on_notice (Waiting k rp.1) kinds os on
    on_part (causes.Fails e rp) plain k os on = on_error (Waiting k rp.1) e os on

    pub on_parts : (xs : List Part) → AreNoReplies of_parent xs → (k : K) (os : List Output) → OnParts K Waiting OnAsked left of_parent p xs k os → Says Denies os
    on_parts [] plain k os is = nothing Denies os is
    on_parts (x ∷ xs) plain k os h =
        subst (Says Denies) (sym h.2) (each_append i Denies h.0 h.1 (on_part x plain.0 k h.0 h.3) (on_parts xs plain.1 (left (alone x) k) h.1 h.4))

  -- ---- a session that goes down

  pub on_lost : {X : Type 0} (Lost : X → Type 0) (asker : X → Asker) (hs : List X) (os : List Output) → AnswersLost Lost asker hs os → Says Denies os
  on_lost Lost asker [] os is = nothing Denies os is
  on_lost Lost asker (h ∷ hs) os (inl some) =
      subst (Says Denies) (sym some.2) (each_append i Denies (causes.chain_broken (asker h)) some.1 (denied (asker h) _ refl) (on_lost Lost asker hs some.1 some.3))
  on_lost Lost asker (h ∷ hs) os (inr none') = on_lost Lost asker hs os none'.1

  -- ---- which messages have no replies

  abbrev Plain : Bool → List Part → Type 0
  Plain of_parent xs = AreNoReplies of_parent xs

  plain_append : (b : Bool) (xs ys : List Part) → Plain b xs → Plain b ys → Plain b (xs ++ ys)
  plain_append b [] ys h k = k
  plain_append b (x ∷ xs) ys h k = (h.0, plain_append b xs ys h.1 k)

  noted_plain : (b : Bool) (kinds ids : List (ℕ × ℕ)) → Plain b (map (causes.Notes kinds) ids)
  noted_plain b kinds [] = tt
  noted_plain b kinds (rp ∷ ids) = (tt, noted_plain b kinds ids)

  failed_plain : (b : Bool) (e : ℕ × ℕ) (ids : List (ℕ × ℕ)) → Plain b (map (causes.Fails e) ids)
  failed_plain b e [] = tt
  failed_plain b e (rp ∷ ids) = (tt, failed_plain b e ids)

  pub asks_plain : (b : Bool) (asks : List Asked) → Plain b (map causes.Asks asks)
  asks_plain b [] = tt
  asks_plain b (a ∷ asks) = (tt, asks_plain b asks)

  pub replies_plain : (b : Bool) → b ≡ false → (rs : List Reply) → Plain b (map causes.Replies rs)
  replies_plain b low [] = tt
  replies_plain b low (r ∷ rs) = (low, replies_plain b low rs)

  pub notes_plain : (b : Bool) (notices : List Notice) → Plain b (causes.noted notices)
  notes_plain b [] = tt
  notes_plain b (x ∷ xs) = plain_append b (map (causes.Notes x.kinds) x.ids) (causes.noted xs) (noted_plain b x.kinds x.ids) (notes_plain b xs)

  pub reports_plain : (b : Bool) (reports : List ErrorReport) → Plain b (causes.failed reports)
  reports_plain b [] = tt
  reports_plain b (x ∷ xs) = plain_append b (causes.failed_by x.ids x.errors) (causes.failed xs) (by x.errors) (reports_plain b xs)
    where
      by : (es : List (ℕ × ℕ)) → Plain b (causes.failed_by x.ids es)
      by [] = tt
      by (e ∷ es) = failed_plain b e x.ids
