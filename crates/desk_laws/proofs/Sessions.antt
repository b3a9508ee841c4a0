-- A session is an Open, calls that drain its peer or leave the connections, and at its end calls that hand out nothing.
use Rattle.std.proofs.Common.{◌≡◌, ◌∙◌, ◌⊎◌, inl, inr, ℕ, Bool, length, List, [], ◌∷◌, ◌++◌, append_assoc, Ok, ap, refl, sym, subst}
use Rattle.std.specs.List.{AllByRecursion}
use Rattle.dom_edge.specs.Heeding.{Sides}
use Rattle.dom_edge.specs.Streams.{Writing}
use Rattle.dom_edge.specs.declared.stream.Got.{Got}
use Rattle.dom_edge.specs.declared.stream.Got.TheVariants as got
use Rattle.plant_network.specs.plant_model.declared.event.Event.TheVariants as event
use Rattle.plant_network.specs.plant_model.declared.outcome.Outcome.{Outcome}
use Rattle.plant_network.specs.plant_model.declared.outcome.Refused.{Refused}
use Rattle.plant_network.specs.plant_model.declared.outcome.Refused.TheVariants.{NoMemory as NoRoom, NoSuchPeer}
use Rattle.server_loops.specs.Desks.{Call, call}
use Rattle.plant_network.specs.network_links.declared.rest.Rest.TheVariants.{Messages}
use Rattle.server_loops.specs.Sessions.{AreTakes, AreTurns, EndsTakes, IsDrained, IsFed, IsLastTake, IsRefused, IsSession, IsShut, IsTake, IsTurn, IsUnopened, Last, Makes, Runs, StopsAt, drained, drained_by, joined}
use Rattle.server_loops.specs.declared.sessions.Ended.{Ended}
use Rattle.server_loops.specs.declared.sessions.Ended.TheVariants.{Closed, Lost, NoMemory, NotOpened, PeerEnd, ReadFault, Spent, Turns, WriteFault}
use Rattle.server_loops.proofs.Turning.{all_on}
use Rattle.desk_laws.proofs.Calls.{AreWithin, IsWithin}

pub drained_on : (xs ys : List Call) → drained (xs ++ ys) ≡ drained xs ++ drained ys
drained_on [] ys = refl
drained_on (x ∷ xs) ys = ap (λ (bs : List ℕ). drained_by x.event x.answer ++ bs) (drained_on xs ys) ∙ sym (append_assoc (drained_by x.event x.answer) (drained xs) (drained ys))

nil_left : {X : Type 0} (xs ys : List X) → xs ++ ys ≡ [] → xs ≡ []
nil_left [] ys is = refl
nil_left (x ∷ xs) ys is = absurd (let no : ⊥ = cc in no)

-- A connection was opened, the calls of it follow, and then calls that hand out nothing.
pub record IsOpenedBy (i : ℕ) (made : List Call) : Type 0 where
  pub holder : ℕ
  pub outcome : Outcome
  pub mid : List Call
  pub shut : List Call
  pub is : made ≡ call (event.Open i holder) (Ok outcome) ∷ (mid ++ shut)
  pub within : AreWithin i mid
  pub none : drained shut ≡ []

abbrev pub Shape : ℕ → List Call → Type 0
Shape i made = (drained made ≡ []) ⊎ IsOpenedBy i made

module _ (i holder : ℕ) where
  abbrev In : List Call → Type 0
  In cs = AreWithin i cs

  on : (xs ys : List Call) → In xs → In ys → In (xs ++ ys)
  on xs ys first second = all_on (λ (c : Call). IsWithin i c.event) xs ys first second

  drained_in : (ended : Bool) (c : Call) (old new : Writing) → IsDrained i holder ended c old new → IsWithin i c.event
  drained_in ended c old new is = subst (λ (x : Call). IsWithin i x.event) (sym is.is) refl

  fed_in : (answer : Got) (into : List ℕ) (cs : List Call) → IsFed i answer into cs → In cs
  fed_in (got.Bytes n) into cs is = subst In (sym is.1) (tt, tt)
  fed_in got.Quiet into cs is = subst In (sym is) tt
  fed_in got.End into cs is = absurd is
  fed_in got.Failed into cs is = absurd is

  taken_in : (cs : List Call) → AllByRecursion (IsTake i Messages) cs → In cs
  taken_in [] all = tt
  taken_in (c ∷ cs) all = (subst (IsWithin i) (sym all.0.accepted.event) tt, taken_in cs all.1)

  last_take_in : (c : Call) → IsLastTake i c → In (c ∷ [])
  last_take_in c (inl is) = subst (λ (x : Call). In (x ∷ [])) (sym is.1) (tt, tt)
  last_take_in c (inr is) = (subst (IsWithin i) (sym is.2.accepted.event) tt, tt)

  takes_in : (cs : List Call) → AreTakes i cs → In cs
  takes_in cs is = subst In (sym is.is) (on is.taken is.last (taken_in is.taken is.each) (ends_in is.last is.ends))
    where
      ends_in : (last : List Call) → EndsTakes i (length is.taken) last → In last
      ends_in last (inl none) = subst In (sym none.1) tt
      ends_in last (inr more) = subst In (sym more.1.2) (last_take_in more.1.0 more.1.1)

  turn_in : (cs : List Call) (old new : Sides) → IsTurn i holder cs old new → In cs
  turn_in cs old new is = subst In (sym is.is) (drained_in _ is.first _ _ is.has_read.drained, on is.feeds is.takes (fed_in is.answer is.into is.feeds is.is_fed) (takes_in is.takes is.are_takes))

  turns_in : (turns : List (List Call)) (old new : Sides) → AreTurns i holder turns old new → In (joined turns)
  turns_in [] old new is = tt
  turns_in (turn ∷ turns) old new is = on turn (joined turns) (turn_in turn old is.0 is.1) (turns_in turns is.0 new is.2)

  stops_in : (answer : Got) (cs : List Call) (old new : Sides) → StopsAt i holder answer cs old new → In cs
  stops_in answer cs old new is = subst In (sym is.3) (drained_in _ is.0 _ _ is.2.drained, tt)

  refused_in : (why : Refused) (cs : List Call) (old new : Sides) → IsRefused i holder why cs old new → In cs
  refused_in why cs old new (inl is) = subst In (sym is.0) (refl, tt)
  refused_in why cs old new (inr is) = subst In (sym is.is) (drained_in _ is.first _ _ is.has_read.drained, (tt, tt))

  last_in : (end : Ended) (cs : List Call) (old new : Sides) → Last i holder end cs old new → In cs
  last_in Closed cs old new is = subst In (sym is.3) (drained_in _ is.0 _ _ is.1, tt)
  last_in PeerEnd cs old new is = stops_in got.End cs old new is
  last_in ReadFault cs old new is = stops_in got.Failed cs old new is
  last_in WriteFault cs old new is = subst In (sym is.is) (refl, tt)
  last_in Turns cs old new is = subst In (sym is.0) tt
  last_in NotOpened cs old new is = absurd is
  last_in (Lost why) cs old new is = refused_in why cs old new is.1
  last_in (Spent t) cs old new is = absurd is
  last_in NoMemory cs old new (inl is) = refused_in NoRoom cs old new is
  last_in NoMemory cs old new (inr (inl is)) = stops_in (got.Bytes is.0) cs old new is.1
  last_in NoMemory cs old new (inr (inr is)) = subst In (sym is.0) tt

  shut_none : (end : Ended) (cs : List Call) → IsShut i end cs → drained cs ≡ []
  shut_none (Lost why) cs is = ap drained is
  shut_none Closed cs is = ap drained is.1
  shut_none PeerEnd cs is = ap drained is.1
  shut_none ReadFault cs is = ap drained is.1
  shut_none WriteFault cs is = ap drained is.1
  shut_none Turns cs is = ap drained is.1
  shut_none NotOpened cs is = ap drained is.1
  shut_none (Spent t) cs is = ap drained is.1
  shut_none NoMemory cs is = ap drained is.1

  makes_shape : (turns : ℕ) (end : Ended) (made : List Call) (old new : Sides) → Makes i holder turns end made old new → Shape i made
  makes_shape turns end made old new is = inr (record {
    holder = holder;
    outcome = is.opened;
    mid = joined is.whole ++ is.last;
    shut = is.shut;
    is = is.is ∙ ap (λ (cs : List Call). call (event.Open i holder) (Ok is.opened) ∷ cs) (sym (append_assoc (joined is.whole) is.last is.shut));
    within = on (joined is.whole) is.last (turns_in is.whole old is.mid is.are_turns) (last_in end is.last is.mid new is.is_last);
    none = shut_none end is.shut is.is_shut;
  })

  unopened_shape : (why : Refused) (made : List Call) (old new : Sides) → IsUnopened i holder why made old new → Shape i made
  unopened_shape why made old new is = inl (ap drained is.0)

  runs_shape : (turns : ℕ) (end : Ended) (made : List Call) (old new : Sides) → Runs i holder turns end made old new → Shape i made
  runs_shape turns NotOpened made old new is = unopened_shape NoSuchPeer made old new is
  runs_shape turns (Lost why) made old new (inl is) = unopened_shape why made old new is.2
  runs_shape turns (Lost why) made old new (inr is) = makes_shape turns (Lost why) made old new is
  runs_shape turns NoMemory made old new (inl is) = unopened_shape NoRoom made old new is
  runs_shape turns NoMemory made old new (inr is) = makes_shape turns NoMemory made old new is
  runs_shape turns (Spent t) made old new is = absurd is
  runs_shape turns Closed made old new is = makes_shape turns Closed made old new is
  runs_shape turns PeerEnd made old new is = makes_shape turns PeerEnd made old new is
  runs_shape turns ReadFault made old new is = makes_shape turns ReadFault made old new is
  runs_shape turns WriteFault made old new is = makes_shape turns WriteFault made old new is
  runs_shape turns Turns made old new is = makes_shape turns Turns made old new is

  -- ---- where the desk was spent

  abbrev Parts : List Call → Type 0
  Parts cs = (front : List Call) × (back : List Call) × (cs ≡ front ++ back) × In front × (drained back ≡ [])

  part_of : (cs rest mid shut : List Call) → cs ++ rest ≡ mid ++ shut → In mid → drained shut ≡ [] → Parts cs
  part_of [] rest mid shut same within none = ([], [], refl, tt, refl)
  part_of (c ∷ cs) rest [] shut same within none = ([], c ∷ cs, refl, tt, nil_left (drained (c ∷ cs)) (drained rest) (sym (drained_on (c ∷ cs) rest) ∙ ap drained same ∙ none))
  part_of (c ∷ cs) rest (d ∷ mid) shut same within none =
      let tails : cs ++ rest ≡ mid ++ shut = cc in
      let heads : c ≡ d = cc in
      let p = part_of cs rest mid shut tails within.1 none in
      (c ∷ p.0, p.1, ap (λ (l : List Call). c ∷ l) p.2, (subst (λ (x : Call). IsWithin i x.event) (sym heads) within.0, p.3), p.4)

  cut_shape : (made rest : List Call) → drained rest ≡ [] → Shape i (made ++ rest) → Shape i made
  cut_shape made rest none (inl idle) = inl (nil_left (drained made) (drained rest) (sym (drained_on made rest) ∙ idle))
  cut_shape [] rest none (inr opened) = inl refl
  cut_shape (c ∷ cs) rest none (inr opened) =
      let open_call : Call = call (event.Open i opened.holder) (Ok opened.outcome) in
      let both : c ∷ (cs ++ rest) ≡ open_call ∷ (opened.mid ++ opened.shut) = opened.is in
      let tails : cs ++ rest ≡ opened.mid ++ opened.shut = cc in
      let heads : c ≡ open_call = cc in
      let p = part_of cs rest opened.mid opened.shut tails opened.within opened.none in
      inr (record {
        holder = opened.holder;
        outcome = opened.outcome;
        mid = p.0;
        shut = p.1;
        is = ap (λ (x : Call). x ∷ cs) heads ∙ ap (λ (l : List Call). open_call ∷ l) p.2;
        within = p.3;
        none = p.4;
      })

  pub session_shape : (turns : ℕ) (end : Ended) (made : List Call) (old new : Sides) → IsSession i holder turns end made old new → Shape i made
  session_shape turns (Spent t) made old new is = cut_shape made is.rest is.nothing (runs_shape turns is.end (made ++ is.rest) old new is.runs)
  session_shape turns NotOpened made old new is = runs_shape turns NotOpened made old new is
  session_shape turns (Lost why) made old new is = runs_shape turns (Lost why) made old new is
  session_shape turns NoMemory made old new is = runs_shape turns NoMemory made old new is
  session_shape turns Closed made old new is = runs_shape turns Closed made old new is
  session_shape turns PeerEnd made old new is = runs_shape turns PeerEnd made old new is
  session_shape turns ReadFault made old new is = runs_shape turns ReadFault made old new is
  session_shape turns WriteFault made old new is = runs_shape turns WriteFault made old new is
  session_shape turns Turns made old new is = runs_shape turns Turns made old new is
