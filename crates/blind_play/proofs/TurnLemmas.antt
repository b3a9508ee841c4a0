-- Events that are done and told, one behind the other.
use Rattle.std.proofs.Common.{◌≡◌, ◌<◌, ℕ, suc, arith, Bool, true, false, cond, List, [], ◌∷◌, ◌++◌, length, Option, Some, None, Ok, Err, is_ok, inl, inr, sym, ◌∙◌, subst, ap, refl, append-nil}
use Rattle.std.proofs.lemmas.List.{flat_map_more}
use Rattle.plant_network.specs.plant_model.Types.{As, Sent, NetworkParts}
use Rattle.plant_network.specs.plant_model.declared.event.BlindEvent.{BlindEvent}
use Rattle.plant_network.specs.plant_model.declared.event.BlindEvent.TheVariants as blind
use Rattle.plant_network.specs.plant_model.declared.outcome.Refused.TheVariants as refused
use Rattle.plant_network.specs.plant_model.Blind.{BlindHappened, BlindHappens, BlindState, Nothing, is_accepted, show_nothing}
use Rattle.plant_network.specs.plant_model.Events.{Answered}
use Rattle.plant_network.specs.plant_model.RealWire.{wire}
use Rattle.plant_network.specs.plant_model.State.{Deed, said}
use Rattle.plant_network.specs.Due.{IsLeast, IsSettled, inbox_of}
use Rattle.plant_network.specs.DueLaws.{FoundNothing}
use Rattle.plant_network.proofs.CarryLemmas.{can_carry}
use Rattle.plant_network.proofs.InboxLemmas.{take_empty, take_less}
use Rattle.plant_network.specs.Blind.{Stepped, Whole}
use Rattle.blind_play.specs.Due.{AreAllDue, AreDue, IsDueCarry, IsDueTake}
use Rattle.blind_play.specs.Making.{Does, DoesSome, Makes, MakesTurn, closed_text, drain_text, drainer_of, lacks_memory, told_of}
use Rattle.blind_play.specs.Turns.{IsTurn, Turn, happened_in, turn_text}
use Rattle.blind_play.proofs.HeardLemmas.{is_silent, is_told}

-- an event for which memory did not run out happened
pub made : (old : Whole) (e : BlindEvent) (answer : Answered) (new : Whole) → Stepped old e answer new → lacks_memory answer ≡ false → Makes old e answer new
made old e answer new st ok = record {
  network = st.network;
  deeds = st.deeds;
  happens = elim st.steps [
    | inl x ↦ x
    | inr x ↦ absurd (let is : answer ≡ Err refused.NoMemory = ap (λ (h : BlindHappened). h.answer) x.1 in let no : true ≡ false = sym (ap lacks_memory is) ∙ ok in cc)
  ];
  accepted = st.accepted;
}

-- ---- one event

abbrev turn_of : (old : Whole) (e : BlindEvent) (answer : Answered) (new : Whole) → Makes old e answer new → Turn
turn_of old e answer new makes = record { event = e; answer = answer; deeds = makes.deeds; after = new.state }

told_is : (line : ℕ) (old : Whole) (e : BlindEvent) (answer : Answered) (new : Whole) (makes : Makes old e answer new) → told_of line new (drainer_of e) answer ≡ turn_text line old.network (turn_of old e answer new makes)
told_is line old e (Ok o) new makes =
    ap (λ (sents : List Sent). drain_text line new.network (drainer_of e) (Ok o) ++ closed_text line new.network sents) makes.accepted
    ∙ ap (λ (n : NetworkParts). drain_text line n (drainer_of e) (Ok o) ++ closed_text line n (said wire makes.deeds)) makes.network
    ∙ sym (is_told line old.network e old.state (record { answer = Ok o; state = new.state; deeds = makes.deeds }) makes.happens refl)
told_is line old e (Err why) new makes =
    sym (ap (λ (ds : List (Deed Nothing)). turn_text line old.network (record { event = e; answer = Err why; deeds = ds; after = new.state }))
    (is_silent line old.network e old.state (record { answer = Err why; state = new.state; deeds = makes.deeds }) makes.happens refl))

answers_ok : (answer : Answered) → is_accepted answer ≡ is_ok answer
answers_ok (Ok o) = refl
answers_ok (Err why) = refl

pub made_turn : (line : ℕ) (old : Whole) (e : BlindEvent) (answer : Answered) (new : Whole) (accepted : Bool) (b0 b1 : List ℕ) → Makes old e answer new → accepted ≡ is_ok answer →
    b1 ≡ b0 ++ told_of line new (drainer_of e) answer → MakesTurn line old e accepted new b0 b1
made_turn line old e answer new accepted b0 b1 makes ok told = record {
  network = makes.network;
  turn = turn_of old e answer new makes;
  event = refl;
  is_turn = makes.happens;
  answers = answers_ok answer ∙ sym ok;
  ends = refl;
  tells = told ∙ ap (λ (t : List ℕ). b0 ++ t) (told_is line old e answer new makes);
}

-- ---- events behind one another

pub none_done : (line : ℕ) (Due : NetworkParts → BlindState → Option BlindEvent → Type 0) (w : Whole) (b : List ℕ) → DoesSome line Due w w b b
none_done line Due w b = record { network = refl; turns = []; plays = refl; tells = sym (append-nil b) }

module _ (Due : NetworkParts → BlindState → Option BlindEvent → Type 0) (n : NetworkParts) where
  due_more : (s : BlindState) (ts : List Turn) (mid : BlindState) (t : Turn) → AreDue Due n s ts mid → Due n mid (Some t.event) → IsTurn n mid t → is_accepted t.answer ≡ true →
      AreDue Due n s (ts ++ t ∷ []) t.after
  due_more s [] mid t are is_due is ok = (subst (λ (u : BlindState). Due n u (Some t.event)) are is_due, subst (λ (u : BlindState). IsTurn n u t) are is, ok, refl)
  due_more s (x ∷ xs) mid t are is_due is ok = (are.0, are.1, are.2, due_more x.after xs mid t are.3 is_due is ok)

-- one more event that was due
pub one_more : (line : ℕ) (Due : NetworkParts → BlindState → Option BlindEvent → Type 0) (old mid new : Whole) (e : BlindEvent) (b0 b1 b2 : List ℕ) → DoesSome line Due old mid b0 b1 → Due mid.network mid.state (Some e) →
    MakesTurn line mid e true new b1 b2 → DoesSome line Due old new b0 b2
one_more line Due old mid new e b0 b1 b2 done is_due makes =
    let t = makes.turn in
    let here : Due old.network mid.state (Some t.event) = subst (λ (n : NetworkParts). Due n mid.state (Some t.event)) done.network (subst (λ (x : BlindEvent). Due mid.network mid.state (Some x)) (sym makes.event) is_due) in
    let turn : IsTurn old.network mid.state t = subst (λ (n : NetworkParts). IsTurn n mid.state t) done.network makes.is_turn in
    let more : AreDue Due old.network old.state (done.turns ++ t ∷ []) t.after = due_more Due old.network old.state done.turns mid.state t done.plays here turn makes.answers in
    record {
      network = makes.network ∙ done.network;
      turns = done.turns ++ t ∷ [];
      plays = subst (λ (u : BlindState). AreDue Due old.network old.state (done.turns ++ t ∷ []) u) (sym makes.ends) more;
      tells =
          makes.tells ∙ ap (λ (n : NetworkParts). b1 ++ turn_text line n t) done.network ∙ ap (λ (b : List ℕ). b ++ turn_text line old.network t) done.tells
          ∙ flat_map_more (turn_text line old.network) b0 done.turns t;
    }

-- ---- takes

module _ (line i : ℕ) (old mid new : Whole) (b0 b1 b2 : List ℕ) where
  abbrev TakesOne : Bool → Type 0
  TakesOne taken = MakesTurn line mid (blind.Take i) taken new b1 b2

  took : (taken : Bool) (makes : TakesOne taken) → BlindHappens wire mid.network mid.state (blind.Take i) (happened_in makes.turn)
  took taken makes = subst (λ (e : BlindEvent). BlindHappens wire mid.network mid.state e (happened_in makes.turn)) makes.event makes.is_turn

  -- a take that is refused found nothing
  nothing : (makes : TakesOne false) → FoundNothing i mid.state (happened_in makes.turn)
  nothing makes = take_empty Nothing Nothing wire mid.network show_nothing i mid.state (happened_in makes.turn) (took false makes) makes.answers

  same_state : (makes : TakesOne false) → new.state ≡ mid.state
  same_state makes = makes.ends ∙ (nothing makes).state

  untold : (makes : TakesOne false) → b2 ≡ b1
  untold makes =
      makes.tells
      ∙ ap (λ (ds : List (Deed Nothing)). b1 ++ turn_text line mid.network (record { event = makes.turn.event; answer = makes.turn.answer; deeds = ds; after = makes.turn.after })) (nothing makes).deeds
      ∙ append-nil b1

  -- one take more, or the end
  pub one_take : (taken : Bool) → DoesSome line (IsDueTake i) old mid b0 b1 → TakesOne taken → DoesSome line (IsDueTake i) old new b0 b2 × (taken ≡ false → inbox_of i new.state ≡ [])
  one_take true done makes = (one_more line (IsDueTake i) old mid new (blind.Take i) b0 b1 b2 done refl makes, λ e. absurd (let no : true ≡ false = e in cc))
  one_take false done makes = (
    record {
      network = makes.network ∙ done.network;
      turns = done.turns;
      plays = subst (λ (s : BlindState). AreDue (IsDueTake i) old.network old.state done.turns s) (sym (same_state makes)) done.plays;
      tells = untold makes ∙ done.tells;
    },
    λ e. subst (λ (s : BlindState). inbox_of i s ≡ []) (sym (same_state makes)) (nothing makes).empty,
  )

  falls : (taken : Bool) → TakesOne taken → cond taken (suc (length (inbox_of i new.state))) 0 < suc (length (inbox_of i mid.state))
  falls true makes =
      let less : length (inbox_of i new.state) < length (inbox_of i mid.state) =
      subst (λ (s : BlindState). length (inbox_of i s) < length (inbox_of i mid.state)) (sym makes.ends)
      (take_less Nothing Nothing wire mid.network show_nothing i mid.state (happened_in makes.turn) (took true makes) makes.answers) in
      omega arith
  falls false makes = omega arith

  pub take_falls : (was taken : Bool) → was ≡ true → TakesOne taken → cond taken (suc (length (inbox_of i new.state))) 0 < cond was (suc (length (inbox_of i mid.state))) 0
  take_falls was taken e makes = subst (λ (b : Bool). cond taken (suc (length (inbox_of i new.state))) 0 < cond b (suc (length (inbox_of i mid.state))) 0) (sym e) (falls taken makes)

-- ---- messages that are carried

-- what is due can be carried
pub one_carry : (line : ℕ) (old mid new : Whole) (a b : As) (b0 b1 b2 : List ℕ) (accepted : Bool) → DoesSome line IsDueCarry old mid b0 b1 → IsLeast mid.network mid.state (a, b) →
    MakesTurn line mid (blind.Carry a b) accepted new b1 b2 → DoesSome line IsDueCarry old new b0 b2
one_carry line old mid new a b b0 b1 b2 accepted done least makes =
    let happens : BlindHappens wire mid.network mid.state (blind.Carry a b) (happened_in makes.turn) =
    subst (λ (e : BlindEvent). BlindHappens wire mid.network mid.state e (happened_in makes.turn)) makes.event makes.is_turn in
    let ok : is_accepted makes.turn.answer ≡ true = can_carry Nothing Nothing wire mid.network show_nothing mid.state a b least (happened_in makes.turn) happens in
    let yes : MakesTurn line mid (blind.Carry a b) true new b1 b2 = subst (λ (x : Bool). MakesTurn line mid (blind.Carry a b) x new b1 b2) (sym makes.answers ∙ ok) makes in
    one_more line IsDueCarry old mid new (blind.Carry a b) b0 b1 b2 done least yes

pub all_carried : (line : ℕ) (old new : Whole) (b0 b1 : List ℕ) → DoesSome line IsDueCarry old new b0 b1 → IsSettled new.network new.state → Does line (AreAllDue IsDueCarry) old new b0 b1
all_carried line old new b0 b1 done settled = record {
  network = done.network;
  turns = done.turns;
  plays = record { due = done.plays; over = subst (λ (n : NetworkParts). IsSettled n new.state) done.network settled };
  tells = done.tells;
}
