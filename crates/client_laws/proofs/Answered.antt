-- The question of a client that asks once is read as what it says, it is taken, and it has an answer.
use Rattle.std.proofs.Common.{◌≡◌, ◌≢◌, ◌≤◌, ◌==◌, ◌&&◌, ℕ, Bool, true, false, List, [], ◌∷◌, ◌++◌, Option, Some, None, sym, ap, subst, ◌∙◌, inl, inr, refl, arith, option_map}
use Rattle.std.specs.Option.{option_or}
use Rattle.std.specs.Prelude.{if◌then◌else◌}
use Rattle.std.proofs.lemmas.Bool.{cases_Bool}
use Rattle.std.proofs.lemmas.List.{append-nil}
use Rattle.plant_play.specs.plant_model.Types.{Addr, As, Object, Request, Wanted, Wish, NetworkParts, Outside}
use Rattle.pcep_messages.specs.declared.message.Wish.TheVariants as wishes
use Rattle.pcep_messages.specs.Refusals.{refusal_of}
use Rattle.pcep_messages.specs.Requests.{wanted_of, wish_of, without_bit}
use Rattle.pcep_messages.specs.Said.{end_points_of}
use Rattle.pcep_messages.specs.Spelling.{IsWritten}
use Rattle.dom_edge.specs.Stores.{Files}
use Rattle.plant_text.specs.Names.{parent_as, same_as}
use Rattle.request_table.specs.Pending.{key_of}
use Rattle.plant_play.specs.plant_model.declared.output.Output.{Output}
use Rattle.plant_play.specs.plant_model.Deeds.{element_of}
use Rattle.plant_play.specs.plant_model.Element.{Element}
use Rattle.plant_play.specs.plant_model.Laws.{IsNetwork}
use Rattle.plant_play.specs.plant_model.Plant.{Entry, Pin, Plant, PlantDeed, Run, Segment, deeds_of}
use Rattle.plant_play.specs.plant_model.RealWire.{check_of, checked, wire}
use Rattle.plant_play.specs.plant_model.State.{Takes}
use Rattle.plant_play.specs.plant_model.Wire.{Admitted, Checked, Wrong}
use Rattle.plant_play.specs.plant_model.Writing.{bandwidth, ends_kind, error_message, iro}
use Rattle.run_laws.specs.plant_laws.Answered.{answers_of}
use Rattle.run_laws.specs.plant_laws.Causes.{OnPassed, by_element, by_parent}
use Rattle.run_laws.specs.plant_laws.MessageCauses.{OnRequest}
use Rattle.run_laws.specs.plant_laws.MessageCauses as causes
use Rattle.run_laws.specs.plant_laws.Transcript.{Delivered, Transcript, Within}
use Rattle.plant_play.specs.Turns.{entries_of}
use Rattle.client_laws.proofs.Rightly.{scripts_are_right}
use Rattle.run_laws.proofs.plant_laws.plant_model.WireLaws.{wire_is_codec}
use Rattle.run_laws.proofs.plant_laws.Once.AskedRuns.{none_outside}
use Rattle.run_laws.proofs.plant_laws.Reasons.MomentCauses.{HasOne, moment_cause}
use Rattle.client_laws.proofs.OutsideStays.{none_dropped, opening_harmless}
use Rattle.run_laws.proofs.plant_laws.Runs.Queues.{same_as_is}
use Rattle.plant_client.specs.declared.question.Question.{Question}
use Rattle.plant_client.specs.Asking.{Asks, topologies}
use Rattle.plant_client.specs.Questions.{asked_of, question_message}
use Rattle.run_laws.proofs.PeerLemmas.OutletRuns.{run_fits}
use Rattle.client_laws.proofs.Asking.{lines_feed, no_connection}
use Rattle.client_laws.proofs.Opening.{Ends, IsNone, Walks, loading, tail_taken}
use Rattle.client_laws.proofs.Resting.{asked_is_quiet}
use Rattle.client_laws.proofs.Serving.{taken_is_served}
use Rattle.client_laws.specs.Answered.{HasAnswer, IsReadSo, IsTakenUp, QuestionIsAnswered, QuestionIsTaken, QuestionsAreRead, answered, refused, waits}
use Rattle.client_laws.specs.Told.{IsClient}
use Rattle.client_laws.specs.Served.{IsServed, at_once, dropped, later}
use Rattle.client_laws.specs.Served as waiting

-- ---- it is read as what it says

module _ (q : Question) (d : As) where
  abbrev objects : List Object
  objects = (asked_of q).objects

  abbrev for_path : Wish
  for_path = wishes.Path (wanted_of d.0 objects (q.source, q.target))

  wish_is : (d.0 == 0) ≡ false → wish_of d.0 objects ≡ Some for_path
  wish_is low = ap wished low
    where
      wished : Bool → Option Wish
      wished b =
          option_map (λ (two : Addr × Addr). wishes.Path (wanted_of d.0 objects two)) (without_bit
          (option_or (if b && false then None else None) (option_or (if b && (ends_kind q.source q.target == 2) then None else Some ((q.source, q.target), true)) (end_points_of d.0 (bandwidth q.bandwidth ++ iro q.sequence)))))

  check_is : (d.0 == 0) ≡ false → check_of (asked_of q) d ≡ checked (Some (0, q.id)) (refusal_of d.0 objects) (Some for_path)
  check_is low = ap (λ (w : Option Wish). checked (Some (0, q.id)) (refusal_of d.0 objects) w) (wish_is low)

  admitted_so : (o : Option (ℕ × ℕ)) (r : Request) → checked (Some (0, q.id)) o (Some for_path) ≡ Admitted r → (r.id ≡ q.id) × (w : Wanted) × (r.wish ≡ wishes.Path w)
  admitted_so None r e =
      let mine : Request = record { flags = 0; id = q.id; wish = for_path } in
      let same : mine ≡ r = cc in
      (ap (λ (x : Request). x.id) (sym same), wanted_of d.0 objects (q.source, q.target), ap (λ (x : Request). x.wish) (sym same))
  admitted_so (Some error) r e = cc

  refused_so : (o : Option (ℕ × ℕ)) (rp : Option (ℕ × ℕ)) (kind value : ℕ) → checked (Some (0, q.id)) o (Some for_path) ≡ Wrong rp kind value → rp ≡ Some (0, q.id)
  refused_so None rp kind value e = cc
  refused_so (Some error) rp kind value e = cc

  -- and it has no flags
  flags_so : (o : Option (ℕ × ℕ)) (r : Request) → checked (Some (0, q.id)) o (Some for_path) ≡ Admitted r → r.flags ≡ 0
  flags_so None r e = (let mine : Request = record { flags = 0; id = q.id; wish = for_path } in let same : mine ≡ r = cc in ap (λ (x : Request). x.flags) (sym same))
  flags_so (Some error) r e = cc

  low_of : d ≢ parent_as → (d.0 == 0) ≡ false
  low_of real = elim (cases_Bool (same_as d parent_as)) [ inl up ↦ absurd (real (same_as_is d parent_as up)) | inr other ↦ other ]

  pub no_flags : d ≢ parent_as → (r : Request) → check_of (asked_of q) d ≡ Admitted r → r.flags ≡ 0
  no_flags real r e = flags_so (refusal_of d.0 objects) r (sym (check_is (low_of real)) ∙ e)

  pub read_so : d ≢ parent_as → IsReadSo q d
  read_so real = record {
    admitted = λ r e. admitted_so (refusal_of d.0 objects) r (sym (check_is (low_of real)) ∙ e);
    refused = λ rp kind value e. refused_so (refusal_of d.0 objects) rp kind value (sym (check_is (low_of real)) ∙ e);
  }

pub questions_are_read : QuestionsAreRead
questions_are_read q d real = read_so q d real

-- ---- it is taken

-- where the lines of the client end
pub question_ends : (files : Option Files) (n : NetworkParts) (client : ℕ) (question : Question) (received : List ℕ) → IsNetwork n → IsClient n client → IsWritten (question_message question) → (a : Asks files n client question received) →
    Ends n client question (entries_of a.lines.turns []) a.asked.state
question_ends files n client question received net is fits a =
    let none : (a.start.state.accesses client).connection ≡ None = no_connection client None (a.start.state.accesses client).connection refl (run_fits wire n [] a.start.state a.new.run client) in
    let start : Walks n client IsNone [] a.start.state = record { at = subst IsNone (sym none) tt; calm = opening_harmless wire n client } in
    loading n client question fits is.known files (topologies n.elements) a.lines.cues a.lines.are_cues a.start a.asked a.lines.turns a.lines.told [] a.lines.played a.new.network start

pub question_is_taken : QuestionIsTaken
question_is_taken files n client question received net is fits a =
    let end = question_ends files n client question received net is fits a in
    let taken = tail_taken n client question (entries_of a.lines.turns []) end.1 in
    record {
      outputs = taken.outputs;
      older = taken.older;
      within = taken.within;
      kept = λ deed before within d x why. none_dropped client (deeds_of wire n (entries_of a.lines.turns [])) end.0.calm deed before within d x why;
    }

-- ---- it has an answer

module _ (n : NetworkParts) (es : List Entry) (s : Plant) (client : ℕ) (q : Question) (t : IsTakenUp n es client q) (real : element_of n client ≢ parent_as) where
  abbrev d : As
  d = element_of n client

  abbrev now : Transcript
  now = deeds_of wire n es

  abbrev deed : List Output → PlantDeed
  deed os = Takes d (Outside client) (question_message q) os

  served : (r : Request) → r.id ≡ q.id → IsServed wire s now d (Outside client) r.id (deed t.outputs ∷ t.older) → HasAnswer n es s client q
  served r id (at_once e older is some) =
      answered e older (subst (λ (m : Transcript). Within m now) is t.within) (subst (λ (x : ℕ). 1 ≤ answers_of d (Outside client) x e) id some)
  served r id (later at is e one) = answered e.deed e.older e.within (subst (λ (x : ℕ). 1 ≤ answers_of d (Outside client) x e.deed) id (omega (arith, one)))
  served r id (dropped at is e none why) = absurd (t.kept e.deed e.older e.within d r.id why)
  served r id (waiting.waits at is now' h there key outside) = waits h there (key ∙ ap (λ (x : ℕ). key_of (Outside client) x) id) outside

  -- what is said to a question that is refused
  module _ (rp : Option (ℕ × ℕ)) (kind value : ℕ) (is : check_of (asked_of q) d ≡ Wrong rp kind value) (named : rp ≡ Some (0, q.id)) where
    abbrev told : ℕ → ℕ → List Output
    told kind' value' = record { to = Outside client; message = error_message (Some (0, q.id)) kind' value' } ∷ []

    not_admitted : {X : Type 0} (r : Request) → check_of (asked_of q) d ≡ Admitted r → X
    not_admitted r e = absurd (let clash : Wrong rp kind value ≡ Admitted r = sym is ∙ e in cc)

    same_rp : (rp' : Option (ℕ × ℕ)) (kind' value' : ℕ) → check_of (asked_of q) d ≡ Wrong rp' kind' value' → rp' ≡ rp
    same_rp rp' kind' value' e = (let same : Wrong rp' kind' value' ≡ Wrong rp kind value = sym e ∙ is in cc)

    refuses : (os : List Output) (now' : ℕ) (k : Element Pin Segment) → OnRequest wire n d (Outside client) now' (asked_of q) k os → (kind' : ℕ) × (value' : ℕ) × (os ≡ told kind' value')
    refuses os now' k (causes.wrong rp' kind' value' e says) =
        (kind', value', says ∙ ap (λ (z : Option (ℕ × ℕ)). let o : Output = record { to = Outside client; message = error_message z kind' value' } in o ∷ []) (same_rp rp' kind' value' e ∙ named))
    refuses os now' k (causes.again r number e there says) = not_admitted r e
    refuses os now' k (causes.key_shown r key pce segment e none wish behind says) = not_admitted r e
    refuses os now' k (causes.key_refused r key pce e none wish behind says) = not_admitted r e
    refuses os now' k (causes.no_room r w e none wish full says) = not_admitted r e
    refuses os now' k (causes.for_path r w e none wish room on) = not_admitted r e

    by_cause : HasOne wire n (deed t.outputs) t.older → HasAnswer n es s client q
    by_cause one = go one.cause.1
      where
        go : OnPassed wire n one.before one.event d (Outside client) (question_message q) t.outputs → HasAnswer n es s client q
        go (by_parent up on) = absurd (real (same_as_is d parent_as up))
        go (by_element low on) =
            let said = refuses on.0 one.before.clock (one.before.elements d) on.3 in
            let all : t.outputs ≡ told said.0 said.1 = on.2 ∙ ap (λ (l : List Output). on.0 ++ l) on.4 ∙ append-nil on.0 ∙ said.2 in
            refused said.0 said.1 t.older (subst (λ (os : List Output). Within (deed os ∷ t.older) now) all t.within)

pub question_is_answered : QuestionIsAnswered
question_is_answered files n client q received net is fits a short = go (check_of (asked_of q) (element_of n client)) refl
  where
    run : Run wire n (entries_of a.lines.turns []) a.asked.state
    run =
        (scripts_are_right n net a.start a.asked a.lines.cues a.lines.turns a.lines.told a.new (lines_feed (topologies n.elements) client q a.octets files a.lines.cues a.lines.are_cues) a.lines.played).0.run

    t : IsTakenUp n (entries_of a.lines.turns []) client q
    t = question_is_taken files n client q received net is fits a

    real : element_of n client ≢ parent_as
    real up =
        none_outside n net wire wire_is_codec (entries_of a.lines.turns []) a.asked.state run client (question_message q) t.outputs t.older
        (subst (λ (z : As). Within (Takes z (Outside client) (question_message q) t.outputs ∷ t.older) (deeds_of wire n (entries_of a.lines.turns []))) up t.within)

    go : (k : Checked) → check_of (asked_of q) (element_of n client) ≡ k → HasAnswer n (entries_of a.lines.turns []) a.asked.state client q
    go (Admitted r) e =
        let read = (read_so q (element_of n client) real).admitted r e in
        let delivered : Delivered wire (Takes (element_of n client) (Outside client) (question_message q) t.outputs ∷ t.older) (element_of n client) (Outside client) r = (asked_of q, t.outputs, refl, e) in
        served n (entries_of a.lines.turns []) a.asked.state client q t real r read.0
        (taken_is_served wire wire_is_codec n net (entries_of a.lines.turns []) a.asked.state run short (asked_is_quiet files n client q received net a) (element_of n client) (Outside client) r read.1
        (Takes (element_of n client) (Outside client) (question_message q) t.outputs ∷ t.older) real t.within delivered read.2)
    go (Wrong rp kind value) e =
        elim (moment_cause wire n (entries_of a.lines.turns []) a.asked.state run short (Takes (element_of n client) (Outside client) (question_message q) t.outputs) t.older t.within) [
          | inl one ↦ by_cause n (entries_of a.lines.turns []) a.asked.state client q t real rp kind value e ((read_so q (element_of n client) real).refused rp kind value e) one
          | inr opening ↦ absurd opening
        ]
