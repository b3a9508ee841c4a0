-- What an element takes from a client that asks once is its question.
use Rattle.std.proofs.Common.{◌≡◌, ℕ, List, [], ◌∷◌, ◌++◌, map, Result, Ok, append_assoc, sym, ap, subst, ◌∙◌, inl, inr, refl, arith}
use Rattle.std.specs.Prelude.{Contains}
use Rattle.std.proofs.lemmas.List.{append-nil}
use Rattle.plant_play.specs.plant_model.Types.{As, Asked, Bad, Message, Request, NetworkParts, Outside}
use Rattle.border_costs.proofs.Members.{contains_cases, contains_head, contains_none, contains_tail}
use Rattle.pcep_framing.specs.Frames.{joined}
use Rattle.pcep_messages.specs.declared.message.Message.TheVariants as messages
use Rattle.pcep_messages.specs.Messages.{Reads, message_of}
use Rattle.pcep_messages.specs.Spelling.{IsWritten, message_text}
use Rattle.pcep_messages.specs.Splitting.{split_of}
use Rattle.pcep_messages.proofs.MessageLaws as message_laws
use Rattle.plant_play.specs.plant_model.declared.output.Output.{Output}
use Rattle.plant_play.specs.plant_model.Plant.{Entry, PlantDeed, Run, deeds_of}
use Rattle.plant_play.specs.plant_model.RealWire.{check_of, wire}
use Rattle.plant_play.specs.plant_model.State.{Takes}
use Rattle.plant_play.specs.plant_model.Wire.{Admitted, Bytes}
use Rattle.run_laws.specs.plant_laws.Transcript.{Delivered, Transcript, Within}
use Rattle.plant_play.specs.Turns.{entries_of}
use Rattle.client_laws.proofs.Rightly.{scripts_are_right}
use Rattle.plant_client.specs.declared.question.Question.{Question}
use Rattle.plant_client.specs.Asking.{topologies}
use Rattle.plant_client.specs.Questions.{asked_of, open_message, opening_text, question_message, question_text}
use Rattle.run_laws.proofs.PeerLemmas.OutletRuns.{run_fits}
use Rattle.run_laws.proofs.PeerLemmas.Streams.{stream_of}
use Rattle.run_laws.specs.Inlets.{WasFed, streams}
use Rattle.run_laws.specs.Received.{framed}
use Rattle.run_laws.proofs.PeerLemmas.InletRuns.{asks_were_fed}
use Rattle.client_laws.proofs.Asking.{lines_feed}
use Rattle.client_laws.specs.Asked.{OneIsAsked}
use Rattle.client_laws.proofs.Feeding.{loading}
use Rattle.client_laws.proofs.Splitting.{question_alone}

pub open_written : IsWritten open_message
open_written = record {
  shape = tt;
  objects = (record { class = omega arith; octets = (omega arith, omega arith, omega arith); kind = omega arith; placed = (refl, refl); fits = omega arith; small = omega arith }, tt);
  small = omega arith;
}

pub keepalive_written : IsWritten messages.Keepalive
keepalive_written = record { shape = tt; objects = tt; small = omega arith }

-- the stream is of three messages
stream_is : (q : Question) → opening_text ++ question_text q ≡ joined (map message_text (open_message ∷ messages.Keepalive ∷ question_message q ∷ []))
stream_is q =
    append_assoc (message_text open_message) (message_text messages.Keepalive) (question_text q)
    ∙ ap (λ (l : List ℕ). message_text open_message ++ (message_text messages.Keepalive ++ l)) (sym (append-nil (question_text q)))

frames_are : (q : Question) → IsWritten (question_message q) → (framed (opening_text ++ question_text q)).frames ≡ message_text open_message ∷ message_text messages.Keepalive ∷ question_text q ∷ []
frames_are q fits =
    ap (λ (l : List ℕ). (framed l).frames) (stream_is q)
    ∙ (stream_of (open_message ∷ messages.Keepalive ∷ question_message q ∷ []) (open_written, (keepalive_written, (fits, tt)))).frames

only : {X : Type 0} (x y : X) → Contains (x ∷ []) y → x ≡ y
only x y h = elim (contains_cases x [] y h) [ inl same ↦ same | inr none ↦ absurd (contains_none y none) ]

abbrev read_as : Message → Result Message Bad
read_as m = Ok m

ok_is : (x y : Message) → read_as x ≡ read_as y → x ≡ y
ok_is x y e = cc

-- of a frame that is not split the message is the one that was written
whole_is : (m : Message) → IsWritten m → split_of (message_text m) ≡ message_text m ∷ [] → (part : Bytes) (other : Message) → Contains (split_of (message_text m)) part → Reads part other → m ≡ other
whole_is m fits alone part other h reads =
    let same : message_text m ≡ part = only (message_text m) part (subst (λ (xs : List Bytes). Contains xs part) alone h) in
    ok_is m other (sym (message_laws.written_is_read m fits) ∙ ap message_of same ∙ reads)

first_is : (a b : Asked) → (let x : Message = messages.PcReq (a ∷ []) in let y : Message = messages.PcReq (b ∷ []) in x ≡ y) → a ≡ b
first_is a b e = cc

no_open : (b : Asked) → open_message ≡ messages.PcReq (b ∷ []) → ⊥
no_open b e = cc

no_keepalive : (b : Asked) → (let x : Message = messages.Keepalive in x ≡ messages.PcReq (b ∷ [])) → ⊥
no_keepalive b e = cc

part_is : (q : Question) → IsWritten (question_message q) → (frame part : Bytes) (b : Asked) → Contains (message_text open_message ∷ message_text messages.Keepalive ∷ question_text q ∷ []) frame → Contains (split_of frame) part → Reads part (messages.PcReq (b ∷ [])) →
    asked_of q ≡ b
part_is q fits frame part b among of_frame reads =
    elim (contains_cases (message_text open_message) (message_text messages.Keepalive ∷ question_text q ∷ []) frame among) [
      | inl same ↦ absurd (no_open b (whole_is open_message open_written refl part (messages.PcReq (b ∷ [])) (subst (λ (f : Bytes). Contains (split_of f) part) (sym same) of_frame) reads))
      | inr more ↦
          elim (contains_cases (message_text messages.Keepalive) (question_text q ∷ []) frame more) [
            | inl same ↦ absurd (no_keepalive b (whole_is messages.Keepalive keepalive_written refl part (messages.PcReq (b ∷ [])) (subst (λ (f : Bytes). Contains (split_of f) part) (sym same) of_frame) reads))
            | inr last ↦
                first_is (asked_of q) b
                (whole_is (question_message q) fits (question_alone q fits) part (messages.PcReq (b ∷ []))
                (subst (λ (f : Bytes). Contains (split_of f) part) (sym (only (question_text q) frame last)) of_frame) reads)
          ]
    ]

-- a moment's deed is one of the run
within_contains : (e : PlantDeed) (older now : Transcript) → Within (e ∷ older) now → Contains now e
within_contains e older [] h = let no : e ∷ older ≡ [] = h in cc
within_contains e older (d ∷ now) (inl same) = let is : e ≡ d = cc in subst (λ (x : PlantDeed). Contains (d ∷ now) x) (sym is) (contains_head d now)
within_contains e older (d ∷ now) (inr h) = contains_tail d now e (within_contains e older now h)

admits : (q : Question) → IsWritten (question_message q) → (n : NetworkParts) (client : ℕ) (es : List Entry) → streams client es ≡ (opening_text ++ question_text q) ∷ [] →
    ((d : As) (asks : List Asked) (os : List Output) → Contains (deeds_of wire n es) (Takes d (Outside client) (messages.PcReq asks) os) → WasFed client es (messages.PcReq asks)) →
    (d : As) (at : Transcript) (r : Request) → Within at (deeds_of wire n es) → Delivered wire at d (Outside client) r → check_of (asked_of q) d ≡ Admitted r
admits q fits n client es stream fed d [] r within delivered = absurd delivered
admits q fits n client es stream fed d (e ∷ older) r within delivered =
    let a = delivered.0 in
    let there : Contains (deeds_of wire n es) (Takes d (Outside client) (messages.PcReq (a ∷ [])) delivered.1) =
    subst (λ (x : PlantDeed). Contains (deeds_of wire n es) x) delivered.2 (within_contains e older (deeds_of wire n es) within) in
    let was = fed d (a ∷ []) delivered.1 there in
    let whole : opening_text ++ question_text q ≡ was.stream = only (opening_text ++ question_text q) was.stream (subst (λ (xs : List Bytes). Contains xs was.stream) stream was.fed) in
    let among : Contains (message_text open_message ∷ message_text messages.Keepalive ∷ question_text q ∷ []) was.is_part.frame =
    subst (λ (xs : List Bytes). Contains xs was.is_part.frame) (frames_are q fits) (subst (λ (x : Bytes). Contains (framed x).frames was.is_part.frame) (sym whole) was.is_part.among) in
    let same : asked_of q ≡ a = part_is q fits was.is_part.frame was.part a among was.is_part.of_frame was.reads in
    ap (λ (x : Asked). check_of x d) same ∙ delivered.3

pub one_is_asked : OneIsAsked
one_is_asked files n client question received net is fits a =
    let es = entries_of a.lines.turns [] in
    let octets = lines_feed (topologies n.elements) client question a.octets files a.lines.cues a.lines.are_cues in
    let run : Run wire n es a.asked.state = (scripts_are_right n net a.start a.asked a.lines.cues a.lines.turns a.lines.told a.new octets a.lines.played).0.run in
    let stream =
    loading client n is.known files (topologies n.elements) question a.lines.cues a.lines.are_cues a.start a.asked a.lines.turns a.lines.told [] a.lines.played a.new.network
    ((refl, run_fits wire n [] a.start.state a.new.run client), refl) in
    admits question fits n client es stream (λ d asks os h. asks_were_fed n es a.asked.state run d client asks os h)
