-- That a chain failed is told of a request that went on, for an outside peer does not serve it.
use Rattle.std.proofs.Common.{◌≡◌, ◌≢◌, ◌≤◌, ◌+◌, ◌==◌, ℕ, Bool, true, false, cond, List, [], ◌∷◌, ◌++◌, Some, eq-eqb, sym, ap, subst, inl, inr, refl, arith}
use Rattle.plant_model.specs.Types.{As, Addr, Peer, Outside, Inner, Asked, ErrorReport, Message, Wanted, NetworkParts}
use Rattle.pcep_messages.specs.declared.message.Message.TheVariants as messages
use Rattle.pcep_messages.specs.Spelling.{IsWritten}
use Rattle.request_table.specs.Pending.{same_peer}
use Rattle.plant_text.specs.Names.{same_as, parent_as}
use Rattle.plant_model.specs.declared.event.Event.{Event}
use Rattle.plant_model.specs.declared.output.Output.{Output}
use Rattle.plant_model.specs.Wire.{Codec}
use Rattle.plant_model.specs.Laws.{IsCodec, IsNetwork}
use Rattle.plant_model.specs.Writing.{request_message, reply_message, unavailable}
use Rattle.plant_model.specs.State.{Takes}
use Rattle.plant_model.specs.Plant.{Pin, Plant, PlantDeed, Entry, Run, deeds_of}
use Rattle.plant_laws.specs.About.{IsShort}
use Rattle.plant_laws.specs.Causes.{Passes, HaveCauses}
use Rattle.plant_laws.specs.Errors.{chain_failed, HearsFailed, Unserved, outside, further}
use Rattle.plant_laws.specs.Matched.{Answering, ends}
use Rattle.plant_laws.specs.MessageCauses.{Asker, chain_broken, WaitsAt, OnMessage}
use Rattle.plant_laws.specs.Sending.{AllSent}
use Rattle.plant_laws.specs.Transcript.{Transcript, Within, SentIn, Handed, opened, one_if, count_answers, answers_to, outputs_at}
use Rattle.plant_laws.specs.WentOn.{WentOn}
use Rattle.plant_laws.proofs.Least.FromElement.{within_tail}
use Rattle.plant_laws.proofs.Numbering.Counted.{low_of, ids_differ}
use Rattle.plant_laws.proofs.Numbering.NumberRuns.{AreNumbered, run_last}
use Rattle.plant_laws.proofs.Numbering.Sends.{Each-within}
use Rattle.plant_laws.proofs.Numbering.Taken.{peer_self}
use Rattle.plant_laws.proofs.Once.Answering.{IsFairDeed, behaves, run_kept, must_end}
use Rattle.plant_laws.proofs.Once.Besides.{answers_in}
use Rattle.plant_laws.proofs.Once.Founded.{founded_within, run_founded}
use Rattle.plant_laws.proofs.Once.Handing.{In}
use Rattle.plant_laws.proofs.Once.Matched.{counts, delivered_by}
use Rattle.plant_laws.proofs.Reasons.Heard.{HearsError, hears_error}
use Rattle.plant_laws.proofs.Reasons.PartCauses.{contains_at}
use Rattle.plant_laws.proofs.Reasons.Went.{went_on}
use Rattle.plant_laws.proofs.Runs.Moments.{within_trans, opened_within}
use Rattle.plant_laws.proofs.Runs.Rows as table
use Rattle.plant_laws.proofs.WrittenForm.ReadBack.{AreRead, run_read, run_single}

-- ---- an error that names a request

first_of : List (ℕ × ℕ) → ℕ
first_of (rp ∷ rest) = rp.1
first_of [] = 0

reported : List ErrorReport → ℕ
reported (r ∷ rest) = first_of r.ids
reported [] = 0

id_in : Message → ℕ
id_in (messages.PcErr reports) = reported reports
id_in (messages.Open body) = 0
id_in messages.Keepalive = 0
id_in (messages.PcReq asks) = 0
id_in (messages.PcRep replies) = 0
id_in (messages.PcNtf notices) = 0
id_in (messages.Close why) = 0
id_in (messages.Other kind) = 0

pub failed_one : (p : Peer) (flags x : ℕ) (q : Peer) (flags' y : ℕ) → In {A = Output} (record { to = p; message = chain_failed flags x }) (record { to = q; message = chain_failed flags' y } ∷ []) → (p ≡ q) × (x ≡ y)
unfolding id_in reported first_of
failed_one p flags x q flags' y (inl is) = (ap (λ (o : Output). o.to) is, ap (λ (o : Output). id_in o.message) is)
failed_one p flags x q flags' y (inr no') = absurd no'

pub failed_counts : (p : Peer) (x flags : ℕ) (os : List Output) → table.In {A = Output} (record { to = p; message = chain_failed flags x }) os → 1 ≤ answers_to p x os
failed_counts p x flags [] none = absurd none
failed_counts p x flags (o ∷ os) (inl is) = subst (λ (y : Output). 1 ≤ cond (same_peer y.to p) (count_answers x y.message) 0 + answers_to p x os) (sym is) here
  where
    here : 1 ≤ cond (same_peer p p) (one_if (cond (x == x) true false) + 0) 0 + answers_to p x os
    here = rw (peer_self p, eq-eqb x x refl) (omega arith)
failed_counts p x flags (o ∷ os) (inr i) = let rec = failed_counts p x flags os i in omega (arith, rec)

flipped : (out : Output) (os : List Output) → In out os → table.In out os
flipped out [] i = i
flipped out (o ∷ os) (inl same) = inl (sym same)
flipped out (o ∷ os) (inr more) = inr (flipped out os more)

module _ (c : Codec) (codec : IsCodec c) (n : NetworkParts) (net : IsNetwork n) (es : List Entry) (s : Plant) (run : Run c n es s) (written : AllSent IsWritten (deeds_of c n es)) (short : IsShort (deeds_of c n es)) (d : As) (real : d ≢ parent_as) where
  abbrev now : Transcript
  now = deeds_of c n es

  -- what b said of the request that d sent on is about this very request
  pub answering_so : (b : As) (id flags : ℕ) (deed : PlantDeed) (before : Transcript) → Within (deed ∷ before) now → table.In {A = Output} (record { to = Inner d; message = chain_failed flags id }) (outputs_at b deed) → Unserved c b (Inner d) id deed before → (at : Transcript) → Within at now →
      (w : Wanted) (t : Addr) (rest : List As) → SentIn at d (Inner b) (request_message id w t rest) → Answering c d b id at deed before
  answering_so b id flags deed before inside said why at at_now w t rest sent = elim (counts d b id deed (failed_counts (Inner d) id flags (outputs_at b deed) said)) [
    | inl counted ↦ ended counted
    | inr once ↦ absurd (none_at_once id deed before why once.0 once.1 once.2)
  ]
    where
      none_at_once : (id : ℕ) (deed : PlantDeed) (before : Transcript) → Unserved c b (Inner d) id deed before → (asks : List Asked) (os : List Output) → deed ≡ Takes b (Inner d) (messages.PcReq asks) os → ⊥
      none_at_once id deed before (outside b' i q' x' older' reports error rp os' there of went) asks os is =
          (let clash : ◌≡◌ {A = PlantDeed} (Takes b' (Outside i) (messages.PcErr reports) os') (Takes b (Inner d) (messages.PcReq asks) os) = is in cc)
      none_at_once id deed before (further b' a q' x' older' os' low k deeper) asks os is =
          (let clash : ◌≡◌ {A = PlantDeed} (Takes b' (Inner a) (chain_failed k.flags k.id) os') (Takes b (Inner d) (messages.PcReq asks) os) = is in cc)

      numbers : AreNumbered c d now
      numbers = (run_last c codec n es s run (run_single c n codec es s run written) short d (low_of d real)).1

      read : AreRead now
      read = run_read c n codec es s run written

      ended : 1 ≤ answers_in b (Inner d) id deed → Answering c d b id at deed before
      ended counted =
          let found = (founded_within c now (run_founded c n es s run (run_single c n codec es s run written)) deed before inside).found b (Inner d) id counted in
          let fair = Each-within IsFairDeed now (run_kept c n es s run).1 deed before inside in
          let at_in = within_trans found.0 before now (opened_within c b (Inner d) id before found.0 found.1) (within_tail deed before now inside) in
          let of = delivered_by c codec d b now numbers short read id found.0 found.2 at_in found.3 found.4 in
          let same = (ids_differ c d b now numbers of.0 at of.1 at_now id of.3 w of.4 t of.5 rest of.6 sent).0 in
          ends found.0 found.1 (must_end c b (Inner d) id deed (behaves c b (Inner d) id deed fair) counted) (subst (λ (l : Transcript). Handed d b l found.0) same of.2)

  module _ (older : Transcript) (q : Peer) (entries : List Entry) (before : Plant) (run' : Run c n entries before) (earlier : Transcript) (is_then : older ≡ earlier ++ deeds_of c n entries) (event : Event) (causes : HaveCauses c n before event earlier)
      (p : Peer) (x flags : ℕ) (reports : List ErrorReport) (all : List Output) (within : Within (Takes d q (messages.PcErr reports) all ∷ older) now) (passes : Passes c n before event d q (messages.PcErr reports))
      (said : In {A = Output} (record { to = p; message = chain_failed flags x }) all) where
    -- it was open, so it went on
    goes : (y : ℕ) (a : Asker) → WaitsAt (before.elements d) q y a → p ≡ a.peer → x ≡ a.id → WentOn c older d p x q y
    goes y a w peer id = went_on c codec n net d older q entries before run' earlier is_then event causes p x (messages.PcErr reports) passes (λ no. no) f.0 f.1 y a w peer id
      where
        own : 1 ≤ answers_to p x (cond (same_as d d) all [])
        own = failed_counts p x flags (cond (same_as d d) all []) (subst (λ (b : Bool). table.In {A = Output} (record { to = p; message = chain_failed flags x }) (cond b all [])) (sym (eq-eqb d.0 d.0 refl)) (flipped (record { to = p; message = chain_failed flags x }) all said))

        f : (at : Transcript) × (opened c d p x older ≡ Some at)
        f = (let g = (founded_within c now (run_founded c n es s run (run_single c n codec es s run written)) (Takes d q (messages.PcErr reports) all) older within).found d p x own in (g.0, g.1))

    pub by_outside : (j : ℕ) → q ≡ Outside j → (pin : Pin) → OnMessage c n d pin q before.clock (messages.PcErr reports) (before.elements d) all → Unserved c d p x (Takes d q (messages.PcErr reports) all) older
    by_outside j is pin on = elim h.says [
      | inl o ↦
          let one = failed_one p flags x h.asker.peer h.asker.flags h.asker.id o.1 in
          subst (λ (z : Peer). Unserved c d p x (Takes d z (messages.PcErr reports) all) older) (sym is)
          (outside d j p x older reports h.error h.rp all (contains_at _ _ h.among) o.0 (subst (λ (z : Peer). WentOn c older d p x z h.rp.1) is (goes h.rp.1 h.asker h.waits one.0 one.1)))
      | inr o ↦ absurd (no_reply h.asker o.2)
    ]
      where
        h : HearsError c n d pin q before.clock (before.elements d) (record { to = p; message = chain_failed flags x }) reports
        h = hears_error c n d pin q before.clock reports (before.elements d) all (record { to = p; message = chain_failed flags x }) on said

        no_reply : (a : Asker) → In {A = Output} (record { to = p; message = chain_failed flags x }) (chain_broken a) → ⊥
        no_reply a (inl same) = (let clash : chain_failed flags x ≡ reply_message a.flags a.id unavailable = ap (λ (z : Output). z.message) same in cc)
        no_reply a (inr no') = no'

    pub by_inner : (b : As) → q ≡ Inner b → (id flags' : ℕ) → messages.PcErr reports ≡ chain_failed flags' id → (a : Asker) → WaitsAt (before.elements d) q id a → p ≡ a.peer → x ≡ a.id →
        (deed : PlantDeed) (older' : Transcript) → Within (deed ∷ older') older → SentIn (deed ∷ older') b (Inner d) (messages.PcErr reports) → Unserved c b (Inner d) id deed older' → Unserved c d p x (Takes d q (messages.PcErr reports) all) older
    by_inner b is id flags' names a w peer id' deed older' inside sent why =
        let went = subst (λ (z : Peer). WentOn c older d p x z id) is (goes id a w peer id') in
        let older_now = within_tail (Takes d q (messages.PcErr reports) all) older now within in
        let at_now = within_trans went.at older now (opened_within c d p x older went.at went.is_open) older_now in
        let sent' = subst (λ (m : Message). SentIn (deed ∷ older') b (Inner d) m) names sent in
        let h : HearsFailed c older d p x b = record {
          id = id;
          went = went;
          flags = flags';
          deed = deed;
          before = older';
          within = inside;
          said = sent';
          answering = answering_so b id flags' deed older' (within_trans (deed ∷ older') older now inside older_now) (table.in_of _ (outputs_at b deed) sent') why went.at at_now went.wanted went.wanted.target went.rest went.sent;
        } in
        subst (λ (z : Peer). Unserved c d p x (Takes d z (messages.PcErr reports) all) older) (sym is)
        (subst (λ (m : Message). Unserved c d p x (Takes d (Inner b) m all) older) (sym names) (further d b p x older all real h why))
