-- The request that an element sent on, of one that waits, is the one that is pending at the next under the id for which it waits.
use Rattle.std.proofs.Common.{◌≡◌, ◌≢◌, ℕ, List, Some, sym, ◌∙◌, ap, subst}
use Rattle.std.specs.Prelude.{Contains}
use Rattle.plant_model.specs.Types.{As, Peer, Inner, RequestKey, NetworkParts}
use Rattle.pcep_messages.specs.Spelling.{IsWritten}
use Rattle.request_table.specs.Pending.{key_of}
use Rattle.plant_text.specs.Names.{parent_as}
use Rattle.plant_model.specs.Wire.{Codec}
use Rattle.plant_model.specs.Laws.{IsCodec, IsNetwork}
use Rattle.plant_model.specs.Element.{Row, Waits}
use Rattle.plant_model.specs.Plant.{Pin, Plant, Entry, Run, deeds_of}
use Rattle.plant_laws.specs.Transcript.{Transcript, Delivered, Handed, opened}
use Rattle.plant_laws.specs.About.{IsShort}
use Rattle.plant_laws.specs.Chains.{IsPassedOn}
use Rattle.plant_laws.specs.Sending.{AllSent}
use Rattle.plant_laws.proofs.Numbering.Counted.{low_of, ids_differ}
use Rattle.plant_laws.proofs.Once.Matched.{delivered_by}
use Rattle.plant_laws.proofs.Runs.Moments.{opened_within}
use Rattle.plant_laws.proofs.Numbering.NumberRuns.{run_last}
use Rattle.plant_laws.proofs.Once.OpenTables.{open_is_pending}
use Rattle.plant_laws.proofs.WrittenForm.ReadBack.{run_read, run_single}
use Rattle.plant_laws.proofs.Settled.Waits.{waits_are_sent}

module _ (c : Codec) (codec : IsCodec c) (n : NetworkParts) (net : IsNetwork n) (es : List Entry) (s : Plant) (run : Run c n es s) (written : AllSent IsWritten (deeds_of c n es)) (short : IsShort (deeds_of c n es)) where
  abbrev now : Transcript
  now = deeds_of c n es

  pub passed_on : (d b : As) (h g : Row Pin) (y : ℕ) → d ≢ parent_as → Contains (s.elements d).pending.rows h → h.1.item.stage ≡ Waits (Inner b) y → Contains (s.elements b).pending.rows g → g.1.key ≡ key_of (Inner d) y →
      IsPassedOn c s now d h b y g
  passed_on d b h g y real there waits pending key =
      let numbers = (run_last c codec n es s run (run_single c n codec es s run written) short d (low_of d real)).1 in
      let read = run_read c n codec es s run written in
      let sent = waits_are_sent c codec n net es s run d h there (Inner b) y waits in
      let sent_in = opened_within c d h.1.key.peer h.1.key.id now sent.at sent.is_open in
      let taken = (open_is_pending c codec n net es s run).taken b g pending in
      let open' : opened c b (Inner d) y now ≡ Some taken.at = ap (λ (k : RequestKey). opened c b k.peer k.id now) (sym key) ∙ taken.is_open in
      let taken_in = opened_within c b (Inner d) y now taken.at open' in
      let delivered : Delivered c taken.at b (Inner d) taken.request = subst (λ (p : Peer). Delivered c taken.at b p taken.request) (ap (λ (k : RequestKey). k.peer) key) taken.delivered in
      let of = delivered_by c codec d b now numbers short read y taken.at taken.request taken_in delivered (taken.id ∙ ap (λ (k : RequestKey). k.id) key) in
      let same = (ids_differ c d b now numbers of.0 sent.at of.1 sent_in y of.3 h.1.item.wanted of.4 h.1.item.wanted.target of.5 sent.rest of.6 sent.sent).0 in
      record {
        pending = pending;
        key = key;
        sent = sent.at;
        is_sent = sent.is_open;
        taken = taken.at;
        is_taken = open';
        handed = subst (λ (m : Transcript). Handed d b m taken.at) same of.2;
      }
