-- A request that waits in the state that an event met, and is open still, went on to the peer on which it waits.
use Rattle.std.proofs.Common.{◌≡◌, ℕ, List, ◌++◌, Option, Some, None, sym, ◌∙◌, ap, inl, inr}
use Rattle.plant_model.specs.Types.{As, Peer, Message, NetworkParts}
use Rattle.plant_model.specs.declared.event.Event.{Event}
use Rattle.plant_model.specs.Wire.{Codec}
use Rattle.plant_model.specs.Laws.{IsCodec, IsNetwork}
use Rattle.plant_model.specs.Plant.{Plant, Entry, Run, deeds_of}
use Rattle.plant_laws.specs.Causes.{Passes, HaveCauses}
use Rattle.plant_laws.specs.MessageCauses.{Asker, WaitsAt}
use Rattle.plant_laws.specs.Transcript.{Transcript, opened}
use Rattle.plant_laws.specs.Waiting.{WasSentOn}
use Rattle.plant_laws.specs.WentOn.{WentOn}
use Rattle.plant_laws.proofs.Once.Handing.{IsAsk}
use Rattle.plant_laws.proofs.Once.StillOpen.{still_open}
use Rattle.plant_laws.proofs.Settled.Waits.{waits_are_sent}

module _ (c : Codec) (codec : IsCodec c) (n : NetworkParts) (net : IsNetwork n) (d : As) (older : Transcript) (q : Peer) (entries : List Entry) (before : Plant) (run : Run c n entries before) (earlier : Transcript)
    (is_then : older ≡ earlier ++ deeds_of c n entries) (event : Event) (causes : HaveCauses c n before event earlier) (p : Peer) (x : ℕ) where
  pub went_on : (m : Message) → Passes c n before event d q m → (IsAsk m → ⊥) → (at : Transcript) → opened c d p x older ≡ Some at → (y : ℕ) (a : Asker) → WaitsAt (before.elements d) q y a → p ≡ a.peer → x ≡ a.id → WentOn c older d p x q y
  went_on m passes asks at is_open y a w peer id = elim (still_open c n before event d q m passes asks earlier (deeds_of c n entries) causes d p x sent.at opened_then) [
    | inl same ↦ record { at = sent.at; is_open = ap (opened c d p x) is_then ∙ same; wanted = w.row.1.item.wanted; rest = sent.rest; sent = sent.sent }
    | inr none ↦ absurd (let clash : ◌≡◌ {A = Option Transcript} None (Some at) = sym (ap (opened c d p x) is_then ∙ none) ∙ is_open in cc)
  ]
    where
      sent : WasSentOn c n (deeds_of c n entries) d w.row q y
      sent = waits_are_sent c codec n net entries before run d w.row w.is_row q y w.waits

      opened_then : opened c d p x (deeds_of c n entries) ≡ Some sent.at
      opened_then =
          ap (λ (z : Peer). opened c d z x (deeds_of c n entries)) (peer ∙ ap (λ (z : Asker). z.peer) w.asked)
          ∙ ap (λ (z : ℕ). opened c d w.row.1.key.peer z (deeds_of c n entries)) (id ∙ ap (λ (z : Asker). z.id) w.asked) ∙ sent.is_open
