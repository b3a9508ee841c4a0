-- A pending request, by the transcript: it was delivered, and pins the topology that was the last one loaded before.
use Rattle.std.specs.Prelude.{◌≡◌, Some}
use Rattle.plant_model.specs.Types.{As, Request, NetworkParts}
use Rattle.pcep_messages.specs.declared.message.Wish.TheVariants as wishes
use Rattle.plant_model.specs.Wire.{Codec}
use Rattle.plant_model.specs.Element.{Row}
use Rattle.plant_text.specs.Settings.{class_of}
use Rattle.plant_model.specs.Plant.{Pin}
use Rattle.plant_laws.specs.Transcript.{Transcript, opened, Delivered, pinned}

pub record IsTaken (c : Codec) (n : NetworkParts) (now : Transcript) (d : As) (h : Row Pin) : Type 0 where
  pub at : Transcript
  pub is_open : opened c d h.1.key.peer h.1.key.id now ≡ Some at
  pub request : Request
  pub delivered : Delivered c at d h.1.key.peer request
  pub flags : request.flags ≡ h.1.item.flags
  pub id : request.id ≡ h.1.key.id
  pub wanted : request.wish ≡ wishes.Path h.1.item.wanted
  pub class : h.1.item.class ≡ class_of n h.1.key.peer
  pub pin : h.1.item.pin.topology ≡ pinned d at
