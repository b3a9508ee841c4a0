-- Few requests for each octet that is fed, over the wire of PCEP.
use Rattle.std.proofs.Common.{◌≤◌, ℕ, List, arith}
use Rattle.plant_laws.specs.plant_model.Types.{NetworkParts}
use Rattle.plant_laws.specs.plant_model.Wire.{Codec}
use Rattle.plant_laws.specs.plant_model.RealWire.{wire}
use Rattle.plant_laws.specs.plant_model.Plant.{Plant, Entry, deeds_of}
use Rattle.plant_laws.proofs.plant_model.WireLaws.{wire_is_codec}
use Rattle.plant_laws.specs.Runs.{OverPcep}
use Rattle.plant_laws.specs.Transcript.{asks}
use Rattle.run_laws.specs.Counting.{TakenAreFed, AskedAreFew, FewAreShort, OverFewOctets, fed_bytes, heard}
use Rattle.run_laws.proofs.OctetLemmas.Asking as Asking
use Rattle.run_laws.proofs.OctetLemmas.Fed as Fed
use Rattle.run_laws.proofs.OctetLemmas.Pieces.{few_pieces}

pub taken_are_fed : TakenAreFed
taken_are_fed n es s run = Fed.taken_few wire wire_is_codec few_pieces n es s run

pub asked_are_few : AskedAreFew
asked_are_few n net alone es s run a b = Asking.asked_few wire wire_is_codec n net alone a b es s run

pub few_are_short : FewAreShort
few_are_short n net alone es s run few a b =
    plain (asks a b (deeds_of wire n es)) (heard (deeds_of wire n es)) (fed_bytes es) (asked_are_few n net alone es s run a b) (taken_are_fed n es s run) few
  where
    plain : (x h f : ℕ) → x ≤ h → h ≤ f → f ≤ 4294967295 → x ≤ 4294967295
    plain x h f one two three = omega (arith, one, two, three)

-- so laws of runs in which no id comes round are laws of these
pub of_few_octets : (Holds : Codec → NetworkParts → List Entry → Plant → Type 0) → OverPcep Holds → OverFewOctets Holds
of_few_octets Holds law n net alone es s run few = law n net es s run (few_are_short n net alone es s run few)
