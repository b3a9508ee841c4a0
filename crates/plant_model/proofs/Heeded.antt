-- What heeding keeps of a message, and that what is heeded can be joined.
use Rattle.std.proofs.Common.{◌≡◌, ◌*◌, ℕ, List, [], ◌∷◌, map, Option, Some, None, ap, refl}
use Rattle.pcep_messages.specs.declared.message.Message.TheVariants as messages
use Rattle.plant_model.specs.Types.{Reply}
use Rattle.outside_part.specs.Ranges.{AreInRange, EachPath, CanBeJoined}
use Rattle.outside_part.proofs.Inserting.{each_weaker}
use Rattle.outside_part.proofs.SiftedAgain.{sifted_fits}
use Rattle.plant_model.specs.Wire.{Codec}
use Rattle.plant_model.specs.Outside.{heeded_by}
use Rattle.plant_model.specs.Heeding.{HeedingKeeps, HeededJoins}

abbrev named : Reply → ℕ × ℕ
named r = (r.flags, r.id)

each_named : (c : Codec) (sent : ℕ → Option ℕ) (rs : List Reply) → map named (map (λ (r : Reply). heeded_by c (sent r.id) r) rs) ≡ map named rs
each_named c sent [] = refl
each_named c sent (r ∷ rs) = go (sent r.id) (each_named c sent rs)
  where
    go : (o : Option ℕ) → map named (map (λ (r : Reply). heeded_by c (sent r.id) r) rs) ≡ map named rs →
        named (heeded_by c o r) ∷ map named (map (λ (r : Reply). heeded_by c (sent r.id) r) rs) ≡ named r ∷ map named rs
    go None more = ap (λ (l : List (ℕ × ℕ)). named r ∷ l) more
    go (Some domains) more = ap (λ (l : List (ℕ × ℕ)). named r ∷ l) more

pub heeding_keeps : HeedingKeeps
heeding_keeps c sent (messages.PcRep replies) = record { kind = refl; replies = each_named c sent replies; others = λ no. absurd (no replies refl) }
heeding_keeps c sent (messages.Open opening) = record { kind = refl; replies = refl; others = λ no. refl }
heeding_keeps c sent messages.Keepalive = record { kind = refl; replies = refl; others = λ no. refl }
heeding_keeps c sent (messages.PcReq asks) = record { kind = refl; replies = refl; others = λ no. refl }
heeding_keeps c sent (messages.PcNtf notices) = record { kind = refl; replies = refl; others = λ no. refl }
heeding_keeps c sent (messages.PcErr reports) = record { kind = refl; replies = refl; others = λ no. refl }
heeding_keeps c sent (messages.Close reason) = record { kind = refl; replies = refl; others = λ no. refl }
heeding_keeps c sent (messages.Other kind) = record { kind = refl; replies = refl; others = λ no. refl }

pub heeded_joins : HeededJoins
heeded_joins c bytes replies domains codec octets read =
    each_weaker (λ (r : Reply). AreInRange r.answer) (λ (r : Reply). EachPath (CanBeJoined (3 * domains)) (heeded_by c (Some domains) r).answer)
    (λ r range. sifted_fits c.units c.word (3 * domains) r range) replies (codec.numbers.hops bytes replies octets read)
