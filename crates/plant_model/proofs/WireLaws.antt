-- The real wire is a codec.
use Rattle.std.proofs.Common.{◌≡◌, ℕ, ◌<◌, ◌^◌, ◌==◌, Bool, true, false, cond, min, Option, Some, None, ap, refl, arith}
use Rattle.std.specs.Prelude.{nat_lt}
use Rattle.std.proofs.lemmas.Bool.{ltb-false, or_left}
use Rattle.dom_base.specs.Words.{units, is_malformed, exponent_bits, unsigned, mantissa, exponent, rounded_up}
use Rattle.dom_base.proofs.CostWords.{cost_again}
use Rattle.pcep_objects.specs.Spelling.{IsWord}
use Rattle.pcep_framing.proofs.FeedLemmas.{feed_feeds}
use Rattle.pcep_messages.proofs.MessageLaws.{written_is_read}
use Rattle.plant_model.specs.RealWire.{WireIsCodec, message_or_none, wire}
use Rattle.plant_model.proofs.ReadKinds as kinds
use Rattle.pcep_messages.proofs.MessageOctets.{written_is_octets}
use Rattle.plant_model.proofs.OnePart as parts
use Rattle.plant_model.proofs.ReadNumbers as numbers
use Rattle.plant_model.proofs.Sends as sends
use Rattle.plant_model.proofs.SentOn as sent
use Rattle.plant_model.proofs.Admitted as admitted

-- a word that is read as a number is one that can be written
word_is : (word n : ℕ) → units word ≡ Some n → IsWord word
word_is word n e = go (is_malformed word) refl e
  where
    go : (b : Bool) → is_malformed word ≡ b
        → ◌≡◌ {A = Option ℕ} (cond b None (Some (min (rounded_up (mantissa (unsigned word)) (exponent (unsigned word))) (2 ^ 63)))) (Some n) → IsWord word
    go true is e' = absurd cc
    go false is e' = (is, small (nat_lt (2 ^ 31) word) refl)
      where
        small : (b : Bool) → nat_lt (2 ^ 31) word ≡ b → word < 2 ^ 32
        small true high = absurd (no (or_left (nat_lt (2 ^ 31) word) (exponent_bits word == 255) high))
          where
            no : is_malformed word ≡ true → ⊥
            no h = cc
        small false low = omega (arith, ltb-false (2 ^ 31) word low)

pub wire_is_codec : WireIsCodec
wire_is_codec = record {
  texts = record {
    reads = λ m is. ap message_or_none (written_is_read m is);
    kinds = kinds.kinds;
    bytes = written_is_octets;
  };
  stream = record {
    frames = feed_feeds;
    splits = parts.splits;
    splits_replies = parts.splits_replies;
    splits_bytes = parts.splits_bytes;
  };
  onward = record {
    own = admitted.own;
    sends = sends.sends;
    admits = sent.admits;
    admits_upward = sent.admits_upward;
    admits_ipv4 = numbers.admits_ipv4;
    refuses_upward = sent.refuses_upward;
  };
  numbers = record {
    checks = numbers.checks;
    replies = numbers.replies;
    hops = numbers.hops;
    openings = numbers.openings;
    expands = admitted.expands;
  };
  costs = record {
    words = λ n le. word_is (wire.word n) n (cost_again n le);
    costs = cost_again;
  };
}
