-- A text that spells no message spells no request.
use Rattle.std.proofs.Common.{ℕ, List}
use Rattle.std.specs.Prelude.{Err}
use Rattle.pce_tool.specs.declared.reading.RequestError.{RequestError}
use Rattle.pce_tool.specs.declared.reading.RequestError.TheVariants.{Not, NoMemory}
use Rattle.pce_tool.specs.declared.reading.Why.TheVariants.{Hex, Malformed, NotRequest, Refused, NotBuilt}
use Rattle.pce_tool.specs.Requests.{ReadsMessage, ReadsRequest, ReadsPair}

pub unread : (own : ℕ) (text : List ℕ) (e : RequestError) → ReadsMessage text (Err e) → ReadsRequest own text (Err e)
unread own text (Not Hex) h = h
unread own text (Not Malformed) h = h
unread own text (Not NotRequest) h = absurd h
unread own text (Not (Refused kind value)) h = absurd h
unread own text (Not NotBuilt) h = absurd h
unread own text NoMemory h = tt

pub pair_unread : (own : ℕ) (text : List ℕ) (e : RequestError) → ReadsMessage text (Err e) → ReadsPair own text (Err e)
pair_unread own text (Not Hex) h = h
pair_unread own text (Not Malformed) h = h
pair_unread own text (Not NotRequest) h = absurd h
pair_unread own text (Not (Refused kind value)) h = absurd h
pair_unread own text (Not NotBuilt) h = absurd h
pair_unread own text NoMemory h = tt
