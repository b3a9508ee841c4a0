-- Two requests that ask for a pair: an SVEC in front of them joins them (RFC 5440, sections 6.4 and 7.13).
use Rattle.std.specs.Prelude.{IsTrue, ◌≡◌, ◌≢◌, ◌≤◌, ◌==◌, ◌&&◌, ◌++◌, ℕ, Bool, not, false, List, [], ◌∷◌, length, filter, drop, Option, Some, None, Result, Ok, Err}
use Rattle.std.specs.Int.{w32, to_be_bytes}
use Rattle.std.specs.Option.{option_or}
use Rattle.std.specs.List.{list_any}
use Rattle.pcep_codes.specs.declared.classes.TheConstants as classes
use Rattle.pcep_codes.specs.declared.kinds.TheConstants as kinds
use Rattle.pcep_objects.specs.declared.object.Body.{Body}
use Rattle.pcep_objects.specs.declared.object.Body.TheVariants as bodies
use Rattle.pcep_objects.specs.declared.object.Object.{Object}
use Rattle.pcep_messages.specs.declared.message.Asked.{Asked as Objects}
use Rattle.pcep_messages.specs.declared.message.Request.{Request}
use Rattle.pcep_messages.specs.declared.message.Wish.{Wish}
use Rattle.pcep_messages.specs.declared.message.Wish.TheVariants as wishes
use Rattle.pcep_messages.specs.Refusals.{refusal_of}
use Rattle.pcep_messages.specs.Requests.{Asks}
use Rattle.diverse_pairs.specs.declared.asking.Pair.{Pair}
use Rattle.diverse_pairs.specs.declared.asking.PairError.{PairError}
use Rattle.diverse_pairs.specs.declared.asking.PairError.TheVariants as errors

-- an SVEC (section 7.13)
abbrev pub is_svec : Object → Bool
is_svec o = (o.class == classes.SVEC) && (o.kind == kinds.FIRST)

-- the objects of a request without SVECs
abbrev pub plain : List Object → List Object
plain os = filter (λ o. not (is_svec o)) os

-- a reserved octet, flags of which that for link diversity alone is set, and the numbers of two requests (section 7.13.2)
abbrev pub NamesTwo : Body → ℕ → ℕ → Type 0
NamesTwo (bodies.Unread octets) one other = drop 1 octets ≡ 0 ∷ 0 ∷ 1 ∷ (to_be_bytes w32 one ++ to_be_bytes w32 other)
NamesTwo _ one other = ⊥

-- the first object of the first request is an SVEC that names both, and there is no other
abbrev pub AreJoined : List Object → List Object → ℕ → ℕ → Type 0
AreJoined [] others first second = ⊥
AreJoined (svec ∷ rest) others first second =
    IsTrue (is_svec svec) × (list_any is_svec rest ≡ false) × (list_any is_svec others ≡ false) × NamesTwo svec.body first second

-- a path within any cost, which goes through no further domain
abbrev pub StaysFree : Wish → Type 0
StaysFree (wishes.Path w) = (w.bound_word ≡ None) × (length w.sequence ≤ 1)
StaysFree (wishes.Expand key pce) = ⊥

-- two requests for one thing, joined for link diversity
pub record ArePaired (one other : List Object) (first second : Request) : Type 0 where
  pub joined : AreJoined one other first.id second.id
  pub differ : first.id ≢ second.id
  pub stays : StaysFree first.wish
  pub same_flags : first.flags ≡ second.flags
  pub same_wish : first.wish ≡ second.wish

-- what the requests of a message ask for at the element of a domain: a pair
pub record AskPair (own : ℕ) (asked : List Objects) (p : Pair) : Type 0 where
  pub one : Objects
  pub other : Objects
  pub are_two : asked ≡ one ∷ other ∷ []
  pub asks_first : Asks own (plain one.objects) p.first
  pub asks_second : Asks own (plain other.objects) p.second
  pub paired : ArePaired one.objects other.objects p.first p.second

-- the error in answer to the first request, or else to the second
abbrev pub first_refusal : ℕ → List Objects → Option (ℕ × ℕ)
first_refusal own [] = None
first_refusal own (one ∷ []) = refusal_of own (plain one.objects)
first_refusal own (one ∷ other ∷ others) = option_or (refusal_of own (plain one.objects)) (refusal_of own (plain other.objects))

-- a pair exactly where the requests ask for one; else the first refusal; else it is not built
abbrev pub AnswersPair : ℕ → List Objects → Result Pair PairError → Type 0
AnswersPair own asked (Ok p) = AskPair own asked p
AnswersPair own asked (Err (errors.Refused kind value)) = first_refusal own asked ≡ Some (kind, value)
AnswersPair own asked (Err errors.NotBuilt) = (first_refusal own asked ≡ None) × ((p : Pair) → ¬ AskPair own asked p)
AnswersPair own asked (Err errors.NoMemory) = Unit {0}

-- the same for one request, without its SVECs
abbrev pub AnswersPlain : ℕ → List Object → Result Request PairError → Type 0
AnswersPlain own os (Ok r) = Asks own (plain os) r
AnswersPlain own os (Err (errors.Refused kind value)) = refusal_of own (plain os) ≡ Some (kind, value)
AnswersPlain own os (Err errors.NotBuilt) = ⊥
AnswersPlain own os (Err errors.NoMemory) = Unit {0}
