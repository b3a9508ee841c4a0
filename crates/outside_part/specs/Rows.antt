-- What a sifted reply is: in order of entry and type, for each of these the first path of least cost that is kept, as a domain
-- tells the branches of a virtual shortest path tree (RFC 5441, 4.2).
use Rattle.std.specs.Prelude.{◌≡◌, ◌⊎◌, ◌↔◌, ◌<◌, ◌≤◌, ℕ, false, AllPairs, List, [], ◌∷◌, length, map, min, Option, Some, slice_get}
use Rattle.std.specs.List.{AllByRecursion}
use Rattle.dom_base.specs.AddrOrder.{rank}
use Rattle.dom_base.specs.Words as words
use Rattle.dom_base.specs.declared.addr.Addr.{Addr}
use Rattle.dom_base.specs.declared.limits.TheConstants.{COST_MAX}
use Rattle.pcep_subobjects.specs.Addresses.{bits_of}
use Rattle.pcep_subobjects.specs.declared.hop.Hop.{Hop}
use Rattle.pcep_subobjects.specs.declared.hop.Hop.TheVariants.{Prefix, AsNumber, Key, Other}
use Rattle.pcep_messages.specs.declared.message.Answer.{Answer}
use Rattle.pcep_messages.specs.declared.message.Answer.TheVariants.{Paths, NoPath}
use Rattle.pcep_messages.specs.declared.message.Path.{Path}
use Rattle.pcep_messages.specs.declared.message.Reply.{Reply}
use Rattle.outside_part.specs.declared.reported.Reported.{Reported}
use Rattle.outside_part.specs.Sifting.{path_by, sifted}

-- a strict hop (RFC 3209, 4.3.3.1) to one address, or a strict path key (RFC 5520, 3.1)
abbrev pub IsPlain : Hop → Type 0
IsPlain (Prefix loose addr length) = (loose ≡ false) × (length ≡ bits_of addr)
IsPlain (AsNumber loose number) = ⊥
IsPlain (Key loose key pce) = loose ≡ false
IsPlain (Other loose kind body) = ⊥

-- the first hop is a prefix, with this address
abbrev pub BeginsAt : Addr → List Hop → Type 0
BeginsAt entry [] = ⊥
BeginsAt entry (Prefix loose addr length ∷ rest) = entry ≡ addr
BeginsAt entry (AsNumber loose number ∷ rest) = ⊥
BeginsAt entry (Key loose key pce ∷ rest) = ⊥
BeginsAt entry (Other loose kind body ∷ rest) = ⊥

-- A path is kept, as this row: it has hops, no more than may be, which are plain and begin at the row's entry, and a METRIC of a
-- type by which paths are measured (RFC 5440, 7.8), whose word means the row's cost, which is not above the greatest.
pub record IsKept (units : ℕ → Option ℕ) (most : ℕ) (p : Path) (r : Reported) : Type 0 where
  pub hops : r.hops ≡ p.hops
  pub some : 1 ≤ length p.hops
  pub few : length p.hops ≤ most
  pub plain : AllByRecursion IsPlain p.hops
  pub entry : BeginsAt r.entry p.hops
  pub word : ℕ
  pub metric : p.metric ≡ Some (r.kind, word)
  pub kind : (1 ≤ r.kind) × (r.kind ≤ 3)
  pub cost : units word ≡ Some r.cost
  pub small : r.cost ≤ COST_MAX

-- rows of one entry and type
abbrev pub AreAlike : Reported → Reported → Type 0
AreAlike x y = (x.entry ≡ y.entry) × (x.kind ≡ y.kind)

-- in order of entry, then of type
abbrev pub ComesBefore : Reported → Reported → Type 0
ComesBefore x y = (rank x.entry < rank y.entry) ⊎ ((x.entry ≡ y.entry) × (x.kind < y.kind))

-- cheaper than another, or as cheap and at no later place
abbrev pub IsFirst : Reported → ℕ → Reported → ℕ → Type 0
IsFirst r i s j = (r.cost < s.cost) ⊎ ((r.cost ≡ s.cost) × (i ≤ j))

-- the row of the path at this place, which is the first of the least among the kept paths of its entry and type
pub record IsFirstLeast (units : ℕ → Option ℕ) (most : ℕ) (told : List Path) (i : ℕ) (r : Reported) : Type 0 where
  pub path : Path
  pub at : slice_get told i ≡ Some path
  pub kept : IsKept units most path r
  pub least : (j : ℕ) (q : Path) (s : Reported) → slice_get told j ≡ Some q → IsKept units most q s → AreAlike s r → IsFirst r i s j

-- the rows that are kept of what was told
pub record IsSifted (units : ℕ → Option ℕ) (most : ℕ) (told : List Path) (rows : List Reported) : Type 0 where
  pub order : AllPairs ComesBefore rows
  -- each row is that of the first of the least
  pub each : (k : ℕ) (r : Reported) → slice_get rows k ≡ Some r → (i : ℕ) × IsFirstLeast units most told i r
  -- there is one for each path that is kept
  pub every : (j : ℕ) (q : Path) (s : Reported) → slice_get told j ≡ Some q → IsKept units most q s → (k : ℕ) × (r : Reported) × (slice_get rows k ≡ Some r) × AreAlike r s

-- the paths of the rows that are kept, with the words of their costs; or a NO-PATH (RFC 5440, 7.5) with its vector, and its nature where that is below 1, else 1
abbrev pub IsSiftedAnswer : (units : ℕ → Option ℕ) → (word : ℕ → ℕ) → (most : ℕ) → Answer → Answer → Type 0
IsSiftedAnswer units word most (Paths told) (Paths kept) = (rows : List Reported) × IsSifted units most told rows × (kept ≡ map (path_by word) rows)
IsSiftedAnswer units word most (NoPath nature vector) (NoPath nature' vector') = (nature' ≡ min nature 1) × (vector' ≡ vector)
IsSiftedAnswer units word most (Paths told) (NoPath nature vector) = ⊥
IsSiftedAnswer units word most (NoPath nature vector) (Paths kept) = ⊥

-- a reply with the flags and the number of another, and what is kept of its answer (RFC 5440, 6.5)
pub record IsSiftedReply (units : ℕ → Option ℕ) (word : ℕ → ℕ) (most : ℕ) (r s : Reply) : Type 0 where
  pub flags : s.flags ≡ r.flags
  pub id : s.id ≡ r.id
  pub answer : IsSiftedAnswer units word most r.answer s.answer

-- ---- laws

-- Sifting keeps of a reply what the relation says, and nothing else.
abbrev pub SiftsExactly : Type 0
SiftsExactly = (units : ℕ → Option ℕ) (word : ℕ → ℕ) (most : ℕ) (r s : Reply) → (s ≡ sifted units word most r) ↔ IsSiftedReply units word most r s

-- Where the word of a cost means the cost, sifting what was sifted changes nothing.
abbrev pub SiftsOnce : Type 0
SiftsOnce = (units : ℕ → Option ℕ) (word : ℕ → ℕ) (most : ℕ) (r : Reply) → ((c : ℕ) → c ≤ COST_MAX → units (word c) ≡ Some c) →
    sifted units word most (sifted units word most r) ≡ sifted units word most r

-- So it is with the words of single precision.
abbrev pub SiftsOnceByWords : Type 0
SiftsOnceByWords = (most : ℕ) (r : Reply) → sifted words.units words.word_of most (sifted words.units words.word_of most r) ≡ sifted words.units words.word_of most r
