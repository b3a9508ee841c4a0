-- What is kept of a reply of an outside element: rows of strict hops and path keys, of each entry and type the first of least cost.
-- What a word of METRIC means is `units`, and the word of a cost is `word`.
use Rattle.std.specs.Prelude.{◌==◌, ◌&&◌, ◌||◌, ℕ, Bool, false, not, cond, min, nat_lt, nat_le, List, [], ◌∷◌, length, map, Option, Some, None}
use Rattle.std.specs.List.{list_all}
use Rattle.dom_base.specs.AddrOrder.{rank}
use Rattle.dom_base.specs.declared.addr.Addr.{Addr}
use Rattle.dom_base.specs.declared.limits.TheConstants.{COST_MAX}
use Rattle.pcep_subobjects.specs.Addresses.{bits_of}
use Rattle.pcep_subobjects.specs.declared.hop.Hop.{Hop}
use Rattle.pcep_subobjects.specs.declared.hop.Hop.TheVariants.{Prefix, AsNumber, Key, Other}
use Rattle.pcep_messages.specs.Refusals.{is_metric}
use Rattle.pcep_messages.specs.declared.message.Answer.{Answer}
use Rattle.pcep_messages.specs.declared.message.Answer.TheVariants.{Paths, NoPath}
use Rattle.pcep_messages.specs.declared.message.Path.{Path}
use Rattle.pcep_messages.specs.declared.message.Reply.{Reply}
use Rattle.outside_part.specs.declared.reported.Reported.{Reported}

-- a strict hop (RFC 3209, 4.3.3.1) to one address, or a strict path key (RFC 5520, 3.1)
abbrev pub is_plain : Hop → Bool
is_plain (Prefix loose addr length) = not loose && (length == bits_of addr)
is_plain (AsNumber loose number) = false
is_plain (Key loose key pce) = not loose
is_plain (Other loose kind body) = false

abbrev pub are_plain : (most : ℕ) → List Hop → Bool
are_plain most hops = nat_le (length hops) most && list_all is_plain hops

-- the address to which the first hop leads, where it is a prefix
abbrev pub entry_of : List Hop → Option Addr
entry_of [] = None
entry_of (Prefix loose addr length ∷ rest) = Some addr
entry_of (AsNumber loose number ∷ rest) = None
entry_of (Key loose key pce ∷ rest) = None
entry_of (Other loose kind body ∷ rest) = None

-- ---- the row of a path

-- a cost, where it is not above the greatest
abbrev pub cost_of : Option ℕ → Option ℕ
cost_of None = None
cost_of (Some units) = cond (nat_le units COST_MAX) (Some units) None

-- what a METRIC of this type and word measures, where it is of a type by which a path can be measured (RFC 5440, 7.8)
abbrev pub measured : (units : ℕ → Option ℕ) → ℕ → ℕ → Option ℕ
measured units kind word = cond (is_metric kind) (cost_of (units word)) None

abbrev pub row_by : List Hop → ℕ → Option Addr → Option ℕ → Option Reported
row_by hops kind (Some entry) (Some cost) = Some (record { entry = entry; kind = kind; cost = cost; hops = hops })
row_by hops kind (Some entry) None = None
row_by hops kind None cost = None

abbrev pub row_by_metric : (units : ℕ → Option ℕ) → List Hop → Option (ℕ × ℕ) → Option Reported
row_by_metric units hops None = None
row_by_metric units hops (Some metric) = row_by hops metric.0 (entry_of hops) (measured units metric.0 metric.1)

-- what is kept of a path: a row, or nothing
abbrev pub row_of : (units : ℕ → Option ℕ) → (most : ℕ) → Path → Option Reported
row_of units most p = cond (are_plain most p.hops) (row_by_metric units p.hops p.metric) None

-- ---- the rows of all paths

-- in order of entry, then of type
abbrev pub comes_before : Reported → Reported → Bool
comes_before x y = nat_lt (rank x.entry) (rank y.entry) || ((rank x.entry == rank y.entry) && nat_lt x.kind y.kind)

-- of one entry and type
abbrev pub are_alike : Reported → Reported → Bool
are_alike x y = (rank x.entry == rank y.entry) && (x.kind == y.kind)

-- the cheaper of two; of two as cheap the first
abbrev pub cheaper : Reported → Reported → Reported
cheaper x y = cond (nat_lt y.cost x.cost) y x

-- A row that was told before all of these goes to its place. Of two of one entry and type the cheaper stays.
abbrev pub insert_row : Reported → List Reported → List Reported
insert_row x [] = x ∷ []
insert_row x (y ∷ ys) = cond (comes_before y x) (y ∷ insert_row x ys) (cond (are_alike y x) (cheaper x y ∷ ys) (x ∷ y ∷ ys))

abbrev pub add_row : Option Reported → List Reported → List Reported
add_row None rows = rows
add_row (Some x) rows = insert_row x rows

abbrev pub rows_of : (units : ℕ → Option ℕ) → (most : ℕ) → List Path → List Reported
rows_of units most [] = []
rows_of units most (p ∷ ps) = add_row (row_of units most p) (rows_of units most ps)

-- ---- the reply

-- the path that a row is told as, with the word of its cost
abbrev pub path_by : (word : ℕ → ℕ) → Reported → Path
path_by word r = record { hops = r.hops; metric = Some (r.kind, word r.cost) }

-- the paths of the rows that are kept; a NO-PATH whose nature is above 1 (RFC 5440, 7.5) gets nature 1
abbrev pub sifted_answer : (units : ℕ → Option ℕ) → (word : ℕ → ℕ) → (most : ℕ) → Answer → Answer
sifted_answer units word most (Paths told) = Paths (map (path_by word) (rows_of units most told))
sifted_answer units word most (NoPath nature vector) = NoPath (min nature 1) vector

-- what is kept of a reply, with its flags and its number
abbrev pub sifted : (units : ℕ → Option ℕ) → (word : ℕ → ℕ) → (most : ℕ) → Reply → Reply
sifted units word most r = record { flags = r.flags; id = r.id; answer = sifted_answer units word most r.answer }
