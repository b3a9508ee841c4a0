-- The task that the words of a run name.
use Rattle.std.specs.Prelude.{◌≡◌, ◌==◌, ◌&&◌, ◌++◌, ℕ, ◌-◌, ◌^◌, Bool, true, false, not, List, [], ◌∷◌, codes, length, nat_le, slice_index, Option, Some, None, if◌then◌else◌}
use Rattle.std.specs.Str.{bytes_eq}
use Rattle.std.specs.List.{list_any}
use Rattle.client_laws.specs.plant_model.Types.{As, Addr}
use Rattle.dom_base.specs.AddrText.{addr_in}
use Rattle.dom_base.specs.Numerals.{number_in}
use Rattle.dom_base.specs.Steps.{◌>>=◌}
use Rattle.pcep_subobjects.specs.Addresses.{bits_of}
use Rattle.plant_text.specs.Names.{same_as}
use Rattle.plant_client.specs.Requests.{requests_most}
use Rattle.plant_client.specs.plant_play.declared.replaying.Span.{Span}
use Rattle.pce_tool.specs.declared.route.Route.{Route}
use Rattle.pce_tool.specs.Run.{Command, command_of}

-- a command over one domain; a script on a network, one that is played as it comes and of which these lines are told or all, or one on a network without topologies;
-- a path that a client of a network asks for; so many requests over a drawn network; or what is to be told of a network's files
pub data Task : Type 0 where
  Domain : Command → Task
  Play : List ℕ → Task
  Replay : List ℕ → Option Span → Task
  Blind : List ℕ → Task
  Path : List ℕ → Route → Task
  Bulk : ℕ → Task
  Check : List ℕ → Task

-- ---- the words of a path

-- an AS, without a leading zero
abbrev pub domain_in : List ℕ → Option As
domain_in word = if slice_index word 0 == 48 then None else (number_in (2 ^ 16 - 1) word >>= λ n. Some (record { 0 = n }))

abbrev pub domains_in : List (List ℕ) → Option (List As)
domains_in [] = Some []
domains_in (word ∷ words) = domain_in word >>= λ d. domains_in words >>= λ ds. Some (d ∷ ds)

abbrev pub are_different : List As → Bool
are_different [] = true
are_different (d ∷ ds) = not (list_any (same_as d) ds) && are_different ds

-- how many domains a sequence may have
abbrev pub sequence_most : ℕ
sequence_most = 16

-- these domains are different and few
abbrev pub is_sequence : List As → Bool
is_sequence ds = nat_le (length ds) sequence_most && are_different ds

-- through these domains, from the first
abbrev pub route_along : Addr → Addr → List As → Option Route
route_along source target [] = None
route_along source target (d ∷ ds) = if is_sequence (d ∷ ds) then Some (record { at = d; source = source; target = target; sequence = d ∷ ds }) else None

abbrev pub along_in : Addr → Addr → List (List ℕ) → Option Route
along_in source target words = domains_in words >>= route_along source target

-- from this domain, wherever the parent finds a path
abbrev pub route_up : Addr → Addr → As → Option Route
route_up source target d = Some (record { at = d; source = source; target = target; sequence = [] })

abbrev pub up_in : Addr → Addr → List ℕ → Option Route
up_in source target word = domain_in word >>= route_up source target

-- the word behind `parent`
abbrev pub word_below : List (List ℕ) → Option (List ℕ)
word_below (first ∷ second ∷ []) = if bytes_eq first (codes "parent") then Some second else None
word_below words = None

abbrev pub route_by : Addr → Addr → List (List ℕ) → Option (List ℕ) → Option Route
route_by source target words None = along_in source target words
route_by source target words (Some word) = up_in source target word

-- `parent` and a domain, or domains in their order
abbrev pub route_in : Addr → Addr → List (List ℕ) → Option Route
route_in source target words = route_by source target words (word_below words)

-- the domains are a sequence, and not none
abbrev pub are_sequence : Option (List As) → Bool
are_sequence None = false
are_sequence (Some []) = false
are_sequence (Some (d ∷ ds)) = is_sequence (d ∷ ds)

-- the domains that words name were put behind others
abbrev pub Gathers : List (List ℕ) → List As → List As → Type 0
Gathers words old new = (ds : List As) × (domains_in words ≡ Some ds) × (new ≡ old ++ ds)

-- both are IPv4, or both IPv6
abbrev pub are_alike : Addr → Addr → Bool
are_alike a b = bits_of a == bits_of b

-- two addresses of one kind, and then the domains
abbrev pub path_in : List ℕ → List ℕ → List (List ℕ) → Option Route
path_in source target words = addr_in source >>= λ s. addr_in target >>= λ t. if are_alike s t then route_in s t words else None

-- ---- the word of `bulk`

-- how many requests, without a leading zero
abbrev pub count_in : List ℕ → Option ℕ
count_in word = if slice_index word 0 == 48 then None else number_in requests_most word

-- ---- the words of `replay`

-- the number of a line, without a leading zero
abbrev pub line_in : List ℕ → Option ℕ
line_in word = if slice_index word 0 == 48 then None else number_in (2 ^ 32 - 1) word

-- from one line to another, which is not before it
abbrev pub span_in : List ℕ → List ℕ → Option Span
span_in from to = line_in from >>= λ a. line_in to >>= λ b. if nat_le a b then Some (record { from = a; to = b }) else None

abbrev pub lines_task : List ℕ → List ℕ → List ℕ → List (List ℕ) → Option Task
lines_task net from to [] = span_in from to >>= λ s. Some (Replay net (Some s))
lines_task net from to (word ∷ words) = None

-- ---- all words

abbrev pub bulk_task : List ℕ → Option Task
bulk_task word = count_in word >>= λ n. Some (Bulk n)

abbrev pub path_task : List ℕ → List ℕ → List ℕ → List (List ℕ) → Option Task
path_task net source target words = path_in source target words >>= λ r. Some (Path net r)

-- the task that words name which are no command over one domain
abbrev pub network_task : List (List ℕ) → Option Task
network_task (verb ∷ word ∷ []) =
    if bytes_eq verb (codes "play") then Some (Play word)
    else (if bytes_eq verb (codes "replay") then Some (Replay word None)
    else (if bytes_eq verb (codes "blind") then Some (Blind word)
    else (if bytes_eq verb (codes "bulk") then bulk_task word
    else (if bytes_eq verb (codes "check") then Some (Check word) else None))))
network_task (verb ∷ net ∷ source ∷ target ∷ words) =
    if bytes_eq verb (codes "path") then path_task net source target words
    else (if bytes_eq verb (codes "replay") then lines_task net source target words else None)
network_task words = None

abbrev pub task_or : Option Task → Option Command → Option Task
task_or other None = other
task_or other (Some c) = Some (Domain c)

-- the task that the words name, if they are in the table
abbrev pub task_of : List (List ℕ) → Option Task
task_of words = task_or (network_task words) (command_of words)

-- the input is left as it was
abbrev pub LeavesInput : Option Task → Type 0
LeavesInput (Some (Path net route)) = Unit {0}
LeavesInput (Some (Bulk n)) = Unit {0}
LeavesInput (Some (Check net)) = Unit {0}
LeavesInput task = ⊥
