-- The answer to a client, as lines for a person to read.
use Rattle.std.specs.Prelude.{ℕ, List, [], ◌∷◌, ◌++◌, codes, decimal, Option, Some, None}
use Rattle.std.specs.List.{flat_map}
use Rattle.dom_base.specs.AddrText.{addr_text}
use Rattle.dom_base.specs.Numerals.{colour_text}
use Rattle.dom_base.specs.Words.{units}
use Rattle.network_links.specs.plant_model.Types.{Hop, Message, Path, Reply, Notice, ErrorReport, Answer}
use Rattle.pcep_subobjects.specs.declared.hop.Hop.TheVariants.{Prefix, AsNumber, Key, Other}
use Rattle.pcep_messages.specs.declared.message.Message.TheVariants as messages
use Rattle.pcep_messages.specs.declared.message.Answer.TheVariants.{Paths, NoPath}

-- an address, or `key K at ADDR`; replies of ours have no other hops
abbrev pub hop_text : Hop → List ℕ
hop_text (Prefix loose addr length) = addr_text addr
hop_text (Key loose key pce) = codes "key " ++ decimal key ++ codes " at " ++ addr_text pce
hop_text (AsNumber loose number) = codes "as " ++ decimal number.0
hop_text (Other loose kind body) = codes "other " ++ decimal kind

abbrev pub hop_lines : List Hop → List ℕ
hop_lines hops = flat_map (λ hop. hop_text hop ++ 10 ∷ []) hops

abbrev pub cost_line : Option ℕ → List ℕ
cost_line None = []
cost_line (Some cost) = codes "cost " ++ decimal cost ++ 10 ∷ []

abbrev pub cost_lines : Option (ℕ × ℕ) → List ℕ
cost_lines None = []
cost_lines (Some (kind, word)) = cost_line (units word)

-- the cost, and the hops one a line
abbrev pub path_lines : List Path → List ℕ
path_lines [] = []
path_lines (p ∷ ps) = cost_lines p.metric ++ hop_lines p.hops

abbrev pub answer_lines : Answer → List ℕ
answer_lines (Paths paths) = path_lines paths
answer_lines (NoPath nature vector) = codes "no-path " ++ decimal nature ++ 32 ∷ [] ++ colour_text vector ++ 10 ∷ []

-- a type and a value behind a word
abbrev pub pair_line : List ℕ → List (ℕ × ℕ) → List ℕ
pair_line word [] = []
pair_line word (x ∷ xs) = word ++ decimal x.0 ++ 32 ∷ [] ++ decimal x.1 ++ 10 ∷ []

abbrev pub replies_lines : List Reply → List ℕ
replies_lines [] = []
replies_lines (r ∷ rs) = answer_lines r.answer

abbrev pub notices_lines : List Notice → List ℕ
notices_lines [] = []
notices_lines (x ∷ xs) = pair_line (codes "notice ") x.kinds

abbrev pub reports_lines : List ErrorReport → List ℕ
reports_lines [] = []
reports_lines (x ∷ xs) = pair_line (codes "error ") x.errors

-- of the first part of a message
abbrev pub message_lines : Message → List ℕ
message_lines (messages.PcRep replies) = replies_lines replies
message_lines (messages.PcNtf notices) = notices_lines notices
message_lines (messages.PcErr reports) = reports_lines reports
message_lines (messages.PcReq asks) = []
message_lines (messages.Open body) = []
message_lines messages.Keepalive = []
message_lines (messages.Close reason) = []
message_lines (messages.Other kind) = []
