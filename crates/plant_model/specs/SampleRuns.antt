-- Runs of sample networks, and their outcomes.
use Rattle.std.specs.Prelude.{◌≡◌, ℕ, ◌+◌, Bool, nat_eq, true, false, List, [], ◌∷◌, ◌++◌, Option, Some, None, option_map}
use Rattle.std.specs.Map.{lookup}
use Rattle.plant_model.specs.Types.{As, Link, Hop, Message, Path, Best, NetworkParts, ElementRow, PeerRow, Class}
use Rattle.dom_base.specs.declared.addr.Addr.TheVariants.{V4, V6}
use Rattle.te_links.specs.Rows.{Rows}
use Rattle.pcep_objects.specs.declared.object.Body.TheVariants as bodies
use Rattle.pcep_subobjects.specs.declared.hop.Hop.TheVariants.{Key}
use Rattle.pcep_subobjects.specs.Hops.{strict_hop}
use Rattle.pcep_messages.specs.declared.message.Message.TheVariants as messages
use Rattle.pcep_messages.specs.declared.message.Answer.TheVariants.{Paths, NoPath}
use Rattle.disclosure.specs.declared.class.Class.TheVariants.{Client, Neighbour}
use Rattle.plant_text.specs.declared.settings.Comes.TheVariants.{Anyone}
use Rattle.plant_model.specs.declared.event.Event.TheVariants as event
use Rattle.plant_model.specs.Writing.{needed, reply_message, unavailable, no_key}
use Rattle.plant_model.specs.RealWire.{wire}
use Rattle.plant_model.specs.Plant.{Pin, Plant}
use Rattle.plant_model.specs.Blind.{heard}
use Rattle.plant_model.specs.Samples.{Act, Do, Solve, Join, act, answers, after, link_up, comes, stands_by, goes_on, asks, As_, moment}

abbrev pub element : ℕ → Bool → ElementRow
element d parent = record { own = As_ d; id = V4 (200 + d); topology = None; key_life = 600; parent = parent }

-- an outside peer of an element, by its class, its port, and whether paths go on through it
abbrev pub peer : ℕ → Class → ℕ → Bool → PeerRow
peer d class port down = record { name = []; at = As_ d; class = class; port = port; comes = Anyone; down = down; patience = None; pending = None; keys = None; capability = false }

-- ---- three domains, each linked with the others; two clients of the first, a client and a neighbour of the second

abbrev pub three : NetworkParts
three = record {
  elements = element 1 false ∷ element 2 false ∷ element 3 false ∷ [];
  links = (As_ 1, As_ 2) ∷ (As_ 1, As_ 3) ∷ (As_ 2, As_ 3) ∷ [];
  peers = peer 1 (Client true) 1 false ∷ peer 1 (Client true) 2 false ∷ peer 2 (Client true) 3 false ∷ peer 2 (Neighbour (As_ 7)) 4 false ∷ [];
  deny = [];
  parent = None;
  parent_links = [];
  workers = 1;
  watch = None;
}

abbrev pub third : Rows
third = record {
  own = As_ 3;
  nodes = V4 3 ∷ [];
  links = [];
  outs = [];
  entries = record { node = V4 3; from_as = As_ 1 } ∷ record { node = V4 3; from_as = As_ 2 } ∷ [];
}

-- another node, and no entry
abbrev pub other_third : Rows
other_third = record { own = As_ 3; nodes = V4 33 ∷ []; links = []; outs = []; entries = [] }

abbrev pub begun : List Act
begun = Do (event.Load (As_ 3) third) ∷ link_up (As_ 1) (As_ 2) ++ link_up (As_ 1) (As_ 3) ++ link_up (As_ 2) (As_ 3)

-- a client asks for a path through the three domains, and each element takes the request
abbrev pub asked : List Act
asked = begun ++ comes 0 (asks 7 (V4 1) (V4 3) (As_ 1 ∷ As_ 2 ∷ As_ 3 ∷ [])) ++ Do (event.Carry (As_ 1) (As_ 2)) ∷ Do (event.Carry (As_ 2) (As_ 3)) ∷ []

-- the way of a domain: its entry, the exit, and the head where it leads on
abbrev pub way : ℕ → ℕ → ℕ → Option ℕ → List Best
way entry cost exit head = record { entry = V4 entry; cost = cost; exit = V4 exit; head = option_map (λ n. V4 n) head; segment = V4 entry ∷ [] } ∷ []

abbrev pub solved_third : List Act
solved_third = Solve (As_ 3) 1 (way 3 0 3 None) true true ∷ Do (event.Carry (As_ 3) (As_ 2)) ∷ []

abbrev pub solved_second : List Act
solved_second = solved_third ++ Solve (As_ 2) 1 (way 2 4 23 (Some 3)) true true ∷ Do (event.Carry (As_ 2) (As_ 1)) ∷ []

abbrev pub hidden : ℕ → ℕ → Hop
hidden key d = Key false key (V4 (200 + d))

-- The client is answered its own domain's part open, and those of the others behind a key each; 1088421888 is the word of 7.
abbrev pub ThreeDomains : Type 0
ThreeDomains =
    answers three (asked ++ solved_second ++ Solve (As_ 1) 1 (way 1 7 12 (Some 2)) true true ∷ [])
    ≡ (
      0,
      reply_message 64 7 (Paths (record {
        hops = strict_hop (V4 1) ∷ strict_hop (V4 12) ∷ strict_hop (V4 2) ∷ hidden 1 2 ∷ strict_hop (V4 23) ∷ strict_hop (V4 3) ∷ hidden 1 3 ∷ strict_hop (V4 3) ∷ [];
        metric = Some (2, 1088421888);
      } ∷ [])),
    ) ∷ []

-- The link on the way breaks while the request waits: the client is told that the chain is not available.
abbrev pub BreakIsTold : Type 0
BreakIsTold = answers three (asked ++ Do (event.Break (As_ 3) (As_ 2)) ∷ Do (event.Carry (As_ 2) (As_ 1)) ∷ []) ≡ (0, reply_message 64 7 unavailable) ∷ []

abbrev pub pin_at : Plant → As → ℕ → Option Pin
pin_at s d k = option_map (λ h. h.item.pin) (lookup (nat_eq k) (s.elements d).pending.rows)

abbrev pub load_other : Act
load_other = Do (event.Load (As_ 3) other_third)

abbrev pub loaded : List Act
loaded = asked ++ load_other ∷ []

-- A load between the take of a request and its solve leaves the topology that the request pinned. No closed receiver hears of it.
pub record LoadKeepsPin : Type 0 where
  pub pinned : pin_at (after three loaded) (As_ 3) 1 ≡ Some (record { number = 1; topology = third })
  pub newest : (after three loaded).current (As_ 3) ≡ record { number = 2; topology = other_third }
  pub unheard : heard wire three (act three load_other (after three asked)).deeds ≡ []

-- ---- keys

abbrev pub expansion : ℕ → ℕ → ℕ → Message
expansion id key d = messages.PcReq (record { objects = needed 2 (bodies.Rp 256 id) ∷ needed 16 (bodies.PathKey (hidden key d ∷ [])) ∷ [] } ∷ [])

-- at this moment a client asks what the first key of the second domain stands for
abbrev pub expanded_at : ℕ → List Act
expanded_at t = asked ++ solved_second ++ Do (event.Tick (moment t)) ∷ comes 2 (expansion 9 1 2)

-- A client is told what the key stands for; a neighbour is not, nor anybody at the end of its life, or of another key.
pub record KeysAreGuarded : Type 0 where
  pub client : answers three (asked ++ solved_second ++ comes 2 (expansion 9 1 2)) ≡ (2, reply_message 256 9 (Paths (record { hops = strict_hop (V4 2) ∷ []; metric = None } ∷ []))) ∷ []
  pub last_moment : answers three (expanded_at 599) ≡ (2, reply_message 256 9 (Paths (record { hops = strict_hop (V4 2) ∷ []; metric = None } ∷ []))) ∷ []
  pub expired : answers three (expanded_at 600) ≡ (2, reply_message 256 9 no_key) ∷ []
  pub neighbour : answers three (asked ++ solved_second ++ comes 3 (expansion 9 1 2)) ≡ (3, reply_message 256 9 no_key) ∷ []
  pub other : answers three (asked ++ solved_second ++ comes 2 (expansion 9 2 2)) ≡ (2, reply_message 256 9 no_key) ∷ []

-- ---- ids

-- Two requests that were sent on under one id to two neighbours: the reply of the second answers the second.
abbrev pub IdsTellWhoSent : Type 0
IdsTellWhoSent =
    answers three
    (begun ++ comes 0 (asks 7 (V4 1) (V4 2) (As_ 1 ∷ As_ 2 ∷ [])) ++ comes 1 (asks 7 (V4 1) (V4 3) (As_ 1 ∷ As_ 3 ∷ [])) ++ Do (event.Carry (As_ 1) (As_ 3))
    ∷ Solve (As_ 3) 1 (way 3 0 3 None) true true ∷ Do (event.Carry (As_ 3) (As_ 1)) ∷ Solve (As_ 1) 2 (way 1 2 13 (Some 3)) true true ∷ [])
    ≡ (
      1,
      reply_message 64 7 (Paths (record { hops = strict_hop (V4 1) ∷ strict_hop (V4 13) ∷ strict_hop (V4 3) ∷ hidden 1 3 ∷ strict_hop (V4 3) ∷ []; metric = Some (2, 1073741824) } ∷ [])),
    ) ∷ []

-- ---- one domain, and a neighbour of it that paths may go on through

abbrev pub outward : NetworkParts
outward = record {
  elements = element 1 false ∷ [];
  links = [];
  peers = peer 1 (Client true) 1 false ∷ peer 1 (Neighbour (As_ 2)) 2 true ∷ [];
  deny = [];
  parent = None;
  parent_links = [];
  workers = 1;
  watch = None;
}

abbrev pub reported : ℕ → ℕ → Path
reported key word = record { hops = strict_hop (V4 2) ∷ hidden key 2 ∷ strict_hop (V4 9) ∷ []; metric = Some (2, word) }

-- The neighbour tells two ways from one entry; 1088421888 is the word of 7, and 1087373312 that of 6.5, which counts as 7.
abbrev pub reports : Message
reports = reply_message 64 1 (Paths (reported 5 1088421888 ∷ reported 6 1087373312 ∷ []))

abbrev pub client_asks : List Act
client_asks = comes 0 (asks 7 (V4 1) (V4 9) (As_ 1 ∷ As_ 2 ∷ []))

-- The neighbour is asked for its own domain, and of what it tells the first way of the least cost is shown to the client.
-- Without a session of the neighbour the chain is not available, and nothing goes to it.
pub record GoesOutside : Type 0 where
  pub shown : answers outward (stands_by 1 ++ client_asks ++ goes_on 1 reports ++ Solve (As_ 1) 1 (way 1 8 12 (Some 2)) true true ∷ [])
      ≡ (1, asks 1 (V4 1) (V4 9) (As_ 2 ∷ [])) ∷ (
        0,
        reply_message 64 7 (Paths (record { hops = strict_hop (V4 1) ∷ strict_hop (V4 12) ∷ strict_hop (V4 2) ∷ hidden 5 2 ∷ strict_hop (V4 9) ∷ []; metric = Some (2, 1090519040) } ∷ [])),
      ) ∷ []
  pub closed : answers outward client_asks ≡ (0, reply_message 64 7 unavailable) ∷ []

-- ---- no path

-- Where there is no path a client is told which of its ends is unknown, and a neighbour is not.
pub record NoPathTellsClients : Type 0 where
  pub client : answers three (comes 2 (asks 7 (V4 8) (V4 9) (As_ 2 ∷ [])) ++ Solve (As_ 2) 1 [] true false ∷ []) ≡ (2, reply_message 64 7 (NoPath 0 2)) ∷ []
  pub neighbour : answers three (comes 3 (asks 7 (V4 8) (V4 9) (As_ 2 ∷ [])) ++ Solve (As_ 2) 1 [] true false ∷ []) ≡ (3, reply_message 64 7 (NoPath 0 0)) ∷ []

-- ---- a parent above two domains

abbrev pub link : Link
link = record { from = V4 1; to = V4 2; near = V4 11; far = V4 12; igp = 1; te = 3; bytes_per_second = 0; colour = 0; srlgs = [] }

abbrev pub family : NetworkParts
family = record {
  elements = element 1 true ∷ element 2 true ∷ [];
  links = [];
  peers = peer 1 (Client true) 1 false ∷ [];
  deny = [];
  parent = Some (V4 200);
  parent_links = record { from_as = As_ 1; to_as = As_ 2; link = link } ∷ [];
  workers = 1;
  watch = None;
}

abbrev pub up : As
up = As_ 0

abbrev pub family_begun : List Act
family_begun = link_up up (As_ 1) ++ link_up up (As_ 2)

-- The client's request goes to the parent, which asks the first child for the tail of the link and for the destination, and the
-- second for the destination.
abbrev pub gathered : List Act
gathered =
    family_begun ++ comes 0 (asks 7 (V4 1) (V4 2) []) ++ Do (event.Carry (As_ 1) up) ∷ Do (event.Carry up (As_ 1)) ∷ Do (event.Carry up (As_ 1)) ∷ Do (event.Carry up (As_ 2))
    ∷ Solve (As_ 1) 2 (way 1 0 1 None) true true ∷ Solve (As_ 1) 3 [] true false ∷ Solve (As_ 2) 1 (way 2 0 2 None) true true
    ∷ Do (event.Carry (As_ 1) up) ∷ Do (event.Carry (As_ 1) up) ∷ Do (event.Carry (As_ 2) up) ∷ []

abbrev pub shown : List Hop
shown = strict_hop (V4 1) ∷ hidden 1 1 ∷ strict_hop (V4 1) ∷ strict_hop (V4 12) ∷ strict_hop (V4 2) ∷ hidden 1 2 ∷ strict_hop (V4 2) ∷ []

-- The parent's answer is passed on to the client, under the client's id. A request of IPv6 is refused by the parent, and the
-- client is told that the chain is not available.
pub record ParentAnswers : Type 0 where
  pub four : answers family (gathered ++ Join 1 (Some (record { cost = 3; hops = shown })) ∷ Do (event.Carry up (As_ 1)) ∷ [])
      ≡ (0, reply_message 64 7 (Paths (record { hops = shown; metric = Some (2, 1077936128) } ∷ []))) ∷ []
  pub six : answers family (family_begun ++ comes 0 (asks 7 (V6 1) (V6 2) []) ++ Do (event.Carry (As_ 1) up) ∷ Do (event.Carry up (As_ 1)) ∷ [])
      ≡ (0, reply_message 64 7 unavailable) ∷ []
