-- The rules of settings in their order.
use Rattle.std.specs.Prelude.{ℕ, ◌+◌, Bool, true, false, not, ◌==◌, ◌&&◌, ◌||◌, nat_le, nat_lt, is_some, length, codes, map, List, [], ◌∷◌, ◌++◌, Option, Some, None}
use Rattle.std.specs.List.{list_any, list_all}
use Rattle.std.specs.Str.{bytes_eq}
use Rattle.dom_base.specs.declared.names.As.{As}
use Rattle.dom_base.specs.declared.addr.Addr.{Addr}
use Rattle.dom_base.specs.declared.addr.Addr.TheVariants.{V4, V6}
use Rattle.dom_base.specs.declared.link.Link.{Link}
use Rattle.dom_base.specs.declared.border.ParentLink.{ParentLink}
use Rattle.dom_base.specs.AddrOrder.{rank}
use Rattle.disclosure.specs.declared.class.Class.{Class}
use Rattle.disclosure.specs.declared.class.Class.TheVariants.{Client, Neighbour, Parent}
use Rattle.te_links.specs.declared.limits.TheConstants.{SRLGS_MAX, METRIC_MAX}
use Rattle.plant_text.specs.declared.limits.TheConstants.{ELEMENTS_MAX, LINKS_MAX, PEERS_MAX, DENY_MAX, PARENT_LINKS_MAX, KEY_LIFE_MAX, NAME_MAX, WORKERS_MAX}
use Rattle.plant_text.specs.declared.settings.NetworkParts.{NetworkParts}
use Rattle.plant_text.specs.declared.settings.ElementRow.{ElementRow}
use Rattle.plant_text.specs.declared.settings.PeerRow.{PeerRow}
use Rattle.plant_text.specs.declared.settings.DenyRow.{DenyRow}
use Rattle.plant_text.specs.declared.fault.Breach.{Breach}
use Rattle.plant_text.specs.declared.fault.Breach.TheVariants as breach
use Rattle.plant_text.specs.declared.fault.NetFault.{NetFault}
use Rattle.plant_text.specs.declared.fault.NetFault.TheVariants as fault
use Rattle.plant_text.specs.declared.sheet.Cuts.{Cuts}
use Rattle.plant_text.specs.declared.sheet.Sheet.{Sheet}
use Rattle.plant_text.specs.Names.{same_as, same_link, parent_as}
use Rattle.plant_text.specs.Settings.{is_element}

-- tests in their order, each with what is reported where it holds
abbrev pub Rules : Type 0 → Type 0
Rules X = List (Bool × X)

-- the fault that reports a breach: the table, and the place of its row
abbrev pub told : List ℕ → ℕ → Breach → NetFault
told table i breach.TooMany = fault.TooMany table
told table i breach.Shape = fault.Shape table i
told table i breach.Duplicate = fault.Duplicate table i
told table i breach.Unknown = fault.Unknown table i
told table i breach.NoParent = fault.NoParent i

abbrev pub at_row : List ℕ → ℕ → Rules Breach → Rules NetFault
at_row table i rules = map (λ rule. (rule.0, told table i rule.1)) rules

-- rows with their places, each behind those before it; past the limit there are too many
abbrev pub rows_from : {R : Type 0} → List ℕ → ℕ → (List R → R → Rules Breach) → ℕ → List R → List R → Rules NetFault
rows_from table limit rules i before [] = []
rows_from table limit rules i before (row ∷ rows) =
    at_row table i ((nat_le limit i, breach.TooMany) ∷ rules before row) ++ rows_from table limit rules (i + 1) (before ++ row ∷ []) rows

-- the row behind those of a table, where it is malformed
abbrev pub cut_rules : List ℕ → ℕ → ℕ → Option Breach → Rules NetFault
cut_rules table limit i None = []
cut_rules table limit i (Some wrong) = at_row table i ((nat_le limit i, breach.TooMany) ∷ (true, wrong) ∷ [])

abbrev pub table : {R : Type 0} → List ℕ → ℕ → (List R → R → Rules Breach) → List R → Option Breach → Rules NetFault
table name limit rules rows cut = rows_from name limit rules 0 [] rows ++ cut_rules name limit (length rows) cut

-- ---- the form of values

abbrev pub is_between : ℕ → ℕ → ℕ → Bool
is_between low high n = nat_le low n && nat_le n high

-- 0 is no domain
abbrev pub is_domain : As → Bool
is_domain a = not (same_as a parent_as)

abbrev pub is_letter : ℕ → Bool
is_letter c = is_between 65 90 c || is_between 97 122 c

abbrev pub is_digit : ℕ → Bool
is_digit c = is_between 48 57 c

-- letters and digits, a letter first
abbrev pub is_name : List ℕ → Bool
is_name [] = false
is_name (c ∷ cs) = (is_letter c && list_all (λ d. is_letter d || is_digit d) cs) && nat_le (length (c ∷ cs)) NAME_MAX

abbrev pub is_class : Class → Bool
is_class (Client expand) = true
is_class (Neighbour a) = is_domain a
is_class Parent = true

abbrev pub is_v4 : Addr → Bool
is_v4 (V4 n) = true
is_v4 (V6 n) = false

abbrev pub is_metric : ℕ → Bool
is_metric n = is_between 1 METRIC_MAX n

abbrev pub is_link : Link → Bool
is_link l = (((is_v4 l.from && is_v4 l.to) && (is_v4 l.near && is_v4 l.far)) && is_metric l.igp) && is_metric l.te

-- ---- the rules of a row, behind the rows before it

-- there is a parent, malformed or not
abbrev pub has_parent : Sheet → Bool
has_parent s = is_some s.parts.parent || s.cuts.parent

abbrev pub element_rules : Sheet → List ElementRow → ElementRow → Rules Breach
element_rules s before row =
    (not (is_domain row.own && is_between 1 KEY_LIFE_MAX row.key_life), breach.Shape)
    ∷ (list_any (λ (e : ElementRow). same_as e.own row.own || (rank e.id == rank row.id)) before, breach.Duplicate)
    ∷ (row.parent && not (has_parent s), breach.NoParent)
    ∷ []

abbrev pub link_rules : Sheet → List (As × As) → As × As → Rules Breach
link_rules s before row =
    (same_as row.0 row.1, breach.Shape)
    ∷ (list_any (λ (l : As × As). same_link l.0 l.1 row.0 row.1) before, breach.Duplicate)
    ∷ (not (is_element s.parts row.0 && is_element s.parts row.1), breach.Unknown)
    ∷ []

-- paths go on through a neighbour alone
abbrev pub leads_out : Class → Bool
leads_out (Client expand) = false
leads_out (Neighbour a) = true
leads_out Parent = false

abbrev pub is_neighbour : As → Class → Bool
is_neighbour a (Client expand) = false
is_neighbour a (Neighbour b) = same_as b a
is_neighbour a Parent = false

-- paths of an element go on to a domain through a peer
abbrev pub leads : As → As → PeerRow → Bool
leads at next p = (p.down && same_as p.at at) && is_neighbour next p.class

-- the domain of a neighbour is reached otherwise: it is an element's, or a peer before leads there
abbrev pub is_reached : Sheet → List PeerRow → As → Class → Bool
is_reached s before at (Client expand) = false
is_reached s before at (Neighbour a) = is_element s.parts a || list_any (leads at a) before
is_reached s before at Parent = false

abbrev pub peer_form : PeerRow → Bool
peer_form row = ((is_name row.name && is_class row.class) && nat_lt 0 row.port) && (not row.down || leads_out row.class)

abbrev pub repeats_peer : Sheet → List PeerRow → PeerRow → Bool
repeats_peer s before row = list_any (λ (p : PeerRow). bytes_eq p.name row.name) before || (row.down && is_reached s before row.at row.class)

abbrev pub peer_rules : Sheet → List PeerRow → PeerRow → Rules Breach
peer_rules s before row =
    (not (peer_form row), breach.Shape)
    ∷ (repeats_peer s before row, breach.Duplicate)
    ∷ (not (is_element s.parts row.at), breach.Unknown)
    ∷ []

abbrev pub deny_rules : Sheet → List DenyRow → DenyRow → Rules Breach
deny_rules s before row =
    (not (is_domain row.deny.next), breach.Shape)
    ∷ (not (is_element s.parts row.at), breach.Unknown)
    ∷ []

-- the id of the parent is that of an element
abbrev pub has_id : Option Addr → ElementRow → Bool
has_id None e = false
has_id (Some id) e = rank e.id == rank id

abbrev pub parent_rules : Sheet → Rules Breach
parent_rules s =
    (s.cuts.parent || s.cuts.no_parent, breach.Shape)
    ∷ (list_any (has_id s.parts.parent) s.parts.elements, breach.Duplicate)
    ∷ []

abbrev pub parent_link_rules : Sheet → List ParentLink → ParentLink → Rules Breach
parent_link_rules s before row =
    (nat_lt SRLGS_MAX (length row.link.srlgs), breach.TooMany)
    ∷ (not ((is_domain row.from_as && is_domain row.to_as) && is_link row.link), breach.Shape)
    ∷ (list_any (λ (p : ParentLink). (rank p.link.near == rank row.link.near) || (rank p.link.far == rank row.link.far)) before, breach.Duplicate)
    ∷ []

abbrev pub worker_rules : Sheet → Rules Breach
worker_rules s =
    (s.cuts.workers, breach.Shape)
    ∷ (not (is_between 1 WORKERS_MAX s.parts.workers), breach.Shape)
    ∷ []

-- 0 is no port
abbrev pub is_no_port : Option ℕ → Bool
is_no_port None = false
is_no_port (Some port) = port == 0

abbrev pub watch_rules : Sheet → Rules Breach
watch_rules s =
    (s.cuts.watch, breach.Shape)
    ∷ (is_no_port s.parts.watch, breach.Shape)
    ∷ []

-- ---- all rules, in their order

-- a name that is not known
abbrev pub other_rules : Option (List ℕ) → Rules NetFault
other_rules None = []
other_rules (Some name) = (true, fault.Shape name 0) ∷ []

abbrev pub table_rules : Sheet → Rules NetFault
table_rules s =
    table (codes "element") ELEMENTS_MAX (element_rules s) s.parts.elements s.cuts.elements
    ++ table (codes "link") LINKS_MAX (link_rules s) s.parts.links s.cuts.links
    ++ table (codes "peer") PEERS_MAX (peer_rules s) s.parts.peers s.cuts.peers
    ++ table (codes "deny") DENY_MAX (deny_rules s) s.parts.deny s.cuts.deny

abbrev pub family_rules : Sheet → Rules NetFault
family_rules s =
    at_row (codes "parent") 0 (parent_rules s)
    ++ table (codes "parent.link") PARENT_LINKS_MAX (parent_link_rules s) s.parts.parent_links s.cuts.parent_links

abbrev pub top_rules : Sheet → Rules NetFault
top_rules s =
    at_row (codes "workers") 0 (worker_rules s)
    ++ at_row (codes "watch") 0 (watch_rules s)
    ++ other_rules s.other

abbrev pub rules : Sheet → Rules NetFault
rules s = table_rules s ++ family_rules s ++ top_rules s

-- ---- settings without a text

-- nothing is malformed
abbrev pub no_cuts : Cuts
no_cuts = record { elements = None; links = None; peers = None; deny = None; parent = false; no_parent = false; parent_links = None; workers = false; watch = false }

abbrev pub sheet_of : NetworkParts → Sheet
sheet_of n = record { parts = n; cuts = no_cuts; other = None }

-- the rules that settings are to obey
abbrev pub rules_of : NetworkParts → Rules NetFault
rules_of n = rules (sheet_of n)
