-- What no rule of settings sees: elements without a topology or a link, and peers that a server could not tell apart.
use Rattle.std.specs.Prelude.{ℕ, ◌+◌, ◌&&◌, ◌||◌, Bool, true, false, not, nat_lt, is_none, List, [], ◌∷◌, ◌++◌, length, codes, decimal, Option, Some, None, if◌then◌else◌}
use Rattle.std.specs.List.{list_any}
use Rattle.dom_base.specs.declared.names.As.{As}
use Rattle.disclosure.specs.declared.class.Class.{Class}
use Rattle.disclosure.specs.declared.class.Class.TheVariants.{Client, Neighbour, Parent}
use Rattle.plant_text.specs.declared.settings.NetworkParts.{NetworkParts}
use Rattle.plant_text.specs.declared.settings.ElementRow.{ElementRow}
use Rattle.plant_text.specs.declared.settings.PeerRow.{PeerRow}
use Rattle.plant_text.specs.Names.{same_as}
use Rattle.network_files.specs.Meeting.{are_alike, comes_to}
use Rattle.network_check.specs.Places.{line_of}
use Rattle.network_check.specs.Told.{joined, shown, told, told_if}

-- ---- elements

-- a peer that is no client
abbrev pub leads_out : Class → Bool
leads_out (Client expand) = false
leads_out (Neighbour a) = true
leads_out Parent = true

abbrev pub ends_at : As → As × As → Bool
ends_at at link = same_as link.0 at || same_as link.1 at

abbrev pub is_way : As → PeerRow → Bool
is_way at p = same_as p.at at && leads_out p.class

-- a link, a peer or the parent leads from the element to others
abbrev pub is_joined : NetworkParts → ElementRow → Bool
is_joined n e = e.parent || list_any (ends_at e.own) n.links || list_any (is_way e.own) n.peers

-- none does, and the element is not the only one
abbrev pub is_alone : NetworkParts → ElementRow → Bool
is_alone n e = nat_lt 1 (length n.elements) && not (is_joined n e)

abbrev pub topology_warning : List ℕ → ℕ → ElementRow → List ℕ
topology_warning file line e = told_if (is_none e.topology) file line (joined (codes "warning element of domain " ∷ decimal e.own.0 ∷ codes " has no topology" ∷ []))

abbrev pub link_warning : List ℕ → ℕ → NetworkParts → ElementRow → List ℕ
link_warning file line n e = told_if (is_alone n e) file line (joined (codes "warning element of domain " ∷ decimal e.own.0 ∷ codes " has no link" ∷ []))

-- of the element at a place: it has no topology; it has no link
abbrev pub element_warnings : List ℕ → List ℕ → NetworkParts → ℕ → ElementRow → List ℕ
element_warnings file text n i e = topology_warning file (line_of text (codes "[[element]]") i) e ++ link_warning file (line_of text (codes "[[element]]") i) n e

abbrev pub elements_warnings : List ℕ → List ℕ → NetworkParts → ℕ → List ElementRow → List ℕ
elements_warnings file text n i [] = []
elements_warnings file text n i (e ∷ es) = element_warnings file text n i e ++ elements_warnings file text n (i + 1) es

-- ---- peers

-- a peer that connects at the port of watchers
abbrev pub meets_watch : Option ℕ → PeerRow → Bool
meets_watch None p = false
meets_watch (Some port) p = comes_to port p

-- the name of the first of these that can't be told from a peer
abbrev pub met : List PeerRow → PeerRow → Option (List ℕ)
met [] row = None
met (p ∷ ps) row = if are_alike p row then Some p.name else met ps row

abbrev pub peer_words : PeerRow → List (List ℕ) → List ℕ
peer_words p what = joined (codes "warning serve refuses peer " ∷ shown p.name ∷ codes ": port " ∷ decimal p.port ∷ what)

abbrev pub met_text : List ℕ → ℕ → PeerRow → Option (List ℕ) → List ℕ
met_text file line p None = []
met_text file line p (Some name) = told file line (peer_words p (codes " is that of " ∷ shown name ∷ []))

-- it can't be told from an earlier one
abbrev pub met_warning : List ℕ → ℕ → List PeerRow → PeerRow → List ℕ
met_warning file line before p = met_text file line p (met before p)

abbrev pub watch_warning : List ℕ → ℕ → Option ℕ → PeerRow → List ℕ
watch_warning file line watch p = told_if (meets_watch watch p) file line (peer_words p (codes " is that of watchers" ∷ []))

abbrev pub peer_warnings : List ℕ → List ℕ → Option ℕ → ℕ → List PeerRow → PeerRow → List ℕ
peer_warnings file text watch i before p = met_warning file (line_of text (codes "[[peer]]") i) before p ++ watch_warning file (line_of text (codes "[[peer]]") i) watch p

-- each behind those before it
abbrev pub peers_warnings : List ℕ → List ℕ → Option ℕ → List PeerRow → List PeerRow → List ℕ
peers_warnings file text watch before [] = []
peers_warnings file text watch before (p ∷ ps) = peer_warnings file text watch (length before) before p ++ peers_warnings file text watch (before ++ p ∷ []) ps

-- ---- the whole

abbrev pub settings_warnings : List ℕ → List ℕ → NetworkParts → List ℕ
settings_warnings file text n = elements_warnings file text n 0 n.elements ++ peers_warnings file text n.watch [] n.peers
