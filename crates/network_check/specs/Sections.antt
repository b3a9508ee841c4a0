-- The tables of settings: how the rows of each begin, what a row is called, and which keys it may have.
use Rattle.std.specs.Prelude.{ℕ, Bool, true, false, List, [], ◌∷◌, codes}
use Rattle.te_links.specs.declared.limits.TheConstants.{METRIC_MAX}
use Rattle.plant_text.specs.declared.limits.TheConstants.{KEY_LIFE_MAX, WORKERS_MAX}
use Rattle.network_check.specs.declared.fields.Field.{Field}
use Rattle.network_check.specs.declared.fields.Field.TheVariants.{Must, May}
use Rattle.network_check.specs.declared.kinds.Kind.{Kind}
use Rattle.network_check.specs.declared.kinds.Kind.TheVariants.{Rows, Whole, Address, Fourth, Flag, Text, Name, Class, Colour, Numbers}
use Rattle.network_check.specs.declared.sections.Section.{Section}
use Rattle.network_check.specs.declared.sections.Section.TheVariants.{Elements, Links, Peers, Denials, Parent, ParentLinks, Top}

-- the first word of the line at which a row begins; none for the keys beside the tables
abbrev pub header_of : Section → List ℕ
header_of Elements = codes "[[element]]"
header_of Links = codes "[[link]]"
header_of Peers = codes "[[peer]]"
header_of Denials = codes "[[deny]]"
header_of Parent = codes "[parent]"
header_of ParentLinks = codes "[[parent.link]]"
header_of Top = []

-- what a row is called
abbrev pub called : Section → List ℕ
called Elements = codes "element"
called Links = codes "link"
called Peers = codes "peer"
called Denials = codes "deny"
called Parent = codes "parent"
called ParentLinks = codes "parent.link"
called Top = codes "settings"

-- ---- keys

-- a key that a row may have, and whether it must
pub record Column : Type 0 where
  pub key : List ℕ
  pub kind : Kind
  pub needed : Bool

abbrev pub must : List ℕ → Kind → Column
must key kind = record { key = key; kind = kind; needed = true }

abbrev pub may : List ℕ → Kind → Column
may key kind = record { key = key; kind = kind; needed = false }

abbrev pub column : Field → Column
column (Must key kind) = must key.now kind
column (May key kind) = may key.now kind

abbrev pub domain : Kind
domain = Whole 1 65535

abbrev pub port : Kind
port = Whole 1 65535

abbrev pub metric : Kind
metric = Whole 1 METRIC_MAX

abbrev pub columns_of : Section → List Column
columns_of Elements =
    must (codes "as") domain ∷ must (codes "id") Address ∷ may (codes "topology") Text ∷ may (codes "key_life") (Whole 1 KEY_LIFE_MAX) ∷ may (codes "parent") Flag ∷ []
columns_of Links = must (codes "a") domain ∷ must (codes "b") domain ∷ []
columns_of Peers =
    must (codes "name") Name ∷ must (codes "as") domain ∷ must (codes "class") Class ∷ may (codes "neighbour") domain ∷ may (codes "port") port
    ∷ may (codes "from") Address ∷ may (codes "connect") Address ∷ may (codes "expand") Flag ∷ may (codes "down") Flag ∷ []
columns_of Denials = must (codes "at") domain ∷ must (codes "from") (Whole 0 65535) ∷ must (codes "next") domain ∷ []
columns_of Parent = must (codes "id") Address ∷ may (codes "link") Rows ∷ []
columns_of ParentLinks =
    must (codes "from_as") domain ∷ must (codes "from") Fourth ∷ must (codes "to_as") domain ∷ must (codes "to") Fourth ∷ must (codes "near") Fourth
    ∷ must (codes "far") Fourth ∷ must (codes "igp") metric ∷ must (codes "te") metric
    ∷ must (codes "bw") (Whole 0 18446744073709551615) ∷ must (codes "colour") Colour ∷ may (codes "srlg") Numbers ∷ []
columns_of Top =
    may (codes "element") Rows ∷ may (codes "link") Rows ∷ may (codes "peer") Rows ∷ may (codes "deny") Rows ∷ may (codes "parent") Rows
    ∷ may (codes "workers") (Whole 1 WORKERS_MAX) ∷ may (codes "watch") port ∷ []
