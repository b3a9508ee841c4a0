-- What the keys of rows say, as far as they can be read.
use Rattle.std.specs.Prelude.{ℕ, ◌==◌, ◌&&◌, ◌||◌, Bool, false, is_some, List, codes, Option, Some, None, if◌then◌else◌}
use Rattle.std.specs.Str.{bytes_eq}
use Rattle.dom_base.specs.declared.names.As.{As}
use Rattle.dom_base.specs.AddrOrder.{rank}
use Rattle.dom_base.specs.Steps.{◌>>=◌}
use Rattle.toml.specs.Data.{Members, as_bool, as_str, get_member}
use Rattle.plant_text.specs.Names.{same_as}
use Rattle.plant_text.specs.SettingsText.{addr_of, as_of, needed}

abbrev pub has_key : List ℕ → Members → Bool
has_key key ms = is_some (get_member key ms)

-- a key has this word
abbrev pub is_word : List ℕ → Option (List ℕ) → Bool
is_word word None = false
is_word word (Some text) = bytes_eq text word

abbrev pub has_word : List ℕ → List ℕ → Members → Bool
has_word key word ms = is_word word (get_member key ms >>= as_str)

-- a key is `true`
abbrev pub is_yes : Option Bool → Bool
is_yes None = false
is_yes (Some is) = is

abbrev pub has_yes : List ℕ → Members → Bool
has_yes key ms = is_yes (get_member key ms >>= as_bool)

-- a neighbour; a peer of another class
abbrev pub is_neighbour : Members → Bool
is_neighbour ms = has_word (codes "class") (codes "neighbour") ms

abbrev pub is_other : Members → Bool
is_other ms = has_word (codes "class") (codes "client") ms || has_word (codes "class") (codes "parent") ms

-- the domain to which paths go on through a peer
abbrev pub way_of : Members → Option As
way_of ms = if has_yes (codes "down") ms && is_neighbour ms then needed as_of (codes "neighbour") ms else None

-- ---- what two keys say

-- both can be read, and say the same
abbrev pub agree : {X : Type 0} → (X → X → Bool) → Option X → Option X → Bool
agree same None b = false
agree same (Some x) None = false
agree same (Some x) (Some y) = same x y

-- a domain at a key of one row, and at a key of another
abbrev pub meet : List ℕ → Members → List ℕ → Members → Bool
meet key a other b = agree same_as (needed as_of key a) (needed as_of other b)

abbrev pub same_domain : List ℕ → Members → Members → Bool
same_domain key a b = meet key a key b

abbrev pub same_address : List ℕ → Members → Members → Bool
same_address key a b = agree (λ x y. rank x == rank y) (needed addr_of key a) (needed addr_of key b)

abbrev pub same_text : List ℕ → Members → Members → Bool
same_text key a b = agree bytes_eq (needed as_str key a) (needed as_str key b)
