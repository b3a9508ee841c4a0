-- What is told of keys of a row that do not go together.
use Rattle.std.specs.Prelude.{ℕ, ◌&&◌, Bool, not, List, [], ◌∷◌, ◌++◌, codes}
use Rattle.toml.specs.Data.{Members}
use Rattle.network_check.specs.Keys.{has_key, has_yes, is_neighbour, is_other, meet}
use Rattle.network_check.specs.Stands.{Stand, line_of_key}
use Rattle.network_check.specs.Told.{joined, told_if}

-- at the line of a key, where it is so
abbrev pub key_text : Stand → Bool → List ℕ → List ℕ → List ℕ
key_text s is key words = told_if is s.file (line_of_key s key) (joined (s.label ∷ words ∷ []))

-- a neighbour's domain is told, and no other peer's; and paths go on through a neighbour alone
abbrev pub class_text : Stand → Members → List ℕ
class_text s ms =
    key_text s (is_neighbour ms && not (has_key (codes "neighbour") ms)) (codes "class") (codes ": class neighbour needs the key neighbour")
    ++ (key_text s (is_other ms && has_key (codes "neighbour") ms) (codes "neighbour") (codes ": neighbour needs class neighbour")
    ++ key_text s (is_other ms && has_yes (codes "down") ms) (codes "down") (codes ": down needs class neighbour"))

-- a peer is dialled, or connects from an address
abbrev pub pairs_text : Stand → Members → List ℕ
pairs_text s ms =
    class_text s ms ++ key_text s (has_key (codes "from") ms && has_key (codes "connect") ms) (codes "connect") (codes ": connect does not go with from")

-- a link joins two domains
abbrev pub ends_text : Stand → Members → List ℕ
ends_text s ms = key_text s (meet (codes "a") ms (codes "b") ms) (codes "b") (codes ": a and b are the same domain")
