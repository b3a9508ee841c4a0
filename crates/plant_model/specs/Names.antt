-- When two names are the same, and maps by names.
use Rattle.std.specs.Prelude.{ℕ, Bool, true, false, cond, ◌==◌, List, [], ◌∷◌}
use Rattle.plant_model.specs.Types.{As, Addr, Peer, Inner}
use Rattle.dom_base.specs.AddrOrder.{rank}
use Rattle.request_table.specs.Pending.{same_peer}
use Rattle.plant_text.specs.Names.{same_as, parent_as}

-- one place in the order of addresses is one address
abbrev pub same_addr : Addr → Addr → Bool
same_addr a b = rank a == rank b

-- the same peer and id
abbrev pub same_id : Peer → ℕ → Peer → ℕ → Bool
same_id p x p' x' = cond (same_peer p p') (x == x') false

abbrev pub the_parent : Peer
the_parent = Inner parent_as

-- a map with another value at one place
abbrev pub set_as : {A : Type 0} → As → A → (As → A) → As → A
set_as d v f d' = cond (same_as d d') v (f d')

abbrev pub set_pair : {A : Type 0} → As → As → A → (As → As → A) → As → As → A
set_pair a b v f a' b' = cond (same_as a a') (cond (same_as b b') v (f a' b')) (f a' b')

abbrev pub set_number : {A : Type 0} → ℕ → A → (ℕ → A) → ℕ → A
set_number n v f n' = cond (n == n') v (f n')

abbrev pub is_empty : {A : Type 0} → List A → Bool
is_empty [] = true
is_empty (x ∷ xs) = false

abbrev pub has_pair : ℕ → ℕ → List (ℕ × ℕ) → Bool
has_pair a b [] = false
has_pair a b (x ∷ xs) = cond (x.0 == a) (cond (x.1 == b) true (has_pair a b xs)) (has_pair a b xs)
