-- Addresses that are nodes.
use Rattle.std.proofs.Common.{◌≡◌, inl, inr, ℕ, zero, suc, List, [], ◌∷◌, true, false, refl, ap, ◌∙◌, arith, None, Some}
use Rattle.std.specs.Prelude.{Contains, slice_get}
use Rattle.std.proofs.lemmas.Bool.Decides.{eqb_tells}
use Rattle.std.proofs.lemmas.Option.{slice_get-get_or}
use Rattle.dom_base.specs.AddrOrder.{rank}
use Rattle.dom_base.proofs.Ranks.{same_addr}
use Rattle.dom_base.specs.declared.addr.Addr.{Addr}
use Rattle.path_certificate.specs.Text.{is_node, stranger_at}

node_there : (nodes : List Addr) (i : ℕ) (addr : Addr) → slice_get nodes i ≡ Some addr → is_node nodes addr ≡ true
node_there [] i addr at = cc
node_there (n ∷ nodes) zero addr at =
    let same : n ≡ addr = cc in
    elim (eqb_tells (rank n) (rank addr)) [ inl t ↦ rw t.0 refl | inr f ↦ absurd (f.1 (ap rank same)) ]
node_there (n ∷ nodes) (suc i) addr at = elim (eqb_tells (rank n) (rank addr)) [ inl t ↦ rw t.0 refl | inr f ↦ rw f.0 (node_there nodes i addr at) ]

node_not : (nodes : List Addr) (addr : Addr) → (Contains nodes addr → ⊥) → is_node nodes addr ≡ false
node_not [] addr none = refl
node_not (n ∷ nodes) addr none =
    elim (eqb_tells (rank n) (rank addr)) [
      | inl t ↦ absurd (none (0, omega arith, same_addr n addr t.1))
      | inr f ↦ rw f.0 (node_not nodes addr (λ (k, below, is). none (suc k, omega arith, is)))
    ]

pub node_found : (nodes : List Addr) (line i : ℕ) (addr : Addr) → slice_get nodes i ≡ Some addr → None ≡ stranger_at nodes line addr
node_found nodes line i addr at = rw (node_there nodes i addr at) refl

pub node_missing : (nodes : List Addr) (line : ℕ) (addr : Addr) → (Contains nodes addr → ⊥) → Some line ≡ stranger_at nodes line addr
node_missing nodes line addr none = rw (node_not nodes addr none) refl

-- what is named as no stranger is a node
pub is_node_contains : (nodes : List Addr) (addr : Addr) → is_node nodes addr ≡ true → Contains nodes addr
is_node_contains [] addr is = cc
is_node_contains (n ∷ nodes) addr is =
    elim (eqb_tells (rank n) (rank addr)) [
      | inl t ↦ (0, omega arith, same_addr n addr t.1)
      | inr f ↦
          let rest : Contains nodes addr = is_node_contains nodes addr (rw f.0 at is) in
          (suc rest.0, omega (arith, rest.1), rest.2)
    ]

pub contains_is_node : (nodes : List Addr) (addr : Addr) → Contains nodes addr → is_node nodes addr ≡ true
contains_is_node nodes addr (k, below, is) = node_there nodes k addr (slice_get-get_or nodes k addr below ∙ ap (λ (a : Addr). Some a) is)
