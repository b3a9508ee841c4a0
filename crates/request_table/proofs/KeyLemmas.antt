-- Peers and ids that are the same.
use Rattle.std.proofs.Common.{◌≡◌, ◌&&◌, Bool, true, false, nat_eq, arith, refl, ◌∙◌, ap, ℕ}
use Rattle.std.proofs.lemmas.Cmp.{nat_eq_equiv}
use Rattle.std.proofs.lemmas.Grind.{common_steps}
use Rattle.dom_base.specs.declared.names.As.{As}
use Rattle.dom_base.specs.declared.names.Peer.{Peer}
use Rattle.dom_base.specs.declared.names.Peer.TheVariants.{Outside, Inner}
use Rattle.request_table.specs.declared.held.RequestKey.{RequestKey}
use Rattle.request_table.specs.contracts.held.RequestKeyPartialEq.TheImpl as derived
use Rattle.request_table.specs.Pending.{key_of, same_peer, same_key}

both_true : (a b : Bool) → a && b ≡ true → (a ≡ true) × (b ≡ true)
both_true true b h = (refl, h)
both_true false b h = absurd (let no : false ≡ true = h in cc)

number_is : (a b : ℕ) → nat_eq a b ≡ true → a ≡ b
number_is a b h = grind (arith, common_steps)

pub same_peer_is : (a b : Peer) → same_peer a b ≡ true → a ≡ b
same_peer_is (Outside a) (Outside b) h = ap Outside (number_is a b h)
same_peer_is (Inner a) (Inner b) h = ap (λ (n : ℕ). let number : As = record { 0 = n } in Inner number) (number_is a.0 b.0 h)
same_peer_is (Outside a) (Inner b) h = absurd (let no : false ≡ true = h in cc)
same_peer_is (Inner a) (Outside b) h = absurd (let no : false ≡ true = h in cc)

pub same_key_is : (a b : RequestKey) → same_key a b ≡ true → a ≡ b
same_key_is a b h =
    let both = both_true (same_peer a.peer b.peer) (nat_eq a.id b.id) h in
    ap (λ (peer : Peer). key_of peer a.id) (same_peer_is a.peer b.peer both.0) ∙ ap (λ (id : ℕ). key_of b.peer id) (number_is a.id b.id both.1)

pub same_peer_back : (a b : Peer) → same_peer a b ≡ same_peer b a
same_peer_back (Outside a) (Outside b) = nat_eq_equiv.symm a b
same_peer_back (Inner a) (Inner b) = nat_eq_equiv.symm a.0 b.0
same_peer_back (Outside a) (Inner b) = refl
same_peer_back (Inner a) (Outside b) = refl

pub same_key_back : (a b : RequestKey) → same_key a b ≡ same_key b a
same_key_back a b = rw (same_peer_back a.peer b.peer, nat_eq_equiv.symm a.id b.id) refl

same_number : (n : ℕ) → nat_eq n n ≡ true
same_number n = grind (arith, common_steps)

pub same_peer_self : (a : Peer) → same_peer a a ≡ true
same_peer_self (Outside a) = same_number a
same_peer_self (Inner a) = same_number a.0

pub same_key_self : (a : RequestKey) → same_key a a ≡ true
same_key_self a = rw (same_peer_self a.peer, same_number a.id) refl

derived_at : (a b : Peer) (x y : ℕ) → derived.eq-value.it (key_of a x) (key_of b y) ≡ same_key (key_of a x) (key_of b y)
derived_at (Outside a) (Outside b) x y = refl
derived_at (Inner a) (Inner b) x y = refl
derived_at (Outside a) (Inner b) x y = refl
derived_at (Inner a) (Outside b) x y = refl

-- the derived comparison is this one
pub derived_is : derived.eq-value.it ≡ same_key
derived_is = λ i. λ a b. derived_at a.peer b.peer a.id b.id i
