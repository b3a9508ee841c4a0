-- The places of addresses in their order: addresses with one place are one address.
use Rattle.std.proofs.Common.{◌≡◌, ℕ, ◌+◌, ◌*◌, ◌^◌, ◌<◌, ltb, eqb, Bool, true, false, cond, refl, ap, sym, arith, nat_eq}
use Rattle.std.specs.Bool.{Decides}
use Rattle.std.proofs.lemmas.Bool.Decides.{Decides-eqb}
use Rattle.std.proofs.lemmas.Bool.{lt-ltb, ltb-true, eqb-true, eqb-false, eq-eqb, ne_eqb}
use Rattle.dom_base.specs.declared.addr.Addr.{Addr}
use Rattle.dom_base.specs.declared.addr.Addr.TheVariants.{V4, V6}
use Rattle.dom_base.specs.AddrOrder.{rank}

pub rank_of_v4 : (n : ℕ) → n < 2 ^ 32 → rank (V4 n) ≡ n
unfolding rank
rank_of_v4 n small = rw (lt-ltb n (2 ^ 32) small) refl

pub rank_of_v6 : (n : ℕ) → n < 2 ^ 128 → rank (V6 n) ≡ 2 ^ 32 + n
unfolding rank
rank_of_v6 n small = rw (lt-ltb n (2 ^ 128) small) refl

one_v4 : (m n : ℕ) (b c : Bool) → ltb m (2 ^ 32) ≡ b → ltb n (2 ^ 32) ≡ c
    → cond b m (2 ^ 129 + 2 * m) ≡ cond c n (2 ^ 129 + 2 * n) → m ≡ n
one_v4 m n true true p q is = is
one_v4 m n true false p q is = absurd (omega (arith, is, ltb-true m (2 ^ 32) p))
one_v4 m n false true p q is = absurd (omega (arith, is, ltb-true n (2 ^ 32) q))
one_v4 m n false false p q is = omega (arith, is)

one_v6 : (m n : ℕ) (b c : Bool) → ltb m (2 ^ 128) ≡ b → ltb n (2 ^ 128) ≡ c
    → cond b (2 ^ 32 + m) (2 ^ 129 + 2 * m + 1) ≡ cond c (2 ^ 32 + n) (2 ^ 129 + 2 * n + 1) → m ≡ n
one_v6 m n true true p q is = omega (arith, is)
one_v6 m n true false p q is = absurd (omega (arith, is, ltb-true m (2 ^ 128) p))
one_v6 m n false true p q is = absurd (omega (arith, is, ltb-true n (2 ^ 128) q))
one_v6 m n false false p q is = omega (arith, is)

apart : (m n : ℕ) (b c : Bool) → ltb m (2 ^ 32) ≡ b → ltb n (2 ^ 128) ≡ c
    → cond b m (2 ^ 129 + 2 * m) ≡ cond c (2 ^ 32 + n) (2 ^ 129 + 2 * n + 1) → ⊥
apart m n true true p q is = omega (arith, is, ltb-true m (2 ^ 32) p)
apart m n true false p q is = omega (arith, is, ltb-true m (2 ^ 32) p)
apart m n false true p q is = omega (arith, is, ltb-true n (2 ^ 128) q)
apart m n false false p q is = omega (arith, is)

number_v4 : {m n : ℕ} → V4 m ≡ V4 n → m ≡ n
number_v4 is = cc

number_v6 : {m n : ℕ} → V6 m ≡ V6 n → m ≡ n
number_v6 is = cc

-- two addresses with one place are one address
pub same_addr : (a b : Addr) → rank a ≡ rank b → a ≡ b
unfolding rank
same_addr (V4 m) (V4 n) is = ap V4 (one_v4 m n (ltb m (2 ^ 32)) (ltb n (2 ^ 32)) refl refl is)
same_addr (V4 m) (V6 n) is = absurd (apart m n (ltb m (2 ^ 32)) (ltb n (2 ^ 128)) refl refl is)
same_addr (V6 m) (V4 n) is = absurd (apart n m (ltb n (2 ^ 32)) (ltb m (2 ^ 128)) refl refl (sym is))
same_addr (V6 m) (V6 n) is = ap V6 (one_v6 m n (ltb m (2 ^ 128)) (ltb n (2 ^ 128)) refl refl is)

-- a comparison of places decides whether two addresses are one
pub Decides-rank : (a b : Addr) → Decides (nat_eq (rank a) (rank b)) (a ≡ b)
Decides-rank a b = let d = Decides-eqb (rank a) (rank b) in (λ t. same_addr a b (d.0 t), λ is. d.1 (ap rank is))

-- ---- what the comparisons of code compute

pub same_v4 : (m n : ℕ) → eqb m n ≡ eqb (rank (V4 m)) (rank (V4 n))
same_v4 m n = go (eqb m n) refl
  where
    go : (b : Bool) → eqb m n ≡ b → b ≡ eqb (rank (V4 m)) (rank (V4 n))
    go true is = sym (eq-eqb (rank (V4 m)) (rank (V4 n)) (ap (λ k. rank (V4 k)) (eqb-true m n is)))
    go false is = sym (ne_eqb (rank (V4 m)) (rank (V4 n)) (λ one. eqb-false m n is (number_v4 (same_addr (V4 m) (V4 n) one))))

pub same_v6 : (m n : ℕ) → eqb m n ≡ eqb (rank (V6 m)) (rank (V6 n))
same_v6 m n = go (eqb m n) refl
  where
    go : (b : Bool) → eqb m n ≡ b → b ≡ eqb (rank (V6 m)) (rank (V6 n))
    go true is = sym (eq-eqb (rank (V6 m)) (rank (V6 n)) (ap (λ k. rank (V6 k)) (eqb-true m n is)))
    go false is = sym (ne_eqb (rank (V6 m)) (rank (V6 n)) (λ one. eqb-false m n is (number_v6 (same_addr (V6 m) (V6 n) one))))

pub other_kind : (m n : ℕ) → false ≡ eqb (rank (V4 m)) (rank (V6 n))
unfolding rank
other_kind m n = sym (ne_eqb (rank (V4 m)) (rank (V6 n)) (apart m n (ltb m (2 ^ 32)) (ltb n (2 ^ 128)) refl refl))

pub other_kind_back : (m n : ℕ) → false ≡ eqb (rank (V6 n)) (rank (V4 m))
unfolding rank
other_kind_back m n = sym (ne_eqb (rank (V6 n)) (rank (V4 m)) (λ one. apart m n (ltb m (2 ^ 32)) (ltb n (2 ^ 128)) refl refl (sym one)))
