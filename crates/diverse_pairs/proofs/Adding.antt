-- The weights of links, added up one after the other.
use Rattle.std.proofs.Common.{◌≡◌, ℕ, zero, suc, ◌+◌, ◌<◌, ◌≤◌, List, [], ◌∷◌, length, take, map, arith, refl, sym, ap, subst}
use Rattle.std.specs.Prelude.{Contains, slice_index_or}
use Rattle.std.proofs.lemmas.List.{take_all, length-map}
use Rattle.dom_base.specs.declared.addr.Addr.{Addr}
use Rattle.dom_base.specs.declared.link.Link.{Link}
use Rattle.dom_base.specs.declared.query.Query.{Query}
use Rattle.dom_base.specs.Admission.{weight}
use Rattle.walk_laws.specs.Walks.{cost}
use Rattle.diverse_pairs.proofs.Sums.{head_of, behind_head}

-- the link at a place, with its far address
pub record IsNext (q : Query) (fars : List Addr) (ls : List Link) (i : ℕ) (d : Addr) : Type 0 where
  pub link : Link
  pub among : Contains ls link
  pub far : link.far ≡ slice_index_or fars i d
  pub more : cost q (take (suc i) ls) ≡ cost q (take i ls) + weight q.metric link

next_of : (q : Query) (ls : List Link) (i : ℕ) (d : Addr) → i < length ls → IsNext q (map (λ (l : Link). l.far) ls) ls i d
next_of q [] i d inside = absurd (omega arith)
next_of q (l ∷ ls) zero d inside = record { link = l; among = head_of l ls; far = refl; more = omega arith }
next_of q (l ∷ ls) (suc i) d inside =
    let rest = next_of q ls i d (omega arith) in
    record { link = rest.link; among = behind_head l rest.link ls rest.among; far = rest.far; more = omega (arith, rest.more) }

pub next_link : (q : Query) (fars : List Addr) (ls : List Link) (i : ℕ) (d : Addr) → fars ≡ map (λ (l : Link). l.far) ls → i < length fars → IsNext q fars ls i d
next_link q fars ls i d is inside =
    subst (λ xs. IsNext q xs ls i d) (sym is) (next_of q ls i d (omega (arith, inside, ap length is, length-map {A = Link} {B = Addr} ls (λ l. l.far))))

pub all_added : (q : Query) (fars : List Addr) (ls : List Link) (i : ℕ) → fars ≡ map (λ (l : Link). l.far) ls → length fars ≤ i → cost q (take i ls) ≡ cost q ls
all_added q fars ls i is past = ap (cost q) (take_all i ls (omega (arith, past, ap length is, length-map {A = Link} {B = Addr} ls (λ l. l.far))))
