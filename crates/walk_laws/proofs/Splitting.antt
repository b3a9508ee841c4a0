-- Walks inside a domain split and join.
use Rattle.std.proofs.Common.{◌≡◌, ◌+◌, List, [], ◌∷◌, ◌++◌, arith, refl, sym, subst}
use Rattle.dom_base.specs.declared.addr.Addr.{Addr}
use Rattle.dom_base.specs.declared.link.Link.{Link}
use Rattle.dom_base.specs.declared.query.Query.{Query}
use Rattle.te_links.specs.Rows.{Rows}
use Rattle.walk_laws.specs.Walks.{AdmitsNode, Walk, cost}
use Rattle.walk_laws.proofs.Admitted.{walk_admits}

pub join : (g : Rows) (q : Query) (u v w : Addr) (ls ms : List Link) → Walk g q u v ls → Walk g q v w ms → Walk g q u w (ls ++ ms)
join g q u v w [] ms first second = subst (λ (n : Addr). Walk g q n w ms) (sym first.0) second
join g q u v w (l ∷ ls) ms first second = (first.0, first.1, join g q l.to v w ls ms first.2 second)

pub joined_cost : (q : Query) (ls ms : List Link) → cost q (ls ++ ms) ≡ cost q ls + cost q ms
joined_cost q [] ms = omega arith
joined_cost q (l ∷ ls) ms = let rest = joined_cost q ls ms in omega arith

-- a walk ends at an admitted node
pub walk_ends : (g : Rows) (q : Query) (u v : Addr) (ls : List Link) → Walk g q u v ls → AdmitsNode g q v
walk_ends g q u v [] walk = subst (AdmitsNode g q) walk.0 walk.1
walk_ends g q u v (l ∷ ls) walk = walk_ends g q l.to v ls walk.2

pub split : (g : Rows) (q : Query) (u w : Addr) (ls ms : List Link) → Walk g q u w (ls ++ ms) → (v : Addr) × Walk g q u v ls × Walk g q v w ms
split g q u w [] ms walk = (u, (refl, walk_admits g q u w ms walk), walk)
split g q u w (l ∷ ls) ms walk = let rest = split g q l.to w ls ms walk.2 in (rest.0, (walk.0, walk.1, rest.1), rest.2)
