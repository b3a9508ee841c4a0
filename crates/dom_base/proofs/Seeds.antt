-- What a comparison of seeds, and a look for a seed or an address, tells.
use Rattle.std.proofs.Common.{◌≡◌, Bool, true, false, ◌&&◌, List, nat_eq, refl, ◌∙◌, ap}
use Rattle.std.specs.Prelude.{Contains}
use Rattle.std.specs.Bool.{Decides}
use Rattle.std.specs.List.{IsAnyAnswer}
use Rattle.std.proofs.lemmas.Bool.Decides.{Decides-eqb}
use Rattle.std.proofs.lemmas.List.{get_or_default}
use Rattle.std.proofs.lemmas.List.Elements.{contains_decides}
use Rattle.dom_base.specs.AddrOrder.{rank}
use Rattle.dom_base.specs.declared.addr.Addr.{Addr}
use Rattle.dom_base.specs.declared.query.Seed.{Seed}
use Rattle.dom_base.proofs.Ranks.{Decides-rank}

abbrev pub seed_eq : Seed → Seed → Bool
seed_eq a b = nat_eq (rank a.node) (rank b.node) && (nat_eq a.cost b.cost && nat_eq (rank a.exit) (rank b.exit))

both_true : (x y : Bool) → x && y ≡ true → (x ≡ true) × (y ≡ true)
both_true true true is = (refl, refl)
both_true true false is = (refl, is)
both_true false y is = absurd (let e : false ≡ true = is in cc)

pub same_seed : (a b : Seed) → Decides (seed_eq a b) (a ≡ b)
same_seed a b =
    let node = Decides-rank a.node b.node in
    let cost = Decides-eqb a.cost b.cost in
    let exit = Decides-rank a.exit b.exit in (
      λ is.
          let parts = both_true (nat_eq (rank a.node) (rank b.node)) (nat_eq a.cost b.cost && nat_eq (rank a.exit) (rank b.exit)) is in
          let rest = both_true (nat_eq a.cost b.cost) (nat_eq (rank a.exit) (rank b.exit)) parts.1 in
          ap (λ n. let s : Seed = record { node = n; cost = a.cost; exit = a.exit } in s) (node.0 parts.0)
          ∙ ap (λ c. let s : Seed = record { node = b.node; cost = c; exit = a.exit } in s) (cost.0 rest.0)
          ∙ ap (λ e. let s : Seed = record { node = b.node; cost = b.cost; exit = e } in s) (exit.0 rest.1),
      λ is.
          let n = node.1 (ap (λ (s : Seed). s.node) is) in
          let c = cost.1 (ap (λ (s : Seed). s.cost) is) in
          let e = exit.1 (ap (λ (s : Seed). s.exit) is) in
          rw (n, c, e) refl,
    )

pub seed_found : (seeds : List Seed) (seed : Seed) (r : Bool) → IsAnyAnswer (λ s t. seed_eq s seed ≡ t) seeds r → Decides r (Contains seeds seed)
seed_found seeds seed r answer =
    let told = contains_decides seed_eq same_seed seeds seed r answer in (
      λ is. let has = told.0 is in (has.0, has.1, has.2 seed),
      λ has. told.1 (has.0, has.1, λ d. get_or_default seeds has.0 d seed has.1 ∙ has.2),
    )

-- what a look for an address tells
pub addr_found : (addrs : List Addr) (a : Addr) (r : Bool) → IsAnyAnswer (λ s t. nat_eq (rank s) (rank a) ≡ t) addrs r → Decides r (Contains addrs a)
addr_found addrs a r answer =
    let told = contains_decides (λ s t. nat_eq (rank s) (rank t)) Decides-rank addrs a r answer in (
      λ is. let has = told.0 is in (has.0, has.1, has.2 a),
      λ has. told.1 (has.0, has.1, λ d. get_or_default addrs has.0 d a has.1 ∙ has.2),
    )
