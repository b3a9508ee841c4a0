-- The best ways of a job in one topology are one list, but for the segments.
use Rattle.std.proofs.Common.{◌≡◌, ◌<◌, ◌≤◌, List, [], ◌∷◌, Option, Some, None, inl, inr, sym, ◌∙◌, ap, subst, arith}
use Rattle.plant_model.specs.Types.{Addr, Query, Seed, Label, OutLink, Best, Target, Down, Ask}
use Rattle.te_links.specs.Rows.{Rows, IsInOrder}
use Rattle.walk_laws.specs.Walks.{cost}
use Rattle.walk_laws.specs.Labels.{◌≼◌}
use Rattle.border_costs.specs.declared.job.Target.TheVariants.{Node, Next}
use Rattle.border_costs.specs.Asks.{IsPairTo}
use Rattle.border_costs.specs.Solutions.{IsHead, AreBest}
use Rattle.plant_laws.proofs.Runs.Lists.{Stands, Rising, rising_of, stands_of}
use Rattle.plant_laws.proofs.Blind.OneJoin.{AreOne, AllOne}
use Rattle.dom_base.specs.AddrOrder.{rank}
use Rattle.dom_base.proofs.Ranks.{same_addr as one_place}

-- far addresses of out links differ
pub one_out : (outs : List OutLink) → Rising (λ o p. (rank o.link.far) < (rank p.link.far)) outs → (o p : OutLink) → Stands o outs → Stands p outs → o.link.far ≡ p.link.far → o ≡ p
one_out [] rising o p in-o in-p far = absurd in-o
one_out (x ∷ xs) rising o p (inl is-o) (inl is-p) far = is-o ∙ sym is-p
one_out (x ∷ xs) rising o p (inl is-o) (inr in-p) far =
    absurd (omega (arith, rising.0 p in-p, ap rank far, ap (λ (l : OutLink). (rank l.link.far)) is-o))
one_out (x ∷ xs) rising o p (inr in-o) (inl is-p) far =
    absurd (omega (arith, rising.0 o in-o, ap rank far, ap (λ (l : OutLink). (rank l.link.far)) is-p))
one_out (x ∷ xs) rising o p (inr in-o) (inr in-p) far = one_out xs rising.1 o p in-o in-p far

module _ (g : Rows) (q : Query) (down : List Down) (order : IsInOrder g) where
  pub not_none : (target : Target) (e : Addr) (a : Label) → IsPairTo g q down e target None → IsPairTo g q down e target (Some a) → ⊥
  not_none (Node t) e a none pair = none pair.links pair.least.feasible
  not_none (Next b) e a none pair = none a pair.0

  costs : (x y : Label) → x ≼ y → y ≼ x → x.cost ≡ y.cost
  costs x y (inl a) (inl b) = omega (arith, a, b)
  costs x y (inl a) (inr b) = sym b.0
  costs x y (inr a) h = a.0

  exits : (x y : Label) → x ≼ y → y ≼ x → x.exit ≡ y.exit
  exits x y (inl a) (inl b) = absurd (omega (arith, a, b))
  exits x y (inl a) (inr b) = absurd (omega (arith, a, b.0))
  exits x y (inr a) (inl b) = absurd (omega (arith, a.0, b))
  exits x y (inr a) (inr b) = let same : (rank x.exit) ≡ (rank y.exit) = omega (arith, a.1, b.1) in one_place x.exit y.exit same

  pub record OnePair (x y : Label) : Type 0 where
    pub cost : x.cost ≡ y.cost
    pub exit : x.exit ≡ y.exit

  one_pair : (target : Target) (e : Addr) (x y : Label) → IsPairTo g q down e target (Some x) → IsPairTo g q down e target (Some y) → OnePair x y
  one_pair (Node t) e x y f h =
      let low : cost q f.links ≤ cost q h.links = f.least.least h.links h.least.feasible in
      let high : cost q h.links ≤ cost q f.links = h.least.least f.links f.least.feasible in
      record { cost = omega (arith, low, high, f.sum, h.sum); exit = f.exit ∙ sym h.exit }
  one_pair (Next b) e x y f h = let low = f.1 y h.0 in let high = h.1 x f.0 in record { cost = costs x y low high; exit = exits x y low high }

  one_heads : (target : Target) (exit exit' : Addr) (head head' : Option Addr) → exit ≡ exit' → IsHead g q down target exit head → IsHead g q down target exit' head' → head ≡ head'
  one_heads (Node t) exit exit' head head' same f h = f ∙ sym h
  one_heads (Next b) exit exit' head head' same f h =
      let outs : f.out ≡ h.out = one_out g.outs (rising_of (λ o p. (rank o.link.far) < (rank p.link.far)) g.outs order.outs) f.out h.out (stands_of g.outs f.out f.least.out.is_out) (stands_of g.outs h.out h.least.out.is_out) (f.is_exit ∙ same ∙ sym h.is_exit) in
      f.is_head ∙ ap (λ (o : OutLink). Some o.link.to) outs ∙ sym h.is_head

module _ (g : Rows) (ask : Ask) (order : IsInOrder g) (seeds seeds' : List Seed) where
  pub one_best : (entries : List Addr) (xs ys : List Best) → AreBest g ask seeds entries xs → AreBest g ask seeds' entries ys → AllOne xs ys
  one_best [] xs ys f h = subst (λ (l : List Best). AllOne l ys) (sym f) (subst (λ (l : List Best). AllOne [] l) (sym h) tt)
  one_best (e ∷ es) xs ys (inl f) (inl h) = one_best es xs ys f.1 h.1
  one_best (e ∷ es) xs ys (inl f) (inr h) = absurd (not_none g ask.query ask.down order ask.target e (record { cost = h.0.cost; exit = h.0.exit }) f.0 h.3.pair)
  one_best (e ∷ es) xs ys (inr f) (inl h) = absurd (not_none g ask.query ask.down order ask.target e (record { cost = f.0.cost; exit = f.0.exit }) h.0 f.3.pair)
  one_best (e ∷ es) xs ys (inr f) (inr h) =
      let x = f.0 in
      let y = h.0 in
      let pair = one_pair g ask.query ask.down order ask.target e (record { cost = x.cost; exit = x.exit }) (record { cost = y.cost; exit = y.exit }) f.3.pair h.3.pair in
      let one : AreOne x y = record {
        entry = f.3.is_entry ∙ sym h.3.is_entry;
        cost = pair.cost;
        exit = pair.exit;
        head = one_heads g ask.query ask.down order ask.target x.exit y.exit x.head y.head pair.exit f.3.is_head h.3.is_head;
      } in
      subst (λ (l : List Best). AllOne l ys) (sym f.2) (subst (λ (l : List Best). AllOne (x ∷ f.1) l) (sym h.2) (one, one_best es f.1 h.1 f.4 h.4))
