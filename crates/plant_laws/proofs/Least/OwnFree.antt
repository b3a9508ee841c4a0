-- What is said of a walk through several domains does not depend on the domain that the query names as its own.
use Rattle.std.proofs.Common.{◌≡◌, ◌+◌, ℕ, Bool, false, List, [], ◌∷◌, ◌∙◌, ap, refl, arith}
use Rattle.plant_model.specs.Types.{Addr, As, Link, Query, Hop, NetworkParts}
use Rattle.dom_base.specs.Admission.{weight}
use Rattle.te_links.specs.Rows.{Rows}
use Rattle.walk_laws.specs.Walks.{cost}
use Rattle.walk_laws.specs.Crossing.{Leg, Goal, Last, Links, Over, CrossingWalk, crossing_cost, query_in, IsFeasibleCrossing, IsLeastCrossing}
use Rattle.plant_laws.specs.Transcript.{Visit, pinned, domains}
use Rattle.plant_laws.specs.Ends.{End, Inside, Asked, goal_of}
use Rattle.plant_laws.specs.Shown.{ShowsLast, ShowsAlong}
use Rattle.plant_laws.specs.About.{IsLeastAlong, HasNoneAlong}
use Rattle.walk_laws.specs.Composition.{AreBeyond}
use Rattle.walk_laws.specs.Borders.{Beyond}
use Rattle.border_costs.specs.Asks.{beyond}

module _ (q : Query) (b : As) where
  pub cost_free : (ls : List Link) → cost (query_in q b) ls ≡ cost q ls
  cost_free [] = refl
  cost_free (l ∷ ls) = ap (λ (k : ℕ). weight q.metric l + k) (cost_free ls)

  pub crossing_free : (legs : List Leg) (last : Last) → crossing_cost (query_in q b) legs last ≡ crossing_cost q legs last
  crossing_free [] (Links last) = cost_free last
  crossing_free [] (Over leg c) = omega (arith, cost_free leg.links)
  crossing_free (leg ∷ legs) last = omega (arith, cost_free leg.links, crossing_free legs last)

  walk_free : (g : Rows) (rest : List Rows) (s : Addr) (goal : Goal) (legs : List Leg) (last : Last) → CrossingWalk (query_in q b) g rest s goal legs last → CrossingWalk q g rest s goal legs last
  walk_free g [] s goal [] last w = w
  walk_free g [] s goal (leg ∷ legs) last w = w
  walk_free g (h ∷ rest) s goal [] last w = w
  walk_free g (h ∷ rest) s goal (leg ∷ legs) last w =
      (w.0, record { is_out = w.1.is_out; towards = w.1.towards; allowed = w.1.allowed; entry = w.1.entry }, walk_free h rest leg.out.link.to goal legs last w.2)

  free_walk : (g : Rows) (rest : List Rows) (s : Addr) (goal : Goal) (legs : List Leg) (last : Last) → CrossingWalk q g rest s goal legs last → CrossingWalk (query_in q b) g rest s goal legs last
  free_walk g [] s goal [] last w = w
  free_walk g [] s goal (leg ∷ legs) last w = w
  free_walk g (h ∷ rest) s goal [] last w = w
  free_walk g (h ∷ rest) s goal (leg ∷ legs) last w =
      (w.0, record { is_out = w.1.is_out; towards = w.1.towards; allowed = w.1.allowed; entry = w.1.entry }, free_walk h rest leg.out.link.to goal legs last w.2)

  free_feasible : (g : Rows) (rest : List Rows) (s : Addr) (goal : Goal) (legs : List Leg) (last : Last) → IsFeasibleCrossing q g rest s goal legs last → IsFeasibleCrossing (query_in q b) g rest s goal legs last
  free_feasible g rest s goal legs last f = record { walk = free_walk g rest s goal legs last f.walk; within = omega (arith, f.within, crossing_free legs last) }

  least_free : (g : Rows) (rest : List Rows) (s : Addr) (goal : Goal) (legs : List Leg) (last : Last) → IsLeastCrossing (query_in q b) g rest s goal legs last → IsLeastCrossing q g rest s goal legs last
  least_free g rest s goal legs last l = record {
    feasible = record { walk = walk_free g rest s goal legs last l.feasible.walk; within = omega (arith, l.feasible.within, crossing_free legs last) };
    least = λ other end f. (let le = l.least other end (free_feasible g rest s goal other end f) in omega (arith, le, crossing_free legs last, crossing_free other end));
  }

  pub along_free : (gs : List Rows) (s : Addr) (goal : Goal) (legs : List Leg) (last : Last) → IsLeastAlong (query_in q b) gs s goal legs last → IsLeastAlong q gs s goal legs last
  along_free [] s goal legs last l = l
  along_free (g ∷ rest) s goal legs last l = least_free g rest s goal legs last l

  pub none_free : (gs : List Rows) (s : Addr) (goal : Goal) → HasNoneAlong (query_in q b) gs s goal → HasNoneAlong q gs s goal
  none_free [] s goal none = none
  none_free (g ∷ rest) s goal none = λ legs last f. none legs last (free_feasible g rest s goal legs last f)

  beyond_free : (d : As) (h : Rows) (rest : List Rows) (goal : Goal) (down : List Beyond) → AreBeyond (query_in q b) d h rest goal down → AreBeyond q d h rest goal down
  beyond_free d h rest goal down are = record {
    each = λ u k row. (let x = are.each u k row in (x.0, record { legs = x.1.legs; last = x.1.last; least = least_free h rest u goal x.1.legs x.1.last x.1.least; is = x.1.is ∙ crossing_free x.1.legs x.1.last }));
    absent = λ u entry none. (let x = are.absent u entry none in λ legs last f. x legs last (free_feasible h rest u goal legs last f));
  }

  module _ (n : NetworkParts) (end : End) where
    pub shows_free : (open' : Bool) (chain : List Visit) (e : Addr) (hs : List Hop) (legs : List Leg) (last : Last) → ShowsAlong n open' (query_in q b) end chain e hs legs last → ShowsAlong n open' q end chain e hs legs last
    shows_free open' [] e hs legs last s = s
    shows_free open' (one ∷ []) e hs [] last s = go end last s
      where
        go : (x : End) (k : Last) → ShowsLast n open' (query_in q b) x one e hs k → ShowsLast n open' q x one e hs k
        go (Inside t) (Links ls) s' = s'
        go (Asked next told) (Over l c) s' = s'
        go (Inside t) (Over l c) s' = s'
        go (Asked next told) (Links ls) s' = s'
    shows_free open' (one ∷ []) e hs (l ∷ ls) last s = s
    shows_free open' (one ∷ next ∷ rest) e hs [] last s = s
    shows_free open' (one ∷ next ∷ rest) e hs (l ∷ ls) last s = record {
      part = s.part;
      is_part = s.is_part;
      rows = s.rows;
      right = beyond_free one.own (pinned next.own next.at) (domains rest) (goal_of end) (beyond s.rows) s.right;
      chosen = s.chosen;
      below = s.below;
      shown = shows_free false (next ∷ rest) l.out.link.to s.below ls last s.shown;
      is_hops = s.is_hops;
    }
