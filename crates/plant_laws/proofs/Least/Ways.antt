-- A best row stands for a least walk along a chain to where it ends, which both forms of its branch show.
use Rattle.std.proofs.Common.{◌≡◌, ◌≤◌, ℕ, List, [], ◌∷◌, ◌++◌, sym, ◌∙◌, ap, subst, refl, arith}
use Rattle.std.specs.Prelude.{Contains, None, true, false}
use Rattle.std.specs.declared.option.Option.{Option}
use Rattle.dom_base.specs.declared.limits.TheConstants.{COST_MAX}
use Rattle.plant_model.specs.Types.{Addr, As, Query, Hop, Path, Wanted, Best, Branch, Issued, NetworkParts}
use Rattle.dom_base.specs.Admission.{Allows}
use Rattle.te_links.specs.Rows.{Rows}
use Rattle.walk_laws.specs.Walks.{Walk}
use Rattle.walk_laws.specs.Borders.{Beyond, LeadsTo}
use Rattle.walk_laws.specs.Crossing.{Leg, Goal, At, Last, Links, Over, Crosses, CrossingWalk, crossing_cost, query_in, IsLeastCrossing, IsLeastCost}
use Rattle.walk_laws.specs.Composition.{IsEntryFrom, AreBeyond}
use Rattle.border_costs.specs.declared.job.Target.TheVariants.{Node, Next}
use Rattle.disclosure.specs.Shown.{open_of, closed_of}
use Rattle.plant_model.specs.Wire.{Codec}
use Rattle.plant_model.specs.Branches.{hops_of, onward, open_branch, closed_branch, end_of, branches_in, downs}
use Rattle.plant_model.specs.Laws.{IsCodec}
use Rattle.plant_model.specs.Settings.{place}
use Rattle.plant_model.specs.Plant.{Segment}
use Rattle.plant_laws.specs.Transcript.{Visit, pinned, domains, keys_at}
use Rattle.plant_laws.specs.Ends.{End, Inside, Asked, goal_of}
use Rattle.plant_laws.specs.Shown.{IsChosenTo, ShowsAlong}
use Rattle.plant_laws.proofs.Least.BestParts.{EndsIn, GoesOn, row_of_branch}
use Rattle.plant_laws.proofs.Least.Told.{FromPath}
use Rattle.pcep_subobjects.specs.Hops.{strict_hop}
use Rattle.border_costs.specs.Asks.{beyond}

pub record IsWay (n : NetworkParts) (q : Query) (end : End) (t : Addr) (one : Visit) (chain : List Visit) (down : List Branch) (b : Best) : Type 0 where
  pub legs : List Leg
  pub last : Last
  pub least : IsLeastCrossing q (pinned one.own one.at) (domains chain) b.entry (goal_of end) legs last
  pub sum : b.cost ≡ crossing_cost q legs last
  pub opened : ShowsAlong n true q end (one ∷ chain) b.entry (open_branch b down) legs last
  pub closed : (key : Issued Segment) → Contains (keys_at one.solved) key → key.segment ≡ b.segment → ShowsAlong n false q end (one ∷ chain) b.entry (closed_branch key.number (place n one.own).id t b down) legs last

-- a walk of the least cost is least
walk_least : (q : Query) (g : Rows) (rest : List Rows) (s : Addr) (goal : Goal) (c : ℕ) (legs : List Leg) (last : Last) → IsLeastCost q g rest s goal c → CrossingWalk q g rest s goal legs last →
    c ≡ crossing_cost q legs last → IsLeastCrossing q g rest s goal legs last
walk_least q g rest s goal c legs last known walk sum =
    let within = known.least.feasible.within in
    record {
      feasible = record { walk = walk; within = omega (arith, within, known.is, sum) };
      least = λ other end f. (let le = known.least.least other end f in omega (arith, le, known.is, sum));
    }

module _ (n : NetworkParts) (w : Wanted) (one : Visit) (own : w.query ≡ query_in w.query one.own) (home : w.query ≡ query_in w.query (pinned one.own one.at).own) where
  abbrev g : Rows
  g = pinned one.own one.at

  abbrev q : Query
  q = w.query

  abbrev t : Addr
  t = w.target

  -- in the last domain
  pub end_way : (b : Best) → EndsIn g q t b → IsLeastCost q g [] b.entry (At t) b.cost → IsWay n q (Inside t) t one [] [] b
  end_way b part known =
      let walk : CrossingWalk q g [] b.entry (At t) [] (Links part.links) = subst (λ (x : Query). Walk g x b.entry t part.links) home part.walk in
      let chosen : IsChosenTo g (query_in q one.own) (Node t) [] b.entry t part.links = subst (λ (x : Query). IsChosenTo g x (Node t) [] b.entry t part.links) own part.chosen in
      record {
        legs = [];
        last = Links part.links;
        least = walk_least q g [] b.entry (At t) b.cost [] (Links part.links) known walk part.sum;
        sum = part.sum;
        opened = record {
          part = open_of b.segment;
          is_part = ap (λ (x : Segment). open_of x) part.shown;
          chosen = chosen;
          is_hops = ap (λ (o : Option Addr). open_of b.segment ++ onward b.exit o []) part.head;
        };
        closed = λ key known_key stands. record {
          part = closed_of b.entry key.number (place n one.own).id None;
          is_part = (key, known_key, stands ∙ part.shown, refl);
          chosen = chosen;
          is_hops = ap (λ (o : Option Addr). closed_of b.entry key.number (place n one.own).id (end_of o t) ++ onward b.exit o []) part.head;
        };
      }

  -- in the last domain, over what an outside element told
  pub over_way : (next : As) (told : List Branch) (b : Best) → GoesOn g q next told b → IsLeastCost q g [] b.entry (goal_of (Asked next told)) b.cost → IsWay n q (Asked next told) t one [] told b
  over_way next told b part known =
      let leg : Leg = record { links = part.links; out = part.out } in
      let branch = part.below.branch in
      let make : Addr → ℕ → Beyond = λ x k. record { node = x; cost = k } in
      let row : Contains (beyond (downs told)) (make part.out.link.to part.below_cost) =
      subst (λ (k : ℕ). Contains (beyond (downs told)) (make part.out.link.to k)) part.below.cost
      (subst (λ (x : Addr). Contains (beyond (downs told)) (make x branch.cost)) part.below.at (row_of_branch told branch part.below.is_branch)) in
      let inside : Walk g (query_in q g.own) b.entry part.out.link.from part.links = subst (λ (x : Query). Walk g x b.entry part.out.link.from part.links) home part.walk in
      let leads : LeadsTo g (query_in q g.own) next part.out = subst (λ (x : Query). LeadsTo g x next part.out) home part.leads in
      let walk : CrossingWalk q g [] b.entry (goal_of (Asked next told)) [] (Over leg part.below_cost) = (inside, leads, row) in
      let chosen : IsChosenTo g (query_in q one.own) (Next next) (downs told) b.entry part.out.link.far part.links =
      subst (λ (x : Query). IsChosenTo g x (Next next) (downs told) b.entry part.out.link.far part.links) own part.chosen in
      let hops : onward b.exit b.head told ≡ strict_hop part.out.link.far ∷ branch.hops =
      ap (λ (o : Option Addr). onward b.exit o told) part.head
      ∙ ap (λ (o : Option Branch). strict_hop b.exit ∷ hops_of o) part.below.first
      ∙ ap (λ (x : Addr). strict_hop x ∷ branch.hops) part.exit in
      record {
        legs = [];
        last = Over leg part.below_cost;
        least = walk_least q g [] b.entry (goal_of (Asked next told)) b.cost [] (Over leg part.below_cost) known walk part.sum;
        sum = part.sum;
        opened = record {
          part = open_of b.segment;
          is_part = ap (λ (x : Segment). open_of x) part.shown;
          chosen = chosen;
          row = branch;
          is_row = part.below.first;
          is_cost = part.below.cost;
          is_hops = ap (λ (x : List Hop). open_of b.segment ++ x) hops;
        };
        closed = λ key known_key stands. record {
          part = closed_of b.entry key.number (place n one.own).id None;
          is_part = (key, known_key, stands ∙ part.shown, refl);
          chosen = chosen;
          row = branch;
          is_row = part.below.first;
          is_cost = part.below.cost;
          is_hops =
              ap (λ (o : Option Addr). closed_of b.entry key.number (place n one.own).id (end_of o t) ++ onward b.exit b.head told) part.head
              ∙ ap (λ (x : List Hop). closed_of b.entry key.number (place n one.own).id None ++ x) hops;
        };
      }

  -- before another domain
  module _ (c : Codec) (codec : IsCodec c) (next : Visit) (chain : List Visit) (end : End) (small : w.query.cap ≤ COST_MAX) (here : g.own ≡ one.own)
      (at_next : (pinned next.own next.at).own ≡ next.own) (paths : List Path) where
    abbrev h : Rows
    h = pinned next.own next.at

    abbrev down : List Branch
    down = branches_in c q.metric paths

    pub on_way : (b : Best) (part : GoesOn g q next.own down b) → FromPath c codec n (next ∷ chain) end w small (IsEntryFrom h one.own) paths part.below.branch →
        IsLeastCost q g (h ∷ domains chain) b.entry (goal_of end) b.cost → AreBeyond q one.own h (domains chain) (goal_of end) (beyond (downs down)) → IsWay n q end t one (next ∷ chain) down b
    on_way b part f known right =
        let head : f.entry ≡ part.out.link.to = sym (ap (λ (x : Branch). x.entry) f.is) ∙ part.below.at in
        let leg : Leg = record { links = part.links; out = part.out } in
        let inside : Walk g (query_in q g.own) b.entry part.out.link.from part.links = subst (λ (x : Query). Walk g x b.entry part.out.link.from part.links) home part.walk in
        let entry : Contains h.entries (record { node = part.out.link.to; from_as = g.own }) =
        subst (λ (a : As). Contains h.entries (record { node = part.out.link.to; from_as = a })) (sym here) (subst (λ (x : Addr). IsEntryFrom h one.own x) head f.holds) in
        let crosses : Crosses g h q part.out = record {
          is_out = part.leads.is_out;
          towards = part.leads.towards ∙ sym at_next;
          allowed = subst (λ (x : Query). Allows x part.out.link) home part.leads.allowed;
          entry = entry;
        } in
        let after : CrossingWalk q h (domains chain) part.out.link.to (goal_of end) f.least.legs f.least.last =
        subst (λ (x : Addr). CrossingWalk q h (domains chain) x (goal_of end) f.least.legs f.least.last) head f.least.least.feasible.walk in
        let walk : CrossingWalk q g (h ∷ domains chain) b.entry (goal_of end) (leg ∷ f.least.legs) f.least.last = (inside, crosses, after) in
        let told = ap (λ (x : Branch). x.cost) f.is in
        let sum : b.cost ≡ crossing_cost q (leg ∷ f.least.legs) f.least.last = omega (arith, part.sum, part.below.cost, told) in
        let chosen : IsChosenTo g (query_in q one.own) (Next next.own) (downs down) b.entry part.out.link.far part.links =
        subst (λ (x : Query). IsChosenTo g x (Next next.own) (downs down) b.entry part.out.link.far part.links) own part.chosen in
        let shown : ShowsAlong n false q end (next ∷ chain) part.out.link.to f.path.hops f.least.legs f.least.last =
        subst (λ (x : Addr). ShowsAlong n false q end (next ∷ chain) x f.path.hops f.least.legs f.least.last) head f.least.shown in
        let hops : onward b.exit b.head down ≡ strict_hop part.out.link.far ∷ f.path.hops =
        ap (λ (o : Option Addr). onward b.exit o down) part.head
        ∙ ap (λ (o : Option Branch). strict_hop b.exit ∷ hops_of o) part.below.first
        ∙ ap (λ (x : Addr). strict_hop x ∷ part.below.branch.hops) part.exit
        ∙ ap (λ (x : Branch). strict_hop part.out.link.far ∷ x.hops) f.is in
        record {
          legs = leg ∷ f.least.legs;
          last = f.least.last;
          least = walk_least q g (h ∷ domains chain) b.entry (goal_of end) b.cost (leg ∷ f.least.legs) f.least.last known walk sum;
          sum = sum;
          opened = record {
            part = open_of b.segment;
            is_part = ap (λ (x : Segment). open_of x) part.shown;
            rows = downs down;
            right = right;
            chosen = chosen;
            below = f.path.hops;
            shown = shown;
            is_hops = ap (λ (x : List Hop). open_of b.segment ++ x) hops;
          };
          closed = λ key known_key stands. record {
            part = closed_of b.entry key.number (place n one.own).id None;
            is_part = (key, known_key, stands ∙ part.shown, refl);
            rows = downs down;
            right = right;
            chosen = chosen;
            below = f.path.hops;
            shown = shown;
            is_hops =
                ap (λ (o : Option Addr). closed_of b.entry key.number (place n one.own).id (end_of o t) ++ onward b.exit b.head down) part.head
                ∙ ap (λ (x : List Hop). closed_of b.entry key.number (place n one.own).id None ++ x) hops;
          };
        }
