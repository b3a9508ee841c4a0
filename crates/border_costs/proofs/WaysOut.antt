-- The ways over the out links, one link after the other.
use Rattle.std.proofs.Common.{◌≡◌, inl, inr, ℕ, ◌+◌, ◌<◌, ◌≤◌, List, [], ◌∷◌, ◌++◌, length, get_or, arith, sym, ◌∙◌, ap, subst, Some}
use Rattle.std.specs.Prelude.{AllPairs, Contains}
use Rattle.std.proofs.lemmas.Bool.{cases_lt}
use Rattle.std.proofs.lemmas.Option.{slice_get-get_or, slice_get_within, get_or_from_slice_get}
use Rattle.std.proofs.lemmas.List.Elements.{Contains-append_left, Contains-push, Contains-push_cases, Contains-get_or}
use Rattle.std.proofs.lemmas.List.Quantifiers.{all_pairs_push}
use Rattle.dom_base.specs.AddrOrder.{rank}
use Rattle.dom_base.specs.declared.addr.Addr.{Addr}
use Rattle.dom_base.specs.declared.names.As.{As}
use Rattle.dom_base.specs.declared.query.Query.{Query}
use Rattle.te_links.specs.declared.rows.OutLink.{OutLink}
use Rattle.te_links.specs.Rows.{Rows, IsInOrder}
use Rattle.border_costs.specs.declared.job.Target.TheVariants.{Node, Next}
use Rattle.border_costs.specs.declared.ways.Way.{Way}
use Rattle.border_costs.specs.Ways.{IsWayOver, IsWayAt, IsNoWayAt, AreWays, target_way}
use Rattle.border_costs.proofs.Picked.{one_of}

-- what stands after the first i out links
pub record AreWaysUpTo (g : Rows) (q : Query) (next : As) (i : ℕ) (ways : List Way) : Type 0 where
  pub each : (w : Way) → Contains ways w → (k : ℕ) × (k < i) × IsWayAt g q next k w
  pub every : (k : ℕ) (w : Way) → k < i → IsWayAt g q next k w → w.seed.cost ≤ q.cap → Contains ways w
  pub rising : AllPairs (λ v w. rank v.seed.exit < rank w.seed.exit) ways

-- an out link has one way
over_unique : (g : Rows) (q : Query) (next : As) (o : OutLink) (v w : Way) → IsWayOver g q next o v → IsWayOver g q next o w → v ≡ w
over_unique g q next o v w one other =
    let make : Addr → ℕ → Addr → Addr → Way = λ n c e h. record { seed = record { node = n; cost = c; exit = e }; head = h } in
    ap (λ n. make n v.seed.cost v.seed.exit v.head) (one.node ∙ sym other.node)
    ∙ ap (λ c. make w.seed.node c v.seed.exit v.head) (one.cost ∙ sym other.cost)
    ∙ ap (λ e. make w.seed.node w.seed.cost e v.head) (one.exit ∙ sym other.exit)
    ∙ ap (λ h. make w.seed.node w.seed.cost w.seed.exit h) (one.head ∙ sym other.head)

module _ (g : Rows) (q : Query) (next : As) where
  way_unique : (i : ℕ) (v w : Way) → IsWayAt g q next i v → IsWayAt g q next i w → v ≡ w
  way_unique i v w one other =
      let both : Some one.out ≡ Some other.out = sym one.at ∙ other.at in
      let out : one.out ≡ other.out = cc in
      over_unique g q next other.out v w (subst (λ (o : OutLink). IsWayOver g q next o v) out one.over) other.over

  exits_rise : IsInOrder g → (k i : ℕ) (v w : Way) → IsWayAt g q next k v → IsWayAt g q next i w → k < i → rank v.seed.exit < rank w.seed.exit
  exits_rise order k i v w first second before =
      let rise = order.outs k i first.out before (slice_get_within g.outs i second.out second.at) in
      let at_first = get_or_from_slice_get g.outs k first.out first.out first.at in
      let at_second = get_or_from_slice_get g.outs i second.out first.out second.at in
      let less : rank first.out.link.far < rank second.out.link.far =
      subst (λ (o : OutLink). rank first.out.link.far < rank o.link.far) at_second (subst (λ (o : OutLink). rank o.link.far < rank (get_or g.outs i first.out).link.far) at_first rise) in
      omega (arith, less, ap rank first.over.exit, ap rank second.over.exit)

  pub no_ways : AreWaysUpTo g q next 0 []
  no_ways = record {
    each = λ w has. absurd (omega (arith, has.1));
    every = λ k w below at within. absurd (omega (arith, below));
    rising = λ i j d before below. absurd (omega (arith, below));
  }

  pub way_added : IsInOrder g → (i : ℕ) (ways : List Way) (w : Way) → AreWaysUpTo g q next i ways → IsWayAt g q next i w → AreWaysUpTo g q next (i + 1) (ways ++ w ∷ [])
  way_added order i ways w are new = record {
    each = λ v has.
        elim (Contains-push_cases ways w v has) [
          | inl before ↦ (let old = are.each v before in (old.0, omega (arith, old.1), old.2))
          | inr is ↦ (i, omega arith, subst (IsWayAt g q next i) is new)
        ];
    every = λ k v below at within.
        elim (cases_lt k i) [
          | inl before ↦ Contains-append_left ways (w ∷ []) v (are.every k v before at within)
          | inr past ↦
              let here : k ≡ i = omega (arith, past, below) in
              subst (Contains (ways ++ w ∷ [])) (way_unique i w v new (subst (λ (n : ℕ). IsWayAt g q next n v) here at)) (Contains-push ways w)
        ];
    rising = all_pairs_push (λ (v x : Way). rank v.seed.exit < rank x.seed.exit) ways w are.rising
        (λ k d below. let old = are.each (get_or ways k d) (Contains-get_or ways k d below) in exits_rise order old.0 i (get_or ways k d) w old.2 new old.1);
  }

  pub way_left : (i : ℕ) (ways : List Way) → AreWaysUpTo g q next i ways → IsNoWayAt g q next i → AreWaysUpTo g q next (i + 1) ways
  way_left i ways are none = record {
    each = λ v has. let old = are.each v has in (old.0, omega (arith, old.1), old.2);
    every = λ k v below at within.
        elim (cases_lt k i) [
          | inl before ↦ are.every k v before at within
          | inr past ↦
              let here : k ≡ i = omega (arith, past, below) in
              absurd (none v (subst (λ (n : ℕ). IsWayAt g q next n v) here at) within)
        ];
    rising = are.rising;
  }

  pub all_ways : (i : ℕ) (ways : List Way) → AreWaysUpTo g q next i ways → length g.outs ≤ i → AreWays g q (Next next) ways
  all_ways i ways are whole = record {
    each = λ w has. let old = are.each w has in (old.2.out, old.2.over);
    every = λ w is within.
        let o = is.0 in
        let has = is.1.out.is_out in
        are.every has.0 w (omega (arith, has.1, whole)) (record { out = o; at = slice_get-get_or g.outs has.0 o has.1 ∙ ap Some has.2; over = is.1 }) within;
    rising = are.rising;
  }

-- a target in this domain is the one way
pub target_alone : (g : Rows) (q : Query) (t : Addr) → AreWays g q (Node t) (target_way t ∷ [])
target_alone g q t = record {
  each = λ w has. sym (one_of (target_way t) w has);
  every = λ w is within. subst (Contains (target_way t ∷ [])) (sym is) (Contains-push [] (target_way t));
  rising = λ i j d before below. absurd (omega (arith, before, below));
}
