use Rattle.std.proofs.Common.{rules, ◌≡◌, ◌+◌, arith, refl, sym, ◌∙◌, ap, subst, Some}
use Rattle.std.proofs.lemmas.Option.{slice_get_within, get_or_from_slice_get}
use Rattle.te_links.specs.declared.rows.OutLink.{OutLink}
use Rattle.walk_laws.specs.Borders.{IsBorderSeed}
use Rattle.border_costs.specs.Asks.{beyond}
use Rattle.border_costs.proofs.Downs.{down_unique}
use Rattle.border_costs.proofs.seeds.seed_at.Goals as goal

pub returns-in_default : goal.returns-in_default
returns-in_default g c = λ out s at is.
    let both : Some out ≡ Some c.out_at-out.result.now = sym at ∙ c.out_at-out.ensures in
    let same : out ≡ c.out_at-out.result.now = cc in
    let here = subst (λ (o : OutLink). IsBorderSeed (g.G.Links.rows c.args.links.now) c.args.query.now c.args.next (beyond c.args.down.now) o s) same is in
    c.in_default.ensures here.beyond here.is_down.is_row

pub returns-in_default-sum_within : goal.returns-in_default-sum_within
returns-in_default-sum_within g c = λ out s at is.
    let both : Some out ≡ Some c.out_at-out.result.now = sym at ∙ c.out_at-out.ensures in
    let same : out ≡ c.out_at-out.result.now = cc in
    let here = subst (λ (o : OutLink). IsBorderSeed (g.G.Links.rows c.args.links.now) c.args.query.now c.args.next (beyond c.args.down.now) o s) same is in
    let one = down_unique (beyond c.args.down.now) c.out_at-out.result.now.link.to here.beyond c.in-Some.beyond here.is_down c.in-Some.ensures in
    c.in_default-sum_within.ensures (omega (arith, here.within, here.sum, one, c.weight.ensures))

pub returns : goal.returns
returns g c =
    let out = c.out_at-out.result.now in
    let outs = (g.G.Links.rows c.args.links.now).outs in
    record {
      out = out;
      at = c.out_at-out.ensures;
      is_seed = record {
        out = record {
          is_out = (c.args.index, slice_get_within outs c.args.index out c.out_at-out.ensures, get_or_from_slice_get outs c.args.index out out c.out_at-out.ensures);
          towards = search rules;
          allowed = search rules;
        };
        beyond = c.in-Some.beyond;
        is_down = c.in-Some.ensures;
        node = refl;
        sum = c.in-Some-sum_within.ensures.1 ∙ ap (λ n. n + c.in-Some.beyond) c.weight.ensures;
        exit = refl;
        within = omega (arith, c.in-Some-sum_within.ensures.0, c.in-Some-sum_within.ensures.1);
      };
    }
