use Rattle.std.proofs.Common.{◌≡◌, ◌∙◌, Some, ap, arith}
use Rattle.std.proofs.lemmas.Option.{slice_get-get_or}
use Rattle.dom_base.specs.declared.addr.Addr.{Addr}
use Rattle.dom_base.specs.declared.addr.Addr.TheVariants.{V4}
use Rattle.te_links.proofs.places.stands_at.Goals as goal

pub returns : goal.returns
returns c = λ true.
    let addrs = c.args.addrs.now in
    slice_get-get_or addrs c.args.place (V4 0) c.requires ∙ ap (λ (a : Addr). Some a) (c.is_same.ensures true)
