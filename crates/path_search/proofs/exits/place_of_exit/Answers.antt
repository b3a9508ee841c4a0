use Rattle.std.proofs.Common.{◌∙◌, Ok, Err, Some, ap, refl}
use Rattle.std.proofs.lemmas.Option.{slice_get-get_or}
use Rattle.dom_base.specs.declared.addr.Addr.{Addr}
use Rattle.dom_base.proofs.Searching.{searched, rising}
use Rattle.path_search.proofs.exits.place_of_exit.Goals as goal

pub returns : goal.returns
returns c =
    let exits = c.args.exits.now in
    let found = searched (λ (a : Addr). a) exits (rising (λ (a : Addr). a) exits c.requires.rise) c.args.exit (Ok c.in-Ok.place) c.in-Ok.ensures.bound c.in-Ok.ensures.position in
    found.1 ∙ ap (λ (a : Addr). Some a) found.2

pub unreachable-requires : goal.unreachable-requires
unreachable-requires c =
    let exits = c.args.exits.now in
    let has = c.requires.known in
    searched (λ (a : Addr). a) exits (rising (λ (a : Addr). a) exits c.requires.rise) c.args.exit (Err c.in-Err.field-0) c.in-Err.ensures.bound c.in-Err.ensures.position
    has.0 c.args.exit (slice_get-get_or exits has.0 c.args.exit has.1 ∙ ap (λ (a : Addr). Some a) has.2) refl
