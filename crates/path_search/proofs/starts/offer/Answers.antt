use Rattle.std.proofs.Common.{◌≡◌, false, true, length, refl, Some}
use Rattle.std.specs.Prelude.{slice_get}
use Rattle.std.proofs.lemmas.Option.{slice_get_read, slice_get_within}
use Rattle.path_search.specs.declared.short.Short.{Short}
use Rattle.path_search.specs.Short.{long_of}
use Rattle.path_search.proofs.ShortOrder.{long_is, offers_less, offers_kept, held_set}
use Rattle.path_search.proofs.starts.offer.Goals as goal

pub returns-then-is_less-clause-offers : goal.returns-then-is_less-clause-offers
returns-then-is_less-clause-offers c =
    let exits = c.args.draft.now.exits.items in
    let rows = c.args.draft.now.rows.items in
    let label = c.args.label.now in
    let t = c.index.result.now in
    let found : Short = record { cost = c.get.result; exit = c.place_of_exit.result } in
    let exit_at : slice_get exits c.place_of_exit.result ≡ Some label.exit = rw c.deref.ensures.value at c.place_of_exit.ensures in
    let is_label : long_of exits found ≡ label = long_is exits label c.get.result c.place_of_exit.result c.get.ensures.number exit_at in
    offers_less exits rows c.args.place found t label c.requires.held (slice_get_read rows (length rows) c.args.place t refl c.requires.place c.index.ensures)
    c.get.ensures.bound is_label (c.if-is_less.ensures.0 refl)

pub returns-then-is_less-clause-held : goal.returns-then-is_less-clause-held
returns-then-is_less-clause-held c =
    let exits = c.args.draft.now.exits.items in
    let found : Short = record { cost = c.get.result; exit = c.place_of_exit.result } in
    let exit_at : slice_get exits c.place_of_exit.result ≡ Some c.args.label.now.exit = rw c.deref.ensures.value at c.place_of_exit.ensures in
    held_set exits c.args.draft.now.rows.items c.args.place found c.requires.held c.get.ensures.bound (slice_get_within exits c.place_of_exit.result c.args.label.now.exit exit_at)

pub returns-else-is_less-clause-offers : goal.returns-else-is_less-clause-offers
returns-else-is_less-clause-offers c =
    let exits = c.args.draft.now.exits.items in
    let rows = c.args.draft.now.rows.items in
    let label = c.args.label.now in
    let t = c.index.result.now in
    let found : Short = record { cost = c.get.result; exit = c.place_of_exit.result } in
    let exit_at : slice_get exits c.place_of_exit.result ≡ Some label.exit = rw c.deref.ensures.value at c.place_of_exit.ensures in
    let is_label : long_of exits found ≡ label = long_is exits label c.get.result c.place_of_exit.result c.get.ensures.number exit_at in
    offers_kept exits rows c.args.place found t label c.requires.held (slice_get_read rows (length rows) c.args.place t refl c.requires.place c.index.ensures)
    c.get.ensures.bound (slice_get_within exits c.place_of_exit.result label.exit exit_at) is_label
    (λ less. let bad : false ≡ true = c.if-is_less.ensures.1 less in cc)
