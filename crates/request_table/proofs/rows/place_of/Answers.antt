use Rattle.std.proofs.Common.{rules, Ok, Err}
use Rattle.std.proofs.lemmas.List.Sorted.{answers_always}
use Rattle.request_table.specs.declared.rows.Place.{Place}
use Rattle.request_table.proofs.Searching.{searched}
use Rattle.request_table.proofs.rows.place_of.Goals as goal

pub returns-in-Ok : goal.returns-in-Ok
returns-in-Ok c =
    let by_number = c.in-Ok.ensures.position (λ (p : Place). p.number) (answers_always _ _ _ (λ f a r g called. search rules)) in
    searched c.args.places.now c.requires c.args.number (Ok c.in-Ok.k) c.in-Ok.ensures.bound by_number

pub returns-in-Err : goal.returns-in-Err
returns-in-Err c =
    let by_number = c.in-Err.ensures.position (λ (p : Place). p.number) (answers_always _ _ _ (λ f a r g called. search rules)) in
    searched c.args.places.now c.requires c.args.number (Err c.in-Err.field-0) c.in-Err.ensures.bound by_number
