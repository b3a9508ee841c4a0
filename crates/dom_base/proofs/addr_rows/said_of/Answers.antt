use Rattle.std.proofs.Common.{rules, Ok, Err}
use Rattle.std.proofs.lemmas.List.Sorted.{answers_always}
use Rattle.dom_base.proofs.Said.{said_found}
use Rattle.dom_base.proofs.addr_rows.said_of.Goals as goal

pub returns-in-Ok : goal.returns-in-Ok
returns-in-Ok g c =
    let by_key = c.in-Ok.ensures.position (λ row. row.0) (answers_always _ _ _ (λ f a r g called. search rules)) in
    said_found c.args.nothing c.args.rows.now c.args.addr (Ok c.in-Ok.place) c.requires c.in-Ok.ensures.bound by_key c.index-rows-place.result

pub returns-in-Err : goal.returns-in-Err
returns-in-Err g c =
    let by_key = c.in-Err.ensures.position (λ row. row.0) (answers_always _ _ _ (λ f a r g called. search rules)) in
    said_found c.args.nothing c.args.rows.now c.args.addr (Err c.in-Err.field-0) c.requires c.in-Err.ensures.bound by_key
