use Rattle.std.proofs.Common.{rules, ◌≡◌, [], All, IfSome, Some, sym, subst, ◌∙◌, Option}
use Rattle.std.proofs.lemmas.List.Elements.{All-pop}
use Rattle.ted_watch.specs.declared.watch.Watcher.{Watcher}
use Rattle.ted_watch.specs.Watch.{known, list_of, list_at}
use Rattle.worked_parts.proofs.watching.what_is_shown_is_read.Goals as goal

pub learn-requires : goal.learn-requires
learn-requires g c =
    let p = c.in_ok-publisher.publisher in
    let P : Watcher → Type 0 = λ (w : Watcher). (known w ≡ []) × (list_at w ≡ list_of p) in
    let all : All P c.into_vec-watchers.result.items = subst (All P) (sym c.into_vec-watchers.ensures) c.in_ok-publisher.ensures.watchers in
    let popped = All-pop P c.into_vec-watchers.result.items c.pop.new.self.items c.pop.result c.pop.ensures.items all in
    let some : c.pop.result ≡ Some c.in_ok-taught.taught = search rules in
    let taught : P c.in_ok-taught.taught = subst (λ (o : Option Watcher). IfSome o P) some popped.1 in
    record { list = c.tell.ensures.list ∙ (c.in_ok-show.ensures.list ∙ sym taught.1) }
