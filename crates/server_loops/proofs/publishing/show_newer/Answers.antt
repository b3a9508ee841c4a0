use Rattle.std.proofs.Common.{◌≡◌, ◌∙◌, ℕ, Option, sym, subst, true}
use Rattle.std.specs.declared.option.Option.{Option}
use Rattle.ted_watch.specs.Watch.{published}
use Rattle.server_loops.specs.Operating.{is_newer}
use Rattle.server_loops.proofs.Elements.{few_more, may_follow}
use Rattle.server_loops.proofs.publishing.show_newer.Goals as goal

pub show-requires : goal.show-requires
show-requires g c = record {
  next = may_follow (published c.args.publisher.now) c.args.shown
      (subst (λ (o : Option ℕ). is_newer c.args.shown.generation o ≡ true) c.last.ensures (sym c.is_newer.ensures ∙ c.if-is_newer.true))
      (few_more c.args.network.now (published c.args.publisher.now) c.args.shown c.parts-settings.ensures.rules c.requires.elements c.requires.element);
}
