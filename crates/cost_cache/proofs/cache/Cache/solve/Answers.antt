use Rattle.std.proofs.Common.{refl}
use Rattle.cost_cache.specs.Keys.{key_of}
use Rattle.cost_cache.proofs.Keeping.{found_in, not_found_in, put_in, used_in, has_after, good_after, others_after}
use Rattle.cost_cache.proofs.cache.Cache.solve.Goals as goal

pub answer-requires : goal.answer-requires
answer-requires g c κs =
    let key = key_of c.args.ask.now in
    let kept = c.in-Some.kept.now in
    let has = found_in c.self.inside.entries c.args.self.now c.in_ok-key.key key c.self.view_is c.in_ok-key.ensures kept c.in-Some.ensures in
    ((refl, tt), c.requires.good key kept has refl refl)

pub returns-in-Some-clause-has : goal.returns-in-Some-clause-has
returns-in-Some-clause-has g c =
    has_after c.args.self.now c.promote.new.self (key_of c.args.ask.now) c.in-Some.kept.now
    (used_in c.self.inside.entries c.args.self.now c.in_ok-key.key (key_of c.args.ask.now) c.self.view_is c.in_ok-key.ensures c.promote.new.self c.in-Some.kept.now c.in-Some.ensures c.promote.ensures.entries)

pub returns-in-Some-clause-others : goal.returns-in-Some-clause-others
returns-in-Some-clause-others g c = (
  c.in-Some.kept.now,
  used_in c.self.inside.entries c.args.self.now c.in_ok-key.key (key_of c.args.ask.now) c.self.view_is c.in_ok-key.ensures c.promote.new.self c.in-Some.kept.now c.in-Some.ensures c.promote.ensures.entries,
)

pub returns-in-Some-clause-good : goal.returns-in-Some-clause-good
returns-in-Some-clause-good g c =
    let kept = c.in-Some.kept.now in
    let has = found_in c.self.inside.entries c.args.self.now c.in_ok-key.key (key_of c.args.ask.now) c.self.view_is c.in_ok-key.ensures kept c.in-Some.ensures in
    good_after c.args.self.now c.promote.new.self (key_of c.args.ask.now) kept
    (used_in c.self.inside.entries c.args.self.now c.in_ok-key.key (key_of c.args.ask.now) c.self.view_is c.in_ok-key.ensures c.promote.new.self c.in-Some.kept.now c.in-Some.ensures c.promote.ensures.entries)
    c.args.ask.now.at c.args.ask.now.generation (g.G.Links.rows c.args.links.now) c.requires.good (λ here now. c.requires.good (key_of c.args.ask.now) kept has refl refl)

pub returns-in-Some-clause-elsewhere : goal.returns-in-Some-clause-elsewhere
returns-in-Some-clause-elsewhere g c =
    others_after c.args.self.now c.promote.new.self (key_of c.args.ask.now) c.in-Some.kept.now
    (used_in c.self.inside.entries c.args.self.now c.in_ok-key.key (key_of c.args.ask.now) c.self.view_is c.in_ok-key.ensures c.promote.new.self c.in-Some.kept.now c.in-Some.ensures c.promote.ensures.entries)

pub returns-in_err-kept-clause-hit : goal.returns-in_err-kept-clause-hit
returns-in_err-kept-clause-hit g c = λ has.
    absurd (not_found_in c.self.inside.entries c.args.self.now c.in_ok-key.key (key_of c.args.ask.now) c.self.view_is c.in_ok-key.ensures c.in_default.ensures has)

pub returns-in_err-rows-2-clause-hit : goal.returns-in_err-rows-2-clause-hit
returns-in_err-rows-2-clause-hit g c = λ has.
    absurd (not_found_in c.self.inside.entries c.args.self.now c.in_ok-key.key (key_of c.args.ask.now) c.self.view_is c.in_ok-key.ensures c.in_default.ensures has)

pub returns-in_err-put-clause-hit : goal.returns-in_err-put-clause-hit
returns-in_err-put-clause-hit g c = λ has.
    absurd (not_found_in c.self.inside.entries c.args.self.now c.in_ok-key.key (key_of c.args.ask.now) c.self.view_is c.in_ok-key.ensures c.in_default.ensures has)

pub returns-clause-hit : goal.returns-clause-hit
returns-clause-hit g c = λ has.
    absurd (not_found_in c.self.inside.entries c.args.self.now c.in_ok-key.key (key_of c.args.ask.now) c.self.view_is c.in_ok-key.ensures c.in_default.ensures has)

pub returns-clause-has : goal.returns-clause-has
returns-clause-has g c =
    has_after c.args.self.now c.put.new.self (key_of c.args.ask.now) c.in_ok-kept.kept
    (put_in c.self.inside.entries c.args.self.now c.in_ok-key.key (key_of c.args.ask.now) c.self.view_is c.in_ok-key.ensures c.put.new.self c.in_ok-kept.kept c.in_ok-put.ensures.entries)

pub returns-clause-good : goal.returns-clause-good
returns-clause-good g c =
    good_after c.args.self.now c.put.new.self (key_of c.args.ask.now) c.in_ok-kept.kept
    (put_in c.self.inside.entries c.args.self.now c.in_ok-key.key (key_of c.args.ask.now) c.self.view_is c.in_ok-key.ensures c.put.new.self c.in_ok-kept.kept c.in_ok-put.ensures.entries)
    c.args.ask.now.at c.args.ask.now.generation (g.G.Links.rows c.args.links.now) c.requires.good (λ here now. c.in_ok-kept.ensures.kept)

pub returns-clause-elsewhere : goal.returns-clause-elsewhere
returns-clause-elsewhere g c =
    others_after c.args.self.now c.put.new.self (key_of c.args.ask.now) c.in_ok-kept.kept
    (put_in c.self.inside.entries c.args.self.now c.in_ok-key.key (key_of c.args.ask.now) c.self.view_is c.in_ok-key.ensures c.put.new.self c.in_ok-kept.kept c.in_ok-put.ensures.entries)
