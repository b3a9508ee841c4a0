use Rattle.std.proofs.Common.{◌≡◌, ℕ, ◌<◌, cond, [], ◌∷◌, ◌++◌, All, Some, ap, sym, subst, ◌∙◌, arith, eq-eqb}
use Rattle.std.proofs.lemmas.List.Elements.{All-push}
use Rattle.ted_watch.specs.declared.shown.Shown.{Shown}
use Rattle.ted_watch.specs.Published.{last_of}
use Rattle.ted_watch.specs.Watch.{published}
use Rattle.ted_watch.proofs.Legal.{last_more}
use Rattle.ted_watch.proofs.Few.{few_one}
use Rattle.worked_parts.proofs.watching.show_all.Goals as goal

pub show-requires : goal.show-requires
show-requires g c =
    let s = c.topology.result in
    let xs = published c.loop-generation.publisher in
    record {
      next = record {
        above = λ t e. subst (λ n. t.generation < n) (sym c.topology.ensures.generation) (c.loop-generation.invariant.1 t (subst (λ (n : ℕ). last_of n xs ≡ Some t) c.topology.ensures.at e));
        few = few_one 1 (xs ++ s ∷ []) (All-push (λ (x : Shown). x.at.0 ≡ 1) xs s c.loop-generation.invariant.0 c.topology.ensures.at);
      };
    }

pub loop-generation-preserved : goal.loop-generation-preserved
loop-generation-preserved g c =
    let s = c.topology.result in
    let xs = published c.loop-generation.publisher in
    let shown = c.in_ok-show.ensures.shown in
    let last : last_of 1 (published c.show.new.self) ≡ Some s = ap (λ l. last_of 1 l) shown ∙ (last_more 1 xs s ∙ ap (λ b. cond b (Some s) (last_of 1 xs)) (eq-eqb s.at.0 1 c.topology.ensures.at)) in (
      subst (All (λ (x : Shown). x.at.0 ≡ 1)) (sym shown) (All-push (λ (x : Shown). x.at.0 ≡ 1) xs s c.loop-generation.invariant.0 c.topology.ensures.at),
      λ t e. let same : s ≡ t = cc (sym last ∙ e) in omega (arith, ap (λ (x : Shown). x.generation) same, c.topology.ensures.generation),
    )
