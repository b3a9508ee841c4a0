use Rattle.std.proofs.Common.{◌≡◌, ◌∙◌, ℕ, true, false, List, [], ◌∷◌, ◌++◌, sym, ap, subst}
use Rattle.pce_common.specs.Waiting.{AreSorted}
use Rattle.pce_common.specs.declared.ended.Ended.TheInside.{Inside}
use Rattle.pce_common.proofs.WaiterLemmas.{sorted_more}
use Rattle.pce_common.proofs.ended.Ended.push.Goals as goal
use Rattle.pce_common.proofs.ended.Ended.push.Goals.{then-self+in_ok-insert, else-self}

pub invariant_of-self-2 : goal.invariant_of-self-2
invariant_of-self-2 c =
    let a : Inside = c.self.inside in
    let n = c.args.number in
    elim c.if-self.branch [
      | then-self+in_ok-insert w ↦
          let items : c.push_reserved.new.self.items ≡ a.numbers.items ++ n ∷ [] =
          c.push_reserved.ensures.items ∙ ap (λ (b : Inside). b.numbers.items ++ n ∷ []) w.self-inside-is ∙ ap (λ (ns : List ℕ). ns ++ n ∷ []) c.reserve.ensures.items in
          let more = sorted_more a.many a.numbers.items n a.sorted w.insert.new.self w.in_ok-insert.ensures.updates.0 c.self.invariant in
          subst (λ (b : Inside). AreSorted b.many c.push_reserved.new.self.items b.sorted) (sym w.self-inside-is) (subst (λ (ns : List ℕ). AreSorted a.many ns w.insert.new.self) (sym items) more)
      | else-self w ↦
          λ many k. absurd (let no : true ≡ false = sym many ∙ ap (λ (b : Inside). b.many) w.self-inside-is ∙ w.if-self.false in cc)
    ]
