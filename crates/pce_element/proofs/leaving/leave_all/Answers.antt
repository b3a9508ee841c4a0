use Rattle.std.proofs.Common.{◌≡◌, ◌∙◌, ◌≤◌, ◌<◌, ◌+◌, ◌++◌, List, [], ◌∷◌, length, map, take, drop, cond, Bool, arith, sym, ap, subst, append_assoc}
use Rattle.std.specs.Prelude.{filter}
use Rattle.std.specs.VecDeque.{deque_capacity, deque_len}
use Rattle.std.specs.declared.collections.VecDeque.{VecDeque}
use Rattle.std.specs.Global.{Global}
use Rattle.std.proofs.lemmas.List.{append-nil}
use Rattle.pce_common.specs.plant_model.declared.output.Lost.{Lost}
use Rattle.pce_common.specs.plant_model.Element.{Row, stays, is_lost, lost_of}
use Rattle.pce_element.specs.Pinned.{Pinned}
use Rattle.pce_element.specs.Leaving.{with_rows}
use Rattle.pce_common.proofs.HeldPlaces.{all_taken, nothing_dropped}
use Rattle.pce_element.proofs.LeaveLemmas.{turned, stays_told, drops_told, loses_told}
use Rattle.pce_element.proofs.leaving.leave_all.Goals as goal
use Rattle.pce_element.proofs.leaving.leave_all.Goals.{in-Stays, in-Drops, in-Loses+in-Ok}

abbrev Gone : Type 0
Gone = VecDeque Lost Global

pub loop-turn-preserved : goal.loop-turn-preserved
loop-turn-preserved g c =
    let p = c.args.peer in
    let i = c.loop-turn._turn in
    let old : Pinned _ = c.args.requests.now in
    let within : i < length old.pending.rows = omega (arith, c.len-turn-end.ensures.count, c.loop-turn-test.true) in
    let both = turned p i c.loop-turn.k old c.loop-turn.requests c.leave.new.self c.leave.result within c.loop-turn.invariant.rows c.loop-turn.invariant.place c.leave.ensures in
    let t = both.0 in
    let so_far : List Lost = c.args.gone.now.items in
    let before : List Lost = map lost_of (filter (is_lost p) (take i old.pending.rows)) in
    let after : List Lost = map lost_of (filter (is_lost p) (take (i + 1) old.pending.rows)) in
    elim c.match-leave.branch [
      | in-Stays w ↦
          let told = stays_told p t.row (sym w.in-Stays.is ∙ both.1) in
          let kept : length c.leave.new.self.pending.rows + 1 ≡ length c.loop-turn.requests.pending.rows + 1 = t.length ∙ ap (λ (b : Bool). length c.loop-turn.requests.pending.rows + cond b 1 0) told.0 in
          let none : after ≡ before = t.lost ∙ ap (λ (b : Bool). before ++ cond b (lost_of t.row ∷ []) []) told.1 ∙ append-nil before in
          record {
            rows = t.rows;
            place = w.k-is ∙ sym (t.place ∙ ap (λ (b : Bool). c.loop-turn.k + cond b 1 0) told.0);
            lost = ap (λ (g : Gone). g.items) w.gone-is ∙ c.loop-turn.invariant.lost ∙ ap (λ (ls : List Lost). so_far ++ ls) (sym none);
            room = subst (λ (g : Gone). deque_len g + length c.leave.new.self.pending.rows ≤ deque_capacity g) (sym w.gone-is) (omega (arith, kept, c.loop-turn.invariant.room));
          }
      | in-Drops w ↦
          let told = drops_told p t.row (sym w.in-Drops.is ∙ both.1) in
          let fewer : length c.leave.new.self.pending.rows + 1 ≡ length c.loop-turn.requests.pending.rows + 0 = t.length ∙ ap (λ (b : Bool). length c.loop-turn.requests.pending.rows + cond b 1 0) told.0 in
          let none : after ≡ before = t.lost ∙ ap (λ (b : Bool). before ++ cond b (lost_of t.row ∷ []) []) told.1 ∙ append-nil before in
          let here : length (filter (stays p) (take (i + 1) old.pending.rows)) ≡ c.loop-turn.k + 0 = t.place ∙ ap (λ (b : Bool). c.loop-turn.k + cond b 1 0) told.0 in
          record {
            rows = t.rows;
            place = w.k-is ∙ (let e : c.loop-turn.k ≡ length (filter (stays p) (take (i + 1) old.pending.rows)) = omega (arith, here) in e);
            lost = ap (λ (g : Gone). g.items) w.gone-is ∙ c.loop-turn.invariant.lost ∙ ap (λ (ls : List Lost). so_far ++ ls) (sym none);
            room = subst (λ (g : Gone). deque_len g + length c.leave.new.self.pending.rows ≤ deque_capacity g) (sym w.gone-is) (omega (arith, fewer, c.loop-turn.invariant.room));
          }
      | in-Loses+in-Ok w ↦
          let told = loses_told p t.row w.in-Loses.lost (sym w.in-Loses.is ∙ both.1) in
          let fewer : length c.leave.new.self.pending.rows + 1 ≡ length c.loop-turn.requests.pending.rows + 0 = t.length ∙ ap (λ (b : Bool). length c.loop-turn.requests.pending.rows + cond b 1 0) told.0 in
          let one : after ≡ before ++ lost_of t.row ∷ [] = t.lost ∙ ap (λ (b : Bool). before ++ cond b (lost_of t.row ∷ []) []) told.1 in
          let here : length (filter (stays p) (take (i + 1) old.pending.rows)) ≡ c.loop-turn.k + 0 = t.place ∙ ap (λ (b : Bool). c.loop-turn.k + cond b 1 0) told.0 in
          record {
            rows = t.rows;
            place = w.k-is ∙ (let e : c.loop-turn.k ≡ length (filter (stays p) (take (i + 1) old.pending.rows)) = omega (arith, here) in e);
            lost = ap (λ (g : Gone). g.items) w.gone-is ∙ w.in-Ok.ensures.items ∙ ap (λ (ls : List Lost). ls ++ w.in-Loses.lost ∷ []) c.loop-turn.invariant.lost ∙ append_assoc so_far before (w.in-Loses.lost ∷ [])
                ∙ ap (λ (l : Lost). so_far ++ (before ++ l ∷ [])) told.2 ∙ ap (λ (ls : List Lost). so_far ++ ls) (sym one);
            room = subst (λ (g : Gone). deque_len g + length c.leave.new.self.pending.rows ≤ deque_capacity g) (sym w.gone-is) (omega (arith, fewer, c.loop-turn.invariant.room, w.in-Ok.ensures.len, w.push_back.ensures.capacity));
          }
    ]

pub returns : goal.returns
returns g c =
    let p = c.args.peer in
    let i = c.loop-turn._turn in
    let rows = c.args.requests.now.pending.rows in
    let past : length rows ≤ i = omega (arith, c.len-turn-end.ensures.count, c.loop-turn-test.false) in
    let all = all_taken rows i past in
    let none = nothing_dropped rows i past in
    record {
      kept = c.loop-turn.invariant.rows
          ∙ ap (λ (rs : List (Row _)). let q : Pinned _ = record (with_rows rs c.args.requests.now) { spare = c.loop-turn.requests.spare } in q)
          (ap (λ (rs : List (Row _)). filter (stays p) rs ++ drop i rows) all ∙ ap (λ (rs : List (Row _)). filter (stays p) rows ++ rs) none ∙ append-nil (filter (stays p) rows));
      lost = c.loop-turn.invariant.lost ∙ ap (λ (rs : List (Row _)). c.args.gone.now.items ++ map lost_of (filter (is_lost p) rs)) all;
      room = c.loop-turn.invariant.room;
    }
