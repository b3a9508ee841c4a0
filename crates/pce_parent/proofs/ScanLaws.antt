-- Waits looked through one by one.
use Rattle.std.proofs.Common.{◌≡◌, ◌+◌, ℕ, Bool, true, false, cond, Some, Result, Ok, Err, List, drop, ◌∙◌, ap}
use Rattle.std.specs.Prelude.{slice_get, OnOk}
use Rattle.pce_common.specs.plant_model.Types.{Peer}
use Rattle.request_table.specs.Pending.{same_peer}
use Rattle.pce_common.specs.plant_model.Names.{same_id}
use Rattle.pce_common.specs.plant_model.Parent.{Wait, among, any_on}
use Rattle.pce_common.proofs.Scans.{dropped_next}

pub on_ok : {A : Type 0} {E : Type 0} (r : Result A E) (P Q : Type 0) → (P → Q) → OnOk r P → OnOk r Q
on_ok (Ok x) P Q f p = f p
on_ok (Err e) P Q f p = tt

-- ---- among waits

pub for_here : (p : Peer) (y k : ℕ) (ws : List Wait) (w : Wait) → slice_get ws k ≡ Some w → same_id w.peer w.id p y ≡ true → among p (drop k ws) y ≡ true
for_here p y k ws w at_k same = ap (λ (xs : List Wait). among p xs y) (dropped_next ws k w at_k) ∙ ap (λ (b : Bool). cond b true (among p (drop (k + 1) ws) y)) same

pub for_more : (p : Peer) (y k : ℕ) (ws : List Wait) (w : Wait) → slice_get ws k ≡ Some w → same_id w.peer w.id p y ≡ false → among p (drop k ws) y ≡ among p (drop (k + 1) ws) y
for_more p y k ws w at_k same = ap (λ (xs : List Wait). among p xs y) (dropped_next ws k w at_k) ∙ ap (λ (b : Bool). cond b true (among p (drop (k + 1) ws) y)) same

pub on_here : (p : Peer) (k : ℕ) (ws : List Wait) (w : Wait) → slice_get ws k ≡ Some w → same_peer w.peer p ≡ true → any_on p (drop k ws) ≡ true
on_here p k ws w at_k same = ap (λ (xs : List Wait). any_on p xs) (dropped_next ws k w at_k) ∙ ap (λ (b : Bool). cond b true (any_on p (drop (k + 1) ws))) same

pub on_more : (p : Peer) (k : ℕ) (ws : List Wait) (w : Wait) → slice_get ws k ≡ Some w → same_peer w.peer p ≡ false → any_on p (drop k ws) ≡ any_on p (drop (k + 1) ws)
on_more p k ws w at_k same = ap (λ (xs : List Wait). any_on p xs) (dropped_next ws k w at_k) ∙ ap (λ (b : Bool). cond b true (any_on p (drop (k + 1) ws))) same
