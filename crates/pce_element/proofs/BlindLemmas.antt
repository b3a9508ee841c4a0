-- A job that is solved by given rows.
use Rattle.std.proofs.Common.{◌≡◌, ◌∙◌, ℕ, true, false, nat_eq, Option, Some, None, List, [], refl, sym, ap, subst, option_map}
use Rattle.std.specs.Prelude.{All, IfSome}
use Rattle.std.specs.Map.{lookup}
use Rattle.std.proofs.lemmas.List.Elements.{All-nil}
use Rattle.pce_common.specs.plant_model.Types.{BorderRow, Held, Best, Branch}
use Rattle.vspt_tree.specs.Branches.{HasBranchAt}
use Rattle.pce_common.specs.plant_model.declared.output.Output.{Output}
use Rattle.pce_common.specs.plant_model.Blind.{Nothing}
use Rattle.pce_common.specs.plant_model.Branches.{downs}
use Rattle.pce_common.specs.plant_model.Element.{Element, Item, Stage, Taken, Waits, Ready, is_client, is_ready}
use Rattle.pce_common.specs.plant_model.Jobs.{IsJoinOf, target_along}
use Rattle.pce_element.specs.Answering.{Answers, commit_row}
use Rattle.pce_element.specs.Blind.{AnswersBlindly, AreJoined, HasNoJob, IsSolvedBy, stands_for_nothing}
use Rattle.pce_element.specs.Items.{branches_at}
use Rattle.pce_element.specs.Seen.{Seen}
use Rattle.pce_element.specs.declared.answering.Answered.{Answered}
use Rattle.pce_element.proofs.CommitLemmas.{commit_one}

-- ---- what rows join to

pub client_joins : (i : Item Nothing) (rows : List BorderRow) (down : List Branch) (best : List Best) → is_client i.class ≡ true → best ≡ [] → AreJoined i rows down best
client_joins i rows down best is none n = rw is none

pub other_joins : (i : Item Nothing) (rows : List BorderRow) (down : List Branch) (best : List Best) → is_client i.class ≡ false → IsJoinOf i.wanted.query.cap (target_along i.sequence i.wanted.target) rows (downs down) best → AreJoined i rows down best
other_joins i rows down best is joined n = rw is joined

pub none_goes_on : (down : List Branch) (best : List Best) → best ≡ [] → All (λ (row : Best). IfSome row.head (HasBranchAt down)) best
none_goes_on down best none = subst (All (λ (row : Best). IfSome row.head (HasBranchAt down))) (sym none) (All-nil (λ (row : Best). IfSome row.head (HasBranchAt down)))

-- ---- by the request that was found

pub no_request : (s : Seen Nothing Nothing) (number : ℕ) → lookup (nat_eq number) s.losing.element.pending.rows ≡ None → HasNoJob s number
no_request s number none i found ready =
    let no : None ≡ Some i = sym (ap (λ (o : Option (Held (Item Nothing))). option_map (λ (h : Held (Item Nothing)). h.item) o) none) ∙ found in cc

pub not_ready : (s : Seen Nothing Nothing) (number : ℕ) (held : Held (Item Nothing)) → lookup (nat_eq number) s.losing.element.pending.rows ≡ Some held → None ≡ branches_at held.item.stage → HasNoJob s number
not_ready s number held is none i found ready =
    let one : Some held.item ≡ Some i = sym (ap (λ (o : Option (Held (Item Nothing))). option_map (λ (h : Held (Item Nothing)). h.item) o) is) ∙ found in
    let same : held.item ≡ i = cc in
    waits held.item.stage none (ap (λ (x : Item Nothing). is_ready x.stage) same ∙ ready)
  where
    waits : (stage : Stage) → None ≡ branches_at stage → is_ready stage ≡ true → ⊥
    waits (Waits on id) none' ready' = absurd (let no : false ≡ true = ready' in cc)
    waits (Ready down) none' ready' = absurd (let no : None ≡ Some down = none' in cc)

pub blind_answers : (s : Seen Nothing Nothing) (number r now : ℕ) (rows : List BorderRow) (held : Held (Item Nothing)) (down : List Branch) (best : List Best) (a : Answered Nothing) → r ≡ number →
    lookup (nat_eq number) s.losing.element.pending.rows ≡ Some held → held.item.stage ≡ Ready down → AreJoined held.item rows down best → Answers stands_for_nothing s true true best now (r, held) down a → AnswersBlindly s number rows now a
blind_answers s number r now rows held down best a is found ready joined answers = record {
  taken = commit_row stands_for_nothing s true true best now (number, held) down;
  is = record {
    held = held;
    is_held = found;
    down = down;
    ready = ready;
    best = best;
    joined = joined;
    is = refl;
    one = commit_one stands_for_nothing s true true best now (number, held) down;
  };
  are = subst (λ (n : ℕ). Answers stands_for_nothing s true true best now (n, held) down a) is answers;
}

-- ---- what a plan makes

pub taken_same : {P : Type 0} {S : Type 0} → (t u : Taken P S) → t.element ≡ u.element → t.outputs ≡ u.outputs → t ≡ u
taken_same {P} {S} t u element outputs =
    ap (λ (e : Element P S). let v : Taken P S = record { element = e; outputs = t.outputs } in v) element
    ∙ ap (λ (os : List Output). let v : Taken P S = record { element = u.element; outputs = os } in v) outputs

pub blind_planned : (s : Seen Nothing Nothing) (number now : ℕ) (rows : List BorderRow) (a : Answered Nothing) (t : Taken Nothing Nothing) (answers : AnswersBlindly s number rows now a) → t.element ≡ answers.taken.element → t.outputs ≡ answers.taken.outputs →
    IsSolvedBy s number rows now t
blind_planned s number now rows a t answers element outputs =
    subst (λ (u : Taken Nothing Nothing). IsSolvedBy s number rows now u) (sym (taken_same t answers.taken element outputs)) answers.is
