-- Events one behind the other, and one more.
use Rattle.std.proofs.Common.{◌≡◌, ◌+◌, ℕ, true, List, [], ◌∷◌, ◌++◌, Option, Some, sym, ◌∙◌, subst, ap, refl}
use Rattle.std.proofs.lemmas.List.{length_push}
use Rattle.plant_network.specs.plant_model.Types.{NetworkParts}
use Rattle.plant_network.specs.plant_model.declared.event.Event.{Event}
use Rattle.plant_network.specs.plant_model.Blind.{is_accepted}
use Rattle.plant_network.specs.plant_model.Plant.{Plant, Entry, IsGiven, Run}
use Rattle.plant_network.specs.plant_model.RealWire.{wire}
use Rattle.plant_network.specs.Whole.{Whole}
use Rattle.plant_play.specs.declared.showing.Modes.{Modes}
use Rattle.plant_play.specs.Due.{AreDue}
use Rattle.plant_play.specs.Logs.{Told, behind}
use Rattle.plant_play.specs.Making.{DoesSome, MakesTurn}
use Rattle.plant_play.specs.Turns.{IsTurn, Turn, entries_of, turn_text}
use Rattle.plant_play.proofs.LogLemmas.{behind_more, behind_nothing}

pub entries_more : (ts : List Turn) (t : Turn) (older : List Entry) → entries_of (ts ++ t ∷ []) older ≡ t.entry ∷ entries_of ts older
entries_more [] t older = refl
entries_more (x ∷ xs) t older = entries_more xs t (x.entry ∷ older)

module _ (Due : Plant → Option Event → Type 0) (m : Modes) (n : NetworkParts) where
  pub due_more : (s : Plant) (ts : List Turn) (mid : Plant) (t : Turn) → AreDue Due m n s ts mid → Due mid (Some t.entry.event) → IsTurn m n mid t → is_accepted t.entry.answer ≡ true →
      AreDue Due m n s (ts ++ t ∷ []) t.after
  due_more s [] mid t are is_due is ok = (subst (λ (u : Plant). Due u (Some t.entry.event)) are is_due, subst (λ (u : Plant). IsTurn m n u t) are is, ok, refl)
  due_more s (x ∷ xs) mid t are is_due is ok = (are.0, are.1, are.2, due_more x.after xs mid t are.3 is_due is ok)

-- nothing is done yet
pub none_done : (line : ℕ) (m : Modes) (Due : Plant → Option Event → Type 0) (w : Whole) (text : Told) → DoesSome line m Due w w text text 0
none_done line m Due w text = record { network = refl; turns = []; so_many = refl; due = refl; goes = λ older run. run; tells = behind_nothing text }

-- one more event that was due
pub one_more : (line : ℕ) (m : Modes) (Due : Plant → Option Event → Type 0) (old mid new : Whole) (e : Event) (b0 b1 b2 : Told) (k : ℕ) → DoesSome line m Due old mid b0 b1 k → Due mid.state (Some e) → IsGiven e → MakesTurn line m mid e new b1 b2 →
    DoesSome line m Due old new b0 b2 (k + 1)
one_more line m Due old mid new e b0 b1 b2 k done is_due given makes =
    let t = makes.turn in
    let here : Due mid.state (Some t.entry.event) = subst (λ (x : Event). Due mid.state (Some x)) (sym makes.event) is_due in
    let turn : IsTurn m old.network mid.state t = subst (λ (n : NetworkParts). IsTurn m n mid.state t) done.network makes.is_turn in
    let more : AreDue Due m old.network old.state (done.turns ++ t ∷ []) t.after = due_more Due m old.network old.state done.turns mid.state t done.due here turn makes.accepted in
    record {
      network = makes.network ∙ done.network;
      turns = done.turns ++ t ∷ [];
      so_many = length_push done.turns t ∙ ap (λ (j : ℕ). j + 1) done.so_many;
      due = subst (λ (u : Plant). AreDue Due m old.network old.state (done.turns ++ t ∷ []) u) (sym makes.ends) more;
      goes = λ older run.
          let before : Run wire mid.network (entries_of done.turns older) mid.state = subst (λ (n : NetworkParts). Run wire n (entries_of done.turns older) mid.state) (sym done.network) (done.goes older run) in
          let after : Run wire mid.network (t.entry ∷ entries_of done.turns older) new.state = makes.goes (subst (λ (x : Event). IsGiven x) (sym makes.event) given) (entries_of done.turns older) before in
          let there : Run wire old.network (t.entry ∷ entries_of done.turns older) new.state = subst (λ (n : NetworkParts). Run wire n (t.entry ∷ entries_of done.turns older) new.state) done.network after in
          subst (λ (es : List Entry). Run wire old.network es new.state) (sym (entries_more done.turns t older)) there;
      tells =
          makes.tells ∙ ap (λ (n : NetworkParts). behind b1 (turn_text line n.peers t)) done.network ∙ ap (λ (b : Told). behind b (turn_text line old.network.peers t)) done.tells
          ∙ behind_more (turn_text line old.network.peers) b0 done.turns t;
    }
