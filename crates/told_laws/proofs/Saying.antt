-- What is told of a run says all that the run says.
use Rattle.std.proofs.Common.{◌≡◌, ◌∙◌, ℕ, Bool, true, false, cond, ◌==◌, List, [], ◌∷◌, ◌++◌, append_assoc, append-nil, Option, Some, None, sym, ap, inl, inr, refl}
use Rattle.plant_laws.specs.plant_model.Types.{Message, NetworkParts, Sent}
use Rattle.plant_laws.specs.plant_model.declared.event.Event.{Event}
use Rattle.plant_laws.specs.plant_model.declared.event.Event.TheVariants as event
use Rattle.plant_laws.specs.plant_model.Wire.{Bytes, Codec}
use Rattle.plant_laws.specs.plant_model.Blind.{is_accepted}
use Rattle.plant_laws.specs.plant_model.State.{Hands, said, sent_in}
use Rattle.plant_laws.specs.plant_model.Plant.{Entry, Plant, PlantDeed, Run, deeds_of}
use Rattle.plant_laws.specs.plant_model.RealWire.{wire}
use Rattle.run_laws.specs.Outlets.{Drains, Outlet, Stays, handed_in, messages_for, outlet, turn_for, turned}
use Rattle.told_laws.specs.Saying.{SayTheSame, ToldSaysAll, handed_by, handed_to}
use Rattle.told_laws.specs.Telling.{is_told, told}
use Rattle.told_laws.proofs.Telling.{LeftOut, left_out, wire_writes}
use Rattle.told_laws.proofs.Waiting.{WritesOctets}

module _ (c : Codec) (n : NetworkParts) (writes : WritesOctets c) where
  -- ---- what is gathered from deeds, one by one, and is nothing where nothing is handed out

  module _ (A : Type 0) (all : List PlantDeed → List A) (one : PlantDeed → List A) (at_end : all [] ≡ []) (at_more : (d : PlantDeed) (ds : List PlantDeed) → all (d ∷ ds) ≡ all ds ++ one d)
      (nothing : (i : ℕ) → one (Hands i []) ≡ []) where
    all_append : (xs ys : List PlantDeed) → all (xs ++ ys) ≡ all ys ++ all xs
    all_append [] ys = sym (append-nil (all ys)) ∙ ap (λ (l : List A). all ys ++ l) (sym at_end)
    all_append (d ∷ xs) ys =
        at_more d (xs ++ ys) ∙ ap (λ (l : List A). l ++ one d) (all_append xs ys) ∙ append_assoc (all ys) (all xs) (one d) ∙ ap (λ (l : List A). all ys ++ l) (sym (at_more d xs))

    all_left : (before : Plant) (e : Entry) (s : Plant) (ds : List PlantDeed) → LeftOut before e s → all (e.deeds ++ ds) ≡ all ds
    all_left before e s ds (inl x) = ap (λ (l : List PlantDeed). all (l ++ ds)) x.deeds
    all_left before e s ds (inr x) =
        ap (λ (l : List PlantDeed). all (l ++ ds)) x.deeds ∙ at_more (Hands x.drain.peer []) ds ∙ ap (λ (l : List A). all ds ++ l) (nothing x.drain.peer) ∙ append-nil (all ds)

    all_more : (e : Entry) (older : List Entry) (s : Plant) (run : Run c n (e ∷ older) s) → all (deeds_of c n (told older)) ≡ all (deeds_of c n older) → (b : Bool) → is_told e.event e.answer ≡ b →
        all (deeds_of c n (cond b (e ∷ told older) (told older))) ≡ all (e.deeds ++ deeds_of c n older)
    all_more e older s run below true is = all_append e.deeds (deeds_of c n (told older)) ∙ ap (λ (l : List A). l ++ all e.deeds) below ∙ sym (all_append e.deeds (deeds_of c n older))
    all_more e older s run below false is = below ∙ sym (all_left run.0 e s (deeds_of c n older) (left_out c n writes e older s run is))

    pub all_told : (es : List Entry) (s : Plant) → Run c n es s → all (deeds_of c n (told es)) ≡ all (deeds_of c n es)
    all_told [] s run = refl
    all_told (e ∷ older) s run = all_more e older s run (all_told older run.0 run.1) (is_told e.event e.answer) refl

  abbrev said_in : List PlantDeed → List Sent
  said_in ds = said c ds

  abbrev sent : PlantDeed → List Sent
  sent d = sent_in c d

  messages_told : (es : List Entry) (s : Plant) → Run c n es s → said c (deeds_of c n (told es)) ≡ said c (deeds_of c n es)
  messages_told es s run = all_told Sent said_in sent refl (λ d ds. refl) (λ i. refl) es s run

  abbrev to : ℕ → List PlantDeed → List ℕ
  to i ds = handed_to i ds

  abbrev by : ℕ → PlantDeed → List ℕ
  by i d = handed_by i d

  nothing_by : (i j : ℕ) → by i (Hands j []) ≡ []
  nothing_by i j = go (j == i)
    where
      go : (b : Bool) → (let none : List ℕ = [] in cond b none none ≡ none)
      go true = refl
      go false = refl

  handed_told : (i : ℕ) (es : List Entry) (s : Plant) → Run c n es s → handed_to i (deeds_of c n (told es)) ≡ handed_to i (deeds_of c n es)
  handed_told i es s run = all_told ℕ (to i) (by i) refl (λ d ds. refl) (nothing_by i) es s run

  -- ---- connections

  unchanged : (b : Bool) (o : Option Outlet) → turned (cond b Drains Stays) [] [] o ≡ o
  unchanged true None = refl
  unchanged true (Some x) = ap (λ (h : Bytes). let r : Option Outlet = Some (record x { handed = h }) in r) (append-nil x.handed)
  unchanged false None = refl
  unchanged false (Some x) = ap (λ (ms : List Message). let r : Option Outlet = Some (record x { put = ms }) in r) (append-nil x.put)

  outlet_left : (i : ℕ) (before : Plant) (e : Entry) (s : Plant) (o : Option Outlet) → LeftOut before e s →
      cond (is_accepted e.answer) (turned (turn_for i e.event) (messages_for i e.deeds) (handed_in e.answer) o) o ≡ o
  outlet_left i before e s o (inl x) = ap (λ (b : Bool). cond b (turned (turn_for i e.event) (messages_for i e.deeds) (handed_in e.answer) o) o) x.answer
  outlet_left i before e s o (inr x) =
      ap (λ (b : Bool). cond b (turned (turn_for i e.event) (messages_for i e.deeds) (handed_in e.answer) o) o) x.answer
      ∙ ap (λ (v : Event). turned (turn_for i v) (messages_for i e.deeds) (handed_in e.answer) o) x.drain.event
      ∙ ap (λ (ds : List PlantDeed). turned (turn_for i (event.Drain x.drain.peer x.drain.holder)) (messages_for i ds) (handed_in e.answer) o) x.deeds
      ∙ ap (λ (bytes : Bytes). turned (turn_for i (event.Drain x.drain.peer x.drain.holder)) [] bytes o) x.drain.handed
      ∙ unchanged (x.drain.peer == i) o

  outlet_more : (i : ℕ) (e : Entry) (older : List Entry) (s : Plant) (run : Run c n (e ∷ older) s) → outlet i (told older) ≡ outlet i older → (b : Bool) → is_told e.event e.answer ≡ b →
      outlet i (cond b (e ∷ told older) (told older)) ≡ outlet i (e ∷ older)
  outlet_more i e older s run below true is = ap (λ (o : Option Outlet). cond (is_accepted e.answer) (turned (turn_for i e.event) (messages_for i e.deeds) (handed_in e.answer) o) o) below
  outlet_more i e older s run below false is = below ∙ sym (outlet_left i run.0 e s (outlet i older) (left_out c n writes e older s run is))

  outlet_told : (i : ℕ) (es : List Entry) (s : Plant) → Run c n es s → outlet i (told es) ≡ outlet i es
  outlet_told i [] s run = refl
  outlet_told i (e ∷ older) s run = outlet_more i e older s run (outlet_told i older run.0 run.1) (is_told e.event e.answer) refl

  pub told_says : (es : List Entry) (s : Plant) → Run c n es s → SayTheSame c n es (told es)
  told_says es s run = record { messages = messages_told es s run; handed = λ i. handed_told i es s run; connections = λ i. outlet_told i es s run }

pub told_says_all : ToldSaysAll
told_says_all n es s run = told_says wire n wire_writes es s run
