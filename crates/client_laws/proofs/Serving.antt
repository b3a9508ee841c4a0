-- A request for a path that is taken is answered at once, or open; and in a quiet state it has had its answer, was dropped, or waits for
-- an outside peer.
use Rattle.std.proofs.Common.{◌≡◌, ◌≤◌, ◌==◌, ℕ, zero, suc, Bool, true, false, cond, List, [], ◌∷◌, Option, Some, None, sym, ap, subst, ◌∙◌, inl, inr, refl, arith}
use Rattle.std.proofs.lemmas.Bool.{cases_Bool, eq-eqb}
use Rattle.plant_play.specs.plant_model.Types.{As, Peer, Asked, Request, Wanted, Wish}
use Rattle.pcep_messages.specs.declared.message.Message.TheVariants as messages
use Rattle.pcep_messages.specs.declared.message.Wish.TheVariants as wishes
use Rattle.pcep_messages.specs.Spelling.{IsWritten}
use Rattle.request_table.specs.Pending.{same_peer}
use Rattle.plant_text.specs.Names.{same_as}
use Rattle.plant_play.specs.plant_model.declared.output.Output.{Output}
use Rattle.plant_play.specs.plant_model.Plant.{PlantDeed, Segment, deeds_of}
use Rattle.plant_play.specs.plant_model.State.{Takes}
use Rattle.plant_play.specs.plant_model.Wire.{Admitted, Checked, Codec}
use Rattle.run_laws.specs.plant_laws.Answered.{Fate, answers_of}
use Rattle.run_laws.specs.plant_laws.Answered as once
use Rattle.run_laws.specs.plant_laws.Sending.{AllSent}
use Rattle.run_laws.specs.plant_laws.Transcript.{Begins, Delivered, Effect, Ends, Keeps, Transcript, after, answers_to, begins, begins_if, effect, opened}
use Rattle.run_laws.proofs.plant_laws.Once.Answering.{requests_are_answered_once}
use Rattle.run_laws.proofs.plant_laws.Once.OpenTables.{pending_row}
use Rattle.run_laws.proofs.plant_laws.WrittenForm.EveryWritten.{every_written}
use Rattle.run_laws.proofs.plant_laws.Runs.Moments.{opened_within, within_trans}
use Rattle.run_laws.proofs.plant_laws.Numbering.NumberRuns.{peer_self}
use Rattle.run_laws.proofs.plant_laws.Settled.UnderWayLaw.{quiet_is_answered}
use Rattle.client_laws.specs.Served.{IsServed, IsTaken, TakenIsOpen, TakenIsServed}
use Rattle.client_laws.specs.Served as served

module _ (c : Codec) (d : As) (p : Peer) where
  same_here : same_as d d ≡ true
  same_here = eq-eqb d.0 d.0 refl

  -- what the request does, by whether it is answered at once
  begun : (r : Request) (w : Wanted) (answers : ℕ) → r.wish ≡ wishes.Path w → begins c d r.id answers r ≡ cond (answers == 0) Begins Keeps
  begun r w answers path =
      ap (λ (z : Wish). begins c d r.id answers (record r { wish = z })) path
      ∙ ap (λ (b : Bool). cond b (cond (answers == 0) Begins Keeps) Keeps) (eq-eqb r.id r.id refl)

  taken_does : (r : Request) (w : Wanted) (a : Asked) (os : List Output) → c.check a d ≡ Admitted r → r.wish ≡ wishes.Path w →
      effect {S = Segment} c d p r.id (Takes d p (messages.PcReq (a ∷ [])) os) ≡ cond (answers_to p r.id os == 0) Begins Keeps
  taken_does r w a os admitted path =
      ap (λ (b : Bool). cond b (cond (same_peer p p) (begins_if c d r.id (answers_to p r.id os) (c.check a d)) Keeps) Keeps) same_here
      ∙ ap (λ (b : Bool). cond b (begins_if c d r.id (answers_to p r.id os) (c.check a d)) Keeps) (peer_self p)
      ∙ ap (λ (k : Checked). begins_if c d r.id (answers_to p r.id os) k) admitted
      ∙ begun r w (answers_to p r.id os) path

  answers_here : (x : ℕ) (a : Asked) (os : List Output) → answers_of d p x (Takes d p (messages.PcReq (a ∷ [])) os) ≡ answers_to p x os
  answers_here x a os = ap (λ (b : Bool). answers_to p x (cond b os [])) same_here

  some_answer : (k : ℕ) → (k == 0) ≡ false → 1 ≤ k
  some_answer zero e = (let clash : true ≡ false = e in cc)
  some_answer (suc k) e = omega arith

  begun_open : (now : Transcript) (f : Effect) (o : Option Transcript) → f ≡ Begins → (at : Transcript) × (after f o now ≡ Some at)
  begun_open now Begins None is = (now, refl)
  begun_open now Begins (Some m) is = (m, refl)
  begun_open now Keeps o is = cc
  begun_open now Ends o is = cc

  opens : (r : Request) (w : Wanted) (moment : Transcript) → Delivered c moment d p r → r.wish ≡ wishes.Path w → IsTaken c d p r.id moment
  opens r w [] delivered path = absurd delivered
  opens r w (e ∷ older) delivered path =
      let a = delivered.0 in
      let os = delivered.1 in
      let does : effect c d p r.id e ≡ cond (answers_to p r.id os == 0) Begins Keeps = ap (λ (x : PlantDeed). effect c d p r.id x) delivered.2 ∙ taken_does r w a os delivered.3 path in
      let count : answers_of d p r.id e ≡ answers_to p r.id os = ap (answers_of d p r.id) delivered.2 ∙ answers_here r.id a os in
      elim (cases_Bool (answers_to p r.id os == 0)) [
        | inl none ↦
            (let start : effect c d p r.id e ≡ Begins = does ∙ ap (λ (b : Bool). cond b Begins Keeps) none in
            let now = begun_open (e ∷ older) (effect c d p r.id e) (opened c d p r.id older) start in served.is_open now.0 now.1)
        | inr some ↦ served.answers e older refl (subst (λ (k : ℕ). 1 ≤ k) (sym count) (some_answer (answers_to p r.id os) some))
      ]

  -- what is open began in a moment that opened it
  opened_there : (x : ℕ) (now at : Transcript) → opened c d p x now ≡ Some at → opened c d p x at ≡ Some at
  opened_there x [] at is = cc
  opened_there x (e ∷ older) at is = go (opened_there x older at) (effect c d p x e) (opened c d p x older) refl is
    where
      some_is : (m m' : Transcript) → Some m ≡ Some m' → m ≡ m'
      some_is m m' same = cc

      go : (opened c d p x older ≡ Some at → opened c d p x at ≡ Some at) → (f : Effect) (o : Option Transcript) → opened c d p x older ≡ o → after f o (e ∷ older) ≡ Some at → opened c d p x at ≡ Some at
      go more Keeps o before held = more (before ∙ held)
      go more Ends o before held = cc
      go more Begins None before held = subst (λ (z : Transcript). opened c d p x z ≡ Some at) (some_is (e ∷ older) at held) is
      go more Begins (Some m) before held = more (before ∙ held)

pub taken_is_open : TakenIsOpen
taken_is_open c d p r w moment delivered path = opens c d p r w moment delivered path

-- ---- in a quiet state

pub taken_is_served : TakenIsServed
taken_is_served c codec n net es s run short quiet d p r w moment real within delivered path = go (opens c d p r w moment delivered path)
  where
    written : AllSent IsWritten (deeds_of c n es)
    written = every_written c codec n net es s run short

    by_fate : (at : Transcript) → opened c d p r.id moment ≡ Some at → Fate c (deeds_of c n es) s d p r.id at → IsServed c s (deeds_of c n es) d p r.id moment
    by_fate at is (once.pending open' there) =
        let row = pending_row s d real p r.id there in
        served.waits at is open' row.0 row.1 row.2 ((quiet_is_answered c codec n net es s run written short quiet).1 d row.0 row.1)
    by_fate at is (once.answered e one) = served.later at is e one
    by_fate at is (once.dropped e none why) = served.dropped at is e none why

    go : IsTaken c d p r.id moment → IsServed c s (deeds_of c n es) d p r.id moment
    go (served.answers deed older is some) = served.at_once deed older is some
    go (served.is_open at is) =
        by_fate at is
        (requests_are_answered_once c codec n net es s run d p r.id at (within_trans at moment (deeds_of c n es) (opened_within c d p r.id moment at is) within) (opened_there c d p r.id moment at is)).fate
