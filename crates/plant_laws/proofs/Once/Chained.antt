-- A request has one chain, if each message that is taken asks once.
use Rattle.std.proofs.Common.{◌≡◌, ◌≢◌, ◌≤◌, Bool, true, false, cond, List, [], ◌∷◌, length, sym, subst, inl, inr, refl, arith}
use Rattle.plant_model.specs.Types.{As}
use Rattle.plant_model.specs.declared.output.Output.{Output}
use Rattle.plant_text.specs.Names.{same_as, parent_as}
use Rattle.plant_model.specs.State.{Deed, Loads, Pops, Takes, Says, Ups, Downs, Clears, Solves, Expires, Hands}
use Rattle.plant_model.specs.Plant.{Segment, deeds_of}
use Rattle.plant_laws.specs.Transcript.{Transcript, outputs_at, put_into}
use Rattle.plant_laws.specs.Chains.{OneChainIn}
use Rattle.plant_laws.specs.Runs.{InRuns}
use Rattle.plant_laws.proofs.Runs.Queues.{same_as_is}
use Rattle.plant_laws.proofs.Once.Handing.{IsTerse, AreTerse, same_moments}
use Rattle.plant_laws.proofs.Once.Opened.{AreSingle, single_deed}
use Rattle.plant_laws.proofs.WrittenForm.RequestsWritten.{requests_are_single}
use Rattle.plant_laws.proofs.Numbering.Sends.{IsTerseOut, IsSparing, Each, put_terse, run_spares}

none_terse : (b : As) → IsTerse (put_into b [])
none_terse b = inr (omega arith)

cond_terse : (at a b : As) (os : List Output) → (at ≡ a → IsTerseOut os) → IsTerse (put_into b (cond (same_as at a) os []))
cond_terse at a b os h = go (same_as at a) refl
  where
    go : (t : Bool) → same_as at a ≡ t → IsTerse (put_into b (cond t os []))
    go true is = put_terse b os (h (same_as_is at a is))
    go false is = none_terse b

deed_terse : (a b : As) → a ≢ parent_as → (e : Deed Segment) → IsSparing e → single_deed e → IsTerse (put_into b (outputs_at a e))
deed_terse a b real (Takes at p m os) spare single = cond_terse at a b os (λ is. spare (subst (λ (d : As). d ≢ parent_as) (sym is) real) single)
deed_terse a b real (Downs at p os) spare single = cond_terse at a b os (λ is. inl (spare (subst (λ (d : As). d ≢ parent_as) (sym is) real)))
deed_terse a b real (Solves at k os keys) spare single = cond_terse at a b os (λ is. inr (subst (λ (l : List Output). length l ≤ 1) (sym spare.1) (omega arith)))
deed_terse a b real (Says at o) spare single = cond_terse at a b (o ∷ []) (λ is. inr (omega arith))
deed_terse a b real _ spare single = none_terse b

all_terse : (a b : As) → a ≢ parent_as → (now : Transcript) → Each IsSparing now → AreSingle now → AreTerse a b now
all_terse a b real [] spare single = tt
all_terse a b real (e ∷ older) spare single = (deed_terse a b real e spare.0 single.0, all_terse a b real older spare.1 single.1)

pub one_chain : InRuns OneChainIn
one_chain c codec n network es s run one other rest rest' at real h h' same =
    same_moments (deeds_of c n es) (λ a b real. all_terse a b real (deeds_of c n es) (run_spares c n es s run) (requests_are_single c codec n network es s run)) one other rest rest' at real h h' same
