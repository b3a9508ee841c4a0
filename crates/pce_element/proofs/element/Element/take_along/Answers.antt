use Rattle.std.proofs.Common.{◌≡◌, ◌∙◌, Bool, List, Some, not, length, sym, ap, subst}
use Rattle.std.specs.Prelude.{IfOk, slice_get}
use Rattle.std.proofs.lemmas.Bool.{ltb-true}
use Rattle.std.proofs.lemmas.Option.{slice_get_read}
use Rattle.std.proofs.Common.{drop, refl}
use Rattle.pce_common.specs.plant_model.Types.{As, Peer}
use Rattle.disclosure.specs.Policy.{is_denied}
use Rattle.pce_common.specs.plant_model.Element.{Taken, way_to}
use Rattle.pce_common.specs.plant_model.Taking.{send_on, sight, wanting}
use Rattle.pce_element.specs.Changes.{IsDraft}
use Rattle.pce_element.proofs.AskLemmas.{along_next, not_back}
use Rattle.pce_element.proofs.element.Element.take_along.Goals as goal

pub returns-in-Some : goal.returns-in-Some
returns-in-Some g c =
    let s = c.args.self.now in
    let a = c.args.asker in
    let next = c.in-Some.next.now in
    let seen : List As = c.as_slice.result.now in
    let looked = c.in-Some.ensures.lookup in
    let read : slice_get seen 1 ≡ Some next = slice_get_read seen (length seen) 1 next refl (ltb-true 1 (length seen) (sym looked.0)) looked.1 in
    let at : slice_get c.args.sequence 1 ≡ Some next = ap (λ (xs : List As). slice_get xs 1) (sym c.as_slice.ensures) ∙ read in
    let refused : not c.allows-refused.result ≡ is_denied s.place.deny a.class next = not_back c.allows-refused.result (is_denied s.place.deny a.class next) c.allows-refused.ensures in
    let same = ap (λ (b : Bool). send_on (sight s.current a.peer a.class) (wanting a.flags a.id c.args.wanted) c.args.sequence (drop 1 c.args.sequence) b s.losing.element (way_to c.toward.result s.losing.element.ways)) refused
    ∙ ap (λ (p : Peer). send_on (sight s.current a.peer a.class) (wanting a.flags a.id c.args.wanted) c.args.sequence (drop 1 c.args.sequence) (is_denied s.place.deny a.class next) s.losing.element (way_to p s.losing.element.ways)) c.toward.ensures
    ∙ along_next s.place s.current a.peer a.class a.flags a.id c.args.wanted s.losing.element c.args.sequence next at in
    subst (λ (t : Taken _ _). IfOk c.send_on.result (IsDraft s t)) same c.send_on.ensures
