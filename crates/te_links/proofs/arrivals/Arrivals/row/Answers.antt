use Rattle.std.proofs.Common.{◌≡◌, ◌<◌, ◌∙◌, ℕ, Some, length, sym, subst}
use Rattle.std.specs.Prelude.{slice_get}
use Rattle.std.proofs.lemmas.Option.{get_or_from_slice_get}
use Rattle.te_links.specs.Arrivals.{Arrived}
use Rattle.te_links.proofs.arrivals.Arrivals.row.Goals as goal

pub place_in-requires : goal.place_in-requires
place_in-requires c = subst (λ (a : Arrived). c.args.k < length a.places) (sym c.self.view_is) c.requires

pub row_in-requires : goal.row_in-requires
row_in-requires c =
    let t = c.self.inside in
    let p = c.place_in.result in
    let inside : c.args.k < length t.places.now = subst (λ (a : Arrived). c.args.k < length a.places) (sym c.self.view_is) c.requires in
    subst (λ (n : ℕ). n < length t.rows.now) (get_or_from_slice_get t.places.now c.args.k p p c.place_in.ensures) (c.self.invariant.1 c.args.k p inside)

pub returns : goal.returns
returns c = λ p at.
    let t = c.self.inside in
    let k = c.args.k in
    let row = c.row_in.result.now in
    let here : slice_get t.places.now k ≡ Some p = subst (λ (a : Arrived). slice_get a.places k ≡ Some p) (sym c.self.view_is) at in
    let same : c.place_in.result ≡ p = sym (get_or_from_slice_get t.places.now k c.place_in.result p c.place_in.ensures) ∙ get_or_from_slice_get t.places.now k p p here in
    subst (λ (a : Arrived). slice_get a.links p ≡ Some row) c.self.view_is (subst (λ (n : ℕ). slice_get t.rows.now n ≡ Some row) same c.row_in.ensures)
