-- A request that becomes ready.
use Rattle.std.proofs.Common.{◌≡◌, ◌∙◌, ℕ, true, false, Option, Some, None, List, length, refl, sym, ap, subst, option_map}
use Rattle.std.specs.Prelude.{Contains}
use Rattle.pce_common.specs.plant_model.Types.{Peer, Held, Branch}
use Rattle.request_table.specs.Pending.{Pending, NumbersRise, item_of}
use Rattle.request_table.specs.Lends.{written_of}
use Rattle.pce_common.specs.plant_model.Element.{Element, Item, Row, Stage, Waits, Ready, at_stage, is_ready, waits_for}
use Rattle.pce_common.specs.plant_model.Taking.{staged}
use Rattle.pce_element.specs.Pinned.{pins_in}
use Rattle.pce_element.specs.Changes.{readied, readied_item}
use Rattle.pce_common.proofs.HeldRows.{in_found, length-written}
use Rattle.pce_element.proofs.PinLemmas.{pins_written}

pub readied_is : {P : Type 0} → (number : ℕ) (branches : List Branch) (pending : Pending (Item P)) (item : Item P) → item_of pending number ≡ Some item → readied number branches pending ≡ written_of pending number (at_stage (Ready branches) item)
readied_is number branches pending item is = ap (readied_item number branches pending) is

row_found : {P : Type 0} {S : Type 0} → (k : Element P S) (h : Row P) → NumbersRise 0 k.pending.rows k.pending.given → Contains k.pending.rows h → item_of k.pending h.0 ≡ Some h.1.item
row_found {P} {S} k h rises has = ap (λ (o : Option (Held (Item P))). option_map (λ (x : Held (Item P)). x.item) o) (in_found 0 k.pending.given k.pending.rows h rises has)

-- what waits for an answer can't be solved
pub waits_yet : (p : Peer) (y : ℕ) (s : Stage) → waits_for p y s ≡ true → is_ready s ≡ false
waits_yet p y (Waits on id) is = refl
waits_yet p y (Ready branches) is = absurd (let no : false ≡ true = is in cc)

pub row_waits : {P : Type 0} {S : Type 0} → (k : Element P S) (h : Row P) → NumbersRise 0 k.pending.rows k.pending.given → Contains k.pending.rows h → is_ready h.1.item.stage ≡ false →
    (i : Item P) → item_of k.pending h.0 ≡ Some i → is_ready i.stage ≡ false
row_waits {P} {S} k h rises has waits i found =
    let one : Some h.1.item ≡ Some i = sym (row_found k h rises has) ∙ found in
    let same : h.1.item ≡ i = cc in
    ap (λ (x : Item P). is_ready x.stage) (sym same) ∙ waits

-- the request of a row is staged
pub readied_row : {P : Type 0} {S : Type 0} → (k : Element P S) (h : Row P) (branches : List Branch) → NumbersRise 0 k.pending.rows k.pending.given → Contains k.pending.rows h → record k { pending = readied h.0 branches k.pending } ≡ staged h (Ready branches) k
readied_row {P} {S} k h branches rises has =
    ap (λ (p : Pending (Item P)). let e : Element P S = record k { pending = p } in e) (readied_is h.0 branches k.pending h.1.item (row_found k h rises has))

-- pins and counts stay
pub record StaysPinned {P : Type 0} (before after : Pending (Item P)) : Type 0 where
  pub pins : pins_in after.rows ≡ pins_in before.rows
  pub length : length after.rows ≡ length before.rows
  pub limit : after.limit ≡ before.limit
  pub given : after.given ≡ before.given

pub readied_stays : {P : Type 0} → (number : ℕ) (branches : List Branch) (before after : Pending (Item P)) → after ≡ readied number branches before → StaysPinned before after
readied_stays {P} number branches before after is = subst (λ (p : Pending (Item P)). StaysPinned before p) (sym is) (go (item_of before number) refl)
  where
    go : (o : Option (Item P)) → item_of before number ≡ o → StaysPinned before (readied_item number branches before o)
    go None none = record { pins = refl; length = refl; limit = refl; given = refl }
    go (Some item) found =
        let written : Item P = at_stage (Ready branches) item in
        record { pins = pins_written number written before.rows item found refl; length = length-written number written before.rows; limit = refl; given = refl }
