-- What is told of elements and of peers, one behind the other.
use Rattle.std.proofs.Common.{◌≡◌, ◌∙◌, ◌+◌, ◌<◌, ℕ, List, [], ◌∷◌, ◌++◌, length, take, drop, get_or, Option, Some, None, is_some, is_none, Bool, true, false, not, refl, ap, sym, arith}
use Rattle.std.proofs.lemmas.List.{drop_more, length-take-le, take_more}
use Rattle.plant_text.specs.declared.settings.ElementRow.{ElementRow}
use Rattle.plant_text.specs.declared.settings.NetworkParts.{NetworkParts}
use Rattle.plant_text.specs.declared.settings.PeerRow.{PeerRow}
use Rattle.network_check.specs.Warnings.{element_warnings, elements_warnings, peer_warnings, peers_warnings}

-- the row at a place, and those behind it
row_next : {X : Type 0} (xs : List X) (i : ℕ) (x : X) → i < length xs → x ≡ get_or xs i x → drop i xs ≡ x ∷ drop (i + 1) xs
row_next {X} xs i x lt is = drop_more xs i x lt ∙ ap (λ (y : X). y ∷ drop (i + 1) xs) (sym is)

pub elements_next : (file text : List ℕ) (n : NetworkParts) (elements : List ElementRow) (i : ℕ) (e : ElementRow) → i < length elements → e ≡ get_or elements i e →
    elements_warnings file text n i (drop i elements) ≡ element_warnings file text n i e ++ elements_warnings file text n (i + 1) (drop (i + 1) elements)
elements_next file text n elements i e lt is = ap (λ (es : List ElementRow). elements_warnings file text n i es) (row_next elements i e lt is)

pub peers_next : (file text : List ℕ) (watch : Option ℕ) (peers : List PeerRow) (i : ℕ) (p : PeerRow) → i < length peers → p ≡ get_or peers i p →
    peers_warnings file text watch (take i peers) (drop i peers) ≡ peer_warnings file text watch i (take i peers) p ++ peers_warnings file text watch (take (i + 1) peers) (drop (i + 1) peers)
peers_next file text watch peers i p lt is =
    let count : length (take i peers) ≡ i = length-take-le i peers (omega (arith, lt)) in
    let more : take (i + 1) peers ≡ take i peers ++ p ∷ [] = take_more peers i p lt ∙ ap (λ (q : PeerRow). take i peers ++ q ∷ []) (sym is) in
    ap (λ (ps : List PeerRow). peers_warnings file text watch (take i peers) ps) (row_next peers i p lt is)
    ∙ ap (λ (n : ℕ). peer_warnings file text watch n (take i peers) p ++ peers_warnings file text watch (take i peers ++ p ∷ []) (drop (i + 1) peers)) count
    ∙ ap (λ (ps : List PeerRow). peer_warnings file text watch i (take i peers) p ++ peers_warnings file text watch ps (drop (i + 1) peers)) (sym more)

-- a value that is told not to be there
pub none_is : {X : Type 0} (o : Option X) (r : Bool) → is_some o ≡ not r → r ≡ is_none o
none_is None true is = refl
none_is None false is = absurd (let never : false ≡ true = is in cc)
none_is (Some x) true is = absurd (let never : true ≡ false = is in cc)
none_is (Some x) false is = refl
