-- One more link behind those that were handed out.
use Rattle.std.proofs.Common.{◌≡◌, List, [], ◌∷◌, ◌++◌, map, ap, ◌∙◌}
use Rattle.std.proofs.lemmas.List.{map-append}

pub one_more : {L S : Type 0} (f : L → S) (old new : List L) (link : L) → new ≡ old ++ link ∷ [] → map f new ≡ map f old ++ f link ∷ []
one_more f old new link is = ap (map f) is ∙ map-append f old (link ∷ [])
