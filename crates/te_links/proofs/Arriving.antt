-- Arcs of links, as links are added, and those of a part of the links.
use Rattle.std.proofs.Common.{◌≡◌, inl, inr, ℕ, ◌+◌, ◌-◌, ◌≤◌, ◌<◌, List, [], ◌∷◌, ◌++◌, length, get_or, refl, sym, ◌∙◌, subst, arith}
use Rattle.std.specs.Prelude.{All, slice_range}
use Rattle.std.proofs.lemmas.Bool.{cases_lt}
use Rattle.std.proofs.lemmas.List.{get_or_append_left, get_or_at, length_push}
use Rattle.std.proofs.lemmas.List.Edits.{length-between, get_or-between}
use Rattle.std.proofs.lemmas.List.Elements.{All-weaker}
use Rattle.std.proofs.lemmas.Option.{slice_get_within}
use Rattle.dom_base.specs.declared.addr.Addr.{Addr}
use Rattle.dom_base.specs.declared.link.Link.{Link}
use Rattle.te_links.specs.declared.arrivals.Arc.{Arc}
use Rattle.te_links.specs.Index.{LinkEndsAt, IsLinksInto}
use Rattle.te_links.specs.Arrivals.{IsArcOf, AreArcs}

pub arcs_none : (nodes : List Addr) (links : List Link) → AreArcs nodes links [] []
arcs_none nodes links = record { each = refl; at_place = λ k p a below. absurd (omega arith) }

-- one more link, and its arc
pub arcs_more : (nodes : List Addr) (links : List Link) (places : List ℕ) (arcs : List Arc) (p : ℕ) (a : Arc) → IsArcOf nodes links a p → AreArcs nodes links places arcs →
    AreArcs nodes links (places ++ p ∷ []) (arcs ++ a ∷ [])
arcs_more nodes links places arcs p a is old = record {
  each = omega (arith, old.each, length_push places p, length_push arcs a);
  at_place = λ k q b below. elim (cases_lt k (length places)) [
    | inl lt ↦
        rw (get_or_append_left places (p ∷ []) q k lt, get_or_append_left arcs (a ∷ []) b k (omega (arith, lt, old.each))) (old.at_place k q b lt)
    | inr ge ↦
        let last : length places ≡ k = omega (arith, ge, below, length_push places p) in
        rw (get_or_at places p [] q k last, get_or_at arcs a [] b k (old.each ∙ last)) is
  ];
}

pub arcs_part : (nodes : List Addr) (links : List Link) (places : List ℕ) (arcs : List Arc) (i j : ℕ) → j ≤ length places → AreArcs nodes links places arcs →
    AreArcs nodes links (slice_range places i j) (slice_range arcs i j)
arcs_part nodes links places arcs i j inside are =
    let own : length (slice_range places i j) ≡ j - i = length-between places i j inside in
    let theirs : length (slice_range arcs i j) ≡ j - i = length-between arcs i j (omega (arith, inside, are.each)) in
    record {
      each = theirs ∙ sym own;
      at_place = λ k p a below.
          let here : i + k < j = omega (arith, below, own) in
          let at_p : get_or (slice_range places i j) k p ≡ get_or places (i + k) p = get_or-between places i j k p here in
          let at_a : get_or (slice_range arcs i j) k a ≡ get_or arcs (i + k) a = get_or-between arcs i j k a here in
          rw (at_p, at_a) (are.at_place (i + k) p a (omega (arith, here, inside)));
    }

-- each link into a node is a link
pub into_within : (nodes : List Addr) (links : List Link) (i : ℕ) (places : List ℕ) → IsLinksInto nodes links i places → All (λ p. p < length links) places
into_within nodes links i places into = All-weaker (LinkEndsAt nodes links i) (λ p. p < length links) (λ p e. slice_get_within links p e.link e.at_link) places into.ends
