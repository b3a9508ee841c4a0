-- Why a cut that at most one link leaves shows that there is no pair: both walks leave it.
use Rattle.std.proofs.Common.{◌≡◌, ◌≢◌, inl, inr, ℕ, ◌+◌, List, [], ◌∷◌, ◌++◌, length, Some, sym, ◌∙◌, ap, subst, arith, length-append}
use Rattle.std.specs.Prelude.{AllPairs, Contains, slice_get}
use Rattle.std.proofs.lemmas.Bool.{cases_lt}
use Rattle.std.proofs.lemmas.List.{get_or_default, get_or_append_left, get_or-append-add}
use Rattle.dom_base.specs.declared.addr.Addr.{Addr}
use Rattle.dom_base.specs.declared.link.Link.{Link}
use Rattle.dom_base.specs.declared.query.Query.{Query}
use Rattle.te_links.specs.Rows.{Rows}
use Rattle.te_links.proofs.Different.{stands}
use Rattle.walk_laws.specs.Walks.{AdmitsLink, Walk}
use Rattle.walk_laws.proofs.Admitted.{walk_admits}
use Rattle.walk_laws.proofs.Splitting.{walk_ends}
use Rattle.path_certificate.proofs.Making.{place_of}
use Rattle.diverse_pairs.specs.Pairs.{HasNoPair}
use Rattle.diverse_pairs.specs.Conditions.{Asked, HasEnds, EndsHold, Leaves, IsOnlyToLeave}
use Rattle.diverse_pairs.proofs.Sums.{head_of, behind_head}

-- a link of a walk that leaves the nodes
record Crosses (g : Rows) (q : Query) (nodes : List Addr) (ls : List Link) : Type 0 where
  link : Link
  among : Contains ls link
  admitted : AdmitsLink g q link
  inside : Contains nodes link.from
  outside : ¬ Contains nodes link.to

crossing : (g : Rows) (q : Query) (nodes : List Addr) (u v : Addr) (ls : List Link) → Walk g q u v ls → Contains nodes u → ¬ Contains nodes v → Crosses g q nodes ls
crossing g q nodes u v [] walk inside outside = absurd (outside (subst (Contains nodes) walk.0 inside))
crossing g q nodes u v (l ∷ ls) walk inside outside =
    elim (stands nodes l.to) [
      | inl has ↦
          let c = crossing g q nodes l.to v ls walk.2 has outside in
          record { link = c.link; among = behind_head l c.link ls c.among; admitted = c.admitted; inside = c.inside; outside = c.outside }
      | inr lacks ↦ record { link = l; among = head_of l ls; admitted = walk.1; inside = subst (Contains nodes) (sym walk.0) inside; outside = lacks }
    ]

-- links of two lists without a common one differ
apart : (one other : List Link) (l m : Link) → AllPairs (λ k n. k ≢ n) (one ++ other) → Contains one l → Contains other m → l ≢ m
apart one other l m differ (i, below, is) (j, within, at) same =
    differ i (length one + j) l (omega arith) (omega (arith, length-append one other))
    (get_or_append_left one other l i below ∙ is ∙ same ∙ sym at ∙ get_or_default other j m l within ∙ sym (get_or-append-add one other j l))

pub no_pair : (a : Asked) (nodes : List Addr) → EndsHold a nodes → (HasEnds a → (i : ℕ) → IsOnlyToLeave a.topology a.query nodes i) → HasNoPair a.topology a.query a.source a.target
no_pair a nodes ends only one other pair =
    let both : HasEnds a = (walk_admits a.topology a.query a.source a.target one pair.first_walk, walk_ends a.topology a.query a.source a.target one pair.first_walk) in
    elim ends [
      | inl none ↦ none both
      | inr parted ↦
          let c = crossing a.topology a.query nodes a.source a.target one pair.first_walk parted.0 parted.1 in
          let d = crossing a.topology a.query nodes a.source a.target other pair.second_walk parted.0 parted.1 in
          let i = place_of a.topology.links c.link c.admitted.is_link in
          let j = place_of a.topology.links d.link d.admitted.is_link in
          let at_i : Leaves a.topology a.query nodes i.0 = record { link = c.link; at_link = i.1; admitted = c.admitted; inside = c.inside; outside = c.outside } in
          let at_j : Leaves a.topology a.query nodes j.0 = record { link = d.link; at_link = j.1; admitted = d.admitted; inside = d.inside; outside = d.outside } in
          elim (cases_lt i.0 j.0) [
            | inl lt ↦ only both j.0 i.0 lt at_i at_j
            | inr ge ↦ elim (cases_lt j.0 i.0) [
              | inl gt ↦ only both i.0 j.0 gt at_j at_i
              | inr le ↦
                  let same : i.0 ≡ j.0 = omega arith in
                  let links : Some c.link ≡ Some d.link = sym i.1 ∙ ap (slice_get a.topology.links) same ∙ j.1 in
                  let one_link : c.link ≡ d.link = cc in
                  apart one other c.link d.link pair.diverse c.among d.among one_link
            ]
          ]
    ]
