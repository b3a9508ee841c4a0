-- A search that stops while all that waits costs more than a lower cap has the labels under it.
use Rattle.std.proofs.Common.{◌≡◌, inl, inr, ℕ, ◌<◌, ◌≤◌, List, Bool, true, false, map, length, arith, refl, sym, ◌∙◌, ap, subst, None, Some}
use Rattle.std.specs.Prelude.{Contains, nat_lt, slice_get, slice_index_or}
use Rattle.std.specs.declared.option.Option.{Option}
use Rattle.std.proofs.lemmas.Bool.{cases_lt, lt-ltb, ltb-true}
use Rattle.std.proofs.lemmas.List.{length-map}
use Rattle.dom_base.specs.declared.query.Query.{Query}
use Rattle.dom_base.specs.declared.query.Seed.{Seed}
use Rattle.dom_base.specs.declared.query.Label.{Label}
use Rattle.dom_base.specs.declared.link.Link.{Link}
use Rattle.te_links.specs.Rows.{Rows, IsTopology}
use Rattle.te_links.specs.Index.{LinkEndsAt}
use Rattle.walk_laws.specs.Walks.{AdmitsLink}
use Rattle.walk_laws.specs.Labels.{◌≼◌}
use Rattle.walk_laws.specs.Certificate.{AtMost}
use Rattle.walk_laws.proofs.Lower.{le_cost}
use Rattle.path_search.specs.declared.arc.Arc.{Arc}
use Rattle.path_search.specs.Arcs.{label_at, joined, IsRelaxed, IsSupportedBy, Settles}
use Rattle.path_search.specs.Front.{cost_of, cost_at, is_done}
use Rattle.path_search.specs.Reading.{IsResting}
use Rattle.path_search.specs.Starts.{AreStarts}
use Rattle.path_search.specs.Search.{IsArcOf, AreLabels}
use Rattle.path_search.proofs.Certified.{HasSettled, searched}
use Rattle.walk_laws.specs.Capped.{capped, cut_if, cut}
use Rattle.path_search.specs.Early.{StoppedEarly}
use Rattle.walk_laws.proofs.Capping.{node, link}
use Rattle.path_search.proofs.Cutting.{cut_at}

keeps : (c : ℕ) (b : Label) → b.cost ≤ c → cut c (Some b) ≡ Some b
keeps c b within = go (nat_lt c b.cost) refl
  where
    go : (t : Bool) → nat_lt c b.cost ≡ t → cut_if t b ≡ Some b
    go true more = absurd (let past = ltb-true c b.cost more in omega (arith, past, within))
    go false same = refl

-- no label
abbrev no_label : Option Label
no_label = None

from : (c : ℕ) (o : Option Label) (b : Label) → cut c o ≡ Some b → (o ≡ Some b) × (b.cost ≤ c)
from c None b is = absurd (let bad : no_label ≡ Some b = is in cc)
from c (Some a) b is = go (nat_lt c a.cost) refl is
  where
    go : (t : Bool) → nat_lt c a.cost ≡ t → cut_if t a ≡ Some b → (Some a ≡ Some b) × (b.cost ≤ c)
    go true more bad = absurd (let no : no_label ≡ Some b = bad in cc)
    go false few same = elim (cases_lt c a.cost) [
      | inl more ↦ absurd (let bad : true ≡ false = sym (lt-ltb c a.cost more) ∙ few in cc)
      | inr within ↦ (same, (let one : a ≡ b = cc in omega (arith, within, ap (λ (x : Label). x.cost) one)))
    ]

pub into : (c : ℕ) (ls : List (Option Label)) (i : ℕ) (b : Label) → label_at ls i ≡ Some b → b.cost ≤ c → label_at (map (cut c) ls) i ≡ Some b
into c ls i b is within = cut_at c ls i ∙ ap (cut c) is ∙ keeps c b within

out : (c : ℕ) (ls : List (Option Label)) (i : ℕ) (b : Label) → label_at (map (cut c) ls) i ≡ Some b → (label_at ls i ≡ Some b) × (b.cost ≤ c)
out c ls i b is = from c (label_at ls i) b (sym (cut_at c ls i) ∙ is)

most : (c : ℕ) (o : Option Label) (b : Label) → b.cost ≤ c → AtMost o b → AtMost (cut c o) b
most c None b within h = absurd h
most c (Some a) b within h = subst (λ (o : Option Label). AtMost o b) (sym (keeps c a (omega (arith, le_cost a b h, within)))) h

most_at : (c : ℕ) (ls : List (Option Label)) (i : ℕ) (b : Label) → b.cost ≤ c → AtMost (label_at ls i) b → AtMost (label_at (map (cut c) ls) i) b
most_at c ls i b within h = subst (λ (o : Option Label). AtMost o b) (sym (cut_at c ls i)) (most c (label_at ls i) b within h)

arc : (c d : ℕ) (g : Rows) (q : Query) (p : ℕ) (a : Arc) → IsArcOf g (capped c q) p a → IsArcOf g (capped d q) p a
arc c d g q p a h = record { same_index = h.same_index; link = h.link; at_link = h.at_link; admitted = link c d g q h.link h.admitted; tail = h.tail; head = h.head; weight = h.weight }

starts : (c : ℕ) (g : Rows) (q : Query) (seeds : List Seed) (start : List (Option Label)) → c ≤ q.cap → AreStarts g q seeds start → AreStarts g (capped c q) seeds (map (cut c) start)
starts c g q seeds start lower are = record {
  same_length = length-map start (cut c) ∙ are.same_length;
  covered = λ k d below. λ admits within i at_i.
      let s = slice_index_or seeds k d in
      most_at c start i (record { cost = s.cost; exit = s.exit }) within (are.covered k d below (node c q.cap g q s.node admits) (omega (arith, within, lower)) i at_i);
  made = λ i b is.
      let o = out c start i b is in
      let st = are.made i b o.0 in
      record { node = st.node; at_node = st.at_node; admitted = node q.cap c g q st.node st.admitted; ends = st.ends; within = o.1 };
}

pub stopped : StoppedEarly
stopped g q seeds start labels waiting done reads c valid are lower rest later =
    let f = rest.front in
    let arcs = rest.arcs in
    let settles : Settles c arcs (map (cut c) start) (map (cut c) labels) = record {
      same_length = length-map labels (cut c) ∙ f.same_length ∙ sym (length-map start (cut c));
      no_higher = λ i b is. let o = out c start i b is in most_at c labels i b o.1 (f.no_higher i b o.0);
      relaxed = λ k d below. λ r at_head within.
          let a = slice_index_or arcs k d in
          let o = out c labels a.head r at_head in
          most_at c labels a.tail (joined a r) within (f.relaxed k d below r o.0 (omega (arith, within, lower)));
      supported = λ i b is.
          let o = out c labels i b is in
          let s = f.supported i b o.0 in
          record {
            within = o.1;
            made = elim s.made [
              | inl first ↦ inl (into c start i b first o.1)
              | inr by ↦
                  let a = by.0 in
                  let h = by.2 in
                  inr (
                    a,
                    by.1,
                    record { tail = h.tail; rest = h.rest; at_head = into c labels a.head h.rest h.at_head (omega (arith, le_cost (joined a h.rest) b h.no_more, o.1)); no_more = h.no_more },
                  )
            ];
          };
    } in
    let settled : HasSettled g (capped c q) seeds arcs (map (cut c) start) (map (cut c) labels) = record {
      valid = valid;
      each = λ k d below. let a = slice_index_or arcs k d in arc q.cap c g q a.link a (rest.reading.each k d below);
      every = λ p l i b at_l admitted at_to is.
          let o = out c labels i b is in
          let here : is_done done i ≡ true = closed i b o.0 o.1 (is_done done i) refl in
          let ends : LinkEndsAt g.nodes g.links i p = record { link = l; at_link = at_l; at_node = at_to } in
          let e = rest.reading.every p l (rest.whole i p here ends) at_l (link c q.cap g q l admitted) in
          (e.0, (e.1.0, arc q.cap c g q p e.0 e.1.1));
      starts_are = starts c g q seeds start lower are;
      settled = settles;
    } in
    searched g (capped c q) seeds arcs (map (cut c) start) (map (cut c) labels) settled
  where
    closed : (i : ℕ) (b : Label) → label_at labels i ≡ Some b → b.cost ≤ c → (t : Bool) → is_done done i ≡ t → is_done done i ≡ true
    closed i b is within true at = at
    closed i b is within false at =
        let waits : cost_at waiting i ≡ Some b.cost = rest.front.waits i at ∙ ap cost_of is in
        absurd (omega (arith, later i b.cost waits, within))
