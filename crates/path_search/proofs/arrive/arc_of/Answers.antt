use Rattle.std.proofs.Common.{◌≡◌, ◌<◌, ℕ, List, length, get_or, true, false, refl, sym, subst, Some}
use Rattle.std.specs.Prelude.{slice_get}
use Rattle.std.proofs.lemmas.Option.{slice_get-get_or}
use Rattle.dom_base.specs.Admission.{Allows}
use Rattle.dom_base.specs.declared.link.Link.{Link}
use Rattle.dom_base.specs.declared.query.Query.{Query}
use Rattle.te_links.specs.Rows.{Rows}
use Rattle.te_links.specs.Arrivals.{Arrived, AreArrivals}
use Rattle.path_search.proofs.Certified.{among_at}
use Rattle.path_search.proofs.Deciding.{idle_none, idle_relaxed, not_allowed, end_barred, admitted_arc}
use Rattle.path_search.proofs.arrive.arc_of.Goals as goal
use Rattle.path_search.proofs.arrive.arc_of.Goals.{then-not-allows_link-via-then-not-allows_link, then-not-allows_link-via-else-not-allows_link+then-bars_ends}

-- the row of a link is that at its place
row_at : (g : Rows) (head k : ℕ) (a : Arrived) (l : Link) → AreArrivals g head a → k < length a.places → ((p : ℕ) → slice_get a.places k ≡ Some p → slice_get a.links p ≡ Some l) →
    slice_get g.links (get_or a.places k 0) ≡ Some l
row_at g head k a l are inside told = subst (λ (ls : List Link). slice_get ls (get_or a.places k 0) ≡ Some l) are.links (told (get_or a.places k 0) (slice_get-get_or a.places k 0 inside))

pub lowers-requires : goal.lowers-requires
lowers-requires g c =
    let rows = g.G.Links.rows c.args.links.now in
    among_at rows c.args.query.now.metric (length c.args.labels.now) (get_or c.args.arrivals.now.places c.args.k 0) c.arc_at-arc.result c.requires.rules (sym c.requires.labels) c.arc_at-arc.ensures

pub returns-then-not-lowers : goal.returns-then-not-lowers
returns-then-not-lowers g c =
    let rows = g.G.Links.rows c.args.links.now in
    idle_relaxed rows c.args.query.now c.args.labels.now (get_or c.args.arrivals.now.places c.args.k 0) c.arc_at-arc.result c.requires.rules c.arc_at-arc.ensures c.if-not-lowers.ensures

pub allows_link-requires : goal.allows_link-requires
allows_link-requires g c = λ free l. subst (λ (r : Query). Allows r l) (sym c.requires.asked.prepared) (c.requires.asked.free free l)

pub returns-then-not-allows_link : goal.returns-then-not-allows_link
returns-then-not-allows_link g c =
    let rows = g.G.Links.rows c.args.links.now in
    let q = c.args.query.now in
    let a = c.args.arrivals.now in
    let p = get_or a.places c.args.k 0 in
    let l = c.row.result.now in
    elim c.then-not-allows_link.branch [
      | then-not-allows_link-via-then-not-allows_link w ↦
          idle_none rows q c.args.labels.now p
          (not_allowed rows q p l (row_at rows c.args.head c.args.k a l c.requires.arrivals c.requires.inside c.row.ensures)
          (λ allowed. let bad : false ≡ true = w.if-not-allows_link.ensures.1 (subst (λ (r : Query). Allows r l) (sym c.requires.asked.prepared) allowed) in cc))
      | then-not-allows_link-via-else-not-allows_link+then-bars_ends w ↦
          idle_none rows q c.args.labels.now p
          (end_barred rows q c.args.asked.now.barred.items p c.arc_at-arc.result c.requires.asked.barred c.arc_at-arc.ensures (w.if-bars_ends.ensures.0 refl))
    ]

pub returns : goal.returns
returns g c =
    let rows = g.G.Links.rows c.args.links.now in
    let a = c.args.arrivals.now in
    let l = c.row.result.now in
    admitted_arc rows c.args.query.now c.args.asked.now.barred.items (get_or a.places c.args.k 0) c.arc_at-arc.result l c.requires.asked.barred c.arc_at-arc.ensures
    (row_at rows c.args.head c.args.k a l c.requires.arrivals c.requires.inside c.row.ensures) (subst (λ (r : Query). Allows r l) c.requires.asked.prepared (c.if-not-allows_link.ensures.0 refl))
    (λ bars. let bad : false ≡ true = c.if-bars_ends.ensures.1 bars in cc)
