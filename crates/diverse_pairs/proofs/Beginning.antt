-- What searches and paths ask for before they begin.
use Rattle.std.proofs.Common.{◌≡◌, ℕ, ◌<◌, Bool, List, [], ◌∷◌, length, arith, sym, subst}
use Rattle.std.specs.Prelude.{All}
use Rattle.std.specs.declared.option.Option.{Option}
use Rattle.std.proofs.lemmas.List.Elements.{All-nil, All-cons}
use Rattle.dom_base.specs.declared.query.Query.{Query}
use Rattle.te_links.specs.Rows.{Rows, IsTopology}
use Rattle.diverse_pairs.specs.declared.arcs.Arc.{Arc}
use Rattle.diverse_pairs.specs.Arcs.{IsAmong, AreAmong}
use Rattle.diverse_pairs.specs.Distances.{AreNear}
use Rattle.diverse_pairs.specs.Listed.{FitsWalk}
use Rattle.diverse_pairs.specs.Paths.{Goes}
use Rattle.diverse_pairs.specs.Solving.{IsSearched}
use Rattle.diverse_pairs.proofs.Beside.{near}
use Rattle.diverse_pairs.proofs.Linked.{arcs_among, arcs_light}
use Rattle.diverse_pairs.proofs.Lowering.{arc_within}

pub searched_among : (g : Rows) (q : Query) (to : ℕ) (arcs : List (Option Arc)) (ds : List ℕ) → IsTopology g → IsSearched g q to arcs ds → AreAmong (length ds) arcs
searched_among g q to arcs ds valid f i a is_arc = subst (λ n. IsAmong n a) (sym f.long) (arcs_among g q arcs valid f.are i a is_arc)

pub searched_near : (g : Rows) (q : Query) (to : ℕ) (arcs : List (Option Arc)) (ds : List ℕ) → IsTopology g → IsSearched g q to arcs ds → AreNear ds
searched_near g q to arcs ds valid f = near arcs to ds f.found (searched_among g q to arcs ds valid f) (arcs_light g q arcs valid f.are) (omega (arith, f.long, valid.few_nodes))

-- what a walk leaves can be worked out
pub walk_fits : (g : Rows) (q : Query) (to : ℕ) (arcs : List (Option Arc)) (ds : List ℕ) (us : List Bool) → IsTopology g → IsSearched g q to arcs ds → length us ≡ length arcs → FitsWalk arcs ds us
walk_fits g q to arcs ds us valid f long = record {
  long = long;
  among = searched_among g q to arcs ds valid f;
  low = f.found.low;
  light = arcs_light g q arcs valid f.are;
  near = searched_near g q to arcs ds valid f;
}

-- the places of a path stand among those of the arcs
among_goes : (arcs : List (Option Arc)) (us : List Bool) (t : ℕ) (is : List ℕ) (u : ℕ) → Goes arcs us u is t → All (λ i. i < length arcs) is
among_goes arcs us t [] u goes = All-nil (λ i. i < length arcs)
among_goes arcs us t (i ∷ is) u goes = All-cons (λ j. j < length arcs) i is (arc_within arcs i goes.2.arc goes.2.is_arc) (among_goes arcs us t is goes.1 goes.3)

pub path_within : (arcs : List (Option Arc)) (us : List Bool) (t : ℕ) (is : List ℕ) (u n : ℕ) → length arcs ≡ n → Goes arcs us u is t → All (λ i. i < n) is
path_within arcs us t is u n long goes = subst (λ m. All (λ i. i < m) is) long (among_goes arcs us t is u goes)
