-- Tasks that are planned one after the other.
use Rattle.std.proofs.Common.{◌≡◌, ◌∙◌, ◌+◌, ◌<◌, ℕ, zero, suc, List, [], ◌∷◌, ◌++◌, length, map, take, get_or, All, ap, refl, sym, subst, arith, append_assoc, append-nil, OnOk, Option, Some, Result, Ok, Err}
use Rattle.std.specs.Prelude.{slice_get}
use Rattle.std.proofs.lemmas.List.{flat_map_more, length-take-le, map-append, take_more}
use Rattle.std.specs.List.{flat_map}
use Rattle.dom_base.specs.declared.addr.Addr.{Addr}
use Rattle.dom_base.specs.declared.names.As.{As}
use Rattle.std.proofs.lemmas.List.Elements.{All-head, All-nil, All-push, All-tail, All-weaker}
use Rattle.std.proofs.lemmas.Option.{slice_get-map, slice_get_read}
use Rattle.std.specs.Option.{option_map}
use Rattle.dom_edge.specs.Causes.{next_count}
use Rattle.dom_edge.proofs.Counts.{counted_more}
use Rattle.plant_text.specs.declared.settings.NetworkParts.{NetworkParts}
use Rattle.plant_text.specs.declared.settings.PeerRow.{PeerRow}
use Rattle.plant_text.specs.declared.settings.Comes.{Comes}
use Rattle.network_serving.specs.Tasks.{IsNew, duty_of}
use Rattle.network_serving.specs.declared.duties.Duty.{Duty}
use Rattle.network_serving.specs.declared.duties.Duty.TheVariants.{Carry, Port, Work}
use Rattle.network_serving.specs.declared.tasks.Task.{Task}
use Rattle.network_serving.specs.Duties.{both_ways, child_ways, first_duties, port_duties, ways_of, work_duties}
use Rattle.network_serving.specs.Ends.{RoseBy}
use Rattle.turn_desk.specs.Desks.{Stand, split_from}
use Rattle.network_serving.specs.Bases.{Base, Desk, base_in}
use Rattle.network_serving.specs.Starting.{Adds, IsFresh, IsPlanned, peer_ports}

-- ---- duties

port_on : (j : ℕ) (a b : List PeerRow) → port_duties j (a ++ b) ≡ port_duties j a ++ port_duties (j + length a) b
port_on j [] b = let same : j ≡ j + 0 = omega arith in ap (λ (i : ℕ). port_duties i b) same
port_on j (row ∷ rows) b =
    let same : suc j + length rows ≡ j + suc (length rows) = omega arith in
    ap (λ (ds : List Duty). Port j row.port row.comes ∷ ds) (port_on (suc j) rows b ∙ ap (λ (i : ℕ). port_duties (suc j) rows ++ port_duties i b) same)

pub port_more : (rows : List PeerRow) (k : ℕ) (row : PeerRow) → k < length rows → row ≡ get_or rows k row → port_duties 0 (take (k + 1) rows) ≡ port_duties 0 (take k rows) ++ Port k row.port row.comes ∷ []
port_more rows k row below is =
    let long : 0 + length (take k rows) ≡ k = omega (arith, length-take-le k rows (omega (arith, below))) in
    ap (port_duties 0) (take_more rows k row below ∙ ap (λ (r : PeerRow). take k rows ++ r ∷ []) (sym is))
    ∙ port_on 0 (take k rows) (row ∷ [])
    ∙ ap (λ (i : ℕ). port_duties 0 (take k rows) ++ port_duties i (row ∷ [])) long

work_on : (j n : ℕ) → work_duties j (suc n) ≡ work_duties j n ++ Work (j + n) ∷ []
work_on j zero = let same : j ≡ j + 0 = omega arith in ap (λ (i : ℕ). Work i ∷ []) same
work_on j (suc n) = let same : suc j + n ≡ j + suc n = omega arith in ap (λ (ds : List Duty). Work j ∷ ds) (work_on (suc j) n ∙ ap (λ (i : ℕ). work_duties (suc j) n ++ Work i ∷ []) same)

pub work_more : (n : ℕ) → work_duties 0 (n + 1) ≡ work_duties 0 n ++ Work n ∷ []
work_more n =
    let same : n + 1 ≡ suc n = omega arith in
    let none : 0 + n ≡ n = omega arith in
    ap (work_duties 0) same ∙ work_on 0 n ∙ ap (λ (i : ℕ). work_duties 0 n ++ Work i ∷ []) none

pub port_at : (rows : List PeerRow) (k : ℕ) (row : PeerRow) → k < length rows → row ≡ get_or rows k row → slice_get (peer_ports rows) k ≡ Some row.port
port_at rows k row below is = slice_get-map (λ (r : PeerRow). r.port) rows k ∙ ap (option_map (λ (r : PeerRow). r.port)) (slice_get_read rows (length rows) k row refl below is)

-- ---- ways

pub links_more : (start : List (As × As)) (links : List (As × As)) (i : ℕ) (d : As × As) (old new : List (As × As)) → i < length links → old ≡ start ++ flat_map both_ways (take i links) →
    new ≡ old ++ both_ways (get_or links i d) → new ≡ start ++ flat_map both_ways (take (i + 1) links)
links_more start links i d old new below first second =
    second
    ∙ ap (λ (ways : List (As × As)). ways ++ both_ways (get_or links i d)) first
    ∙ flat_map_more both_ways start (take i links) (get_or links i d)
    ∙ ap (λ (ls : List (As × As)). start ++ flat_map both_ways ls) (sym (take_more links i d below))

pub children_more : (start : List (As × As)) (children : List As) (i : ℕ) (d : As) (old new : List (As × As)) → i < length children → old ≡ start ++ flat_map child_ways (take i children) →
    new ≡ old ++ child_ways (get_or children i d) → new ≡ start ++ flat_map child_ways (take (i + 1) children)
children_more start children i d old new below first second =
    second
    ∙ ap (λ (ways : List (As × As)). ways ++ child_ways (get_or children i d)) first
    ∙ flat_map_more child_ways start (take i children) (get_or children i d)
    ∙ ap (λ (cs : List As). start ++ flat_map child_ways cs) (sym (take_more children i d below))

-- ---- tasks

module _ {K F I O R : Type 0} (opened_at : K → ℕ) (heeds dialled_to : K → Option Addr) (stand : Stand) where
  abbrev Added : List (Task K F I O R) → List (Task K F I O R) → List Duty → Type 0
  Added = Adds opened_at heeds dialled_to stand

  abbrev New : Task K F I O R → Type 0
  New = IsPlanned heeds dialled_to stand

  pub none_added : (tasks : List (Task K F I O R)) → Added tasks tasks []
  none_added tasks = record { duties_are = sym (append-nil (map (duty_of opened_at) tasks)); are_planned = λ all. all }

  pub one_added : (tasks : List (Task K F I O R)) (task : Task K F I O R) (new : List (Task K F I O R)) → New task → new ≡ tasks ++ task ∷ [] → Added tasks new (duty_of opened_at task ∷ [])
  one_added tasks task new is_new is = record {
    duties_are = ap (map (duty_of opened_at)) is ∙ map-append (duty_of opened_at) tasks (task ∷ []);
    are_planned = λ all. subst (All New) (sym is) (All-push New tasks task all is_new);
  }

  pub added_on : (old mid new : List (Task K F I O R)) (a b : List Duty) → Added old mid a → Added mid new b → Added old new (a ++ b)
  added_on old mid new a b first second = record {
    duties_are = second.duties_are ∙ ap (λ (ds : List Duty). ds ++ b) first.duties_are ∙ append_assoc (map (duty_of opened_at) old) a b;
    are_planned = λ all. second.are_planned (first.are_planned all);
  }

  -- a task of the port of one more peer, or of one more worker
  pub port_added : (rows : List PeerRow) (k : ℕ) (row : PeerRow) (port : ℕ) (comes : Comes) (old mid new : List (Task K F I O R)) → k < length rows → row ≡ get_or rows k row → port ≡ row.port → comes ≡ row.comes →
      Added old mid (port_duties 0 (take k rows)) → Added mid new (Port k port comes ∷ []) → Added old new (port_duties 0 (take (k + 1) rows))
  port_added rows k row port comes old mid new below is same who first second =
      subst (Added old new) (sym (port_more rows k row below is))
      (added_on old mid new (port_duties 0 (take k rows)) (Port k row.port row.comes ∷ []) first
      (subst (λ (p : ℕ). Added mid new (Port k p row.comes ∷ [])) same (subst (λ (c : Comes). Added mid new (Port k port c ∷ [])) who second)))

  pub work_added : (n : ℕ) (old mid new : List (Task K F I O R)) → Added old mid (work_duties 0 n) → Added mid new (Work n ∷ []) → Added old new (work_duties 0 (n + 1))
  work_added n old mid new first second = subst (Added old new) (sym (work_more n)) (added_on old mid new (work_duties 0 n) (Work n ∷ []) first second)

  -- all of them
  pub all_planned : (n parts : NetworkParts) (peers : List PeerRow) (start ports carrier all : List (Task K F I O R)) → parts ≡ n → peers ≡ parts.peers → start ≡ [] → Added start ports (port_duties 0 peers) →
      Added ports carrier (Carry (ways_of parts) ∷ []) → Added carrier all (work_duties 0 parts.workers) → (map (duty_of opened_at) all ≡ first_duties n) × All New all
  all_planned n parts peers start ports carrier all same rows none first second third =
      let adds : Added start all (port_duties 0 peers ++ (Carry (ways_of parts) ∷ work_duties 0 parts.workers)) =
      added_on start ports all (port_duties 0 peers) (Carry (ways_of parts) ∷ work_duties 0 parts.workers) first (added_on ports carrier all (Carry (ways_of parts) ∷ []) (work_duties 0 parts.workers) second third) in (
        adds.duties_are
            ∙ ap (λ (ts : List (Task K F I O R)). map (duty_of opened_at) ts ++ (port_duties 0 peers ++ (Carry (ways_of parts) ∷ work_duties 0 parts.workers))) none
            ∙ ap (λ (rs : List PeerRow). port_duties 0 rs ++ (Carry (ways_of parts) ∷ work_duties 0 parts.workers)) rows
            ∙ ap first_duties same,
        adds.are_planned (subst (All New) (sym none) (All-nil New)),
      )

-- of a result that is Ok only where the other is
pub ok_so : {T E : Type 0} {P Q : Type 0} (r : Result T E) → (P → Q) → OnOk r P → OnOk r Q
ok_so (Ok x) so is = so is
ok_so (Err e) so is = tt

-- a desk that was split off stands as that from which all are split
pub beside : (new mid s : Stand) → new ≡ split_from mid → mid ≡ s → IsFresh s → Desk new ≡ Desk s
beside new mid s split same fresh = ap Desk (split ∙ ap split_from same ∙ fresh)

module _ {K F I O R : Type 0} (opened_at : K → ℕ) (heeds dialled_to : K → Option Addr) (stand : Stand) where
  -- they may begin
  pub planned_new : (tasks : List (Task K F I O R)) → All (IsPlanned heeds dialled_to stand) tasks → All (IsNew heeds dialled_to) tasks
  planned_new tasks all = All-weaker (IsPlanned heeds dialled_to stand) (IsNew heeds dialled_to) (λ task is. is.0) tasks all

  -- what stands behind them
  pub planned_bases : (tasks : List (Task K F I O R)) → All (IsPlanned heeds dialled_to stand) tasks → map base_in tasks ≡ map (λ (d : Duty). Desk stand) (map (duty_of opened_at) tasks)
  planned_bases [] all = refl
  planned_bases (task ∷ tasks) all =
      ap (λ (b : Base). b ∷ map base_in tasks) (All-head (IsPlanned heeds dialled_to stand) task tasks all).1
      ∙ ap (λ (bs : List Base). Desk stand ∷ bs) (planned_bases tasks (All-tail (IsPlanned heeds dialled_to stand) task tasks all))

-- ---- tasks that are taken one after the other

module _ {A : Type 0} where
  all_behind : (P : A → Type 0) (xs ys : List A) → All P (xs ++ ys) → All P ys
  all_behind P [] ys all = all
  all_behind P (x ∷ xs) ys all = all_behind P xs ys (All-tail P x (xs ++ ys) all)

  pub taken : (yielded rest later whole : List A) (x : A) → yielded ++ rest ≡ whole → rest ≡ x ∷ later → (yielded ++ x ∷ []) ++ later ≡ whole
  taken yielded rest later whole x all next = append_assoc yielded (x ∷ []) later ∙ ap (λ (xs : List A). yielded ++ xs) (sym next) ∙ all

  pub taken_such : (P : A → Type 0) (yielded rest later whole : List A) (x : A) → All P whole → yielded ++ rest ≡ whole → rest ≡ x ∷ later → P x
  taken_such P yielded rest later whole x such all next =
      let same : whole ≡ yielded ++ x ∷ later = sym all ∙ ap (λ (xs : List A). yielded ++ xs) next in
      All-head P x later (all_behind P yielded (x ∷ later) (subst (All P) same such))

pub all_taken : {A : Type 0} (yielded rest whole : List A) → yielded ++ rest ≡ whole → length rest ≡ 0 → yielded ≡ whole
all_taken yielded [] whole all none = sym (append-nil yielded) ∙ all
all_taken yielded (x ∷ rest) whole all none = absurd (let no : ⊥ = omega (arith, none) in no)

pub new_taken : {K F I O R : Type 0} (heeds dialled_to : K → Option Addr) (yielded rest later whole : List (Task K F I O R)) (x : Task K F I O R) → All (IsNew heeds dialled_to) whole → yielded ++ rest ≡ whole → rest ≡ x ∷ later → IsNew heeds dialled_to x
new_taken heeds dialled_to yielded rest later whole x such all next = taken_such (IsNew heeds dialled_to) yielded rest later whole x such all next

-- ---- counts

pub rose_more : (k a b c : ℕ) → RoseBy k (a, b) → c ≡ next_count b → RoseBy (k + 1) (a, c)
rose_more k a b c first second = second ∙ ap next_count first ∙ sym (counted_more k a)
