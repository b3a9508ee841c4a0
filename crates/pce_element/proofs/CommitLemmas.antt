-- A solved job that is answered: its branches, its keys, its one message.
use Rattle.std.proofs.Common.{◌≡◌, ◌∙◌, ◌≤◌, ◌+◌, ◌==◌, ℕ, suc, Bool, true, false, cond, nat_lt, nat_eq, Option, Some, None, List, [], ◌∷◌, ◌++◌, length, map, arith, refl, sym, ap, subst, option_map}
use Rattle.std.specs.Prelude.{All, Contains, IfSome}
use Rattle.std.specs.Map.{lookup}
use Rattle.std.proofs.lemmas.Bool.{le-ltb}
use Rattle.std.proofs.lemmas.List.Elements.{All-nil, All-cons}
use Rattle.pce_common.specs.plant_model.Types.{Addr, Metric, Hop, Message, Path, Held, Best, Branch, Ask, Down}
use Rattle.pcep_messages.specs.declared.message.Answer.TheVariants.{Paths}
use Rattle.path_keys.specs.Keys.{Keys, live_at, live_most, number_after}
use Rattle.vspt_tree.specs.Branches.{AreBranchesOf, HasBranchAt, IsBranchOf}
use Rattle.border_costs.specs.Solutions.{AreRows, Solution}
use Rattle.border_costs.proofs.Heads.{heads_have_branches}
use Rattle.pce_common.proofs.plant_model.Meeting.{branch_meets}
use Rattle.pce_common.specs.plant_model.Branches.{downs, onward, closed_branch, path_of}
use Rattle.pce_common.specs.plant_model.Element.{Element, Item, Row, Stage, Taken, Waits, Ready, ended, is_client}
use Rattle.pce_common.specs.plant_model.declared.output.Output.{Output}
use Rattle.pce_common.specs.plant_model.Plant.{Pin, Segment}
use Rattle.pce_common.specs.plant_model.RealWire.{wire}
use Rattle.pce_common.specs.plant_model.Solving.{client_reply, closed_paths, closed_reply, free, issued_all}
use Rattle.pce_common.specs.plant_model.Taking.{answered}
use Rattle.pce_common.specs.plant_model.Writing.{busy, reply_message}
use Rattle.pce_element.specs.Changes.{all_issued}
use Rattle.pce_element.specs.Answering.{Answers, AnswersClosed, client_answer, closed_parts, commit_row, paths_by}
use Rattle.pce_element.specs.Committing.{AnswersFor, IsOwnJob, commit_held, commit_solved, commit_stage, own_part}
use Rattle.pce_element.specs.Jobs.{Work, job_at, work_at, work_for}
use Rattle.pce_element.specs.Items.{branches_at}
use Rattle.pce_element.specs.Seen.{Seen}
use Rattle.pce_element.specs.declared.answering.Answered.{Answered}
use Rattle.pce_common.proofs.HeldRows.{first_in, later_in}

-- ---- each node beyond has a branch

branch_in : (whole : List Branch) (b : Branch) → Contains whole b → HasBranchAt whole b.entry
branch_in whole b has = (has.0, b, has.1, has.2, refl)

each_has : (whole bs : List Branch) → ((b : Branch) → Contains bs b → Contains whole b) → All (λ (d : Down). HasBranchAt whole d.node) (downs bs)
each_has whole [] there = All-nil (λ (d : Down). HasBranchAt whole d.node)
each_has whole (b ∷ bs) there =
    All-cons (λ (d : Down). HasBranchAt whole d.node) (record { node = b.entry; cost = b.cost }) (downs bs) (branch_in whole b (there b (first_in b bs))) (each_has whole bs (λ x has. there x (later_in b bs x has)))

pub own_heads : (s : Seen Pin Segment) (x : Solution) (held : Held (Item Pin)) (down : List Branch) → lookup (nat_eq x.ask.number) s.losing.element.pending.rows ≡ Some held → held.item.stage ≡ Ready down → IsOwnJob s x → AreRows x.topology x.ask x.rows →
    All (λ row. IfSome row.head (HasBranchAt down)) x.rows.best
own_heads s x held down found ready own are =
    let job : job_at s x.ask.number ≡ work_at s.place.own x.ask.number held.item (Ready down) =
    ap (λ (o : Option (Held (Item Pin))). work_for s.place.own x.ask.number (option_map (λ (h : Held (Item Pin)). h.item) o)) found ∙ ap (work_at s.place.own x.ask.number held.item) ready in
    let same = subst (λ (o : Option Work). IfSome o (λ (w : Work). (x.ask ≡ w.ask) × (x.topology ≡ w.topology))) job own in
    let told : x.ask.down ≡ downs down = ap (λ (a : Ask). a.down) same.0 in
    heads_have_branches x.topology x.ask x.rows down are (subst (All (λ (d : Down). HasBranchAt down d.node)) (sym told) (each_has down down (λ b has. has)))

-- ---- paths

pub joined_paths : (m : Metric) (down : List Branch) (best : List Best) (own : List (List Hop)) (branches : List Branch) → AreBranchesOf down best own branches → map (λ (b : Branch). path_of wire m b.cost b.hops) branches ≡ paths_by m down best own
joined_paths m down [] own [] are = refl
joined_paths m down [] own (x ∷ branches) are = absurd are
joined_paths m down (b ∷ best) [] [] are = refl
joined_paths m down (b ∷ best) [] (x ∷ branches) are = absurd are
joined_paths m down (b ∷ best) (part ∷ own) [] are = absurd are
joined_paths m down (b ∷ best) (part ∷ own) (x ∷ branches) are =
    let is : IsBranchOf down b part x = are.0 in
    let here : path_of wire m x.cost x.hops ≡ path_of wire m b.cost (part ++ onward b.exit b.head down) = ap (λ (c : ℕ). path_of wire m c x.hops) is.cost ∙ ap (path_of wire m b.cost) (branch_meets down b part x is) in
    ap (λ (p : Path). p ∷ map (λ (y : Branch). path_of wire m y.cost y.hops) branches) here ∙ ap (λ (ps : List Path). path_of wire m b.cost (part ++ onward b.exit b.head down) ∷ ps) (joined_paths m down best own branches are.1)

pub closed_are : (pce : Addr) (m : Metric) (target : Addr) (down : List Branch) (key : ℕ) (best : List Best) → paths_by m down best (closed_parts pce target key best) ≡ closed_paths wire pce m target down key best
closed_are pce m target down key [] = refl
closed_are pce m target down key (b ∷ best) = ap (λ (ps : List Path). path_of wire m b.cost (closed_branch key pce target b down) ∷ ps) (closed_are pce m target down (number_after key) best)

pub length-parts : (pce target : Addr) (key : ℕ) (best : List Best) → length best ≡ length (closed_parts pce target key best)
length-parts pce target key [] = refl
length-parts pce target key (b ∷ best) = ap suc (length-parts pce target (number_after key) best)

pub client_is : {P : Type 0} → (h : Row P) (down : List Branch) (source_known target_known : Bool) (best : List Best) →
    reply_message h.1.item.flags h.1.key.id (client_answer h.1.item.wanted.query.metric down source_known target_known best) ≡ client_reply wire h down source_known target_known best
client_is h down source_known target_known [] = refl
client_is h down source_known target_known (b ∷ best) = refl

-- ---- keys

pub issued_are : {S : Type 0} → (now : ℕ) (stands : Best → S) (best : List Best) (keys : Keys S) → all_issued now (map stands best) keys ≡ issued_all now stands best keys
issued_are now stands [] keys = refl
issued_are now stands (b ∷ best) keys = issued_are now stands best _

-- ---- one message

one_either : {P : Type 0} {S : Type 0} → (b : Bool) (t u : Taken P S) → length t.outputs ≡ 1 → length u.outputs ≡ 1 → length (let v : Taken P S = cond b t u in v).outputs ≡ 1
one_either true t u first second = first
one_either false t u first second = second

closed_one : {P : Type 0} {S : Type 0} → (stands : Best → S) (s : Seen P S) (now : ℕ) (h : Row P) (down : List Branch) (best : List Best) → length (closed_reply wire s.place h down now stands s.losing.element best).outputs ≡ 1
closed_one stands s now h down [] = refl
closed_one stands s now h down (b ∷ bs) =
    let k = s.losing.element in
    one_either (nat_lt (free now k.keys) (length (b ∷ bs))) (answered h (busy h.1.item.flags h.1.key.id) k)
    (answered h
    (reply_message h.1.item.flags h.1.key.id (Paths (closed_paths wire s.place.id h.1.item.wanted.query.metric h.1.item.wanted.target down k.keys.next (b ∷ bs))))
    (record k { keys = issued_all now stands (b ∷ bs) k.keys })) refl refl

pub commit_one : {P : Type 0} {S : Type 0} → (stands : Best → S) (s : Seen P S) (source_known target_known : Bool) (best : List Best) (now : ℕ) (h : Row P) (down : List Branch) →
    length (commit_row stands s source_known target_known best now h down).outputs ≡ 1
commit_one stands s source_known target_known best now h down =
    one_either (is_client h.1.item.class) (answered h (client_reply wire h down source_known target_known best) s.losing.element)
    (closed_reply wire s.place h down now stands s.losing.element best) refl (closed_one stands s now h down best)

-- ---- to closed peers

pub closed_answers : {P : Type 0} {S : Type 0} → (stands : Best → S) (s : Seen P S) (now : ℕ) (h : Row P) (down : List Branch) (best : List Best) (a : Answered S) (left : ℕ) (m : Message) (paths : List Path) →
    (length best == 0) ≡ false → length best ≤ left → left + length (live_at s.losing.element.keys now) ≡ live_most →
    paths ≡ closed_paths wire s.place.id h.1.item.wanted.query.metric h.1.item.wanted.target down s.losing.element.keys.next best → m ≡ reply_message h.1.item.flags h.1.key.id (Paths paths) →
    a.outputs ≡ (let o : Output = record { to = h.1.key.peer; message = m } in o) ∷ [] → a.segments ≡ map stands best → AnswersClosed stands s best now h down a
closed_answers stands s now h down [] a left m paths some enough count are says outputs segments = absurd (let no' : true ≡ false = some in cc)
closed_answers {P} {S} stands s now h down (b ∷ bs) a left m paths some enough count are says outputs segments =
    let k = s.losing.element in
    let few : length (b ∷ bs) ≤ free now k.keys = omega (arith, enough, count) in
    let reply : Message = reply_message h.1.item.flags h.1.key.id (Paths (closed_paths wire s.place.id h.1.item.wanted.query.metric h.1.item.wanted.target down k.keys.next (b ∷ bs))) in
    let next : Element P S = record k { keys = issued_all now stands (b ∷ bs) k.keys } in
    let busy_one : Taken P S = answered h (busy h.1.item.flags h.1.key.id) k in
    let is : closed_reply wire s.place h down now stands k (b ∷ bs) ≡ answered h reply next =
    ap (λ (t : Bool). let u : Taken P S = cond t busy_one (answered h reply next) in u) (le-ltb (free now k.keys) (length (b ∷ bs)) few) in
    let said : m ≡ reply = says ∙ ap (λ (ps : List Path). reply_message h.1.item.flags h.1.key.id (Paths ps)) are in
    record {
      outputs = outputs ∙ ap (λ (y : Message). (let o : Output = record { to = h.1.key.peer; message = y } in o) ∷ []) said ∙ ap (λ (t : Taken P S). t.outputs) (sym is);
      element = ap (λ (ss : List S). let e : Element P S = ended h.0 (record k { keys = all_issued now ss k.keys }) in e) segments
          ∙ ap (λ (ks : Keys S). let e : Element P S = ended h.0 (record k { keys = ks }) in e) (issued_are now stands (b ∷ bs) k.keys) ∙ ap (λ (t : Taken P S). t.element) (sym is);
    }

-- ---- by the request that was found

pub ready_stage : (st : Stage) (b : List Branch) → Some b ≡ branches_at st → st ≡ Ready b
ready_stage (Waits on id) b is = absurd (let none : Some b ≡ None = is in cc)
ready_stage (Ready d) b is = let same : Some b ≡ Some d = is in ap Ready (let e : d ≡ b = cc in e)

pub job_there : (s : Seen Pin Segment) (n : ℕ) (held : Held (Item Pin)) (down : List Branch) → lookup (nat_eq n) s.losing.element.pending.rows ≡ Some held → held.item.stage ≡ Ready down → job_at s n ≡ None → ⊥
job_there s n held down found ready none =
    let job : job_at s n ≡ work_at s.place.own n held.item (Ready down) =
    ap (λ (o : Option (Held (Item Pin))). work_for s.place.own n (option_map (λ (h : Held (Item Pin)). h.item) o)) found ∙ ap (work_at s.place.own n held.item) ready in
    some_none _ (sym job ∙ none)
  where
    some_none : (w : Work) → Some w ≡ None → ⊥
    some_none w is = cc

pub answers_for : (s : Seen Pin Segment) (x : Solution) (now r : ℕ) (held : Held (Item Pin)) (down told : List Branch) (source_known target_known : Bool) (best : List Best) (a : Answered Segment) → r ≡ x.ask.number →
    lookup (nat_eq x.ask.number) s.losing.element.pending.rows ≡ Some held → held.item.stage ≡ Ready down → told ≡ down → source_known ≡ x.rows.source_known → target_known ≡ x.rows.target_known → best ≡ x.rows.best →
    Answers own_part s source_known target_known best now (r, held) told a → AnswersFor s x now a
answers_for s x now r held down told source_known target_known best a number found ready same source target ways answers =
    let by_source = subst (λ (b : Bool). Answers own_part s b target_known best now (r, held) told a) source answers in
    let by_target = subst (λ (b : Bool). Answers own_part s x.rows.source_known b best now (r, held) told a) target by_source in
    let by_best = subst (λ (bs : List Best). Answers own_part s x.rows.source_known x.rows.target_known bs now (r, held) told a) ways by_target in
    let all : ℕ → List Branch → Type 0 = λ n d. Answers own_part s x.rows.source_known x.rows.target_known x.rows.best now (n, held) d a in
    record {
      taken = commit_solved s x now (x.ask.number, held) down;
      is = ap (commit_held s x now x.ask.number) found ∙ ap (commit_stage s x now (x.ask.number, held)) ready;
      are = subst (λ (n : ℕ). all n down) number (subst (λ (d : List Branch). all r d) same by_best);
      one = commit_one own_part s x.rows.source_known x.rows.target_known x.rows.best now (x.ask.number, held) down;
    }

-- what was solved of the job of a number is this element's
pub own_of : (s : Seen Pin Segment) (n : ℕ) (w : Work) (x : Solution) → Some w ≡ job_at s n → x.ask ≡ w.ask → x.topology ≡ w.topology → w.ask.number ≡ n → IsOwnJob s x
own_of s n w x at asked over number =
    let is : x.ask.number ≡ n = ap (λ (a : Ask). a.number) asked ∙ number in
    subst (λ (o : Option Work). IfSome o (λ (v : Work). (x.ask ≡ v.ask) × (x.topology ≡ v.topology))) (at ∙ ap (job_at s) (sym is)) (asked, over)
