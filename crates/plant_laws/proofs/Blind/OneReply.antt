-- What is answered to a closed peer is the same over rows that differ in their segments alone.
use Rattle.std.proofs.Common.{◌≡◌, ℕ, Bool, true, false, cond, nat_lt, length, suc, List, [], ◌∷◌, Option, sym, ◌∙◌, ap, refl}
use Rattle.plant_model.specs.Types.{Addr, Metric, Path, Best, Branch}
use Rattle.pcep_messages.specs.declared.message.Answer.TheVariants.{Paths}
use Rattle.path_keys.specs.Keys.{Keys, number_after, issue_of}
use Rattle.plant_model.specs.Wire.{Codec}
use Rattle.plant_model.specs.Writing.{reply_message, busy}
use Rattle.plant_model.specs.Branches.{closed_branch, path_of}
use Rattle.plant_model.specs.Element.{Element, Row, ElementSettings, Taken, is_client}
use Rattle.plant_model.specs.Taking.{answered}
use Rattle.plant_model.specs.Solving.{commit, client_reply, closed_reply, closed_paths, issued_all, free, job_found}
use Rattle.plant_laws.proofs.Blind.OneJoin.{AllOne}

abbrev U : Type 0
U = Unit {0}

pub one_length : (xs ys : List Best) → AllOne xs ys → length xs ≡ length ys
one_length [] [] h = refl
one_length [] (y ∷ ys) h = absurd h
one_length (x ∷ xs) [] h = absurd h
one_length (x ∷ xs) (y ∷ ys) h = ap suc (one_length xs ys h.1)

pub one_issued : (now : ℕ) (xs ys : List Best) (keys : Keys U) → AllOne xs ys → issued_all now (λ b. tt) xs keys ≡ issued_all now (λ b. tt) ys keys
one_issued now [] [] keys h = refl
one_issued now [] (y ∷ ys) keys h = absurd h
one_issued now (x ∷ xs) [] keys h = absurd h
one_issued now (x ∷ xs) (y ∷ ys) keys h = one_issued now xs ys (issue_of keys now tt) h.1

pub one_paths : (c : Codec) (pce : Addr) (m : Metric) (target : Addr) (down : List Branch) (key : ℕ) (xs ys : List Best) → AllOne xs ys → closed_paths c pce m target down key xs ≡ closed_paths c pce m target down key ys
one_paths c pce m target down key [] [] h = refl
one_paths c pce m target down key [] (y ∷ ys) h = absurd h
one_paths c pce m target down key (x ∷ xs) [] h = absurd h
one_paths c pce m target down key (x ∷ xs) (y ∷ ys) h =
    let made : Addr → ℕ → Addr → Option Addr → Path = λ entry cost exit head.
    (let b : Best = record { entry = entry; cost = cost; exit = exit; head = head; segment = [] } in path_of c m cost (closed_branch key pce target b down)) in
    let rest = closed_paths c pce m target down (number_after key) xs in
    ap (λ (n : Addr). made n x.cost x.exit x.head ∷ rest) h.0.entry
    ∙ ap (λ (n : ℕ). made y.entry n x.exit x.head ∷ rest) h.0.cost
    ∙ ap (λ (n : Addr). made y.entry y.cost n x.head ∷ rest) h.0.exit
    ∙ ap (λ (o : Option Addr). made y.entry y.cost y.exit o ∷ rest) h.0.head
    ∙ ap (λ (l : List Path). made y.entry y.cost y.exit y.head ∷ l) (one_paths c pce m target down (number_after key) xs ys h.1)

pub one_reply : (Q : Type 0) (c : Codec) (e : ElementSettings) (h : Row Q) (down : List Branch) (now : ℕ) (k : Element Q U) (xs ys : List Best) → AllOne xs ys → closed_reply c e h down now (λ b. tt) k xs ≡ closed_reply c e h down now (λ b. tt) k ys
one_reply Q c e h down now k [] [] one = refl
one_reply Q c e h down now k [] (y ∷ ys) one = absurd one
one_reply Q c e h down now k (x ∷ xs) [] one = absurd one
one_reply Q c e h down now k (x ∷ xs) (y ∷ ys) one =
    let made : ℕ → List Path → Keys U → Taken Q U = λ n paths keys.
    cond (nat_lt (free now k.keys) n) (answered h (busy h.1.item.flags h.1.key.id) k)
    (answered h (reply_message h.1.item.flags h.1.key.id (Paths paths)) (record k { keys = keys })) in
    let paths = closed_paths c e.id h.1.item.wanted.query.metric h.1.item.wanted.target down k.keys.next in
    ap (λ (n : ℕ). made n (paths (x ∷ xs)) (issued_all now (λ b. tt) (x ∷ xs) k.keys)) (one_length (x ∷ xs) (y ∷ ys) one)
    ∙ ap (λ (l : List Path). made (length (y ∷ ys)) l (issued_all now (λ b. tt) (x ∷ xs) k.keys)) (one_paths c e.id h.1.item.wanted.query.metric h.1.item.wanted.target down k.keys.next (x ∷ xs) (y ∷ ys) one)
    ∙ ap (λ (keys : Keys U). made (length (y ∷ ys)) (paths (y ∷ ys)) keys) (one_issued now (x ∷ xs) (y ∷ ys) k.keys one)

pub one_commit : (Q : Type 0) (c : Codec) (e : ElementSettings) (h : Row Q) (down : List Branch) (now : ℕ) (k : Element Q U) (xs ys : List Best) → (t : Bool) → is_client h.1.item.class ≡ t → cond t (xs ≡ ys) (AllOne xs ys) →
    commit c e h down now (λ b. tt) (job_found true true xs) k ≡ commit c e h down now (λ b. tt) (job_found true true ys) k
one_commit Q c e h down now k xs ys true is same = ap (λ (l : List Best). commit c e h down now (λ b. tt) (job_found true true l) k) same
one_commit Q c e h down now k xs ys false is one =
    ap (λ (u : Bool). cond u (answered h (client_reply c h down true true xs) k) (closed_reply c e h down now (λ b. tt) k xs)) is
    ∙ one_reply Q c e h down now k xs ys one
    ∙ ap (λ (u : Bool). cond u (answered h (client_reply c h down true true ys) k) (closed_reply c e h down now (λ b. tt) k ys)) (sym is)
