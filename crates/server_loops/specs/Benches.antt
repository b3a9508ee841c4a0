-- The calls of a bench with their answers, and the state of a bench.
use Rattle.std.specs.Prelude.{◌≡◌, ℕ, List, [], ◌∷◌, ◌++◌, All, Contains, None, Some, Ok}
use Rattle.std.specs.Arc.{arc_value}
use Rattle.std.specs.declared.option.Option.{Option}
use Rattle.std.specs.declared.result.Result.{Result}
use Rattle.dom_base.specs.declared.names.As.{As}
use Rattle.dom_base.specs.declared.names.NoMemory.{NoMemory}
use Rattle.te_links.specs.Rows.{Rows}
use Rattle.pce_parent.specs.Solution.{IsWeighed}
use Rattle.pce_parent.specs.declared.work.Work.{Work}
use Rattle.pce_parent.specs.declared.work.Work.TheVariants.{Domain, Border}
use Rattle.pce_parent.specs.declared.work.Done.{Done}
use Rattle.pce_parent.specs.declared.work.Done.TheVariants.{Domain as DomainDone, Border as BorderDone}
use Rattle.server_loops.specs.declared.benches.Finished.{Finished}
use Rattle.server_loops.specs.declared.benches.Finished.TheVariants.{Stranger}

-- a call with its answer
pub data Call : Type 0 where
  Ready : (k : ℕ) → Option (As × ℕ) → Call
  Look : (at : As) → (number : ℕ) → Result (Option Work) NoMemory → Call
  Finish : Done → Finished → Call

-- the calls that were made, the oldest first; the topology of each element and generation, where it is known; and at which number the bench was spent
pub record Benched : Type 0 where
  pub calls : List Call
  pub topologies : As → ℕ → Option Rows
  pub spent : Option ℕ

-- the answer of a bench that is spent
abbrev pub IsIdle : Call → Type 0
IsIdle (Ready k answer) = answer ≡ None
IsIdle (Look at number answer) = answer ≡ Ok None
IsIdle (Finish done answer) = answer ≡ Stranger

-- a call of a bench that is spent is not made
abbrev pub made_by : Option ℕ → Call → List Call
made_by None call = call ∷ []
made_by (Some t) call = []

-- One more call, unless the bench is spent by then: no topology changes, and a bench that is spent stays so and is idle.
pub record Goes (old new : Benched) (call : Call) : Type 0 where
  pub calls : new.calls ≡ old.calls ++ made_by new.spent call
  pub topologies : (at : As) (generation : ℕ) (g : Rows) → old.topologies at generation ≡ Some g → new.topologies at generation ≡ Some g
  pub stays : (t : ℕ) → old.spent ≡ Some t → new.spent ≡ Some t
  pub idle : (t : ℕ) → new.spent ≡ Some t → IsIdle call

-- a job of a domain has the topology of its element and generation; the links of the parent's have the metrics of a topology's
abbrev pub IsGiven : Benched → Work → Type 0
IsGiven b (Domain job) = b.topologies job.ask.at job.ask.generation ≡ Some (arc_value job.topology)
IsGiven b (Border job) = All IsWeighed job.links

-- the solution of this very job
abbrev pub IsOf : Done → Work → Type 0
IsOf (DomainDone solved) (Domain job) = (solved.ask ≡ job.ask) × (solved.topology ≡ arc_value job.topology)
IsOf (BorderDone solved) (Border job) = solved.job ≡ job
IsOf _ _ = ⊥

-- a solution of a job that a look gave
pub record WasGiven (b : Benched) (done : Done) : Type 0 where
  pub at : As
  pub number : ℕ
  pub work : Work
  pub looked : Contains b.calls (Look at number (Ok (Some work)))
  pub is_of : IsOf done work
