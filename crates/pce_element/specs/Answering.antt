-- The answer to a request that can be solved, by the best ways that were found.
use Rattle.std.specs.Prelude.{◌≡◌, ℕ, Bool, List, [], ◌∷◌, ◌++◌}
use Rattle.pce_common.specs.plant_model.Types.{Addr, Metric, Hop, Path, Answer, Best, Branch}
use Rattle.pcep_messages.specs.declared.message.Answer.TheVariants.{Paths}
use Rattle.path_keys.specs.Keys.{number_after}
use Rattle.disclosure.specs.Shown.{closed_of}
use Rattle.pce_common.specs.plant_model.Branches.{end_of, onward, open_branch, path_of}
use Rattle.pce_common.specs.plant_model.Element.{Row, Taken, ended}
use Rattle.pce_common.specs.plant_model.RealWire.{wire}
use Rattle.pce_common.specs.plant_model.Solving.{closed_reply, commit, job_found}
use Rattle.pce_common.specs.plant_model.Writing.{no_path}
use Rattle.pce_element.specs.Changes.{all_issued}
use Rattle.pce_element.specs.Seen.{Seen}
use Rattle.pce_element.specs.declared.answering.Answered.{Answered}

-- a path for each row: its own part, and what follows it
abbrev pub paths_by : Metric → List Branch → List Best → List (List Hop) → List Path
paths_by m down [] own = []
paths_by m down (b ∷ bs) [] = []
paths_by m down (b ∷ bs) (part ∷ parts) = path_of wire m b.cost (part ++ onward b.exit b.head down) ∷ paths_by m down bs parts

-- the own parts that closed peers see, with keys in order
abbrev pub closed_parts : Addr → Addr → ℕ → List Best → List (List Hop)
closed_parts pce target key [] = []
closed_parts pce target key (b ∷ bs) = closed_of b.entry key pce (end_of b.head target) ∷ closed_parts pce target (number_after key) bs

-- to a client: the path of its source, or that there is none
abbrev pub client_answer : Metric → List Branch → Bool → Bool → List Best → Answer
client_answer m down source_known target_known [] = no_path source_known target_known
client_answer m down source_known target_known (b ∷ bs) = Paths (path_of wire m b.cost (open_branch b down) ∷ [])

-- The messages and the element that a plan is of, by the segments that get keys.
pub record AreOf {P : Type 0} {S : Type 0} (s : Seen P S) (number now : ℕ) (taken : Taken P S) (a : Answered S) : Type 0 where
  pub outputs : a.outputs ≡ taken.outputs
  pub element : ended number (record s.losing.element { keys = all_issued now a.segments s.losing.element.keys }) ≡ taken.element

-- the change and the answer of a request that is ready with these branches; keys stand for this of each way
abbrev pub commit_row : {P : Type 0} {S : Type 0} → (Best → S) → Seen P S → Bool → Bool → List Best → ℕ → Row P → List Branch → Taken P S
commit_row stands s source_known target_known best now h down = commit wire s.place h down now stands (job_found source_known target_known best) s.losing.element

abbrev pub AnswersClosed : {P : Type 0} {S : Type 0} → (Best → S) → Seen P S → List Best → ℕ → Row P → List Branch → Answered S → Type 0
AnswersClosed stands s best now h down a = AreOf s h.0 now (closed_reply wire s.place h down now stands s.losing.element best) a

abbrev pub Answers : {P : Type 0} {S : Type 0} → (Best → S) → Seen P S → Bool → Bool → List Best → ℕ → Row P → List Branch → Answered S → Type 0
Answers stands s source_known target_known best now h down a = AreOf s h.0 now (commit_row stands s source_known target_known best now h down) a
