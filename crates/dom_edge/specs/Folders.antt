-- The contents of a folder, where they are known: the names that were made in it, and the files that were closed.
use Rattle.std.specs.Prelude.{◌≡◌, ℕ, List, [], ◌∷◌, ◌++◌, ◌⊎◌, codes, Contains, Result, Ok, Err, None, Some}
use Rattle.std.specs.declared.option.Option.{Option}
use Rattle.dom_edge.specs.declared.folder.FolderError.{FolderError}
use Rattle.dom_edge.specs.Memory.{Calls, IsPlanned}

-- the names in a folder, oldest first, and the files that were closed, each with all that was written to it
pub record Contents : Type 0 where
  pub names : List (List ℕ)
  pub closed : List (List ℕ × List ℕ)

-- A file that was made has a new name, and nothing stands in it. After a refusal the folder is as it was.
abbrev pub Makes : {File : Type 0} → (File → Option (List ℕ)) → Option Contents → Option Contents → List ℕ → Result File FolderError → Type 0
Makes written None new name (Ok file) = Unit {0}
Makes written (Some old) new name (Ok file) = ¬ Contains old.names name × (new ≡ Some (record { names = old.names ++ name ∷ []; closed = old.closed })) × (written file ≡ Some [])
Makes written old new name (Err error) = new ≡ old

-- the folder has one file more, with its bytes
abbrev pub AddsFile : Option Contents → Option Contents → List ℕ → Option (List ℕ) → Type 0
AddsFile None new name written = Unit {0}
AddsFile (Some old) new name None = ⊥
AddsFile (Some old) new name (Some bytes) = Contains old.names name × (new ≡ Some (record { names = old.names; closed = old.closed ++ (name, bytes) ∷ [] }))

-- A file that was closed stands in the folder with all that was written to it. After a refusal the folder is as it was.
abbrev pub Closes : Option Contents → Option Contents → List ℕ → Option (List ℕ) → Result (Unit {0}) FolderError → Type 0
Closes old new name written (Ok _) = AddsFile old new name written
Closes old new name written (Err error) = new ≡ old

-- the folder is a new one, of a name that the old one had not
abbrev pub IsEntered : Option Contents → Option Contents → List ℕ → Type 0
IsEntered None new name = Unit {0}
IsEntered (Some old) new name = ¬ Contains old.names name × (new ≡ Some (record { names = []; closed = [] }))

-- A folder that was entered is new and empty. After a refusal the folder is as it was.
abbrev pub Enters : Option Contents → Option Contents → List ℕ → Result (Unit {0}) FolderError → Type 0
Enters old new name (Ok _) = IsEntered old new name
Enters old new name (Err error) = new ≡ old

-- the path of a name in a folder
abbrev pub path_below : List ℕ → List ℕ → List ℕ
path_below folder name = folder ++ codes "/" ++ name

-- what a folder of the system counts, its path, and the name at which a call last failed
pub record FolderCounts : Type 0 where
  pub path : List ℕ
  pub faults : ℕ
  pub failed_at : List ℕ

-- a file with its name
pub record Named (S : Type 0) : Type 0 where
  pub name : List ℕ
  pub sink : S

-- a folder in memory: what stands in it, the name at which a call last failed, and the writes that are to fail in each file that will be made
pub record FolderState : Type 0 where
  pub contents : Contents
  pub failed_at : List ℕ
  pub plans : List (List ℕ)
  pub calls : Calls

-- the writes that are to fail in the next file
abbrev pub first_plan : List (List ℕ) → List ℕ
first_plan [] = []
first_plan (plan ∷ plans) = plan

-- the next call is to fail, or the name is there
abbrev pub IsRefused : FolderState → List ℕ → Type 0
IsRefused folder name = IsPlanned folder.calls ⊎ Contains folder.contents.names name

-- the next call is not to fail, and the file that is given has that name, which is there
abbrev pub MayClose : FolderState → List ℕ → List ℕ → Type 0
MayClose folder name given = (¬ IsPlanned folder.calls) × (given ≡ name) × Contains folder.contents.names name
