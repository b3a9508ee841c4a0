-- The answers of checks on single rows and single lists.
use Rattle.std.specs.Prelude.{◌≡◌, ◌<◌, ℕ, Option, Some, None, cond}
use Rattle.te_links.specs.declared.checks.Broken.{Broken}
use Rattle.te_links.specs.declared.fault.TopoFault.{TopoFault}
use Rattle.te_links.specs.declared.fault.TopoFault.TheVariants.{TooMany, DuplicateNode, UnknownNode, OwnAs, BadMetric, DuplicateNear, DuplicateFar, DuplicateEntry}
use Rattle.te_links.specs.declared.fault.Row.{Row}
use Rattle.te_links.specs.declared.fault.RowKind.{RowKind}
use Rattle.te_links.specs.declared.fault.BuildError.{BuildError}
use Rattle.te_links.specs.declared.fault.BuildError.TheVariants.{Rule, NoMemory}
use Rattle.te_links.specs.Rows.{Rows}
use Rattle.te_links.specs.Faults.{Breaks, fault_order}

-- the first rule that is broken, or none is
abbrev pub IsFirstRule : (TopoFault → Type 0) → Option TopoFault → Type 0
IsFirstRule breaks None = (other : TopoFault) → ¬ breaks other
IsFirstRule breaks (Some fault) = breaks fault × ((other : TopoFault) → fault_order other < fault_order fault → ¬ breaks other)

-- the first rule that was found broken
abbrev pub first_broken : Broken → Option TopoFault
first_broken b =
    cond b.too_many (Some TooMany)
    (cond b.duplicate_node (Some DuplicateNode)
    (cond b.unknown_node (Some UnknownNode)
    (cond b.own_as (Some OwnAs)
    (cond b.bad_metric (Some BadMetric)
    (cond b.duplicate_near (Some DuplicateNear)
    (cond b.duplicate_far (Some DuplicateFar)
    (cond b.duplicate_entry (Some DuplicateEntry) None)))))))

-- the rows of this kind before place n break no rule
pub record NoneBefore (g : Rows) (kind : RowKind) (n : ℕ) : Type 0 where
  pub none : (i : ℕ) (other : TopoFault) → i < n → ¬ Breaks g kind i other

-- no row of this kind breaks a rule
pub record NoneOf (g : Rows) (kind : RowKind) : Type 0 where
  pub none : (i : ℕ) (other : TopoFault) → ¬ Breaks g kind i other

-- the first breach among the rows of one kind
pub record IsFirstOf (g : Rows) (kind : RowKind) (fault : TopoFault) (row : Row) : Type 0 where
  pub here : row.kind ≡ kind
  pub breaks : Breaks g kind row.index fault
  pub first_rule : (other : TopoFault) → fault_order other < fault_order fault → ¬ Breaks g kind row.index other
  pub first_row : NoneBefore g kind row.index

abbrev pub IsReasonOf : Rows → RowKind → BuildError → Type 0
IsReasonOf g kind (Rule fault row) = IsFirstOf g kind fault row
IsReasonOf g kind NoMemory = ⊥
