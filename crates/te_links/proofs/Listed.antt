-- Lists of rows that are checked one after the other.
use Rattle.std.proofs.Common.{◌≡◌, inl, inr, ℕ, ◌+◌, ◌<◌, ◌≤◌, ◌^◌, List, Some, length, take, refl, sym, ◌∙◌, subst, arith}
use Rattle.std.specs.Prelude.{All, slice_get}
use Rattle.std.proofs.lemmas.Bool.{cases_lt}
use Rattle.std.proofs.lemmas.List.{length-take-le}
use Rattle.std.proofs.lemmas.Option.{slice_get_cases, slice_get_within}
use Rattle.te_links.specs.declared.fault.TopoFault.{TopoFault}
use Rattle.te_links.specs.declared.fault.TopoFault.TheVariants.{TooMany}
use Rattle.te_links.specs.declared.fault.RowKind.{RowKind}
use Rattle.te_links.specs.declared.fault.RowKind.TheVariants.{Node, Link as InnerLink, Out, Entry as EntryRow}
use Rattle.te_links.specs.declared.fault.BuildError.{BuildError}
use Rattle.te_links.specs.declared.fault.BuildError.TheVariants.{Rule, NoMemory}
use Rattle.te_links.specs.Rows.{Rows}
use Rattle.te_links.specs.Faults.{Breaks, fault_order, IsReason, kind_rank}
use Rattle.te_links.specs.Checks.{NoneBefore, NoneOf, IsReasonOf}
use Rattle.te_links.proofs.Within.{few_in_all, few_so_far}

pub none_yet : (g : Rows) (kind : RowKind) → NoneBefore g kind 0
none_yet g kind = record { none = λ i other less b. omega arith }

pub none_more : (g : Rows) (kind : RowKind) (n : ℕ) → NoneBefore g kind n → ((other : TopoFault) → ¬ Breaks g kind n other) → NoneBefore g kind (n + 1)
none_more g kind n before here = record {
  none = λ i other less.
      elim (cases_lt i n) [
        | inl lt ↦ before.none i other lt
        | inr ge ↦ let same : i ≡ n = omega arith in subst (λ k. ¬ Breaks g kind k other) (sym same) (here other)
      ];
}

none_past : (g : Rows) (kind : RowKind) (n : ℕ) → NoneBefore g kind n → ((i : ℕ) (other : TopoFault) → Breaks g kind i other → i < n) → NoneOf g kind
none_past g kind n before inside = record { none = λ i other b. before.none i other (inside i other b) b }

pub none_of_nodes : (g : Rows) (n : ℕ) → length g.nodes ≤ n → NoneBefore g Node n → NoneOf g Node
none_of_nodes g n all before = none_past g Node n before (λ i other b. omega (arith, slice_get_within g.nodes i b.0 b.1))

pub none_of_links : (g : Rows) (n : ℕ) → length g.links ≤ n → NoneBefore g InnerLink n → NoneOf g InnerLink
none_of_links g n all before = none_past g InnerLink n before (λ i other b. omega (arith, slice_get_within g.links i b.0 b.1))

pub none_of_outs : (g : Rows) (n : ℕ) → length g.outs ≤ n → NoneBefore g Out n → NoneOf g Out
none_of_outs g n all before = none_past g Out n before (λ i other b. omega (arith, slice_get_within g.outs i b.0 b.1))

pub none_of_entries : (g : Rows) (n : ℕ) → length g.entries ≤ n → NoneBefore g EntryRow n → NoneOf g EntryRow
none_of_entries g n all before = none_past g EntryRow n before (λ i other b. omega (arith, slice_get_within g.entries i b.0 b.1))

-- a row that breaks no rule is within the limit of its list
row_within : {X : Type 0} (rows : List X) (most i : ℕ) → i < length rows → ((x : X) → slice_get rows i ≡ Some x → ¬ (most ≤ i)) → i + 1 ≤ most
row_within rows most i inside clear =
    elim (slice_get_cases rows i).1 [
      | inl has ↦ elim (cases_lt i most) [ inl lt ↦ omega arith | inr ge ↦ absurd (clear has.0 has.2 ge) ]
      | inr past ↦ absurd (omega (arith, past.0))
    ]

pub node_within : (g : Rows) (i : ℕ) → i < length g.nodes → ((other : TopoFault) → ¬ Breaks g Node i other) → i + 1 ≤ 1024
node_within g i inside clear = row_within g.nodes 1024 i inside (λ n at great. clear TooMany (n, at, great))

pub link_within : (g : Rows) (i : ℕ) → i < length g.links → ((other : TopoFault) → ¬ Breaks g InnerLink i other) → i + 1 ≤ 8192
link_within g i inside clear = row_within g.links 8192 i inside (λ l at great. clear TooMany (l, at, inl great))

pub out_within : (g : Rows) (i : ℕ) → i < length g.outs → ((other : TopoFault) → ¬ Breaks g Out i other) → i + 1 ≤ 256
out_within g i inside clear = row_within g.outs 256 i inside (λ o at great. clear TooMany (o, at, inl great))

-- entries without a breach are no more than numbers of domains allow
pub entries_short : (g : Rows) (n : ℕ) → n ≤ length g.entries → NoneBefore g EntryRow n → All (λ e. e.from_as.0 < 2 ^ 16) (take n g.entries) → n ≤ 1048576
entries_short g n inside before numbers =
    let bound = few_in_all 65536 (take n g.entries) (few_so_far g n before) numbers in
    omega (arith, bound, length-take-le n g.entries inside)

-- the first breach of a list, where the lists before it have none
only_kind : (g : Rows) (first : RowKind) (e : BuildError) → ((kind : RowKind) → kind_rank kind < kind_rank first → NoneOf g kind) → IsReasonOf g first e → IsReason g e
only_kind g first NoMemory before reason = tt
only_kind g first (Rule fault row) before reason = record {
  breaks = subst (λ k. Breaks g k row.index fault) (sym reason.here) reason.breaks;
  first_rule = λ other less. subst (λ k. ¬ Breaks g k row.index other) (sym reason.here) (reason.first_rule other less);
  first_row = λ kind i other earlier.
      elim earlier [
        | inl lt ↦ (before kind (subst (λ k. kind_rank kind < kind_rank k) reason.here lt)).none i other
        | inr same ↦ subst (λ k. ¬ Breaks g k i other) (sym (same.0 ∙ reason.here)) (reason.first_row.none i other same.1)
      ];
}

pub first_of_nodes : (g : Rows) (e : BuildError) → IsReasonOf g Node e → IsReason g e
first_of_nodes g e reason = only_kind g Node e (λ kind less. absurd (omega arith)) reason

before_links : (g : Rows) → NoneOf g Node → (kind : RowKind) → kind_rank kind < 1 → NoneOf g kind
before_links g nodes Node less = nodes
before_links g nodes InnerLink less = absurd (omega arith)
before_links g nodes Out less = absurd (omega arith)
before_links g nodes EntryRow less = absurd (omega arith)

pub first_of_links : (g : Rows) (e : BuildError) → NoneOf g Node → IsReasonOf g InnerLink e → IsReason g e
first_of_links g e nodes reason = only_kind g InnerLink e (before_links g nodes) reason

before_outs : (g : Rows) → NoneOf g Node → NoneOf g InnerLink → (kind : RowKind) → kind_rank kind < 2 → NoneOf g kind
before_outs g nodes links Node less = nodes
before_outs g nodes links InnerLink less = links
before_outs g nodes links Out less = absurd (omega arith)
before_outs g nodes links EntryRow less = absurd (omega arith)

pub first_of_outs : (g : Rows) (e : BuildError) → NoneOf g Node → NoneOf g InnerLink → IsReasonOf g Out e → IsReason g e
first_of_outs g e nodes links reason = only_kind g Out e (before_outs g nodes links) reason

before_entries : (g : Rows) → NoneOf g Node → NoneOf g InnerLink → NoneOf g Out → (kind : RowKind) → kind_rank kind < 3 → NoneOf g kind
before_entries g nodes links outs Node less = nodes
before_entries g nodes links outs InnerLink less = links
before_entries g nodes links outs Out less = outs
before_entries g nodes links outs EntryRow less = absurd (omega arith)

pub first_of_entries : (g : Rows) (e : BuildError) → NoneOf g Node → NoneOf g InnerLink → NoneOf g Out → IsReasonOf g EntryRow e → IsReason g e
first_of_entries g e nodes links outs reason = only_kind g EntryRow e (before_entries g nodes links outs) reason

pub reason_of : (g : Rows) (kind : RowKind) (fault : TopoFault) (i : ℕ) (e : BuildError) → e ≡ Rule fault (record { kind = kind; index = i }) → Breaks g kind i fault →
    ((other : TopoFault) → fault_order other < fault_order fault → ¬ Breaks g kind i other) → NoneBefore g kind i → IsReasonOf g kind e
reason_of g kind fault i e is breaks first before = rw is (record { here = refl; breaks = breaks; first_rule = first; first_row = before })
