-- Faults of a topology that are passed over one after another.
use Rattle.std.proofs.Common.{◌≡◌, ◌∙◌, ◌+◌, ◌-◌, ◌≤◌, ℕ, true, false, List, [], ◌∷◌, ◌++◌, length, inl, inr, refl, ap, sym, subst, arith}
use Rattle.std.proofs.lemmas.List.{length_push}
use Rattle.std.proofs.Math.ListN.{length-set}
use Rattle.dom_base.specs.declared.names.As.{As}
use Rattle.te_links.specs.Rows.{Rows}
use Rattle.te_text.specs.Reads.{Reads}
use Rattle.plant_text.specs.declared.fault.NetFault.{NetFault}
use Rattle.plant_text.specs.declared.fault.NetFault.TheVariants as fault
use Rattle.network_files.specs.Reading.{IsTopologyFault}
use Rattle.network_files.specs.Topologies.{topology_max}
use Rattle.network_check.specs.declared.breaches.Breach.{Breach}
use Rattle.network_check.specs.Breaches.{AreBreaches, IsRefused, breaches_max, is_last, left_by, passed_all, passed_over, place_behind}

pub none_behind : (text : List ℕ) → place_behind 0 text ≡ 0
none_behind [] = refl
none_behind (c ∷ cs) = refl

passed_push : (text : List ℕ) (bs : List Breach) (b : Breach) → passed_all text (bs ++ b ∷ []) ≡ passed_over b (passed_all text bs)
passed_push text [] b = refl
passed_push text (c ∷ bs) b = passed_push (passed_over c text) bs b

breaches_push : (at : As) (text : List ℕ) (bs : List Breach) (b : Breach) → AreBreaches at text bs → IsTopologyFault at (passed_all text bs) b.line b.fault → AreBreaches at text (bs ++ b ∷ [])
breaches_push at text [] b are is = (is, tt)
breaches_push at text (c ∷ bs) b are is = (are.0, breaches_push at (passed_over c text) bs b are.1 is)

same_length : (line : ℕ) (text : List ℕ) (f : NetFault) → length (left_by line text f) ≡ length text
same_length line text fault.OtherAs = refl
same_length line text fault.NotToml = length-set text (place_behind (line - 1) text) 35
same_length line text (fault.TooMany name) = length-set text (place_behind (line - 1) text) 35
same_length line text (fault.Shape name i) = length-set text (place_behind (line - 1) text) 35
same_length line text (fault.Duplicate name i) = length-set text (place_behind (line - 1) text) 35
same_length line text (fault.Unknown name i) = length-set text (place_behind (line - 1) text) 35
same_length line text (fault.NoParent i) = length-set text (place_behind (line - 1) text) 35
same_length line text fault.NoElement = length-set text (place_behind (line - 1) text) 35
same_length line text fault.Absent = length-set text (place_behind (line - 1) text) 35
same_length line text fault.Present = length-set text (place_behind (line - 1) text) 35
same_length line text (fault.Topo told) = length-set text (place_behind (line - 1) text) 35

-- a last fault leaves a topology
last_reads : (at : As) (line : ℕ) (text : List ℕ) (f : NetFault) → IsTopologyFault at text line f → true ≡ is_last f → (g : Rows) × Reads (left_by line text f) g
last_reads at line text fault.OtherAs is last = (is.1.0, is.1.1)
last_reads at line text fault.NotToml is last = absurd is
last_reads at line text (fault.TooMany name) is last = absurd is
last_reads at line text (fault.Shape name i) is last = absurd is
last_reads at line text (fault.Duplicate name i) is last = absurd is
last_reads at line text (fault.Unknown name i) is last = absurd is
last_reads at line text (fault.NoParent i) is last = absurd is
last_reads at line text fault.NoElement is last = absurd is
last_reads at line text fault.Absent is last = absurd is
last_reads at line text fault.Present is last = absurd is
last_reads at line text (fault.Topo told) is last = absurd (let never : true ≡ false = last in cc)

-- some faults of a file are passed over, and this text is left
pub record IsUnderWay (at : As) (file text : List ℕ) (bs : List Breach) : Type 0 where
  pub some : 1 ≤ length bs
  pub few : length bs ≤ breaches_max
  pub breaches : AreBreaches at file bs
  pub left : text ≡ passed_all file bs
  pub short : length text ≤ topology_max

module _ (at : As) (file text : List ℕ) (bs : List Breach) (b : Breach) (few : length bs + 1 ≤ breaches_max) (breaches : AreBreaches at file bs) (left : text ≡ passed_all file bs) (short : length text ≤ topology_max)
    (is : IsTopologyFault at text b.line b.fault) where
  chain : AreBreaches at file (bs ++ b ∷ [])
  chain = breaches_push at file bs b breaches (subst (λ (t : List ℕ). IsTopologyFault at t b.line b.fault) left is)

  over : passed_over b text ≡ passed_all file (bs ++ b ∷ [])
  over = ap (passed_over b) left ∙ sym (passed_push file bs b)

  pub one_more : IsUnderWay at file (passed_over b text) (bs ++ b ∷ [])
  one_more = record {
    some = omega (arith, length_push bs b);
    few = omega (arith, length_push bs b, few);
    breaches = chain;
    left = over;
    short = omega (arith, short, same_length b.line text b.fault);
  }

  pub ends_there : true ≡ is_last b.fault → IsRefused at file (bs ++ b ∷ [])
  ends_there last =
      let read = last_reads at b.line text b.fault is last in
      record {
        some = omega (arith, length_push bs b);
        breaches = chain;
        all = inr (read.0, subst (λ (t : List ℕ). Reads t read.0) over read.1);
      }

-- nothing is left at fault, or there are so many
pub all_told : (at : As) (file text : List ℕ) (bs : List Breach) → IsUnderWay at file text bs → (g : Rows) × Reads text g → IsRefused at file bs
all_told at file text bs u read = record { some = u.some; breaches = u.breaches; all = inr (read.0, subst (λ (t : List ℕ). Reads t read.0) u.left read.1) }

pub so_many : (at : As) (file text : List ℕ) (bs : List Breach) → IsUnderWay at file text bs → breaches_max ≤ length bs → IsRefused at file bs
so_many at file text bs u many = record { some = u.some; breaches = u.breaches; all = inl (omega (arith, u.few, many)) }
