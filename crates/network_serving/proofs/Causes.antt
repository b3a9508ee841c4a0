-- Causes of a part are causes of the whole.
use Rattle.std.proofs.Common.{◌≡◌, inl, inr, ◌≤◌, ℕ, List, sym, subst, arith, Option, Some, None}
use Rattle.std.specs.Prelude.{Contains}
use Rattle.dom_base.specs.declared.names.As.{As}
use Rattle.dom_edge.specs.Causes.{Rose}
use Rattle.dom_edge.specs.Stores.{Files, HasFile, IfFile}
use Rattle.network_files.specs.Reading.{IsTopologyFault}
use Rattle.network_files.specs.Settings.{HasNetwork, settings_max}
use Rattle.plant_text.specs.declared.fault.NetFault.{NetFault}
use Rattle.plant_text.specs.declared.settings.ElementRow.{ElementRow}
use Rattle.plant_text.specs.declared.settings.NetworkParts.{NetworkParts}
use Rattle.network_serving.specs.Files.{IsBadAt, IsBadText, IsFileEnd, IsLoadEnd, IsNamedEnd, IsNoFault, IsSettingsFault, IsTopologyEnd, topology_max}
use Rattle.network_serving.specs.Loading.{IsOpenEnd}
use Rattle.network_serving.specs.Ports.{IsRefusedPort}
use Rattle.network_serving.specs.declared.served.Served.{Served}
use Rattle.network_serving.specs.declared.served.Served.TheVariants as served

pub rose_from : (a b c : ℕ) → a ≤ b → Rose b c → Rose a c
rose_from a b c less rose = omega (arith, less, rose)

-- ---- a file

pub in_file : (files : Option Files) (name bytes : List ℕ) (P : List ℕ → Type 0) → HasFile files name bytes → P bytes → IfFile files name P
in_file None name bytes P has such = tt
in_file (Some fs) name bytes P has such = (bytes, has, such)

not_in_file : (files : Option Files) (name : List ℕ) (P : List ℕ → Type 0) → IfFile files name (λ bytes. ⊥) → IfFile files name P
not_in_file None name P none = tt
not_in_file (Some fs) name P none = absurd none.2

module _ (files : Option Files) (name : List ℕ) (limit : ℕ) (IsFault : List ℕ → ℕ → NetFault → Type 0) where
  -- the bytes were read, and are refused
  pub bad_text : (bytes : List ℕ) (counts : ℕ × ℕ) (failed_at : List ℕ) (s : Served) → HasFile files name bytes → IsBadText name (IsFault bytes) s → IsFileEnd files name limit IsFault counts failed_at s
  bad_text bytes counts failed_at (served.BadNetwork file line fault) has bad = (bad.0, in_file files name bytes (λ bs. IsFault bs line fault) has bad.1)
  bad_text bytes counts failed_at served.NoMemory has bad = tt
  bad_text bytes counts failed_at served.Turns has bad = absurd bad
  bad_text bytes counts failed_at served.Stopped has bad = absurd bad
  bad_text bytes counts failed_at (served.NoRecord place) has bad = absurd bad
  bad_text bytes counts failed_at served.ReadFault has bad = absurd bad
  bad_text bytes counts failed_at (served.TooLarge file) has bad = absurd bad
  bad_text bytes counts failed_at (served.NoPort port) has bad = absurd bad
  bad_text bytes counts failed_at served.NoThread has bad = absurd bad

  pub bad_line : (bytes : List ℕ) (counts : ℕ × ℕ) (failed_at : List ℕ) (line : ℕ) (fault : NetFault) (s : Served) → HasFile files name bytes → IsFault bytes line fault → IsBadAt name line fault s →
      IsFileEnd files name limit IsFault counts failed_at s
  bad_line bytes counts failed_at line fault (served.BadNetwork file at other) has is bad =
      (bad.0, in_file files name bytes (λ bs. IsFault bs at other) has (subst (λ (f : NetFault). IsFault bytes at f) (sym bad.2) (subst (λ (n : ℕ). IsFault bytes n fault) (sym bad.1) is)))
  bad_line bytes counts failed_at line fault served.NoMemory has is bad = tt
  bad_line bytes counts failed_at line fault served.Turns has is bad = absurd bad
  bad_line bytes counts failed_at line fault served.Stopped has is bad = absurd bad
  bad_line bytes counts failed_at line fault (served.NoRecord place) has is bad = absurd bad
  bad_line bytes counts failed_at line fault served.ReadFault has is bad = absurd bad
  bad_line bytes counts failed_at line fault (served.TooLarge file) has is bad = absurd bad
  bad_line bytes counts failed_at line fault (served.NoPort port) has is bad = absurd bad
  bad_line bytes counts failed_at line fault served.NoThread has is bad = absurd bad

  -- the file was not read
  pub not_read : (counts : ℕ × ℕ) (failed_at : List ℕ) (s : Served) → IsFileEnd files name limit IsNoFault counts failed_at s → IsFileEnd files name limit IsFault counts failed_at s
  not_read counts failed_at served.ReadFault is = is
  not_read counts failed_at (served.TooLarge file) is = is
  not_read counts failed_at (served.BadNetwork file line fault) is = (is.0, not_in_file files name (λ bs. IsFault bs line fault) is.1)
  not_read counts failed_at served.NoMemory is = tt
  not_read counts failed_at served.Turns is = absurd is
  not_read counts failed_at served.Stopped is = absurd is
  not_read counts failed_at (served.NoRecord place) is = absurd is
  not_read counts failed_at (served.NoPort port) is = absurd is
  not_read counts failed_at served.NoThread is = absurd is

  -- the store had failed no more often before
  pub file_from : (a b c : ℕ) (failed_at : List ℕ) (s : Served) → a ≤ b → IsFileEnd files name limit IsFault (b, c) failed_at s → IsFileEnd files name limit IsFault (a, c) failed_at s
  file_from a b c failed_at served.ReadFault less is = (rose_from a b c less is.0, is.1)
  file_from a b c failed_at (served.TooLarge file) less is = is
  file_from a b c failed_at (served.BadNetwork file line fault) less is = is
  file_from a b c failed_at served.NoMemory less is = tt
  file_from a b c failed_at served.Turns less is = absurd is
  file_from a b c failed_at served.Stopped less is = absurd is
  file_from a b c failed_at (served.NoRecord place) less is = absurd is
  file_from a b c failed_at (served.NoPort port) less is = absurd is
  file_from a b c failed_at served.NoThread less is = absurd is

-- ---- a topology that a row names

module _ (files : Option Files) (at : As) where
  pub named_end : (topology : Option (List ℕ)) (name : List ℕ) (counts : ℕ × ℕ) (failed_at : List ℕ) (s : Served) → topology ≡ Some name → IsNamedEnd files at (Some name) counts failed_at s → IsNamedEnd files at topology counts failed_at s
  named_end topology name counts failed_at s is ends = subst (λ (t : Option (List ℕ)). IsNamedEnd files at t counts failed_at s) (sym is) ends

  pub named_want : (topology : Option (List ℕ)) (counts : ℕ × ℕ) (failed_at : List ℕ) (s : Served) → s ≡ served.NoMemory → IsNamedEnd files at topology counts failed_at s
  named_want None counts failed_at s is = is
  named_want (Some name) counts failed_at s is = subst (IsNamedEnd files at (Some name) counts failed_at) (sym is) tt

  named_from : (topology : Option (List ℕ)) (a b c : ℕ) (failed_at : List ℕ) (s : Served) → a ≤ b → IsNamedEnd files at topology (b, c) failed_at s → IsNamedEnd files at topology (a, c) failed_at s
  named_from None a b c failed_at s less is = is
  named_from (Some name) a b c failed_at s less is = file_from files name topology_max (IsTopologyFault at) a b c failed_at s less is

module _ (files : Option Files) (n : NetworkParts) where
  pub row_end : (row : ElementRow) (before : Option Files) (a b c : ℕ) (failed_at : List ℕ) (s : Served) → Contains n.elements row → before ≡ files → a ≤ b → IsNamedEnd before row.own row.topology (b, c) failed_at s →
      IsTopologyEnd files n (a, c) failed_at s
  row_end row before a b c failed_at s has same less ends = record {
    row = row;
    element = has;
    ends = subst (λ (fs : Option Files). IsNamedEnd fs row.own row.topology (a, c) failed_at s) same (named_from before row.own row.topology a b c failed_at s less ends);
  }

  pub topology_from : (a b c : ℕ) (failed_at : List ℕ) (s : Served) → a ≤ b → IsTopologyEnd files n (b, c) failed_at s → IsTopologyEnd files n (a, c) failed_at s
  topology_from a b c failed_at s less is = record { row = is.row; element = is.element; ends = named_from files is.row.own is.row.topology a b c failed_at s less is.ends }

-- ---- what ends a load

pub settings_end : (files : Option Files) (name : List ℕ) (counts : ℕ × ℕ) (failed_at : List ℕ) (s : Served) → IsFileEnd files name settings_max IsSettingsFault counts failed_at s → IsLoadEnd files name counts failed_at s
settings_end files name counts failed_at s is = inl is

pub port_end : (files : Option Files) (name : List ℕ) (n : NetworkParts) (counts : ℕ × ℕ) (failed_at : List ℕ) (s : Served) → HasNetwork files name n → IsRefusedPort name n s → IsLoadEnd files name counts failed_at s
port_end files name n counts failed_at s has is = inr (record { network = n; has = has; ends = inl is })

pub topologies_end : (files before : Option Files) (name : List ℕ) (n : NetworkParts) (a b c : ℕ) (failed_at : List ℕ) (s : Served) → HasNetwork files name n → before ≡ files → a ≤ b → IsTopologyEnd before n (b, c) failed_at s →
    IsLoadEnd files name (a, c) failed_at s
topologies_end files before name n a b c failed_at s has same less is =
    inr (record { network = n; has = has; ends = inr (subst (λ (fs : Option Files). IsTopologyEnd fs n (a, c) failed_at s) same (topology_from before n a b c failed_at s less is)) })

pub want_end : (files : Option Files) (name : List ℕ) (counts : ℕ × ℕ) (failed_at : List ℕ) (s : Served) → s ≡ served.NoMemory → IsLoadEnd files name counts failed_at s
want_end files name counts failed_at s is = inl (subst (IsFileEnd files name settings_max IsSettingsFault counts failed_at) (sym is) tt)

-- the lock is not opened, since memory ran out, or a topology is not to be had
pub want_open : (files : Option Files) (n : NetworkParts) (counts : ℕ × ℕ) (failed_at : List ℕ) (s : Served) → s ≡ served.NoMemory → IsOpenEnd files n counts failed_at s
want_open files n counts failed_at s is = inl is

pub topology_open : (files : Option Files) (n : NetworkParts) (counts : ℕ × ℕ) (failed_at : List ℕ) (s : Served) → IsTopologyEnd files n counts failed_at s → IsOpenEnd files n counts failed_at s
topology_open files n counts failed_at s is = inr is

pub open_end : (files before : Option Files) (name : List ℕ) (n : NetworkParts) (a b c : ℕ) (failed_at : List ℕ) (s : Served) → HasNetwork files name n → before ≡ files → a ≤ b → IsOpenEnd before n (b, c) failed_at s → IsLoadEnd files name (a, c) failed_at s
open_end files before name n a b c failed_at s has same less (inl is) = want_end files name (a, c) failed_at s is
open_end files before name n a b c failed_at s has same less (inr is) = topologies_end files before name n a b c failed_at s has same less is
