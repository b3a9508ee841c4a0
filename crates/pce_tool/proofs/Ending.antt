-- How a run ends, from how its parts ended.
use Rattle.std.proofs.Common.{◌≡◌, ◌≤◌, inl, inr, ℕ, List, [], ◌∷◌, Some, None, refl, sym, subst, arith}
use Rattle.std.specs.Prelude.{Err}
use Rattle.std.specs.declared.option.Option.{Option}
use Rattle.std.specs.Io.KnownBytes.{Keeps}
use Rattle.te_links.specs.Rows.{Rows}
use Rattle.te_links.specs.declared.fault.TopoFault.{TopoFault}
use Rattle.te_text.specs.Reads.{IsFaulty}
use Rattle.network_files.specs.Topologies.{HasTopology, topology_max}
use Rattle.client_laws.specs.plant_model.Types.{NetFault}
use Rattle.te_text.specs.declared.error.TextError.TheVariants.{At}
use Rattle.path_certificate.specs.Text.{certificate_in}
use Rattle.diverse_pairs.specs.Text.{pair_in}
use Rattle.pce_tool.specs.declared.status.Status.{Status}
use Rattle.pce_tool.specs.declared.status.Status.TheVariants as status
use Rattle.pce_tool.specs.Limits.{certificate_max}
use Rattle.dom_edge.specs.Stores.{Files, IfFile}
use Rattle.pce_tool.specs.Worlds.{World, WroteNothing}
use Rattle.pce_tool.specs.Files.{File, TopologyFile, CertificateFile, PairFile, HoldsAtFile, IsTopo, IsFaultIn, name_of, limit_of}
use Rattle.pce_tool.specs.Parts.{IsBadAt, IsFileStatus, IsInputStatus, IsFinished}
use Rattle.pce_tool.specs.Run.{Command, Verify, PairVerify, FilesRead, IsBad, IsOutput, Ends, files_of, topology_of}

pub keeps_refl : (o : Option (List ℕ)) → Keeps o o
keeps_refl None = tt
keeps_refl (Some xs) = refl

-- the status of a topology whose text is refused at a line
pub topology_status : (files : Option Files) (name : List ℕ) (line : ℕ) (fault : TopoFault) (counts : ℕ × ℕ) (failed : List ℕ) → IfFile files name (λ bytes. IsFaulty bytes line fault) →
    (s : Status) → IsBadAt name line fault s → IsFileStatus files name topology_max (λ bytes line. IsTopo (λ told. IsFaulty bytes line told)) counts failed s
topology_status files name line fault counts failed is status.Ok bad = absurd bad
topology_status files name line fault counts failed is status.Usage bad = absurd bad
topology_status files name line fault counts failed is status.ReadFault bad = absurd bad
topology_status files name line fault counts failed is status.WriteFault bad = absurd bad
topology_status files name line fault counts failed is (status.BadNetwork file at other) bad = (bad.0, told files is)
  where
    told : (held : Option Files) → IfFile held name (λ bytes. IsFaulty bytes line fault) → IfFile held name (λ bytes. IsTopo (λ f. IsFaulty bytes at f) other)
    told None is = tt
    told (Some fs) is = (is.0, is.1, (fault, bad.2, subst (λ (k : ℕ). IsFaulty is.0 k fault) (sym bad.1) is.2))
topology_status files name line fault counts failed is status.Faulty bad = absurd bad
topology_status files name line fault counts failed is (status.BadLine number) bad = absurd bad
topology_status files name line fault counts failed is status.NoMemory bad = tt
topology_status files name line fault counts failed is (status.BadRequest why) bad = absurd bad
topology_status files name line fault counts failed is (status.Refuted place) bad = absurd bad
topology_status files name line fault counts failed is (status.TooLarge file) bad = absurd bad

-- the first file of a command
first : (w : World) (c : Command) (name : List ℕ) (rest : List File) (P : File → Type 0) → files_of c ≡ TopologyFile name ∷ rest → P (TopologyFile name) →
    HoldsAtFile w.files (files_of c) P
first w c name rest P is holds = subst (λ (fs : List File). HoldsAtFile w.files fs P) (sym is) (inl holds)

-- the topology was not read
pub topology_ends : (w : World) (c : Command) (name : List ℕ) (rest : List File) → files_of c ≡ TopologyFile name ∷ rest → WroteNothing w → (s : Status) →
    IsFileStatus w.files name topology_max (λ bytes line. IsTopo (λ told. IsFaulty bytes line told)) w.store_faults w.failed_at s → Ends w c s
topology_ends w c name rest is nothing status.Ok why = absurd why
topology_ends w c name rest is nothing status.Usage why = absurd why
topology_ends w c name rest is nothing status.ReadFault why = (nothing, inl (first w c name rest _ is why))
topology_ends w c name rest is nothing status.WriteFault why = absurd why
topology_ends w c name rest is nothing (status.BadNetwork file line fault) why = (nothing, first w c name rest _ is why)
topology_ends w c name rest is nothing status.Faulty why = absurd why
topology_ends w c name rest is nothing (status.BadLine line) why = absurd why
topology_ends w c name rest is nothing status.NoMemory why = nothing
topology_ends w c name rest is nothing (status.BadRequest reason) why = absurd why
topology_ends w c name rest is nothing (status.Refuted place) why = absurd why
topology_ends w c name rest is nothing (status.TooLarge file) why = (nothing, inl (first w c name rest _ is why))

-- the second file of a command
second : (w : World) (c : Command) (topology : List ℕ) (g : Rows) (f : File) (P : File → Type 0) → files_of c ≡ TopologyFile topology ∷ f ∷ [] → HasTopology w.files topology g →
    P f → HoldsAtFile w.files (files_of c) P
second w c topology g f P is has holds = subst (λ (fs : List File). HoldsAtFile w.files fs P) (sym is) (inr ((g, has), inl holds))

-- the topology was read, and the second file was not
second_ends : (w : World) (c : Command) (topology : List ℕ) (g : Rows) (f : File) (IsFault : List ℕ → ℕ → NetFault → Type 0) → files_of c ≡ TopologyFile topology ∷ f ∷ [] →
    HasTopology w.files topology g → ((bytes : List ℕ) (line : ℕ) (fault : NetFault) → IsFault bytes line fault → IsFaultIn w.files f bytes line fault) → WroteNothing w → (s : Status) →
    IsFileStatus w.files (name_of f) (limit_of f) IsFault w.store_faults w.failed_at s → Ends w c s
second_ends w c topology g f IsFault is has in_file nothing status.Ok why = absurd why
second_ends w c topology g f IsFault is has in_file nothing status.Usage why = absurd why
second_ends w c topology g f IsFault is has in_file nothing status.ReadFault why = (nothing, inl (second w c topology g f _ is has why))
second_ends w c topology g f IsFault is has in_file nothing status.WriteFault why = absurd why
second_ends w c topology g f IsFault is has in_file nothing (status.BadNetwork file line fault) why = (nothing, second w c topology g f _ is has (why.0, told w.files why.1))
  where
    told : (files : Option Files) → IfFile files (name_of f) (λ bytes. IsFault bytes line fault) → IfFile files (name_of f) (λ bytes. IsFaultIn w.files f bytes line fault)
    told None h = tt
    told (Some fs) h = (h.0, h.1, in_file h.0 line fault h.2)
second_ends w c topology g f IsFault is has in_file nothing status.Faulty why = absurd why
second_ends w c topology g f IsFault is has in_file nothing (status.BadLine line) why = absurd why
second_ends w c topology g f IsFault is has in_file nothing status.NoMemory why = nothing
second_ends w c topology g f IsFault is has in_file nothing (status.BadRequest reason) why = absurd why
second_ends w c topology g f IsFault is has in_file nothing (status.Refuted place) why = absurd why
second_ends w c topology g f IsFault is has in_file nothing (status.TooLarge file) why = (nothing, inl (second w c topology g f _ is has why))

-- a read failed since an earlier moment
pub failed_since : (files : Option Files) (name : List ℕ) (limit : ℕ) (IsFault : List ℕ → ℕ → NetFault → Type 0) (a b c : ℕ) (failed_at : List ℕ) → a ≤ b → (s : Status) →
    IsFileStatus files name limit IsFault (b, c) failed_at s → IsFileStatus files name limit IsFault (a, c) failed_at s
failed_since files name limit IsFault a b c failed_at earlier status.Ok why = absurd why
failed_since files name limit IsFault a b c failed_at earlier status.Usage why = absurd why
failed_since files name limit IsFault a b c failed_at earlier status.ReadFault why = (omega (arith, earlier, why.0), why.1)
failed_since files name limit IsFault a b c failed_at earlier status.WriteFault why = absurd why
failed_since files name limit IsFault a b c failed_at earlier (status.BadNetwork file line fault) why = why
failed_since files name limit IsFault a b c failed_at earlier status.Faulty why = absurd why
failed_since files name limit IsFault a b c failed_at earlier (status.BadLine line) why = absurd why
failed_since files name limit IsFault a b c failed_at earlier status.NoMemory why = why
failed_since files name limit IsFault a b c failed_at earlier (status.BadRequest reason) why = absurd why
failed_since files name limit IsFault a b c failed_at earlier (status.Refuted place) why = absurd why
failed_since files name limit IsFault a b c failed_at earlier (status.TooLarge file) why = why

-- the topology was read, and the certificate of a path was not
pub certificate_ends : (w : World) (topology certificate : List ℕ) (g : Rows) → HasTopology w.files topology g → WroteNothing w → (s : Status) →
    IsFileStatus w.files certificate certificate_max (λ bytes line. IsTopo (λ told. certificate_in g bytes ≡ Err (At line told))) w.store_faults w.failed_at s →
    Ends w (Verify topology certificate) s
certificate_ends w topology certificate g has =
    second_ends w (Verify topology certificate) topology g (CertificateFile certificate topology) _ refl has (λ bytes line fault is. (is.0, is.1, (g, has, is.2)))

-- the topology was read, and the certificate of a pair was not
pub pair_certificate_ends : (w : World) (topology certificate : List ℕ) (g : Rows) → HasTopology w.files topology g → WroteNothing w → (s : Status) →
    IsFileStatus w.files certificate certificate_max (λ bytes line. IsTopo (λ told. pair_in g bytes ≡ Err (At line told))) w.store_faults w.failed_at s →
    Ends w (PairVerify topology certificate) s
pair_certificate_ends w topology certificate g has =
    second_ends w (PairVerify topology certificate) topology g (PairFile certificate topology) _ refl has (λ bytes line fault is. (is.0, is.1, (g, has, is.2)))

-- the input gave no request
pub input_ends : (w : World) (c : Command) (g : Rows) → FilesRead w c → HasTopology w.files (topology_of c) g → WroteNothing w → (s : Status) →
    IsInputStatus (IsBad c g.own.0) w.input w.input_faults s → Ends w c s
input_ends w c g read has nothing status.Ok is = absurd is
input_ends w c g read has nothing status.Usage is = absurd is
input_ends w c g read has nothing status.ReadFault is = (nothing, inr (read, is))
input_ends w c g read has nothing status.WriteFault is = absurd is
input_ends w c g read has nothing (status.BadNetwork file line fault) is = absurd is
input_ends w c g read has nothing status.Faulty is = absurd is
input_ends w c g read has nothing (status.BadLine line) is = absurd is
input_ends w c g read has nothing status.NoMemory is = nothing
input_ends w c g read has nothing (status.BadRequest why) is =
    (nothing, record { read = read; topology = g; is_topology = has; bytes = is.0; is_input = is.1; within = is.2; is_why = is.3 })
input_ends w c g read has nothing (status.Refuted place) is = absurd is
input_ends w c g read has nothing (status.TooLarge name) is = (nothing, inr (read, is.0, is.1))

-- the text was there to be written
pub finished : (w : World) (c : Command) (text : List ℕ) → IsOutput w c text → (s : Status) → IsFinished w.before w.after w.output_faults text s → Ends w c s
finished w c text out status.Ok is = (text, out, is)
finished w c text out status.Usage is = absurd is
finished w c text out status.ReadFault is = absurd is
finished w c text out status.WriteFault is = record { rose = is.0; text = text; is_output = out; part = is.1 }
finished w c text out (status.BadNetwork file line fault) is = absurd is
finished w c text out status.Faulty is = absurd is
finished w c text out (status.BadLine line) is = absurd is
finished w c text out status.NoMemory is = absurd is
finished w c text out (status.BadRequest why) is = absurd is
finished w c text out (status.Refuted place) is = absurd is
finished w c text out (status.TooLarge name) is = absurd is
