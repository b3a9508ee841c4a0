-- The files that a command reads, in their order.
use Rattle.std.specs.Prelude.{◌≡◌, ◌⊎◌, ◌≤◌, ℕ, List, [], ◌∷◌, length, Option, Ok, Err}
use Rattle.dom_edge.specs.Stores.{Files, HasFile}
use Rattle.te_links.specs.Rows.{Rows}
use Rattle.te_links.specs.declared.fault.TopoFault.{TopoFault}
use Rattle.te_text.specs.Reads.{IsFaulty}
use Rattle.network_files.specs.Topologies.{HasTopology, topology_max}
use Rattle.te_text.specs.declared.error.TextError.TheVariants.{At}
use Rattle.client_laws.specs.plant_model.Types.{NetFault}
use Rattle.path_certificate.specs.declared.certificate.Certificate.{Certificate}
use Rattle.path_certificate.specs.Text.{certificate_in}
use Rattle.diverse_pairs.specs.declared.certificate.PairCertificate.{PairCertificate}
use Rattle.diverse_pairs.specs.Text.{pair_in}
use Rattle.plant_text.specs.declared.fault.NetFault.TheVariants.{Topo}
use Rattle.pce_tool.specs.Limits.{certificate_max}

-- the certificate in the file of that name, for a topology
pub record HasCertificate (files : Option Files) (name : List ℕ) (g : Rows) (c : Certificate) : Type 0 where
  pub bytes : List ℕ
  pub is_file : HasFile files name bytes
  pub within : length bytes ≤ certificate_max
  pub is_text : certificate_in g bytes ≡ Ok c

-- the certificate of a pair in the file of that name, for a topology
pub record HasPairCertificate (files : Option Files) (name : List ℕ) (g : Rows) (c : PairCertificate) : Type 0 where
  pub bytes : List ℕ
  pub is_file : HasFile files name bytes
  pub within : length bytes ≤ certificate_max
  pub is_text : pair_in g bytes ≡ Ok c

-- a file by its name: a topology, or a certificate, of a path or of a pair, for the topology in another
pub data File : Type 0 where
  TopologyFile : List ℕ → File
  CertificateFile : List ℕ → List ℕ → File
  PairFile : List ℕ → List ℕ → File

abbrev pub name_of : File → List ℕ
name_of (TopologyFile name) = name
name_of (CertificateFile name topology) = name
name_of (PairFile name topology) = name

abbrev pub limit_of : File → ℕ
limit_of (TopologyFile name) = topology_max
limit_of (CertificateFile name topology) = certificate_max
limit_of (PairFile name topology) = certificate_max

-- the file has what it is to have
abbrev pub IsRead : Option Files → File → Type 0
IsRead files (TopologyFile name) = (g : Rows) × HasTopology files name g
IsRead files (CertificateFile name topology) = (g : Rows) × HasTopology files topology g × ((c : Certificate) × HasCertificate files name g c)
IsRead files (PairFile name topology) = (g : Rows) × HasTopology files topology g × ((c : PairCertificate) × HasPairCertificate files name g c)

-- a fault of a topology or of a certificate, and such
abbrev pub IsTopo : (TopoFault → Type 0) → NetFault → Type 0
IsTopo P fault = (told : TopoFault) × (fault ≡ Topo told) × P told

-- the bytes of the file are at fault at a line, the first that is
abbrev pub IsFaultIn : Option Files → File → List ℕ → ℕ → NetFault → Type 0
IsFaultIn files (TopologyFile name) bytes line = IsTopo (λ told. IsFaulty bytes line told)
IsFaultIn files (CertificateFile name topology) bytes line =
    IsTopo (λ told. (g : Rows) × HasTopology files topology g × (certificate_in g bytes ≡ Err (At line told)))
IsFaultIn files (PairFile name topology) bytes line =
    IsTopo (λ told. (g : Rows) × HasTopology files topology g × (pair_in g bytes ≡ Err (At line told)))

-- it holds of a file in the list, and those before it are read
abbrev pub HoldsAtFile : Option Files → List File → (File → Type 0) → Type 0
HoldsAtFile files [] P = ⊥
HoldsAtFile files (f ∷ fs) P = P f ⊎ (IsRead files f × HoldsAtFile files fs P)

abbrev pub AreRead : Option Files → List File → Type 0
AreRead files [] = Unit {0}
AreRead files (f ∷ fs) = IsRead files f × AreRead files fs
