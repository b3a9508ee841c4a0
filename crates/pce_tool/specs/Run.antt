-- The input, output and status of a run of the program.
use Rattle.std.specs.Prelude.{◌≡◌, ◌⊎◌, ◌≤◌, ℕ, List, [], ◌∷◌, length, codes, Option, Some, None, if◌then◌else◌}
use Rattle.std.specs.Str.{bytes_eq}
use Rattle.std.specs.Io.KnownBytes.{Appends}
use Rattle.te_links.specs.Rows.{Rows}
use Rattle.dom_edge.specs.Stores.{IfFile, IsLongFile}
use Rattle.network_files.specs.Topologies.{HasTopology}
use Rattle.path_certificate.specs.declared.certificate.Certificate.{Certificate}
use Rattle.path_certificate.specs.declared.verdict.Place.{Place}
use Rattle.path_certificate.specs.Claims.{HoldsAt, IsFirstFalse}
use Rattle.one_domain.specs.declared.replying.PathRequest.{PathRequest}
use Rattle.pce_tool.specs.declared.reading.Why.{Why}
use Rattle.pce_tool.specs.declared.status.Status.{Status}
use Rattle.pce_tool.specs.declared.status.Status.TheVariants as status
use Rattle.pce_tool.specs.Limits.{input_max}
use Rattle.pce_tool.specs.Worlds.{World, HasInput, HasRisen, IsLongInput, WroteNothing, input_name}
use Rattle.pce_tool.specs.Files.{File, TopologyFile, CertificateFile, PairFile, HasCertificate, HasPairCertificate, HoldsAtFile, AreRead, IsFaultIn, name_of, limit_of}
use Rattle.dom_edge.specs.Whole.{AppendsSome}
use Rattle.pce_tool.specs.Requests.{IsPathRequest, IsWhy, IsPairRequest, IsPairWhy}
use Rattle.pce_tool.specs.Commands.Answer.{IsReplyText}
use Rattle.pce_tool.specs.Commands.Certify.{IsCertifiedText}
use Rattle.pce_tool.specs.Commands.Verify.{claim, holds_text}
use Rattle.pce_tool.specs.Commands.PairVerify.{pair_asked}
use Rattle.pce_tool.specs.Commands.Pair.{IsPairReplyText}
use Rattle.pce_tool.specs.Commands.PairCertify.{IsPairCertifiedText}
use Rattle.pce_tool.specs.declared.pair_reading.PairRequest.{PairRequest}
use Rattle.diverse_pairs.specs.declared.certificate.PairCertificate.{PairCertificate}
use Rattle.diverse_pairs.specs.Conditions.{HoldsAt as PairHoldsAt, IsFirstFalse as IsPairFirstFalse}

-- a command, with the names of its files
pub data Command : Type 0 where
  Answer : List ℕ → Command
  Certify : List ℕ → Command
  Verify : List ℕ → List ℕ → Command
  PairVerify : List ℕ → List ℕ → Command
  Pair : List ℕ → Command
  PairCertify : List ℕ → Command

-- the command that the words are, if any
abbrev pub command_of : List (List ℕ) → Option Command
command_of (verb ∷ topology ∷ []) =
    if bytes_eq verb (codes "answer") then Some (Answer topology)
    else (if bytes_eq verb (codes "certify") then Some (Certify topology)
    else (if bytes_eq verb (codes "pair") then Some (Pair topology)
    else (if bytes_eq verb (codes "pair-certify") then Some (PairCertify topology) else None)))
command_of (verb ∷ topology ∷ certificate ∷ []) =
    if bytes_eq verb (codes "verify") then Some (Verify topology certificate)
    else (if bytes_eq verb (codes "pair-verify") then Some (PairVerify topology certificate) else None)
command_of _ = None

-- the files that a command reads, in their order; then it reads the input
abbrev pub files_of : Command → List File
files_of (Answer topology) = TopologyFile topology ∷ []
files_of (Certify topology) = TopologyFile topology ∷ []
files_of (Verify topology certificate) = TopologyFile topology ∷ CertificateFile certificate topology ∷ []
files_of (PairVerify topology certificate) = TopologyFile topology ∷ PairFile certificate topology ∷ []
files_of (Pair topology) = TopologyFile topology ∷ []
files_of (PairCertify topology) = TopologyFile topology ∷ []

-- the file of the topology that the request is read for
abbrev pub topology_of : Command → List ℕ
topology_of (Answer topology) = topology
topology_of (Certify topology) = topology
topology_of (Verify topology certificate) = topology
topology_of (PairVerify topology certificate) = topology
topology_of (Pair topology) = topology
topology_of (PairCertify topology) = topology

-- the request in the input, at the element of that domain
pub record HasRequest (input : Option (List ℕ)) (own : ℕ) (r : PathRequest) : Type 0 where
  pub bytes : List ℕ
  pub is_input : HasInput input bytes
  pub within : length bytes ≤ input_max
  pub is_request : IsPathRequest own bytes r

-- the two requests for a pair in the input, at the element of that domain
pub record HasPairRequest (input : Option (List ℕ)) (own : ℕ) (r : PairRequest) : Type 0 where
  pub bytes : List ℕ
  pub is_input : HasInput input bytes
  pub within : length bytes ≤ input_max
  pub is_request : IsPairRequest own bytes r

-- why bytes are no request that a command answers
abbrev pub IsBad : Command → ℕ → List ℕ → Why → Type 0
IsBad (Answer topology) own = IsWhy own
IsBad (Certify topology) own = IsWhy own
IsBad (Verify topology certificate) own = IsWhy own
IsBad (PairVerify topology certificate) own = IsPairWhy own
IsBad (Pair topology) own = IsPairWhy own
IsBad (PairCertify topology) own = IsPairWhy own

-- the text that a command has to write
abbrev pub IsOutput : World → Command → List ℕ → Type 0
IsOutput w (Answer topology) text =
    (g : Rows) × (r : PathRequest) × HasTopology w.files topology g × HasRequest w.input g.own.0 r × IsReplyText g r text
IsOutput w (Certify topology) text =
    (g : Rows) × (r : PathRequest) × HasTopology w.files topology g × HasRequest w.input g.own.0 r × IsCertifiedText g r.wanted text
IsOutput w (Verify topology certificate) text =
    (g : Rows) × (c : Certificate) × (r : PathRequest) × HasTopology w.files topology g × HasCertificate w.files certificate g c × HasRequest w.input g.own.0 r
    × ((place : Place) → HoldsAt (claim g r c) place) × (text ≡ holds_text)
IsOutput w (PairVerify topology certificate) text =
    (g : Rows) × (c : PairCertificate) × (r : PairRequest) × HasTopology w.files topology g × HasPairCertificate w.files certificate g c
    × HasPairRequest w.input g.own.0 r × ((place : Place) → PairHoldsAt (pair_asked g r) c.form place) × (text ≡ holds_text)
IsOutput w (Pair topology) text =
    (g : Rows) × (r : PairRequest) × HasTopology w.files topology g × HasPairRequest w.input g.own.0 r × IsPairReplyText g r text
IsOutput w (PairCertify topology) text =
    (g : Rows) × (r : PairRequest) × HasTopology w.files topology g × HasPairRequest w.input g.own.0 r × IsPairCertifiedText g r text

-- the condition at the place is the first of the certificate's that is false
abbrev pub IsRefuted : World → Command → Place → Type 0
IsRefuted w (Verify topology certificate) place =
    (g : Rows) × (c : Certificate) × (r : PathRequest) × HasTopology w.files topology g × HasCertificate w.files certificate g c × HasRequest w.input g.own.0 r
    × IsFirstFalse (claim g r c) place
IsRefuted w (PairVerify topology certificate) place =
    (g : Rows) × (c : PairCertificate) × (r : PairRequest) × HasTopology w.files topology g × HasPairCertificate w.files certificate g c
    × HasPairRequest w.input g.own.0 r × IsPairFirstFalse (pair_asked g r) c.form place
IsRefuted w _ place = ⊥

-- it holds of a file of the command, and those before it are read
abbrev pub AtFile : World → Command → (File → Type 0) → Type 0
AtFile w c P = HoldsAtFile w.files (files_of c) P

-- all files of the command are read
abbrev pub FilesRead : World → Command → Type 0
FilesRead w c = AreRead w.files (files_of c)

-- the output failed, and what was written is a first part of the text
pub record IsWriteFault (w : World) (c : Command) : Type 0 where
  pub rose : HasRisen w.output_faults
  pub text : List ℕ
  pub is_output : IsOutput w c text
  pub part : AppendsSome w.before w.after text

-- the files are read, and the input is no request that is answered
pub record IsBadRequest (w : World) (c : Command) (why : Why) : Type 0 where
  pub read : FilesRead w c
  pub topology : Rows
  pub is_topology : HasTopology w.files (topology_of c) topology
  pub bytes : List ℕ
  pub is_input : HasInput w.input bytes
  pub within : length bytes ≤ input_max
  pub is_why : IsBad c topology.own.0 bytes why

-- Why a command ended as it did. After a status other than Ok and a write fault nothing was written; "out of memory" has no cause.
abbrev pub Ends : World → Command → Status → Type 0
Ends w c status.Ok = (text : List ℕ) × IsOutput w c text × Appends w.before w.after text
Ends w c status.Usage = ⊥
Ends w c status.ReadFault =
    WroteNothing w × (AtFile w c (λ f. HasRisen w.store_faults × (w.failed_at ≡ name_of f)) ⊎ (FilesRead w c × HasRisen w.input_faults))
Ends w c status.WriteFault = IsWriteFault w c
Ends w c (status.BadNetwork file line fault) =
    WroteNothing w × AtFile w c (λ f. (file ≡ name_of f) × IfFile w.files (name_of f) (λ bytes. IsFaultIn w.files f bytes line fault))
Ends w c status.Faulty = ⊥
Ends w c (status.BadLine line) = ⊥
Ends w c status.NoMemory = WroteNothing w
Ends w c (status.BadRequest why) = WroteNothing w × IsBadRequest w c why
Ends w c (status.Refuted place) = WroteNothing w × IsRefuted w c place
Ends w c (status.TooLarge name) =
    WroteNothing w × (AtFile w c (λ f. (name ≡ name_of f) × IsLongFile w.files (name_of f) (limit_of f)) ⊎ (FilesRead w c × (name ≡ input_name) × IsLongInput w.input))
