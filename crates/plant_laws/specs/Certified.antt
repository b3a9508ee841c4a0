-- The rows and the certificates of a solve, by the transcript: they are over the topology that the element had when it took the
-- request, from the seeds that the taken reply gives.
use Rattle.std.specs.Prelude.{◌≡◌, ℕ, List, [], ◌∷◌, Some}
use Rattle.dom_base.specs.declared.query.Seed.{Seed}
use Rattle.te_links.specs.Rows.{Rows}
use Rattle.walk_laws.specs.Certificate.{Certifies}
use Rattle.path_certificate.specs.declared.certificate.Certificate.{Certificate}
use Rattle.path_certificate.specs.Rows.{label_in}
use Rattle.plant_model.specs.Types.{As, Request, Wanted, RequestKey, Branch, Ask, NetworkParts}
use Rattle.pcep_messages.specs.declared.message.Wish.TheVariants as wishes
use Rattle.border_costs.specs.declared.answer.Answer.{Answer as Answers}
use Rattle.border_costs.specs.Solutions.{AreRows, IsLabelled}
use Rattle.plant_text.specs.Settings.{class_of}
use Rattle.plant_model.specs.Wire.{Codec}
use Rattle.plant_model.specs.Branches.{downs}
use Rattle.plant_model.specs.Jobs.{entries_of, target_along}
use Rattle.plant_model.specs.Taking.{sequence_or}
use Rattle.plant_model.specs.Plant.{Plant, Happened, Entry, deeds_of, ElementSolves, ask}
use Rattle.plant_model.specs.Routes.{toward}
use Rattle.plant_model.specs.Settings.{place}
use Rattle.plant_laws.specs.Transcript.{Transcript, Delivered, opened, pinned}
pub use Rattle.plant_laws.specs.Ends.{Tells, IsAnswered}
use Rattle.plant_laws.specs.Runs.{InShortRuns}

-- What was told of a request for the next domain of its sequence, by the peer to which requests for it go: its own element, or an
-- outside peer. Nothing is asked in the last domain. No sequence is empty.
abbrev pub IsServed : Codec → NetworkParts → Transcript → As → Transcript → Wanted → List As → List Branch → Type 0
IsServed c n older d at w [] down = ⊥
IsServed c n older d at w (a ∷ []) down = down ≡ []
IsServed c n older d at w (a ∷ b ∷ rest) down = IsAnswered c older d at w (toward b (place n d).routes) b rest down

-- The job and the rows that solve the request of a peer at an element: what was asked of the topology as it stood when the request was
-- taken, that these rows answer it, and that each certificate of this job meets the conditions over that topology from the seeds of
-- what was told.
pub record IsCertified (c : Codec) (n : NetworkParts) (older : Transcript) (d : As) (asker : RequestKey) (job : Ask) (topology : Rows) (rows : Answers) : Type 0 where
  pub at : Transcript
  pub is_open : opened c d asker.peer asker.id older ≡ Some at
  pub is_pinned : topology ≡ pinned d at
  pub request : Request
  pub delivered : Delivered c at d asker.peer request
  pub id : request.id ≡ asker.id
  pub wanted : Wanted
  pub is_path : request.wish ≡ wishes.Path wanted
  pub down : List Branch
  pub told : IsServed c n older d at wanted (sequence_or d wanted.sequence) down
  pub query : job.query ≡ wanted.query
  pub source : job.source ≡ wanted.source
  pub entries : job.entries ≡ entries_of (class_of n asker.peer) wanted.source (pinned d at)
  pub target : job.target ≡ target_along (sequence_or d wanted.sequence) wanted.target
  pub below : job.down ≡ downs down
  pub right : AreRows (pinned d at) job rows
  pub certified : (seeds : List Seed) (shown : Certificate) → IsLabelled topology job seeds shown → Certifies (pinned d at) wanted.query seeds (label_in shown.labels)

-- In every run, of every solve at an element that may come next: its request, its job and its own rows, by which it changes the network.
abbrev pub SolvesCertifyIn : Codec → NetworkParts → List Entry → Plant → Type 0
SolvesCertifyIn c n es s =
    (d : As) (k : ℕ) (h : Happened) (x : ElementSolves c n d k s h) →
    IsCertified c n (deeds_of c n es) d x.held.key (ask c n d (k, x.held) x.down) x.held.item.pin.topology x.rows

abbrev pub SolvesCertify : Type 0
SolvesCertify = InShortRuns SolvesCertifyIn
