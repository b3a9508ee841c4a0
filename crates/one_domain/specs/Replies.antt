-- The reply to a client in one domain (RFC 5440, section 6.5).
use Rattle.std.specs.Prelude.{◌≡◌, ◌⊎◌, ℕ, List, [], ◌∷◌, Some}
use Rattle.dom_base.specs.declared.addr.Addr.{Addr}
use Rattle.dom_base.specs.declared.query.Metric.{Metric}
use Rattle.dom_base.specs.Words.{HasValue}
use Rattle.te_links.specs.Rows.{Rows}
use Rattle.disclosure.specs.Shown.{open_of}
use Rattle.pcep_codes.specs.declared.no_paths.TheConstants as no_paths
use Rattle.pcep_messages.specs.declared.message.Answer.{Answer}
use Rattle.pcep_messages.specs.declared.message.Answer.TheVariants as answers
use Rattle.pcep_messages.specs.declared.message.Message.{Message}
use Rattle.pcep_messages.specs.declared.message.Message.TheVariants as messages
use Rattle.pcep_messages.specs.declared.message.Wanted.{Wanted}
use Rattle.pcep_messages.specs.Requests.{type_of_metric}
use Rattle.one_domain.specs.declared.replying.PathRequest.{PathRequest}
use Rattle.one_domain.specs.declared.domain.Chosen.{Chosen}
use Rattle.one_domain.specs.Domain.{ShowsLeast, HasNone, IsUnknownVector}

-- a path of least cost, with a METRIC whose word is its cost
pub record AnswersLeast (g : Rows) (w : Wanted) (answer : Answer) : Type 0 where
  pub addrs : List Addr
  pub cost : ℕ
  pub shows : ShowsLeast g w.query w.source w.target addrs cost
  pub word : ℕ
  pub value : HasValue word cost
  pub is : answer ≡ answers.Paths (record { hops = open_of addrs; metric = Some (type_of_metric w.query.metric, word) } ∷ [])

-- there is no path within the cap: nature 0, with the bits for ends that are not known
pub record AnswersNone (g : Rows) (w : Wanted) (answer : Answer) : Type 0 where
  pub none : HasNone g w.query w.source w.target
  pub vector : ℕ
  pub is_vector : IsUnknownVector g w.source w.target vector
  pub is : answer ≡ answers.NoPath no_paths.NONE_FOUND vector

abbrev pub IsAnswer : Rows → Wanted → Answer → Type 0
IsAnswer g w answer = AnswersLeast g w answer ⊎ AnswersNone g w answer

-- the reply to a request, with its flags and its number
pub record IsReply (g : Rows) (r : PathRequest) (message : Message) : Type 0 where
  pub answer : Answer
  pub is_answer : IsAnswer g r.wanted answer
  pub is : message ≡ messages.PcRep (record { flags = r.flags; id = r.id; answer = answer } ∷ [])

-- the answer with this path
pub record IsPathAnswer (metric : Metric) (chosen : Chosen) (answer : Answer) : Type 0 where
  pub word : ℕ
  pub value : HasValue word chosen.cost
  pub is : answer ≡ answers.Paths (record { hops = open_of chosen.hops; metric = Some (type_of_metric metric, word) } ∷ [])
