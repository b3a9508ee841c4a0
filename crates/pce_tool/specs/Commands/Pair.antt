-- `pair TOPO`: the two replies to a client that asks for a pair, as lower-case hexadecimal text and a line end.
use Rattle.std.specs.Prelude.{◌≡◌, ◌⊎◌, ℕ, List, [], ◌∷◌, ◌++◌, map, Some}
use Rattle.client_laws.specs.plant_model.Types.{Link, Addr, Metric, Answer, Message, Wanted}
use Rattle.dom_base.specs.Words.{HasValue}
use Rattle.te_links.specs.Rows.{Rows}
use Rattle.walk_laws.specs.Walks.{cost}
use Rattle.line_text.specs.Hexadecimal.{hex_text}
use Rattle.disclosure.specs.Shown.{open_of}
use Rattle.pcep_messages.specs.declared.message.Answer.TheVariants as answers
use Rattle.pcep_messages.specs.declared.message.Message.TheVariants as messages
use Rattle.pcep_messages.specs.Spelling.{message_text}
use Rattle.one_domain.specs.Domain.{IsUnknownVector}
use Rattle.pcep_messages.specs.Requests.{type_of_metric}
use Rattle.diverse_pairs.specs.Pairs.{IsFeasiblePair, IsLeastPair}
use Rattle.diverse_pairs.specs.Chosen.{IsChosenPair}
use Rattle.pce_tool.specs.declared.pair_reading.PairRequest.{PairRequest}

-- the open form of a path that is shown so, with a METRIC whose word is the cost
pub record IsShownPath (metric : Metric) (shown : List Addr) (total : ℕ) (answer : Answer) : Type 0 where
  pub word : ℕ
  pub value : HasValue word total
  pub is : answer ≡ answers.Paths (record { hops = open_of shown; metric = Some (type_of_metric metric, word) } ∷ [])

-- the source, and then the far address of each link; its own cost
abbrev pub ShowsWalk : Wanted → List Link → Answer → Type 0
ShowsWalk w links answer = IsShownPath w.query.metric (w.source ∷ map (λ l. l.far) links) (cost w.query links) answer

-- the chosen pair, which is within the greatest cost; none has a smaller sum
pub record AnswersChosen (g : Rows) (w : Wanted) (one other : Answer) : Type 0 where
  pub first : List Link
  pub second : List Link
  pub chosen : IsChosenPair g w.query w.source w.target first second
  pub feasible : IsFeasiblePair g w.query w.source w.target first second
  pub least : IsLeastPair g w.query w.source w.target first second
  pub shows_first : ShowsWalk w first one
  pub shows_second : ShowsWalk w second other

-- there is no pair within the greatest cost: nature 0 twice, with the bits for ends that are not known
pub record AnswersNoPair (g : Rows) (w : Wanted) (one other : Answer) : Type 0 where
  pub none : (first second : List Link) → ¬ IsFeasiblePair g w.query w.source w.target first second
  pub vector : ℕ
  pub is_vector : IsUnknownVector g w.source w.target vector
  pub one_is : one ≡ answers.NoPath 0 vector
  pub other_is : other ≡ answers.NoPath 0 vector

abbrev pub ArePairAnswers : Rows → Wanted → Answer → Answer → Type 0
ArePairAnswers g w one other = AnswersChosen g w one other ⊎ AnswersNoPair g w one other

-- the replies, the first path under the first number
pub record IsPairReply (g : Rows) (r : PairRequest) (message : Message) : Type 0 where
  pub one : Answer
  pub other : Answer
  pub answers : ArePairAnswers g r.wanted one other
  pub is : message ≡ messages.PcRep (record { flags = r.flags; id = r.first; answer = one } ∷ record { flags = r.flags; id = r.second; answer = other } ∷ [])

pub record IsPairReplyText (g : Rows) (r : PairRequest) (text : List ℕ) : Type 0 where
  pub message : Message
  pub is_reply : IsPairReply g r message
  pub is_text : text ≡ hex_text (message_text message) ++ 10 ∷ []
