-- A label has one chosen segment, and so a request one reply.
use Rattle.std.proofs.Common.{◌≡◌, ◌≤◌, inl, inr, ℕ, List, [], ◌∷◌, map, Some, sym, ◌∙◌, ap, subst, arith}
use Rattle.dom_base.specs.declared.limits.TheConstants.{COST_MAX}
use Rattle.dom_base.specs.Words.{word_of}
use Rattle.dom_base.proofs.CostWords.{one_word}
use Rattle.dom_base.specs.declared.addr.Addr.{Addr}
use Rattle.dom_base.specs.declared.link.Link.{Link}
use Rattle.te_links.specs.Rows.{Rows, IsInOrder}
use Rattle.walk_laws.specs.Labels.{IsSegment}
use Rattle.walk_laws.proofs.Segments.{one_segment}
use Rattle.disclosure.specs.Shown.{open_of}
use Rattle.pcep_messages.specs.declared.message.Answer.{Answer}
use Rattle.pcep_messages.specs.declared.message.Answer.TheVariants as answers
use Rattle.pcep_messages.specs.declared.message.Message.{Message}
use Rattle.pcep_messages.specs.declared.message.Message.TheVariants as messages
use Rattle.pcep_messages.specs.declared.message.Wanted.{Wanted}
use Rattle.one_domain.specs.declared.replying.PathRequest.{PathRequest}
use Rattle.one_domain.specs.Domain.{target_seeds, IsBitWhere}
use Rattle.pcep_messages.specs.Requests.{type_of_metric}
use Rattle.one_domain.specs.Replies.{AnswersLeast, AnswersNone, IsAnswer, IsReply}

abbrev paths : ℕ → List Addr → ℕ → Answer
paths kind addrs word = answers.Paths (record { hops = open_of addrs; metric = Some (kind, word) } ∷ [])

one_path : (g : Rows) (w : Wanted) (a b : Answer) → IsInOrder g → w.query.cap ≤ COST_MAX → AnswersLeast g w a → AnswersLeast g w b → a ≡ b
one_path g w a b order cap x y =
    let costs : x.cost ≡ y.cost = omega (
      arith,
      x.shows.is_cost,
      y.shows.is_cost,
      x.shows.least.least y.shows.links y.shows.least.feasible,
      y.shows.least.least x.shows.links x.shows.least.feasible,
    ) in
    let small : x.cost ≤ COST_MAX = omega (arith, x.shows.is_cost, x.shows.least.feasible.within, cap) in
    let small' : y.cost ≤ COST_MAX = omega (arith, costs, small) in
    let chosen : IsSegment g w.query (target_seeds w.target) w.source (record { cost = x.cost; exit = w.target }) y.shows.links =
    subst (λ (n : ℕ). IsSegment g w.query (target_seeds w.target) w.source (record { cost = n; exit = w.target }) y.shows.links) (sym costs) y.shows.chosen in
    let links : x.shows.links ≡ y.shows.links =
    one_segment g w.query (target_seeds w.target) w.source (record { cost = x.cost; exit = w.target }) x.shows.links y.shows.links order x.shows.chosen chosen in
    let addrs : x.addrs ≡ y.addrs = x.shows.shown ∙ ap (λ (ls : List Link). w.source ∷ map (λ (l : Link). l.far) ls) links ∙ sym y.shows.shown in
    let words : x.word ≡ y.word = one_word x.word x.cost small x.value ∙ ap word_of costs ∙ sym (one_word y.word y.cost small' y.value) in
    let kind : ℕ = type_of_metric w.query.metric in
    x.is ∙ ap (λ (hops : List Addr). paths kind hops x.word) addrs ∙ ap (λ (n : ℕ). paths kind y.addrs n) words ∙ sym y.is

one_bit : (P : Type 0) (bit m n : ℕ) → IsBitWhere P bit m → IsBitWhere P bit n → m ≡ n
one_bit P bit m n (inl a) (inl b) = a.1 ∙ sym b.1
one_bit P bit m n (inl a) (inr b) = absurd (b.0 a.0)
one_bit P bit m n (inr a) (inl b) = absurd (a.0 b.0)
one_bit P bit m n (inr a) (inr b) = a.1 ∙ sym b.1

one_none : (g : Rows) (w : Wanted) (a b : Answer) → AnswersNone g w a → AnswersNone g w b → a ≡ b
one_none g w a b x y =
    let sources = one_bit _ 4 x.is_vector.source y.is_vector.source x.is_vector.unknown_source y.is_vector.unknown_source in
    let targets = one_bit _ 2 x.is_vector.target y.is_vector.target x.is_vector.unknown_target y.is_vector.unknown_target in
    let vectors : x.vector ≡ y.vector = omega (arith, x.is_vector.sum, y.is_vector.sum, sources, targets) in
    x.is ∙ ap (λ (n : ℕ). answers.NoPath 0 n) vectors ∙ sym y.is

one_answer : (g : Rows) (w : Wanted) (a b : Answer) → IsInOrder g → w.query.cap ≤ COST_MAX → IsAnswer g w a → IsAnswer g w b → a ≡ b
one_answer g w a b order cap (inl x) (inl y) = one_path g w a b order cap x y
one_answer g w a b order cap (inl x) (inr y) = absurd (y.none x.shows.links x.shows.least.feasible)
one_answer g w a b order cap (inr x) (inl y) = absurd (x.none y.shows.links y.shows.least.feasible)
one_answer g w a b order cap (inr x) (inr y) = one_none g w a b x y

abbrev replies : PathRequest → Answer → Message
replies r answer = messages.PcRep (record { flags = r.flags; id = r.id; answer = answer } ∷ [])

pub one_reply : (g : Rows) (r : PathRequest) (m n : Message) → IsInOrder g → r.wanted.query.cap ≤ COST_MAX → IsReply g r m → IsReply g r n → m ≡ n
one_reply g r m n order cap x y =
    x.is ∙ ap (replies r) (one_answer g r.wanted x.answer y.answer order cap x.is_answer y.is_answer) ∙ sym y.is
