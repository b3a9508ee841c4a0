-- The answers to a request for a pair, and that their message is short enough.
use Rattle.std.proofs.Common.{◌≡◌, inl, inr, ℕ, ◌+◌, ◌*◌, ◌<◌, ◌≤◌, List, [], ◌∷◌, ◌++◌, length, map, arith, ◌∙◌, ap, subst, length-append, append-nil, Some}
use Rattle.std.specs.Prelude.{All, Contains}
use Rattle.std.specs.List.{flat_map}
use Rattle.std.proofs.lemmas.Bool.Decides.{eqb_tells}
use Rattle.std.proofs.lemmas.List.Concat.{flat_map-cons, flat_map-append}
use Rattle.std.proofs.lemmas.List.Elements.{Contains-get_or}
use Rattle.dom_base.specs.declared.limits.TheConstants.{COST_MAX}
use Rattle.client_laws.specs.plant_model.Types.{Addr, Link, Answer, Path, Reply, Wanted}
use Rattle.dom_base.specs.declared.addr.Addr.TheVariants.{V4, V6}
use Rattle.te_links.specs.Rows.{Rows}
use Rattle.walk_laws.specs.Walks.{Walk, cost}
use Rattle.pcep_subobjects.specs.Hops.{hop_text, hops_text, strict_hop}
use Rattle.pcep_objects.specs.Spelling.{object_text}
use Rattle.disclosure.specs.Shown.{open_of}
use Rattle.pcep_messages.specs.declared.message.Answer.TheVariants as answers
use Rattle.pcep_messages.specs.declared.message.Message.TheVariants as messages
use Rattle.pcep_messages.specs.Spelling.{message_text, reply_objects, objects_text}
use Rattle.diverse_pairs.specs.Conditions.{asked_of, IsShownBy}
use Rattle.diverse_pairs.specs.Pairs.{IsFeasiblePair}
use Rattle.diverse_pairs.specs.Solution.{ShowsChosen}
use Rattle.diverse_pairs.proofs.Best.{walk_links}
use Rattle.pce_tool.specs.Commands.Pair.{IsShownPath, AnswersChosen}
use Rattle.pce_tool.specs.PairParts.{IsSmallAnswer}

-- the links of a walk are links of the domain
links_stand : (g : Rows) (w : Wanted) (ls : List Link) → Walk g w.query w.source w.target ls → All (Contains g.links) ls
links_stand g w ls walk k d below = (walk_links g w.query w.source w.target ls walk _ (Contains-get_or ls k d below)).is_link

-- what adding up the weights of shown links tells
abbrev pub Costs : Rows → Wanted → List Addr → ℕ → Type 0
Costs g w shown total = (s : Addr) (ls : List Link) → IsShownBy s ls shown → All (Contains g.links) ls → total ≡ cost w.query ls

shown_path : (w : Wanted) (links : List Link) (shown : List Addr) (total : ℕ) (a : Answer) → IsShownBy w.source links shown → total ≡ cost w.query links → IsShownPath w.query.metric shown total a →
    IsShownPath w.query.metric (w.source ∷ map (λ l. l.far) links) (cost w.query links) a
shown_path w links shown total a shows costs path =
    subst (λ (xs : List Addr). IsShownPath w.query.metric xs (cost w.query links) a) shows (subst (λ n. IsShownPath w.query.metric shown n a) costs path)

pub chosen_answers : (g : Rows) (w : Wanted) (first second : List Addr) (n m : ℕ) (one other : Answer) → ShowsChosen (asked_of g w.query w.source w.target) first second → Costs g w first n → Costs g w second m →
    n + m ≤ COST_MAX → IsShownPath w.query.metric first n one → IsShownPath w.query.metric second m other → AnswersChosen g w one other
chosen_answers g w first second n m one other c costs_one costs_other within path_one path_other =
    let pair = c.least.pair in
    let is_n : n ≡ cost w.query c.one = costs_one w.source c.one c.shows_one (links_stand g w c.one pair.first_walk) in
    let is_m : m ≡ cost w.query c.other = costs_other w.source c.other c.shows_other (links_stand g w c.other pair.second_walk) in
    record {
      first = c.one;
      second = c.other;
      chosen = c.chosen;
      feasible = record { pair = pair; within = omega (arith, within, is_n, is_m) };
      least = c.least;
      shows_first = shown_path w c.one first n one c.shows_one is_n path_one;
      shows_second = shown_path w c.other second m other c.shows_other is_m path_other;
    }

-- where the sum is above the greatest cost, no pair is within it
pub none_within : (g : Rows) (w : Wanted) (first second : List Addr) (n m : ℕ) → ShowsChosen (asked_of g w.query w.source w.target) first second → Costs g w first n → Costs g w second m → COST_MAX < n + m →
    (a b : List Link) → IsFeasiblePair g w.query w.source w.target a b → ⊥
none_within g w first second n m c costs_one costs_other above a b feasible =
    let pair = c.least.pair in
    omega (
      arith,
      above,
      costs_one w.source c.one c.shows_one (links_stand g w c.one pair.first_walk),
      costs_other w.source c.other c.shows_other (links_stand g w c.other pair.second_walk),
      c.least.least a b feasible.pair,
      feasible.within,
    )

-- ---- the message is short

hop_short : (a : Addr) → length (hop_text (strict_hop a)) ≤ 20
hop_short (V4 n) = omega arith
hop_short (V6 n) = omega arith

hops_short : (addrs : List Addr) → length (hops_text (open_of addrs)) ≤ 20 * length addrs
hops_short [] = omega arith
hops_short (a ∷ addrs) =
    omega (
      arith,
      ap length (flat_map-cons hop_text (strict_hop a) (open_of addrs)),
      length-append (hop_text (strict_hop a)) (hops_text (open_of addrs)),
      hop_short a,
      hops_short addrs,
    )

abbrev reply_text : Reply → List ℕ
reply_text r = objects_text (reply_objects r)

path_short : (flags id kind word : ℕ) (addrs : List Addr) → length addrs ≤ 1024 →
    length (reply_text (record { flags = flags; id = id; answer = answers.Paths (record { hops = open_of addrs; metric = Some (kind, word) } ∷ []) })) ≤ 28 + 20 * 1024
path_short flags id kind word addrs few =
    let shown : length (reply_text (record { flags = flags; id = id; answer = answers.Paths (record { hops = open_of addrs; metric = Some (kind, word) } ∷ []) })) ≡ 28 + length (hops_text (open_of addrs)) =
    simp (length-append) (omega arith) in
    omega (arith, shown, hops_short addrs, few)

none_short : (flags id vector : ℕ) → length (reply_text (record { flags = flags; id = id; answer = answers.NoPath 0 vector })) ≤ 28
none_short flags id vector = elim (eqb_tells vector 0) [ inl t ↦ rw t.0 (omega arith) | inr f ↦ rw f.0 (omega arith) ]

reply_short : (flags id : ℕ) (a : Answer) → IsSmallAnswer a → length (reply_text (record { flags = flags; id = id; answer = a })) ≤ 28 + 20 * 1024
reply_short flags id (answers.Paths paths) (addrs, metric, few, is) =
    let reply : List Path → Reply = λ ps. record { flags = flags; id = id; answer = answers.Paths ps } in
    omega (arith, path_short flags id metric.0 metric.1 addrs few, ap (λ (ps : List Path). length (reply_text (reply ps))) is)
reply_short flags id (answers.NoPath nature vector) is =
    let reply : ℕ → Reply = λ n. record { flags = flags; id = id; answer = answers.NoPath n vector } in
    omega (arith, none_short flags id vector, ap (λ n. length (reply_text (reply n))) is)

two_replies : (r k : Reply) → length (message_text (messages.PcRep (r ∷ k ∷ []))) ≡ 4 + length (reply_text r) + length (reply_text k)
two_replies r k =
    let objects = flat_map-cons reply_objects r (k ∷ []) ∙ ap (λ os. reply_objects r ++ os) (flat_map-cons reply_objects k [] ∙ append-nil (reply_objects k)) in
    let text : objects_text (flat_map reply_objects (r ∷ k ∷ [])) ≡ reply_text r ++ reply_text k = ap objects_text objects ∙ flat_map-append object_text (reply_objects r) (reply_objects k) in
    omega (arith, ap length text, length-append (reply_text r) (reply_text k))

pub replies_fit : (flags first second : ℕ) (one other : Answer) → IsSmallAnswer one → IsSmallAnswer other →
    length (message_text (messages.PcRep (record { flags = flags; id = first; answer = one } ∷ record { flags = flags; id = second; answer = other } ∷ []))) ≤ 65532
replies_fit flags first second one other small_one small_other =
    omega (
      arith,
      two_replies (record { flags = flags; id = first; answer = one }) (record { flags = flags; id = second; answer = other }),
      reply_short flags first one small_one,
      reply_short flags second other small_other,
    )

pub path_again : (w : Wanted) (shown : List Addr) (n m : ℕ) (a : Answer) → n ≡ m → IsShownPath w.query.metric shown n a → IsShownPath w.query.metric shown m a
path_again w shown n m a same path = subst (λ k. IsShownPath w.query.metric shown k a) same path
