-- A run in which a good request is served: two domains whose topologies are empty, and a client of the first that asks for a path
-- through both. There is none.
use Rattle.std.proofs.Common.{◌≡◌, ◌<◌, ℕ, Bool, true, false, cond, nat_lt, nat_eq, List, [], ◌∷◌, Some, subst, inl, inr, refl, arith, ltb-true}
use Rattle.std.specs.Prelude.{All, Contains}
use Rattle.std.specs.Map.{lookup}
use Rattle.std.proofs.lemmas.List.Elements.{All-nil, All-cons}
use Rattle.dom_base.specs.AddrOrder.{rank}
use Rattle.dom_base.specs.Parts.{parts_from}
use Rattle.plant_model.specs.Types.{As, Asked, Reply, Wanted, Held, NetworkParts, PeerRow, Outside, Inner}
use Rattle.dom_base.specs.declared.addr.Addr.TheVariants.{V4}
use Rattle.pcep_objects.specs.Bodies.{body_of}
use Rattle.pcep_messages.specs.Refusals.{is_bound, is_minimised}
use Rattle.pcep_messages.specs.declared.message.Answer.TheVariants.{NoPath}
use Rattle.pcep_messages.specs.declared.message.Message.TheVariants as messages
use Rattle.disclosure.specs.declared.class.Class.TheVariants.{Client, Neighbour}
use Rattle.te_generations.specs.Live.{empty_rows}
use Rattle.walk_laws.specs.Crossing.{query_in}
use Rattle.border_costs.specs.declared.answer.Answer.{Answer}
use Rattle.border_costs.specs.Asks.{target_seed}
use Rattle.border_costs.specs.Solutions.{AreRows}
use Rattle.plant_model.specs.declared.event.Event.{Event}
use Rattle.plant_model.specs.declared.event.Event.TheVariants as event
use Rattle.plant_model.specs.declared.output.Output.{Output}
use Rattle.plant_model.specs.RealWire.{wire}
use Rattle.plant_model.specs.Writing.{asked_of, request_message, no_path, vspt_flag}
use Rattle.plant_model.specs.Element.{Item, Ready}
use Rattle.plant_model.specs.State.{Pops, Takes, Solves}
use Rattle.plant_model.specs.Plant.{Pin, Plant, Happened, IsGiven, Happens, happened, solved, ask, ElementSolves, opened, first_pin}
use Rattle.plant_model.specs.Samples.{As_, wanted, asks, the_open}
use Rattle.plant_model.specs.SampleRuns.{element, three}
use Rattle.plant_laws.specs.Met.{RunOf}
use Rattle.plant_laws.specs.Transcript.{Transcript}

-- ---- the network

abbrev pub first_peer : List PeerRow → List PeerRow
first_peer [] = []
first_peer (p ∷ ps) = p ∷ []

abbrev pub two : NetworkParts
two = record three { elements = element 1 false ∷ element 2 false ∷ []; links = (As_ 1, As_ 2) ∷ []; peers = first_peer three.peers }

-- ---- a run, event by event

abbrev small : List ℕ → Bool
small [] = true
small (b ∷ bs) = cond (nat_lt b 256) (small bs) false

all_small : (bs : List ℕ) → small bs ≡ true → All (λ (b : ℕ). b < 256) bs
all_small [] e = All-nil (λ (b : ℕ). b < 256)
all_small (b ∷ bs) e = go (nat_lt b 256) refl e (all_small bs)
  where
    go : (t : Bool) → nat_lt b 256 ≡ t → cond t (small bs) false ≡ true → (small bs ≡ true → All (λ (x : ℕ). x < 256) bs) → All (λ (x : ℕ). x < 256) (b ∷ bs)
    go true is e' more = All-cons (λ (x : ℕ). x < 256) b bs (ltb-true b 256 is) (more e')
    go false is e' more = absurd (let clash : false ≡ true = e' in cc)

-- one more event, with its deeds
abbrev pub on : (r : RunOf wire two) (e : Event) → IsGiven e → (h : Happened) → Happens wire two r.state e h → (ds : Transcript) → h.deeds ≡ ds → RunOf wire two
on r e given h is ds same = record {
  entries = record { event = e; answer = h.answer; deeds = ds } ∷ r.entries;
  state = h.state;
  run = (r.state, r.run, given, inl (subst (λ (l : Transcript). Happens wire two r.state e (record { answer = h.answer; state = h.state; deeds = l })) same is));
}

-- an event that is determined
pub record IsPlain (e : Event) : Type 0 where
  pub given : IsGiven e
  pub happens : (s : Plant) → Happens wire two s e (happened wire two s e)

abbrev pub ArePlain : List Event → Type 0
ArePlain [] = Unit {0}
ArePlain (e ∷ es) = IsPlain e × ArePlain es

abbrev pub played : (es : List Event) → ArePlain es → RunOf wire two → RunOf wire two
played [] plain r = r
played (e ∷ es) plain r = played es plain.1 (on r e plain.0.given (happened wire two r.state e) (plain.0.happens r.state) (happened wire two r.state e).deeds refl)

abbrev pub question : Wanted
question = wanted (V4 1) (V4 3)

-- the link and the client's session come up, and the client's request is fed
abbrev pub beginning : List Event
beginning =
    event.Carry (As_ 1) (As_ 2) ∷ event.Carry (As_ 2) (As_ 1) ∷ event.Carry (As_ 1) (As_ 2) ∷ event.Carry (As_ 2) (As_ 1) ∷ event.Open 0 0 ∷ event.Feed 0 (wire.text the_open)
    ∷ event.Feed 0 (wire.text messages.Keepalive) ∷ event.Feed 0 (wire.text (asks 7 (V4 1) (V4 3) (As_ 1 ∷ As_ 2 ∷ []))) ∷ event.Take 0 ∷ event.Take 0 ∷ []

carried : (a b : As) → IsPlain (event.Carry a b)
carried a b = record { given = tt; happens = λ s. refl }

taken : (i : ℕ) → IsPlain (event.Take i)
taken i = record { given = tt; happens = λ s. refl }

fed : (bytes : List ℕ) → small bytes ≡ true → IsPlain (event.Feed 0 bytes)
fed bytes is = record { given = all_small bytes is; happens = λ s. refl }

pub plain : ArePlain beginning
plain = (
  carried (As_ 1) (As_ 2),
  (carried (As_ 2) (As_ 1), (carried (As_ 1) (As_ 2), (carried (As_ 2) (As_ 1), (record { given = tt; happens = λ s. refl }, (fed _ refl, (fed _ refl, (fed _ refl, (taken 0, (taken 0, tt))))))))),
)

unfoldable pub begun : RunOf wire two
begun = played beginning plain (record { entries = []; state = (opened wire two).state; run = refl })

-- the first element takes the request, and sends it on
abbrev pub asked_first : Asked
asked_first = asked_of 7 question (V4 3) (As_ 1 ∷ As_ 2 ∷ [])

abbrev pub wanted_first : Wanted
wanted_first = record question { sequence = As_ 1 ∷ As_ 2 ∷ [] }

abbrev pub sent_on : Output
sent_on = record { to = Inner (As_ 2); message = request_message 1 wanted_first (V4 3) (As_ 2 ∷ []) }

abbrev pub takes_first : Transcript
takes_first = Takes (As_ 1) (Outside 0) (messages.PcReq (asked_first ∷ [])) (sent_on ∷ []) ∷ []

pub does_first : (happened wire two begun.state (event.Take 0)).deeds ≡ takes_first
unfolding begun rank parts_from body_of is_bound is_minimised
does_first = refl

unfoldable pub first : RunOf wire two
first = on begun (event.Take 0) tt (happened wire two begun.state (event.Take 0)) refl takes_first does_first

-- the second takes it
abbrev pub asked_second : Asked
asked_second = asked_of 1 wanted_first (V4 3) (As_ 2 ∷ [])

abbrev pub wanted_second : Wanted
wanted_second = record wanted_first { query = query_in wanted_first.query (As_ 2); sequence = As_ 2 ∷ [] }

abbrev pub takes_second : Transcript
takes_second = Takes (As_ 2) (Inner (As_ 1)) (messages.PcReq (asked_second ∷ [])) [] ∷ Pops (As_ 1) (As_ 2) ∷ []

pub does_second : (happened wire two first.state (event.Carry (As_ 1) (As_ 2))).deeds ≡ takes_second
unfolding first begun rank parts_from body_of is_bound is_minimised
does_second = refl

unfoldable pub second : RunOf wire two
second = on first (event.Carry (As_ 1) (As_ 2)) tt (happened wire two first.state (event.Carry (As_ 1) (As_ 2))) refl takes_second does_second

-- ---- in a topology without nodes there is no walk

nothing_in : {A X : Type 0} (x : A) → Contains [] x → X
nothing_in x has = absurd (omega (arith, has.1))

-- nothing was found in the last domain
abbrev pub rows_second : Answer
rows_second = record { best = []; source_known = false; target_known = false }

abbrev pub held_second : Held (Item Pin)
held_second = record {
  key = record { peer = Inner (As_ 1); id = 1 };
  item = record { class = Neighbour (As_ 1); flags = vspt_flag; wanted = wanted_second; sequence = As_ 2 ∷ []; pin = first_pin (As_ 2); stage = Ready [] };
}

pub right_second : AreRows (empty_rows (As_ 2)) (ask wire two (As_ 2) (1, held_second) []) rows_second
right_second = record {
  seeds = target_seed (V4 3) ∷ [];
  are_seeds = record { are = refl; few = omega arith };
  best = refl;
  source_known = (λ is. (let clash : false ≡ true = is in cc), λ has. nothing_in (V4 1) has);
  target_known = (λ is. (let clash : false ≡ true = is in cc), λ has. nothing_in (V4 3) has);
}

pub is_held_second : lookup (nat_eq 1) (second.state.elements (As_ 2)).pending.rows ≡ Some held_second
unfolding second first begun rank parts_from body_of is_bound is_minimised
is_held_second = refl

pub solves_second : ElementSolves wire two (As_ 2) 1 second.state (solved wire two (As_ 2) (1, held_second) [] rows_second second.state)
solves_second = record { upper = refl; held = held_second; is_held = is_held_second; down = []; ready = refl; rows = rows_second; right = right_second; is = refl }

abbrev pub none_second : Reply
none_second = record { flags = vspt_flag; id = 1; answer = NoPath 0 0 }

abbrev pub answers_second : Transcript
answers_second = Solves (As_ 2) 1 (record { to = Inner (As_ 1); message = messages.PcRep (none_second ∷ []) } ∷ []) [] ∷ []

pub does_third : (solved wire two (As_ 2) (1, held_second) [] rows_second second.state).deeds ≡ answers_second
unfolding second first begun rank parts_from body_of is_bound is_minimised
does_third = refl

unfoldable pub third : RunOf wire two
third = on second (event.Solve (As_ 2) 1) tt (solved wire two (As_ 2) (1, held_second) [] rows_second second.state) (inr (inr (inl (refl, solves_second)))) answers_second does_third

-- the first hears that there is none
abbrev pub hears_first : Transcript
hears_first = Takes (As_ 1) (Inner (As_ 2)) (messages.PcRep (none_second ∷ [])) [] ∷ Pops (As_ 2) (As_ 1) ∷ []

pub does_fourth : (happened wire two third.state (event.Carry (As_ 2) (As_ 1))).deeds ≡ hears_first
unfolding third second first begun rank parts_from body_of is_bound is_minimised
does_fourth = refl

unfoldable pub fourth : RunOf wire two
fourth = on third (event.Carry (As_ 2) (As_ 1)) tt (happened wire two third.state (event.Carry (As_ 2) (As_ 1))) refl hears_first does_fourth

-- and tells its client
abbrev pub rows_first : Answer
rows_first = record { best = []; source_known = false; target_known = true }

abbrev pub held_first : Held (Item Pin)
held_first = record {
  key = record { peer = Outside 0; id = 7 };
  item = record { class = Client true; flags = vspt_flag; wanted = wanted_first; sequence = As_ 1 ∷ As_ 2 ∷ []; pin = first_pin (As_ 1); stage = Ready [] };
}

pub right_first : AreRows (empty_rows (As_ 1)) (ask wire two (As_ 1) (1, held_first) []) rows_first
right_first = record {
  seeds = [];
  are_seeds = record { are = record { each = λ s has. nothing_in s has; every = λ o s is. nothing_in o is.out.is_out }; few = omega arith };
  best = inl (λ a joins. nothing_in joins.out joins.row.out.is_out, refl);
  source_known = (λ is. (let clash : false ≡ true = is in cc), λ has. nothing_in (V4 1) has);
  target_known = (λ is. tt, λ is. refl);
}

pub is_held_first : lookup (nat_eq 1) (fourth.state.elements (As_ 1)).pending.rows ≡ Some held_first
unfolding fourth third second first begun rank parts_from body_of is_bound is_minimised
is_held_first = refl

pub solves_first : ElementSolves wire two (As_ 1) 1 fourth.state (solved wire two (As_ 1) (1, held_first) [] rows_first fourth.state)
solves_first = record { upper = refl; held = held_first; is_held = is_held_first; down = []; ready = refl; rows = rows_first; right = right_first; is = refl }

abbrev pub none_first : Reply
none_first = record { flags = vspt_flag; id = 7; answer = no_path false true }

abbrev pub answers_first : Transcript
answers_first = Solves (As_ 1) 1 (record { to = Outside 0; message = messages.PcRep (none_first ∷ []) } ∷ []) [] ∷ []

pub does_last : (solved wire two (As_ 1) (1, held_first) [] rows_first fourth.state).deeds ≡ answers_first
unfolding fourth third second first begun rank parts_from body_of is_bound is_minimised
does_last = refl

unfoldable pub last : RunOf wire two
last = on fourth (event.Solve (As_ 1) 1) tt (solved wire two (As_ 1) (1, held_first) [] rows_first fourth.state) (inr (inr (inl (refl, solves_first)))) answers_first does_last
