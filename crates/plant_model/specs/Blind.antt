-- The blind plant: the network without topologies, pins and segments. A solve carries its border table.
use Rattle.std.specs.Prelude.{◌≡◌, ◌⊎◌, ℕ, Bool, true, false, cond, nat_eq, List, [], ◌∷◌, ◌++◌, Option, Some, None, Ok, Err, ◌≤◌, AllPairs, All, map}
use Rattle.std.specs.Map.{lookup}
use Rattle.plant_model.specs.Types.{As, Peer, Outside, BorderRow, Hop, Held, Best, Branch, Sent, NetworkParts}
use Rattle.dom_base.specs.declared.limits.TheConstants.{COST_MAX}
use Rattle.te_links.specs.Rows.{FewDifferent}
use Rattle.border_costs.specs.Tables.{IsRowBefore, IsBorderTable}
use Rattle.plant_model.specs.declared.outcome.Refused.TheVariants.{NoSuchPeer, NoSuchJob, NoMemory}
use Rattle.plant_model.specs.declared.outcome.Outcome.TheVariants.{Done}
use Rattle.plant_text.specs.declared.limits.TheConstants.{ROW_ENTRIES_MAX}
use Rattle.plant_model.specs.declared.event.Event.{Event}
use Rattle.plant_model.specs.declared.event.Event.TheVariants as event
use Rattle.plant_model.specs.declared.event.BlindEvent.{BlindEvent}
use Rattle.plant_model.specs.declared.event.BlindEvent.TheVariants as blind
use Rattle.plant_text.specs.Names.{same_as, parent_as}
use Rattle.plant_model.specs.Wire.{Bytes, Codec}
use Rattle.plant_model.specs.Branches.{downs}
use Rattle.plant_model.specs.Jobs.{target_along, IsJoinOf}
use Rattle.plant_model.specs.Element.{Ready, Item, is_client}
use Rattle.plant_model.specs.BorderGraph.{Found, SolvesBorder}
use Rattle.plant_model.specs.Parent as parent
use Rattle.plant_text.specs.Settings.{class_of}
use Rattle.plant_model.specs.Settings.{family}
use Rattle.plant_model.specs.State.{State, Deed, sent_in, Hands}
use Rattle.plant_model.specs.Solving.{job_found}
use Rattle.plant_model.specs.Deeds as deeds
use Rattle.plant_model.specs.Deeds.{Going}
use Rattle.plant_model.specs.Events as events
use Rattle.plant_model.specs.Events.{is_ready, has_jobs}
use Rattle.plant_model.specs.Plant.{Pin, Plant, Entry, ask}

-- what a pin is, and what a key stands for
abbrev pub Nothing : Type 0
Nothing = Unit {0}

abbrev pub show_nothing : Nothing → List Hop
show_nothing u = []

abbrev pub BlindState : Type 0
BlindState = State Nothing Nothing

abbrev pub BlindHappened : Type 0
BlindHappened = events.Happened Nothing Nothing

module _ (c : Codec) (n : NetworkParts) where
  abbrev pub refused_job : BlindState → BlindHappened
  refused_job s = events.refused Nothing Nothing c n show_nothing NoSuchJob s

  -- An event that is no solve.
  abbrev pub happened : BlindState → BlindEvent → BlindHappened
  happened s (blind.Open i holder) = events.open_peer Nothing Nothing c n show_nothing i holder s
  happened s (blind.Shut i) = events.shut Nothing Nothing c n show_nothing i s
  happened s (blind.Feed i bytes) = events.feed Nothing Nothing c n show_nothing i bytes s
  happened s (blind.Take i) = events.take Nothing Nothing c n show_nothing i s
  happened s (blind.Carry a b) = events.carry Nothing Nothing c n show_nothing a b s
  happened s (blind.Break a b) = events.break Nothing Nothing c n show_nothing a b s
  happened s (blind.Tick t) = events.tick Nothing Nothing c n show_nothing t.0 s
  happened s (blind.Drain i holder) = events.drain Nothing Nothing c n show_nothing i holder s
  happened s (blind.Solve d k rows) = refused_job s

  abbrev pub done : Going Nothing Nothing → BlindHappened
  done g = record { answer = Ok Done; state = g.state; deeds = g.deeds }

  -- what the rows join to: nothing where a client asked, since no closed peer sees the answer to a client
  abbrev pub Joined : Item Nothing → List BorderRow → List Branch → List Best → Type 0
  Joined i rows down best =
      cond (is_client i.class) (best ≡ [])
      (IsJoinOf i.wanted.query.cap (target_along i.sequence i.wanted.target) rows (downs down) best)

  pub record BlindSolves (d : As) (k : ℕ) (rows : List BorderRow) (s : BlindState) (h : BlindHappened) : Type 0 where
    pub upper : same_as d parent_as ≡ false
    pub held : Held (Item Nothing)
    pub is_held : lookup (nat_eq k) (s.elements d).pending.rows ≡ Some held
    pub down : List Branch
    pub ready : held.item.stage ≡ Ready down
    pub best : List Best
    pub joined : Joined held.item rows down best
    pub is : h ≡ done (deeds.solve Nothing Nothing c n show_nothing d (k, held) down (λ b. tt) (job_found true true best) s)

  pub record BlindUpperSolves (k : ℕ) (s : BlindState) (h : BlindHappened) : Type 0 where
    pub held : Held parent.Asking
    pub is_held : lookup (nat_eq k) s.parent.pending.rows ≡ Some held
    pub ready : parent.is_ready held.item ≡ true
    pub answer : Option Found
    pub solves : SolvesBorder (parent.job_of (family n) (k, held)) answer
    pub is : h ≡ done (deeds.solve_upper Nothing Nothing c n show_nothing (k, held) answer s)

  abbrev pub SolveHappens : As → ℕ → List BorderRow → BlindState → BlindHappened → Type 0
  SolveHappens d k rows s h =
      ((has_jobs n d ≡ false) × (h ≡ events.refused Nothing Nothing c n show_nothing NoSuchPeer s))
      ⊎ ((has_jobs n d ≡ true) × (is_ready d k s ≡ false) × (h ≡ refused_job s))
      ⊎ ((has_jobs n d ≡ true) × BlindSolves d k rows s h)
      ⊎ ((has_jobs n d ≡ true) × (d ≡ parent_as) × BlindUpperSolves k s h)

  abbrev pub BlindHappens : BlindState → BlindEvent → BlindHappened → Type 0
  BlindHappens s (blind.Solve d k rows) h = SolveHappens d k rows s h
  BlindHappens s e h = h ≡ happened s e

  -- whether an event may be refused when out of memory: only where it takes memory
  abbrev pub needs_memory : BlindState → BlindEvent → Bool
  needs_memory s (blind.Shut i) = false
  needs_memory s (blind.Feed i bytes) = events.takes_feed (s.accesses i).connection
  needs_memory s (blind.Break a b) = false
  needs_memory s (blind.Tick t) = false
  needs_memory s _ = true

  -- A step: what happens, or out of memory, which changes nothing.
  abbrev pub BlindSteps : BlindState → BlindEvent → BlindHappened → Type 0
  BlindSteps s e h = BlindHappens s e h ⊎ ((needs_memory s e ≡ true) × (h ≡ events.refused Nothing Nothing c n show_nothing NoMemory s))

  abbrev pub blind_opened : Going Nothing Nothing
  blind_opened = events.opening Nothing Nothing c n show_nothing (λ d. tt)

-- The rows that the caller of a solve gives: each entry and far address once, in order, and few entries.
pub record AreGivenRows (rows : List BorderRow) : Type 0 where
  pub order : AllPairs IsRowBefore rows
  pub few : FewDifferent ROW_ENTRIES_MAX (map (λ (r : BorderRow). r.entry) rows)
  pub costs : All (λ (r : BorderRow). r.cost ≤ COST_MAX) rows

abbrev pub IsBlindGiven : BlindEvent → Type 0
IsBlindGiven (blind.Solve d k rows) = AreGivenRows rows
IsBlindGiven e = Unit {0}

abbrev pub AreBlindGiven : List BlindEvent → Type 0
AreBlindGiven [] = Unit {0}
AreBlindGiven (e ∷ es) = IsBlindGiven e × AreBlindGiven es

-- what a closed peer hears: a message to it, or the bytes that it drains
pub data Heard : Type 0 where
  Message : Sent → Heard
  Drained : (peer : ℕ) → Bytes → Heard

abbrev pub is_closed : NetworkParts → Peer → Bool
is_closed n p = cond (is_client (class_of n p)) false true

abbrev pub heard_of : NetworkParts → List Sent → List Heard
heard_of n [] = []
heard_of n (x ∷ xs) = cond (is_closed n x.to) (Message x ∷ heard_of n xs) (heard_of n xs)

abbrev pub heard_in : {S : Type 0} → Codec → NetworkParts → Deed S → List Heard
heard_in c n (Hands i bytes) = cond (is_closed n (Outside i)) (Drained i bytes ∷ []) []
heard_in c n d = heard_of n (sent_in c d)

-- what closed peers hear of deeds, in order; the list of deeds has the newest first
abbrev pub heard : {S : Type 0} → Codec → NetworkParts → List (Deed S) → List Heard
heard c n [] = []
heard c n (d ∷ ds) = heard c n ds ++ heard_in c n d

-- What the blind plant says on a trace, the newest event first, and the state after it.
abbrev pub BlindSays : Codec → NetworkParts → List BlindEvent → List Heard → BlindState → Type 0
BlindSays c n [] hs b = (hs ≡ heard c n (blind_opened c n).deeds) × (b ≡ (blind_opened c n).state)
BlindSays c n (x ∷ older) hs b =
    (before : BlindState) × (earlier : List Heard) × (h : BlindHappened) × BlindSays c n older earlier before × BlindHappens c n before x h
    × (b ≡ h.state) × (hs ≡ earlier ++ heard c n h.deeds)

-- The rows that an event discloses: the border table of its job where a closed peer asked, and none else.
abbrev pub Discloses : Codec → NetworkParts → Plant → Event → List BorderRow → Type 0
Discloses c n s (event.Solve d k) rows =
    ((same_as d parent_as ≡ true) × (rows ≡ []))
    ⊎ ((same_as d parent_as ≡ false) × ((h : Held (Item Pin)) (down : List Branch) → lookup (nat_eq k) (s.elements d).pending.rows ≡ Some h → h.item.stage ≡ Ready down →
    cond (is_client h.item.class) (rows ≡ []) (IsBorderTable h.item.pin.topology (ask c n d (k, h) down) rows)))
Discloses c n s e rows = rows ≡ []

-- an event as the blind plant sees it; a load it does not see
abbrev pub blind_of : Event → List BorderRow → Option BlindEvent
blind_of (event.Load d g) rows = None
blind_of (event.Open i holder) rows = Some (blind.Open i holder)
blind_of (event.Shut i) rows = Some (blind.Shut i)
blind_of (event.Feed i bytes) rows = Some (blind.Feed i bytes)
blind_of (event.Take i) rows = Some (blind.Take i)
blind_of (event.Carry a b) rows = Some (blind.Carry a b)
blind_of (event.Break a b) rows = Some (blind.Break a b)
blind_of (event.Solve d k) rows = Some (blind.Solve d k rows)
blind_of (event.Tick t) rows = Some (blind.Tick t)
blind_of (event.Drain i holder) rows = Some (blind.Drain i holder)

abbrev pub with_event : Option BlindEvent → List BlindEvent → List BlindEvent
with_event None trace = trace
with_event (Some x) trace = x ∷ trace

abbrev pub is_accepted : events.Answered → Bool
is_accepted (Ok o) = true
is_accepted (Err r) = false

-- The trace after an event. A refused event and a load do not change it.
abbrev pub Traces : Codec → NetworkParts → Plant → Entry → List BlindEvent → List BlindEvent → Type 0
Traces c n s e earlier trace =
    cond (is_accepted e.answer)
    ((rows : List BorderRow) × Discloses c n s e.event rows × (trace ≡ with_event (blind_of e.event rows) earlier))
    (trace ≡ earlier)
