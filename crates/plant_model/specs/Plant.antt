-- The plant: a network with its topologies. One event at a time has one answer and one new state.
use Rattle.std.specs.Prelude.{◌≡◌, ◌⊎◌, ◌<◌, ◌^◌, ◌-◌, ◌||◌, ℕ, suc, Bool, true, false, cond, ◌==◌, nat_eq, nat_le, List, [], ◌∷◌, ◌++◌, length, map, All, Option, Some, Ok, Err}
use Rattle.std.specs.Map.{lookup}
use Rattle.plant_model.specs.Types.{As, Addr, Link, Entry as EntryRow, Held, Branch, Ask, NetworkParts}
use Rattle.te_links.specs.Rows.{Rows, IsTopology, IsInOrder, all_links}
use Rattle.pcep_subobjects.specs.Addresses.{IsAddr}
use Rattle.te_generations.specs.Live.{empty_rows}
use Rattle.te_generations.specs.Shelf.{live_most}
use Rattle.disclosure.specs.Shown.{open_of}
use Rattle.border_costs.specs.declared.answer.Answer.{Answer}
use Rattle.border_costs.specs.Solutions.{AreRows}
use Rattle.plant_model.specs.declared.outcome.Outcome.TheVariants.{Done, Loaded}
use Rattle.plant_model.specs.declared.outcome.Refused.{Refused}
use Rattle.plant_model.specs.declared.outcome.Refused.TheVariants.{GenerationsFull, NoSuchPeer, NoSuchJob, NoMemory}
use Rattle.plant_model.specs.declared.event.Event.{Event}
use Rattle.plant_model.specs.declared.event.Event.TheVariants as event
use Rattle.plant_text.specs.Names.{same_as, parent_as}
use Rattle.plant_model.specs.Names.{set_as}
use Rattle.plant_model.specs.Wire.{Codec}
use Rattle.plant_model.specs.Jobs.{ask_of}
use Rattle.plant_model.specs.Element.{Ready, Item, Row}
use Rattle.plant_model.specs.BorderGraph.{Found, SolvesBorder}
use Rattle.plant_model.specs.Parent as parent
use Rattle.plant_text.specs.Settings.{is_element}
use Rattle.plant_model.specs.Settings.{family}
use Rattle.plant_model.specs.State.{State, Deed, Loads}
use Rattle.plant_model.specs.Solving.{job_found}
use Rattle.plant_model.specs.Deeds as deeds
use Rattle.plant_model.specs.Deeds.{Going}
use Rattle.plant_model.specs.Events as events
use Rattle.plant_model.specs.Events.{is_ready, has_jobs}

-- What a request pins: a topology, and its number among those that the element loaded. Number 0 is the empty one.
pub record Pin : Type 0 where
  pub number : ℕ
  pub topology : Rows

abbrev pub first_pin : As → Pin
first_pin d = record { number = 0; topology = empty_rows d }

-- a key stands for a segment: the entry, and the far address of each link
abbrev pub Segment : Type 0
Segment = List Addr

abbrev pub Plant : Type 0
Plant = State Pin Segment

abbrev pub PlantDeed : Type 0
PlantDeed = Deed Segment

abbrev pub Happened : Type 0
Happened = events.Happened Pin Segment

-- the live generations: the current one, and those that are pinned
abbrev pub has_number : ℕ → List ℕ → Bool
has_number n [] = false
has_number n (m ∷ ms) = cond (n == m) true (has_number n ms)

abbrev pub differing : List ℕ → List ℕ
differing [] = []
differing (n ∷ ns) = cond (has_number n ns) (differing ns) (n ∷ differing ns)

abbrev pub live_numbers : ℕ → List (Row Pin) → List ℕ
live_numbers current rows = differing (current ∷ map (λ h. h.1.item.pin.number) rows)

abbrev pub is_full : ℕ → List (Row Pin) → Bool
is_full current rows = nat_le live_most (length (live_numbers current rows)) || (current == 2 ^ 64 - 1)

module _ (c : Codec) (n : NetworkParts) where
  abbrev pub refused : Refused → Plant → Happened
  refused why s = record { answer = Err why; state = s; deeds = [] }

  abbrev pub load_new : As → Rows → Plant → Happened
  load_new d g s = record {
    answer = Ok (Loaded (suc (s.current d).number));
    state = record s { current = set_as d (record { number = suc (s.current d).number; topology = g }) s.current };
    deeds = Loads d g ∷ [];
  }

  abbrev pub load : As → Rows → Plant → Happened
  load d g s =
      cond (is_element n d)
      (cond (is_full (s.current d).number (s.elements d).pending.rows) (refused GenerationsFull s) (load_new d g s))
      (refused NoSuchPeer s)

  abbrev pub done : Going Pin Segment → Happened
  done g = record { answer = Ok Done; state = g.state; deeds = g.deeds }

  -- the job of a pending request that is ready with these branches, in the topology that it pinned
  abbrev pub ask : As → Row Pin → List Branch → Ask
  ask d h down = ask_of d h.0 h.1.item down h.1.item.pin.number h.1.item.pin.topology

  -- A job of an element that was solved by these rows is answered, and keys stand for their segments.
  abbrev pub solved : As → Row Pin → List Branch → Answer → Plant → Happened
  solved d h down rows s =
      done (deeds.solve Pin Segment c n open_of d h down (λ b. b.segment) (job_found rows.source_known rows.target_known rows.best) s)

  abbrev pub parent_solved : parent.AskingRow → Option Found → Plant → Happened
  parent_solved h a s = done (deeds.solve_upper Pin Segment c n open_of h a s)

  pub record ElementSolves (d : As) (k : ℕ) (s : Plant) (h : Happened) : Type 0 where
    pub upper : same_as d parent_as ≡ false
    pub held : Held (Item Pin)
    pub is_held : lookup (nat_eq k) (s.elements d).pending.rows ≡ Some held
    pub down : List Branch
    pub ready : held.item.stage ≡ Ready down
    pub rows : Answer
    pub right : AreRows held.item.pin.topology (ask d (k, held) down) rows
    pub is : h ≡ solved d (k, held) down rows s

  pub record ParentSolves (k : ℕ) (s : Plant) (h : Happened) : Type 0 where
    pub held : Held parent.Asking
    pub is_held : lookup (nat_eq k) s.parent.pending.rows ≡ Some held
    pub ready : parent.is_ready held.item ≡ true
    pub answer : Option Found
    pub solves : SolvesBorder (parent.job_of (family n) (k, held)) answer
    pub is : h ≡ parent_solved (k, held) answer s

  abbrev pub SolveHappens : As → ℕ → Plant → Happened → Type 0
  SolveHappens d k s h =
      (has_jobs n d ≡ false × (h ≡ refused NoSuchPeer s))
      ⊎ (has_jobs n d ≡ true × (is_ready d k s ≡ false) × (h ≡ refused NoSuchJob s))
      ⊎ (has_jobs n d ≡ true × ElementSolves d k s h)
      ⊎ (has_jobs n d ≡ true × (d ≡ parent_as) × ParentSolves k s h)

  -- what happens at an event other than a solve
  abbrev pub happened : Plant → Event → Happened
  happened s (event.Load d g) = load d g s
  happened s (event.Open i holder) = events.open_peer Pin Segment c n open_of i holder s
  happened s (event.Shut i) = events.shut Pin Segment c n open_of i s
  happened s (event.Feed i bytes) = events.feed Pin Segment c n open_of i bytes s
  happened s (event.Take i) = events.take Pin Segment c n open_of i s
  happened s (event.Carry a b) = events.carry Pin Segment c n open_of a b s
  happened s (event.Break a b) = events.break Pin Segment c n open_of a b s
  happened s (event.Tick t) = events.tick Pin Segment c n open_of t.0 s
  happened s (event.Drain i holder) = events.drain Pin Segment c n open_of i holder s
  happened s (event.Solve d k) = refused NoSuchJob s

  -- What happens at an event. It is determined, except for the choice that a solve leaves.
  abbrev pub Happens : Plant → Event → Happened → Type 0
  Happens s (event.Solve d k) h = SolveHappens d k s h
  Happens s e h = h ≡ happened s e

  -- whether an event may be refused when out of memory: only where it takes memory
  abbrev pub needs_memory : Plant → Event → Bool
  needs_memory s (event.Shut i) = false
  needs_memory s (event.Feed i bytes) = events.takes_feed (s.accesses i).connection
  needs_memory s (event.Break a b) = false
  needs_memory s (event.Tick t) = false
  needs_memory s _ = true

  -- A step: what happens, or out of memory, which changes nothing.
  abbrev pub Steps : Plant → Event → Happened → Type 0
  Steps s e h = Happens s e h ⊎ ((needs_memory s e ≡ true) × (h ≡ refused NoMemory s))

  abbrev pub opened : Going Pin Segment
  opened = events.opening Pin Segment c n open_of first_pin

-- the numbers of a topology are those of its types
pub record IsLinkInRange (l : Link) : Type 0 where
  pub from : IsAddr l.from
  pub to : IsAddr l.to
  pub near : IsAddr l.near
  pub far : IsAddr l.far

pub record AreInRange (g : Rows) : Type 0 where
  pub nodes : All IsAddr g.nodes
  pub links : All IsLinkInRange (all_links g)
  pub entries : All (λ (e : EntryRow). IsAddr e.node) g.entries

-- what the caller of an event gives: a topology of the element's own domain, and bytes
abbrev pub IsGiven : Event → Type 0
IsGiven (event.Load d g) = (g.own ≡ d) × IsTopology g × IsInOrder g × AreInRange g
IsGiven (event.Feed i bytes) = All (λ (b : ℕ). b < 256) bytes
IsGiven e = Unit {0}

-- what the transcript has of one event; its deeds have the newest first
pub record Entry : Type 0 where
  pub event : Event
  pub answer : events.Answered
  pub deeds : List PlantDeed

-- The entries, the newest first, are those of a run that ends in the state.
abbrev pub Run : Codec → NetworkParts → List Entry → Plant → Type 0
Run c n [] s = s ≡ (opened c n).state
Run c n (e ∷ older) s = (before : Plant) × Run c n older before × IsGiven e.event × Steps c n before e.event (record { answer = e.answer; state = s; deeds = e.deeds })

-- all deeds of a run, the newest first
abbrev pub deeds_of : Codec → NetworkParts → List Entry → List PlantDeed
deeds_of c n [] = (opened c n).deeds
deeds_of c n (e ∷ older) = e.deeds ++ deeds_of c n older
