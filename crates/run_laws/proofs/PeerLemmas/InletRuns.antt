-- In every run, what is taken from an outside peer was fed by it.
use Rattle.std.proofs.Common.{◌≡◌, ℕ, Bool, true, false, cond, ◌==◌, List, [], ◌∷◌, ◌++◌, Option, Some, None, Result, Ok, Err, inl, inr, sym, ap, subst, refl}
use Rattle.std.specs.Prelude.{Contains}
use Rattle.plant_laws.specs.plant_model.Types.{As, Bad, Asked, Message, NetworkParts, Outside, Inner}
use Rattle.disclosure.specs.Shown.{open_of}
use Rattle.border_costs.proofs.Members.{contains_cases, contains_head, contains_none, contains_tail}
use Rattle.pcep_messages.specs.declared.message.Message.TheVariants as messages
use Rattle.pcep_messages.specs.Messages.{message_of}
use Rattle.plant_text.specs.Settings.{Adjacency, adjacencies}
use Rattle.plant_laws.specs.plant_model.declared.event.Event.{Event}
use Rattle.plant_laws.specs.plant_model.declared.event.Event.TheVariants as event
use Rattle.plant_laws.specs.plant_model.declared.output.Output.{Output}
use Rattle.plant_laws.specs.plant_model.Blind.{is_accepted}
use Rattle.plant_laws.specs.plant_model.Deeds.{Going, begin_adjacency}
use Rattle.plant_laws.specs.plant_model.Events as events
use Rattle.plant_laws.specs.plant_model.Plant.{Entry, Happened, Pin, Plant, PlantDeed, Run, Segment, deeds_of, first_pin}
use Rattle.plant_laws.specs.plant_model.RealWire.{message_or_none, wire}
use Rattle.plant_laws.specs.plant_model.State.{Clears, Connection, Downs, Expires, Hands, Loads, Pops, Says, Solves, Takes, Ups}
use Rattle.plant_laws.specs.plant_model.Wire.{Bytes}
use Rattle.plant_laws.proofs.Runs.Heeding.{asks_read}
use Rattle.run_laws.specs.Inlets.{IsPart, TakenWasFed, WasFed, fed_to, streams, streams_with}
use Rattle.run_laws.proofs.PeerLemmas.Fading as fading
use Rattle.run_laws.proofs.PeerLemmas.Fading.{AllFade, AllTaken, deed_taken}
use Rattle.run_laws.proofs.PeerLemmas.InletEvents.{AllHeld, AreHeld, IsOf, Streams, steps_went}
use Rattle.run_laws.proofs.PeerLemmas.Frames.{part_more}

-- ---- streams grow

fed_more : (bytes : Bytes) (old : List Bytes) (part : Bytes) → (i : ℕ) (str str' : Streams) → str i ≡ old → str' i ≡ fed_to bytes old → IsOf str i part → IsOf str' i part
fed_more bytes [] part i str str' is is' h = absurd (contains_none h.stream (subst (λ (xs : List Bytes). Contains xs h.stream) is h.fed))
fed_more bytes (stream ∷ older) part i str str' is is' h =
    elim (contains_cases stream older h.stream (subst (λ (xs : List Bytes). Contains xs h.stream) is h.fed)) [
      | inl same ↦ record {
        stream = stream ++ bytes;
        fed = subst (λ (xs : List Bytes). Contains xs (stream ++ bytes)) (sym is') (contains_head (stream ++ bytes) older);
        is_part = part_more stream bytes part (subst (λ (x : Bytes). IsPart x part) (sym same) h.is_part);
      }
      | inr more ↦ record { stream = h.stream; fed = subst (λ (xs : List Bytes). Contains xs h.stream) (sym is') (contains_tail (stream ++ bytes) older h.stream more); is_part = h.is_part }
    ]

-- what is of a stream is so after any event
later : (str : Streams) (e : Event) (i : ℕ) (part : Bytes) → IsOf str i part → IsOf (λ k. streams_with k e (str k)) i part
later str (event.Load d g) i part h = h
later str (event.Shut j) i part h = h
later str (event.Take j) i part h = h
later str (event.Carry a b) i part h = h
later str (event.Break a b) i part h = h
later str (event.Solve d k) i part h = h
later str (event.Tick t) i part h = h
later str (event.Drain j holder) i part h = h
later str (event.Open j holder) i part h = record { stream = h.stream; fed = by (j == i); is_part = h.is_part }
  where
    by : (b : Bool) → Contains (cond b ([] ∷ str i) (str i)) h.stream
    by true = contains_tail [] (str i) h.stream h.fed
    by false = h.fed
later str (event.Feed j bytes) i part h = by (j == i) refl
  where
    by : (b : Bool) → (j == i) ≡ b → IsOf (λ k. cond (j == k) (fed_to bytes (str k)) (str k)) i part
    by true e = fed_more bytes (str i) part i str (λ k. cond (j == k) (fed_to bytes (str k)) (str k)) refl (ap (λ (b : Bool). cond b (fed_to bytes (str i)) (str i)) e) h
    by false e = record { stream = h.stream; fed = subst (λ (b : Bool). Contains (cond b (fed_to bytes (str i)) (str i)) h.stream) (sym e) h.fed; is_part = h.is_part }

later_if : (str : Streams) (e : Event) (b : Bool) (i : ℕ) (part : Bytes) → IsOf str i part → IsOf (λ k. cond b (streams_with k e (str k)) (str k)) i part
later_if str e true i part h = later str e i part h
later_if str e false i part h = h

-- ---- deeds

module _ (R Q : ℕ → Bytes → Type 0) (more : (i : ℕ) (part : Bytes) → R i part → Q i part) where
  deed_later : (d : PlantDeed) → deed_taken wire R d → deed_taken wire Q d
  deed_later (Takes at (Outside i) m os) h = (h.0, (h.1.0, more i h.1.0 h.1.1, h.1.2), h.2)
  deed_later (Takes at (Inner a) m os) h = tt
  deed_later (Loads at g) h = tt
  deed_later (Pops a b) h = tt
  deed_later (Says at o) h = tt
  deed_later (Ups at p) h = tt
  deed_later (Downs at p os) h = tt
  deed_later (Clears a b) h = tt
  deed_later (Solves at k os keys) h = tt
  deed_later (Expires now) h = tt
  deed_later (Hands i bytes) h = tt

  all_later : (ds : List PlantDeed) → AllTaken wire R ds → AllTaken wire Q ds
  all_later [] h = tt
  all_later (d ∷ ds) h = (deed_later d h.0, all_later ds h.1)

all_append : (R : ℕ → Bytes → Type 0) (ds es : List PlantDeed) → AllTaken wire R ds → AllTaken wire R es → AllTaken wire R (ds ++ es)
all_append R [] es h g = g
all_append R (d ∷ ds) es h g = (h.0, all_append R ds es h.1 g)

-- ---- runs

module _ (n : NetworkParts) where
  abbrev none : Streams
  none i = []

  begun : (xs : List Adjacency) (start : Plant) (g : Going Pin Segment) → fading.Grown Pin Segment wire n open_of (IsOf none) start g → fading.Grown Pin Segment wire n open_of (IsOf none) start (events.begin_adjacencies Pin Segment wire n open_of xs g)
  begun [] start g r = r
  begun (x ∷ xs) start g r = begun xs start (begin_adjacency Pin Segment wire n open_of 0 x g) (fading.begin_adjacency_on Pin Segment wire n open_of (IsOf none) start 0 x g r)

  abbrev bare : Plant
  bare = events.bare Pin Segment wire n open_of first_pin

  abbrev opened : Going Pin Segment
  opened = events.opening Pin Segment wire n open_of first_pin

  opening : fading.Grown Pin Segment wire n open_of (IsOf none) bare opened
  opening = begun (adjacencies n) bare (record { state = bare; deeds = [] }) (fading.at_start Pin Segment wire n open_of (IsOf none) bare)

  no_connection : (o : Option Connection) → AllFade None o → AreHeld [] o
  no_connection None h = tt
  no_connection (Some k) h = absurd h

  abbrev of_run : List Entry → Streams
  of_run es i = streams i es

  pub run_went : (es : List Entry) (s : Plant) → Run wire n es s → AllHeld n (of_run es) s × AllTaken wire (IsOf (of_run es)) (deeds_of wire n es)
  run_went [] s is = (λ i. subst (λ (t : Plant). AreHeld [] (t.accesses i).connection) (sym is) (no_connection (opened.state.accesses i).connection (opening.fades i)), opening.taken)
  run_went (e ∷ older) s run =
      let before = run_went older run.0 run.1 in
      let h : Happened = record { answer = e.answer; state = s; deeds = e.deeds } in
      let went = steps_went n (of_run older) run.0 e.event h before.0 run.3 in (
        went.held,
        all_append (IsOf (of_run (e ∷ older))) e.deeds (deeds_of wire n older) went.taken
            (all_later (IsOf (of_run older)) (IsOf (of_run (e ∷ older))) (λ i part. later_if (of_run older) e.event (is_accepted e.answer) i part) (deeds_of wire n older) before.1),
      )

of_one : (R : ℕ → Bytes → Type 0) (ds : List PlantDeed) (at : As) (i : ℕ) (m : Message) (os : List Output) → AllTaken wire R ds → Contains ds (Takes at (Outside i) m os) → (let x : PlantDeed = Takes at (Outside i) m os in deed_taken wire R x)
of_one R [] at i m os all h = absurd (contains_none (Takes at (Outside i) m os) h)
of_one R (d ∷ ds) at i m os all h =
    elim (contains_cases d ds (Takes at (Outside i) m os) h) [
      | inl same ↦ subst (λ (x : PlantDeed). deed_taken wire R x) same all.0
      | inr more ↦ of_one R ds at i m os all.1 more
    ]

is_read : (r : Result Message Bad) (m : Message) → message_or_none r ≡ Some m → r ≡ Ok m
is_read (Ok x) m e = let same : x ≡ m = cc in ap (λ (k : Message). let o : Result Message Bad = Ok k in o) same
is_read (Err why) m e = absurd (cc)

pub taken_was_fed : TakenWasFed
taken_was_fed n es s run at i m os h =
    let r = of_one (IsOf (λ k. streams k es)) (deeds_of wire n es) at i m os (run_went n es s run).1 h in
    let came = r.1 in
    (r.0, record { stream = came.1.stream; fed = came.1.fed; part = came.0; is_part = came.1.is_part; reads = is_read (message_of came.0) r.0 came.2 }, r.2)

-- a request is taken as it was fed
pub asks_were_fed : (n : NetworkParts) (es : List Entry) (s : Plant) → Run wire n es s → (at : As) (i : ℕ) (asks : List Asked) (os : List Output) → Contains (deeds_of wire n es) (Takes at (Outside i) (messages.PcReq asks) os) →
    WasFed i es (messages.PcReq asks)
asks_were_fed n es s run at i asks os h =
    let r = taken_was_fed n es s run at i (messages.PcReq asks) os h in
    subst (WasFed i es) (asks_read wire r.2.0 r.0 asks (sym r.2.1)) r.1
