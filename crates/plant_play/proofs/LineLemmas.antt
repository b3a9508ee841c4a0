-- Lines that load a topology.
use Rattle.std.proofs.Common.{◌≡◌, ℕ, Bool, cond, List, Some, Ok, Err, sym, ◌∙◌, subst, ap, Result, IfOk}
use Rattle.plant_network.specs.plant_model.Types.{As, LineEvent}
use Rattle.te_links.specs.Rows.{IsInOrder, IsTopology, Rows}
use Rattle.te_text.specs.Reads.{Reads}
use Rattle.te_deltas.specs.Answers.{IsBuiltOf}
use Rattle.te_deltas.specs.ChangeText.{text_in}
use Rattle.te_deltas.specs.declared.changes.Change.{Change}
use Rattle.plant_network.specs.plant_model.declared.event.Event.TheVariants as event
use Rattle.plant_network.specs.plant_model.declared.outcome.Refused.TheVariants.{NoSuchPeer}
use Rattle.plant_network.specs.plant_model.Events.{Answered}
use Rattle.plant_network.specs.plant_model.Plant.{Pin, Plant}
use Rattle.plant_network.specs.Current.{IsCurrent}
use Rattle.plant_network.specs.Whole.{Whole}
use Rattle.network_files.specs.declared.error.FileError.{FileError}
use Rattle.plant_play.specs.declared.showing.Modes.{Modes}
use Rattle.plant_play.specs.Logs.{Told}
use Rattle.plant_play.specs.Making.{Does, DoesLine, playing}
use Rattle.plant_play.specs.Playing.{Changes, Played, Plays, PlaysChange, PlaysLoad, PlaysNone, PlaysOne, cue, modes_after}
use Rattle.plant_play.specs.Turns.{Turn}

-- the events are done, and more is said of them
pub does_as : (old new : Whole) (Line More : List Turn → List ℕ → Plant → Type 0) (b0 b1 : Told) → ((turns : List Turn) (told : List ℕ) (end : Plant) → Line turns told end → More turns told end) → Does old Line new b0 b1 → Does old More new b0 b1
does_as old new Line More b0 b1 more h = record { network = h.network; turns = h.turns; told = h.told; plays = more h.turns h.told new.state h.plays; goes = h.goes; tells = h.tells }

pub loaded : (line : ℕ) (m : Modes) (old new : Whole) (at : As) (file : List ℕ) (g : Rows) (answer : Answered) (b0 b1 : Told) → Reads file g → g.own ≡ at → IsTopology g → IsInOrder g →
    Does old (PlaysOne line (playing m old) (event.Load at g) answer) new b0 b1 → Does old (PlaysLoad line (playing m old) at file answer) new b0 b1
loaded line m old new at file g answer b0 b1 reads own rules order =
    does_as old new (PlaysOne line (playing m old) (event.Load at g) answer) (PlaysLoad line (playing m old) at file answer) b0 b1
    (λ turns told end h. record { topology = g; reads = reads; own = own; rules = rules; order = order; loads = h })

pub changed : (line : ℕ) (m : Modes) (old new : Whole) (at : As) (file : List ℕ) (changes listed : List Change) (pin : Pin) (t g : Rows) (answer : Answered) (b0 b1 : Told) → text_in file ≡ Ok changes →
    IsCurrent old at (Some pin) → listed ≡ changes → t ≡ pin.topology → IsBuiltOf t listed g → IsTopology g → IsInOrder g →
    Does old (PlaysOne line (playing m old) (event.Load at g) answer) new b0 b1 → Does old (PlaysChange line (playing m old) at file answer) new b0 b1
changed line m old new at file changes listed pin t g answer b0 b1 reads current are is built rules order =
    let now : IsBuiltOf (old.state.current at).topology changes g =
    subst (λ (u : Rows). IsBuiltOf u changes g) (is ∙ ap (λ (p : Pin). p.topology) current.1) (subst (λ (l : List Change). IsBuiltOf t l g) are built) in
    does_as old new (PlaysOne line (playing m old) (event.Load at g) answer) (PlaysChange line (playing m old) at file answer) b0 b1
    (λ turns told end h. record {
      changes = changes;
      reads = reads;
      makes = subst (λ (b : Bool). cond b (Changes line (playing m old) at changes answer turns told end) (PlaysNone line (playing m old) (Err NoSuchPeer) answer turns told end)) (sym current.0)
          (record { topology = g; built = now; rules = rules; order = order; loads = h });
    })

-- a line of a kind
pub of_kind : (line : ℕ) (m : Modes) (e kind : LineEvent) (file : List ℕ) (old new : Whole) (b0 b1 : Told) (r : Result Answered FileError) → e ≡ kind → IfOk r (DoesLine old (Plays line (playing m old) kind file) new b0 b1) →
    IfOk r (DoesLine old (Plays line (playing m old) e file) new b0 b1)
of_kind line m e kind file old new b0 b1 r is does = subst (λ (x : LineEvent). IfOk r (DoesLine old (Plays line (playing m old) x file) new b0 b1)) (sym is) does

-- a line is played
pub played : (line : ℕ) (e : LineEvent) (file : List ℕ) (m after : Modes) (old : Whole) (answer : Answered) (new : Whole) (b0 b1 : Told) → after ≡ modes_after e m →
    Does old (Plays line (playing m old) e file answer) new b0 b1 → Played (cue line e file) (playing m old) answer (playing after new) b0 b1
played line e file m after old answer new b0 b1 modes does = record {
  turns = does.turns;
  told = does.told;
  line = record { network = does.network; modes = modes; plays = does.plays };
  tells = does.tells;
  goes = does.goes;
}
