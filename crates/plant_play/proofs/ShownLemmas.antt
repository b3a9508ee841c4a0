-- What is told of an answer, put together.
use Rattle.std.proofs.Common.{◌≡◌, ℕ, Bool, true, false, cond, ◌&&◌, List, [], ◌++◌, Option, Some, None, Result, Ok, Err, is_err, sym, ◌∙◌, subst, ap, refl, append-nil, IfOk, IfSome, OnOk}
use Rattle.std.specs.Arc.{arc_value}
use Rattle.plant_network.specs.plant_model.Types.{BorderRow, Job}
use Rattle.path_certificate.specs.declared.certificate.Certificate.{Certificate}
use Rattle.border_costs.specs.declared.answer.LabelledAnswer.{LabelledAnswer}
use Rattle.border_costs.specs.Solutions.{AreLabelledRows}
use Rattle.plant_network.specs.plant_model.Blind.{is_accepted}
use Rattle.plant_network.specs.plant_model.Events.{Answered}
use Rattle.plant_network.specs.plant_model.declared.event.Event.{Event}
use Rattle.plant_network.specs.Whole.{Whole}
use Rattle.transcript.specs.Lines.{rows_text, sents_text}
use Rattle.plant_play.specs.declared.showing.Modes.{Modes}
use Rattle.plant_play.specs.Logs.{Told, behind, untold}
use Rattle.plant_play.specs.Making.{Brings, CertificateOf, LabelsIf, Makes, Refuses, Shown, TableOf, Tables, TablesIf}
use Rattle.plant_play.specs.Turns.{certificate_text, tells_closed}
use Rattle.plant_play.proofs.LogLemmas.{behind_nothing, behind_twice, behind_waited}

pub on_ok : {T E A B : Type 0} (r : Result T E) → (A → B) → OnOk r A → OnOk r B
on_ok (Ok x) f h = f h
on_ok (Err x) f h = tt

pub if_ok : {T E : Type 0} (P Q : T → Type 0) (r : Result T E) → ((x : T) → P x → Q x) → IfOk r P → IfOk r Q
if_ok P Q (Ok x) f h = f x h
if_ok P Q (Err x) f h = tt

pub always : {T E A : Type 0} (r : Result T E) → A → OnOk r A
always (Ok x) h = h
always (Err x) h = tt

-- the labels of the very job that was solved
pub labels_told : (line : ℕ) (shown : Bool) (job : Job) (rows : LabelledAnswer) (b0 b1 : Told) → AreLabelledRows (arc_value job.topology) job.ask rows →
    b1 ≡ behind b0 (certificate_text line (cond shown (Some rows.certificate) None)) → LabelsIf line shown job b0 b1
labels_told line true job rows b0 b1 are told = record {
  certificate = Some rows.certificate;
  is_certificate = record { seeds = are.are_rows.seeds; are_seeds = are.are_rows.are_seeds; labels = are.labels };
  tells = told;
}
labels_told line false job rows b0 b1 are told = record { certificate = None; is_certificate = refl; tells = told }

pub table_shown : (line : ℕ) (job : Job) (b0 b1 : Told) → Tables line job b0 b1 → TablesIf line true job b0 b1
table_shown line job b0 b1 h = record { rows = h.rows; are_rows = h.table; tells = h.tells }

pub no_table : (line : ℕ) (job : Job) (b : Told) → TablesIf line false job b b
no_table line job b = record { rows = []; are_rows = refl; tells = behind_nothing b }

pub both_shown : (line : ℕ) (m : Modes) (closed both : Bool) (job : Job) (labels b0 b1 b2 : Told) → both ≡ (m.disclose && closed) → TablesIf line both job b0 b1 → LabelsIf line m.certify job (untold b0.is_kept) labels →
    b2 ≡ behind b1 labels.text → Shown line m closed job b0 b2
both_shown line m closed both job labels b0 b1 b2 e t l told = record {
  rows = t.rows;
  certificate = l.certificate;
  are_rows = subst (λ (b : Bool). cond b (TableOf (Some job) t.rows) (t.rows ≡ [])) e t.are_rows;
  is_certificate = l.is_certificate;
  tells =
      told ∙ ap (λ (b : Told). behind b labels.text) t.tells ∙ behind_waited (behind b0 (rows_text line t.rows)) labels (certificate_text line l.certificate) l.tells
      ∙ behind_twice b0 (rows_text line t.rows) (certificate_text line l.certificate);
}

-- labels that wait until more is told
pub still_wait : (line : ℕ) (shown : Bool) (job : Option Job) (before labels b0 b1 : Told) (text : List ℕ) → before ≡ untold b0.is_kept → b1 ≡ behind b0 text → IfSome job (λ j. LabelsIf line shown j before labels) →
    IfSome job (λ j. LabelsIf line shown j (untold b1.is_kept) labels)
still_wait line shown job before labels b0 b1 text is told wait =
    subst (λ (b : Told). IfSome job (λ j. LabelsIf line shown j b labels)) (is ∙ ap untold (sym (ap (λ (b : Told). b.is_kept) told))) wait

-- ---- what an answer brought about

pub refused_brings : (line : ℕ) (m : Modes) (w : Whole) (answer : Answered) (job : Option Job) (b : Told) → is_err answer ≡ true → Brings line m w answer job b b
refused_brings line m w (Ok o) job b e = absurd (let no : false ≡ true = e in cc)
refused_brings line m w (Err why) job b e = record { rows = []; certificate = None; are_rows = refl; is_certificate = refl; tells = behind_nothing b }

no_rows : (b : Bool) → cond b (TableOf None []) (◌≡◌ {A = List BorderRow} [] [])
no_rows true = refl
no_rows false = refl

no_certificate : (b : Bool) → cond b (CertificateOf None None) (◌≡◌ {A = Option Certificate} None None)
no_certificate true = refl
no_certificate false = refl

pub jobless_brings : (line : ℕ) (m : Modes) (w : Whole) (answer : Answered) (b0 b1 : Told) → is_err answer ≡ false → b1 ≡ behind b0 (sents_text line w.network.peers w.said) → Brings line m w answer None b0 b1
jobless_brings line m w (Err why) b0 b1 e told = absurd (let no : true ≡ false = e in cc)
jobless_brings line m w (Ok o) b0 b1 e told = record {
  rows = [];
  certificate = None;
  are_rows = no_rows (m.disclose && tells_closed w.network w.said);
  is_certificate = no_certificate m.certify;
  tells = told ∙ ap (λ (t : List ℕ). behind b0 t) (sym (append-nil (sents_text line w.network.peers w.said)));
}

pub job_brings : (line : ℕ) (m : Modes) (w : Whole) (answer : Answered) (job : Job) (closed : Bool) (b0 b1 b2 : Told) → is_err answer ≡ false → closed ≡ tells_closed w.network w.said →
    b1 ≡ behind b0 (sents_text line w.network.peers w.said) → Shown line m closed job b1 b2 → Brings line m w answer (Some job) b0 b2
job_brings line m w (Err why) job closed b0 b1 b2 e is told h = absurd (let no : true ≡ false = e in cc)
job_brings line m w (Ok o) job closed b0 b1 b2 e is told h = record {
  rows = h.rows;
  certificate = h.certificate;
  are_rows = subst (λ (b : Bool). cond (m.disclose && b) (TableOf (Some job) h.rows) (h.rows ≡ [])) is h.are_rows;
  is_certificate = h.is_certificate;
  tells =
      h.tells ∙ ap (λ (b : Told). behind b (rows_text line h.rows ++ certificate_text line h.certificate)) told
      ∙ behind_twice b0 (sents_text line w.network.peers w.said) (rows_text line h.rows ++ certificate_text line h.certificate);
}

-- ---- a refusal

pub refuses : (old : Whole) (e e' : Event) (answer : Answered) (new : Whole) (b : Told) → is_err answer ≡ true → e ≡ e' → Makes old e answer new → Refuses old e' new b b
refuses old e e' (Ok o) new b err is h = absurd (let no : false ≡ true = err in cc)
refuses old e e' (Err why) new b err is h = record { why = why; makes = subst (λ (x : Event). Makes old x (Err why) new) is h; silent = refl }

pub accepted : (answer : Answered) → is_err answer ≡ false → is_accepted answer ≡ true
accepted (Ok o) e = refl
accepted (Err why) e = absurd (let no : true ≡ false = e in cc)
