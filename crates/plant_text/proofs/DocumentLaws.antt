-- What a text is, as a document and as settings.
use Rattle.std.proofs.Common.{◌≡◌, ℕ, nat_lt, unwrap_or, List, Option, Some, None, Result, Ok, Err, IfOk, refl, sym, ◌∙◌, ap, subst, inl, inr}
use Rattle.std.proofs.lemmas.Bool.{cases_Bool}
use Rattle.std.proofs.lemmas.Str.{IsUtf8-from_is_utf8, is_utf8-from_IsUtf8}
use Rattle.std.specs.Str.{IsUtf8, is_utf8}
use Rattle.toml.specs.Data.{Data, Items, no_items, Members, string, integer, float, boolean, datetime, array, table, as_array}
use Rattle.toml.specs.Parse.{parse_document}
use Rattle.plant_text.specs.declared.settings.NetworkParts.{NetworkParts}
use Rattle.plant_text.specs.declared.sheet.Sheet.{Sheet}
use Rattle.plant_text.specs.declared.fault.NetFault.{NetFault}
use Rattle.plant_text.specs.declared.fault.NetError.{NetError}
use Rattle.plant_text.specs.declared.fault.NetError.TheVariants.{Fault}
use Rattle.plant_text.specs.Rules.{rules}
use Rattle.plant_text.specs.Faults.{first_of, Tells}
use Rattle.plant_text.specs.SettingsText.{has_many, item_count, sheet_in}
use Rattle.plant_text.specs.Reads.{Reads, IsFaulty, document}
use Rattle.plant_text.proofs.RuleLaws.{obeyed_of, refused_if}

pub document_is : (bytes : List ℕ) → IsUtf8 bytes → document bytes ≡ parse_document bytes
document_is bytes is = rw (is_utf8-from_IsUtf8 bytes is) refl

pub no_document : (bytes : List ℕ) → ¬ IsUtf8 bytes → document bytes ≡ None
no_document bytes never =
    elim (cases_Bool (is_utf8 bytes)) [
      | inl t ↦ absurd (never (IsUtf8-from_is_utf8 bytes t))
      | inr f ↦ rw f refl
    ]

pub reads_if : (bytes : List ℕ) (root : Members) (s : Sheet) (r : Result NetworkParts NetError) → document bytes ≡ Some root → s ≡ sheet_in root → IfOk r (λ n. n ≡ s.parts) → Tells (rules s) r → IfOk r (Reads bytes)
reads_if bytes root s (Ok n) reads is same tells =
    let P : Sheet → Type 0 = λ t. first_of (rules t) ≡ None in
    record { root = root; reads = reads; obeyed = obeyed_of (rules (sheet_in root)) (subst P is tells); rows = same ∙ ap (λ (t : Sheet). t.parts) is }
reads_if bytes root s (Err e) reads is same tells = tt

pub fault_if : (bytes : List ℕ) (root : Members) (s : Sheet) (r : Result NetworkParts NetError) → document bytes ≡ Some root → s ≡ sheet_in root → Tells (rules s) r → (fault : NetFault) → r ≡ Err (Fault fault) → IsFaulty bytes fault
fault_if bytes root s r reads is tells fault e =
    let P : Sheet → Type 0 = λ t. Tells (rules t) r in
    inr (record { root = root; reads = reads; first = refused_if (rules (sheet_in root)) r (subst P is tells) fault e })

pub many_items : (d : Data) (ds : Items) → Some ds ≡ as_array d → has_many (Some d) ≡ nat_lt 8 (item_count ds)
many_items (array es) ds is = ap (λ (o : Option Items). nat_lt 8 (item_count (unwrap_or o no_items))) (sym is)
many_items (string s) ds is = absurd (let no : Some ds ≡ None = is in cc)
many_items (integer z) ds is = absurd (let no : Some ds ≡ None = is in cc)
many_items (float x) ds is = absurd (let no : Some ds ≡ None = is in cc)
many_items (boolean b) ds is = absurd (let no : Some ds ≡ None = is in cc)
many_items (datetime t) ds is = absurd (let no : Some ds ≡ None = is in cc)
many_items (table ms) ds is = absurd (let no : Some ds ≡ None = is in cc)
