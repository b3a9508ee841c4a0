-- What a file that was read was found to be, from what its text is.
use Rattle.std.proofs.Common.{◌≡◌, ◌∙◌, ◌≤◌, ℕ, List, length, Some, None, Ok, refl, ap, sym, subst}
use Rattle.std.specs.declared.option.Option.{Option}
use Rattle.dom_base.specs.declared.names.As.{As}
use Rattle.dom_edge.specs.Stores.{Files, HasFile, Holds, ReadsFile}
use Rattle.te_text.specs.Reads.{Reads}
use Rattle.network_files.specs.Settings.{settings_max}
use Rattle.network_files.specs.Topologies.{topology_max}
use Rattle.network_files.proofs.Found.{in_file}
use Rattle.toml.specs.View.{table_view}
use Rattle.plant_text.specs.Reads.{IsFaulty, Reads as ReadsSettings, document}
use Rattle.network_check.specs.declared.looks.Look.{Look}
use Rattle.network_check.specs.declared.looks.Look.TheVariants as look
use Rattle.network_check.specs.declared.looks.Settings.{Settings}
use Rattle.network_check.specs.declared.looks.Settings.TheVariants as settings
use Rattle.network_check.specs.Breaches.{IsRefused}
use Rattle.network_check.specs.Documents.{IsNoneAt}
use Rattle.network_check.specs.Forms.{IsMalformed}
use Rattle.network_check.specs.Looks.{IsChartLook, IsChartText, IsSettings, IsSettingsText}

has_read : (files : Option Files) (name bytes : List ℕ) (limit : ℕ) → ReadsFile files name limit (Ok bytes) → HasFile files name bytes
has_read None name bytes limit reads = tt
has_read (Some fs) name bytes limit reads = by (fs name) refl reads
  where
    by : (held : Option (List ℕ)) → fs name ≡ held → Holds held limit (Ok bytes) → fs name ≡ Some bytes
    by (Some found) is holds = is ∙ ap Some (sym holds.0)
    by None is holds = absurd holds

pub chart_look : (files : Option Files) (at : As) (name text : List ℕ) (counts : ℕ × ℕ) → ReadsFile files name topology_max (Ok text) → length text ≤ topology_max → (l : Look) → IsChartText at text l → IsChartLook files at name counts l
chart_look files at name text counts reads within (look.Read c) is = (
  subst (HasFile files name) (sym is.0) (has_read files name text topology_max reads),
  subst (λ (t : List ℕ). length t ≤ topology_max) (sym is.0) within,
  subst (λ (t : List ℕ). Reads t c.topology) (sym is.0) is.1,
  is.2,
)
chart_look files at name text counts reads within (look.Malformed bytes) is = (
  subst (HasFile files name) (sym is.0) (has_read files name text topology_max reads),
  subst (λ (t : List ℕ). length t ≤ topology_max) (sym is.0) within,
  subst IsMalformed (sym is.0) is.1,
)
chart_look files at name text counts reads within (look.Refused breaches) is = in_file files name text topology_max (λ bytes. IsRefused at bytes breaches) reads is
chart_look files at name text counts reads within look.Unread is = absurd is
chart_look files at name text counts reads within look.TooLong is = absurd is

pub settings_look : (files : Option Files) (name text : List ℕ) (counts : ℕ × ℕ) → ReadsFile files name settings_max (Ok text) → length text ≤ settings_max → (s : Settings) → IsSettingsText text s → IsSettings files name counts s
settings_look files name text counts reads within (settings.Sound bytes n) is = (
  subst (HasFile files name) (sym is.0) (has_read files name text settings_max reads),
  subst (λ (t : List ℕ). length t ≤ settings_max) (sym is.0) within,
  subst (λ (t : List ℕ). ReadsSettings t n) (sym is.0) is.1,
)
settings_look files name text counts reads within (settings.Faulty bytes root fault) is = (
  subst (HasFile files name) (sym is.0) (has_read files name text settings_max reads),
  subst (λ (t : List ℕ). length t ≤ settings_max) (sym is.0) within,
  subst (λ (t : List ℕ). document t ≡ Some (table_view root)) (sym is.0) is.1,
  subst (λ (t : List ℕ). IsFaulty t fault) (sym is.0) is.2,
)
settings_look files name text counts reads within (settings.NoDocument line) is = in_file files name text settings_max (λ bytes. IsNoneAt bytes line) reads is
settings_look files name text counts reads within settings.Unread is = absurd is
settings_look files name text counts reads within settings.TooLong is = absurd is
