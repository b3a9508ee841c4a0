-- Texts within the limits of their files have few lines.
use Rattle.std.proofs.Common.{◌≤◌, ◌+◌, ◌==◌, ℕ, List, length, Option, arith}
use Rattle.std.specs.List.{All}
use Rattle.std.specs.Str.Lines.{lines}
use Rattle.std.proofs.lemmas.List.Elements.{All-weaker}
use Rattle.std.proofs.lemmas.List.Sums.{count_by-le-length}
use Rattle.dom_base.specs.declared.names.As.{As}
use Rattle.dom_edge.specs.Stores.{Files}
use Rattle.network_files.proofs.LineCount.{few_lines}
use Rattle.network_check.specs.declared.looks.Look.{Look}
use Rattle.network_check.specs.declared.looks.Look.TheVariants as look
use Rattle.network_check.specs.declared.looks.Seen.{Seen}
use Rattle.network_check.specs.declared.looks.Settings.{Settings}
use Rattle.network_check.specs.declared.looks.Settings.TheVariants as settings
use Rattle.network_check.specs.Looks.{IsChartLook, IsLook, IsSettings}
use Rattle.network_check.specs.Compare.{IsShort}
use Rattle.network_check.specs.Findings.{IsShortText}

few : (bytes : List ℕ) → length (lines bytes) ≤ length bytes + 1
few bytes = few_lines bytes (count_by-le-length (λ b. b == 10) bytes)

pub settings_short : (files : Option Files) (name : List ℕ) (counts : ℕ × ℕ) (s : Settings) → IsSettings files name counts s → IsShortText s
settings_short files name counts (settings.Sound text n) is = omega (arith, few text, is.1)
settings_short files name counts (settings.Faulty text root fault) is = omega (arith, few text, is.1)
settings_short files name counts (settings.NoDocument line) is = tt
settings_short files name counts settings.Unread is = tt
settings_short files name counts settings.TooLong is = tt

look_short : (files : Option Files) (at : As) (name : List ℕ) (counts : ℕ × ℕ) (l : Look) → IsChartLook files at name counts l → IsShort l
look_short files at name counts (look.Read c) is = omega (arith, few c.text, is.1)
look_short files at name counts (look.Malformed text) is = omega (arith, few text, is.1)
look_short files at name counts (look.Refused breaches) is = tt
look_short files at name counts look.Unread is = tt
look_short files at name counts look.TooLong is = tt

pub looks_short : (files : Option Files) (counts : ℕ × ℕ) (seen : List Seen) → All (IsLook files counts) seen → All (λ (s : Seen). IsShort s.look) seen
looks_short files counts = All-weaker (IsLook files counts) (λ s. IsShort s.look) (λ s is. look_short files s.at s.file counts s.look is)
