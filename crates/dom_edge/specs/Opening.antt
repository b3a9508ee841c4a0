-- What a `listen`, a `listen_for` and a `dial` return.
use Rattle.std.specs.Prelude.{◌≡◌, ℕ}
use Rattle.std.specs.declared.option.Option.{Option}
use Rattle.dom_base.specs.declared.addr.Addr.{Addr}
use Rattle.dom_edge.specs.declared.ports.Opened.{Opened}
use Rattle.dom_edge.specs.declared.ports.Opened.TheVariants as opened

-- what was handed out was opened at that port
abbrev pub IsOpenedAt : {P : Type 0} → (P → ℕ) → ℕ → Opened P → Type 0
IsOpenedAt opened_at port (opened.Port listener) = opened_at listener ≡ port
IsOpenedAt opened_at port opened.Failed = Unit {0}

-- what was handed out heeds that address alone, and dials that one; None is anyone, and nobody
abbrev pub IsOpenedFor : {P : Type 0} → (P → Option Addr) → (P → Option Addr) → Option Addr → Option Addr → Opened P → Type 0
IsOpenedFor heeds dialled_to whom to (opened.Port listener) = (heeds listener ≡ whom) × (dialled_to listener ≡ to)
IsOpenedFor heeds dialled_to whom to opened.Failed = Unit {0}
