-- What a search reads, and how often.
use Rattle.std.specs.Prelude.{◌≡◌, ℕ, ◌+◌, ◌-◌, ◌^◌, min}
use Rattle.te_links.specs.Rows.{Rows}

-- a topology, and how often one of its links was read
pub record Reading : Type 0 where
  pub topology : Rows
  pub reads : ℕ

-- one more, unless it stands at its type's last value
abbrev pub RoseByOne : ℕ → ℕ → Type 0
RoseByOne old new = new ≡ min (old + 1) (2 ^ 64 - 1)

-- so many more, unless it stands there
abbrev pub RoseBy : ℕ → ℕ → ℕ → Type 0
RoseBy more old new = new ≡ min (old + more) (2 ^ 64 - 1)
