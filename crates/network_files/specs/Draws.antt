-- Numbers that are drawn one after the other: a linear congruential generator modulo 2^64 (Knuth's constants). A draw is a state's upper 31 bits.
use Rattle.std.specs.Prelude.{ℕ, zero, suc, ◌+◌, ◌*◌, ◌/◌, ◌%◌, ◌^◌}

-- the state after a state
abbrev pub state_after : ℕ → ℕ
state_after x = (x * 6364136223846793005 + 1442695040888963407) % 2 ^ 64

-- the state after so many draws
unfoldable pub state_at : ℕ → ℕ
state_at zero = 1
state_at (suc k) = state_after (state_at k)

-- the number that is drawn after so many others
abbrev pub drawn : ℕ → ℕ
drawn k = state_at (k + 1) / 2 ^ 33

-- how many numbers can be drawn
abbrev pub draws_most : ℕ
draws_most = 4294967295
