-- Path keys (RFC 5520, sections 2.1 and 3.1): which are live at a moment, and what each stands for.
use Rattle.std.specs.Prelude.{◌≡◌, ◌⊎◌, ◌≤◌, ◌==◌, ◌&&◌, ℕ, ◌+◌, Bool, nat_lt, List, [], ◌∷◌, ◌++◌, length, filter, Option, Some, None, if◌then◌else◌}
use Rattle.path_keys.specs.declared.issued.Issued.{Issued}

-- how many keys may be live at once, the greatest number of a key, and the most ticks of a life
abbrev pub live_most : ℕ
live_most = 8192

abbrev pub number_most : ℕ
number_most = 65535

abbrev pub life_most : ℕ
life_most = 3600

-- the keys that were issued and are not yet known to be dead, the oldest first
pub record Keys (S : Type 0) : Type 0 where
  pub life : ℕ
  pub next : ℕ
  pub clock : ℕ
  pub issued : List (Issued S)

-- a key of tick t is live at each tick below t + life
abbrev pub is_live : {S : Type 0} → ℕ → ℕ → Issued S → Bool
is_live life now key = nat_lt now (key.at.0 + life)

abbrev pub live_at : {S : Type 0} → Keys S → ℕ → List (Issued S)
live_at keys now = filter (is_live keys.life now) keys.issued

-- numbers rise from 1, and 1 follows 65,535
abbrev pub number_after : ℕ → ℕ
number_after number = if number == number_most then 1 else number + 1

-- what the live key of a number stands for
abbrev pub segment_among : {S : Type 0} → ℕ → ℕ → ℕ → List (Issued S) → Option S
segment_among life now number [] = None
segment_among life now number (key ∷ keys) =
    if (key.number == number) && is_live life now key then Some key.segment else segment_among life now number keys

abbrev pub segment_of : {S : Type 0} → Keys S → ℕ → ℕ → Option S
segment_of keys now number = segment_among keys.life now number keys.issued

-- the table after a key was issued, and after a tick
abbrev pub issue_of : {S : Type 0} → Keys S → ℕ → S → Keys S
issue_of keys now segment = record {
  life = keys.life;
  next = number_after keys.next;
  clock = now;
  issued = live_at keys now ++ (record { number = keys.next; at = record { 0 = now }; segment = segment }) ∷ [];
}

abbrev pub expired_of : {S : Type 0} → Keys S → ℕ → Keys S
expired_of keys now = record keys { clock = now; issued = live_at keys now }

-- the number was given so many issues before the next
pub record IsBack (next number back : ℕ) : Type 0 where
  pub some : 1 ≤ number
  pub last : number ≤ number_most
  pub one : 1 ≤ back
  pub most : back ≤ number_most
  pub place : (number + back ≡ next) ⊎ (number + back ≡ next + number_most)

-- the numbers follow one another, up to the next
abbrev pub Follows : {S : Type 0} → ℕ → List (Issued S) → Type 0
Follows next [] = Unit {0}
Follows next (key ∷ keys) = IsBack next key.number (length keys + 1) × Follows next keys

-- the ticks rise from low to high
abbrev pub Rises : {S : Type 0} → ℕ → List (Issued S) → ℕ → Type 0
Rises low [] high = low ≤ high
Rises low (key ∷ keys) high = (low ≤ key.at.0) × Rises key.at.0 keys high

pub record AreKeys {S : Type 0} (keys : Keys S) : Type 0 where
  pub life : 1 ≤ keys.life
  pub life_few : keys.life ≤ life_most
  pub next : 1 ≤ keys.next
  pub next_most : keys.next ≤ number_most
  pub few : length keys.issued ≤ live_most
  pub numbers : Follows keys.next keys.issued
  pub ticks : Rises 0 keys.issued keys.clock
