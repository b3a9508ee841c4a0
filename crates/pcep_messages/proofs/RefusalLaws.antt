-- Which rules decide a request.
use Rattle.std.proofs.Common.{◌≡◌, ℕ, true, false, List, Some, None, refl}
use Rattle.pcep_objects.specs.declared.object.Object.{Object}
use Rattle.pcep_messages.specs.Said.{rp_of, asks_key}
use Rattle.pcep_messages.specs.Refusals.{first_of, request_rules, key_rules, path_rules, refusal_of}

-- a rule for every request
pub refused_at_once : (own : ℕ) (os : List Object) (e : ℕ × ℕ) → first_of (request_rules own os) ≡ Some e → refusal_of own os ≡ Some e
refused_at_once own os e h = rw h refl

-- those for path keys, where one is asked for
pub key_decides : (own : ℕ) (os : List Object) → first_of (request_rules own os) ≡ None → asks_key (rp_of os) ≡ true → refusal_of own os ≡ first_of (key_rules os)
key_decides own os h k = rw (h, k) refl

-- and else those for paths
pub path_decides : (own : ℕ) (os : List Object) → first_of (request_rules own os) ≡ None → asks_key (rp_of os) ≡ false → refusal_of own os ≡ first_of (path_rules own os)
path_decides own os h k = rw (h, k) refl
