-- A request that one domain alone does not serve, by its objects.
use Rattle.std.proofs.Common.{◌≡◌, ℕ, ◌≤◌, ◌⊎◌, inl, inr, Bool, true, false, cond, List, length, Some, None, refl, sym, subst}
use Rattle.std.specs.declared.option.Option.{Option}
use Rattle.std.specs.Option.{option_map}
use Rattle.client_laws.specs.plant_model.Types.{Addr, Object, Wish}
use Rattle.pcep_messages.specs.declared.message.Wish.TheVariants as wishes
use Rattle.pcep_messages.specs.Said.{rp_of, iro_of, asks_key, key_of, end_points_of}
use Rattle.pcep_messages.specs.Requests.{sequence_of, wanted_of, wish_of, without_bit}
use Rattle.pce_tool.specs.Requests.{GoesOn}

path_goes_on : (own : ℕ) (os : List Object) (wish : Wish) → GoesOn wish → (o : Option (Addr × Addr)) →
    option_map (λ (ends : Addr × Addr). wishes.Path (wanted_of own os ends)) o ≡ Some wish → 2 ≤ length (sequence_of (iro_of os))
path_goes_on own os wish on None is = absurd (cc)
path_goes_on own os wish on (Some ends) is =
    let same : wishes.Path (wanted_of own os ends) ≡ wish = cc in
    subst GoesOn (sym same) on

by_flag : (own : ℕ) (os : List Object) (wish : Wish) → GoesOn wish → (b : Bool) →
    cond b (option_map (λ (k : ℕ × Addr). wishes.Expand k.0 k.1) (key_of os)) (option_map (λ (ends : Addr × Addr). wishes.Path (wanted_of own os ends)) (without_bit (end_points_of own os))) ≡ Some wish →
    (b ≡ true) ⊎ (2 ≤ length (sequence_of (iro_of os)))
by_flag own os wish on true is = inl refl
by_flag own os wish on false is = inr (path_goes_on own os wish on (without_bit (end_points_of own os)) is)

pub beyond : (own : ℕ) (os : List Object) (wish : Wish) → GoesOn wish → wish_of own os ≡ Some wish → (asks_key (rp_of os) ≡ true) ⊎ (2 ≤ length (sequence_of (iro_of os)))
beyond own os wish on is = by_flag own os wish on (asks_key (rp_of os)) is
