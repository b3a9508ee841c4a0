-- What the objects of a request say (RFC 5440, section 6.4). Of several of one class the first counts, METRIC apart.
use Rattle.std.specs.Prelude.{ℕ, Bool, List, [], ◌∷◌, Option, Some, None, false, not, bit_and, ◌==◌, ◌&&◌, if◌then◌else◌}
use Rattle.std.specs.List.{filter_map}
use Rattle.std.specs.Option.{option_or}
use Rattle.dom_base.specs.declared.addr.Addr.{Addr}
use Rattle.dom_base.specs.declared.query.Exclusion.{Exclusion}
use Rattle.pcep_codes.specs.declared.kinds.TheConstants as kinds
use Rattle.pcep_codes.specs.declared.flags.TheConstants as flags
use Rattle.pcep_subobjects.specs.declared.hop.Hop.{Hop}
use Rattle.pcep_subobjects.specs.declared.hop.Hop.TheVariants as hops
use Rattle.pcep_objects.specs.declared.object.Body.{Body}
use Rattle.pcep_objects.specs.declared.object.Body.TheVariants as bodies
use Rattle.pcep_objects.specs.declared.object.Object.{Object}
use Rattle.pcep_messages.specs.Groups.{rp_in, first_said}

-- what the first object of a class says, and its P bit
abbrev pub with_bit : {X : Type 0} → Option X → Bool → Option (X × Bool)
with_bit (Some x) must = Some (x, must)
with_bit None must = None

abbrev pub first_with_bit : {X : Type 0} → (Body → Option X) → List Object → Option (X × Bool)
first_with_bit what [] = None
first_with_bit what (o ∷ os) = option_or (with_bit (what o.body) o.must) (first_with_bit what os)

-- the flags and the number of the first RP
abbrev pub rp_of : List Object → Option ((ℕ × ℕ) × Bool)
rp_of os = first_with_bit rp_in os

abbrev pub end_points_in : Body → Option (Addr × Addr)
end_points_in (bodies.EndPoints source target) = Some (source, target)
end_points_in _ = None

-- The parent, whose number is 0, knows no END-POINTS of type 2 (those of IPv6): it passes them over.
abbrev pub is_passed_over : ℕ → Object → Bool
is_passed_over own o = (own == 0) && (o.kind == kinds.END_POINTS_IPV6)

-- the first END-POINTS and its P bit, at the element of a domain
abbrev pub end_points_of : ℕ → List Object → Option ((Addr × Addr) × Bool)
end_points_of own [] = None
end_points_of own (o ∷ os) =
    option_or (if is_passed_over own o then None else with_bit (end_points_in o.body) o.must) (end_points_of own os)

abbrev pub bandwidth_in : Body → Option ℕ
bandwidth_in (bodies.Bandwidth word) = Some word
bandwidth_in _ = None

abbrev pub bandwidth_of : List Object → Option ℕ
bandwidth_of os = first_said bandwidth_in os

-- the three masks of colours
abbrev pub masks_in : Body → Option (ℕ × ℕ × ℕ)
masks_in (bodies.Lspa exclude_any include_any include_all setup holding bits) = Some (exclude_any, include_any, include_all)
masks_in _ = None

abbrev pub masks_of : List Object → Option (ℕ × ℕ × ℕ)
masks_of os = first_said masks_in os

-- whether each METRIC is a bound, its type and its word
abbrev pub metric_in : Body → Option (Bool × ℕ × ℕ)
metric_in (bodies.Metric bound computed kind word) = Some (bound, kind, word)
metric_in _ = None

abbrev pub metrics_of : List Object → List (Bool × ℕ × ℕ)
metrics_of os = filter_map (λ o. metric_in o.body) os

abbrev pub iro_in : Body → Option (List Hop)
iro_in (bodies.Iro route) = Some route
iro_in _ = None

abbrev pub iro_of : List Object → Option (List Hop)
iro_of os = first_said iro_in os

abbrev pub xro_in : Body → Option (List Exclusion)
xro_in (bodies.Xro list) = Some list
xro_in _ = None

abbrev pub xro_of : List Object → Option (List Exclusion)
xro_of os = first_said xro_in os

abbrev pub path_key_in : Body → Option (List Hop)
path_key_in (bodies.PathKey route) = Some route
path_key_in _ = None

-- the first path key of a PATH-KEY object, and the element that keeps it (RFC 5520, section 3.1)
abbrev pub key_in : Hop → Option (ℕ × Addr)
key_in (hops.Key loose key pce) = Some (key, pce)
key_in _ = None

abbrev pub first_key : List Hop → Option (ℕ × Addr)
first_key [] = None
first_key (h ∷ hs) = option_or (key_in h) (first_key hs)

abbrev pub key_among : Option (List Hop) → Option (ℕ × Addr)
key_among None = None
key_among (Some route) = first_key route

abbrev pub key_of : List Object → Option (ℕ × Addr)
key_of os = key_among (first_said path_key_in os)

-- whether the flag of path keys is set (RFC 5520, section 3.2.1)
abbrev pub asks_key : Option ((ℕ × ℕ) × Bool) → Bool
asks_key None = false
asks_key (Some rp) = not (bit_and rp.0.0 flags.PATH_KEY == 0)
