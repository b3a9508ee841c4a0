-- Why a request is refused. The rules are tried in the order in which they stand, and the first that applies is the
-- answer: a type and a value of PCEP-ERROR (RFC 5440, section 7.15).
use Rattle.std.specs.Prelude.{ℕ, Bool, true, false, not, List, [], ◌∷◌, length, Option, Some, None, is_none, count_by, bit_and, nat_le, ◌==◌, ◌&&◌, ◌||◌, if◌then◌else◌}
use Rattle.std.specs.List.{filter_map, list_any, list_all}
use Rattle.std.specs.Option.{option_or}
use Rattle.dom_base.specs.declared.query.Exclusion.{Exclusion}
use Rattle.path_constraints.specs.Support as exclusions
use Rattle.pcep_codes.specs.declared.classes.TheConstants as classes
use Rattle.pcep_codes.specs.declared.kinds.TheConstants as kinds
use Rattle.pcep_codes.specs.declared.flags.TheConstants as flags
use Rattle.pcep_codes.specs.declared.metrics.TheConstants as metrics
use Rattle.pcep_codes.specs.declared.errors.TheConstants as errors
use Rattle.pcep_subobjects.specs.declared.hop.Hop.{Hop}
use Rattle.pcep_subobjects.specs.declared.hop.Hop.TheVariants as hops
use Rattle.pcep_objects.specs.declared.object.Object.{Object}
use Rattle.pcep_objects.specs.Spelling.{read_classes}
use Rattle.pcep_messages.specs.declared.limits.TheConstants.{EXCLUSIONS_MAX, SEQUENCE_MAX}
use Rattle.pcep_messages.specs.Said.{rp_of, end_points_of, metric_in, metrics_of, xro_of, iro_of, key_of, asks_key}

-- an error type and value, where a rule applies
abbrev pub Reason : Type 0
Reason = Option (ℕ × ℕ)

abbrev pub because : Bool → ℕ × ℕ → Reason
because applies error = if applies then Some error else None

-- the first rule that applies
abbrev pub first_of : List Reason → Reason
first_of [] = None
first_of (r ∷ rs) = option_or r (first_of rs)

-- ---- the words of the rules

abbrev pub among : List ℕ → ℕ → Bool
among xs n = list_any (λ x. x == n) xs

-- the classes that are read, but in no request
abbrev pub no_request_classes : List ℕ
no_request_classes = classes.OPEN ∷ classes.NO_PATH ∷ classes.ERO ∷ classes.NOTIFICATION ∷ classes.PCEP_ERROR ∷ classes.CLOSE ∷ []

-- at the parent, whose number is 0, END-POINTS of IPv6 can't be served
abbrev pub ipv6_at : ℕ → Reason
ipv6_at own = because (own == 0) errors.KIND_NOT_SERVED

-- An object is not supported where no such class is known (3/1), no such type of the class (3/2), or where a request
-- can't be served with such a class (4/1) or type (4/2).
abbrev pub unsupported : ℕ → ℕ → ℕ → Reason
unsupported own class kind =
    if among (classes.RRO ∷ classes.SVEC ∷ classes.LOAD_BALANCING ∷ []) class then Some errors.CLASS_NOT_SERVED
    else (if not (among read_classes class) then Some errors.UNKNOWN_CLASS
    else (if (class == classes.BANDWIDTH) && (kind == kinds.BANDWIDTH_IN_USE) then Some errors.KIND_NOT_SERVED
    else (if (class == classes.END_POINTS) && (kind == kinds.END_POINTS_IPV6) then ipv6_at own
    else (if not (kind == kinds.FIRST) then Some errors.UNKNOWN_KIND
    else because (among no_request_classes class) errors.CLASS_NOT_SERVED))))

-- of the first object with P set that is not supported; with P clear such objects are ignored
abbrev pub unsupported_among : ℕ → List Object → Reason
unsupported_among own [] = None
unsupported_among own (o ∷ os) = option_or (if o.must then unsupported own o.class o.kind else None) (unsupported_among own os)

-- an object that has to be taken into account has P clear
abbrev pub is_optional : {X : Type 0} → Option (X × Bool) → Bool
is_optional None = false
is_optional (Some found) = not found.1

abbrev pub has_no_number : Option ((ℕ × ℕ) × Bool) → Bool
has_no_number None = false
has_no_number (Some rp) = rp.0.1 == 0

abbrev pub asks_other_path : Option ((ℕ × ℕ) × Bool) → Bool
asks_other_path None = false
asks_other_path (Some rp) = not (bit_and rp.0.0 flags.OTHER_PATH == 0)

-- the type of the first METRIC; without one it is TE
abbrev pub asked_type : List (Bool × ℕ × ℕ) → ℕ
asked_type [] = metrics.TE
asked_type (m ∷ ms) = m.1

-- a METRIC with the B flag, and one without it
unfoldable pub is_bound : Object → Bool
is_bound o = bit_of (metric_in o.body)
  where
    bit_of : Option (Bool × ℕ × ℕ) → Bool
    bit_of None = false
    bit_of (Some m) = m.0

unfoldable pub is_minimised : Object → Bool
is_minimised o = bit_of (metric_in o.body)
  where
    bit_of : Option (Bool × ℕ × ℕ) → Bool
    bit_of None = false
    bit_of (Some m) = not m.0

-- one type of the three
abbrev pub is_metric : ℕ → Bool
is_metric kind = nat_le metrics.IGP kind && nat_le kind metrics.HOPS

-- each METRIC of one type, with at most one to be minimised and at most one bound
abbrev pub agree_on : ℕ → List Object → Bool
agree_on kind os = list_all (λ m. m.1 == kind) (metrics_of os) && (nat_le (count_by is_bound os) 1 && nat_le (count_by is_minimised os) 1)

abbrev pub are_measures : List Object → Bool
are_measures os = is_metric (asked_type (metrics_of os)) && agree_on (asked_type (metrics_of os)) os

-- few exclusions, and each that is more than a wish is supported
abbrev pub can_exclude : Option (List Exclusion) → Bool
can_exclude None = true
can_exclude (Some list) = nat_le (length list) EXCLUSIONS_MAX && is_none (exclusions.first_unsupported list)

-- the number of a domain (RFC 3209, section 4.3.3.4)
abbrev pub domain_in : Hop → Option ℕ
domain_in (hops.AsNumber loose number) = Some number.0
domain_in _ = None

abbrev pub domains : List Hop → List ℕ
domains route = filter_map domain_in route

-- 0 is no domain
abbrev pub is_domain : Hop → Bool
is_domain (hops.AsNumber loose number) = not (number.0 == 0)
is_domain _ = false

abbrev pub has_twice : List ℕ → Bool
has_twice [] = false
has_twice (n ∷ ns) = among ns n || has_twice ns

abbrev pub begins_with : ℕ → List ℕ → Bool
begins_with own [] = false
begins_with own (n ∷ ns) = n == own

-- few domains, each once, from the own one on
abbrev pub can_follow : ℕ → Option (List Hop) → Bool
can_follow own None = true
can_follow own (Some route) =
    nat_le (length route) SEQUENCE_MAX && (list_all is_domain route && (not (has_twice (domains route)) && begins_with own (domains route)))

-- ---- the rules

-- for every request
abbrev pub request_rules : ℕ → List Object → List Reason
request_rules own os =
    unsupported_among own os  -- RFC 5440, 7.2: an object with P set that is not supported
    ∷ because (is_none (rp_of os)) errors.RP_MISSING  -- RFC 5440, 6.4: the RP is missing
    ∷ because (is_optional (rp_of os)) errors.P_CLEAR  -- RFC 5440, 7.4: the RP has P clear
    ∷ because (has_no_number (rp_of os)) errors.PARAMETER_NOT_SERVED  -- RFC 5440, 7.4.1: the number of the request is 0
    ∷ because (asks_other_path (rp_of os)) errors.PARAMETER_NOT_SERVED  -- RFC 5440, 7.4.1: reoptimisation (R), a path both ways (B)
    ∷ []

-- for a request that asks what a path key stands for
abbrev pub key_rules : List Object → List Reason
key_rules os =
    because (is_none (key_of os)) errors.PARAMETER_NOT_SERVED  -- RFC 5520, 3.2.3: there is no path key
    ∷ []

-- for a request for a path, at the element of a domain
abbrev pub path_rules : ℕ → List Object → List Reason
path_rules own os =
    because (is_none (end_points_of own os)) errors.END_POINTS_MISSING  -- RFC 5440, 6.4: the END-POINTS are missing
    ∷ because (is_optional (end_points_of own os)) errors.P_CLEAR  -- RFC 5440, 7.6: the END-POINTS have P clear
    ∷ because (not (are_measures os)) errors.PARAMETER_NOT_SERVED  -- RFC 5440, 7.8: no one metric with at most one bound
    ∷ because (not (can_exclude (xro_of os))) errors.PARAMETER_NOT_SERVED  -- RFC 5521, 2.1: exclusions that can't be kept
    ∷ because (not (can_follow own (iro_of os))) errors.PARAMETER_NOT_SERVED  -- RFC 5440, 7.12: no sequence of domains from this one on
    ∷ []

-- The error that a request is answered with, if any.
abbrev pub refusal_of : ℕ → List Object → Reason
refusal_of own os =
    option_or (first_of (request_rules own os)) (if asks_key (rp_of os) then first_of (key_rules os) else first_of (path_rules own os))
