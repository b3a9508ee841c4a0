-- What a request that is not refused asks for: a path, or what a path key stands for.
use Rattle.std.specs.Prelude.{◌≡◌, ℕ, Bool, min, List, [], ◌∷◌, map, Option, Some, None, Result, Ok, Err, unwrap_or, ◌==◌, if◌then◌else◌}
use Rattle.std.specs.Option.{option_map}
use Rattle.dom_base.specs.declared.addr.Addr.{Addr}
use Rattle.dom_base.specs.declared.names.As.{As}
use Rattle.dom_base.specs.declared.query.Metric.{Metric}
use Rattle.dom_base.specs.declared.query.Metric.TheVariants as metrics
use Rattle.dom_base.specs.declared.query.Query.{Query}
use Rattle.dom_base.specs.declared.query.Exclusion.{Exclusion}
use Rattle.dom_base.specs.declared.limits.TheConstants.{COST_MAX}
use Rattle.dom_base.specs.Words.{units, whole}
use Rattle.path_constraints.specs.Support.{demands}
use Rattle.pcep_codes.specs.declared.metrics.TheConstants as types
use Rattle.pcep_subobjects.specs.declared.hop.Hop.{Hop}
use Rattle.pcep_objects.specs.declared.object.Object.{Object}
use Rattle.pcep_messages.specs.declared.message.Request.{Request}
use Rattle.pcep_messages.specs.declared.message.Wish.{Wish}
use Rattle.pcep_messages.specs.declared.message.Wish.TheVariants as wishes
use Rattle.pcep_messages.specs.declared.message.Wanted.{Wanted}
use Rattle.pcep_messages.specs.declared.message.Refusal.{Refusal}
use Rattle.pcep_messages.specs.declared.message.Refusal.TheVariants as refusals
use Rattle.pcep_messages.specs.Said.{rp_of, end_points_of, metrics_of, bandwidth_of, masks_of, xro_of, iro_of, key_of, asks_key}
use Rattle.pcep_messages.specs.Refusals.{asked_type, domains, refusal_of}

-- ---- the query

-- the type of a METRIC (RFC 5440, section 7.8)
abbrev pub type_of_metric : Metric → ℕ
type_of_metric metrics.Igp = types.IGP
type_of_metric metrics.Te = types.TE
type_of_metric metrics.Hops = types.HOPS

abbrev pub metric_of_type : ℕ → Metric
metric_of_type kind = if kind == types.IGP then metrics.Igp else (if kind == types.HOPS then metrics.Hops else metrics.Te)

-- the word of the METRIC that is a bound
abbrev pub bound_of : List (Bool × ℕ × ℕ) → Option ℕ
bound_of [] = None
bound_of (m ∷ ms) = if m.0 then Some m.2 else bound_of ms

-- the lesser of the bound, rounded down, and the greatest cost
abbrev pub cap_of : Option ℕ → ℕ
cap_of None = COST_MAX
cap_of (Some word) = min COST_MAX (unwrap_or (whole word) 0)

-- bytes per second, rounded up
abbrev pub units_of : Option ℕ → ℕ
units_of None = 0
units_of (Some word) = unwrap_or (units word) 0

abbrev pub demands_of : Option (List Exclusion) → List Exclusion
demands_of None = []
demands_of (Some list) = demands list

abbrev pub query_of : ℕ → List Object → Query
query_of own os =
    let masks = unwrap_or (masks_of os) (0, 0, 0) in
    record {
      own = record { 0 = own };
      metric = metric_of_type (asked_type (metrics_of os));
      cap = cap_of (bound_of (metrics_of os));
      bandwidth = units_of (bandwidth_of os);
      exclude_any = masks.0;
      include_any = masks.1;
      include_all = masks.2;
      exclusions = demands_of (xro_of os);
    }

-- ---- the request

-- what was said, without its P bit
abbrev pub without_bit : {X : Type 0} → Option (X × Bool) → Option X
without_bit None = None
without_bit (Some found) = Some found.0

abbrev pub sequence_of : Option (List Hop) → List As
sequence_of None = []
sequence_of (Some route) = map (λ n. record { 0 = n }) (domains route)

-- a path between two ends, under the query, with the words that it was asked in
abbrev pub wanted_of : ℕ → List Object → Addr × Addr → Wanted
wanted_of own os ends = record {
  source = ends.0;
  target = ends.1;
  query = query_of own os;
  bandwidth_word = bandwidth_of os;
  bound_word = bound_of (metrics_of os);
  masks = masks_of os;
  sequence = sequence_of (iro_of os);
}

-- what is asked for: the flag of path keys decides
abbrev pub wish_of : ℕ → List Object → Option Wish
wish_of own os =
    if asks_key (rp_of os) then option_map (λ (k : ℕ × Addr). wishes.Expand k.0 k.1) (key_of os)
    else option_map (λ (ends : Addr × Addr). wishes.Path (wanted_of own os ends)) (without_bit (end_points_of own os))

-- the objects of a request that is not refused ask for this
pub record Asks (own : ℕ) (os : List Object) (r : Request) : Type 0 where
  pub accepted : refusal_of own os ≡ None
  pub rp : without_bit (rp_of os) ≡ Some (r.flags, r.id)
  pub wish : wish_of own os ≡ Some r.wish

-- The answer of a call: the wish of the objects, or the first error with the flags and number of the RP, unless memory ran out.
abbrev pub Answers : ℕ → List Object → Result Request Refusal → Type 0
Answers own os (Ok r) = Asks own os r
Answers own os (Err (refusals.Wire rp kind value)) = (refusal_of own os ≡ Some (kind, value)) × (rp ≡ without_bit (rp_of os))
Answers own os (Err refusals.NoMemory) = refusal_of own os ≡ None
