-- The numbers of requests and replies that came as octets can be said back, also those of hops, and the parent admits IPv4 alone.
use Rattle.std.proofs.Common.{◌≡◌, ◌<◌, ◌==◌, ◌&&◌, ℕ, Bool, true, false, cond, not, List, [], ◌∷◌, map, Option, Some, None, subst, arith}
use Rattle.std.specs.Prelude.{is_none}
use Rattle.std.specs.Option.{option_or}
use Rattle.std.specs.List.{AllByRecursion, filter_map, cons_option}
use Rattle.plant_model.specs.Types.{As, Addr, Hop, Body, Object, Asked, Path, Reply, Wanted, Wish, OpenBody, ErrorReport}
use Rattle.pcep_codes.specs.declared.classes.TheConstants as classes
use Rattle.pcep_codes.specs.declared.errors.TheConstants as errors
use Rattle.pcep_codes.specs.declared.kinds.TheConstants as kinds
use Rattle.pcep_subobjects.specs.Addresses.{bits_of}
use Rattle.pcep_subobjects.specs.Subobjects.{AreOctets}
use Rattle.pcep_subobjects.specs.declared.hop.Hop.TheVariants as hop_kinds
use Rattle.pcep_objects.specs.declared.object.Body.TheVariants as bodies
use Rattle.pcep_objects.specs.Spelling.{read_classes}
use Rattle.pcep_messages.specs.declared.message.Message.TheVariants as messages
use Rattle.pcep_session.specs.Reports.{or_else, first_opening_of}
use Rattle.pcep_messages.specs.Groups.{rp_in, no_path_in, opening_in, first_said, first_metric, path_from, paths_of, answer_by, answer_of, reply_with, reply_of, report_of}
use Rattle.pcep_messages.specs.Messages.{message_of}
use Rattle.pcep_messages.specs.Refusals.{Reason, because, first_of, unsupported, unsupported_among, no_request_classes, among, is_optional, has_no_number, asks_other_path, are_measures, can_exclude, can_follow, request_rules, key_rules, path_rules, refusal_of}
use Rattle.pcep_messages.specs.Requests.{without_bit, wish_of}
use Rattle.pcep_messages.specs.Said.{rp_of, end_points_of, key_of, xro_of, iro_of, asks_key}
use Rattle.outside_part.specs.Ranges.{IsInRange, AreInRange}
use Rattle.plant_text.specs.Names.{parent_as}
use Rattle.plant_model.specs.Wire.{Bytes}
use Rattle.plant_model.specs.RealWire.{message_or_none, checked, check_of, wire}
use Rattle.plant_model.specs.Laws.{Admits, AreWords, HasWords, HasNumbers, HasTimers}
use Rattle.plant_model.proofs.Admitted.{admitted_is}
use Rattle.plant_model.proofs.ReadSound.{HopIsSound, IsSound, Maybe, ObjectIsSound, body_sound, request_sound, bit_sound, replies_have, reports_have, request_by, ends_above}

-- ---- reasons are octets

abbrev pub IsReason : Reason → Type 0
IsReason None = Unit {0}
IsReason (Some e) = (e.0 < 256) × (e.1 < 256)

by_rule : (b : Bool) (e : ℕ × ℕ) → IsReason (Some e) → IsReason (because b e)
by_rule true e octets = octets
by_rule false e octets = tt

either : (b : Bool) (x y : Reason) → IsReason x → IsReason y → IsReason (cond b x y)
either true x y p q = p
either false x y p q = q

else_is : (x y : Reason) → IsReason x → IsReason y → IsReason (option_or x y)
else_is (Some e) y p q = p
else_is None y p q = q

first_is : (rs : List Reason) → AllByRecursion IsReason rs → IsReason (first_of rs)
first_is [] all = tt
first_is (r ∷ rs) all = else_is r (first_of rs) all.0 (first_is rs all.1)

unsupported_is : (own class kind : ℕ) → IsReason (unsupported own class kind)
unsupported_is own class kind =
    either (among (classes.RRO ∷ classes.SVEC ∷ classes.LOAD_BALANCING ∷ []) class) (Some errors.CLASS_NOT_SERVED) _ (omega arith, omega arith)
    (either (not (among read_classes class)) (Some errors.UNKNOWN_CLASS) _ (omega arith, omega arith)
    (either ((class == classes.BANDWIDTH) && (kind == kinds.BANDWIDTH_IN_USE)) (Some errors.KIND_NOT_SERVED) _ (omega arith, omega arith)
    (either ((class == classes.END_POINTS) && (kind == kinds.END_POINTS_IPV6)) (because (own == 0) errors.KIND_NOT_SERVED) _ (by_rule (own == 0) errors.KIND_NOT_SERVED (omega arith, omega arith))
    (either (not (kind == kinds.FIRST)) (Some errors.UNKNOWN_KIND) _ (omega arith, omega arith)
    (by_rule (among no_request_classes class) errors.CLASS_NOT_SERVED (omega arith, omega arith))))))

among_is : (own : ℕ) (os : List Object) → IsReason (unsupported_among own os)
among_is own [] = tt
among_is own (o ∷ os) = else_is (cond o.must (unsupported own o.class o.kind) None) (unsupported_among own os) (either o.must (unsupported own o.class o.kind) None (unsupported_is own o.class o.kind) tt) (among_is own os)

refusal_is : (own : ℕ) (os : List Object) → IsReason (refusal_of own os)
refusal_is own os =
    else_is (first_of (request_rules own os)) (cond (asks_key (rp_of os)) (first_of (key_rules os)) (first_of (path_rules own os)))
    (first_is (request_rules own os) (
      among_is own os,
      (
        by_rule (is_none (rp_of os)) errors.RP_MISSING (omega arith, omega arith),
        (
          by_rule (is_optional (rp_of os)) errors.P_CLEAR (omega arith, omega arith),
          (
            by_rule (has_no_number (rp_of os)) errors.PARAMETER_NOT_SERVED (omega arith, omega arith),
            (by_rule (asks_other_path (rp_of os)) errors.PARAMETER_NOT_SERVED (omega arith, omega arith), tt),
          ),
        ),
      ),
    ))
    (either (asks_key (rp_of os)) (first_of (key_rules os)) (first_of (path_rules own os))
    (first_is (key_rules os) (by_rule (is_none (key_of os)) errors.PARAMETER_NOT_SERVED (omega arith, omega arith), tt))
    (first_is (path_rules own os) (
      by_rule (is_none (end_points_of own os)) errors.END_POINTS_MISSING (omega arith, omega arith),
      (
        by_rule (is_optional (end_points_of own os)) errors.P_CLEAR (omega arith, omega arith),
        (
          by_rule (not (are_measures os)) errors.PARAMETER_NOT_SERVED (omega arith, omega arith),
          (
            by_rule (not (can_exclude (xro_of os))) errors.PARAMETER_NOT_SERVED (omega arith, omega arith),
            (by_rule (not (can_follow own (iro_of os))) errors.PARAMETER_NOT_SERVED (omega arith, omega arith), tt),
          ),
        ),
      ),
    )))

-- ---- requests

said_words : (b : Body) → IsSound b → Maybe AreWords (rp_in b)
said_words (bodies.Rp f i) s = s
said_words _ s = tt

rp_words : (o : Option ((ℕ × ℕ) × Bool)) → Maybe (λ (p : (ℕ × ℕ) × Bool). AreWords p.0) o → HasWords (without_bit o)
rp_words None h = tt
rp_words (Some p) h = h

checked_has : (rp : Option (ℕ × ℕ)) (reason : Reason) (wish : Option Wish) → HasWords rp → IsReason reason → HasNumbers (checked rp reason wish)
checked_has None (Some e) wish words is = (tt, is.0, is.1)
checked_has (Some rp) (Some e) wish words is = (words, is.0, is.1)
checked_has None None wish words is = (tt, omega arith, omega arith)
checked_has (Some rp) None None words is = (words, omega arith, omega arith)
checked_has (Some rp) None (Some w) words is = words

pub checks : (bytes : Bytes) (a : Asked) (own : As) → AreOctets bytes → message_or_none (message_of bytes) ≡ Some (messages.PcReq (a ∷ [])) → HasNumbers (check_of a own)
checks bytes a own all e =
    checked_has (without_bit (rp_of a.objects)) (refusal_of own.0 a.objects) (wish_of own.0 a.objects)
    (rp_words (rp_of a.objects) (bit_sound rp_in AreWords said_words a.objects (request_sound bytes a all e))) (refusal_is own.0 a.objects)

pub admits_ipv4 : (bytes : Bytes) (a : Asked) (flags x : ℕ) (w : Wanted) → AreOctets bytes → message_or_none (message_of bytes) ≡ Some (messages.PcReq (a ∷ [])) → Admits wire a parent_as flags x w →
    bits_of w.source ≡ 32
admits_ipv4 bytes a flags x w all e h = go (end_points_of 0 a.objects) (ends_above a.objects (request_by bytes a all e)) (admitted_is a parent_as flags x w h).ends
  where
    go : (o : Option ((Addr × Addr) × Bool)) → Maybe (λ (p : (Addr × Addr) × Bool). bits_of p.0.0 ≡ 32) o → without_bit o ≡ Some (w.source, w.target) → bits_of w.source ≡ 32
    go None four is = absurd (no is)
      where
        no : ◌≡◌ {A = Option (Addr × Addr)} None (Some (w.source, w.target)) → ⊥
        no h' = cc
    go (Some p) four is = subst (λ (s : Addr). bits_of s ≡ 32) (same p.0 (w.source, w.target) is) four
      where
        same : (a b : Addr × Addr) → ◌≡◌ {A = Option (Addr × Addr)} (Some a) (Some b) → a.0 ≡ b.0
        same a b h' = cc

-- ---- replies

-- What holds of the reply of each group of sound objects holds of the replies of a message.
module _ (Q : Reply → Type 0) (group_has : (os : List Object) → AllByRecursion ObjectIsSound os → Maybe Q (reply_of os)) where
  groups_have : (groups : List (List Object)) → AllByRecursion (AllByRecursion ObjectIsSound) groups → AllByRecursion Q (filter_map reply_of groups)
  groups_have [] all = tt
  groups_have (os ∷ groups) all = go (reply_of os) (group_has os all.0) (groups_have groups all.1)
    where
      go : (o : Option Reply) → Maybe Q o → AllByRecursion Q (filter_map reply_of groups) → AllByRecursion Q (cons_option o (filter_map reply_of groups))
      go None has more = more
      go (Some r) has more = (has, more)

  each_has : (bytes : Bytes) (rs : List Reply) → AreOctets bytes → message_or_none (message_of bytes) ≡ Some (messages.PcRep rs) → AllByRecursion Q rs
  each_has bytes rs all e =
      let g = replies_have (λ kind. IsSound) body_sound bytes rs all e in
      subst (λ (l : List Reply). AllByRecursion Q l) g.2 (groups_have g.0 g.1)

abbrev HasReplyWords : Reply → Type 0
HasReplyWords r = AreWords (r.flags, r.id)

words_in : (os : List Object) → AllByRecursion ObjectIsSound os → Maybe HasReplyWords (reply_of os)
words_in [] all = tt
words_in (o ∷ os) all = go (rp_in o.body) (said_words o.body all.0)
  where
    go : (rp : Option (ℕ × ℕ)) → Maybe AreWords rp → Maybe HasReplyWords (reply_with rp (answer_of os))
    go None words = tt
    go (Some rp) words = words

pub replies : (bytes : Bytes) (rs : List Reply) → AreOctets bytes → message_or_none (message_of bytes) ≡ Some (messages.PcRep rs) → AllByRecursion (λ (r : Reply). AreWords (r.flags, r.id)) rs
replies bytes rs all e = each_has HasReplyWords words_in bytes rs all e

-- ---- the hops of replies

hop_in_range : (h : Hop) → HopIsSound h → IsInRange h
hop_in_range (hop_kinds.Prefix loose addr length) sound = sound
hop_in_range (hop_kinds.AsNumber loose number) sound = tt
hop_in_range (hop_kinds.Key loose key pce) sound = sound
hop_in_range (hop_kinds.Other loose kind body) sound = tt

route_in_range : (route : List Hop) → AllByRecursion HopIsSound route → AllByRecursion IsInRange route
route_in_range [] all = tt
route_in_range (h ∷ hs) all = (hop_in_range h all.0, route_in_range hs all.1)

abbrev PathIsInRange : Path → Type 0
PathIsInRange p = AllByRecursion IsInRange p.hops

-- a path begins at each ERO
path_in_range : (b : Body) (metric : Option (ℕ × ℕ)) (others : List Path) → IsSound b → AllByRecursion PathIsInRange others → AllByRecursion PathIsInRange (path_from b metric others)
path_in_range (bodies.Ero route) metric others sound all = (route_in_range route sound, all)
path_in_range _ metric others sound all = all

paths_in_range : (os : List Object) → AllByRecursion ObjectIsSound os → AllByRecursion PathIsInRange (paths_of os)
paths_in_range [] all = tt
paths_in_range (o ∷ os) all = path_in_range o.body (first_metric os) (paths_of os) all.0 (paths_in_range os all.1)

answer_in_range : (reason : Option (ℕ × ℕ)) (paths : List Path) → AllByRecursion PathIsInRange paths → AreInRange (answer_by reason paths)
answer_in_range None paths all = all
answer_in_range (Some n) paths all = tt

abbrev TellsInRange : Reply → Type 0
TellsInRange r = AreInRange r.answer

hops_in : (os : List Object) → AllByRecursion ObjectIsSound os → Maybe TellsInRange (reply_of os)
hops_in [] all = tt
hops_in (o ∷ os) all = go (rp_in o.body)
  where
    go : (rp : Option (ℕ × ℕ)) → Maybe TellsInRange (reply_with rp (answer_of os))
    go None = tt
    go (Some rp) = answer_in_range (first_said no_path_in os) (paths_of os) (paths_in_range os all.1)

pub hops : (bytes : Bytes) (rs : List Reply) → AreOctets bytes → message_or_none (message_of bytes) ≡ Some (messages.PcRep rs) → AllByRecursion (λ (r : Reply). AreInRange r.answer) rs
hops bytes rs all e = each_has TellsInRange hops_in bytes rs all e

-- ---- reports of errors

said_timers : (b : Body) → IsSound b → HasTimers (opening_in b)
said_timers (bodies.Open o) s = s
said_timers _ s = tt

opening_has : (os : List Object) → AllByRecursion ObjectIsSound os → HasTimers (first_said opening_in os)
opening_has [] all = tt
opening_has (o ∷ os) all = go (opening_in o.body) (said_timers o.body all.0) (opening_has os all.1)
  where
    go : (r : Option OpenBody) → HasTimers r → HasTimers (first_said opening_in os) → HasTimers (option_or r (first_said opening_in os))
    go None h more = more
    go (Some x) h more = h

reports_time : (groups : List (List Object)) → AllByRecursion (AllByRecursion ObjectIsSound) groups → HasTimers (first_opening_of (map report_of groups))
reports_time [] all = tt
reports_time (os ∷ groups) all = go (first_said opening_in os) (opening_has os all.0) (reports_time groups all.1)
  where
    go : (r : Option OpenBody) → HasTimers r → HasTimers (first_opening_of (map report_of groups)) → HasTimers (or_else r (first_opening_of (map report_of groups)))
    go None h more = more
    go (Some x) h more = h

pub openings : (bytes : Bytes) (reports : List ErrorReport) → AreOctets bytes → message_or_none (message_of bytes) ≡ Some (messages.PcErr reports) → HasTimers (first_opening_of reports)
openings bytes reports all e =
    let g = reports_have (λ kind. IsSound) body_sound bytes reports all e in
    subst (λ (rs : List ErrorReport). HasTimers (first_opening_of rs)) g.2 (reports_time g.0 g.1)
