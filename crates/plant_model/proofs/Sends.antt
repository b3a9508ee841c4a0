-- A request that came as bytes and is admitted can be sent on.
use Rattle.std.proofs.Common.{◌≡◌, ◌≤◌, ◌<◌, ◌^◌, ◌+◌, ◌*◌, ℕ, suc, Bool, true, false, cond, ◌||◌, List, [], ◌∷◌, ◌++◌, length, map, Option, Some, None, sym, ◌∙◌, ap, subst, refl, arith, lit<, length-append}
use Rattle.std.specs.Prelude.{All}
use Rattle.std.specs.List.{flat_map, list_any, AllByRecursion}
use Rattle.std.proofs.lemmas.Bool.{eqb-false}
use Rattle.std.proofs.lemmas.List.{append-nil}
use Rattle.std.proofs.lemmas.List.Concat.{flat_map-append}
use Rattle.std.proofs.lemmas.List.Elements.{All-nil, All-cons, All-head, All-tail}
use Rattle.plant_model.specs.Types.{As, Addr, Metric, Exclusion, Hop, Body, Object, Asked, Wanted}
use Rattle.dom_base.specs.declared.addr.Addr.TheVariants.{V4, V6}
use Rattle.dom_base.specs.declared.query.Metric.TheVariants.{Igp, Te, Hops}
use Rattle.dom_base.specs.declared.query.Excluded.{Excluded}
use Rattle.dom_base.specs.declared.query.Excluded.TheVariants as excluded
use Rattle.path_constraints.specs.Support.{is_demand}
use Rattle.pcep_subobjects.specs.declared.hop.Hop.TheVariants as hop_kinds
use Rattle.pcep_subobjects.specs.Addresses.{IsAddr, bits_of}
use Rattle.pcep_subobjects.specs.Hops as hops
use Rattle.pcep_subobjects.specs.Hops.{hop_text}
use Rattle.pcep_subobjects.specs.Exclusions as exclusions
use Rattle.pcep_subobjects.specs.Exclusions.{exclusion_text}
use Rattle.pcep_objects.specs.declared.object.Body.TheVariants as bodies
use Rattle.pcep_objects.specs.Spelling as objects
use Rattle.pcep_objects.specs.Spelling.{IsWord, object_text}
use Rattle.pcep_messages.specs.declared.message.Message.TheVariants as messages
use Rattle.pcep_messages.specs.Groups.{is_rp, rp_in}
use Rattle.pcep_messages.specs.Messages.{message_of}
use Rattle.pcep_messages.specs.Said.{rp_of, end_points_in, end_points_of, bandwidth_in, masks_in, metric_in, metrics_of, xro_in, xro_of, iro_in, iro_of}
use Rattle.pcep_messages.specs.Refusals.{has_no_number, domains}
use Rattle.pcep_messages.specs.Requests.{type_of_metric, without_bit, bound_of, demands_of, sequence_of}
use Rattle.pcep_messages.specs.Spelling.{BeginsRequest, objects_in, content_text, message_text}
use Rattle.plant_model.specs.Wire.{Bytes}
use Rattle.pcep_subobjects.specs.Subobjects.{AreOctets}
use Rattle.plant_model.specs.Writing.{as_hop, needed, ends, lspa, bandwidth, bound, iro, xro, asked_of, request_message, vspt_flag}
use Rattle.plant_model.specs.RealWire.{message_or_none, wire}
use Rattle.plant_model.specs.Laws.{Admits, IsRequestInRange, CanBeSent}
use Rattle.plant_model.proofs.Admitted.{IsAdmitted, admitted_is}
use Rattle.plant_model.proofs.SentOn.{can_ask, kept_by, flat, after_lspa}
use Rattle.plant_model.proofs.ReadSound.{HopIsSound, IsSound, Maybe, ObjectIsSound, request_sound, said_sound, bit_sound, ends_sound, listed_sound}

-- ---- what of a request came as bytes

abbrev pub EndsFit : Addr × Addr → Type 0
EndsFit ends = IsAddr ends.0 × IsAddr ends.1 × (bits_of ends.0 ≡ bits_of ends.1)

pub record FromBytes (w : Wanted) : Type 0 where
  pub ends : EndsFit (w.source, w.target)
  pub bandwidth : Maybe IsWord w.bandwidth_word
  pub bound : Maybe IsWord w.bound_word
  pub masks : Maybe (λ (m : ℕ × ℕ × ℕ). (m.0 < 2 ^ 32) × (m.1 < 2 ^ 32) × (m.2 < 2 ^ 32)) w.masks
  pub exclusions : AllByRecursion exclusions.IsWritten w.query.exclusions
  pub few : length w.query.exclusions ≤ 256

abbrev MasksFit : ℕ × ℕ × ℕ → Type 0
MasksFit m = (m.0 < 2 ^ 32) × (m.1 < 2 ^ 32) × (m.2 < 2 ^ 32)

abbrev IdFits : ℕ × ℕ → Type 0
IdFits rp = (rp.0 < 2 ^ 32) × (rp.1 < 2 ^ 32)

without : {X : Type 0} (Q : X → Type 0) (o : Option (X × Bool)) (x : X) → Maybe (λ (p : X × Bool). Q p.0) o → without_bit o ≡ Some x → Q x
without {X = X} Q None x m e = absurd (no e)
  where
    no : ◌≡◌ {A = Option X} None (Some x) → ⊥
    no h = cc
without {X = X} Q (Some p) x m e = subst Q (same p.0 x e) m
  where
    same : (a b : X) → ◌≡◌ {A = Option X} (Some a) (Some b) → a ≡ b
    same a b h = cc

module _ (own : As) (os : List Object) (flags x : ℕ) (w : Wanted) (is : IsAdmitted own os flags x w) (sound : AllByRecursion ObjectIsSound os) where
  id_fits : IdFits (flags, x)
  id_fits = without IdFits (rp_of os) (flags, x) (bit_sound rp_in IdFits each os sound) is.rp
    where
      each : (b : Body) → IsSound b → Maybe IdFits (rp_in b)
      each (bodies.Rp f i) s = s
      each _ s = tt

  ends_fit : EndsFit (w.source, w.target)
  ends_fit = without EndsFit (end_points_of own.0 os) (w.source, w.target) (ends_sound own.0 EndsFit each os sound) is.ends
    where
      each : (b : Body) → IsSound b → Maybe EndsFit (end_points_in b)
      each (bodies.EndPoints s t) h = h
      each _ h = tt

  id_some : 1 ≤ x
  id_some = go (rp_of os) is.rp is.passes.number
    where
      some : (k : ℕ) → (k ≡ 0 → ⊥) → 1 ≤ k
      some k h = omega arith

      go : (o : Option ((ℕ × ℕ) × Bool)) → without_bit o ≡ Some (flags, x) → has_no_number o ≡ false → 1 ≤ x
      go None e n = absurd cc
      go (Some p) e n =
          let same : p.0 ≡ (flags, x) = pair_is p.0 (flags, x) e in
          subst (λ (k : ℕ). 1 ≤ k) (ap (λ (q : ℕ × ℕ). q.1) same) (some p.0.1 (eqb-false p.0.1 0 n))
        where
          pair_is : (a b : ℕ × ℕ) → ◌≡◌ {A = Option (ℕ × ℕ)} (Some a) (Some b) → a ≡ b
          pair_is a b h = cc

  sequence_fits : (o : Option (List Hop)) → Maybe (AllByRecursion HopIsSound) o → All (λ (a : As). a.0 < 2 ^ 16) (sequence_of o)
  sequence_fits None h = All-nil (λ (a : As). a.0 < 2 ^ 16)
  sequence_fits (Some route) h = go route h
    where
      as_of : ℕ → As
      as_of n = record { 0 = n }

      go : (hs : List Hop) → AllByRecursion HopIsSound hs → All (λ (a : As). a.0 < 2 ^ 16) (map as_of (domains hs))
      go [] all = All-nil (λ (a : As). a.0 < 2 ^ 16)
      go (hop_kinds.AsNumber loose number ∷ hs) all = All-cons (λ (a : As). a.0 < 2 ^ 16) (as_of number.0) (map as_of (domains hs)) all.0 (go hs all.1)
      go (hop_kinds.Prefix loose addr len ∷ hs) all = go hs all.1
      go (hop_kinds.Key loose key pce ∷ hs) all = go hs all.1
      go (hop_kinds.Other loose kind body ∷ hs) all = go hs all.1

  along : All (λ (a : As). a.0 < 2 ^ 16) w.sequence
  along = subst (λ (l : List As). All (λ (a : As). a.0 < 2 ^ 16) l) (ap (λ (v : Wanted). v.sequence) (sym is.is)) (sequence_fits (iro_of os) (said_sound iro_in (AllByRecursion HopIsSound) each os sound))
    where
      each : (b : Body) → IsSound b → Maybe (AllByRecursion HopIsSound) (iro_in b)
      each (bodies.Iro route) h = h
      each _ h = tt

  pub range : IsRequestInRange flags x w
  range = record { sequence = along; flags_fit = id_fits.0; id_some = id_some; id_fits = id_fits.1; source = ends_fit.0; target = ends_fit.1; kinds = ends_fit.2 }

  bound_word : (ms : List (Bool × ℕ × ℕ)) → AllByRecursion (λ (m : Bool × ℕ × ℕ). IsWord m.2) ms → Maybe IsWord (bound_of ms)
  bound_word [] all = tt
  bound_word (m ∷ ms) all = go m.0 (bound_word ms all.1)
    where
      go : (b : Bool) → Maybe IsWord (bound_of ms) → Maybe IsWord (cond b (Some m.2) (bound_of ms))
      go true more = all.0
      go false more = more

  kept_demands : (o : Option (List Exclusion)) → Maybe (AllByRecursion exclusions.IsWritten) o → AllByRecursion exclusions.IsWritten (demands_of o)
  kept_demands None h = tt
  kept_demands (Some xs) h = kept_by is_demand exclusions.IsWritten xs h

  pub from_bytes : FromBytes w
  from_bytes = record {
    ends = ends_fit;
    bandwidth = subst (λ (o : Option ℕ). Maybe IsWord o) (ap (λ (v : Wanted). v.bandwidth_word) (sym is.is)) (said_sound bandwidth_in IsWord each_bandwidth os sound);
    bound = subst (λ (o : Option ℕ). Maybe IsWord o) (ap (λ (v : Wanted). v.bound_word) (sym is.is)) (bound_word (metrics_of os) (listed_sound metric_in (λ (m : Bool × ℕ × ℕ). IsWord m.2) each_metric os sound));
    masks = subst (λ (o : Option (ℕ × ℕ × ℕ)). Maybe MasksFit o) (ap (λ (v : Wanted). v.masks) (sym is.is)) (said_sound masks_in MasksFit each_masks os sound);
    exclusions = subst (λ (l : List Exclusion). AllByRecursion exclusions.IsWritten l) (ap (λ (v : Wanted). v.query.exclusions) (sym is.is)) (kept_demands (xro_of os) (said_sound xro_in (AllByRecursion exclusions.IsWritten) each_xro os sound));
    few = (can_ask own os flags x w is).kept.few;
  }
    where
      each_bandwidth : (b : Body) → IsSound b → Maybe IsWord (bandwidth_in b)
      each_bandwidth (bodies.Bandwidth word) h = h
      each_bandwidth _ h = tt

      each_metric : (b : Body) → IsSound b → Maybe (λ (m : Bool × ℕ × ℕ). IsWord m.2) (metric_in b)
      each_metric (bodies.Metric b c k word) h = h
      each_metric _ h = tt

      each_masks : (b : Body) → IsSound b → Maybe MasksFit (masks_in b)
      each_masks (bodies.Lspa a b c s t f) h = h
      each_masks _ h = tt

      each_xro : (b : Body) → IsSound b → Maybe (AllByRecursion exclusions.IsWritten) (xro_in b)
      each_xro (bodies.Xro xs) h = h
      each_xro _ h = tt

-- ---- parts of a request that is written

-- objects that are written, in so many octets, and no RP among them
pub record IsPart (most : ℕ) (os : List Object) : Type 0 where
  pub written : AllByRecursion objects.IsWritten os
  pub short : length (flat_map object_text os) ≤ most
  pub no_rp : list_any is_rp os ≡ false

nothing : (n : ℕ) → IsPart n []
nothing n = record { written = tt; short = omega arith; no_rp = refl }

all_append : {X : Type 0} (P : X → Type 0) (xs ys : List X) → AllByRecursion P xs → AllByRecursion P ys → AllByRecursion P (xs ++ ys)
all_append P [] ys a b = b
all_append P (x ∷ xs) ys a b = (a.0, all_append P xs ys a.1 b)

any_append : (xs ys : List Object) → list_any is_rp xs ≡ false → list_any is_rp ys ≡ false → list_any is_rp (xs ++ ys) ≡ false
any_append [] ys a b = b
any_append (x ∷ xs) ys a b = go (is_rp x) a (λ h. any_append xs ys h b)
  where
    go : (t : Bool) → (t || list_any is_rp xs) ≡ false → (list_any is_rp xs ≡ false → list_any is_rp (xs ++ ys) ≡ false) → (t || list_any is_rp (xs ++ ys)) ≡ false
    go true h more = absurd cc
    go false h more = more h

pub joined : (n k : ℕ) (xs ys : List Object) → IsPart n xs → IsPart k ys → IsPart (n + k) (xs ++ ys)
joined n k xs ys a b = record {
  written = all_append objects.IsWritten xs ys a.written b.written;
  short = omega (arith, ap length (flat_map-append object_text xs ys), length-append (flat_map object_text xs) (flat_map object_text ys), a.short, b.short);
  no_rp = any_append xs ys a.no_rp b.no_rp;
}

zero_word : IsWord 0
zero_word = (refl, omega arith)

code_fits : (m : Metric) → type_of_metric m < 256
code_fits Igp = omega arith
code_fits Te = omega arith
code_fits Hops = omega arith

-- by the length of its text
alone_part : (o : Object) (n : ℕ) → n < 65533 → o.class < 256 → o.kind < 16 → objects.IsPlaced o.class o.kind o.body → objects.Fits o.body → objects.HasOctets o.body →
    length (object_text o) ≡ n → is_rp o ≡ false → IsPart n (o ∷ [])
alone_part o n few class kind placed fits octets long no_rp = record {
  written = (record { class = class; octets = octets; kind = kind; placed = placed; fits = fits; small = subst (λ (k : ℕ). k ≤ 65532) (sym long) (omega (arith, few)) }, tt);
  short = subst (λ (k : ℕ). k ≤ n) (sym (ap length (append-nil (object_text o)) ∙ long)) (omega arith);
  no_rp = ap (λ (b : Bool). b || false) no_rp;
}

four_octets : (m n : ℕ) → length (object_text (ends (V4 m) (V4 n))) ≡ 12
four_octets m n = refl

sixteen_octets : (m n : ℕ) → length (object_text (ends (V6 m) (V6 n))) ≡ 36
sixteen_octets m n = refl

kinds_differ : (a b : ℕ) → a ≡ 32 → b ≡ 128 → a ≡ b → ⊥
kinds_differ a b e f g = omega (arith, e, f, g)

pub ends_part : (s t : Addr) → IsAddr s → IsAddr t → bits_of s ≡ bits_of t → IsPart 36 (ends s t ∷ [])
ends_part (V4 m) (V4 n) p q e =
    joined 12 24 (ends (V4 m) (V4 n) ∷ []) [] (alone_part (ends (V4 m) (V4 n)) 12 (lit< tt) (lit< tt) (lit< tt) (refl, refl) (p, q) tt (four_octets m n) refl) (nothing 24)
ends_part (V6 m) (V6 n) p q e = alone_part (ends (V6 m) (V6 n)) 36 (lit< tt) (lit< tt) (lit< tt) (refl, refl) (p, q) tt (sixteen_octets m n) refl
ends_part (V4 m) (V6 n) p q e = absurd (kinds_differ (bits_of (V4 m)) (bits_of (V6 n)) refl refl e)
ends_part (V6 m) (V4 n) p q e = absurd (kinds_differ (bits_of (V4 n)) (bits_of (V6 m)) refl refl (sym e))

lspa_part : (o : Option (ℕ × ℕ × ℕ)) → Maybe MasksFit o → IsPart 20 (lspa o)
lspa_part None h = nothing 20
lspa_part (Some m) h = record {
  written = (record { class = omega arith; octets = (omega arith, omega arith, omega arith); kind = omega arith; placed = (refl, refl); fits = h; small = omega arith }, tt);
  short = omega arith;
  no_rp = refl;
}

pub bandwidth_part : (o : Option ℕ) → Maybe IsWord o → IsPart 8 (bandwidth o)
bandwidth_part None h = nothing 8
bandwidth_part (Some word) h = record { written = (record { class = omega arith; octets = tt; kind = omega arith; placed = (refl, refl); fits = h; small = omega arith }, tt); short = omega arith; no_rp = refl }

metric_part : (b c : Bool) (m : Metric) (word : ℕ) → IsWord word → IsPart 12 (needed 6 (bodies.Metric b c (type_of_metric m) word) ∷ [])
metric_part b c m word h = record { written = (record { class = omega arith; octets = code_fits m; kind = omega arith; placed = (refl, refl); fits = h; small = omega arith }, tt); short = omega arith; no_rp = refl }

bound_part : (m : Metric) (o : Option ℕ) → Maybe IsWord o → IsPart 12 (bound m o)
bound_part m None h = nothing 12
bound_part m (Some word) h = metric_part true false m word h

four_each : (s : List As) → length (flat_map hop_text (map as_hop s)) ≡ 4 * length s
four_each [] = refl
four_each (a ∷ s) = omega (arith, length-append (hop_text (as_hop a)) (flat_map hop_text (map as_hop s)), four_each s)

hops_written : (s : List As) → All (λ (a : As). a.0 < 2 ^ 16) s → AllByRecursion hops.IsWritten (map as_hop s)
hops_written [] all = tt
hops_written (a ∷ s) all = (All-head (λ (a : As). a.0 < 2 ^ 16) a s all, hops_written s (All-tail (λ (a : As). a.0 < 2 ^ 16) a s all))

-- one object, by the length of its body
pub alone_short : (o : Object) (n : ℕ) → length (object_text o) ≤ n → length (flat_map object_text (o ∷ [])) ≤ n
alone_short o n le = omega (arith, ap length (append-nil (object_text o)), le)

pub iro_part : (s : List As) → length s ≤ 16 → All (λ (a : As). a.0 < 2 ^ 16) s → IsPart 68 (iro s)
iro_part [] few all = nothing 68
iro_part (a ∷ s) few all =
    let o = needed 10 (bodies.Iro (map as_hop (a ∷ s))) in
    let le : length (object_text o) ≤ 68 = omega (arith, four_each (a ∷ s), few) in
    record {
      written = (record { class = omega arith; octets = tt; kind = omega arith; placed = (refl, refl); fits = hops_written (a ∷ s) all; small = omega (arith, le) }, tt);
      short = alone_short o 68 le;
      no_rp = refl;
    }

exclusion_short : (avoid : Bool) (what : Excluded) → (let e : Exclusion = record { avoid = avoid; what = what } in exclusions.IsWritten e) → (let e : Exclusion = record { avoid = avoid; what = what } in length (exclusion_text e) ≤ 252)
exclusion_short avoid (excluded.Prefix (V4 n) len attribute) h = omega arith
exclusion_short avoid (excluded.Prefix (V6 n) len attribute) h = omega arith
exclusion_short avoid (excluded.AsNumber number) h = omega arith
exclusion_short avoid (excluded.Srlg number) h = omega arith
exclusion_short avoid (excluded.Other kind body) h = let most : length body ≤ 250 = h.1.2 in omega (arith, most)

xro_short : (xs : List Exclusion) → AllByRecursion exclusions.IsWritten xs → length (flat_map exclusion_text xs) ≤ 252 * length xs
xro_short [] all = omega arith
xro_short (x ∷ xs) all = omega (arith, length-append (exclusion_text x) (flat_map exclusion_text xs), exclusion_short x.avoid x.what all.0, xro_short xs all.1)

xro_part : (xs : List Exclusion) → length xs ≤ 256 → AllByRecursion exclusions.IsWritten xs → IsPart 64520 (xro xs)
xro_part [] few all = nothing 64520
xro_part (x ∷ xs) few all =
    let o = needed 17 (bodies.Xro (x ∷ xs)) in
    let le : length (object_text o) ≤ 64520 = omega (arith, xro_short (x ∷ xs) all, few) in
    record {
      written = (record { class = omega arith; octets = tt; kind = omega arith; placed = (refl, refl); fits = all; small = omega (arith, le) }, tt);
      short = alone_short o 64520 le;
      no_rp = refl;
    }

-- ---- the message

can_be_sent : (w : Wanted) → FromBytes w → CanBeSent w
can_be_sent w from id t s at_id at_t alike few all =
    record { shape = (omega arith, (subst BeginsRequest (sym flat_is) (refl, rest.no_rp), tt)); objects = subst (AllByRecursion objects.IsWritten) (sym listed) (rp_written, rest.written); small = small }
  where
    behind : List Object
    behind = ends w.source t ∷ (lspa w.masks ++ after_lspa id w t s)

    rp : Object
    rp = needed 2 (bodies.Rp vspt_flag id)

    flat_is : (asked_of id w t s).objects ≡ rp ∷ behind
    flat_is = flat id w t s

    listed : objects_in (request_message id w t s) ≡ rp ∷ behind
    listed = append-nil (asked_of id w t s).objects ∙ flat_is

    rp_written : objects.IsWritten rp
    rp_written = record { class = omega arith; octets = tt; kind = omega arith; placed = (refl, refl); fits = (omega arith, at_id); small = omega arith }

    rest : IsPart (36 + (20 + (8 + (12 + (12 + (68 + 64520)))))) behind
    rest =
        joined 36 (20 + (8 + (12 + (12 + (68 + 64520))))) (ends w.source t ∷ []) (lspa w.masks ++ after_lspa id w t s) (ends_part w.source t from.ends.0 at_t alike)
        (joined 20 (8 + (12 + (12 + (68 + 64520)))) (lspa w.masks) (after_lspa id w t s) (lspa_part w.masks from.masks)
        (joined 8 (12 + (12 + (68 + 64520))) (bandwidth w.bandwidth_word) _ (bandwidth_part w.bandwidth_word from.bandwidth)
        (joined 12 (12 + (68 + 64520)) (needed 6 (bodies.Metric false true (type_of_metric w.query.metric) 0) ∷ []) _ (metric_part false true w.query.metric 0 zero_word)
        (joined 12 (68 + 64520) (bound w.query.metric w.bound_word) _ (bound_part w.query.metric w.bound_word from.bound)
        (joined 68 64520 (iro s) (xro w.query.exclusions) (iro_part s few all) (xro_part w.query.exclusions from.few from.exclusions))))))

    content : length (content_text (request_message id w t s)) ≤ 65000
    content = subst (λ (os : List Object). length (flat_map object_text os) ≤ 65000) (sym listed) (omega (arith, length-append (object_text rp) (flat_map object_text behind), rest.short))

    small : length (message_text (request_message id w t s)) ≤ 65532
    small = four_more (length (content_text (request_message id w t s))) content
      where
        four_more : (n : ℕ) → n ≤ 65000 → suc (suc (suc (suc n))) ≤ 65532
        four_more n le = omega (arith, le)

pub sends : (bytes : Bytes) (a : Asked) (own : As) (flags x : ℕ) (w : Wanted) → AreOctets bytes → message_or_none (message_of bytes) ≡ Some (messages.PcReq (a ∷ [])) → Admits wire a own flags x w →
    IsRequestInRange flags x w × CanBeSent w
sends bytes a own flags x w all e h =
    let is = admitted_is a own flags x w h in
    let sound = request_sound bytes a all e in
    (range own a.objects flags x w is sound, can_be_sent w (from_bytes own a.objects flags x w is sound))
