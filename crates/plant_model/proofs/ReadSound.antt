-- What is read from bytes is within the ranges of the wire.
use Rattle.std.proofs.Common.{◌≡◌, ◌≤◌, ◌<◌, ◌^◌, ◌+◌, ◌-◌, ◌*◌, ◌/◌, ◌%◌, ℕ, Bool, true, false, cond, ◌==◌, ◌&&◌, ◌||◌, nat_le, nat_lt, List, [], ◌∷◌, length, take, drop, map, Option, Some, None, Result, Ok, Err, sym, ◌∙◌, ap, subst, inl, inr, refl, arith, length-take, ◌⊎◌}
use Rattle.std.specs.Prelude.{slice_index}
use Rattle.std.specs.Option.{option_or}
use Rattle.std.specs.List.{filter_map, cons_option, AllByRecursion}
use Rattle.std.proofs.lemmas.Bool.{leb-true, eqb-true, ltb-false, cases_lt, or_from}
use Rattle.std.proofs.lemmas.List.{get_or_past}
use Rattle.std.proofs.lemmas.List.Elements.{All-take, All-drop, All-head}
use Rattle.plant_model.specs.Types.{Exclusion, Addr, Hop, Body, Object, Bad, Message, Asked, Reply, ErrorReport}
use Rattle.dom_base.specs.declared.query.Excluded.TheVariants as excluded
use Rattle.dom_base.specs.declared.addr.Addr.TheVariants.{V4, V6}
use Rattle.dom_base.specs.declared.query.Excluded.{Excluded}
use Rattle.dom_base.specs.Parts.{half_at, word_at, parts}
use Rattle.dom_base.specs.Words.{is_malformed}
use Rattle.pcep_subobjects.specs.declared.hop.HopFault.{HopFault}
use Rattle.pcep_subobjects.specs.declared.hop.HopFault.TheVariants as hop_faults
use Rattle.pcep_subobjects.specs.declared.hop.Hop.TheVariants as hops
use Rattle.pcep_subobjects.specs.Hops.{hop_has_length, hop_of, hops_of}
use Rattle.pcep_subobjects.specs.Addresses.{wide_at, long_at, bits_of, IsAddr}
use Rattle.pcep_subobjects.specs.Subobjects.{is_whole_words, AreOctets, subobject_at}
use Rattle.pcep_subobjects.specs.Exclusions as exclusions
use Rattle.pcep_subobjects.specs.Exclusions.{exclusion_has_length, exclusion_of, exclusion_at, exclusions_of, is_exclusion_kind}
use Rattle.pcep_objects.specs.declared.object.Body.TheVariants as bodies
use Rattle.pcep_objects.specs.declared.object.ObjectFault.TheVariants as faults
use Rattle.pcep_objects.specs.declared.object.TlvFault.{TlvFault}
use Rattle.pcep_objects.specs.Bodies as of
use Rattle.pcep_objects.specs.Bodies.{body_of, second_kind, of_length, with_tlvs, of_parts}
use Rattle.pcep_objects.specs.Objects.{with_body}
use Rattle.pcep_objects.specs.Spelling.{IsWord}
use Rattle.pcep_messages.specs.declared.message.Bad.TheVariants.{Malformed}
use Rattle.pcep_messages.specs.declared.message.Message.TheVariants as messages
use Rattle.pcep_messages.specs.declared.groups.Closer.TheVariants as closers
use Rattle.pcep_messages.specs.declared.groups.Closer.{Closer}
use Rattle.pcep_messages.specs.Groups.{is_rp, cut, closes_by, begin_with, go_on_with, asked_of, requests_of, first_said, reply_groups, reply_of, report_groups, report_of}
use Rattle.pcep_messages.specs.Messages.{placed, member_at, members_of, content_of, message_of, made_of, made_by_all}
use Rattle.pcep_messages.specs.Spelling.{kind_of}
use Rattle.pcep_messages.specs.Said.{with_bit, first_with_bit, end_points_in, end_points_of, is_passed_over}
use Rattle.plant_model.specs.Wire.{Bytes}
use Rattle.plant_model.specs.RealWire.{message_or_none}
use Rattle.plant_model.proofs.ReadKinds.{frame_kind}
use Rattle.plant_model.proofs.PartsRead.{all_from, tail_bytes}
use Rattle.plant_model.proofs.OnePart.{others_of, beyond_first, frame_is, all_is}

-- ---- numbers

byte_at : (bytes : Bytes) → AreOctets bytes → (k : ℕ) → slice_index bytes k < 256
byte_at bytes all k = elim (cases_lt k (length bytes)) [
  | inl within ↦ all k 0 within
  | inr past ↦ beyond (slice_index bytes k) (get_or_past bytes k 0 past)
]
  where
    beyond : (n : ℕ) → n ≡ 0 → n < 256
    beyond n e = omega (arith, e)

half_fits : (bytes : Bytes) → AreOctets bytes → (k : ℕ) → half_at bytes k < 2 ^ 16
half_fits bytes all k = fits (slice_index bytes k) (slice_index bytes (k + 1)) (byte_at bytes all k) (byte_at bytes all (k + 1))
  where
    fits : (a b : ℕ) → a < 256 → b < 256 → 256 * a + b < 2 ^ 16
    fits a b p q = omega (arith, p, q)

word_fits : (bytes : Bytes) → AreOctets bytes → (k : ℕ) → word_at bytes k < 2 ^ 32
word_fits bytes all k = fits (half_at bytes k) (half_at bytes (k + 2)) (half_fits bytes all k) (half_fits bytes all (k + 2))
  where
    fits : (a b : ℕ) → a < 2 ^ 16 → b < 2 ^ 16 → 65536 * a + b < 2 ^ 32
    fits a b p q = omega (arith, p, q)

wide_fits : (bytes : Bytes) → AreOctets bytes → (k : ℕ) → wide_at bytes k < 2 ^ 128
wide_fits bytes all k = sixteen (long_at bytes k) (long_at bytes (k + 8)) (long k) (long (k + 8))
  where
    eight : (a b : ℕ) → a < 2 ^ 32 → b < 2 ^ 32 → 4294967296 * a + b < 2 ^ 64
    eight a b p q = omega (arith, p, q)

    long : (j : ℕ) → long_at bytes j < 2 ^ 64
    long j = eight (word_at bytes j) (word_at bytes (j + 4)) (word_fits bytes all j) (word_fits bytes all (j + 4))

    sixteen : (a b : ℕ) → a < 2 ^ 64 → b < 2 ^ 64 → 18446744073709551616 * a + b < 2 ^ 128
    sixteen a b p q = omega (arith, p, q)

no_fault : {A E : Type 0} (f : E) (a : A) → ◌≡◌ {A = Result A E} (Err f) (Ok a) → ⊥
no_fault f a h = cc

same_read : {A E : Type 0} (a b : A) → ◌≡◌ {A = Result A E} (Ok a) (Ok b) → a ≡ b
same_read a b h = cc

not_read : (m : Message) → ◌≡◌ {A = Option Message} None (Some m) → ⊥
not_read m h = cc

-- ---- subobjects

-- What holds of a subobject of octets holds of what is read of them.
module _ {X : Type 0} (P : X → Type 0) (has_length : ℕ → ℕ → Bool) (meaning : Bool → ℕ → Bytes → X)
    (meant : (bit : Bool) (kind n : ℕ) (content : Bytes) → kind < 128 → n < 256 → AreOctets content → (2 ≤ n → length content + 2 ≡ n) → has_length kind n ≡ true → P (meaning bit kind content)) where
  read_has : (bytes : Bytes) (x : X) (len : ℕ) → AreOctets bytes → subobject_at has_length meaning bytes ≡ Ok (x, len) → P x
  read_has [] x len all e = absurd (no_fault hop_faults.Short (x, len) e)
  read_has (a ∷ []) x len all e = absurd (no_fault hop_faults.Short (x, len) e)
  read_has (first ∷ n ∷ bytes) x len all e = go (nat_lt (length bytes + 2) n) refl (has_length (first % 128) n) refl e
    where
      behind : AreOctets (n ∷ bytes)
      behind = tail_bytes first (n ∷ bytes) all

      made : X
      made = meaning (nat_le 128 first) (first % 128) (take (n - 2) bytes)

      go : (a : Bool) → nat_lt (length bytes + 2) n ≡ a → (b : Bool) → has_length (first % 128) n ≡ b →
          cond {A = Result (X × ℕ) (ℕ → HopFault)} a (Err hop_faults.Short) (cond b (Ok (made, n)) (Err hop_faults.BadLength)) ≡ Ok (x, len) → P x
      go true a' b b' h = absurd (no_fault hop_faults.Short (x, len) h)
      go false a' false b' h = absurd (no_fault hop_faults.BadLength (x, len) h)
      go false a' true b' h =
          let within : n ≤ length bytes + 2 = ltb-false (length bytes + 2) n a' in
          subst P (ap (λ (p : X × ℕ). p.0) (same_read (made, n) (x, len) h))
          (meant (nat_le 128 first) (first % 128) n (take (n - 2) bytes) (omega arith) (All-head (λ (b : ℕ). b < 256) n bytes behind) (All-take (λ (b : ℕ). b < 256) (n - 2) bytes (tail_bytes n bytes behind))
          (λ two. omega (arith, length-take (n - 2) bytes, within, two)) b')

  all_have : (bytes : Bytes) (xs : List X) → AreOctets bytes → parts (subobject_at has_length meaning) bytes ≡ Ok xs → AllByRecursion P xs
  all_have bytes xs all e = all_from (subobject_at has_length meaning) AreOctets P tail_bytes (λ b x len q h. read_has b x len q h) 0 0 bytes xs all e

-- ---- exclusions

kept_is : (avoid : Bool) (kind n : ℕ) (content : Bytes) → kind < 128 → n < 256 → AreOctets content → (2 ≤ n → length content + 2 ≡ n) → exclusion_has_length kind n ≡ true → exclusions.IsWritten (exclusion_of avoid kind content)
kept_is avoid kind n content low fits all long e = go (kind == 1) refl (kind == 2) refl (kind == 32) refl (kind == 34) refl e
  where
    word : (k : ℕ) → word_at content k < 2 ^ 32
    word k = word_fits content all k

    words : (r : Bool) → (n % 4 == 0) ≡ r → cond r (nat_le 4 n) false ≡ true → (n % 4 ≡ 0) × (4 ≤ n)
    words true r h = (eqb-true (n % 4) 0 r, leb-true 4 n h)
    words false r h = absurd cc

    read : Bool → Bool → Bool → Bool → Excluded
    read a d b c =
        cond a (excluded.Prefix (V4 (word_at content 0)) (slice_index content 4) (slice_index content 5))
        (cond d (excluded.Prefix (V6 (wide_at content 0)) (slice_index content 16) (slice_index content 17))
        (cond b (excluded.AsNumber (record { 0 = half_at content 0 })) (cond c (excluded.Srlg (word_at content 0)) (excluded.Other kind content))))

    go : (a : Bool) → (kind == 1) ≡ a → (d : Bool) → (kind == 2) ≡ d → (b : Bool) → (kind == 32) ≡ b → (c : Bool) → (kind == 34) ≡ c →
        cond a (n == 8) (cond d (n == 20) (cond b (n == 4) (cond c (n == 8) (is_whole_words n)))) ≡ true → exclusions.IsWritten (record { avoid = avoid; what = read a d b c })
    go true a' d d' b b' c c' h = (word 0, byte_at content all 4, byte_at content all 5)
    go false a' true d' b b' c c' h = (wide_fits content all 0, byte_at content all 16, byte_at content all 17)
    go false a' false d' true b' c c' h = half_fits content all 0
    go false a' false d' false b' true c' h = word 0
    go false a' false d' false b' false c' h =
        let w = words (n % 4 == 0) refl h in
        let l : length content + 2 ≡ n = long (omega (arith, w.1)) in
        let other : is_exclusion_kind kind ≡ false = or_from (kind == 1) _ a' (or_from (kind == 2) _ d' (or_from (kind == 32) _ b' (or_from (kind == 34) false c' refl))) in
        (other, (low, omega (arith, l, w.1), omega (arith, l, w.0, fits), omega (arith, l, w.0), all))

exclusions_kept : (bytes : Bytes) (xs : List Exclusion) → AreOctets bytes → exclusions_of bytes ≡ Ok xs → AllByRecursion exclusions.IsWritten xs
exclusions_kept bytes xs all e = all_have exclusions.IsWritten exclusion_has_length exclusion_of kept_is bytes xs all e

-- ---- hops

-- the numbers of a hop are those of their types
abbrev pub HopIsSound : Hop → Type 0
HopIsSound (hops.Prefix loose addr length) = IsAddr addr
HopIsSound (hops.AsNumber loose number) = number.0 < 2 ^ 16
HopIsSound (hops.Key loose key pce) = (key < 2 ^ 16) × IsAddr pce
HopIsSound (hops.Other loose kind body) = Unit {0}

meant_sound : (loose : Bool) (kind : ℕ) (content : Bytes) → AreOctets content → HopIsSound (hop_of loose kind content)
meant_sound loose kind content all = go (kind == 1) (kind == 2) (kind == 32) (kind == 64) (kind == 65)
  where
    read : Bool → Bool → Bool → Bool → Bool → Hop
    read a d b c f =
        cond a (hops.Prefix loose (V4 (word_at content 0)) (slice_index content 4))
        (cond d (hops.Prefix loose (V6 (wide_at content 0)) (slice_index content 16))
        (cond b (hops.AsNumber loose (record { 0 = half_at content 0 }))
        (cond c (hops.Key loose (half_at content 0) (V4 (word_at content 2)))
        (cond f (hops.Key loose (half_at content 0) (V6 (wide_at content 2))) (hops.Other loose kind content)))))

    go : (a d b c f : Bool) → HopIsSound (read a d b c f)
    go true d b c f = word_fits content all 0
    go false true b c f = wide_fits content all 0
    go false false true c f = half_fits content all 0
    go false false false true f = (half_fits content all 0, word_fits content all 2)
    go false false false false true = (half_fits content all 0, wide_fits content all 2)
    go false false false false false = tt

hops_sound : (bytes : Bytes) (xs : List Hop) → AreOctets bytes → hops_of bytes ≡ Ok xs → AllByRecursion HopIsSound xs
hops_sound bytes xs all e = all_have HopIsSound hop_has_length hop_of (λ loose kind n content low fits octets long has. meant_sound loose kind content octets) bytes xs all e

-- ---- bodies

-- the parts of a body that a request sends on, and the routes that a reply tells
abbrev pub IsSound : Body → Type 0
IsSound (bodies.Open o) = (o.offer.keepalive < 256) × (o.offer.dead < 256)
IsSound (bodies.Rp flags id) = (flags < 2 ^ 32) × (id < 2 ^ 32)
IsSound (bodies.EndPoints source target) = IsAddr source × IsAddr target × (bits_of source ≡ bits_of target)
IsSound (bodies.Bandwidth word) = IsWord word
IsSound (bodies.Metric b c kind word) = IsWord word
IsSound (bodies.Lspa x y z setup holding flags) = (x < 2 ^ 32) × (y < 2 ^ 32) × (z < 2 ^ 32)
IsSound (bodies.Ero route) = AllByRecursion HopIsSound route
IsSound (bodies.Iro route) = AllByRecursion HopIsSound route
IsSound (bodies.Xro list) = AllByRecursion exclusions.IsWritten list
IsSound _ = Unit {0}

abbrev pub Maybe : {X : Type 0} → (X → Type 0) → Option X → Type 0
Maybe Q None = Unit {0}
Maybe Q (Some x) = Q x

either : (c : Bool) (x y : Option Body) → Maybe IsSound x → Maybe IsSound y → Maybe IsSound (cond c x y)
either true x y p q = p
either false x y p q = q

by_tlvs : (r : Result (Option ℕ) TlvFault) (body : Option ℕ → Body) → ((word : Option ℕ) → IsSound (body word)) → Maybe IsSound (with_tlvs r body)
by_tlvs (Ok word) body s = s word
by_tlvs (Err f) body s = tt

by_length : (len : ℕ) (content : List ℕ) (malformed : Bool) (body : Body) → (malformed ≡ false → IsSound body) → Maybe IsSound (of_length len content malformed body)
by_length len content true body s = tt
by_length len content false body s = either (length content == len) (Some body) None (s refl) tt

by_parts : {X : Type 0} (body : List X → Body) (r : Result (List X) HopFault) → ((xs : List X) → r ≡ Ok xs → IsSound (body xs)) → Maybe IsSound (of_parts body r)
by_parts body (Ok xs) s = s xs refl
by_parts body (Err f) s = tt

module _ (content : Bytes) (all : AreOctets content) where
  word : (k : ℕ) → word_at content k < 2 ^ 32
  word k = word_fits content all k

  others_sound : (class : ℕ) → Maybe IsSound (others_of class content)
  others_sound class =
      either (class == 3) (of.no_path_of content) _ (by_tlvs (of.word_behind 4 content 1) _ (λ w. tt))
      (either (class == 4) (of.end_points_of content) _ (by_length 8 content false _ (λ e. (word 0, word 4, refl)))
      (either (class == 5) (of.bandwidth_of content) _ (by_length 4 content (is_malformed (word_at content 0)) _ (λ e. (e, word 0)))
      (either (class == 6) (of.metric_of content) _ (by_length 8 content (is_malformed (word_at content 4)) _ (λ e. (e, word 4)))
      (either (class == 7) (of_parts bodies.Ero (hops_of content)) _ (by_parts bodies.Ero (hops_of content) (λ xs e. hops_sound content xs all e))
      (either (class == 9) (of.lspa_of content) _ (by_tlvs (of.word_behind 16 content 0) _ (λ w. (word 0, word 4, word 8)))
      (either (class == 10) (of_parts bodies.Iro (hops_of content)) _ (by_parts bodies.Iro (hops_of content) (λ xs e. hops_sound content xs all e))
      (either (class == 12) (of.notification_of content) _ (by_tlvs (of.word_behind 4 content 0) _ (λ w. tt))
      (either (class == 13) (of.error_of content) _ (by_tlvs (of.word_behind 4 content 0) _ (λ w. tt))
      (either (class == 15) (of.close_of content) _ (by_tlvs (of.word_behind 4 content 0) _ (λ w. tt))
      (either (class == 16) (of_parts bodies.PathKey (hops_of content)) _ (by_parts bodies.PathKey (hops_of content) (λ xs e. tt))
      (either (class == 17) (of.xro_of content) (Some (bodies.Unread content))
      (either (nat_le 4 (length content)) (of_parts bodies.Xro (exclusions_of (drop 4 content))) None
      (by_parts bodies.Xro (exclusions_of (drop 4 content)) (λ xs e. exclusions_kept (drop 4 content) xs (All-drop (λ (b : ℕ). b < 256) 4 content all) e)) tt)
      tt)))))))))))

  second_sound : (class kind : ℕ) → Maybe IsSound (beyond_first class kind content)
  second_sound class kind =
      either (kind == 2) (second_kind class content) (Some (bodies.Unread content))
      (either (class == 4) (of.longer_end_points_of content) (Some (bodies.Unread content))
      (by_length 32 content false _ (λ e. (wide_fits content all 0, wide_fits content all 16, refl))) tt) tt

  pub body_sound : (class kind : ℕ) → Maybe IsSound (body_of class kind content)
  unfolding body_of
  body_sound class kind =
      either (kind == 1) _ (beyond_first class kind content)
      (either (class == 1) (of.open_of content) _ (by_tlvs (of.word_behind 4 content 16) _ (λ w. (byte_at content all 1, byte_at content all 2)))
      (either (class == 2) (of.rp_of content) _ (by_tlvs (of.word_behind 8 content 0) _ (λ w. (word 0, word 4)))
      (others_sound class)))
      (second_sound class kind)

-- ---- objects

-- What holds of each body that is read, by its type, holds of the objects of messages.
module _ (Q : ℕ → Body → Type 0) (bodies_have : (content : Bytes) → AreOctets content → (class kind : ℕ) → Maybe (Q kind) (body_of class kind content)) where
  abbrev pub Has : Object → Type 0
  Has o = Q o.kind o.body

  object_has : (bytes : Bytes) (o : Object) (len : ℕ) → AreOctets bytes → member_at bytes ≡ Ok (o, len) → Has o
  object_has [] o len all e = absurd (no_fault Malformed (o, len) e)
  object_has (a ∷ []) o len all e = absurd (no_fault Malformed (o, len) e)
  object_has (a ∷ b ∷ []) o len all e = absurd (no_fault Malformed (o, len) e)
  object_has (a ∷ b ∷ c ∷ []) o len all e = absurd (no_fault Malformed (o, len) e)
  object_has (class ∷ second ∷ high ∷ low ∷ bytes) o len all e =
      go (nat_lt (length bytes + 4) n) (nat_lt n 4) (n % 4 == 0) (body_of class (second / 16) (take (n - 4) bytes)) (bodies_have (take (n - 4) bytes) content class (second / 16)) e
    where
      n : ℕ
      n = 256 * high + low

      content : AreOctets (take (n - 4) bytes)
      content = All-take (λ (b : ℕ). b < 256) (n - 4) bytes (tail_bytes low bytes (tail_bytes high (low ∷ bytes) (tail_bytes second (high ∷ low ∷ bytes) (tail_bytes class (second ∷ high ∷ low ∷ bytes) all))))

      no : ◌≡◌ {A = Result (Object × ℕ) (ℕ → Bad)} (Err Malformed) (Ok (o, len)) → ⊥
      no h = cc

      go : (p q r : Bool) (body : Option Body) → Maybe (Q (second / 16)) body →
          placed (cond p (Err (λ _. faults.Short)) (cond q (Err (λ _. faults.BadLength)) (cond r (with_body class second n body) (Err (λ _. faults.BadLength))))) ≡ Ok (o, len) → Has o
      go true q r body s h = absurd (no h)
      go false true r body s h = absurd (no h)
      go false false false body s h = absurd (no h)
      go false false true None s h = absurd (no h)
      go false false true (Some body) s h =
          let made : Object = record { class = class; kind = second / 16; must = second / 2 % 2 == 1; body = body } in
          subst Has (ap (λ (x : Object × ℕ). x.0) (same_read (made, n) (o, len) h)) s

  members_have : (content : Bytes) (os : List Object) → AreOctets content → members_of content ≡ Ok os → AllByRecursion Has os
  members_have content os all e = all_from member_at AreOctets Has tail_bytes (λ b o len q h. object_has b o len q h) 4 0 content os all e

  -- ---- the one request of a message

  front_has : (by : Closer) (closed : Bool) (os : List Object) → AllByRecursion Has os → AllByRecursion Has (cut (closes_by by) closed os).0
  front_has by closed [] all = tt
  front_has by closed (o ∷ os) all = go (is_rp o) closed (λ c. front_has by c os all.1)
    where
      go : (b c : Bool) → ((d : Bool) → AllByRecursion Has (cut (closes_by by) d os).0) →
          AllByRecursion Has (cond (b && c) (begin_with o (cut (closes_by by) (closes_by by o) os)) (go_on_with o (cut (closes_by by) (c || closes_by by o) os))).0
      go true true more = tt
      go true false more = (all.0, more (false || closes_by by o))
      go false c more = (all.0, more (c || closes_by by o))

  -- the objects of which a message is made
  objects_have : (n : ℕ) → ((content : Bytes) → content_of n content ≡ made_by_all n (members_of content)) → (bytes : Bytes) (m : Message) → kind_of m ≡ n → AreOctets bytes →
      message_or_none (message_of bytes) ≡ Some m → (os : List Object) × AllByRecursion Has os × (made_of n os ≡ m)
  objects_have n whole [] m is all e = absurd (not_read m e)
  objects_have n whole (x ∷ []) m is all e = absurd (not_read m e)
  objects_have n whole (x ∷ y ∷ []) m is all e = absurd (not_read m e)
  objects_have n whole (x ∷ y ∷ z ∷ []) m is all e = absurd (not_read m e)
  objects_have n whole (first ∷ kind ∷ high ∷ low ∷ content) m is all e =
      let at : kind ≡ n = frame_kind first kind high low content m e ∙ is in
      let frame = frame_is first kind high low content m e in
      let found = all_is n (members_of content) m (ap message_or_none (sym (whole content)) ∙ ap (λ k. message_or_none (content_of k content)) (sym at) ∙ frame.is) in
      let bytes : AreOctets content = tail_bytes low content (tail_bytes high (low ∷ content) (tail_bytes kind (high ∷ low ∷ content) (tail_bytes first (kind ∷ high ∷ low ∷ content) all))) in
      (found.0, members_have content found.0 bytes found.1, found.2)

  pub request_has : (bytes : Bytes) (a : Asked) → AreOctets bytes → message_or_none (message_of bytes) ≡ Some (messages.PcReq (a ∷ [])) → AllByRecursion Has a.objects
  request_has bytes a all e =
      let made = objects_have 3 (λ content. refl) bytes (messages.PcReq (a ∷ [])) refl all e in
      subst (λ (os : List Object). AllByRecursion Has os) (front_is made.0 made.2) (front_has closers.Rp false made.0 made.1)
    where
      front_is : (os : List Object) → messages.PcReq (map asked_of (requests_of os)) ≡ messages.PcReq (a ∷ []) → (cut (closes_by closers.Rp) false os).0 ≡ a.objects
      front_is os h = ap (λ (x : Asked). x.objects) (head_is (asked_of (cut (closes_by closers.Rp) false os).0) (map asked_of (cut (closes_by closers.Rp) false os).1) h)
        where
          head_is : (x : Asked) (xs : List Asked) → messages.PcReq (x ∷ xs) ≡ messages.PcReq (a ∷ []) → x ≡ a
          head_is x xs h' = cc

  -- the groups behind the first
  behind_has : (by : Closer) (closed : Bool) (os : List Object) → AllByRecursion Has os → AllByRecursion (AllByRecursion Has) (cut (closes_by by) closed os).1
  behind_has by closed [] all = tt
  behind_has by closed (o ∷ os) all = go (is_rp o) closed (λ c. behind_has by c os all.1)
    where
      go : (b c : Bool) → ((d : Bool) → AllByRecursion (AllByRecursion Has) (cut (closes_by by) d os).1) →
          AllByRecursion (AllByRecursion Has) (cond (b && c) (begin_with o (cut (closes_by by) (closes_by by o) os)) (go_on_with o (cut (closes_by by) (c || closes_by by o) os))).1
      go true true more = ((all.0, front_has by (closes_by by o) os all.1), more (closes_by by o))
      go true false more = more (false || closes_by by o)
      go false c more = more (c || closes_by by o)

  -- the objects of each reply
  pub replies_have : (bytes : Bytes) (rs : List Reply) → AreOctets bytes → message_or_none (message_of bytes) ≡ Some (messages.PcRep rs) →
      (groups : List (List Object)) × AllByRecursion (AllByRecursion Has) groups × (filter_map reply_of groups ≡ rs)
  replies_have bytes rs all e =
      let made = objects_have 4 (λ content. refl) bytes (messages.PcRep rs) refl all e in
      (reply_groups made.0, behind_has closers.Rp true made.0 made.1, replies_are (filter_map reply_of (reply_groups made.0)) rs made.2)
    where
      replies_are : (a b : List Reply) → messages.PcRep a ≡ messages.PcRep b → a ≡ b
      replies_are a b h = cc

  -- the objects of each report
  reports_of : (os : List Object) → AllByRecursion Has os → AllByRecursion (AllByRecursion Has) (report_groups os)
  reports_of [] all = tt
  reports_of (o ∷ os) all = (front_has closers.Report false (o ∷ os) all, behind_has closers.Report false (o ∷ os) all)

  pub reports_have : (bytes : Bytes) (rs : List ErrorReport) → AreOctets bytes → message_or_none (message_of bytes) ≡ Some (messages.PcErr rs) →
      (groups : List (List Object)) × AllByRecursion (AllByRecursion Has) groups × (map report_of groups ≡ rs)
  reports_have bytes rs all e =
      let made = objects_have 6 (λ content. refl) bytes (messages.PcErr rs) refl all e in
      (report_groups made.0, reports_of made.0 made.1, reports_are (map report_of (report_groups made.0)) rs made.2)
    where
      reports_are : (a b : List ErrorReport) → messages.PcErr a ≡ messages.PcErr b → a ≡ b
      reports_are a b h = cc

abbrev pub ObjectIsSound : Object → Type 0
ObjectIsSound o = IsSound o.body

pub request_sound : (bytes : Bytes) (a : Asked) → AreOctets bytes → message_or_none (message_of bytes) ≡ Some (messages.PcReq (a ∷ [])) → AllByRecursion ObjectIsSound a.objects
request_sound bytes a all e = request_has (λ kind. IsSound) body_sound bytes a all e

-- ---- END-POINTS are of IPv4, or of type 2

abbrev pub EndsBy : ℕ → Body → Type 0
EndsBy kind (bodies.EndPoints source target) = (kind ≡ 2) ⊎ (bits_of source ≡ 32)
EndsBy kind _ = Unit {0}

module _ (content : Bytes) (kind : ℕ) where
  abbrev By : Option Body → Type 0
  By o = Maybe (EndsBy kind) o

  by_either : (c : Bool) (x y : Option Body) → By x → By y → By (cond c x y)
  by_either true x y p q = p
  by_either false x y p q = q

  by_words : (r : Result (Option ℕ) TlvFault) (body : Option ℕ → Body) → ((word : Option ℕ) → EndsBy kind (body word)) → By (with_tlvs r body)
  by_words (Ok word) body s = s word
  by_words (Err f) body s = tt

  by_size : (len : ℕ) (malformed : Bool) (body : Body) → EndsBy kind body → By (of_length len content malformed body)
  by_size len true body s = tt
  by_size len false body s = by_either (length content == len) (Some body) None s tt

  by_list : {X : Type 0} (body : List X → Body) (r : Result (List X) HopFault) → ((xs : List X) → EndsBy kind (body xs)) → By (of_parts body r)
  by_list body (Ok xs) s = s xs
  by_list body (Err f) s = tt

  others_by : (class : ℕ) → By (others_of class content)
  others_by class =
      by_either (class == 3) (of.no_path_of content) _ (by_words (of.word_behind 4 content 1) _ (λ w. tt))
      (by_either (class == 4) (of.end_points_of content) _ (by_size 8 false _ (inr refl))
      (by_either (class == 5) (of.bandwidth_of content) _ (by_size 4 (is_malformed (word_at content 0)) _ tt)
      (by_either (class == 6) (of.metric_of content) _ (by_size 8 (is_malformed (word_at content 4)) _ tt)
      (by_either (class == 7) (of_parts bodies.Ero (hops_of content)) _ (by_list bodies.Ero (hops_of content) (λ xs. tt))
      (by_either (class == 9) (of.lspa_of content) _ (by_words (of.word_behind 16 content 0) _ (λ w. tt))
      (by_either (class == 10) (of_parts bodies.Iro (hops_of content)) _ (by_list bodies.Iro (hops_of content) (λ xs. tt))
      (by_either (class == 12) (of.notification_of content) _ (by_words (of.word_behind 4 content 0) _ (λ w. tt))
      (by_either (class == 13) (of.error_of content) _ (by_words (of.word_behind 4 content 0) _ (λ w. tt))
      (by_either (class == 15) (of.close_of content) _ (by_words (of.word_behind 4 content 0) _ (λ w. tt))
      (by_either (class == 16) (of_parts bodies.PathKey (hops_of content)) _ (by_list bodies.PathKey (hops_of content) (λ xs. tt))
      (by_either (class == 17) (of.xro_of content) (Some (bodies.Unread content))
      (by_either (nat_le 4 (length content)) (of_parts bodies.Xro (exclusions_of (drop 4 content))) None (by_list bodies.Xro (exclusions_of (drop 4 content)) (λ xs. tt)) tt)
      tt)))))))))))

  second_by : (class : ℕ) (b : Bool) → (kind == 2) ≡ b → By (cond b (second_kind class content) (Some (bodies.Unread content)))
  second_by class true is = by_either (class == 4) (of.longer_end_points_of content) (Some (bodies.Unread content)) (by_size 32 false _ (inl (eqb-true kind 2 is))) tt
  second_by class false is = tt

  body_by : (class : ℕ) → By (body_of class kind content)
  unfolding body_of
  body_by class =
      by_either (kind == 1) _ (beyond_first class kind content)
      (by_either (class == 1) (of.open_of content) _ (by_words (of.word_behind 4 content 16) _ (λ w. tt))
      (by_either (class == 2) (of.rp_of content) _ (by_words (of.word_behind 8 content 0) _ (λ w. tt))
      (others_by class)))
      (second_by class (kind == 2) refl)

abbrev pub ObjectEndsBy : Object → Type 0
ObjectEndsBy o = EndsBy o.kind o.body

pub request_by : (bytes : Bytes) (a : Asked) → AreOctets bytes → message_or_none (message_of bytes) ≡ Some (messages.PcReq (a ∷ [])) → AllByRecursion ObjectEndsBy a.objects
request_by bytes a all e = request_has EndsBy (λ content octets class kind. body_by content kind class) bytes a all e

-- the parent passes over END-POINTS of type 2
pub ends_above : (os : List Object) → AllByRecursion ObjectEndsBy os → Maybe (λ (p : (Addr × Addr) × Bool). bits_of p.0.0 ≡ 32) (end_points_of 0 os)
ends_above [] all = tt
ends_above (o ∷ os) all = go (is_passed_over 0 o) refl o.body all.0 (ends_above os all.1)
  where
    passed : o.kind ≡ 2 → is_passed_over 0 o ≡ false → ⊥
    passed two not = let out : true ≡ false = sym (ap (λ (k : ℕ). (0 == 0) && (k == 2)) two) ∙ not in cc

    go : (b : Bool) → is_passed_over 0 o ≡ b → (body : Body) → EndsBy o.kind body → Maybe (λ (p : (Addr × Addr) × Bool). bits_of p.0.0 ≡ 32) (end_points_of 0 os) → Maybe (λ (p : (Addr × Addr) × Bool). bits_of p.0.0 ≡ 32) (option_or (cond b None (with_bit (end_points_in body) o.must)) (end_points_of 0 os))
    go true is body by more = more
    go false is (bodies.EndPoints s t) (inl two) more = absurd (passed two is)
    go false is (bodies.EndPoints s t) (inr four) more = four
    go false is _ by more = more

-- ---- what objects say

module _ {X : Type 0} (what : Body → Option X) (Q : X → Type 0) (each : (b : Body) → IsSound b → Maybe Q (what b)) where
  pub said_sound : (os : List Object) → AllByRecursion ObjectIsSound os → Maybe Q (first_said what os)
  said_sound [] all = tt
  said_sound (o ∷ os) all = go (what o.body) (each o.body all.0) (said_sound os all.1)
    where
      go : (r : Option X) → Maybe Q r → Maybe Q (first_said what os) → Maybe Q (option_or r (first_said what os))
      go None q more = more
      go (Some x) q more = q

  pub bit_sound : (os : List Object) → AllByRecursion ObjectIsSound os → Maybe (λ (p : X × Bool). Q p.0) (first_with_bit what os)
  bit_sound [] all = tt
  bit_sound (o ∷ os) all = go (what o.body) (each o.body all.0) (bit_sound os all.1)
    where
      go : (r : Option X) → Maybe Q r → Maybe (λ (p : X × Bool). Q p.0) (first_with_bit what os) → Maybe (λ (p : X × Bool). Q p.0) (option_or (with_bit r o.must) (first_with_bit what os))
      go None q more = more
      go (Some x) q more = q

  pub listed_sound : (os : List Object) → AllByRecursion ObjectIsSound os → AllByRecursion Q (filter_map (λ o. what o.body) os)
  listed_sound [] all = tt
  listed_sound (o ∷ os) all = go (what o.body) (each o.body all.0) (listed_sound os all.1)
    where
      go : (r : Option X) → Maybe Q r → AllByRecursion Q (filter_map (λ o. what o.body) os) → AllByRecursion Q (cons_option r (filter_map (λ o. what o.body) os))
      go None q more = more
      go (Some x) q more = (q, more)

-- the END-POINTS that the element of a domain does not pass over
pub ends_sound : (own : ℕ) (Q : Addr × Addr → Type 0) (each : (b : Body) → IsSound b → Maybe Q (end_points_in b)) (os : List Object) → AllByRecursion ObjectIsSound os →
    Maybe (λ (p : (Addr × Addr) × Bool). Q p.0) (end_points_of own os)
ends_sound own Q each [] all = tt
ends_sound own Q each (o ∷ os) all = go (is_passed_over own o) (end_points_in o.body) (each o.body all.0) (ends_sound own Q each os all.1)
  where
    go : (b : Bool) (r : Option (Addr × Addr)) → Maybe Q r → Maybe (λ (p : (Addr × Addr) × Bool). Q p.0) (end_points_of own os) →
        Maybe (λ (p : (Addr × Addr) × Bool). Q p.0) (option_or (cond b None (with_bit r o.must)) (end_points_of own os))
    go true r q more = more
    go false None q more = more
    go false (Some x) q more = q
