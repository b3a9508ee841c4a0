-- A frame that is split has at most one request or reply in each part.
use Rattle.std.proofs.Common.{◌≡◌, ◌⊎◌, ◌≤◌, ◌<◌, ◌+◌, ◌-◌, ◌*◌, ◌/◌, ◌%◌, ℕ, zero, suc, Bool, true, false, cond, ◌==◌, ◌&&◌, ◌||◌, nat_le, nat_lt, List, [], ◌∷◌, ◌++◌, length, take, drop, map, Option, Some, None, is_some, Result, Ok, Err, sym, ◌∙◌, ap, subst, inl, inr, refl, arith, length-take, length-append, get_or-take}
use Rattle.std.specs.Prelude.{Contains, count_by, slice_index}
use Rattle.std.specs.List.{flat_map, filter_map, cons_option, AllByRecursion}
use Rattle.std.specs.Int.{w16, to_be_bytes}
use Rattle.std.proofs.lemmas.Bool.{leb-true, le-leb, leb-false, eqb-true, eq-eqb, ltb-false, and_parts, and_from, or_left, or_right}
use Rattle.std.proofs.lemmas.List.{take_at, length-map}
use Rattle.std.proofs.lemmas.List.Elements.{All-contains, All-from_recursion, All-take, All-head}
use Rattle.std.proofs.lemmas.List.Sums.{sum_by-cons}
use Rattle.dom_base.specs.Parts.{half_at, word_at}
use Rattle.dom_base.proofs.Parts.{Again, whole_again}
use Rattle.pcep_subobjects.specs.declared.hop.HopFault.{HopFault}
use Rattle.plant_model.specs.Types.{Body, Object, Message, Asked, Reply, Bad}
use Rattle.pcep_objects.specs.declared.object.Body.TheVariants as bodies
use Rattle.pcep_objects.specs.declared.object.ObjectFault.TheVariants as faults
use Rattle.pcep_objects.specs.declared.object.TlvFault.{TlvFault}
use Rattle.pcep_subobjects.specs.Hops.{hops_of}
use Rattle.pcep_subobjects.specs.Exclusions.{exclusions_of}
use Rattle.dom_base.specs.Words.{is_malformed}
use Rattle.pcep_objects.specs.Bodies as of
use Rattle.pcep_objects.specs.Bodies.{body_of, second_kind, of_length, with_tlvs, of_parts}
use Rattle.pcep_objects.specs.Objects.{with_body}
use Rattle.pcep_messages.specs.declared.message.Message.TheVariants as messages
use Rattle.pcep_messages.specs.declared.message.Bad.TheVariants.{Malformed}
use Rattle.pcep_messages.specs.declared.groups.Closer.TheVariants as closers
use Rattle.pcep_messages.specs.Groups.{rp_in, is_rp, cut, closes_by, begin_with, go_on_with, asked_of, requests_of, reply_groups, reply_of}
use Rattle.pcep_messages.specs.Messages.{placed, member_at, members_of, made_of, made_by_all, content_of, message_of}
use Rattle.pcep_messages.specs.Splitting.{octets_at, begins_rp, up_to_rp, groups_of, frame_with, chunks_of, split_objects, split_of}
use Rattle.plant_model.specs.Wire.{Bytes}
use Rattle.pcep_subobjects.specs.Subobjects.{AreOctets}
use Rattle.plant_model.specs.RealWire.{message_or_none}
use Rattle.plant_model.proofs.ReadKinds.{frame_kind}
use Rattle.pcep_subobjects.proofs.OctetLaws.{IsOctets, one_more, joined, half_octets, all_octets}
use Rattle.plant_model.proofs.PartsRead.{all_from, both_read, tail_bytes, total}

abbrev rp_count : Object → ℕ
rp_count o = cond (is_rp o) 1 0

abbrev begin_count : List ℕ → ℕ
begin_count c = cond (begins_rp c) 1 0

counted : {X : Type 0} (p : X → Bool) (xs : List X) → count_by p xs ≡ total (λ x. cond (p x) 1 0) xs
counted p [] = refl
counted p (x ∷ xs) = sum_by-cons (λ x. cond (p x) 1 0) x xs ∙ ap (λ k. cond (p x) 1 0 + k) (counted p xs)

-- ---- an RP is told by its class and type

abbrev IsRpBy : Bool → Option Body → Type 0
IsRpBy b None = Unit {0}
IsRpBy b (Some body) = is_some (rp_in body) ≡ b

either : (b c : Bool) (x y : Option Body) → IsRpBy b x → IsRpBy b y → IsRpBy b (cond c x y)
either b true x y p q = p
either b false x y p q = q

by_tlvs : (b : Bool) (r : Result (Option ℕ) TlvFault) (body : Option ℕ → Body) → ((word : Option ℕ) → is_some (rp_in (body word)) ≡ b) → IsRpBy b (with_tlvs r body)
by_tlvs b (Ok word) body e = e word
by_tlvs b (Err f) body e = tt

by_length : (len : ℕ) (content : List ℕ) (malformed : Bool) (body : Body) → is_some (rp_in body) ≡ false → IsRpBy false (of_length len content malformed body)
by_length len content true body e = tt
by_length len content false body e = either false (length content == len) (Some body) None e tt

by_parts : {X : Type 0} (body : List X → Body) (r : Result (List X) HopFault) → ((xs : List X) → is_some (rp_in (body xs)) ≡ false) → IsRpBy false (of_parts body r)
by_parts body (Ok xs) e = e xs
by_parts body (Err f) e = tt

-- the bodies of type 1 but OPEN and RP
abbrev pub others_of : ℕ → List ℕ → Option Body
others_of class content =
    cond (class == 3) (of.no_path_of content)
    (cond (class == 4) (of.end_points_of content)
    (cond (class == 5) (of.bandwidth_of content)
    (cond (class == 6) (of.metric_of content)
    (cond (class == 7) (of_parts bodies.Ero (hops_of content))
    (cond (class == 9) (of.lspa_of content)
    (cond (class == 10) (of_parts bodies.Iro (hops_of content))
    (cond (class == 12) (of.notification_of content)
    (cond (class == 13) (of.error_of content)
    (cond (class == 15) (of.close_of content)
    (cond (class == 16) (of_parts bodies.PathKey (hops_of content))
    (cond (class == 17) (of.xro_of content) (Some (bodies.Unread content)))))))))))))

-- those of another type
abbrev pub beyond_first : ℕ → ℕ → List ℕ → Option Body
beyond_first class kind content = cond (kind == 2) (second_kind class content) (Some (bodies.Unread content))

other_kinds : (class : ℕ) (content : List ℕ) → IsRpBy false (others_of class content)
other_kinds class content =
    either false (class == 3) (of.no_path_of content) _ (by_tlvs false (of.word_behind 4 content 1) _ (λ word. refl))
    (either false (class == 4) (of.end_points_of content) _ (by_length 8 content false _ refl)
    (either false (class == 5) (of.bandwidth_of content) _ (by_length 4 content (is_malformed (word_at content 0)) _ refl)
    (either false (class == 6) (of.metric_of content) _ (by_length 8 content (is_malformed (word_at content 4)) _ refl)
    (either false (class == 7) (of_parts bodies.Ero (hops_of content)) _ (by_parts bodies.Ero (hops_of content) (λ xs. refl))
    (either false (class == 9) (of.lspa_of content) _ (by_tlvs false (of.word_behind 16 content 0) _ (λ word. refl))
    (either false (class == 10) (of_parts bodies.Iro (hops_of content)) _ (by_parts bodies.Iro (hops_of content) (λ xs. refl))
    (either false (class == 12) (of.notification_of content) _ (by_tlvs false (of.word_behind 4 content 0) _ (λ word. refl))
    (either false (class == 13) (of.error_of content) _ (by_tlvs false (of.word_behind 4 content 0) _ (λ word. refl))
    (either false (class == 15) (of.close_of content) _ (by_tlvs false (of.word_behind 4 content 0) _ (λ word. refl))
    (either false (class == 16) (of_parts bodies.PathKey (hops_of content)) _ (by_parts bodies.PathKey (hops_of content) (λ xs. refl))
    (either false (class == 17) (of.xro_of content) (Some (bodies.Unread content)) (either false (nat_le 4 (length content)) (of_parts bodies.Xro (exclusions_of (drop 4 content))) None (by_parts bodies.Xro (exclusions_of (drop 4 content)) (λ xs. refl)) tt)
    refl)))))))))))

second_rp : (class : ℕ) (content : List ℕ) → IsRpBy false (second_kind class content)
second_rp class content = either false (class == 4) (of.longer_end_points_of content) (Some (bodies.Unread content)) (by_length 32 content false _ refl) refl

body_rp : (class kind : ℕ) (content : List ℕ) → IsRpBy ((class == 2) && (kind == 1)) (body_of class kind content)
unfolding body_of
body_rp class kind content = go (kind == 1) (class == 1) refl (class == 2) refl
  where
    go : (k a : Bool) → (class == 1) ≡ a → (b : Bool) → (class == 2) ≡ b → IsRpBy (b && k) (cond k (cond a (of.open_of content) (cond b (of.rp_of content) (others_of class content))) (beyond_first class kind content))
    go false a is true is' = either false (kind == 2) (second_kind class content) (Some (bodies.Unread content)) (second_rp class content) refl
    go false a is false is' = either false (kind == 2) (second_kind class content) (Some (bodies.Unread content)) (second_rp class content) refl
    go true true is true is' = absurd (omega (arith, eqb-true class 1 is, eqb-true class 2 is'))
    go true true is false is' = by_tlvs false (of.word_behind 4 content 16) _ (λ word. refl)
    go true false is true is' = by_tlvs true (of.word_behind 8 content 0) _ (λ word. refl)
    go true false is false is' = other_kinds class content

-- ---- an object and its octets

taken : (n k : ℕ) (bytes : List ℕ) → k < n → slice_index (take n bytes) k ≡ slice_index bytes k
taken n k bytes lt = get_or-take n bytes k 0 lt

object_is : (x y : Object × ℕ) → ◌≡◌ {A = Result (Object × ℕ) (ℕ → Bad)} (Ok x) (Ok y) → x ≡ y
object_is x y e = cc

abbrev Octets : List ℕ → Object → ℕ → Type 0
Octets bytes o len = (c : List ℕ) × (octets_at bytes ≡ Ok (c, len)) × (rp_count o ≡ begin_count c)

octets_are : (bytes : List ℕ) (o : Object) (len : ℕ) → member_at bytes ≡ Ok (o, len) → Octets bytes o len
octets_are [] o len e = absurd (not_err e)
  where
    not_err : ◌≡◌ {A = Result (Object × ℕ) (ℕ → Bad)} (Err Malformed) (Ok (o, len)) → ⊥
    not_err h = cc
octets_are (a ∷ []) o len e = absurd (not_err e)
  where
    not_err : ◌≡◌ {A = Result (Object × ℕ) (ℕ → Bad)} (Err Malformed) (Ok (o, len)) → ⊥
    not_err h = cc
octets_are (a ∷ b ∷ []) o len e = absurd (not_err e)
  where
    not_err : ◌≡◌ {A = Result (Object × ℕ) (ℕ → Bad)} (Err Malformed) (Ok (o, len)) → ⊥
    not_err h = cc
octets_are (a ∷ b ∷ c ∷ []) o len e = absurd (not_err e)
  where
    not_err : ◌≡◌ {A = Result (Object × ℕ) (ℕ → Bad)} (Err Malformed) (Ok (o, len)) → ⊥
    not_err h = cc
octets_are (class ∷ second ∷ high ∷ low ∷ bytes) o len e =
    go (nat_lt (length bytes + 4) n) refl (nat_lt n 4) refl (n % 4 == 0) refl (body_of class (second / 16) (take (n - 4) bytes)) (body_rp class (second / 16) (take (n - 4) bytes)) e
  where
    n : ℕ
    n = 256 * high + low

    all : List ℕ
    all = class ∷ second ∷ high ∷ low ∷ bytes

    not_err : ◌≡◌ {A = Result (Object × ℕ) (ℕ → Bad)} (Err Malformed) (Ok (o, len)) → ⊥
    not_err h = cc

    go : (p : Bool) → nat_lt (length bytes + 4) n ≡ p → (q : Bool) → nat_lt n 4 ≡ q → (r : Bool) → (n % 4 == 0) ≡ r → (body : Option Body) → IsRpBy ((class == 2) && (second / 16 == 1)) body →
        placed (cond p (Err (λ _. faults.Short)) (cond q (Err (λ _. faults.BadLength)) (cond r (with_body class second n body) (Err (λ _. faults.BadLength))))) ≡ Ok (o, len) → Octets all o len
    go true p' q q' r r' body by h = absurd (not_err h)
    go false p' true q' r r' body by h = absurd (not_err h)
    go false p' false q' false r' body by h = absurd (not_err h)
    go false p' false q' true r' None by h = absurd (not_err h)
    go false p' false q' true r' (Some body) by h =
        let within : n ≤ length bytes + 4 = ltb-false (length bytes + 4) n p' in
        let least : 4 ≤ n = ltb-false n 4 q' in
        let made : Object = record { class = class; kind = second / 16; must = second / 2 % 2 == 1; body = body } in
        let same : ◌≡◌ {A = Object × ℕ} (made, n) (o, len) = object_is (made, n) (o, len) h in
        let at_len : n ≡ len = ap (λ (x : Object × ℕ). x.1) same in
        let at_o : made ≡ o = ap (λ (x : Object × ℕ). x.0) same in
        let test = and_from (nat_le 4 (length all)) (nat_le 4 n && ((n % 4 == 0) && nat_le n (length all))) (le-leb 4 (length all) (omega arith))
        (and_from (nat_le 4 n) ((n % 4 == 0) && nat_le n (length all)) (le-leb 4 n least)
        (and_from (n % 4 == 0) (nat_le n (length all)) r' (le-leb n (length all) (omega (arith, within))))) in (
          take n all,
          ap (λ (x : Bool). let res : Result (List ℕ × ℕ) (ℕ → Bad) = cond x (Ok (take n all, n)) (Err Malformed) in res) test ∙ ap (λ (k : ℕ). let res : Result (List ℕ × ℕ) (ℕ → Bad) = Ok (take n all, k) in res) at_len,
          ap rp_count (sym at_o) ∙ ap (λ (x : Bool). cond x 1 0) (by ∙ sym (begins n least)),
        )
      where
        begins : (k : ℕ) → 4 ≤ k → begins_rp (take k all) ≡ ((class == 2) && (second / 16 == 1))
        begins k least =
            ap (λ (x : ℕ). (x == 2) && (slice_index (take k all) 1 / 16 == 1)) (taken k 0 all (omega (arith, least)))
            ∙ ap (λ (x : ℕ). (class == 2) && (x / 16 == 1)) (taken k 1 all (omega (arith, least)))

same_counts : (content : List ℕ) (os : List Object) → members_of content ≡ Ok os → (cs : List (List ℕ)) × (chunks_of content ≡ Ok cs) × (total rp_count os ≡ total begin_count cs)
same_counts content os e = both_read member_at octets_at rp_count begin_count octets_are 4 0 0 content os e

-- ---- how many requests and replies objects make

abbrev rp_cut : Bool → List Object → List Object × List (List Object)
rp_cut closed os = cut (closes_by closers.Rp) closed os

cut_closed : (os : List Object) → length (rp_cut true os).1 ≡ total rp_count os
cut_closed [] = refl
cut_closed (o ∷ os) = go (is_rp o) (cut_closed os)
  where
    go : (b : Bool) → length (rp_cut true os).1 ≡ total rp_count os →
        length (cond (b && true) (begin_with o (rp_cut b os)) (go_on_with o (rp_cut (true || b) os))).1 ≡ cond b 1 0 + total rp_count os
    go true more = ap suc more ∙ one (total rp_count os)
      where
        one : (k : ℕ) → suc k ≡ 1 + k
        one k = omega arith
    go false more = more ∙ none (total rp_count os)
      where
        none : (k : ℕ) → k ≡ 0 + k
        none k = omega arith

cut_first : (os : List Object) → total rp_count os ≤ 1 → length (rp_cut false os).1 ≡ 0
cut_first [] few = refl
cut_first (o ∷ os) few = go (is_rp o) few (cut_first os)
  where
    go : (b : Bool) → cond b 1 0 + total rp_count os ≤ 1 → (total rp_count os ≤ 1 → length (rp_cut false os).1 ≡ 0) →
        length (cond (b && false) (begin_with o (rp_cut b os)) (go_on_with o (rp_cut (false || b) os))).1 ≡ 0
    go true few' more = cut_closed os ∙ omega (arith, few')
    go false few' more = more (omega (arith, few'))

length_filter_map : {X Y : Type 0} (f : X → Option Y) (xs : List X) → length (filter_map f xs) ≤ length xs
length_filter_map f [] = omega arith
length_filter_map {Y = Y} f (x ∷ xs) = go (f x) (length_filter_map f xs)
  where
    go : (o : Option Y) → length (filter_map f xs) ≤ length xs → length (cons_option o (filter_map f xs)) ≤ suc (length xs)
    go None le = omega (arith, le)
    go (Some y) le = omega (arith, le)

one_request : (os : List Object) → total rp_count os ≤ 1 → length (map asked_of (requests_of os)) ≡ 1
one_request os few = length-map (requests_of os) asked_of ∙ ap suc (cut_first os few)

one_reply : (os : List Object) → total rp_count os ≤ 1 → length (filter_map reply_of (reply_groups os)) ≤ 1
one_reply os few = omega (arith, length_filter_map reply_of (reply_groups os), cut_closed os, few)

-- ---- what a frame says

pub record IsFrame (first kind high low : ℕ) (content : List ℕ) (m : Message) : Type 0 where
  pub version : (first / 32 == 1) ≡ true
  pub long : (256 * high + low == length content + 4) ≡ true
  pub is : message_or_none (content_of kind content) ≡ Some m

pub frame_is : (first kind high low : ℕ) (content : List ℕ) (m : Message) → message_or_none (message_of (first ∷ kind ∷ high ∷ low ∷ content)) ≡ Some m → IsFrame first kind high low content m
frame_is first kind high low content m e = go (first / 32 == 1) refl (256 * high + low == length content + 4) refl e
  where
    no : ◌≡◌ {A = Option Message} None (Some m) → ⊥
    no h = cc

    go : (a : Bool) → (first / 32 == 1) ≡ a → (b : Bool) → (256 * high + low == length content + 4) ≡ b →
        message_or_none (cond a (cond b (content_of kind content) (Err (Malformed 0))) (Err (Malformed 0))) ≡ Some m → IsFrame first kind high low content m
    go true p true q h = record { version = p; long = q; is = h }
    go true p false q h = absurd (no h)
    go false p b q h = absurd (no h)

pub all_is : (kind : ℕ) (r : Result (List Object) Bad) (m : Message) → message_or_none (made_by_all kind r) ≡ Some m → (os : List Object) × (r ≡ Ok os) × (made_of kind os ≡ m)
all_is kind (Ok os) m e = (os, refl, message_is (made_of kind os) e)
  where
    message_is : (x : Message) → ◌≡◌ {A = Option Message} (Some x) (Some m) → x ≡ m
    message_is x h = cc
all_is kind (Err f) m e = absurd (no e)
  where
    no : ◌≡◌ {A = Option Message} None (Some m) → ⊥
    no h = cc

-- at most one request or reply
pub record IsOne (bytes : Bytes) : Type 0 where
  pub asks : (asks : List Asked) → message_or_none (message_of bytes) ≡ Some (messages.PcReq asks) → length asks ≡ 1
  pub replies : (replies : List Reply) → message_or_none (message_of bytes) ≡ Some (messages.PcRep replies) → length replies ≤ 1

asks_are : (a b : List Asked) → messages.PcReq a ≡ messages.PcReq b → a ≡ b
asks_are a b e = cc

replies_are : (a b : List Reply) → messages.PcRep a ≡ messages.PcRep b → a ≡ b
replies_are a b e = cc

-- a frame with few RPs, where its content is cut into octets
few_is_one : (first kind high low : ℕ) (content : List ℕ) →
    ((first / 32 == 1) ≡ true → (256 * high + low == length content + 4) ≡ true → (kind ≡ 3) ⊎ (kind ≡ 4) → (cs : List (List ℕ)) → chunks_of content ≡ Ok cs → total begin_count cs ≤ 1) → IsOne (first ∷ kind ∷ high ∷ low ∷ content)
few_is_one first kind high low content few = record { asks = asks; replies = replies }
  where
    asks : (asks : List Asked) → message_or_none (message_of (first ∷ kind ∷ high ∷ low ∷ content)) ≡ Some (messages.PcReq asks) → length asks ≡ 1
    asks xs e =
        let at : kind ≡ 3 = frame_kind first kind high low content (messages.PcReq xs) e in
        let frame = frame_is first kind high low content (messages.PcReq xs) e in
        let is = all_is 3 (members_of content) (messages.PcReq xs) (ap (λ k. message_or_none (content_of k content)) (sym at) ∙ frame.is) in
        let cs = same_counts content is.0 is.1 in
        ap length (sym (asks_are (map asked_of (requests_of is.0)) xs is.2)) ∙ one_request is.0 (omega (arith, cs.2, few frame.version frame.long (inl at) cs.0 cs.1))

    replies : (replies : List Reply) → message_or_none (message_of (first ∷ kind ∷ high ∷ low ∷ content)) ≡ Some (messages.PcRep replies) → length replies ≤ 1
    replies rs e =
        let at : kind ≡ 4 = frame_kind first kind high low content (messages.PcRep rs) e in
        let frame = frame_is first kind high low content (messages.PcRep rs) e in
        let is = all_is 4 (members_of content) (messages.PcRep rs) (ap (λ k. message_or_none (content_of k content)) (sym at) ∙ frame.is) in
        let cs = same_counts content is.0 is.1 in
        let same : filter_map reply_of (reply_groups is.0) ≡ rs = replies_are (filter_map reply_of (reply_groups is.0)) rs is.2 in
        subst (λ (l : List Reply). length l ≤ 1) same (one_reply is.0 (omega (arith, cs.2, few frame.version frame.long (inr at) cs.0 cs.1)))

-- ---- whole objects

ok_pair : (x y : List ℕ × ℕ) → ◌≡◌ {A = Result (List ℕ × ℕ) (ℕ → Bad)} (Ok x) (Ok y) → x ≡ y
ok_pair x y e = cc

-- octets that are read as one object, whatever follows them
abbrev IsWhole : List ℕ → Type 0
IsWhole c = Again octets_at (λ (o : List ℕ). o) c

front_at : (c rest : List ℕ) (k : ℕ) → k < length c → slice_index (c ++ rest) k ≡ slice_index c k
front_at [] rest k lt = absurd (omega (arith, lt))
front_at (x ∷ c) rest zero lt = refl
front_at (x ∷ c) rest (suc k) lt = front_at c rest k (omega (arith, lt))

reads_again : (n : ℕ) (c rest : List ℕ) → 4 ≤ n → n % 4 ≡ 0 → length c ≡ n → half_at c 2 ≡ n → octets_at (c ++ rest) ≡ Ok (c, length c)
reads_again n c rest least aligned long is =
    let at : half_at (c ++ rest) 2 ≡ n = ap (λ k. 256 * k + slice_index (c ++ rest) 3) (front_at c rest 2 (omega (arith, long, least))) ∙ ap (λ k. 256 * slice_index c 2 + k) (front_at c rest 3 (omega (arith, long, least))) ∙ is in
    let all : length (c ++ rest) ≡ length c + length rest = length-append c rest in
    let test = and_from (nat_le 4 (length (c ++ rest))) (nat_le 4 n && ((n % 4 == 0) && nat_le n (length (c ++ rest)))) (le-leb 4 (length (c ++ rest)) (omega (arith, all, long, least)))
    (and_from (nat_le 4 n) ((n % 4 == 0) && nat_le n (length (c ++ rest))) (le-leb 4 n least)
    (and_from (n % 4 == 0) (nat_le n (length (c ++ rest))) (eq-eqb (n % 4) 0 aligned) (le-leb n (length (c ++ rest)) (omega (arith, all, long))))) in
    ap (by (length (c ++ rest))) at
    ∙ ap (λ (x : Bool). let r : Result (List ℕ × ℕ) (ℕ → Bad) = cond x (Ok (take n (c ++ rest), n)) (Err Malformed) in r) test
    ∙ ap (λ (l : List ℕ). let r : Result (List ℕ × ℕ) (ℕ → Bad) = Ok (l, n) in r) (take_at c rest n long)
    ∙ ap (λ (k : ℕ). let r : Result (List ℕ × ℕ) (ℕ → Bad) = Ok (c, k) in r) (sym long)
  where
    by : ℕ → ℕ → Result (List ℕ × ℕ) (ℕ → Bad)
    by long' k = cond (nat_le 4 long' && (nat_le 4 k && ((k % 4 == 0) && nat_le k long'))) (Ok (take k (c ++ rest), k)) (Err Malformed)

whole_is : (bytes c : List ℕ) (len : ℕ) → octets_at bytes ≡ Ok (c, len) → IsWhole c
whole_is bytes c len e = go (nat_le 4 (length bytes) && (nat_le 4 n && ((n % 4 == 0) && nat_le n (length bytes)))) refl e
  where
    n : ℕ
    n = half_at bytes 2

    no : ◌≡◌ {A = Result (List ℕ × ℕ) (ℕ → Bad)} (Err Malformed) (Ok (c, len)) → ⊥
    no h = cc

    taken_whole : 4 ≤ n → n % 4 ≡ 0 → n ≤ length bytes → IsWhole (take n bytes)
    taken_whole least aligned within =
        let long : length (take n bytes) ≡ n = omega (arith, length-take n bytes, within) in
        let is : half_at (take n bytes) 2 ≡ n = ap (λ k. 256 * k + slice_index (take n bytes) 3) (taken n 2 bytes (omega (arith, least))) ∙ ap (λ k. 256 * slice_index bytes 2 + k) (taken n 3 bytes (omega (arith, least))) in
        record { some = omega (arith, long, least); reads = λ rest. reads_again n (take n bytes) rest least aligned long is }

    go : (t : Bool) → (nat_le 4 (length bytes) && (nat_le 4 n && ((n % 4 == 0) && nat_le n (length bytes)))) ≡ t → cond {A = Result (List ℕ × ℕ) (ℕ → Bad)} t (Ok (take n bytes, n)) (Err Malformed) ≡ Ok (c, len) → IsWhole c
    go false test h = absurd (no h)
    go true test h =
        let one = and_parts (nat_le 4 (length bytes)) (nat_le 4 n && ((n % 4 == 0) && nat_le n (length bytes))) test in
        let two = and_parts (nat_le 4 n) ((n % 4 == 0) && nat_le n (length bytes)) one.1 in
        let three = and_parts (n % 4 == 0) (nat_le n (length bytes)) two.1 in
        let same : take n bytes ≡ c = ap (λ (x : List ℕ × ℕ). x.0) (ok_pair (take n bytes, n) (c, len) h) in
        subst IsWhole same (taken_whole (leb-true 4 n two.0) (eqb-true (n % 4) 0 three.0) (leb-true n (length bytes) three.1))

all_whole : (content : List ℕ) (cs : List (List ℕ)) → chunks_of content ≡ Ok cs → AllByRecursion IsWhole cs
all_whole content cs e = all_from octets_at (λ _. Unit {0}) IsWhole (λ b bytes q. tt) (λ bytes c len q h. whole_is bytes c len h) 0 0 content cs tt e

cut_again : (g : List (List ℕ)) → AllByRecursion IsWhole g → chunks_of (flat_map (λ (o : List ℕ). o) g) ≡ Ok g
cut_again g all = whole_again octets_at (λ (o : List ℕ). o) IsWhole (λ c is. is) g all

-- ---- groups of octets

abbrev IsGroup : List (List ℕ) → Type 0
IsGroup g = AllByRecursion IsWhole g × (total begin_count g ≤ 1)

abbrev AreCut : List (List ℕ) × List (List (List ℕ)) → Type 0
AreCut r = AllByRecursion IsWhole r.0 × (total begin_count r.0 ≡ 0) × AllByRecursion IsGroup r.1

cut_is : (os : List (List ℕ)) → AllByRecursion IsWhole os → AreCut (up_to_rp os)
cut_is [] all = (tt, refl, tt)
cut_is (o ∷ os) all = go (begins_rp o) refl (cut_is os all.1)
  where
    go : (b : Bool) → begins_rp o ≡ b → AreCut (up_to_rp os) → AreCut (cond b ([], (o ∷ (up_to_rp os).0) ∷ (up_to_rp os).1) (o ∷ (up_to_rp os).0, (up_to_rp os).1))
    go true is more = (tt, refl, (((all.0, more.0), omega (arith, ap (λ (b : Bool). let k : ℕ = cond b 1 0 in k) is, more.1)), more.2))
    go false is more = ((all.0, more.0), omega (arith, ap (λ (b : Bool). let k : ℕ = cond b 1 0 in k) is, more.1), more.2)

all_append : (xs ys : List (List ℕ)) → AllByRecursion IsWhole xs → AllByRecursion IsWhole ys → AllByRecursion IsWhole (xs ++ ys)
all_append [] ys a b = b
all_append (x ∷ xs) ys a b = (a.0, all_append xs ys a.1 b)

total_append : (xs ys : List (List ℕ)) → total begin_count (xs ++ ys) ≡ total begin_count xs + total begin_count ys
total_append [] ys = omega arith
total_append (x ∷ xs) ys = ap (λ k. begin_count x + k) (total_append xs ys) ∙ sum (begin_count x) (total begin_count xs) (total begin_count ys)
  where
    sum : (a b c : ℕ) → a + (b + c) ≡ a + b + c
    sum a b c = omega arith

groups_are : (front : List (List ℕ)) (gs : List (List (List ℕ))) → AreCut (front, gs) → AllByRecursion IsGroup (groups_of (front, gs))
groups_are front [] cut = tt
groups_are front (g ∷ gs) cut = ((all_append front g cut.0 cut.2.0.0, omega (arith, total_append front g, cut.1, cut.2.0.1)), cut.2.1)

group_is_one : (first kind : ℕ) (g : List (List ℕ)) → IsGroup g → IsOne (frame_with first kind g)
group_is_one first kind g is =
    let content = flat_map (λ (o : List ℕ). o) g in
    few_is_one first kind ((length content + 4) / 256 % 256) ((length content + 4) % 256) content (λ v l k cs e. few cs e)
  where
    few : (cs : List (List ℕ)) → chunks_of (flat_map (λ (o : List ℕ). o) g) ≡ Ok cs → total begin_count cs ≤ 1
    few cs e = subst (λ (l : List (List ℕ)). total begin_count l ≤ 1) (lists_are g cs (sym (cut_again g is.0) ∙ e)) is.1
      where
        lists_are : (a b : List (List ℕ)) → ◌≡◌ {A = Result (List (List ℕ)) Bad} (Ok a) (Ok b) → a ≡ b
        lists_are a b h = cc

groups_are_one : (first kind : ℕ) (gs : List (List (List ℕ))) → AllByRecursion IsGroup gs → AllByRecursion IsOne (map (frame_with first kind) gs)
groups_are_one first kind [] all = tt
groups_are_one first kind (g ∷ gs) all = (group_is_one first kind g all.0, groups_are_one first kind gs all.1)

no_message : (bytes : Bytes) → message_of bytes ≡ Err (Malformed 0) → IsOne bytes
no_message bytes e = record { asks = λ xs h. absurd (no (messages.PcReq xs) (ap message_or_none (sym e) ∙ h)); replies = λ xs h. absurd (no (messages.PcRep xs) (ap message_or_none (sym e) ∙ h)) }
  where
    no : (m : Message) → ◌≡◌ {A = Option Message} None (Some m) → ⊥
    no m h = cc

each_is_one : (frame : Bytes) → AllByRecursion IsOne (split_of frame)
each_is_one [] = (no_message [] refl, tt)
each_is_one (a ∷ []) = (no_message (a ∷ []) refl, tt)
each_is_one (a ∷ b ∷ []) = (no_message (a ∷ b ∷ []) refl, tt)
each_is_one (a ∷ b ∷ c ∷ []) = (no_message (a ∷ b ∷ c ∷ []) refl, tt)
each_is_one (first ∷ kind ∷ high ∷ low ∷ bytes) = go ((first / 32 == 1) && ((256 * high + low == length bytes + 4) && ((kind == 3) || (kind == 4)))) refl
  where
    frame : Bytes
    frame = first ∷ kind ∷ high ∷ low ∷ bytes

    is_kind : (k : ℕ) → (k ≡ 3) ⊎ (k ≡ 4) → ((k == 3) || (k == 4)) ≡ true
    is_kind k (inl e) = or_left (k == 3) (k == 4) (eq-eqb k 3 e)
    is_kind k (inr e) = or_right (k == 3) (k == 4) (eq-eqb k 4 e)

    no_true : true ≡ false → ⊥
    no_true e = cc

    objects : (r : Result (List (List ℕ)) Bad) → chunks_of bytes ≡ r → AllByRecursion IsOne (split_objects frame first kind r)
    objects (Err f) is = (few_is_one first kind high low bytes (λ v l k cs e. absurd (no cs (sym is ∙ e))), tt)
      where
        no : (cs : List (List ℕ)) → ◌≡◌ {A = Result (List (List ℕ)) Bad} (Err f) (Ok cs) → ⊥
        no cs h = cc
    objects (Ok os) is = few (nat_le 2 (count_by begins_rp os)) refl
      where
        lists_are : (a b : List (List ℕ)) → ◌≡◌ {A = Result (List (List ℕ)) Bad} (Ok a) (Ok b) → a ≡ b
        lists_are a b h = cc

        few : (b : Bool) → nat_le 2 (count_by begins_rp os) ≡ b → AllByRecursion IsOne (cond b (map (frame_with first kind) (groups_of (up_to_rp os))) (frame ∷ []))
        few true many = groups_are_one first kind (groups_of (up_to_rp os)) (groups_are (up_to_rp os).0 (up_to_rp os).1 (cut_is os (all_whole bytes os is)))
        few false not_many =
            (few_is_one first kind high low bytes (λ v l k cs e. subst (λ (l : List (List ℕ)). total begin_count l ≤ 1) (lists_are os cs (sym is ∙ e)) (omega (arith, counted begins_rp os, leb-false 2 (count_by begins_rp os) not_many))), tt)

    go : (t : Bool) → ((first / 32 == 1) && ((256 * high + low == length bytes + 4) && ((kind == 3) || (kind == 4)))) ≡ t →
        AllByRecursion IsOne (cond t (split_objects frame first kind (chunks_of bytes)) (frame ∷ []))
    go true test = objects (chunks_of bytes) refl
    go false test =
        (few_is_one first kind high low bytes (λ v l k cs e. absurd (no_true (sym (and_from (first / 32 == 1) ((256 * high + low == length bytes + 4) && ((kind == 3) || (kind == 4))) v (and_from (256 * high + low == length bytes + 4) ((kind == 3) || (kind == 4)) l (is_kind kind k))) ∙ test))), tt)

one_of : (frame bytes : Bytes) → Contains (split_of frame) bytes → IsOne bytes
one_of frame bytes h = All-contains IsOne (split_of frame) bytes (All-from_recursion IsOne (split_of frame) (each_is_one frame)) h

pub splits : (frame bytes : Bytes) (asks : List Asked) → Contains (split_of frame) bytes → message_or_none (message_of bytes) ≡ Some (messages.PcReq asks) → length asks ≡ 1
splits frame bytes asks h e = (one_of frame bytes h).asks asks e

pub splits_replies : (frame bytes : Bytes) (replies : List Reply) → Contains (split_of frame) bytes → message_or_none (message_of bytes) ≡ Some (messages.PcRep replies) → length replies ≤ 1
splits_replies frame bytes replies h e = (one_of frame bytes h).replies replies e

-- ---- the parts of bytes are bytes

octets_fit : (bytes c : List ℕ) (len : ℕ) → AreOctets bytes → octets_at bytes ≡ Ok (c, len) → IsOctets c
octets_fit bytes c len all e = go (nat_le 4 (length bytes) && (nat_le 4 n && ((n % 4 == 0) && nat_le n (length bytes)))) e
  where
    n : ℕ
    n = half_at bytes 2

    no : ◌≡◌ {A = Result (List ℕ × ℕ) (ℕ → Bad)} (Err Malformed) (Ok (c, len)) → ⊥
    no h = cc

    go : (t : Bool) → cond {A = Result (List ℕ × ℕ) (ℕ → Bad)} t (Ok (take n bytes, n)) (Err Malformed) ≡ Ok (c, len) → IsOctets c
    go false h = absurd (no h)
    go true h =
        let same : take n bytes ≡ c = ap (λ (x : List ℕ × ℕ). x.0) (ok_pair (take n bytes, n) (c, len) h) in
        subst IsOctets same (record { all = All-take (λ (b : ℕ). b < 256) n bytes all })

chunks_are_octets : (content : List ℕ) (cs : List (List ℕ)) → AreOctets content → chunks_of content ≡ Ok cs → AllByRecursion IsOctets cs
chunks_are_octets content cs fit e = all_from octets_at AreOctets IsOctets tail_bytes (λ bytes c len q h. octets_fit bytes c len q h) 0 0 content cs fit e

abbrev GroupsAreOctets : List (List ℕ) × List (List (List ℕ)) → Type 0
GroupsAreOctets r = AllByRecursion IsOctets r.0 × AllByRecursion (AllByRecursion IsOctets) r.1

cut_octets : (os : List (List ℕ)) → AllByRecursion IsOctets os → GroupsAreOctets (up_to_rp os)
cut_octets [] all = (tt, tt)
cut_octets (o ∷ os) all = go (begins_rp o) (cut_octets os all.1)
  where
    go : (b : Bool) → GroupsAreOctets (up_to_rp os) → GroupsAreOctets (cond b ([], (o ∷ (up_to_rp os).0) ∷ (up_to_rp os).1) (o ∷ (up_to_rp os).0, (up_to_rp os).1))
    go true more = (tt, ((all.0, more.0), more.1))
    go false more = ((all.0, more.0), more.1)

octets_append : (xs ys : List (List ℕ)) → AllByRecursion IsOctets xs → AllByRecursion IsOctets ys → AllByRecursion IsOctets (xs ++ ys)
octets_append [] ys a b = b
octets_append (x ∷ xs) ys a b = (a.0, octets_append xs ys a.1 b)

groups_octets : (front : List (List ℕ)) (gs : List (List (List ℕ))) → GroupsAreOctets (front, gs) → AllByRecursion (AllByRecursion IsOctets) (groups_of (front, gs))
groups_octets front [] cut = tt
groups_octets front (g ∷ gs) cut = (octets_append front g cut.0 cut.1.0, cut.1.1)

framed_octets : (first kind : ℕ) (gs : List (List (List ℕ))) → first < 256 → kind < 256 → AllByRecursion (AllByRecursion IsOctets) gs → AllByRecursion IsOctets (map (frame_with first kind) gs)
framed_octets first kind [] f k all = tt
framed_octets first kind (g ∷ gs) f k all =
    let content = flat_map (λ (o : List ℕ). o) g in (
      one_more first _ f (one_more kind _ k (joined (to_be_bytes w16 (length content + 4)) content (half_octets (length content + 4)) (all_octets (λ (o : List ℕ). o) IsOctets (λ c is. is) g all.0))),
      framed_octets first kind gs f k all.1,
    )

each_is_octets : (frame : Bytes) → AreOctets frame → AllByRecursion IsOctets (split_of frame)
each_is_octets [] fit = (record { all = fit }, tt)
each_is_octets (a ∷ []) fit = (record { all = fit }, tt)
each_is_octets (a ∷ b ∷ []) fit = (record { all = fit }, tt)
each_is_octets (a ∷ b ∷ c ∷ []) fit = (record { all = fit }, tt)
each_is_octets (first ∷ kind ∷ high ∷ low ∷ bytes) fit = go ((first / 32 == 1) && ((256 * high + low == length bytes + 4) && ((kind == 3) || (kind == 4))))
  where
    frame : Bytes
    frame = first ∷ kind ∷ high ∷ low ∷ bytes

    first_fits : first < 256
    first_fits = All-head (λ (b : ℕ). b < 256) first (kind ∷ high ∷ low ∷ bytes) fit

    behind : AreOctets (kind ∷ high ∷ low ∷ bytes)
    behind = tail_bytes first (kind ∷ high ∷ low ∷ bytes) fit

    kind_fits : kind < 256
    kind_fits = All-head (λ (b : ℕ). b < 256) kind (high ∷ low ∷ bytes) behind

    content : AreOctets bytes
    content = tail_bytes low bytes (tail_bytes high (low ∷ bytes) (tail_bytes kind (high ∷ low ∷ bytes) behind))

    objects : (r : Result (List (List ℕ)) Bad) → chunks_of bytes ≡ r → AllByRecursion IsOctets (split_objects frame first kind r)
    objects (Err f) is = (record { all = fit }, tt)
    objects (Ok os) is = few (nat_le 2 (count_by begins_rp os))
      where
        few : (b : Bool) → AllByRecursion IsOctets (cond b (map (frame_with first kind) (groups_of (up_to_rp os))) (frame ∷ []))
        few true = framed_octets first kind (groups_of (up_to_rp os)) first_fits kind_fits (groups_octets (up_to_rp os).0 (up_to_rp os).1 (cut_octets os (chunks_are_octets bytes os content is)))
        few false = (record { all = fit }, tt)

    go : (t : Bool) → AllByRecursion IsOctets (cond t (split_objects frame first kind (chunks_of bytes)) (frame ∷ []))
    go true = objects (chunks_of bytes) refl
    go false = (record { all = fit }, tt)

pub splits_bytes : (frame bytes : Bytes) → AreOctets frame → Contains (split_of frame) bytes → AreOctets bytes
splits_bytes frame bytes fit h = (All-contains IsOctets (split_of frame) bytes (All-from_recursion IsOctets (split_of frame) (each_is_octets frame fit)) h).all
