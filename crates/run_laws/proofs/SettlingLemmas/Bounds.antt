-- What messages weigh at most, and so all that stands in the queues of a run.
use Rattle.std.proofs.Common.{◌≡◌, ◌⊎◌, ◌<◌, ◌≤◌, ◌+◌, ◌-◌, ◌*◌, ◌^◌, ℕ, suc, Bool, true, false, cond, nat_lt, List, [], ◌∷◌, Option, Some, length, inl, inr, refl, sym, ap, subst, arith}
use Rattle.std.proofs.lemmas.Nat.{mul-le}
use Rattle.plant_laws.specs.plant_model.Types.{As, Addr, ParentLink, Asked, Message, Request, Wish, NetworkParts, ElementRow}
use Rattle.pcep_messages.specs.declared.message.Message.TheVariants as messages
use Rattle.pcep_messages.specs.declared.message.Wish.TheVariants.{Path, Expand}
use Rattle.pcep_messages.specs.Spelling.{IsWritten}
use Rattle.dom_base.specs.AddrOrder.{rank}
use Rattle.plant_text.specs.Names.{same_as, parent_as, insert_as}
use Rattle.plant_laws.specs.plant_model.Names.{same_addr}
use Rattle.plant_text.specs.Settings.{children, children_of, elements_of}
use Rattle.plant_laws.specs.plant_model.Rising.{insert_addr}
use Rattle.plant_laws.specs.plant_model.Wire.{Bytes, Codec, Checked, Admitted, Wrong}
use Rattle.plant_laws.specs.plant_model.Laws.{IsCodec, IsNetwork, IsSequence}
use Rattle.plant_laws.specs.plant_model.Taking.{sequence_or}
use Rattle.plant_laws.specs.plant_model.Parent.{tails}
use Rattle.plant_laws.specs.plant_model.Plant.{Plant, Entry, Run, deeds_of}
use Rattle.plant_laws.specs.Sending.{AllSent}
use Rattle.plant_laws.specs.About.{IsShort}
use Rattle.plant_laws.specs.Standing.{messages as messages_of, texts}
use Rattle.plant_laws.specs.Transcript.{Standing, Transcript, standing}
use Rattle.plant_laws.proofs.Runs.Rows.{In}
use Rattle.plant_laws.proofs.WrittenForm.ReadBack.{standing_sent, run_tables}
use Rattle.plant_laws.proofs.Runs.Queues.{queues_stand}
use Rattle.plant_laws.proofs.WrittenForm.AllWritten.{IsAlone, sent_alone}
use Rattle.plant_laws.proofs.WrittenForm.EveryWritten.{every_written}
use Rattle.plant_laws.proofs.Least.FromElement.{admits_path}
use Rattle.run_laws.specs.Settling.{total, ends, cost, checked_weight, above_weight, asked_weight, read_weight, queue_weight, queues_weight, pending_count, weight, errands_most, message_count, message_most, WeighsAtMost, MessagesAreLight, FewFollow}

-- ---- lists of domains, and of ends of interest

insert_length : (a : As) (ds : List As) → length (insert_as a ds) ≤ suc (length ds)
insert_length a [] = omega arith
insert_length a (d ∷ ds) = go (insert_length a ds) (nat_lt a.0 d.0) (same_as a d)
  where
    go : length (insert_as a ds) ≤ suc (length ds) → (b c : Bool) → length (cond b (a ∷ d ∷ ds) (cond c (d ∷ ds) (d ∷ insert_as a ds))) ≤ suc (suc (length ds))
    go more true c = omega arith
    go more false true = omega arith
    go more false false = omega (arith, more)

few_elements : (rows : List ElementRow) → length (elements_of rows) ≤ length rows
few_elements [] = omega arith
few_elements (r ∷ rows) = let one = insert_length r.own (elements_of rows) in let more = few_elements rows in omega (arith, one, more)

few_children : (rows : List ElementRow) → length (children_of rows) ≤ length rows
few_children [] = omega arith
few_children (r ∷ rows) = go r.parent (few_children rows) (insert_length r.own (children_of rows))
  where
    go : (b : Bool) → length (children_of rows) ≤ length rows → length (insert_as r.own (children_of rows)) ≤ suc (length (children_of rows)) → length (cond b (insert_as r.own (children_of rows)) (children_of rows)) ≤ suc (length rows)
    go true more one = omega (arith, more, one)
    go false more one = omega (arith, more)

insert_addr_length : (a : Addr) (ns : List Addr) → length (insert_addr a ns) ≤ suc (length ns)
insert_addr_length a [] = omega arith
insert_addr_length a (d ∷ ds) = go (insert_addr_length a ds) (nat_lt (rank a) (rank d)) (same_addr a d)
  where
    go : length (insert_addr a ds) ≤ suc (length ds) → (b c : Bool) → length (cond b (a ∷ d ∷ ds) (cond c (d ∷ ds) (d ∷ insert_addr a ds))) ≤ suc (suc (length ds))
    go more true c = omega arith
    go more false true = omega arith
    go more false false = omega (arith, more)

few_tails : (child : As) (links : List ParentLink) → length (tails child links) ≤ length links
few_tails child [] = omega arith
few_tails child (l ∷ ls) = go (same_as l.from_as child) (few_tails child ls) (insert_addr_length l.link.from (tails child ls))
  where
    go : (b : Bool) → length (tails child ls) ≤ length ls → length (insert_addr l.link.from (tails child ls)) ≤ suc (length (tails child ls)) → length (cond b (insert_addr l.link.from (tails child ls)) (tails child ls)) ≤ suc (length ls)
    go true more one = omega (arith, more, one)
    go false more one = omega (arith, more)

-- a sum of numbers that are at most so much
total_at_most : {X : Type 0} (f : X → ℕ) (w : ℕ) (xs : List X) → ((x : X) → f x ≤ w) → total f xs ≤ length xs * w
total_at_most f w [] each = omega arith
total_at_most f w (x ∷ xs) each = let here = each x in let more = total_at_most f w xs each in omega (arith, here, more)

errands_few : (links : List ParentLink) (kids : List As) → length links ≤ 256 → length kids ≤ 16 → errands_most links kids ≤ 4112
errands_few links kids few_links few_kids =
    let all = total_at_most (λ (child : As). length (tails child links) + 1) 257 kids (λ child. (let few = few_tails child links in omega (arith, few, few_links))) in
    omega (arith, all, few_kids)

pub messages_are_light : MessagesAreLight
messages_are_light n net =
    let kids = few_children n.elements in
    let few = errands_few n.parent_links (children n) net.few_parent_links (let most = net.few in omega (arith, kids, most)) in
    omega (arith, few)

-- ---- one message

module _ (c : Codec) (codec : IsCodec c) (n : NetworkParts) where
  -- sixteen ASes at most
  sequence_few : (own : As) (sequence : List As) → (sequence ≡ []) ⊎ ((rest : List As) × (sequence ≡ own ∷ rest) × IsSequence own rest) → length (sequence_or own sequence) ≤ 16
  sequence_few own sequence (inl none) = subst (λ (l : List As). length (sequence_or own l) ≤ 16) (sym none) (omega arith)
  sequence_few own sequence (inr some) = subst (λ (l : List As). length (sequence_or own l) ≤ 16) (sym some.1) some.2.few

  checked_light : (b : As) (a : Asked) → checked_weight c n b (c.check a b) ≤ 160
  checked_light b a = go (c.check a b) refl
    where
      wish : (r : Request) → c.check a b ≡ Admitted r → (w : Wish) → r.wish ≡ w → checked_weight c n b (Admitted (record r { wish = w })) ≤ 160
      wish r is (Path w) asks = let few = sequence_few b w.sequence (codec.onward.own a b r.flags r.id w (admits_path c a b r w is asks)).2 in omega (arith, few)
      wish r is (Expand key pce) asks = omega arith

      go : (o : Checked) → c.check a b ≡ o → checked_weight c n b o ≤ 160
      go (Wrong rp kind value) is = omega arith
      go (Admitted r) is = wish r is r.wish refl

  asked_light : (b : As) (a : Asked) → asked_weight c n b a ≤ 160 + above_weight c n
  asked_light b a = go (checked_light b a) (same_as b parent_as)
    where
      go : checked_weight c n b (c.check a b) ≤ 160 → (t : Bool) → cond t (above_weight c n) (checked_weight c n b (c.check a b)) ≤ 160 + above_weight c n
      go less true = omega arith
      go less false = omega (arith, less)

  one_asked : (b : As) (asks : List Asked) → length asks ≡ 1 → total (asked_weight c n b) asks ≤ 160 + above_weight c n
  one_asked b [] one = absurd (omega (arith, one))
  one_asked b (a ∷ []) one = let light = asked_light b a in omega (arith, light)
  one_asked b (a ∷ d ∷ rest) one = absurd (omega (arith, one))

  message_light : (b : As) (m : Message) → IsAlone m → 1 + cost c n b m ≤ message_most n
  message_light b (messages.PcReq asks) one = let light = one_asked b asks one in omega (arith, light)
  message_light b (messages.PcRep replies) one = omega (arith, one)
  message_light b (messages.PcNtf notices) one = omega arith
  message_light b (messages.PcErr reports) one = omega arith
  message_light b (messages.Open body) one = omega arith
  message_light b messages.Keepalive one = omega arith
  message_light b (messages.Close why) one = omega arith
  message_light b (messages.Other kind) one = omega arith

  -- ---- all that stands in a queue

  abbrev AllAlone : List Message → Type 0
  AllAlone [] = Unit {0}
  AllAlone (m ∷ ms) = IsAlone m × (c.read (c.text m) ≡ Some m) × AllAlone ms

  texts_light : (b : As) (ms : List Message) → AllAlone ms → queue_weight c n b (texts c ms) ≤ message_most n * length (texts c ms)
  texts_light b [] all = omega arith
  texts_light b (m ∷ ms) all =
      let light = message_light b m all.0 in
      let same : read_weight c n b (c.read (c.text m)) ≡ 1 + cost c n b m = ap (λ (o : Option Message). read_weight c n b o) all.1 in
      let more = texts_light b ms all.2 in
      plain (read_weight c n b (c.read (c.text m))) (1 + cost c n b m) (message_most n) (queue_weight c n b (texts c ms)) (length (texts c ms)) same light more
    where
      plain : (r w most q l : ℕ) → r ≡ w → w ≤ most → q ≤ most * l → r + q ≤ most * suc l
      plain r w most q l same light more = omega (arith, same, light, more)

  all_alone : (a b : As) (ds : Transcript) (xs : List Standing) → ((x : Standing) → In x xs → IsAlone x.message × (c.read (c.text x.message) ≡ Some x.message)) → AllAlone (messages_of xs)
  all_alone a b ds [] each = tt
  all_alone a b ds (x ∷ xs) each = let here = each x (inl refl) in (here.0, here.1, all_alone a b ds xs (λ y i. each y (inr i)))

  module _ (net : IsNetwork n) (es : List Entry) (s : Plant) (run : Run c n es s) (short : IsShort (deeds_of c n es)) where
    written : AllSent IsWritten (deeds_of c n es)
    written = every_written c codec n net es s run short

    queue_light : (a b : As) → queue_weight c n b (s.queues a b) ≤ message_most n * length (s.queues a b)
    queue_light a b =
        let ds = deeds_of c n es in
        subst (λ (q : List Bytes). queue_weight c n b q ≤ message_most n * length q) (sym (queues_stand c n es s run a b))
        (texts_light b (messages_of (standing a b ds)) (all_alone a b ds (standing a b ds)
        (λ x i. (standing_sent IsAlone a b ds x (sent_alone c n es s run) i, codec.texts.reads x.message (standing_sent IsWritten a b ds x written i)))))

    rows_light : (f g : As → ℕ) (as' : List As) → ((d : As) → f d ≤ message_most n * g d) → total f as' ≤ message_most n * total g as'
    rows_light f g [] each = omega arith
    rows_light f g (d ∷ ds) each = plain (f d) (g d) (total f ds) (total g ds) (message_most n) (each d) (rows_light f g ds each)
      where
        plain : (x y x' y' most : ℕ) → x ≤ most * y → x' ≤ most * y' → x + x' ≤ most * (y + y')
        plain x y x' y' most one more = omega (arith, one, more)

    queues_light : queues_weight c n s ≤ message_most n * message_count n s
    queues_light =
        rows_light (λ a. total (λ b. queue_weight c n b (s.queues a b)) (ends n)) (λ a. total (λ b. length (s.queues a b)) (ends n)) (ends n)
        (λ a. rows_light (λ b. queue_weight c n b (s.queues a b)) (λ b. length (s.queues a b)) (ends n) (queue_light a))

    pub weighs : weight c n s ≤ message_most n * message_count n s + 4 * pending_count c n s
    weighs = plain (queues_weight c n s) (message_most n * message_count n s) (4 * pending_count c n s) queues_light
      where
        plain : (q m k : ℕ) → q ≤ m → q + k ≤ m + k
        plain q m k less = omega (arith, less)

    pub pending_few : pending_count c n s ≤ 16448
    pending_few =
        let tables = run_tables c n codec es s run written in
        let above = tables.parent.few in
        let limit = tables.limit in
        let below = total_at_most (λ (d : As). length (s.elements d).pending.rows) 1024 (elements_of n.elements) (λ d. (let few = (tables.elements d).few in let most = tables.limits d in omega (arith, few, most))) in
        let all = few_elements n.elements in
        let sixteen = net.few in
        omega (arith, above, limit, below, all, sixteen)

pub weighs_at_most : WeighsAtMost
weighs_at_most c codec n net es s run short = (weighs c codec n net es s run short, pending_few c codec n net es s run short)

pub few_follow : FewFollow
few_follow c codec n net es s run short few =
    plain (weight c n s) (message_most n) (message_count n s) (pending_count c n s) (weighs c codec n net es s run short) (messages_are_light n net) few (pending_few c codec n net es s run short)
  where
    plain : (w most m k : ℕ) → w ≤ most * m + 4 * k → most < 2 ^ 16 → m ≤ 2 ^ 47 → k ≤ 16448 → w < 2 ^ 64 - 1
    plain w most m k all light few' pending = let product = mul-le most m 65535 (2 ^ 47) (omega (arith, light)) few' in omega (arith, all, product, pending)
