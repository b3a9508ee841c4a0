-- What the parent says to a message is in written form, where what is known of the message fits, and what it keeps stays such.
use Rattle.std.proofs.Common.{◌≡◌, ◌≤◌, ◌<◌, ◌^◌, ℕ, Bool, true, false, cond, nat_lt, ◌==◌, Option, Some, None, List, [], ◌∷◌, ◌++◌, map, sym, ◌∙◌, subst, refl, filter, arith}
use Rattle.std.specs.Prelude.{All}
use Rattle.std.specs.List.{AllByRecursion}
use Rattle.std.proofs.lemmas.List.Elements.{All-nil, All-cons, All-head, All-tail}
use Rattle.plant_model.specs.Types.{As, Addr, Peer, Inner, ParentLink, Message, Asked, Request, Reply, Answer, Wanted, Wish, Branch, ElementRow, NetworkParts}
use Rattle.dom_base.specs.AddrOrder.{rank}
use Rattle.pcep_subobjects.specs.Addresses.{IsAddr, bits_of}
use Rattle.pcep_messages.specs.declared.message.Message.TheVariants as messages
use Rattle.pcep_messages.specs.declared.message.Answer.TheVariants.{Paths, NoPath}
use Rattle.pcep_messages.specs.declared.message.Wish.TheVariants.{Path, Expand}
use Rattle.pcep_messages.specs.Spelling.{IsWritten}
use Rattle.request_table.specs.Pending.{number_of, is_full}
use Rattle.plant_text.specs.Names.{same_as, parent_as, insert_as}
use Rattle.plant_text.specs.Settings.{children_of}
use Rattle.plant_model.specs.declared.output.Output.{Output}
use Rattle.plant_model.specs.Names.{has_pair, same_addr}
use Rattle.plant_model.specs.Rising.{has_addr, insert_addr}
use Rattle.plant_model.specs.Wire.{Codec, Checked, Admitted, Wrong}
use Rattle.plant_model.specs.Laws.{IsCodec, IsNetwork, IsElement, IsParentLink, Admits, IsRequestInRange, CanBeSent, IsSequence, AreWords, HasNumbers}
use Rattle.plant_model.specs.Writing.{asked_of, reply_message, error_message, busy, unavailable, vspt_flag}
use Rattle.walk_laws.specs.Crossing.{query_in}
use Rattle.plant_model.specs.Branches.{branches_in}
use Rattle.plant_model.specs.Element.{Way, with_last, way_to, lost_output}
use Rattle.plant_model.specs.Taking.{error_answer}
use Rattle.plant_model.specs.BorderGraph.{Found}
use Rattle.plant_model.specs.Parent as parent
use Rattle.plant_model.specs.Parent.{Parent, ParentTaken, Family, Asking, AskingRow, Wait, Errand, tails, with_end, errands_to, errands, last_to}
use Rattle.plant_model.specs.Settings.{family}
use Rattle.plant_laws.proofs.WrittenForm.InForm.{busy_written, error_written, no_path_written}
use Rattle.plant_laws.proofs.WrittenForm.ElementSays.{Outs, unavailable_written, failure_written, IsId, next_fits, next_some, WaysOk, ways_last, ways_up, WayOk, way_fits, Goes, IsKnown, WantedFits, Ok, Rows, rows_append, rows_filter, rows_removed, rows_written}

-- ---- the requests to the children

-- an address of IPv4
abbrev IsShort : Addr → Type 0
IsShort t = IsAddr t × (bits_of t ≡ 32)

abbrev AreShort : List Addr → Type 0
AreShort ts = AllByRecursion IsShort ts

insert_short : (t : Addr) (ts : List Addr) → IsShort t → AreShort ts → AreShort (insert_addr t ts)
insert_short t [] is all = (is, tt)
insert_short t (u ∷ ts) is all = go (nat_lt (rank t) (rank u)) (same_addr t u) (insert_short t ts is all.1)
  where
    go : (a b : Bool) → AreShort (insert_addr t ts) → AreShort (cond a (t ∷ u ∷ ts) (cond b (u ∷ ts) (u ∷ insert_addr t ts)))
    go true b more = (is, all)
    go false true more = all
    go false false more = (all.0, more)

tails_short : (child : As) (ls : List ParentLink) → All IsParentLink ls → AreShort (tails child ls)
tails_short child [] all = tt
tails_short child (l ∷ ls) all = go (same_as l.from_as child) (tails_short child ls (All-tail IsParentLink l ls all))
  where
    is : IsParentLink l
    is = All-head IsParentLink l ls all

    go : (b : Bool) → AreShort (tails child ls) → AreShort (cond b (insert_addr l.link.from (tails child ls)) (tails child ls))
    go true more = insert_short l.link.from (tails child ls) (is.link.from, is.ipv4.from) more
    go false more = more

end_short : (t : Addr) (ts : List Addr) → IsShort t → AreShort ts → AreShort (with_end t ts)
end_short t ts is all = go (has_addr t ts)
  where
    last : (us : List Addr) → AreShort us → AreShort (us ++ t ∷ [])
    last [] h = (is, tt)
    last (u ∷ us) h = (h.0, last us h.1)

    go : (b : Bool) → AreShort (cond b ts (ts ++ t ∷ []))
    go true = all
    go false = last ts all

-- the numbers of the children
abbrev pub IsNumber : As → Type 0
IsNumber d = (1 ≤ d.0) × (d.0 < 2 ^ 16)

abbrev AreNumbers : List As → Type 0
AreNumbers ds = AllByRecursion IsNumber ds

insert_numbers : (d : As) (ds : List As) → IsNumber d → AreNumbers ds → AreNumbers (insert_as d ds)
insert_numbers d [] is all = (is, tt)
insert_numbers d (a ∷ ds) is all = go (nat_lt d.0 a.0) (same_as d a) (insert_numbers d ds is all.1)
  where
    go : (x y : Bool) → AreNumbers (insert_as d ds) → AreNumbers (cond x (d ∷ a ∷ ds) (cond y (a ∷ ds) (a ∷ insert_as d ds)))
    go true y more = (is, all)
    go false true more = all
    go false false more = (all.0, more)

children_numbers : (rs : List ElementRow) → All IsElement rs → AreNumbers (children_of rs)
children_numbers [] all = tt
children_numbers (r ∷ rs) all = go r.parent (children_numbers rs (All-tail IsElement r rs all))
  where
    go : (b : Bool) → AreNumbers (children_of rs) → AreNumbers (cond b (insert_as r.own (children_of rs)) (children_of rs))
    go true more = (let e = All-head IsElement r rs all in insert_numbers r.own (children_of rs) (e.real, e.own) more)
    go false more = more

-- a request to a child is admitted there, for its own domain alone
pub record IsMetBelow (c : Codec) (a : Asked) (child : As) : Type 0 where
  pub id : ℕ
  pub wanted : Wanted
  pub admits : Admits c a child vspt_flag id wanted
  pub alone : wanted.sequence ≡ child ∷ []
  pub real : 1 ≤ child.0

-- the requests of a family, for ends of IPv4
abbrev pub IsErrand : Codec → Wanted → Errand → Type 0
IsErrand c w r = Goes w r.target (r.child ∷ []) × ((id : ℕ) → 1 ≤ id → IsId id → IsMetBelow c (asked_of id w r.target (r.child ∷ [])) r.child)

abbrev pub AreAsked : Codec → Wanted → List Errand → Type 0
AreAsked c w rs = AllByRecursion (IsErrand c w) rs

asked_append : (c : Codec) (w : Wanted) (xs ys : List Errand) → AreAsked c w xs → AreAsked c w ys → AreAsked c w (xs ++ ys)
asked_append c w [] ys h k = k
asked_append c w (x ∷ xs) ys h k = (h.0, asked_append c w xs ys h.1 k)

alone_sequence : (child : As) → 1 ≤ child.0 → IsSequence child []
alone_sequence child real = record {
  few = omega arith;
  differ = λ i j d less within. absurd (omega (arith, less, within));
  real = All-cons (λ (a : As). 1 ≤ a.0) child [] real (All-nil (λ (a : As). 1 ≤ a.0));
}

module _ (c : Codec) (codec : IsCodec c) (a : Asked) (flags x : ℕ) (w : Wanted) (admits : Admits c a parent_as flags x w) (range : IsRequestInRange flags x w) (can : CanBeSent w) (ipv4 : bits_of w.source ≡ 32) where
  one_asked : (child : As) (t : Addr) → IsNumber child → IsShort t → IsErrand c w (record { child = child; target = t })
  one_asked child t number is = (
    (λ id fits. can id t (child ∷ []) fits is.0 (ipv4 ∙ sym is.1) (omega arith) (All-cons (λ (a : As). a.0 < 2 ^ 16) child [] number.1 (All-nil (λ (a : As). a.0 < 2 ^ 16)))),
    (λ id some fits. record { id = id; wanted = record w { target = t; query = query_in w.query child; sequence = child ∷ [] }; admits = codec.onward.admits a parent_as flags x w admits id t child [] some fits (alone_sequence child number.0); alone = refl; real = number.0 }),
  )

  to_child : (child : As) (ts : List Addr) → IsNumber child → AreShort ts → AreAsked c w (errands_to child ts)
  to_child child [] number all = tt
  to_child child (t ∷ ts) number all = (one_asked child t number all.0, to_child child ts number all.1)

  pub to_children : (links : List ParentLink) (ds : List As) → All IsParentLink links → AreNumbers ds → AreAsked c w (errands links w.target ds)
  to_children links [] all numbers = tt
  to_children links (d ∷ ds) all numbers =
      asked_append c w (errands_to d (with_end w.target (tails d links))) (errands links w.target ds)
      (to_child d (with_end w.target (tails d links)) numbers.0 (end_short w.target (tails d links) (range.target, sym range.kinds ∙ ipv4) (tails_short d links all)))
      (to_children links ds all numbers.1)

-- the links and the children of a network
pub record IsFamily (f : Family) : Type 0 where
  pub links : All IsParentLink f.links
  pub children : AllByRecursion IsNumber f.children

pub is_family : (n : NetworkParts) → IsNetwork n → IsFamily (family n)
is_family n net = record { links = net.parent_links; children = children_numbers n.elements net.elements }

-- ---- the parent

abbrev pub asking_flags : Asking → ℕ
asking_flags i = i.flags

abbrev pub asking_wanted : Asking → Wanted
asking_wanted i = i.wanted

abbrev pub AskingOk : List AskingRow → Type 0
AskingOk rows = Rows Asking asking_flags asking_wanted rows

abbrev pub ParentHolds : Parent → Type 0
ParentHolds k = AskingOk k.pending.rows × WaysOk k.ways

-- a request goes to a child that takes it for its own domain alone
abbrev pub IsDown : Codec → Peer → Message → Type 0
IsDown c p (messages.PcReq asks) = (child : As) × (p ≡ Inner child) × (a : Asked) × (asks ≡ a ∷ []) × IsMetBelow c a child
IsDown c p m = Unit {0}

abbrev pub OutsUp : Codec → List Output → Type 0
OutsUp c os = AllByRecursion (λ (o : Output). IsWritten o.message × IsDown c o.to o.message) os

ups_append : (c : Codec) (os ps : List Output) → OutsUp c os → OutsUp c ps → OutsUp c (os ++ ps)
ups_append c [] ps h k = k
ups_append c (o ∷ os) ps h k = (h.0, ups_append c os ps h.1 k)

pub ups_written : (c : Codec) (os : List Output) → OutsUp c os → Outs os
ups_written c [] h = tt
ups_written c (o ∷ os) h = (h.0.0, ups_written c os h.1)

failure_down : (c : Codec) (p : Peer) (e : ℕ × ℕ) (flags x : ℕ) (m : Message) (ms : List Message) → error_answer e flags x ≡ m ∷ ms → IsDown c p m
failure_down c p e flags x m ms = go (has_pair 8 0 (e ∷ [])) (has_pair e.0 e.1 ((4, 4) ∷ (13, 1) ∷ []))
  where
    head_is : (a b : Message) (as' bs : List Message) → a ∷ as' ≡ b ∷ bs → IsDown c p a → IsDown c p b
    head_is a b as' bs e q = let is : a ≡ b = cc in subst (IsDown c p) is q

    go : (a b : Bool) → cond a [] (cond b (error_message (Some (flags, x)) 13 1 ∷ []) (reply_message flags x unavailable ∷ [])) ≡ m ∷ ms → IsDown c p m
    go true b e = absurd (let out : [] ≡ m ∷ ms = e in cc)
    go false true e = head_is (error_message (Some (flags, x)) 13 1) m [] ms e tt
    go false false e = head_is (reply_message flags x unavailable) m [] ms e tt

-- what is known of a request that came up
abbrev pub IsKnownAbove : Codec → Asked → Type 0
IsKnownAbove c a = IsKnown c parent_as a × ((flags x : ℕ) (w : Wanted) → Admits c a parent_as flags x w → bits_of w.source ≡ 32)

abbrev pub KnownAbove : Codec → Message → Type 0
KnownAbove c (messages.PcReq asks) = AllByRecursion (IsKnownAbove c) asks
KnownAbove c (messages.PcRep replies) = AllByRecursion (λ (r : Reply). AreWords (r.flags, r.id)) replies
KnownAbove c m = Unit {0}

module _ (c : Codec) (codec : IsCodec c) where
  abbrev pub GivenFine : ParentTaken → Type 0
  GivenFine t = OutsUp c t.outputs × ParentHolds t.parent

  choose : (b : Bool) (t u : ParentTaken) → GivenFine t → GivenFine u → GivenFine (cond b t u)
  choose true t u h k = h
  choose false t u h k = k

  each_fine : {X : Type 0} (Good : X → Type 0) (f : X → Parent → ParentTaken) → ((x : X) (k : Parent) → Good x → ParentHolds k → GivenFine (f x k)) → (xs : List X) (k : Parent) → AllByRecursion Good xs → ParentHolds k → GivenFine (parent.each f xs k)
  each_fine Good f one [] k g h = (tt, h)
  each_fine Good f one (x ∷ xs) k g h =
      let first = one x k g.0 h in
      let rest = each_fine Good f one xs (f x k).parent g.1 first.1 in
      (ups_append c (f x k).outputs (parent.each f xs (f x k).parent).outputs first.0 rest.0, rest.1)

  each_any : {X : Type 0} (f : X → Parent → ParentTaken) → ((x : X) (k : Parent) → ParentHolds k → GivenFine (f x k)) → (xs : List X) (k : Parent) → ParentHolds k → GivenFine (parent.each f xs k)
  each_any f one [] k h = (tt, h)
  each_any f one (x ∷ xs) k h =
      let first = one x k h in
      let rest = each_any f one xs (f x k).parent first.1 in
      (ups_append c (f x k).outputs (parent.each f xs (f x k).parent).outputs first.0 rest.0, rest.1)

  answered_fine : (h : AskingRow) (m : Message) (k : Parent) → IsWritten m × IsDown c h.1.key.peer m → ParentHolds k → GivenFine (parent.answered h m k)
  answered_fine h m k o r = ((o, tt), (rows_removed Asking asking_flags asking_wanted h.0 k.pending.rows r.0, r.1))

  abbrev IsFound : Option AskingRow → Type 0
  IsFound None = Unit {0}
  IsFound (Some h) = Ok Asking asking_flags asking_wanted h.1

  found : (p : Peer) (y : ℕ) (xs : List AskingRow) → AskingOk xs → IsFound (parent.waiting p y xs)
  found p y [] h = tt
  found p y (x ∷ xs) h = go (parent.among p x.1.item.waits y) (found p y xs h.1)
    where
      go : (b : Bool) → IsFound (parent.waiting p y xs) → IsFound (cond b (Some x) (parent.waiting p y xs))
      go true more = h.0
      go false more = more

  gathers_fine : (p : Peer) (y : ℕ) (bs : List Branch) (h : AskingRow) (k : Parent) → Ok Asking asking_flags asking_wanted h.1 → ParentHolds k → GivenFine (parent.gathers p y bs h k)
  gathers_fine p y bs h k w r = (tt, (rows_written Asking asking_flags asking_wanted h.0 (parent.gathered p y bs h.1.item) k.pending.rows w.0.0 w.1 r.0, r.1))

  last_fits : (o : Option Way) → WayOk o → IsId (last_to o)
  last_fits None h = omega arith
  last_fits (Some w) h = h

  pub all_asks : (w : Wanted) (taken : List Wait) (rs : List Errand) (ways : List Way) → AreAsked c w rs → WaysOk ways → OutsUp c (parent.ask_all w taken rs ways).outputs × WaysOk (parent.ask_all w taken rs ways).ways
  all_asks w taken [] ways asked ok = (tt, ok)
  all_asks w taken (r ∷ rs) ways asked ok =
      let p = Inner r.child in
      let y = parent.next_id p taken ways in
      let one : Wait = record { peer = p; id = y; child = r.child; target = r.target } in
      let fits : IsId y = next_fits taken (parent.among p taken) (last_to (way_to p ways)) (last_fits (way_to p ways) (way_fits p ways ok)) in
      let rest = all_asks w (one ∷ taken) rs (with_last p y ways) asked.1 (ways_last p y ways fits ok) in
      let some = next_some taken (parent.among p taken) (last_to (way_to p ways)) in
      (((asked.0.0 y fits, (r.child, refl, asked_of y w r.target (r.child ∷ []), refl, asked.0.1 y some fits)), rest.0), rest.1)

  module _ (f : Family) (fam : IsFamily f) (p : Peer) where
    wish_fine : (flags x : ℕ) (k : Parent) (wish : Wish) → ((v : Wanted) → wish ≡ Path v → WantedFits v × AreAsked c v (errands f.links v.target f.children)) → AreWords (flags, x) → ParentHolds k → GivenFine (parent.take_wish f p flags x k wish)
    wish_fine flags x k (Expand key pce) asked w h = (((no_path_written flags x 0 16 w (omega arith) (omega arith), tt), tt), h)
    wish_fine flags x k (Path v) asked w h =
        let of = asked v refl in
        let all = all_asks v (parent.all_waits k.pending.rows) (errands f.links v.target f.children) k.ways of.1 h.1 in
        choose (is_full k.pending) _ _ (((busy_written flags x w, tt), tt), h)
        (choose (parent.all_up f.children k.ways) _ _
        (all.0, (rows_append Asking asking_flags asking_wanted k.pending.rows _ h.0 ((w, of.0), tt), all.1))
        (((unavailable_written flags x w, tt), tt), h))

    asked_fine : (a : Asked) (k : Parent) → IsKnownAbove c a → ParentHolds k → GivenFine (parent.take_asked c f p a k)
    asked_fine a k g h = go (c.check a parent_as) refl g.0.numbers
      where
        asked : (r : Request) → c.check a parent_as ≡ Admitted r → (v : Wanted) → r.wish ≡ Path v → WantedFits v × AreAsked c v (errands f.links v.target f.children)
        asked r is v wish =
            let admits : Admits c a parent_as r.flags r.id v = subst (λ (z : Wish). c.check a parent_as ≡ Admitted (record { flags = r.flags; id = r.id; wish = z })) wish is in
            let known = g.0.sends r.flags r.id v admits in
            ((known.0.source, known.0.target, (codec.onward.own a parent_as r.flags r.id v admits).1), to_children c codec a r.flags r.id v admits known.0 known.1 (g.1 r.flags r.id v admits) f.links f.children fam.links fam.children)

        new : (r : Request) → c.check a parent_as ≡ Admitted r → (o : Option ℕ) → AreWords (r.flags, r.id) → GivenFine (parent.take_new f p r k o)
        new r is None w = wish_fine r.flags r.id k r.wish (asked r is) w h
        new r is (Some number) w = (tt, h)

        go : (o : Checked) → c.check a parent_as ≡ o → HasNumbers o → GivenFine (parent.take_checked f p k o)
        go (Wrong rp kind value) is numbers = (((error_written rp kind value numbers.0 numbers.1 numbers.2, tt), tt), h)
        go (Admitted r) is numbers = new r is (number_of k.pending p r.id) numbers

    answer_fine : (y : ℕ) (h : AskingRow) (k : Parent) (a : Answer) → Ok Asking asking_flags asking_wanted h.1 → ParentHolds k → GivenFine (parent.take_answer c p y h k a)
    answer_fine y h k (Paths ps) w r = gathers_fine p y (branches_in c h.1.item.wanted.query.metric ps) h k w r
    answer_fine y h k (NoPath nature vector) w r =
        choose (nature == 0) _ _ (gathers_fine p y [] h k w r) (answered_fine h (reply_message h.1.item.flags h.1.key.id unavailable) k (unavailable_written h.1.item.flags h.1.key.id w.0, tt) r)

    reply_fine : (r : Reply) (k : Parent) → AreWords (r.flags, r.id) → ParentHolds k → GivenFine (parent.take_reply c p r k)
    reply_fine r k g h = go (parent.waiting p r.id k.pending.rows) (found p r.id k.pending.rows h.0)
      where
        go : (o : Option AskingRow) → IsFound o → GivenFine (parent.take_found c p r k o)
        go None w = (((error_written (Some (r.flags, r.id)) 8 0 g (omega arith) (omega arith), tt), tt), h)
        go (Some row) w = answer_fine r.id row k r.answer w h

    busy_fine : (rp : ℕ × ℕ) (k : Parent) → ParentHolds k → GivenFine (parent.take_busy p rp k)
    busy_fine rp k h = go (parent.waiting p rp.1 k.pending.rows) (found p rp.1 k.pending.rows h.0)
      where
        go : (o : Option AskingRow) → IsFound o → GivenFine (parent.told_busy k o)
        go None w = (tt, h)
        go (Some row) w = answered_fine row (busy row.1.item.flags row.1.key.id) k (busy_written row.1.item.flags row.1.key.id w.0, tt) h

    cancel_fine : (rp : ℕ × ℕ) (k : Parent) → ParentHolds k → GivenFine (parent.take_cancel p rp k)
    cancel_fine rp k h = go (number_of k.pending p rp.1)
      where
        go : (o : Option ℕ) → GivenFine (parent.cancelled k o)
        go None = (tt, h)
        go (Some number) = (tt, (rows_removed Asking asking_flags asking_wanted number k.pending.rows h.0, h.1))

    steps_fine : (rp : ℕ × ℕ) (kinds : List (ℕ × ℕ)) (k : Parent) → ParentHolds k → GivenFine (parent.each (λ (step : Peer → ℕ × ℕ → Parent → ParentTaken). step p rp) (parent.notice_steps kinds) k)
    steps_fine rp kinds k h = go (has_pair 1 2 kinds) (has_pair 1 1 kinds)
      where
        run : (steps : List (Peer → ℕ × ℕ → Parent → ParentTaken)) → AllByRecursion (λ (step : Peer → ℕ × ℕ → Parent → ParentTaken). (k : Parent) → ParentHolds k → GivenFine (step p rp k)) steps → GivenFine (parent.each (λ (step : Peer → ℕ × ℕ → Parent → ParentTaken). step p rp) steps k)
        run steps good = each_fine (λ (step : Peer → ℕ × ℕ → Parent → ParentTaken). (k : Parent) → ParentHolds k → GivenFine (step p rp k)) (λ (step : Peer → ℕ × ℕ → Parent → ParentTaken). step p rp) (λ step k g h. g k h) steps k good h

        go : (b a : Bool) → GivenFine (parent.each (λ (step : Peer → ℕ × ℕ → Parent → ParentTaken). step p rp) (cond b (cond a (parent.take_busy ∷ parent.take_cancel ∷ []) (parent.take_busy ∷ [])) (cond a (parent.take_cancel ∷ []) [])) k)
        go true true = run (parent.take_busy ∷ parent.take_cancel ∷ []) (busy_fine rp, (cancel_fine rp, tt))
        go true false = run (parent.take_busy ∷ []) (busy_fine rp, tt)
        go false true = run (parent.take_cancel ∷ []) (cancel_fine rp, tt)
        go false false = (tt, h)

    failure_fine : (e : ℕ × ℕ) (rp : ℕ × ℕ) (k : Parent) → ParentHolds k → GivenFine (parent.take_failure e k (parent.waiting p rp.1 k.pending.rows))
    failure_fine e rp k h = go (parent.waiting p rp.1 k.pending.rows) (found p rp.1 k.pending.rows h.0)
      where
        told : (row : AskingRow) (ms : List Message) → ((m : Message) (rest : List Message) → ms ≡ m ∷ rest → IsWritten m × IsDown c row.1.key.peer m) → GivenFine (parent.told_error row k ms)
        told row [] q = (tt, h)
        told row (m ∷ ms) q = answered_fine row m k (q m ms refl) h

        go : (o : Option AskingRow) → IsFound o → GivenFine (parent.take_failure e k o)
        go None w = (tt, h)
        go (Some row) w = told row (error_answer e row.1.item.flags row.1.key.id) (λ m rest is. (failure_written e row.1.item.flags row.1.key.id w.0 m rest is, failure_down c row.1.key.peer e row.1.item.flags row.1.key.id m rest is))

    errors_fine : (ids errors : List (ℕ × ℕ)) (k : Parent) → ParentHolds k → GivenFine (parent.take_errors p ids errors k)
    errors_fine ids [] k h = (tt, h)
    errors_fine ids (e ∷ es) k h = each_any (λ (rp : ℕ × ℕ) k'. parent.take_failure e k' (parent.waiting p rp.1 k'.pending.rows)) (failure_fine e) ids k h

    pub given_take_fine : (m : Message) (k : Parent) → KnownAbove c m → ParentHolds k → GivenFine (parent.take c f p m k)
    given_take_fine (messages.PcReq asks) k g h = each_fine (IsKnownAbove c) (parent.take_asked c f p) asked_fine asks k g h
    given_take_fine (messages.PcRep replies) k g h = each_fine (λ (r : Reply). AreWords (r.flags, r.id)) (parent.take_reply c p) reply_fine replies k g h
    given_take_fine (messages.PcNtf notices) k g h =
        each_any (parent.take_notice p) (λ r k' h'. each_any (λ (rp : ℕ × ℕ). parent.each (λ (step : Peer → ℕ × ℕ → Parent → ParentTaken). step p rp) (parent.notice_steps r.kinds)) (λ rp k'' h''. steps_fine rp r.kinds k'' h'') r.ids k' h') notices k h
    given_take_fine (messages.PcErr reports) k g h = each_any (parent.take_report p) (λ r k' h'. errors_fine r.ids r.errors k' h') reports k h
    given_take_fine (messages.Open body) k g h = (tt, h)
    given_take_fine messages.Keepalive k g h = (tt, h)
    given_take_fine (messages.Close why) k g h = (tt, h)
    given_take_fine (messages.Other kind) k g h = (tt, h)

  lost_fine : (p : Peer) (xs : List AskingRow) → AskingOk xs → OutsUp c (map lost_output (map parent.lost_of (filter (parent.is_lost p) xs)))
  lost_fine p [] h = tt
  lost_fine p (x ∷ xs) h = go (parent.is_lost p x) (lost_fine p xs h.1)
    where
      go : (b : Bool) → OutsUp c (map lost_output (map parent.lost_of (filter (parent.is_lost p) xs))) → OutsUp c (map lost_output (map parent.lost_of (cond b (x ∷ filter (parent.is_lost p) xs) (filter (parent.is_lost p) xs))))
      go true more = ((unavailable_written x.1.item.flags x.1.key.id h.0.0, tt), more)
      go false more = more

  pub given_downed_fine : (p : Peer) (k : Parent) → ParentHolds k → GivenFine (parent.downed p k)
  given_downed_fine p k h = (lost_fine p k.pending.rows h.0, (rows_filter Asking asking_flags asking_wanted (parent.stays p) k.pending.rows h.0, ways_up p false k.ways h.1))

pub given_upped_fine : (p : Peer) (k : Parent) → ParentHolds k → ParentHolds (parent.upped p k)
given_upped_fine p k h = (h.0, ways_up p true k.ways h.1)

pub given_commit_keeps : (c : Codec) (h : AskingRow) (o : Option Found) (k : Parent) → ParentHolds k → ParentHolds (parent.commit c h o k).parent
given_commit_keeps c h None k r = (rows_removed Asking asking_flags asking_wanted h.0 k.pending.rows r.0, r.1)
given_commit_keeps c h (Some a) k r = (rows_removed Asking asking_flags asking_wanted h.0 k.pending.rows r.0, r.1)
