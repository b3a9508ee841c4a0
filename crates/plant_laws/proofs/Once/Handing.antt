-- A request that was sent on is delivered at most once, so a request has one chain.
use Rattle.std.proofs.Common.{◌≡◌, ◌≢◌, ◌⊎◌, ◌≤◌, Bool, true, false, cond, List, [], ◌∷◌, ◌++◌, length, sym, ◌∙◌, ap, subst, inl, inr, refl, arith}
use Rattle.std.proofs.lemmas.Bool.{eq-eqb}
use Rattle.plant_model.specs.Types.{As, Message, Inner}
use Rattle.pcep_messages.specs.declared.message.Message.TheVariants as messages
use Rattle.plant_model.specs.declared.output.Output.{Output}
use Rattle.plant_text.specs.Names.{same_as, same_link, parent_as}
use Rattle.plant_model.specs.State.{Deed, Loads, Pops, Takes, Says, Ups, Downs, Clears, Solves, Expires, Hands}
use Rattle.plant_model.specs.Plant.{Segment}
use Rattle.plant_laws.specs.Transcript.{Transcript, Within, Standing, standing, standing_of, put_into, left_of, tail_of, outputs_at, Handed, Visit, Chain, numbers}
use Rattle.plant_laws.specs.Chains.{moments, AreElements}
use Rattle.plant_laws.proofs.Runs.Decompose.{nil_right}

-- a message asks for something
abbrev pub IsAsk : Message → Type 0
IsAsk (messages.PcReq asks) = Unit {0}
IsAsk (messages.PcRep replies) = ⊥
IsAsk (messages.PcNtf notices) = ⊥
IsAsk (messages.PcErr reports) = ⊥
IsAsk (messages.Open body) = ⊥
IsAsk messages.Keepalive = ⊥
IsAsk (messages.Close why) = ⊥
IsAsk (messages.Other kind) = ⊥

abbrev pub AskFree : List Message → Type 0
AskFree [] = Unit {0}
AskFree (m ∷ ms) = (IsAsk m → ⊥) × AskFree ms

-- none of these messages asks, or there is one at most
abbrev pub IsTerse : List Message → Type 0
IsTerse ms = AskFree ms ⊎ (length ms ≤ 1)

-- each deed is terse towards b
abbrev pub AreTerse : As → As → Transcript → Type 0
AreTerse a b [] = Unit {0}
AreTerse a b (e ∷ older) = IsTerse (put_into b (outputs_at a e)) × AreTerse a b older

abbrev pub In : {A : Type 0} → A → List A → Type 0
In x [] = ⊥
In x (y ∷ ys) = (x ≡ y) ⊎ In x ys

pub In-append : {A : Type 0} (x : A) (xs ys : List A) → In x (xs ++ ys) → In x xs ⊎ In x ys
In-append x [] ys h = inr h
In-append x (z ∷ xs) ys (inl e) = inl (inl e)
In-append x (z ∷ xs) ys (inr h) = elim (In-append x xs ys h) [ inl l ↦ inl (inr l) | inr r ↦ inr r ]

In-tail : {A : Type 0} (x : A) (xs : List A) → In x (tail_of xs) → In x xs
In-tail x (y ∷ ys) h = inr h
In-tail x [] h = h

In-cond : {A : Type 0} (b : Bool) (x : A) (xs ys : List A) → (In x xs → In x ys) → In x (cond b xs ys) → In x ys
In-cond true x xs ys f h = f h
In-cond false x xs ys f h = h

pub In-left : {A : Type 0} (e : Deed Segment) (a b : As) (x : A) (xs : List A) → In x (left_of e a b xs) → In x xs
In-left (Pops from to) a b x xs h = In-cond (same_as from a) x (cond (same_as to b) (tail_of xs) xs) xs (In-cond (same_as to b) x (tail_of xs) xs (In-tail x xs)) h
In-left (Clears one other) a b x xs h = In-cond (same_link one other a b) x [] xs (λ none. absurd none) h
In-left _ a b x xs h = h

-- no two requests of the list were put there in one moment
abbrev pub AreApart : List Standing → Type 0
AreApart [] = Unit {0}
AreApart (s ∷ ss) = (IsAsk s.message → (t : Standing) → In t ss → IsAsk t.message → t.put ≡ s.put → ⊥) × AreApart ss

pub Within-length : (m now : Transcript) → Within m now → length m ≤ length now
Within-length m [] h = let e = ap length h in omega arith
Within-length m (e ∷ now) (inl same) = let f = ap length same in omega arith
Within-length m (e ∷ now) (inr h) = let f = Within-length m now h in omega arith

pub not_itself : (e : Deed Segment) (m now : Transcript) → Within m now → m ≡ e ∷ now → ⊥
not_itself e m now h same = let f = Within-length m now h in let g = ap length same in omega arith

pub new_is : (m : Transcript) (s : Standing) (ms : List Message) → In s (standing_of m ms) → s.put ≡ m
new_is m s [] h = absurd h
new_is m s (x ∷ ms) (inl same) = ap (λ (t : Standing). t.put) same
new_is m s (x ∷ ms) (inr h) = new_is m s ms h

pub standing_within : (a b : As) (now : Transcript) (s : Standing) → In s (standing a b now) → Within s.put now
standing_within a b [] s h = absurd h
standing_within a b (e ∷ now) s h =
    elim (In-append s (left_of e a b (standing a b now)) (standing_of (e ∷ now) (put_into b (outputs_at a e))) h) [
      | inl old ↦ inr (standing_within a b now s (In-left e a b s (standing a b now) old))
      | inr new ↦ inl (new_is (e ∷ now) s (put_into b (outputs_at a e)) new)
    ]

apart_tail : (ss : List Standing) → AreApart ss → AreApart (tail_of ss)
apart_tail [] h = tt
apart_tail (s ∷ ss) h = h.1

apart_cond : (b : Bool) (xs ys : List Standing) → AreApart xs → AreApart ys → AreApart (cond b xs ys)
apart_cond true xs ys h g = h
apart_cond false xs ys h g = g

apart_left : (e : Deed Segment) (a b : As) (ss : List Standing) → AreApart ss → AreApart (left_of e a b ss)
apart_left (Pops from to) a b ss h = apart_cond (same_as from a) (cond (same_as to b) (tail_of ss) ss) ss (apart_cond (same_as to b) (tail_of ss) ss (apart_tail ss h) h) h
apart_left (Clears one other) a b ss h = apart_cond (same_link one other a b) [] ss tt h
apart_left _ a b ss h = h

apart_append : (xs ys : List Standing) → AreApart xs → AreApart ys → ((x y : Standing) → In x xs → In y ys → y.put ≡ x.put → ⊥) → AreApart (xs ++ ys)
apart_append [] ys h g clash = g
apart_append (x ∷ xs) ys h g clash = (
  λ ask t in' ask' same. elim (In-append t xs ys in') [ inl l ↦ h.0 ask t l ask' same | inr r ↦ clash x t (inl refl) r same ],
  apart_append xs ys h.1 g (λ x' y in' in''. clash x' y (inr in') in''),
)

apart_new : (m : Transcript) (ms : List Message) → IsTerse ms → AreApart (standing_of m ms)
apart_new m [] terse = tt
apart_new m (x ∷ ms) (inl none) = (λ ask. absurd (none.0 ask), apart_new m ms (inl none.1))
apart_new m (x ∷ []) (inr short) = (λ ask t in'. absurd in', tt)
apart_new m (x ∷ y ∷ ms) (inr short) = absurd (omega arith)

pub apart : (a b : As) (now : Transcript) → AreTerse a b now → AreApart (standing a b now)
apart a b [] terse = tt
apart a b (e ∷ now) terse =
    apart_append (left_of e a b (standing a b now)) (standing_of (e ∷ now) (put_into b (outputs_at a e)))
    (apart_left e a b (standing a b now) (apart a b now terse.1)) (apart_new (e ∷ now) (put_into b (outputs_at a e)) terse.0)
    (λ x y in' in'' same. not_itself e x.put now (standing_within a b now x (In-left e a b x (standing a b now) in')) (sym same ∙ new_is (e ∷ now) y (put_into b (outputs_at a e)) in''))

as_self : (a : As) → same_as a a ≡ true
as_self a = eq-eqb a.0 a.0 refl

left_pop : (a b : As) (s : Standing) (ss : List Standing) → left_of {S = Segment} (Pops a b) a b (s ∷ ss) ≡ ss
left_pop a b s ss = ap (λ (t : Bool). cond t (cond (same_as b b) ss (s ∷ ss)) (s ∷ ss)) (as_self a) ∙ ap (λ (t : Bool). cond t ss (s ∷ ss)) (as_self b)

-- what stands after a request was handed over
after_handing : (a b : As) (e f : Deed Segment) (older : Transcript) (m : Message) (os : List Output) (s : Standing) (rest : List Standing) →
    e ≡ Takes b (Inner a) m os → f ≡ Pops a b → standing a b older ≡ s ∷ rest → (x : Standing) → In x (left_of e a b (standing a b (f ∷ older))) → In x rest
after_handing a b e f older m os s rest is is' stands x in' =
    let at : standing a b (f ∷ older) ≡ rest = ap (λ (g : Deed Segment). left_of g a b (standing a b older) ++ standing_of (f ∷ older) (put_into b (outputs_at a g))) is' ∙ nil_right (left_of {S = Segment} (Pops a b) a b (standing a b older)) ∙ ap (λ (l : List Standing). left_of {S = Segment} (Pops a b) a b l) stands ∙ left_pop a b s rest in
    subst (λ (l : List Standing). In x l) at (subst (λ (g : Deed Segment). In x (left_of g a b (standing a b (f ∷ older)))) is in')

handed_put : (a b : As) (m now : Transcript) (e : Deed Segment) → Handed a b m (e ∷ now) → Within m now
handed_put a b m [] e handed = absurd handed
handed_put a b m (f ∷ older) e handed =
    inr (standing_within a b older (record { message = messages.PcReq handed.0; put = m }) (subst (λ (l : List Standing). In {A = Standing} (record { message = messages.PcReq handed.0; put = m }) l) (sym handed.5) (inl refl)))

pub handed_within : (a b : As) (m n now : Transcript) → Handed a b m n → Within n now → Within m now
handed_within a b m n [] handed w = absurd (subst (λ (t : Transcript). Handed a b m t) w handed)
handed_within a b m n (e ∷ now) handed (inl same) = inr (handed_put a b m now e (subst (λ (t : Transcript). Handed a b m t) same handed))
handed_within a b m n (e ∷ now) handed (inr w) = inr (handed_within a b m n now handed w)

-- what was handed over stands in the queue no more
abbrev pub IsGone : As → As → Transcript → Type 0
IsGone a b now = (m n : Transcript) → Within n now → Handed a b m n → (s : Standing) → In s (standing a b now) → IsAsk s.message → s.put ≡ m → ⊥

just_gone : (a b : As) (m now : Transcript) (e : Deed Segment) → AreTerse a b now → Handed a b m (e ∷ now) → (s : Standing) → In s (left_of e a b (standing a b now)) → IsAsk s.message → s.put ≡ m → ⊥
just_gone a b m [] e terse handed s in' ask same = handed
just_gone a b m (f ∷ older) e terse handed s in' ask same =
    let first : Standing = record { message = messages.PcReq handed.0; put = m } in
    let apart' = subst AreApart handed.5 (apart a b older terse.1) in
    apart'.0 tt s (after_handing a b e f older (messages.PcReq handed.0) handed.1 first handed.2 handed.3 handed.4 handed.5 s in') ask same

pub gone : (a b : As) (now : Transcript) → AreTerse a b now → IsGone a b now
gone a b [] terse m n w handed s in' ask same = in'
gone a b (e ∷ now) terse m n w handed s in' ask same =
    go w (In-append s (left_of e a b (standing a b now)) (standing_of (e ∷ now) (put_into b (outputs_at a e))) in')
    (λ w' old. gone a b now terse.1 m n w' handed s (In-left e a b s (standing a b now) old) ask same)
  where
    before : Within n (e ∷ now) → Within m now
    before (inl is) = handed_put a b m now e (subst (λ (t : Transcript). Handed a b m t) is handed)
    before (inr w') = handed_within a b m n now handed w'

    go : Within n (e ∷ now) → In s (left_of e a b (standing a b now)) ⊎ In s (standing_of (e ∷ now) (put_into b (outputs_at a e))) →
        (Within n now → In s (left_of e a b (standing a b now)) → ⊥) → ⊥
    go w' (inr new) rec = not_itself e m now (before w') (sym same ∙ new_is (e ∷ now) s (put_into b (outputs_at a e)) new)
    go (inl is) (inl old) rec = just_gone a b m now e terse.1 (subst (λ (t : Transcript). Handed a b m t) is handed) s old ask same
    go (inr w') (inl old) rec = rec w' old

-- a request is handed over once
not_again : (a b : As) (m n now : Transcript) (e : Deed Segment) → AreTerse a b now → Handed a b m (e ∷ now) → Within n now → Handed a b m n → ⊥
not_again a b m n [] e terse handed w handed' = handed
not_again a b m n (f ∷ older) e terse handed w handed' = go w
  where
    first : Standing
    first = record { message = messages.PcReq handed.0; put = m }

    there : In first (standing a b older)
    there = subst (λ (l : List Standing). In first l) (sym handed.5) (inl refl)

    popped : (o : Transcript) → Handed a b m (f ∷ o) → ⊥
    popped [] h = h
    popped (g ∷ o) h = let no : Pops a b ≡ Takes b (Inner a) (messages.PcReq h.0) h.1 = sym handed.4 ∙ h.3 in cc

    go : Within n (f ∷ older) → ⊥
    go (inl is) = popped older (subst (λ (t : Transcript). Handed a b m t) is handed')
    go (inr w') = gone a b older terse.1 m n w' handed' first there tt refl

pub one : (a b : As) (now : Transcript) → AreTerse a b now → (m n n' : Transcript) → Within n now → Within n' now → Handed a b m n → Handed a b m n' → n ≡ n'
one a b [] terse m n n' w w' handed handed' = w ∙ sym w'
one a b (e ∷ now) terse m n n' (inl is) (inl is') handed handed' = is ∙ sym is'
one a b (e ∷ now) terse m n n' (inl is) (inr w') handed handed' = absurd (not_again a b m n' now e terse.1 (subst (λ (t : Transcript). Handed a b m t) is handed) w' handed')
one a b (e ∷ now) terse m n n' (inr w) (inl is') handed handed' = absurd (not_again a b m n now e terse.1 (subst (λ (t : Transcript). Handed a b m t) is' handed') w handed)
one a b (e ∷ now) terse m n n' (inr w) (inr w') handed handed' = one a b now terse.1 m n n' w w' handed handed'

chain_within : (now : Transcript) (leg : Visit) (legs : List Visit) → Chain now (leg ∷ legs) → Within leg.at now
chain_within now leg [] h = h.0
chain_within now leg (next ∷ legs) h = h.0

-- the moments of two chains, where what elements send is terse
pub same_moments : (now : Transcript) → ((a b : As) → a ≢ parent_as → AreTerse a b now) → (leg leg' : Visit) (rest rest' : List Visit) → leg.at ≡ leg'.at → AreElements (leg ∷ rest) →
    Chain now (leg ∷ rest) → Chain now (leg' ∷ rest') → numbers (leg ∷ rest) ≡ numbers (leg' ∷ rest') → moments (leg ∷ rest) ≡ moments (leg' ∷ rest')
same_moments now terse leg leg' [] [] at real h h' same = ap (λ (t : Transcript). t ∷ []) at
same_moments now terse leg leg' [] (next' ∷ rest') at real h h' same = cc
same_moments now terse leg leg' (next ∷ rest) [] at real h h' same = cc
same_moments now terse leg leg' (next ∷ rest) (next' ∷ rest') at real h h' same =
    let own : leg'.own ≡ leg.own = cc in
    let own' : next'.own ≡ next.own = cc in
    let tails : numbers (next ∷ rest) ≡ numbers (next' ∷ rest') = cc in
    let handed : Handed leg.own next.own leg.at next'.at = subst (λ (d : As). Handed d next.own leg.at next'.at) own (subst (λ (d : As). Handed leg'.own d leg.at next'.at) own' (subst (λ (t : Transcript). Handed leg'.own next'.own t next'.at) (sym at) h'.2)) in
    let next_at : next.at ≡ next'.at = one leg.own next.own now (terse leg.own next.own real.0) leg.at next.at next'.at (chain_within now next rest h.3) (chain_within now next' rest' h'.3) h.2 handed in
    let more : moments (next ∷ rest) ≡ moments (next' ∷ rest') = same_moments now terse next next' rest rest' next_at real.1 h.3 h'.3 tails in
    ap (λ (t : Transcript). t ∷ moments (next ∷ rest)) at ∙ ap (λ (l : List Transcript). leg'.at ∷ l) more
