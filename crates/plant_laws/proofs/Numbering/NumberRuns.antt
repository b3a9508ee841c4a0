-- In every state of a run, as long as no id comes round, the last id of an element towards a neighbour is the number of the
-- requests that it sent there, what waits has no greater id, and each request has the number that follows those sent before it.
use Rattle.std.proofs.Common.{◌≡◌, ◌⊎◌, ◌≤◌, ◌<◌, ℕ, suc, map, Bool, true, false, cond, List, [], ◌∷◌, ◌++◌, inl, inr, sym, ◌∙◌, ap, subst, refl, arith}
use Rattle.std.proofs.lemmas.Bool.{cases_Bool}
use Rattle.std.proofs.lemmas.List.Elements.{All-tail}
use Rattle.plant_model.specs.Types.{As, Addr, Peer, Outside, Inner, Message, Asked, Wanted, Own, NetworkParts}
use Rattle.pcep_messages.specs.declared.message.Message.TheVariants as messages
use Rattle.pcep_session.specs.declared.actions.Own.TheVariants as own
use Rattle.disclosure.specs.Shown.{open_of}
use Rattle.request_table.specs.Pending.{same_peer, key_of}
use Rattle.request_table.proofs.KeyLemmas.{same_key_self}
use Rattle.plant_model.specs.declared.output.Output.{Output}
use Rattle.plant_model.specs.declared.output.Lost.{Lost}
use Rattle.plant_text.specs.Names.{same_as, parent_as}
use Rattle.plant_model.specs.Names.{the_parent, set_as}
use Rattle.plant_model.specs.Wire.{Codec}
use Rattle.plant_model.specs.Laws.{Admits, IsSequence, IsCodec}
use Rattle.plant_model.specs.Writing.{request_message}
use Rattle.plant_model.specs.Element.{Stage, Waits, Element, Way, upped, downed, lost, lost_output, fresh_id}
use Rattle.plant_model.specs.Taking.{take, sequence_or}
use Rattle.plant_model.specs.Solving.{commit, job_found}
use Rattle.plant_model.specs.Parent as parent
use Rattle.plant_text.specs.Settings.{Adjacency, class_of, adjacencies}
use Rattle.plant_model.specs.declared.route.Route.{Route}
use Rattle.plant_model.specs.Routes.{routes, toward}
use Rattle.plant_model.specs.Settings.{place, family, inner_ways, outer_way, way, ways_along}
use Rattle.plant_model.specs.State.{State, Pops}
use Rattle.plant_model.specs.Deeds.{own_message, with_parent, with_element}
use Rattle.plant_model.specs.Events as events
use Rattle.plant_model.specs.Plant.{Pin, Segment, first_pin, Plant, PlantDeed, Entry, Run, deeds_of}
use Rattle.plant_laws.specs.Transcript.{Transcript, outputs_at, put_into, count_asks, asks}
use Rattle.plant_laws.specs.About.{IsShort}
use Rattle.plant_laws.proofs.Runs.Queues.{same_as_is}
use Rattle.plant_laws.proofs.Once.Handing.{IsAsk}
use Rattle.plant_laws.proofs.Runs.Rows.{In}
use Rattle.plant_laws.proofs.Numbering.Sends.{NoneAsks}
use Rattle.plant_laws.proofs.Once.Opened.{AreSingle, puts_elements, single_deed}
use Rattle.plant_laws.proofs.Once.DeedByDeed.{Does, takes_above, takes_below, downs_above, downs_below, ups_above, ups_below, solves_above, solves_below, pops, hands_out, says_own, clears_link, expires_at, loads_rows, run_singles}
use Rattle.plant_laws.proofs.Least.Subsides.{commit_subs, downed_subs}
use Rattle.plant_laws.proofs.Numbering.SentOn.{same_peer_is}
use Rattle.plant_laws.proofs.Numbering.Numbers.{last, last_up, AtMost, fresh_is_next, most_before, wait_subs, Numbers, Goes, stays, take_numbers, commit_stays}

-- no request to b is among these
pub record NoAskTo (b : As) (os : List Output) : Type 0 where
  pub count : count_asks (put_into b os) ≡ 0
  pub none : (m : Message) → In {A = Output} (record { to = Inner b; message = m }) os → IsAsk m → ⊥

count_skip : (m : Message) (ms : List Message) → (IsAsk m → ⊥) → count_asks (m ∷ ms) ≡ count_asks ms
count_skip (messages.PcReq asked) ms = λ quiet. absurd (quiet tt)
count_skip (messages.PcRep replies) ms = λ quiet. refl
count_skip (messages.PcNtf notices) ms = λ quiet. refl
count_skip (messages.PcErr reports) ms = λ quiet. refl
count_skip (messages.Open body) ms = λ quiet. refl
count_skip messages.Keepalive ms = λ quiet. refl
count_skip (messages.Close why) ms = λ quiet. refl
count_skip (messages.Other kind) ms = λ quiet. refl

none_to : (b : As) (os : List Output) → NoneAsks os → NoAskTo b os
none_to b [] none = record { count = refl; none = λ m i. absurd i }
none_to b (o ∷ os) none =
    let rec = none_to b os none.1 in
    record {
      count = go (same_peer o.to (Inner b)) rec.count;
      none = λ m i ask. elim i [
        | inl is ↦ none.0 (subst IsAsk (sym (ap (λ (x : Output). x.message) is)) ask)
        | inr j ↦ rec.none m j ask
      ];
    }
  where
    go : (t : Bool) → count_asks (put_into b os) ≡ 0 → count_asks (cond t (o.message ∷ put_into b os) (put_into b os)) ≡ 0
    go true e = count_skip o.message (put_into b os) none.0 ∙ e
    go false e = e

pub peer_self : (p : Peer) → same_peer p p ≡ true
peer_self p = elim (cases_Bool (same_peer p p)) [
  | inl e ↦ e
  | inr e ↦ absurd (let out : false ≡ true = sym (rw e refl) ∙ same_key_self (key_of p 0) in cc)
]

-- to the element of the domain, or to an outside peer
abbrev pub Leads : Peer → As → Type 0
Leads (Inner z) b = Inner z ≡ Inner b
Leads (Outside i) b = Unit {0}

toward_leads : (b : As) (routes : List Route) → Leads (toward b routes) b
toward_leads b [] = refl
toward_leads b (r ∷ rs) = go (same_as r.next b) (toward_leads b rs)
  where
    go : (t : Bool) → Leads (toward b rs) b → Leads (cond t (Outside r.peer) (toward b rs)) b
    go true more = tt
    go false more = more

-- an element that is asked for a domain is its own
pub toward_inner : (b z : As) (routes : List Route) → Inner z ≡ toward b routes → z ≡ b
toward_inner b z routes is = same (subst (λ (p : Peer). Leads p b) (sym is) (toward_leads b routes))
  where
    same : Inner z ≡ Inner b → z ≡ b
    same e = cc

-- A request that is sent on asks for what an admitted one wanted, along the rest of its sequence, or of the parent.
abbrev pub IsKnown : Codec → Wanted → Addr → List As → Peer → Type 0
IsKnown c w t rest to = (a : Asked) × (own' : As) × (flags : ℕ) × (x : ℕ) × Admits c a own' flags x w × (t ≡ w.target)
    × (((rest ≡ []) × (to ≡ the_parent)) ⊎ ((b : As) × (more : List As) × (rest ≡ b ∷ more) × Leads to b × IsSequence b more))

sequence_tail : (first b : As) (rest : List As) → IsSequence first (b ∷ rest) → IsSequence b rest
sequence_tail first b rest is = record { few = let few = is.few in omega (arith, few); differ = λ i j d less below. is.differ (suc i) (suc j) d (omega (arith, less)) (omega (arith, below)); real = All-tail (λ (a : As). 1 ≤ a.0) first (b ∷ rest) is.real }

goes_known : (c : Codec) → IsCodec c → (own' : As) (routes : List Route) (a : Asked) (flags x : ℕ) (w : Wanted) → Admits c a own' flags x w → Goes Pin Segment (IsKnown c) own' routes w
goes_known c codec own' routes a flags x w admits = (
  (a, own', flags, x, admits, refl, inl (refl, refl)),
  λ first b rest is. (a, own', flags, x, admits, refl, inr (b, rest, refl, toward_leads b routes, along first b rest is (codec.onward.own a own' flags x w admits).2)),
)
  where
    along : (first b : As) (rest : List As) → sequence_or own' w.sequence ≡ first ∷ b ∷ rest → (w.sequence ≡ []) ⊎ ((more : List As) × (w.sequence ≡ own' ∷ more) × IsSequence own' more) → IsSequence b rest
    along first b rest is (inl none) =
        let one : own' ∷ [] ≡ first ∷ b ∷ rest = ap (λ (l : List As). sequence_or own' l) (sym none) ∙ is in
        let out : [] ≡ b ∷ rest = cc in
        absurd (cc)
    along first b rest is (inr s) =
        let one : own' ∷ s.0 ≡ first ∷ b ∷ rest = ap (λ (l : List As). sequence_or own' l) (sym s.1) ∙ is in
        let more : s.0 ≡ b ∷ rest = cc in
        sequence_tail own' b rest (subst (λ (l : List As). IsSequence own' l) more s.2)

-- the request of a deed has the next number
abbrev pub IsNumbered : Codec → As → PlantDeed → Transcript → Type 0
IsNumbered c d e older = (b : As) →
    NoAskTo b (outputs_at d e)
    ⊎ ((w : Wanted) × (t : Addr) × (rest : List As) × (outputs_at d e ≡ record { to = Inner b; message = request_message (suc (asks d b older)) w t rest } ∷ []) × IsKnown c w t rest (Inner b))

abbrev pub AreNumbered : Codec → As → Transcript → Type 0
AreNumbered c d [] = Unit {0}
AreNumbered c d (e ∷ ds) = IsNumbered c d e ds × AreNumbered c d ds

abbrev pub LastIs : Transcript → Element Pin Segment → As → Type 0
LastIs ds k d = (b : As) → (last (Inner b) k.ways ≡ asks d b ds) × AtMost Pin (Inner b) (asks d b ds) k.pending.rows

waits_peer : (p q : Peer) (x y : ℕ) → (let s : Stage = Waits p x in s) ≡ Waits q y → (p ≡ q) × (x ≡ y)
waits_peer p q x y e =
    let s : Stage = Waits p x in
    let r : Stage = Waits q y in
    let is : s ≡ r = e in
    (cc, cc)

-- one deed, as far as an element goes
deed_numbers : (c : Codec) (e : PlantDeed) (ds : Transcript) (d : As) (k t : Element Pin Segment) → Numbers Pin Segment (IsKnown c) k (record { element = t; outputs = outputs_at d e }) → IsShort (e ∷ ds) → LastIs ds k d →
    LastIs (e ∷ ds) t d × IsNumbered c d e ds
deed_numbers c e ds d k t (inl quiet) short old = (after, λ b. inl (none_to b (outputs_at d e) quiet.outs))
  where
    more : (b : As) → asks d b ds ≡ asks d b (e ∷ ds)
    more b = let none = (none_to b (outputs_at d e) quiet.outs).count in omega (arith, none)

    after : LastIs (e ∷ ds) t d
    after b = (
      quiet.lasts (Inner b) ∙ (old b).0 ∙ more b,
      subst (λ (n : ℕ). AtMost Pin (Inner b) n t.pending.rows) (more b) (most_before Pin (Inner b) (asks d b ds) k.pending.rows t.pending.rows quiet.rows (old b).1),
    )
deed_numbers c e ds d k t (inr sent) short old = (after, numbered)
  where
    os : List Output
    os = outputs_at d e

    one : Output
    one = record { to = sent.to; message = request_message sent.id sent.wanted sent.target sent.rest }

    not_to : (b : As) → same_peer sent.to (Inner b) ≡ false → NoAskTo b (outputs_at d e)
    not_to b other = record {
      count = ap (λ (l : List Output). count_asks (put_into b l)) sent.outs ∙ rw other refl;
      none = λ m i ask. go m (subst (λ (l : List Output). In {A = Output} (record { to = Inner b; message = m }) l) sent.outs i);
    }
      where
        go : (m : Message) → In {A = Output} (record { to = Inner b; message = m }) (record { to = sent.to; message = request_message sent.id sent.wanted sent.target sent.rest } ∷ []) → ⊥
        go m (inl is) =
            let to : sent.to ≡ Inner b = ap (λ (x : Output). x.to) is in
            let out : false ≡ true = sym other ∙ ap (λ (z : Peer). same_peer z (Inner b)) to ∙ peer_self (Inner b) in
            cc
        go m (inr never) = never

    -- towards its receiver
    counts : (b : As) → same_peer sent.to (Inner b) ≡ true → asks d b (e ∷ ds) ≡ suc (asks d b ds)
    counts b same =
        let one : count_asks (put_into b (outputs_at d e)) ≡ 1 = ap (λ (l : List Output). count_asks (put_into b l)) sent.outs ∙ rw same refl in
        omega (arith, one)

    id_is : (b : As) → same_peer sent.to (Inner b) ≡ true → sent.id ≡ suc (asks d b ds)
    id_is b same =
        let to : sent.to ≡ Inner b = same_peer_is sent.to (Inner b) same in
        let le = short d b in
        let c = counts b same in
        let less : asks d b ds < 4294967295 = omega (arith, le, c) in
        sent.fresh ∙ ap (λ (z : Peer). fresh_id' z) to ∙ ap (λ (n : ℕ). fresh_at b n) (old b).0 ∙ fresh_is_next Pin (Inner b) (asks d b ds) k.pending.rows less (old b).1
      where
        fresh_id' : Peer → ℕ
        fresh_id' z = fresh_id z (last z k.ways) k.pending.rows

        fresh_at : As → ℕ → ℕ
        fresh_at b n = fresh_id (Inner b) n k.pending.rows

    numbered : IsNumbered c d e ds
    numbered b = go (same_peer sent.to (Inner b)) refl
      where
        go : (x : Bool) → same_peer sent.to (Inner b) ≡ x → NoAskTo b (outputs_at d e)
            ⊎ ((w : Wanted) × (t : Addr) × (rest : List As) × (outputs_at d e ≡ record { to = Inner b; message = request_message (suc (asks d b ds)) w t rest } ∷ []) × IsKnown c w t rest (Inner b))
        go false other = inl (not_to b other)
        go true same = inr (
          sent.wanted,
          sent.target,
          sent.rest,
          sent.outs ∙ ap (λ (z : Peer). let o : Output = record { to = z; message = request_message sent.id sent.wanted sent.target sent.rest } in o ∷ []) (same_peer_is sent.to (Inner b) same)
              ∙ ap (λ (n : ℕ). let o : Output = record { to = Inner b; message = request_message n sent.wanted sent.target sent.rest } in o ∷ []) (id_is b same),
          subst (λ (z : Peer). IsKnown c sent.wanted sent.target sent.rest z) (same_peer_is sent.to (Inner b) same) sent.known,
        )

    after : LastIs (e ∷ ds) t d
    after b = go (same_peer sent.to (Inner b)) refl
      where
        go : (x : Bool) → same_peer sent.to (Inner b) ≡ x → (last (Inner b) t.ways ≡ asks d b (e ∷ ds)) × AtMost Pin (Inner b) (asks d b (e ∷ ds)) t.pending.rows
        go false other =
            let more : asks d b ds ≡ asks d b (e ∷ ds) = (let none = (not_to b other).count in omega (arith, none)) in (
              sent.others (Inner b) other ∙ (old b).0 ∙ more,
              subst (λ (n : ℕ). AtMost Pin (Inner b) n t.pending.rows) more (λ h i y is. elim (sent.rows h i) [
                | inl g ↦ (old b).1 g.0 g.1 y (sym g.2 ∙ is)
                | inr new ↦ absurd (
                    let to : sent.to ≡ Inner b = (waits_peer sent.to (Inner b) sent.id y (sym new ∙ is)).0 in
                    let out : false ≡ true = sym other ∙ ap (λ (z : Peer). same_peer z (Inner b)) to ∙ peer_self (Inner b) in
                    cc)
              ]),
            )
        go true same =
            let to : sent.to ≡ Inner b = same_peer_is sent.to (Inner b) same in
            let id = id_is b same in
            let count = counts b same in (
              ap (λ (z : Peer). last z t.ways) (sym to) ∙ sent.last_is ∙ id ∙ sym count,
              λ h i y is. elim (sent.rows h i) [
                | inl g ↦ let le = (old b).1 g.0 g.1 y (sym g.2 ∙ is) in omega (arith, le, count)
                | inr new ↦ let same_id = (waits_peer sent.to (Inner b) sent.id y (sym new ∙ is)).1 in omega (arith, same_id, id, count)
              ],
            )

short_tail : (e : PlantDeed) (ds : Transcript) → IsShort (e ∷ ds) → IsShort ds
short_tail e ds short = λ a b. let le = short a b in omega (arith, le)

short_back : (es ds : Transcript) → IsShort (es ++ ds) → IsShort ds
short_back [] ds short = short
short_back (e ∷ es) ds short = short_back es ds (short_tail e (es ++ ds) short)

own_none : (o : Own) → IsAsk (own_message o) → ⊥
own_none (own.Open offer) = λ x. x
own_none own.Keepalive = λ x. x
own_none (own.Error kind value) = λ x. x
own_none (own.Close why) = λ x. x

cond_none : (b : Bool) (os : List Output) → NoneAsks os → NoneAsks (cond b os [])
cond_none true os none = none
cond_none false os none = tt

lost_none : (ls : List Lost) → NoneAsks (map lost_output ls)
lost_none [] = tt
lost_none (l ∷ ls) = ((λ none. none), lost_none ls)

module _ (c : Codec) (codec : IsCodec c) (n : NetworkParts) where
  abbrev Core : Type 0
  Core = State Pin Segment

  abbrev pub AreLast : Transcript → Core → Type 0
  AreLast ds s = (d : As) → same_as d parent_as ≡ false → LastIs ds (s.elements d) d × AreNumbered c d ds

  abbrev Step : PlantDeed → Core → Core → Type 0
  Step e s t = (d : As) → same_as d parent_as ≡ false → Numbers Pin Segment (IsKnown c) (s.elements d) (record { element = t.elements d; outputs = outputs_at d e })

  after : (e : PlantDeed) (ds : Transcript) (s t : Core) → AreLast ds s → IsShort (e ∷ ds) → Step e s t → AreLast (e ∷ ds) t
  after e ds s t old short step d low =
      let o = old d low in
      let r = deed_numbers c e ds d (s.elements d) (t.elements d) (step d low) short o.0 in
      (r.0, (r.1, o.1))

  -- nothing is sent on, and elements stay
  still : (e : PlantDeed) (s t : Core) → t.elements ≡ s.elements → ((d : As) → same_as d parent_as ≡ false → NoneAsks (outputs_at d e)) → Step e s t
  still e s t same none d low =
      subst (λ (f : As → Element Pin Segment). Numbers Pin Segment (IsKnown c) (s.elements d) (record { element = f d; outputs = outputs_at d e })) (sym same)
      (stays Pin Segment (IsKnown c) (s.elements d) (outputs_at d e) (none d low))

  -- the parent does something
  above : (at d : As) (os : List Output) → same_as at parent_as ≡ true → same_as d parent_as ≡ false → NoneAsks (cond (same_as at d) os [])
  above at d os up low = go (same_as at d) refl
    where
      go : (b : Bool) → same_as at d ≡ b → NoneAsks (cond b os [])
      go true is = absurd (let out : false ≡ true = sym low ∙ ap (λ (z : As). same_as z parent_as) (sym (same_as_is at d is)) ∙ up in cc)
      go false is = tt

  -- an element does something
  come : (e : PlantDeed) (at : As) (os : List Output) (k : Element Pin Segment) (s t : Core) → t.elements ≡ set_as at k s.elements → ((d : As) → outputs_at d e ≡ cond (same_as at d) os []) →
      Numbers Pin Segment (IsKnown c) (s.elements at) (record { element = k; outputs = os }) → Step e s t
  come e at os k s t same outs one d low =
      subst (λ (f : As → Element Pin Segment). Numbers Pin Segment (IsKnown c) (s.elements d) (record { element = f d; outputs = outputs_at d e })) (sym same)
      (subst (λ (l : List Output). Numbers Pin Segment (IsKnown c) (s.elements d) (record { element = set_as at k s.elements d; outputs = l })) (sym (outs d)) (go (same_as at d) refl))
    where
      go : (b : Bool) → same_as at d ≡ b → Numbers Pin Segment (IsKnown c) (s.elements d) (record { element = cond b k (s.elements d); outputs = cond b os [] })
      go true is = subst (λ (z : As). Numbers Pin Segment (IsKnown c) (s.elements z) (record { element = k; outputs = os })) (same_as_is at d is) one
      go false is = stays Pin Segment (IsKnown c) (s.elements d) [] tt

  last_same : (ds : Transcript) (s t : Core) → t.elements ≡ s.elements → AreLast ds s → AreLast ds t
  last_same ds s t same old = subst (λ (f : As → Element Pin Segment). (d : As) → same_as d parent_as ≡ false → LastIs ds (f d) d × AreNumbered c d ds) (sym same) old

  nothing : (b : Bool) → ◌≡◌ {A = List Output} [] (cond b [] [])
  nothing true = refl
  nothing false = refl

  steps : (s t : Core) (e : PlantDeed) → Does c n s e t → single_deed e → Step e s t
  steps s t e (takes_above at p m s' up) one =
      let r = parent.take c (family n) p m s.parent in
      still e s t (puts_elements c n at r.outputs (with_parent Pin Segment c n open_of r.parent s)) (λ d low. above at d r.outputs up low)
  steps s t e (takes_below at p m s' low heard) one =
      let r = take c open_of (place n at) (s.current at) p (class_of n p) s.clock m (s.elements at) in
      come e at r.outputs r.element s t (puts_elements c n at r.outputs (with_element Pin Segment c n open_of at r.element s)) (λ d. refl)
      (take_numbers Pin Segment (IsKnown c) c open_of (place n at) (s.current at) p (class_of n p) s.clock (goes_known c codec (place n at).own (place n at).routes) m one (s.elements at))
  steps s t e (downs_above at p s' up) one =
      let r = parent.downed p s.parent in
      still e s t (puts_elements c n at r.outputs (with_parent Pin Segment c n open_of r.parent s)) (λ d low. above at d r.outputs up low)
  steps s t e (downs_below at p s' low) one =
      let r = downed p (s.elements at) in
      come e at r.outputs r.element s t (puts_elements c n at r.outputs (with_element Pin Segment c n open_of at r.element s)) (λ d. refl)
      (inl (record {
        lasts = λ q. last_up p q false (s.elements at).ways;
        outs = lost_none (lost p (s.elements at).pending.rows);
        rows = wait_subs Pin (s.elements at).pending.rows r.element.pending.rows (downed_subs Pin Segment p (s.elements at));
      }))
  steps s t e (ups_above at p s' up) one = still e s t refl (λ d low. tt)
  steps s t e (ups_below at p s' low) one =
      come e at [] (upped p (s.elements at)) s t refl (λ d. nothing (same_as at d)) (inl (record { lasts = λ q. last_up p q true (s.elements at).ways; outs = tt; rows = λ h i. inl (h, i, refl) }))
  steps s t e (solves_above k h s' x) one =
      let r = parent.commit c (k, x.held) x.answer s.parent in
      still e s t (puts_elements c n parent_as r.outputs (with_parent Pin Segment c n open_of r.parent s)) (λ d low. above parent_as d r.outputs refl low)
  steps s t e (solves_below d k h s' x) one =
      let r = commit c (place n d) (k, x.held) x.down s.clock (λ b. b.segment) (job_found x.rows.source_known x.rows.target_known x.rows.best) (s.elements d) in
      let stay = commit_stays Pin Segment (IsKnown c) c (place n d) (k, x.held) x.down s.clock (λ b. b.segment) x.rows.source_known x.rows.target_known x.rows.best (s.elements d) in
      come e d r.outputs r.element s t (puts_elements c n d r.outputs (with_element Pin Segment c n open_of d r.element s)) (λ d'. refl)
      (inl (record {
        lasts = λ q. ap (λ (ws : List Way). last q ws) stay.0;
        outs = stay.1;
        rows = wait_subs Pin (s.elements d).pending.rows r.element.pending.rows
            (commit_subs Pin Segment c (place n d) (k, x.held) x.down s.clock (λ b. b.segment) x.rows.source_known x.rows.target_known x.rows.best (s.elements d));
      }))
  steps s t e (pops a b rest s') one = still e s t refl (λ d low. tt)
  steps s t e (hands_out i bytes s') one = still e s t refl (λ d low. tt)
  steps s t e (says_own at p o s') one =
      let out : Output = record { to = p; message = own_message o } in
      still e s t (puts_elements c n at (out ∷ []) s) (λ d low. cond_none (same_as at d) (out ∷ []) (own_none o, tt))
  steps s t e (clears_link x s') one = still e s t refl (λ d low. tt)
  steps s t e (expires_at now s') one = λ d low. inl (record { lasts = λ q. refl; outs = tt; rows = λ h i. inl (h, i, refl) })
  steps s t e (loads_rows d g s') one = λ d' low. inl (record { lasts = λ q. refl; outs = tt; rows = λ h i. inl (h, i, refl) })

  none_yet : (d b : As) (xs : List Adjacency) → last (Inner b) (ways_along d xs) ≡ 0
  none_yet d b [] = refl
  none_yet d b (x ∷ xs) = go (same_as x.lower d) (same_as x.upper d) (none_yet d b xs)
    where
      one : (a : As) → last (Inner b) (ways_along d xs) ≡ 0 → last (Inner b) (way a ∷ ways_along d xs) ≡ 0
      one a rec = pick (same_peer (Inner a) (Inner b))
        where
          pick : (t : Bool) → cond t 0 (last (Inner b) (ways_along d xs)) ≡ 0
          pick true = refl
          pick false = rec

      go : (t u : Bool) → last (Inner b) (ways_along d xs) ≡ 0 → last (Inner b) (cond t (way x.upper ∷ ways_along d xs) (cond u (way x.lower ∷ ways_along d xs) (ways_along d xs))) ≡ 0
      go true u rec = one x.upper rec
      go false true rec = one x.lower rec
      go false false rec = rec

  none_outside : (b : As) (rs : List Route) → last (Inner b) (map outer_way rs) ≡ 0
  none_outside b [] = refl
  none_outside b (r ∷ rs) = none_outside b rs

  none_behind : (b : As) (ws : List Way) (rs : List Route) → last (Inner b) ws ≡ 0 → last (Inner b) (ws ++ map outer_way rs) ≡ 0
  none_behind b [] rs none = none_outside b rs
  none_behind b (w ∷ ws) rs none = go (same_peer w.peer (Inner b)) (none_behind b ws rs) none
    where
      go : (t : Bool) → (last (Inner b) ws ≡ 0 → last (Inner b) (ws ++ map outer_way rs) ≡ 0) → cond t w.last_id (last (Inner b) ws) ≡ 0 → cond t w.last_id (last (Inner b) (ws ++ map outer_way rs)) ≡ 0
      go true more none' = none'
      go false more none' = more none'

  abbrev IfShort : Transcript → Core → Type 0
  IfShort ds s = IsShort ds → AreLast ds s

  bare_last : AreSingle [] → IfShort [] (events.bare Pin Segment c n open_of first_pin)
  bare_last single short d low = (λ b. (none_behind b (inner_ways n d) (routes n d) (none_yet d b (adjacencies n)), λ h none. absurd none), tt)

  -- As long as no id comes round.
  pub run_last : (es : List Entry) (s : Plant) → Run c n es s → AreSingle (deeds_of c n es) → IsShort (deeds_of c n es) → AreLast (deeds_of c n es) s
  run_last =
      run_singles c n IfShort (λ ds s t elements parent' current held short. last_same ds s t elements (held short))
      (λ ds s t e does one held short. after e ds s t (held (short_tail e ds short)) short (steps s t e does one)) bare_last
