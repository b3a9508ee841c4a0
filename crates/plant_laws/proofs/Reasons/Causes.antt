-- Why a deed sends what it sends: an element asks for the request that it took, and what the parent answers comes from a solve or is
-- about a key.
use Rattle.std.proofs.Common.{◌≡◌, ◌⊎◌, ℕ, length, Bool, true, false, cond, ◌==◌, Option, Some, None, List, [], ◌∷◌, ◌++◌, inl, inr, sym, ◌∙◌, ap, subst, refl, arith}
use Rattle.std.specs.Prelude.{Contains, map}
use Rattle.std.proofs.lemmas.List.Elements.{Contains-append_cases}
use Rattle.plant_model.specs.Types.{As, Addr, Peer, Inner, Asked, Answer, Message, Path as PathRow, Reply, Request, Wanted, Wish, Own, NetworkParts}
use Rattle.disclosure.specs.Shown.{open_of}
use Rattle.pcep_messages.specs.declared.message.Answer.TheVariants.{Paths, NoPath}
use Rattle.pcep_messages.specs.declared.message.Message.TheVariants as messages
use Rattle.pcep_messages.specs.declared.message.Wish.TheVariants.{Path, Expand}
use Rattle.request_table.specs.Pending.{number_of, is_full}
use Rattle.plant_model.specs.declared.output.Output.{Output}
use Rattle.plant_model.specs.declared.output.Lost.{Lost}
use Rattle.plant_text.specs.Names.{same_as, parent_as}
use Rattle.plant_model.specs.Names.{has_pair}
use Rattle.plant_model.specs.Wire.{Codec, Checked, Admitted, Wrong}
use Rattle.plant_model.specs.Writing.{request_message, reply_message, error_message, no_key, unavailable, busy}
use Rattle.plant_model.specs.Laws.{Admits}
use Rattle.plant_model.specs.Element.{Way, fresh_id, with_last, lost_output, lost, downed}
use Rattle.plant_model.specs.Taking.{take}
use Rattle.plant_model.specs.Solving.{commit, job_found}
use Rattle.plant_model.specs.Parent as parent
use Rattle.plant_model.specs.Parent.{Parent, ParentTaken, Family, AskingRow, Errand, Wait, ask_all, errands, all_waits, all_up}
use Rattle.plant_text.specs.Settings.{class_of}
use Rattle.plant_model.specs.Settings.{place, family}
use Rattle.plant_model.specs.State.{State, Deed, Loads, Pops, Takes, Says, Ups, Downs, Clears, Solves, Expires, Hands}
use Rattle.plant_model.specs.Deeds.{own_message}
use Rattle.plant_model.specs.Plant.{Pin, Segment, Plant, PlantDeed, Entry, Run, deeds_of}
use Rattle.plant_laws.specs.Transcript.{outputs_at}
use Rattle.plant_laws.proofs.Runs.Acts.{says}
use Rattle.plant_laws.proofs.Runs.Decompose.{nil_right}
use Rattle.plant_laws.proofs.Runs.Queues.{same_as_is}
use Rattle.border_costs.proofs.Members.{contains_none, contains_head, contains_cases}
use Rattle.plant_laws.proofs.Once.Handing.{In, IsAsk}
use Rattle.plant_laws.proofs.Numbering.Sends.{NoneAsks, Each}
use Rattle.plant_laws.proofs.Once.Takes.{IsSingle, own_is}
use Rattle.plant_laws.proofs.Once.Opened.{AreSingle, single_deed}
use Rattle.plant_laws.proofs.Once.DeedByDeed.{Does, takes_above, takes_below, downs_above, downs_below, ups_above, ups_below, solves_above, solves_below, pops, hands_out, says_own, clears_link, expires_at, loads_rows, run_singles}
use Rattle.plant_laws.proofs.Numbering.Onward.{GoesTo, take_of, way_peer, none_lost, calm_commit}
use Rattle.plant_laws.proofs.Least.Given.{OfSolve, OfKey}
use Rattle.plant_laws.proofs.Least.Spoken.{one_said, reply_is}
use Rattle.plant_laws.proofs.Once.TakeSays.{OneTold, not_known, other_one}
use Rattle.plant_laws.proofs.Once.Replied.{own_silent}
use Rattle.plant_laws.proofs.Numbering.Known.{own_none}
use Rattle.plant_laws.specs.Certified.{Tells}

-- ---- the parent: what it says to a message that it takes

module _ (to : Peer) (r : Reply) (paths : List PathRow) (tells : Tells r.answer paths) where
  abbrev Silent : ParentTaken → Type 0
  Silent t = OneTold to r t.outputs → ⊥

  pick : (b : Bool) (t u : ParentTaken) → Silent t → Silent u → Silent (cond b t u)
  pick true t u f g = f
  pick false t u f g = g

  each_silent : {X : Type 0} (f : X → Parent → ParentTaken) → ((x : X) (k : Parent) → Silent (f x k)) → (xs : List X) (k : Parent) → Silent (parent.each f xs k)
  each_silent f one [] k = λ said. contains_none _ said
  each_silent f one (x ∷ xs) k = λ said. elim (Contains-append_cases (f x k).outputs (parent.each f xs (f x k).parent).outputs _ said) [ inl here ↦ one x k here | inr later ↦ each_silent f one xs (f x k).parent later ]

  nothing : (k : Parent) → Silent (parent.silent k)
  nothing k = λ said. contains_none _ said

  unknown : (h : AskingRow) (k : Parent) → Silent (parent.answered h (reply_message h.1.item.flags h.1.key.id unavailable) k)
  unknown h k = λ said. not_known to r paths tells h.1.key.peer h.1.item.flags h.1.key.id said

  asks_silent : (w : Wanted) (taken : List Wait) (rs : List Errand) (ways : List Way) → OneTold to r (ask_all w taken rs ways).outputs → ⊥
  asks_silent w taken [] ways = λ said. contains_none _ said
  asks_silent w taken (x ∷ xs) ways = λ said.
      let p : Peer = Inner x.child in
      let y = parent.next_id p taken ways in
      let one : Wait = record { peer = p; id = y; child = x.child; target = x.target } in
      let out : Output = record { to = p; message = request_message y w x.target (x.child ∷ []) } in
      elim (contains_cases out (ask_all w (one ∷ taken) xs (with_last p y ways)).outputs _ said) [
        | inl same ↦ other_one to r paths tells p (request_message y w x.target (x.child ∷ [])) refl (subst (λ (o : Output). Contains (out ∷ []) o) same (contains_head out []))
        | inr more ↦ asks_silent w (one ∷ taken) xs (with_last p y ways) more
      ]

  module _ (c : Codec) (f : Family) (q : Peer) where
    pub record IsKeyAbove (a : Asked) : Type 0 where
      pub request : Request
      pub admits : c.check a parent_as ≡ Admitted request
      pub key : ℕ
      pub pce : Addr
      pub wish : request.wish ≡ Expand key pce
      pub flags : r.flags ≡ request.flags
      pub is_to : q ≡ to

    asked_says : (a : Asked) (k : Parent) → OneTold to r (parent.take_asked c f q a k).outputs → IsKeyAbove a
    asked_says a k = go (c.check a parent_as) refl
      where
        wish_says : (v : Request) → c.check a parent_as ≡ Admitted v → (w : Wish) → v.wish ≡ w → OneTold to r (parent.take_wish f q v.flags v.id k w).outputs → IsKeyAbove a
        wish_says v is (Path w) wish h =
            absurd (pick (is_full k.pending) _ _ (λ h'. other_one to r paths tells q (busy v.flags v.id) refl h')
            (pick (all_up f.children k.ways) _ _ (asks_silent w (all_waits k.pending.rows) (errands f.links w.target f.children) k.ways) (not_known to r paths tells q v.flags v.id)) h)
        wish_says v is (Expand key pce) wish h =
            let s = one_said q to (reply_message v.flags v.id no_key) r h in
            let same = reply_is (record { flags = v.flags; id = v.id; answer = no_key }) r s.1 in
            record { request = v; admits = is; key = key; pce = pce; wish = wish; flags = ap (λ (z : Reply). z.flags) (sym same); is_to = s.0 }

        new_says : (v : Request) → c.check a parent_as ≡ Admitted v → (o : Option ℕ) → OneTold to r (parent.take_new f q v k o).outputs → IsKeyAbove a
        new_says v is None h = wish_says v is v.wish refl h
        new_says v is (Some number) h = absurd (contains_none _ h)

        go : (o : Checked) → c.check a parent_as ≡ o → OneTold to r (parent.take_checked f q k o).outputs → IsKeyAbove a
        go (Wrong rp kind value) is h = absurd (other_one to r paths tells q (error_message rp kind value) refl h)
        go (Admitted v) is h = new_says v is (number_of k.pending q v.id) h

    answer_silent : (y : ℕ) (h : AskingRow) (k : Parent) (a : Answer) → Silent (parent.take_answer c q y h k a)
    answer_silent y h k (Paths ps) = λ said. contains_none _ said
    answer_silent y h k (NoPath nature vector) = pick (nature == 0) _ _ (λ said. contains_none _ said) (unknown h k)

    reply_silent : (x : Reply) (k : Parent) → Silent (parent.take_reply c q x k)
    reply_silent x k = go (parent.waiting q x.id k.pending.rows)
      where
        go : (o : Option AskingRow) → Silent (parent.take_found c q x k o)
        go None = λ said. other_one to r paths tells q (error_message (Some (x.flags, x.id)) 8 0) refl said
        go (Some h) = answer_silent x.id h k x.answer

    busy_silent : (rp : ℕ × ℕ) (k : Parent) → Silent (parent.take_busy q rp k)
    busy_silent rp k = go (parent.waiting q rp.1 k.pending.rows)
      where
        go : (o : Option AskingRow) → Silent (parent.told_busy k o)
        go None = nothing k
        go (Some h) = λ said. other_one to r paths tells h.1.key.peer (busy h.1.item.flags h.1.key.id) refl said

    cancel_silent : (rp : ℕ × ℕ) (k : Parent) → Silent (parent.take_cancel q rp k)
    cancel_silent rp k = go (number_of k.pending q rp.1)
      where
        go : (o : Option ℕ) → Silent (parent.cancelled k o)
        go None = nothing k
        go (Some number) = λ said. contains_none _ said

    both_silent : (t : ParentTaken) (os : List Output) → Silent t → (OneTold to r os → ⊥) → OneTold to r (t.outputs ++ os) → ⊥
    both_silent t os f g said = elim (Contains-append_cases t.outputs os _ said) [ inl here ↦ f here | inr later ↦ g later ]

    steps_silent : (rp : ℕ × ℕ) (kinds : List (ℕ × ℕ)) (k : Parent) → Silent (parent.each (λ (step : Peer → ℕ × ℕ → Parent → ParentTaken). step q rp) (parent.notice_steps kinds) k)
    steps_silent rp kinds k = go (has_pair 1 2 kinds) (has_pair 1 1 kinds)
      where
        go : (b a : Bool) → Silent (parent.each (λ (step : Peer → ℕ × ℕ → Parent → ParentTaken). step q rp) (cond b (cond a (parent.take_busy ∷ parent.take_cancel ∷ []) (parent.take_busy ∷ [])) (cond a (parent.take_cancel ∷ []) [])) k)
        go true true =
            let u = parent.take_busy q rp k in
            both_silent u ((parent.take_cancel q rp u.parent).outputs ++ []) (busy_silent rp k) (both_silent (parent.take_cancel q rp u.parent) [] (cancel_silent rp u.parent) (λ none. contains_none _ none))
        go true false = both_silent (parent.take_busy q rp k) [] (busy_silent rp k) (λ none. contains_none _ none)
        go false true = both_silent (parent.take_cancel q rp k) [] (cancel_silent rp k) (λ none. contains_none _ none)
        go false false = λ said. contains_none _ said

    failure_silent : (x : ℕ × ℕ) (k : Parent) (o : Option AskingRow) → Silent (parent.take_failure x k o)
    failure_silent x k None = nothing k
    failure_silent x k (Some h) = go (has_pair 8 0 (x ∷ [])) (has_pair x.0 x.1 ((4, 4) ∷ (13, 1) ∷ []))
      where
        go : (a b : Bool) → Silent (parent.told_error h k (cond a [] (cond b (error_message (Some (h.1.item.flags, h.1.key.id)) 13 1 ∷ []) (reply_message h.1.item.flags h.1.key.id unavailable ∷ []))))
        go true b = nothing k
        go false true = λ said. other_one to r paths tells h.1.key.peer (error_message (Some (h.1.item.flags, h.1.key.id)) 13 1) refl said
        go false false = unknown h k

    errors_silent : (ids errors : List (ℕ × ℕ)) (k : Parent) → Silent (parent.take_errors q ids errors k)
    errors_silent ids [] k = nothing k
    errors_silent ids (x ∷ xs) k = each_silent (λ (rp : ℕ × ℕ) k'. parent.take_failure x k' (parent.waiting q rp.1 k'.pending.rows)) (λ rp k'. failure_silent x k' (parent.waiting q rp.1 k'.pending.rows)) ids k

    take_says : (m : Message) → IsSingle m → (k : Parent) → OneTold to r (parent.take c f q m k).outputs → (a : Asked) × (m ≡ messages.PcReq (a ∷ [])) × IsKeyAbove a
    take_says (messages.PcReq []) one k said = absurd (contains_none _ said)
    take_says (messages.PcReq (a ∷ [])) one k said = (a, refl, asked_says a k (subst (λ (os : List Output). OneTold to r os) (nil_right (parent.take_asked c f q a k).outputs) said))
    take_says (messages.PcReq (a ∷ b ∷ rest)) one k said = absurd (let none : length (a ∷ b ∷ rest) ≡ 1 = one in omega (arith, none))
    take_says (messages.PcRep replies) one k said = absurd (each_silent (parent.take_reply c q) reply_silent replies k said)
    take_says (messages.PcNtf notices) one k said =
        absurd (each_silent (parent.take_notice q) (λ x k'. each_silent (λ (rp : ℕ × ℕ). parent.each (λ (step : Peer → ℕ × ℕ → Parent → ParentTaken). step q rp) (parent.notice_steps x.kinds)) (λ rp k''. steps_silent rp x.kinds k'') x.ids k') notices k said)
    take_says (messages.PcErr reports) one k said = absurd (each_silent (parent.take_report q) (λ x k'. errors_silent x.ids x.errors k') reports k said)
    take_says (messages.Open body) one k said = absurd (contains_none _ said)
    take_says messages.Keepalive one k said = absurd (contains_none _ said)
    take_says (messages.Close why) one k said = absurd (contains_none _ said)
    take_says (messages.Other kind) one k said = absurd (contains_none _ said)

  lost_silent : (xs : List Lost) → OneTold to r (map lost_output xs) → ⊥
  lost_silent [] said = contains_none _ said
  lost_silent (x ∷ xs) said = elim (contains_cases (lost_output x) (map lost_output xs) _ said) [
    | inl same ↦ not_known to r paths tells x.to x.flags x.id (subst (λ (o : Output). Contains (lost_output x ∷ []) o) same (contains_head (lost_output x) []))
    | inr more ↦ lost_silent xs more
  ]

-- ---- deeds

-- what an element asks for the message that it took
pub record IsOf (c : Codec) (n : NetworkParts) (d : As) (m : Message) (o : Output) : Type 0 where
  pub taken : Asked
  pub is : m ≡ messages.PcReq (taken ∷ [])
  pub flags : ℕ
  pub x : ℕ
  pub wanted : Wanted
  pub admits : Admits c taken d flags x wanted
  pub id : ℕ
  pub to : Peer
  pub rest : List As
  pub goes : GoesTo Pin Segment (place n d).routes wanted to rest
  pub sends : o ≡ record { to = to; message = request_message id wanted wanted.target rest }

abbrev pub AsksFor : Codec → NetworkParts → Deed Segment → Type 0
AsksFor c n (Takes at p m os) = same_as at parent_as ≡ false → (o : Output) → In o os → IsAsk o.message → IsOf c n at m o
AsksFor c n (Says at o) = IsAsk o.message → ⊥
AsksFor c n (Downs at p os) = same_as at parent_as ≡ false → NoneAsks os
AsksFor c n (Solves at k os keys) = same_as at parent_as ≡ false → NoneAsks os
AsksFor c n _ = Unit {0}

abbrev pub SaysAbove : Codec → Deed Segment → Type 0
SaysAbove c e = (p : Peer) (r : Reply) (paths : List PathRow) → OneTold p r (outputs_at parent_as e) → Tells r.answer paths → OfSolve parent_as e ⊎ OfKey c parent_as p r e

abbrev pub HasCause : Codec → NetworkParts → Deed Segment → Type 0
HasCause c n e = AsksFor c n e × SaysAbove c e

pub none_in : (os : List Output) → NoneAsks os → (o : Output) → In o os → IsAsk o.message → ⊥
none_in [] none o i = absurd i
none_in (x ∷ os) none o (inl same) = λ ask. none.0 (subst (λ (z : Output). IsAsk z.message) same ask)
none_in (x ∷ os) none o (inr i) = none_in os none.1 o i

module _ (c : Codec) (n : NetworkParts) where
  abbrev Core : Type 0
  Core = State Pin Segment

  -- an element says nothing at the parent
  elsewhere : (e : Deed Segment) (d : As) (os : List Output) → same_as d parent_as ≡ false → outputs_at parent_as e ≡ cond (same_as d parent_as) os [] → SaysAbove c e
  elsewhere e d os low outs p r paths said tells =
      absurd (contains_none _ (subst (λ (b : Bool). OneTold p r (cond b os [])) low (subst (λ (l : List Output). OneTold p r l) outs said)))

  no_output : (e : Deed Segment) → outputs_at parent_as e ≡ [] → SaysAbove c e
  no_output e outs p r paths said tells = absurd (contains_none _ (subst (λ (l : List Output). OneTold p r l) outs said))

  above_takes : (at q : _) (m : Message) (k : Parent) → IsSingle m → same_as at parent_as ≡ true → SaysAbove c (Takes at q m (parent.take c (family n) q m k).outputs)
  above_takes at q m k one up p r paths said tells =
      let os = (parent.take c (family n) q m k).outputs in
      let x = take_says p r paths tells c (family n) q m one k (subst (λ (b : Bool). OneTold p r (cond b os [])) up said) in
      inr (record {
        taken = x.0;
        outputs = os;
        is = ap (λ (z : As). let e : PlantDeed = Takes z q m os in e) (same_as_is at parent_as up)
            ∙ ap (λ (z : Peer). let e : PlantDeed = Takes parent_as z m os in e) x.2.is_to
            ∙ ap (λ (z : Message). let e : PlantDeed = Takes parent_as p z os in e) x.1;
        request = x.2.request;
        admits = x.2.admits;
        key = x.2.key;
        pce = x.2.pce;
        wish = x.2.wish;
        flags = x.2.flags;
      })

  asks : (at : As) (p : Peer) (m : Message) (s : Core) → IsSingle m → (o : Output) → In o (take c open_of (place n at) (s.current at) p (class_of n p) s.clock m (s.elements at)).outputs → IsAsk o.message → IsOf c n at m o
  asks at p m s single o i ask = elim (take_of Pin Segment c open_of (place n at) (s.current at) p (class_of n p) s.clock (s.elements at) m single) [
    | inl calm ↦ absurd (none_in (take c open_of (place n at) (s.current at) p (class_of n p) s.clock m (s.elements at)).outputs calm.none o i ask)
    | inr x ↦
        let f = x.2 in
        let y = fresh_id f.way.peer f.way.last_id (s.elements at).pending.rows in
        let one : Output = record { to = f.way.peer; message = request_message y f.wanted f.wanted.target f.rest } in
        record {
          taken = x.0;
          is = x.1;
          flags = f.flags;
          x = f.id;
          wanted = f.wanted;
          admits = subst (λ (z : Asked). c.check z at ≡ Admitted (record { flags = f.flags; id = f.id; wish = Path f.wanted })) x.3
              (subst (λ (z : As). c.check f.asked z ≡ Admitted (record { flags = f.flags; id = f.id; wish = Path f.wanted })) (own_is n at) f.admitted);
          id = y;
          to = f.to;
          rest = f.rest;
          goes = f.goes;
          sends = at_head one (subst (λ (l : List Output). In o l) f.outs i)
              ∙ ap (λ (z : Peer). let u : Output = record { to = z; message = request_message y f.wanted f.wanted.target f.rest } in u) (way_peer f.to (s.elements at).ways f.way f.found);
        }
  ]
    where
      at_head : (u : Output) → In o (u ∷ []) → o ≡ u
      at_head u (inl same) = same
      at_head u (inr none) = absurd none

  says_silent : (at : As) (p : Peer) (o : Own) → SaysAbove c (Says at (record { to = p; message = own_message o }))
  says_silent at p o q r paths said tells = go (same_as at parent_as) said
    where
      go : (b : Bool) → OneTold q r (cond b (record { to = p; message = own_message o } ∷ []) []) → OfSolve parent_as (Says at (record { to = p; message = own_message o })) ⊎ OfKey c parent_as q r (Says at (record { to = p; message = own_message o }))
      go true said' = absurd (other_one q r paths tells p (own_message o) (own_silent o) said')
      go false said' = absurd (contains_none _ said')

  solved_says : (d : As) (k : ℕ) (os : List Output) (keys : _) → SaysAbove c (Solves d k os keys)
  solved_says d k os keys p r paths said tells = go (same_as d parent_as) refl said
    where
      go : (b : Bool) → same_as d parent_as ≡ b → OneTold p r (cond b os []) → OfSolve parent_as (Solves d k os keys) ⊎ OfKey c parent_as p r (Solves d k os keys)
      go true up said' = inl (record { number = k; outputs = os; keys = keys; is = ap (λ (z : As). let e : PlantDeed = Solves z k os keys in e) (same_as_is d parent_as up) })
      go false low said' = absurd (contains_none _ said')

  does_have : (s t : Core) (e : PlantDeed) → Does c n s e t → single_deed e → HasCause c n e
  does_have s t e (takes_above at p m s' up) one = ((λ low. absurd (let clash : true ≡ false = sym up ∙ low in cc)), above_takes at p m s.parent one up)
  does_have s t e (takes_below at p m s' low heard) one =
      ((λ low' o i ask. asks at p m s one o i ask), elsewhere e at (take c open_of (place n at) (s.current at) p (class_of n p) s.clock m (s.elements at)).outputs low refl)
  does_have s t e (downs_above at p s' up) one = (
    (λ low. none_lost (parent.lost p s.parent.pending.rows)),
    (λ q x paths said tells. absurd (lost_silent q x paths tells (parent.lost p s.parent.pending.rows) (subst (λ (b : Bool). OneTold q x (cond b (parent.downed p s.parent).outputs [])) up said))),
  )
  does_have s t e (downs_below at p s' low) one = ((λ low'. none_lost (lost p (s.elements at).pending.rows)), elsewhere e at (downed p (s.elements at)).outputs low refl)
  does_have s t e (ups_above at p s' up) one = (tt, no_output e refl)
  does_have s t e (ups_below at p s' low) one = (tt, no_output e refl)
  does_have s t e (solves_above k h s' x) one = ((λ low. absurd (let clash : true ≡ false = low in cc)), solved_says parent_as k (parent.commit c (k, x.held) x.answer s.parent).outputs [])
  does_have s t e (solves_below d k h s' x) one =
      let r = commit c (place n d) (k, x.held) x.down s.clock (λ b. b.segment) (job_found x.rows.source_known x.rows.target_known x.rows.best) (s.elements d) in
      ((λ low. (calm_commit Pin Segment c (place n d) (k, x.held) x.down s.clock (λ b. b.segment) x.rows.source_known x.rows.target_known x.rows.best (s.elements d)).none), solved_says d k r.outputs r.element.keys.issued)
  does_have s t e (says_own at p o s') one = (own_none o, says_silent at p o)
  does_have s t e _ one = (tt, no_output e refl)

  pub run_has : (es : List Entry) (s : Plant) → Run c n es s → AreSingle (deeds_of c n es) → Each (HasCause c n) (deeds_of c n es)
  run_has = run_singles c n (λ ds s. Each (HasCause c n) ds) (λ ds s t elements above current all. all) (λ ds s t e does one all. (does_have s t e does one, all)) (λ single. tt)
