-- What waits stays under way when a link breaks: both ends go down, and its queues are emptied.
use Rattle.std.proofs.Common.{◌≡◌, ◌⊎◌, ℕ, Bool, true, false, cond, List, [], ◌∷◌, ◌++◌, sym, ◌∙◌, ap, subst, inl, inr, refl}
use Rattle.std.proofs.lemmas.Bool.{cases_Bool, eq-eqb}
use Rattle.plant_model.specs.Types.{As, Peer, Inner, Message, NetworkParts}
use Rattle.disclosure.specs.Shown.{open_of}
use Rattle.request_table.specs.Pending.{same_peer}
use Rattle.plant_model.specs.declared.output.Output.{Output}
use Rattle.plant_text.specs.Names.{same_as, same_link, parent_as}
use Rattle.plant_model.specs.Names.{set_as}
use Rattle.plant_model.specs.Wire.{Codec}
use Rattle.plant_model.specs.Element as element
use Rattle.plant_model.specs.Element.{downed}
use Rattle.plant_model.specs.Parent as parent
use Rattle.plant_model.specs.State.{Downs, Clears}
use Rattle.plant_text.specs.Settings.{Adjacency}
use Rattle.plant_model.specs.Deeds.{Going, with_parent, with_element, puts, fall}
use Rattle.plant_model.specs.Plant.{Pin, Segment}
use Rattle.plant_laws.specs.Transcript.{Transcript, Standing, standing, put_into}
use Rattle.plant_laws.specs.Standing.{messages as messages_in}
use Rattle.plant_laws.proofs.Runs.Decompose.{nil_right}
use Rattle.plant_laws.proofs.Runs.Queues.{same_as_is}
use Rattle.plant_laws.proofs.Once.Handing.{In}
use Rattle.plant_laws.proofs.Once.Opened.{puts_elements, puts_parent}
use Rattle.plant_laws.proofs.Runs.Trips.{broken}
use Rattle.plant_laws.proofs.Once.Leaving as lower
use Rattle.plant_laws.proofs.Once.Leaving.{In-front, In-back, Answers, Answered}
use Rattle.plant_laws.proofs.Once.LeavingUpper as upper
use Rattle.plant_laws.proofs.Numbering.TakenUpper as taken_up
use Rattle.plant_laws.proofs.Settled.UnderWay.{Queues, AllAlive, link_alive, In-put, queues_at, queue_now}
use Rattle.plant_laws.proofs.Runs.NodeMoves.{Elements, named_of, waits_of, ElementWaits, ParentWaits}
use Rattle.plant_laws.proofs.Once.Asks.{Asks}
use Rattle.plant_laws.proofs.Settled.Alive.{Core, IsAlive}

as_self : (d : As) → same_as d d ≡ true
as_self d = eq-eqb d.0 d.0 refl

peers_apart : (a q : As) → (a ≡ q → ⊥) → same_peer (Inner a) (Inner q) ≡ false
peers_apart a q apart = elim (cases_Bool (same_as a q)) [ inl hit ↦ absurd (apart (same_as_is a q hit)) | inr miss ↦ miss ]

module _ (c : Codec) (n : NetworkParts) where
  abbrev Named : Core → As → As → ℕ → List As → Type 0
  Named s b a id l = named_of s.elements s.parent b (Inner a) id l

  abbrev Waits : Core → As → As → ℕ → List As → Type 0
  Waits s a b id l = waits_of s.elements s.parent a b id l

  abbrev IsAnswered : Transcript → As → As → ℕ → Type 0
  IsAnswered ds b a id = (m : Message) × In m (queues_at ds b a) × Answers id m

  -- the session of q goes down at an element, or at the parent
  pub record Falls (at q : As) (ds : Transcript) (s : Core) (ds' : Transcript) (t : Core) : Type 0 where
    pub waits : (a b : As) (id : ℕ) (l : List As) → Waits t a b id l → Waits s a b id l × (a ≡ at → b ≡ q → ⊥)
    pub named : (a b : As) (id : ℕ) (l : List As) → (b ≡ at → a ≡ q → ⊥) → Named s b a id l → Named t b a id l ⊎ IsAnswered ds' b a id
    pub kept : (a b : As) (m : Message) → In m (queues_at ds a b) → In m (queues_at ds' a b)

  downs_keep : (at : As) (p : Peer) (os : List Output) (ds : Transcript) (a b : As) (m : Message) → In m (queues_at ds a b) → In m (queues_at (Downs at p os ∷ ds) a b)
  downs_keep at p os ds a b m h =
      subst (λ (l : List Message). In m l) (sym (queue_now at os ds (Downs at p os) (λ a'. refl) (λ a' b' xs. refl) a b)) (In-front m (queues_at ds a b) (cond (same_as at a) (put_into b os) []) h)

  downs_answer : (at : As) (p : Peer) (os : List Output) (ds : Transcript) (a : As) (id : ℕ) → Answered (Inner a) id os → IsAnswered (Downs at p os ∷ ds) at a id
  downs_answer at p os ds a id h = (
    h.0,
    subst (λ (l : List Message). In h.0 l) (sym (queue_now at os ds (Downs at p os) (λ a'. refl) (λ a' b' xs. refl) at a))
        (In-back h.0 (queues_at ds at a) (cond (same_as at at) (put_into a os) []) (subst (λ (x : Bool). In h.0 (cond x (put_into a os) [])) (sym (as_self at)) (In-put a h.0 os h.1))),
    h.2,
  )

  -- states by their parts
  falls_state : (at q : As) (ds ds' : Transcript) (s t u : Core) → u.elements ≡ t.elements → u.parent ≡ t.parent → Falls at q ds s ds' t → Falls at q ds s ds' u
  falls_state at q ds ds' s t u elements above f = record {
    waits = λ a b id l h. f.waits a b id l
        (subst (λ (E : Elements). waits_of E t.parent a b id l) elements (subst (λ (k : parent.Parent). waits_of u.elements k a b id l) above h));
    named = λ a b id l apart h. elim (f.named a b id l apart h) [
      | inl stays ↦ inl (subst (λ (E : Elements). named_of E u.parent b (Inner a) id l) (sym elements) (subst (λ (k : parent.Parent). named_of t.elements k b (Inner a) id l) (sym above) stays))
      | inr answer ↦ inr answer
    ];
    kept = f.kept;
  }

  element_falls : (at q : As) (s : Core) (ds : Transcript) → same_as at parent_as ≡ false →
      (let r = downed (Inner q) (s.elements at) in Falls at q ds s (Downs at (Inner q) r.outputs ∷ ds) (with_element Pin Segment c n open_of at r.element s))
  element_falls at q s ds real = record {
    waits = λ a b id l h. waits a b id l h (cases_Bool (same_as a parent_as)) (cases_Bool (same_as at a));
    named = λ a b id l apart h. named a b id l apart h (cases_Bool (same_as b parent_as)) (cases_Bool (same_as at b));
    kept = λ a b m h. downs_keep at (Inner q) (downed (Inner q) (s.elements at)).outputs ds a b m h;
  }
    where
      waits : (a b : As) (id : ℕ) (l : List As) → waits_of (set_as at (downed (Inner q) (s.elements at)).element s.elements) s.parent a b id l →
          (same_as a parent_as ≡ true) ⊎ (same_as a parent_as ≡ false) → (same_as at a ≡ true) ⊎ (same_as at a ≡ false) → Waits s a b id l × (a ≡ at → b ≡ q → ⊥)
      waits a b id l h (inl up) own = (
        subst (λ (x : Bool). cond x (ParentWaits s.parent b id l) (ElementWaits (s.elements a) b id l)) (sym up)
            (subst (λ (x : Bool). cond x (ParentWaits s.parent b id l) (ElementWaits (set_as at (downed (Inner q) (s.elements at)).element s.elements a) b id l)) up h),
        λ same peer. (let clash : true ≡ false = sym up ∙ ap (λ (z : As). same_as z parent_as) same ∙ real in cc),
      )
      waits a b id l h (inr low) (inr other) = (
        subst (λ (x : Bool). cond (same_as a parent_as) (ParentWaits s.parent b id l) (ElementWaits (cond x (downed (Inner q) (s.elements at)).element (s.elements a)) b id l)) other h,
        λ same peer. (let clash : true ≡ false = sym (as_self at) ∙ ap (λ (z : As). same_as at z) (sym same) ∙ other in cc),
      )
      waits a b id l h (inr low) (inl own) =
          let w : ElementWaits (downed (Inner q) (s.elements at)).element b id l =
          subst (λ (x : Bool). ElementWaits (cond x (downed (Inner q) (s.elements at)).element (s.elements a)) b id l) own
          (subst (λ (x : Bool). cond x (ParentWaits s.parent b id l) (ElementWaits (set_as at (downed (Inner q) (s.elements at)).element s.elements a) b id l)) low h) in
          let r = lower.filter_was Pin Segment (element.stays (Inner q)) (s.elements at).pending.rows w.1.0 w.1.1 in
          let is : at ≡ a = same_as_is at a own in (
            subst (λ (x : Bool). cond x (ParentWaits s.parent b id l) (ElementWaits (s.elements a) b id l)) (sym low)
                (subst (λ (z : As). ElementWaits (s.elements z) b id l) is (w.0, (w.1.0, r.0, w.1.2, w.1.3), w.2)),
            λ same peer. lower.downed_over Pin Segment (Inner q) (s.elements at) id w.0 (subst (λ (z : As). lower.WaitsFor Pin Segment (downed (Inner q) (s.elements at)).element (Inner z) id w.0) peer w.1),
          )

      named : (a b : As) (id : ℕ) (l : List As) → (b ≡ at → a ≡ q → ⊥) → Named s b a id l → (same_as b parent_as ≡ true) ⊎ (same_as b parent_as ≡ false) → (same_as at b ≡ true) ⊎ (same_as at b ≡ false) →
          named_of (set_as at (downed (Inner q) (s.elements at)).element s.elements) s.parent b (Inner a) id l ⊎ IsAnswered (Downs at (Inner q) (downed (Inner q) (s.elements at)).outputs ∷ ds) b a id
      named a b id l apart h (inl up) own =
          inl (subst (λ (x : Bool). cond x (upper.Named s.parent (Inner a) id) (lower.Named Pin Segment (set_as at (downed (Inner q) (s.elements at)).element s.elements b) (Inner a) id l)) (sym up)
          (subst (λ (x : Bool). cond x (upper.Named s.parent (Inner a) id) (lower.Named Pin Segment (s.elements b) (Inner a) id l)) up h))
      named a b id l apart h (inr low) (inr other) =
          inl (subst (λ (x : Bool). cond (same_as b parent_as) (upper.Named s.parent (Inner a) id) (lower.Named Pin Segment (cond x (downed (Inner q) (s.elements at)).element (s.elements b)) (Inner a) id l)) (sym other) h)
      named a b id l apart h (inr low) (inl own) =
          let is : at ≡ b = same_as_is at b own in
          let before : lower.Named Pin Segment (s.elements at) (Inner a) id l =
          subst (λ (z : As). lower.Named Pin Segment (s.elements z) (Inner a) id l) (sym is)
          (subst (λ (x : Bool). cond x (upper.Named s.parent (Inner a) id) (lower.Named Pin Segment (s.elements b) (Inner a) id l)) low h) in
          elim ((lower.downed_moves Pin Segment (Inner a) (Inner q) (s.elements at) (peers_apart a q (apart (sym is)))).left id l before) [
            | inl stays ↦
                inl (subst (λ (x : Bool). cond x (upper.Named s.parent (Inner a) id) (lower.Named Pin Segment (set_as at (downed (Inner q) (s.elements at)).element s.elements b) (Inner a) id l)) (sym low)
                (subst (λ (x : Bool). lower.Named Pin Segment (cond x (downed (Inner q) (s.elements at)).element (s.elements b)) (Inner a) id l) (sym own) stays))
            | inr answer ↦
                inr (subst (λ (z : As). IsAnswered (Downs at (Inner q) (downed (Inner q) (s.elements at)).outputs ∷ ds) z a id) is
                (downs_answer at (Inner q) (downed (Inner q) (s.elements at)).outputs ds a id answer))
          ]

  parent_falls : (q : As) (s : Core) (ds : Transcript) →
      (let r = parent.downed (Inner q) s.parent in Falls parent_as q ds s (Downs parent_as (Inner q) r.outputs ∷ ds) (with_parent Pin Segment c n open_of r.parent s))
  parent_falls q s ds = record {
    waits = λ a b id l h. waits a b id l h (cases_Bool (same_as a parent_as));
    named = λ a b id l apart h. named a b id l apart h (cases_Bool (same_as b parent_as));
    kept = λ a b m h. downs_keep parent_as (Inner q) (parent.downed (Inner q) s.parent).outputs ds a b m h;
  }
    where
      waits : (a b : As) (id : ℕ) (l : List As) → waits_of s.elements (parent.downed (Inner q) s.parent).parent a b id l →
          (same_as a parent_as ≡ true) ⊎ (same_as a parent_as ≡ false) → Waits s a b id l × (a ≡ parent_as → b ≡ q → ⊥)
      waits a b id l h (inr low) = (
        subst (λ (x : Bool). cond x (ParentWaits s.parent b id l) (ElementWaits (s.elements a) b id l)) (sym low)
            (subst (λ (x : Bool). cond x (ParentWaits (parent.downed (Inner q) s.parent).parent b id l) (ElementWaits (s.elements a) b id l)) low h),
        λ same peer. (let clash : true ≡ false = sym (as_self parent_as) ∙ ap (λ (z : As). same_as z parent_as) (sym same) ∙ low in cc),
      )
      waits a b id l h (inl up) =
          let w : ParentWaits (parent.downed (Inner q) s.parent).parent b id l =
          subst (λ (x : Bool). cond x (ParentWaits (parent.downed (Inner q) s.parent).parent b id l) (ElementWaits (s.elements a) b id l)) up h in
          let r = lower.filter_was Pin Segment (parent.stays (Inner q)) s.parent.pending.rows w.1.0 w.1.1 in (
            subst (λ (x : Bool). cond x (ParentWaits s.parent b id l) (ElementWaits (s.elements a) b id l)) (sym up) (w.0, (w.1.0, r.0, w.1.2), w.2, w.3, w.4),
            λ same peer. taken_up.downed_over (Inner q) s.parent w.0 w.1 (w.2 ∙ ap (λ (z : As). Inner z) peer),
          )

      named : (a b : As) (id : ℕ) (l : List As) → (b ≡ parent_as → a ≡ q → ⊥) → Named s b a id l → (same_as b parent_as ≡ true) ⊎ (same_as b parent_as ≡ false) →
          named_of s.elements (parent.downed (Inner q) s.parent).parent b (Inner a) id l ⊎ IsAnswered (Downs parent_as (Inner q) (parent.downed (Inner q) s.parent).outputs ∷ ds) b a id
      named a b id l apart h (inr low) =
          inl (subst (λ (x : Bool). cond x (upper.Named (parent.downed (Inner q) s.parent).parent (Inner a) id) (lower.Named Pin Segment (s.elements b) (Inner a) id l)) (sym low)
          (subst (λ (x : Bool). cond x (upper.Named s.parent (Inner a) id) (lower.Named Pin Segment (s.elements b) (Inner a) id l)) low h))
      named a b id l apart h (inl up) =
          let is : b ≡ parent_as = same_as_is b parent_as up in
          let before : upper.Named s.parent (Inner a) id = subst (λ (x : Bool). cond x (upper.Named s.parent (Inner a) id) (lower.Named Pin Segment (s.elements b) (Inner a) id l)) up h in
          elim ((taken_up.downed_moves (Inner a) (Inner q) s.parent (peers_apart a q (apart is))).left id before) [
            | inl stays ↦ inl (subst (λ (x : Bool). cond x (upper.Named (parent.downed (Inner q) s.parent).parent (Inner a) id) (lower.Named Pin Segment (s.elements b) (Inner a) id l)) (sym up) stays)
            | inr answer ↦
                inr (subst (λ (z : As). IsAnswered (Downs parent_as (Inner q) (parent.downed (Inner q) s.parent).outputs ∷ ds) z a id) (sym is)
                (downs_answer parent_as (Inner q) (parent.downed (Inner q) s.parent).outputs ds a id answer))
          ]

  abbrev IsFall : As → As → Transcript → Transcript → Core → Going Pin Segment → Type 0
  IsFall at q es ds s g = Falls at q (es ++ ds) s (g.deeds ++ ds) g.state

  fall_pick : (at q : As) (es ds : Transcript) (s : Core) (b : Bool) (g h : Going Pin Segment) → (b ≡ true → IsFall at q es ds s g) → (b ≡ false → IsFall at q es ds s h) → IsFall at q es ds s (cond b g h)
  fall_pick at q es ds s true g h x y = x refl
  fall_pick at q es ds s false g h x y = y refl

  pub fall_falls : (at q : As) (s : Core) (es ds : Transcript) → IsFall at q es ds s (fall Pin Segment c n open_of at (Inner q) (record { state = s; deeds = es }))
  fall_falls at q s es ds =
      let r = parent.downed (Inner q) s.parent in
      let t = downed (Inner q) (s.elements at) in
      let u = with_parent Pin Segment c n open_of r.parent s in
      let v = with_element Pin Segment c n open_of at t.element s in
      fall_pick at q es ds s (same_as at parent_as)
      (record { state = puts Pin Segment c n open_of at r.outputs u; deeds = Downs at (Inner q) r.outputs ∷ es })
      (record { state = puts Pin Segment c n open_of at t.outputs v; deeds = Downs at (Inner q) t.outputs ∷ es })
      (λ up.
      subst (λ (z : As). Falls z q (es ++ ds) s (Downs z (Inner q) r.outputs ∷ (es ++ ds)) (puts Pin Segment c n open_of z r.outputs u)) (sym (same_as_is at parent_as up))
      (falls_state parent_as q (es ++ ds) (Downs parent_as (Inner q) r.outputs ∷ (es ++ ds)) s u (puts Pin Segment c n open_of parent_as r.outputs u) (puts_elements c n parent_as r.outputs u) (puts_parent c n parent_as r.outputs u) (parent_falls q s (es ++ ds))))
      (λ low.
      falls_state at q (es ++ ds) (Downs at (Inner q) t.outputs ∷ (es ++ ds)) s v (puts Pin Segment c n open_of at t.outputs v) (puts_elements c n at t.outputs v) (puts_parent c n at t.outputs v) (element_falls at q s (es ++ ds) low))

  -- ---- the link

  link_apart : (one other a b : As) → (a ≡ one → b ≡ other → ⊥) → (a ≡ other → b ≡ one → ⊥) → same_link one other a b ≡ false
  link_apart one other a b h h' = go (same_as one a) (same_as other b) (same_as one b) (same_as other a) refl refl refl refl
    where
      go : (x y z w : Bool) → same_as one a ≡ x → same_as other b ≡ y → same_as one b ≡ z → same_as other a ≡ w → cond x y (cond z w false) ≡ false
      go true true z w e f g i = absurd (h (sym (same_as_is one a e)) (sym (same_as_is other b f)))
      go true false z w e f g i = refl
      go false y true true e f g i = absurd (h' (sym (same_as_is other a i)) (sym (same_as_is one b g)))
      go false y true false e f g i = refl
      go false y false w e f g i = refl

  link_first : (one other : As) → same_link one other one other ≡ true
  link_first one other = ap (λ (x : Bool). cond x (same_as other other) (cond (same_as one other) (same_as other one) false)) (as_self one) ∙ as_self other

  link_second : (one other : As) → same_link one other other one ≡ true
  link_second one other = go (same_as one other) refl
    where
      go : (x : Bool) → same_as one other ≡ x → cond x (same_as other one) (cond (same_as one one) (same_as other other) false) ≡ true
      go true e = ap (λ (z : As). same_as other z) (same_as_is one other e) ∙ as_self other
      go false e = ap (λ (x : Bool). cond x (same_as other other) false) (as_self one) ∙ as_self other

  not_first : (one other a b : As) → same_link one other a b ≡ false → a ≡ one → b ≡ other → ⊥
  not_first one other a b apart is is' =
      let clash : true ≡ false = sym (link_first one other) ∙ ap (λ (z : As). same_link one other z other) (sym is) ∙ ap (λ (z : As). same_link one other a z) (sym is') ∙ apart in cc

  not_second : (one other a b : As) → same_link one other a b ≡ false → a ≡ other → b ≡ one → ⊥
  not_second one other a b apart is is' =
      let clash : true ≡ false = sym (link_second one other) ∙ ap (λ (z : As). same_link one other z one) (sym is) ∙ ap (λ (z : As). same_link one other a z) (sym is') ∙ apart in cc

  clears_keep : (one other : As) (ds : Transcript) (a b : As) (m : Message) → same_link one other a b ≡ false → In m (queues_at ds a b) → In m (queues_at (Clears one other ∷ ds) a b)
  clears_keep one other ds a b m apart h =
      subst (λ (x : Bool). In m (messages_in (cond x [] (standing a b ds) ++ []))) (sym apart) (subst (λ (l : List Standing). In m (messages_in l)) (sym (nil_right (standing a b ds))) h)

  -- a link breaks, and a message of it may have been taken before
  pub broken_alive : (x : Adjacency) (s : Core) (queues : Queues) (es ds : Transcript) →
      ((a b : As) (m : Message) → same_link x.lower x.upper a b ≡ false → In m (queues a b) → In m (queues_at (es ++ ds) a b)) →
      AllAlive (Asks c) (named_of s.elements s.parent) (waits_of s.elements s.parent) queues →
      (let g = broken c n x (record { state = s; deeds = es }) in IsAlive c n (g.deeds ++ ds) g.state)
  broken_alive x s queues es ds passes alive =
      let f = fall Pin Segment c n open_of x.lower (Inner x.upper) (record { state = s; deeds = es }) in
      let h = fall Pin Segment c n open_of x.upper (Inner x.lower) f in
      let one = fall_falls x.lower x.upper s es ds in
      let two = fall_falls x.upper x.lower f.state f.deeds ds in
      link_alive (Asks c) x.lower x.upper (named_of s.elements s.parent) (named_of h.state.elements h.state.parent) (waits_of s.elements s.parent) (waits_of h.state.elements h.state.parent) queues
      (queues_at (Clears x.lower x.upper ∷ (h.deeds ++ ds)))
      (record {
        old = λ a b id l w.
            let second = two.waits a b id l w in
            let first = one.waits a b id l second.0 in
            (first.0, link_apart x.lower x.upper a b first.1 second.1);
        stays = λ a b id l apart named.
            let back = turned a b apart in
            elim (one.named a b id l (not_first x.lower x.upper b a back) named) [
              | inr answer ↦ inr (answer.0, clears_keep x.lower x.upper (h.deeds ++ ds) b a answer.0 back (two.kept b a answer.0 answer.1), answer.2)
              | inl still ↦
                  elim (two.named a b id l (not_second x.lower x.upper b a back) still) [
                    | inl stays ↦ inl stays
                    | inr answer ↦ inr (answer.0, clears_keep x.lower x.upper (h.deeds ++ ds) b a answer.0 back answer.1, answer.2)
                  ]
            ];
        kept = λ a b m apart in'. clears_keep x.lower x.upper (h.deeds ++ ds) a b m apart (two.kept a b m (one.kept a b m (passes a b m apart in')));
        turned = turned;
      }) alive
    where
      turned : (a b : As) → same_link x.lower x.upper a b ≡ false → same_link x.lower x.upper b a ≡ false
      turned a b apart = link_apart x.lower x.upper b a (λ is is'. not_second x.lower x.upper a b apart is' is) (λ is is'. not_first x.lower x.upper a b apart is' is)
