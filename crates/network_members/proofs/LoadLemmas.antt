-- An element that loads a topology is the event of the model.
use Rattle.std.proofs.Common.{◌≡◌, ℕ, suc, Bool, true, false, cond, is_some, Option, Some, None, Result, Ok, Err, List, [], ◌∷◌, refl, sym, ◌∙◌, ap, ap₂, subst, inl, inr}
use Rattle.pce_common.specs.plant_model.Types.{As, NetworkParts}
use Rattle.te_links.specs.Rows.{Rows}
use Rattle.plant_text.specs.Settings.{is_element}
use Rattle.pce_common.specs.plant_model.declared.event.Event.TheVariants as event
use Rattle.pce_common.specs.plant_model.declared.outcome.Outcome.TheVariants.{Loaded}
use Rattle.pce_common.specs.plant_model.declared.outcome.Refused.{Refused}
use Rattle.pce_common.specs.plant_model.declared.outcome.Refused.TheVariants.{NoSuchPeer, GenerationsFull}
use Rattle.pce_common.specs.plant_model.Names.{set_as}
use Rattle.pce_common.specs.plant_model.Wire.{Codec}
use Rattle.pce_common.specs.plant_model.Element.{Element}
use Rattle.pce_common.specs.plant_model.State.{Loads}
use Rattle.pce_common.specs.plant_model.Plant.{Pin, Segment, first_pin, Plant, Happened, Steps, load, refused, is_full}
use Rattle.pce_element.specs.Seen.{Seen}
use Rattle.network_members.specs.Elements.{own_of, at_domain, with_seen, element_or, elements_in, current_or, current_in, loaded, LoadsElement, LoadsAt}
use Rattle.network_members.specs.Loading.{answer_of, deeds_of, with_elements}
use Rattle.network_members.proofs.DomainLemmas.{found_own, currents_with, elements_with, set_again}

module _ (c : Codec) (n : NetworkParts) (now : ℕ) (d : As) (g : Rows) (old : List (Seen Pin Segment)) (s : Plant) where
  abbrev before : Plant
  before = with_elements n now old s

  abbrev Claim : Result ℕ Refused → List (Seen Pin Segment) → Type 0
  Claim r new = Steps c n before (event.Load d g) (record { answer = answer_of r; state = with_elements n now new s; deeds = deeds_of d g r })

  -- what the model does, by what is found at the domain
  abbrev by_found : Option (Seen Pin Segment) → Happened
  by_found o =
      cond (is_some o)
      (cond (is_full (current_or first_pin d o).number (element_or n now d o).pending.rows)
      (refused c n GenerationsFull before)
      (record { answer = Ok (Loaded (suc (current_or first_pin d o).number)); state = record before { current = set_as d (record { number = suc (current_or first_pin d o).number; topology = g }) before.current }; deeds = Loads d g ∷ [] }))
      (refused c n NoSuchPeer before)

  abbrev refuses : Refused → List (Seen Pin Segment) → Happened
  refuses w es = record { answer = Err w; state = with_elements n now es s; deeds = [] }

  abbrev loads_new : Seen Pin Segment → Happened
  loads_new e = record { answer = Ok (Loaded (suc e.current.number)); state = record before { current = set_as d (record { number = suc e.current.number; topology = g }) before.current }; deeds = Loads d g ∷ [] }

  is_found : is_element n d ≡ is_some (at_domain d old) → load c n d g before ≡ by_found (at_domain d old)
  is_found known = ap (λ (b : Bool). cond b (cond (is_full (before.current d).number (before.elements d).pending.rows) (refused c n GenerationsFull before) (record { answer = Ok (Loaded (suc (before.current d).number)); state = record before { current = set_as d (record { number = suc (before.current d).number; topology = g }) before.current }; deeds = Loads d g ∷ [] })) (refused c n NoSuchPeer before)) known

  -- the state in which the element has the new topology
  state_with : (e x : Seen Pin Segment) (new : List (Seen Pin Segment)) → at_domain d old ≡ Some e → x ≡ record (loaded g e) { room = x.room } → new ≡ with_seen x old →
      with_elements n now new s ≡ record before { current = set_as d (record { number = suc e.current.number; topology = g }) before.current }
  state_with e x new found same is = ap₂ (λ (es : As → Element Pin Segment) (cs : As → Pin). let t : Plant = record s { elements = es; current = cs } in t) elements currents
    where
      own : own_of x ≡ d
      own = ap own_of same ∙ found_own d old e found

      there : at_domain (own_of x) old ≡ Some e
      there = ap (λ (a : As). at_domain a old) own ∙ found

      currents : current_in first_pin new ≡ set_as d (record { number = suc e.current.number; topology = g }) (current_in first_pin old)
      currents = ap (current_in first_pin) is ∙ currents_with first_pin x old e there ∙ ap₂ (λ (a : As) (p : Pin). set_as a p (current_in first_pin old)) own (ap (λ (y : Seen Pin Segment). y.current) same)

      again : elements_in n now old (own_of x) ≡ x.losing.element
      again = ap (element_or n now (own_of x)) there ∙ sym (ap (λ (y : Seen Pin Segment). y.losing.element) same)

      elements : elements_in n now new ≡ elements_in n now old
      elements = ap (elements_in n now) is ∙ elements_with n now x old e there ∙ set_again (own_of x) x.losing.element (elements_in n now old) again

  pub load_steps : (r : Result ℕ Refused) (new : List (Seen Pin Segment)) → is_element n d ≡ is_some (at_domain d old) → LoadsAt (at_domain d old) g old r new →
      Steps c n before (event.Load d g) (record { answer = answer_of r; state = with_elements n now new s; deeds = deeds_of d g r })
  load_steps r new known loads = go (at_domain d old) refl loads
    where
      model : (o : Option (Seen Pin Segment)) → at_domain d old ≡ o → load c n d g before ≡ by_found o
      model o at = is_found known ∙ ap by_found at

      ok_err : (k : ℕ) (why : Refused) → Ok k ≡ Err why → ⊥
      ok_err k why is = cc

      pick : (e : Seen Pin Segment) → at_domain d old ≡ Some e → (x : Result ℕ Refused) → LoadsElement e g old x new → (b : Bool) → is_full e.current.number e.losing.element.pending.rows ≡ b → Claim x new
      pick e at (Ok k) h true full = absurd (ok_err k GenerationsFull (h.full.1 full))
      pick e at (Ok k) h false full =
          inl (ap₂ (λ (m : ℕ) (t : Plant). let z : Happened = record { answer = Ok (Loaded m); state = t; deeds = Loads d g ∷ [] } in z) h.number (state_with e h.ok.0 new at h.ok.1 h.ok.2)
          ∙ sym (model (Some e) at ∙ ap (λ (z : Bool). cond z (refused c n GenerationsFull before) (loads_new e)) full))
      pick e at (Err why) h b full = elim (h.why why refl) [ inl is ↦ inl (ap₂ refuses is h.err ∙ sym (model (Some e) at ∙ ap (λ (z : Bool). cond z (refused c n GenerationsFull before) (loads_new e)) (h.full.0 (ap (λ (w : Refused). let x : Result ℕ Refused = Err w in x) is)))) | inr is ↦ inr (refl, ap₂ refuses is h.err) ]

      go : (o : Option (Seen Pin Segment)) → at_domain d old ≡ o → LoadsAt o g old r new → Claim r new
      go None at h =
          subst (λ (x : Result ℕ Refused). Claim x new) (sym h.0)
          (inl (ap (refuses NoSuchPeer) h.1 ∙ sym (model None at)))
      go (Some e) at h = pick e at r h (is_full e.current.number e.losing.element.pending.rows) refl
