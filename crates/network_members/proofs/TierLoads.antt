-- What is kept where an element loads a topology, and which jobs can be solved.
use Rattle.std.proofs.Common.{◌≡◌, ℕ, Bool, true, false, cond, Option, Some, None, Result, Ok, Err, List, [], ◌∷◌, ◌++◌, map, refl, sym, ◌∙◌, ap, ap₂, subst}
use mathlib.Core.Path.{fun_ext}
use Rattle.pce_common.specs.plant_model.Types.{As, NetworkParts}
use Rattle.te_links.specs.Rows.{Rows}
use Rattle.plant_text.specs.Names.{same_as, parent_as}
use Rattle.pce_common.specs.plant_model.declared.outcome.Refused.{Refused}
use Rattle.pce_common.specs.plant_model.declared.output.Lost.{Lost}
use Rattle.pce_common.specs.plant_model.Element.{Element}
use Rattle.pce_common.specs.plant_model.Events.{jobs_at, jobs_of, ready_jobs}
use Rattle.pce_common.specs.plant_model.Parent as parent
use Rattle.pce_common.specs.plant_model.Plant.{Pin, Segment}
use Rattle.pce_common.specs.plant_model.State.{State}
use Rattle.pce_common.specs.plant_model.RealWire.{wire}
use Rattle.pce_common.specs.plant_model.Settings.{place}
use Rattle.pce_common.specs.plant_model.Element as element
use Rattle.pce_element.specs.Seen.{Seen, SameButRoom}
use Rattle.network_members.specs.Elements.{own_of, at_domain, with_seen, element_or, elements_in, loaded, LoadsAt, LoadsElement}
use Rattle.network_members.specs.Loading.{Loads}
use Rattle.network_members.specs.Ready.{jobs_in}
use Rattle.network_members.specs.Tiers.{Tiers, AreSet, ArePlaced, lost_or, members_of}
use Rattle.network_members.proofs.DomainLemmas.{found_own, same_as_is, at_with}
use Rattle.network_members.proofs.LoadLemmas.{load_steps}
use Rattle.network_members.proofs.RisingDomains.{AreFound, all_found, element_is}
use Rattle.network_members.proofs.TierLemmas.{owns_with, placed_with, placed_at}

set_same : (t : Tiers Pin Segment) (es : List (Seen Pin Segment)) → AreSet t → es ≡ t.elements → AreSet (record t { elements = es })
set_same t es are is = record { domains = ap (map own_of) is ∙ are.domains; places = subst (ArePlaced t.network) (sym is) are.places; is_family = are.is_family }

pub set_loads : (d : As) (g : Rows) (t : Tiers Pin Segment) (es : List (Seen Pin Segment)) (r : Result ℕ Refused) → AreSet t → LoadsAt (at_domain d t.elements) g t.elements r es → AreSet (record t { elements = es })
set_loads d g t es r are loads = go (at_domain d t.elements) refl r loads
  where
    one : (e : Seen Pin Segment) → at_domain d t.elements ≡ Some e → (x : Result ℕ Refused) → LoadsElement e g t.elements x es → AreSet (record t { elements = es })
    one e found (Err why) h = set_same t es are h.err
    one e found (Ok k) h =
        let x = h.ok.0 in
        let next : x.place ≡ place t.network (own_of x) = ap (λ (y : Seen Pin Segment). y.place) h.ok.1 ∙ placed_at t.network d t.elements e are.places found ∙ ap (λ (y : Seen Pin Segment). place t.network (own_of y)) (sym h.ok.1) in
        record {
          domains = ap (map own_of) h.ok.2 ∙ owns_with x t.elements ∙ are.domains;
          places = subst (ArePlaced t.network) (sym h.ok.2) (placed_with t.network x t.elements are.places next);
          is_family = are.is_family;
        }

    go : (o : Option (Seen Pin Segment)) → at_domain d t.elements ≡ o → (x : Result ℕ Refused) → LoadsAt o g t.elements x es → AreSet (record t { elements = es })
    go None found x h = set_same t es are h.1
    go (Some e) found x h = one e found x h

-- ---- what a load leaves as it was

module _ {A : Type 0} (F : Option (Seen Pin Segment) → A) (d : As) (g : Rows) (same : (e x : Seen Pin Segment) → SameButRoom (loaded g e) x → F (Some x) ≡ F (Some e)) where
  turned : (e x : Seen Pin Segment) (old new : List (Seen Pin Segment)) → at_domain d old ≡ Some e → SameButRoom (loaded g e) x → new ≡ with_seen x old → (d' : As) → F (at_domain d' new) ≡ F (at_domain d' old)
  turned e x old new found is all d' = ap (λ (es : List (Seen Pin Segment)). F (at_domain d' es)) all ∙ ap F (at_with x old e d' there) ∙ go (same_as (own_of x) d') refl
    where
      own : own_of x ≡ d
      own = ap own_of is ∙ found_own d old e found

      there : at_domain (own_of x) old ≡ Some e
      there = ap (λ (a : As). at_domain a old) own ∙ found

      go : (b : Bool) → same_as (own_of x) d' ≡ b → F (cond b (Some x) (at_domain d' old)) ≡ F (at_domain d' old)
      go false other = refl
      go true here = same e x is ∙ ap F (sym there ∙ ap (λ (a : As). at_domain a old) (same_as_is (own_of x) d' here))

  pub each_same : (old new : List (Seen Pin Segment)) (r : Result ℕ Refused) → LoadsAt (at_domain d old) g old r new → (d' : As) → F (at_domain d' new) ≡ F (at_domain d' old)
  each_same old new r loads d' = go (at_domain d old) refl r loads
    where
      one : (e : Seen Pin Segment) → at_domain d old ≡ Some e → (x : Result ℕ Refused) → LoadsElement e g old x new → F (at_domain d' new) ≡ F (at_domain d' old)
      one e found (Err why) h = ap (λ (es : List (Seen Pin Segment)). F (at_domain d' es)) h.err
      one e found (Ok k) h = turned e h.ok.0 old new found h.ok.1 h.ok.2 d'

      go : (o : Option (Seen Pin Segment)) → at_domain d old ≡ o → (x : Result ℕ Refused) → LoadsAt o g old x new → F (at_domain d' new) ≡ F (at_domain d' old)
      go None found x h = ap (λ (es : List (Seen Pin Segment)). F (at_domain d' es)) h.1
      go (Some e) found x h = one e found x h

pub loads : (d : As) (g : Rows) (t : Tiers Pin Segment) (es : List (Seen Pin Segment)) (r : Result ℕ Refused) → AreSet t → LoadsAt (at_domain d t.elements) g t.elements r es → Loads d g t r (record t { elements = es })
loads d g t es r are h = record {
  network = refl;
  lost = fun_ext (λ d'. ap (λ (ls : List Lost). cond (same_as d' parent_as) t.parent.losing.lost ls) (each_same lost_or d g (λ e x is. ap (λ (y : Seen Pin Segment). y.losing.lost) is) t.elements es r h d'));
  elements = fun_ext (λ d'. each_same (element_or t.network t.clock d') d g (λ e x is. ap (λ (y : Seen Pin Segment). y.losing.element) is) t.elements es r h d');
  parent = refl;
  steps = λ s. load_steps wire t.network t.clock d g t.elements s r es (element_is t.network d t.elements are.domains) h;
}

pub loads_as : (d : As) (g : Rows) (t u : Tiers Pin Segment) (r : Result ℕ Refused) (v : Tiers Pin Segment) → t ≡ u → Loads d g t r v → Loads d g u r v
loads_as d g t u r v is h = subst (λ (x : Tiers Pin Segment). Loads d g x r v) is h

module _ {P : Type 0} {S : Type 0} (initial : As → P) where
  -- ---- jobs

  jobs_each : (n : NetworkParts) (clock : ℕ) (s : State P S) (all es : List (Seen P S)) → s.elements ≡ elements_in n clock all → AreFound all es → jobs_of s (map own_of es) ≡ jobs_in es
  jobs_each n clock s all [] is found = refl
  jobs_each n clock s all (e ∷ es) is found =
      ap₂ (λ (a b : List (As × ℕ)). a ++ b)
      (ap (λ (ks : As → Element P S). jobs_at (own_of e) (element.ready_numbers (ks (own_of e)).pending.rows)) is
      ∙ ap (λ (o : Option (Seen P S)). jobs_at (own_of e) (element.ready_numbers (element_or n clock (own_of e) o).pending.rows)) found.0)
      (jobs_each n clock s all es is found.1)

  pub all_ready : (t : Tiers P S) (s : State P S) → AreSet t → s.elements ≡ (members_of initial t).elements → s.parent ≡ (members_of initial t).parent → ready_jobs t.network s ≡ jobs_at parent_as (parent.ready_numbers t.parent.losing.parent.pending.rows) ++ jobs_in t.elements
  all_ready t s are es p =
      ap₂ (λ (a b : List (As × ℕ)). a ++ b)
      (ap (λ (k : parent.Parent). jobs_at parent_as (parent.ready_numbers k.pending.rows)) p)
      (ap (jobs_of s) (sym are.domains) ∙ jobs_each t.network t.clock s t.elements t.elements es (all_found t.network t.elements are.domains))
