-- The drawn settings are a network of the model.
use Rattle.std.proofs.Common.{◌≡◌, ◌≢◌, ◌<◌, ◌≤◌, ℕ, ◌+◌, true, is_some, [], ◌∷◌, refl, ap, arith, subst}
use Rattle.std.specs.List.{AllPairs}
use Rattle.std.proofs.lemmas.List.Elements.{All-nil, All-cons}
use Rattle.std.proofs.lemmas.List.Kept.{AllPairs-cons}
use Rattle.client_laws.specs.plant_model.Types.{As, ElementRow, PeerRow}
use Rattle.plant_text.specs.Settings.{is_element}
use Rattle.client_laws.specs.plant_model.Laws.{IsElement, IsNetwork, IsParentLink, LeadApart, LeadsOut}
use Rattle.client_laws.proofs.run_laws.TextLemmas.ModelledNetworks.{with_client}
use Rattle.network_files.specs.DrawnSettings.{element, link, settings}
use Rattle.plant_client.specs.Bulk.{first_domain, network}

abbrev Differ : ElementRow → ElementRow → Type 0
Differ a b = (a.own ≢ b.own) × (a.id ≢ b.id)

abbrev LinksDiffer : As × As → As × As → Type 0
LinksDiffer p q = ((p.0 ≡ q.0) × (p.1 ≡ q.1) → ⊥) × ((p.0 ≡ q.1) × (p.1 ≡ q.0) → ⊥)

as_differ : (m n : ℕ) → (m ≡ n → ⊥) → (a b : As) → a.0 ≡ m → b.0 ≡ n → a ≢ b
as_differ m n other a b is_a is_b same = other (subst (λ (k : ℕ). k ≡ n) is_a (subst (λ (k : ℕ). a.0 ≡ k) is_b (ap (λ (x : As). x.0) same)))

elements_differ : (a b : ℕ) → (a ≡ b → ⊥) → Differ (element a) (element b)
elements_differ a b other =
    (as_differ a b other (element a).own (element b).own refl refl, λ same. other (apart same))
  where
    apart : (element a).id ≡ (element b).id → a ≡ b
    apart same = let sums : 3221225984 + a ≡ 3221225984 + b = cc in omega (arith, sums)

links_differ : (a b : ℕ) → a < b → LinksDiffer (link a) (link b)
links_differ a b less = (
  λ same. as_differ a b (λ e. omega (arith, e, less)) (link a).0 (link b).0 refl refl same.0,
  λ same. as_differ (a + 1) b (λ e. crossed same.0 e) (link a).1 (link b).0 refl refl same.1,
)
  where
    crossed : (link a).0 ≡ (link b).1 → a + 1 ≡ b → ⊥
    crossed same e = as_differ a (b + 1) (λ f. omega (arith, f, less)) (link a).0 (link b).1 refl refl same

no_pairs : {X : Type 0} (R : X → X → Type 0) → AllPairs R []
no_pairs R i j d before within = absurd (omega (arith, within))

an_element : (d : ℕ) → 1 ≤ d → d < 256 → IsElement (element d)
an_element d real few = record {
  real = real;
  own = omega (arith, few);
  id = omega (arith, few);
  life = omega arith;
  life_most = omega arith;
}

settings_modelled : IsNetwork settings
settings_modelled = record {
  elements_differ =
      AllPairs-cons Differ (element 1) (element 2 ∷ element 3 ∷ element 4 ∷ [])
      (All-cons (Differ (element 1)) (element 2) (element 3 ∷ element 4 ∷ []) (elements_differ 1 2 (λ e. omega (arith, e)))
      (All-cons (Differ (element 1)) (element 3) (element 4 ∷ []) (elements_differ 1 3 (λ e. omega (arith, e)))
      (All-cons (Differ (element 1)) (element 4) [] (elements_differ 1 4 (λ e. omega (arith, e))) (All-nil (Differ (element 1))))))
      (AllPairs-cons Differ (element 2) (element 3 ∷ element 4 ∷ [])
      (All-cons (Differ (element 2)) (element 3) (element 4 ∷ []) (elements_differ 2 3 (λ e. omega (arith, e)))
      (All-cons (Differ (element 2)) (element 4) [] (elements_differ 2 4 (λ e. omega (arith, e))) (All-nil (Differ (element 2)))))
      (AllPairs-cons Differ (element 3) (element 4 ∷ [])
      (All-cons (Differ (element 3)) (element 4) [] (elements_differ 3 4 (λ e. omega (arith, e))) (All-nil (Differ (element 3))))
      (AllPairs-cons Differ (element 4) [] (All-nil (Differ (element 4))) (no_pairs Differ))));
  elements =
      All-cons IsElement (element 1) (element 2 ∷ element 3 ∷ element 4 ∷ []) (an_element 1 (omega arith) (omega arith))
      (All-cons IsElement (element 2) (element 3 ∷ element 4 ∷ []) (an_element 2 (omega arith) (omega arith))
      (All-cons IsElement (element 3) (element 4 ∷ []) (an_element 3 (omega arith) (omega arith))
      (All-cons IsElement (element 4) [] (an_element 4 (omega arith) (omega arith)) (All-nil IsElement))));
  few = omega arith;
  has_parent =
      let P : ElementRow → Type 0 = λ a. a.parent ≡ true → is_some settings.parent ≡ true in
      All-cons P (element 1) (element 2 ∷ element 3 ∷ element 4 ∷ []) (λ e. absurd (cc))
      (All-cons P (element 2) (element 3 ∷ element 4 ∷ []) (λ e. absurd (cc))
      (All-cons P (element 3) (element 4 ∷ []) (λ e. absurd (cc))
      (All-cons P (element 4) [] (λ e. absurd (cc)) (All-nil P))));
  links =
      let P : As × As → Type 0 = λ p. (is_element settings p.0 ≡ true) × (is_element settings p.1 ≡ true) × (p.0 ≢ p.1) in
      All-cons P (link 1) (link 2 ∷ link 3 ∷ []) (refl, refl, as_differ 1 2 (λ e. omega (arith, e)) (link 1).0 (link 1).1 refl refl)
      (All-cons P (link 2) (link 3 ∷ []) (refl, refl, as_differ 2 3 (λ e. omega (arith, e)) (link 2).0 (link 2).1 refl refl)
      (All-cons P (link 3) [] (refl, refl, as_differ 3 4 (λ e. omega (arith, e)) (link 3).0 (link 3).1 refl refl) (All-nil P)));
  links_differ =
      AllPairs-cons LinksDiffer (link 1) (link 2 ∷ link 3 ∷ [])
      (All-cons (LinksDiffer (link 1)) (link 2) (link 3 ∷ []) (links_differ 1 2 (omega arith))
      (All-cons (LinksDiffer (link 1)) (link 3) [] (links_differ 1 3 (omega arith)) (All-nil (LinksDiffer (link 1)))))
      (AllPairs-cons LinksDiffer (link 2) (link 3 ∷ [])
      (All-cons (LinksDiffer (link 2)) (link 3) [] (links_differ 2 3 (omega arith)) (All-nil (LinksDiffer (link 2))))
      (AllPairs-cons LinksDiffer (link 3) [] (All-nil (LinksDiffer (link 3))) (no_pairs LinksDiffer)));
  peers = All-nil (λ (r : PeerRow). is_element settings r.at ≡ true);
  downs = All-nil (LeadsOut settings);
  downs_differ = no_pairs LeadApart;
  few_parent_links = omega arith;
  parent_links = All-nil IsParentLink;
  parent_links_differ = λ i j d before within. absurd (omega (arith, within));
}

pub network_modelled : IsNetwork network
network_modelled = with_client settings first_domain settings_modelled refl
