-- The current topology of an element, by its domain.
use Rattle.std.proofs.Common.{◌≡◌, ◌∙◌, Option, Some, None, is_some, map, sym, subst, ap, refl}
use Rattle.std.specs.Option.{option_map}
use Rattle.pce_common.specs.plant_model.Types.{As}
use Rattle.plant_text.specs.Settings.{elements_of}
use Rattle.pce_common.specs.plant_model.Plant.{Pin, Segment, first_pin}
use Rattle.pce_element.specs.Seen.{Seen}
use Rattle.network_members.specs.Current.{IsCurrent}
use Rattle.network_members.specs.Elements.{at_domain, current_or, own_of}
use Rattle.network_members.specs.Tiers.{Tiers, members_of}
use Rattle.network_members.proofs.RisingDomains.{element_is}

pub current_is : (t : Tiers Pin Segment) (d : As) (found : Option Pin) → map own_of t.elements ≡ elements_of t.network.elements → found ≡ option_map (λ (e : Seen Pin Segment). e.current) (at_domain d t.elements) → IsCurrent t.network (members_of first_pin t).current d found
current_is t d found along is = go (at_domain d t.elements) refl
  where
    go : (x : Option (Seen Pin Segment)) → at_domain d t.elements ≡ x → IsCurrent t.network (members_of first_pin t).current d found
    go None e =
        subst (λ (p : Option Pin). IsCurrent t.network (members_of first_pin t).current d p) (sym (is ∙ ap (λ (y : Option (Seen Pin Segment)). option_map (λ (s : Seen Pin Segment). s.current) y) e))
        (element_is t.network d t.elements along ∙ ap (λ (y : Option (Seen Pin Segment)). is_some y) e)
    go (Some x) e =
        subst (λ (p : Option Pin). IsCurrent t.network (members_of first_pin t).current d p) (sym (is ∙ ap (λ (y : Option (Seen Pin Segment)). option_map (λ (s : Seen Pin Segment). s.current) y) e))
        (element_is t.network d t.elements along ∙ ap (λ (y : Option (Seen Pin Segment)). is_some y) e, sym (ap (current_or first_pin d) e))
