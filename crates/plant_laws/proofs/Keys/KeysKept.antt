-- An element that is given a message keeps its keys.
use Rattle.std.proofs.Common.{◌≡◌, ℕ, List, refl}
use Rattle.plant_model.specs.Types.{Peer, Hop, Message, Class}
use Rattle.path_keys.specs.Keys.{Keys}
use Rattle.plant_model.specs.Wire.{Codec}
use Rattle.plant_model.specs.Element.{Element, ElementSettings}
use Rattle.plant_model.specs.Taking.{take}
use Rattle.plant_laws.proofs.Runs.TakesKept.{take_after}

module _ {P : Type 0} {S : Type 0} where
  abbrev Has : Keys S → Element P S → Type 0
  Has keys k = k.keys ≡ keys

  pub take_keys : (pin : P) (p : Peer) (class : Class) (c : Codec) (show : S → List Hop) (e : ElementSettings) (now : ℕ) (m : Message) (k : Element P S) → (take c show e pin p class now m k).element.keys ≡ k.keys
  take_keys pin p class c show e now m k =
      take_after (Has k.keys) (λ number x same. same) c e pin p class show now m (λ none a r w is wish. record { ready = λ own x same. same; sent = λ sequence on y x same. same })
      (λ r paths h x i below found tells same. same) k refl
