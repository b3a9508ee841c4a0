-- In every state of a run the keys of an element live as long as the settings say.
use Rattle.std.proofs.Common.{◌≡◌, ℕ, Bool, true, false, cond, Some, List, [], ◌∷◌, sym, ◌∙◌, ap, subst, refl, arith}
use Rattle.plant_model.specs.Types.{As, NetworkParts, Best, ElementRow}
use Rattle.disclosure.specs.Shown.{open_of}
use Rattle.plant_text.specs.Names.{same_as}
use Rattle.plant_model.specs.Wire.{Codec}
use Rattle.plant_model.specs.Element.{Element}
use Rattle.plant_text.specs.Settings.{class_of, life, life_from, row_of}
use Rattle.plant_model.specs.Settings.{place}
use Rattle.plant_model.specs.Plant.{Pin, Segment, Plant, Entry, Run}
use Rattle.std.specs.Prelude.{◌≤◌, All}
use Rattle.std.proofs.lemmas.List.Elements.{All-head, All-tail}
use Rattle.path_keys.specs.Keys.{Keys, issue_of}
use Rattle.plant_model.specs.Solving.{issued_all}
use Rattle.plant_model.specs.Laws.{IsElement, IsNetwork}
use Rattle.plant_laws.proofs.Keys.KeysKept.{take_keys}
use Rattle.plant_laws.proofs.Runs.TakesKept.{commit_after}
use Rattle.plant_laws.proofs.Runs.ElementsKept.{KeptAlways, run_good}

issued_same : (now : ℕ) (bs : List Best) (keys : Keys Segment) → (issued_all now (λ b. b.segment) bs keys).life ≡ keys.life
issued_same now [] keys = refl
issued_same now (b ∷ bs) keys = issued_same now bs (issue_of keys now b.segment)

module _ (c : Codec) (n : NetworkParts) where
  abbrev Any : As → Pin → Type 0
  Any d pin = Unit {0}

  abbrev Lives : As → Element Pin Segment → Type 0
  Lives d k = k.keys.life ≡ life n d

  kept : KeptAlways c n Any Lives
  kept = record {
    takes = λ d pin p now m k other any old. ap (λ (keys : Keys Segment). keys.life) (take_keys pin p (class_of n p) c open_of (place n d) now m k) ∙ old;
    ups = λ d p k other old. old;
    downs = λ d p k other old. old;
    ticks = λ d now k old. old;
    commits = λ d h down now source_known target_known best k other old.
        commit_after (Lives d) (λ number x is. is) c (place n d) h down now (λ b. b.segment) source_known target_known best (λ bs x is. issued_same now bs x.keys ∙ is) k old;
  }

  some_life : (d : As) (rows : List ElementRow) → All IsElement rows → 1 ≤ life_from (row_of d rows)
  some_life d [] all = omega arith
  some_life d (r ∷ rs) all = go (same_as r.own d) (some_life d rs (All-tail IsElement r rs all))
    where
      go : (b : Bool) → 1 ≤ life_from (row_of d rs) → 1 ≤ life_from (cond b (Some r) (row_of d rs))
      go true more = (All-head IsElement r rs all).life
      go false more = more

  pub run_lives : IsNetwork n → (es : List Entry) (s : Plant) → Run c n es s → (d : As) → 1 ≤ (s.elements d).keys.life
  run_lives net es s run d =
      let good = run_good c n Any Lives kept (record { current = λ d'. tt; elements = λ d'. refl }) (λ s' d' g given old e. tt) es s run in
      subst (λ (y : ℕ). 1 ≤ y) (sym (good.elements d)) (some_life d n.elements net.elements)
