-- Peers that are alike.
use Rattle.std.proofs.Common.{◌≡◌, ◌∙◌, inl, inr, ◌+◌, ◌<◌, ℕ, List, length, take, get_or, ap, refl, sym, subst, arith, Bool, true, false, Some}
use Rattle.std.specs.Prelude.{codes}
use Rattle.std.specs.List.{list_any}
use Rattle.std.proofs.lemmas.Bool.{cases_lt}
use Rattle.std.proofs.lemmas.Option.{slice_get_cases, slice_get_read}
use Rattle.plant_text.specs.declared.fault.NetFault.{NetFault}
use Rattle.plant_text.specs.declared.fault.NetFault.TheVariants.{Duplicate}
use Rattle.plant_text.specs.declared.settings.NetworkParts.{NetworkParts}
use Rattle.plant_text.specs.declared.settings.PeerRow.{PeerRow}
use Rattle.network_files.specs.Meeting.{are_alike}
use Rattle.network_serving.specs.Files.{IsBadText}
use Rattle.network_serving.specs.Ports.{IsFirstRepeat, IsPortFault, IsRefusedPort, has_port, repeats, repeats_in}
use Rattle.network_serving.specs.declared.served.Served.{Served}
use Rattle.network_serving.specs.declared.served.Served.TheVariants as served

module _ (peers : List PeerRow) where
  pub repeat_at : (i : ℕ) (row : PeerRow) (b : Bool) → i < length peers → row ≡ get_or peers i row → list_any (λ (p : PeerRow). are_alike p row) (take i peers) ≡ b → repeats peers i ≡ b
  repeat_at i row b below at is = ap (repeats_in (take i peers)) (slice_get_read peers (length peers) i row refl below at) ∙ is

  -- one more peer is like no earlier one
  pub none_more : (i : ℕ) (row : PeerRow) → i < length peers → row ≡ get_or peers i row → list_any (λ (p : PeerRow). are_alike p row) (take i peers) ≡ false → ((k : ℕ) → k < i → repeats peers k ≡ false) → (k : ℕ) → k < i + 1 → repeats peers k ≡ false
  none_more i row below at is before k less = elim (cases_lt k i) [
    | inl earlier ↦ before k earlier
    | inr later ↦ let same : k ≡ i = omega (arith, less, later) in subst (λ (j : ℕ). repeats peers j ≡ false) (sym same) (repeat_at i row false below at is)
  ]

  -- past the last there is none
  pub none_at_all : ((k : ℕ) → k < length peers → repeats peers k ≡ false) → (k : ℕ) → repeats peers k ≡ false
  none_at_all before k = elim (slice_get_cases peers k).1 [
    | inl inside ↦ before k inside.1
    | inr past ↦ ap (repeats_in (take k peers)) past.1
  ]

-- ---- what is told

module _ (name : List ℕ) (n : NetworkParts) where
  told : (fault : NetFault) (s : Served) → IsPortFault n fault → IsBadText name (λ line other. (line ≡ 0) × (other ≡ fault)) s → IsRefusedPort name n s
  told fault (served.BadNetwork file line other) is bad = (bad.0, bad.1.0, subst (IsPortFault n) (sym bad.1.1) is)
  told fault served.NoMemory is bad = tt
  told fault served.Turns is bad = absurd bad
  told fault served.Stopped is bad = absurd bad
  told fault (served.NoRecord place) is bad = absurd bad
  told fault served.ReadFault is bad = absurd bad
  told fault (served.TooLarge file) is bad = absurd bad
  told fault (served.NoPort port) is bad = absurd bad
  told fault served.NoThread is bad = absurd bad

  pub peer_told : (row : ℕ) (s : Served) → IsFirstRepeat n.peers row → IsBadText name (λ line fault. (line ≡ 0) × (fault ≡ Duplicate (codes "peer") row)) s → IsRefusedPort name n s
  peer_told row s is bad = told (Duplicate (codes "peer") row) s (inl (refl, is)) bad

  pub watch_told : (port : ℕ) (s : Served) → ((k : ℕ) → repeats n.peers k ≡ false) → n.watch ≡ Some port → has_port port n.peers ≡ true → IsBadText name (λ line fault. (line ≡ 0) × (fault ≡ Duplicate (codes "watch") 0)) s → IsRefusedPort name n s
  watch_told port s none is has bad = told (Duplicate (codes "watch") 0) s (inr (refl, refl, none, (port, is, has))) bad
