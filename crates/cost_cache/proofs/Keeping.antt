-- Entries that are looked up and put.
use Rattle.std.proofs.Common.{◌≡◌, inl, inr, Bool, true, false, ℕ, ◌&&◌, List, [], ◌∷◌, refl, sym, ◌∙◌, ap, subst, None, Some}
use Rattle.std.specs.Prelude.{◌==◌, Contains}
use Rattle.std.specs.Bool.{Decides}
use Rattle.std.specs.Cmp.{decided}
use Rattle.std.specs.Map.{lookup, lookup_entry}
use Rattle.std.specs.Option.{option_map}
use Rattle.std.specs.declared.option.Option.{Option}
use Rattle.std.proofs.lemmas.Bool.Decides.{Decides-eqb, Decides-and}
use Rattle.dom_base.specs.declared.names.As.{As}
use Rattle.te_links.specs.Rows.{Rows}
use Rattle.lru.specs.LruCache.{promoted, put_entries, lru_cache}
use Rattle.lru.proofs.Splits.{Contains-cons, Contains-nil}
use Rattle.lru.proofs.CallerLemmas.{Contains-lookup, Contains-put_entries, lookup-put_entries}
use Rattle.cost_cache.specs.declared.key.Key.{Key}
use Rattle.cost_cache.specs.declared.kept.Kept.{Kept}
use Rattle.cost_cache.specs.Keys.{same_key}
use Rattle.cost_cache.specs.SameKeys.{same_key-Decides}
use Rattle.cost_cache.specs.Entries.{Entries, Has, IsGood, IsGoodForAll, KeepsOthers, IsKept}

-- what a look-up finds stands under the key
pub found : (key : Key) (es : List (Key × Kept)) (kept : Kept) → lookup (same_key key) es ≡ Some kept → Contains es (key, kept)
found key es kept is =
    let has = Contains-lookup (same_key key) es kept is in
    subst (λ (k : Key). Contains es (k, kept)) (sym ((same_key-Decides key has.0).0 has.2)) has.1

-- where it finds nothing, nothing stands under the key
pub not_found : (key : Key) (es : List (Key × Kept)) (kept : Kept) → lookup (same_key key) es ≡ None → Contains es (key, kept) → ⊥
not_found key [] kept is has = Contains-nil (key, kept) has
not_found key (e ∷ es) kept is has =
    (elim (same_key key e.0) as (λ b. same_key key e.0 ≡ b → ⊥) [
      | true ↦ λ t. let some : Some e.1 ≡ None = rw t at is in cc
      | false ↦ λ t. elim (Contains-cons e es (key, kept) has) [
        | inl one ↦
            let self : same_key key e.0 ≡ true = (same_key-Decides key e.0).1 (ap (λ (p : Key × Kept). p.0) (sym one)) in
            let bad : false ≡ true = sym t ∙ self in
            cc
        | inr there ↦ not_found key es kept (rw t at is) there
      ]
    ]) refl

value_of : (test : Key → Bool) (es : List (Key × Kept)) → lookup test es ≡ option_map (λ e. e.1) (lookup_entry test es)
value_of test [] = refl
value_of test (e ∷ es) =
    (elim (test e.0) as (λ b. test e.0 ≡ b → lookup test (e ∷ es) ≡ option_map (λ (p : Key × Kept). p.1) (lookup_entry test (e ∷ es))) [
      | true ↦ λ t. rw t refl
      | false ↦ λ t. rw t (value_of test es)
    ]) refl

-- an entry that is used again is put again
pub promoted_is : (c : Entries) (key : Key) (kept : Kept) → lookup (same_key key) c.entries ≡ Some kept → promoted (same_key key) c.entries ≡ put_entries same_key c key kept
promoted_is c key kept is = go (lookup_entry (same_key key) c.entries) refl
  where
    go : (o : Option (Key × Kept)) → lookup_entry (same_key key) c.entries ≡ o → promoted (same_key key) c.entries ≡ put_entries same_key c key kept
    go None at =
        let none : Some kept ≡ None = sym is ∙ value_of (same_key key) c.entries ∙ ap (option_map (λ (p : Key × Kept). p.1)) at in
        cc
    go (Some f) at =
        let both : Some kept ≡ Some f.1 = sym is ∙ value_of (same_key key) c.entries ∙ ap (option_map (λ (p : Key × Kept). p.1)) at in
        let same : kept ≡ f.1 = cc in
        rw (at, same) refl

-- the same of a cache and a key that are told otherwise
module _ (inside old : Entries) (key_inside key : Key) (view : inside ≡ old) (one : key_inside ≡ key) where
  pub found_in : (kept : Kept) → Some kept ≡ lookup (same_key key_inside) inside.entries → Contains old.entries (key, kept)
  found_in kept is =
      subst (λ (c : Entries). Contains c.entries (key, kept)) view
      (subst (λ (k : Key). Contains inside.entries (k, kept)) one (found key_inside inside.entries kept (sym is)))

  pub not_found_in : None ≡ lookup (same_key key_inside) inside.entries → Has old key → ⊥
  not_found_in is has =
      not_found key_inside inside.entries has.0 (sym is)
      (subst (λ (k : Key). Contains inside.entries (k, has.0)) (sym one) (subst (λ (c : Entries). Contains c.entries (key, has.0)) (sym view) has.1))

  pub put_in : (new : Entries) (kept : Kept) → new ≡ lru_cache (put_entries same_key inside key_inside kept) inside.cap → new ≡ lru_cache (put_entries same_key old key kept) old.cap
  put_in new kept is =
      subst (λ (c : Entries). new ≡ lru_cache (put_entries same_key c key kept) c.cap) view
      (subst (λ (k : Key). new ≡ lru_cache (put_entries same_key inside k kept) inside.cap) one is)

  pub used_in : (new : Entries) (kept : Kept) → Some kept ≡ lookup (same_key key_inside) inside.entries →
      new ≡ lru_cache (promoted (same_key key_inside) inside.entries) inside.cap → new ≡ lru_cache (put_entries same_key old key kept) old.cap
  used_in new kept at is =
      put_in new kept (is ∙ ap (λ (es : List (Key × Kept)). lru_cache es inside.cap) (promoted_is inside key_inside kept (sym at)))

module _ (old new : Entries) (key : Key) (kept : Kept) (is : new ≡ lru_cache (put_entries same_key old key kept) old.cap) where
  among : (k : Key) (v : Kept) → Contains new.entries (k, v) → Contains (put_entries same_key old key kept) (k, v)
  among k v has = subst (λ (es : List (Key × Kept)). Contains es (k, v)) (ap (λ (c : Entries). c.entries) is) has

  pub has_after : Has new key
  has_after = (
    kept,
    subst (λ (es : List (Key × Kept)). Contains es (key, kept)) (sym (ap (λ (c : Entries). c.entries) is))
        (found key (put_entries same_key old key kept) kept (lookup-put_entries same_key old key kept (decided same_key same_key-Decides))),
  )

  pub good_after : (at : As) (generation : ℕ) (g : Rows) → IsGood at generation g old → (key.at ≡ at → key.generation ≡ generation → IsKept g key kept) → IsGood at generation g new
  good_after at generation g good right k v has here now =
      elim (Contains-put_entries same_key old key kept (k, v) (among k v has)) [
        | inl was ↦ good k v was here now
        | inr put ↦
            let one : key ≡ k = elim put.1 [ inl same ↦ sym same | inr before ↦ (same_key-Decides key k).0 before.2 ] in
            let right_here : IsKept g key kept = right (ap (λ (j : Key). j.at) one ∙ here) (ap (λ (j : Key). j.generation) one ∙ now) in
            subst (λ (j : Key). IsKept g j v) one (subst (IsKept g key) (sym put.0) right_here)
      ]

  pub others_after : KeepsOthers key old new
  others_after at generation g other good = good_after at generation g good (λ here now. absurd (other (here, now)))

same_as : (a b : As) → a.0 ≡ b.0 → a ≡ b
same_as a b is = ap (λ n. let s : As = record { 0 = n } in s) is

-- a cache that is good for all is so after a call
pub still_good : (g : Rows) (key : Key) (old new : Entries) → IsGoodForAll g old → IsGood key.at key.generation g new → KeepsOthers key old new → IsGoodForAll g new
still_good g key old new good here others at generation = go ((key.at.0 == at.0) && (key.generation == generation)) (Decides-and (key.at.0 == at.0) (key.generation == generation) (Decides-eqb key.at.0 at.0) (Decides-eqb key.generation generation))
  where
    go : (b : Bool) → Decides b ((key.at.0 ≡ at.0) × (key.generation ≡ generation)) → IsGood at generation g new
    go true tells =
        let both = tells.0 refl in
        subst (λ (a : As). IsGood a generation g new) (same_as key.at at both.0) (subst (λ n. IsGood key.at n g new) both.1 here)
    go false tells =
        others at generation g (λ same. let bad : false ≡ true = tells.1 (ap (λ (a : As). a.0) same.0, same.1) in cc) (good at generation)
