-- Files that are looked at one behind the other.
use Rattle.std.proofs.Common.{◌≡◌, ◌∙◌, ◌+◌, ◌≤◌, ℕ, zero, suc, List, [], ◌∷◌, ◌++◌, map, append-nil, Option, Some, None, option_map, refl, ap, sym, subst, arith}
use Rattle.std.specs.List.{All, cons_option}
use Rattle.std.proofs.lemmas.List.{map-append}
use Rattle.std.proofs.lemmas.List.Elements.{All-push, All-weaker, filter_map-append}
use Rattle.std.proofs.lemmas.List.Sums.{sum_by_push}
use Rattle.dom_base.specs.declared.names.As.{As}
use Rattle.dom_edge.specs.Causes.{counted_on, next_count}
use Rattle.dom_edge.specs.Stores.{Files}
use Rattle.dom_edge.proofs.Counts.{counted_behind}
use Rattle.plant_text.specs.declared.settings.ElementRow.{ElementRow}
use Rattle.network_check.specs.declared.looks.Look.{Look}
use Rattle.network_check.specs.declared.looks.Look.TheVariants as look
use Rattle.network_check.specs.declared.looks.Seen.{Seen}
use Rattle.network_check.specs.Looks.{AreSeen, IsChartLook, IsLook, SeesRow, named, named_by, place_of, unread_look, unread_looks}

-- ---- counts of faults

next_rises : (a b : ℕ) → a ≤ b → next_count a ≤ next_count b
next_rises a b le = omega arith

counted_rises : (k a b : ℕ) → a ≤ b → counted_on k a ≤ counted_on k b
counted_rises zero a b le = le
counted_rises (suc k) a b le = next_rises (counted_on k a) (counted_on k b) (counted_rises k a b le)

-- so many failed, and then so many more
counted_through : (k j a b c : ℕ) → counted_on k a ≤ b → counted_on j b ≤ c → counted_on (k + j) a ≤ c
counted_through k j a b c one other =
    let swap : k + j ≡ j + k = omega arith in
    let whole : counted_on (k + j) a ≡ counted_on j (counted_on k a) = ap (λ (n : ℕ). counted_on n a) swap ∙ counted_behind j k a in
    omega (arith, whole, counted_rises j (counted_on k a) b one, other)

-- ---- a look

-- what a file was found to be stays so while faults are counted on, and was so since an earlier count
look_within : (files : Option Files) (at : As) (name : List ℕ) (a b c d : ℕ) → a ≤ b → c ≤ d → (l : Look) → IsChartLook files at name (b, c) l → IsChartLook files at name (a, d) l
look_within files at name a b c d below above (look.Read chart) is = is
look_within files at name a b c d below above (look.Malformed text) is = is
look_within files at name a b c d below above (look.Refused breaches) is = is
look_within files at name a b c d below above look.Unread is = omega (arith, below, above, is)
look_within files at name a b c d below above look.TooLong is = is

look_counted : (files : Option Files) (at : As) (name : List ℕ) (b c : ℕ) → b ≤ c → (l : Look) → IsChartLook files at name (b, c) l → counted_on (unread_look l) b ≤ c
look_counted files at name b c le (look.Read chart) is = le
look_counted files at name b c le (look.Malformed text) is = le
look_counted files at name b c le (look.Refused breaches) is = le
look_counted files at name b c le look.Unread is = is
look_counted files at name b c le look.TooLong is = le

looks_later : (files : Option Files) (a b c : ℕ) → b ≤ c → (seen : List Seen) → All (IsLook files (a, b)) seen → All (IsLook files (a, c)) seen
looks_later files a b c above = All-weaker (IsLook files (a, b)) (IsLook files (a, c)) (λ s is. look_within files s.at s.file a a b c (omega arith) above s.look is)

-- ---- one row more

module _ (files : Option Files) (front : List ElementRow) (row : ElementRow) (a b c : ℕ) (old new : List Seen) (below : a ≤ b) (above : b ≤ c) (so : AreSeen files front (a, b) old) where
  named_on : (o : Option (As × List ℕ)) → named_by row ≡ o → named (front ++ row ∷ []) ≡ named front ++ cons_option o []
  named_on o same = filter_map-append named_by front (row ∷ []) ∙ ap (λ (p : Option (As × List ℕ)). named front ++ cons_option p []) same

  place_is : (o : Option (List ℕ)) → row.topology ≡ o → named_by row ≡ option_map (λ (name : List ℕ). (row.own, name)) o
  place_is o same = ap (λ (p : Option (List ℕ)). option_map (λ (name : List ℕ). (row.own, name)) p) same

  by_topology : (o : Option (List ℕ)) → row.topology ≡ o → SeesRow files row.own o (b, c) old new → AreSeen files (front ++ row ∷ []) (a, c) new
  by_topology None same sees = record {
    are_named = ap (map place_of) sees ∙ so.are_named ∙ sym (append-nil (named front)) ∙ sym (named_on None (place_is None same));
    are_looks = subst (All (IsLook files (a, c))) (sym sees) (looks_later files a b c above old so.are_looks);
    failed = subst (λ (seen : List Seen). counted_on (unread_looks seen) a ≤ c) (sym sees) (omega (arith, so.failed, above));
  }
  by_topology (Some name) same sees =
      let one : Seen = record { at = row.own; file = name; look = sees.0 } in
      let count : unread_looks (old ++ one ∷ []) ≡ unread_looks old + unread_look sees.0 = sum_by_push (λ (s : Seen). unread_look s.look) old one in
      record {
        are_named = ap (map place_of) sees.1 ∙ map-append place_of old (one ∷ []) ∙ ap (λ (ps : List (As × List ℕ)). ps ++ (row.own, name) ∷ []) so.are_named
            ∙ sym (named_on (Some (row.own, name)) (place_is (Some name) same));
        are_looks = subst (All (IsLook files (a, c))) (sym sees.1)
            (All-push (IsLook files (a, c)) old one (looks_later files a b c above old so.are_looks) (look_within files row.own name a b c c below (omega arith) sees.0 sees.2));
        failed = subst (λ (k : ℕ). counted_on k a ≤ c) (sym (ap unread_looks sees.1 ∙ count))
            (counted_through (unread_looks old) (unread_look sees.0) a b c so.failed (look_counted files row.own name b c above sees.0 sees.2));
      }

  pub row_seen : SeesRow files row.own row.topology (b, c) old new → AreSeen files (front ++ row ∷ []) (a, c) new
  row_seen sees = by_topology row.topology refl sees
