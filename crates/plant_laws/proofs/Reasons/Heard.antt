-- What an element says to notices and errors is about one of their parts, and about a request that waited for it before the message.
use Rattle.std.proofs.Common.{◌≡◌, ℕ, true, List, [], ◌∷◌, ◌++◌, map, sym, ◌∙◌, ap, subst, inl, inr, refl}
use Rattle.std.specs.Prelude.{◌⊎◌, Some, None}
use Rattle.plant_model.specs.Types.{As, Peer, ErrorReport, Notice, NetworkParts}
use Rattle.disclosure.specs.Shown.{open_of}
use Rattle.pcep_codes.specs.declared.errors.TheConstants as errors
use Rattle.pcep_codes.specs.declared.notices.TheConstants as notices
use Rattle.pcep_messages.specs.declared.message.Message.TheVariants as messages
use Rattle.request_table.specs.Pending.{same_peer}
use Rattle.plant_text.specs.Settings.{class_of}
use Rattle.plant_model.specs.declared.output.Output.{Output}
use Rattle.plant_model.specs.Names.{the_parent, has_pair}
use Rattle.plant_model.specs.Wire.{Codec}
use Rattle.plant_model.specs.Writing.{error_message}
use Rattle.plant_model.specs.Element.{Item, Element, Row, Waits, is_ready}
use Rattle.plant_model.specs.Taking.{take}
use Rattle.plant_model.specs.Settings.{place}
use Rattle.plant_model.specs.Plant.{Pin, Segment}
use Rattle.plant_laws.specs.MessageCauses.{Asker, told, chain_broken, table_full, WaitsAt, IsError, IsOutOfProfile, next_is_full, noted_for_nobody, of_other_kind, failed_for_nobody, of_reply, out_of_profile, other_error, OnRequest, Part, Asks, Replies, Notes, Fails, alone, noted, failed_by, failed, OnPart, OnParts, OnMessage}
use Rattle.plant_laws.proofs.Least.Subsides.{notices_subs, reports_subs}
use Rattle.plant_laws.proofs.Once.Handing.{In}
use Rattle.plant_laws.proofs.Reasons.MomentCauses.{in_two}
use Rattle.plant_laws.proofs.Reasons.PartCauses.{not_both}
use Rattle.plant_laws.proofs.Runs.Inboxes.{contains}
use Rattle.plant_laws.proofs.Runs.Rows as table

module _ (c : Codec) (n : NetworkParts) (d : As) (pin : Pin) (q : Peer) (clock : ℕ) where
  abbrev K : Type 0
  K = Element Pin Segment

  abbrev left : Part → K → K
  left x k = (take c open_of (place n d) pin q (class_of n q) clock (alone x) k).element

  abbrev On : Part → K → List Output → Type 0
  On x k os = OnPart K (λ k'. WaitsAt k' q) (OnRequest c n d q clock) (λ m' k'. (take c open_of (place n d) pin q (class_of n q) clock m' k').element) (same_peer q the_parent) q x k os

  abbrev Ons : List Part → K → List Output → Type 0
  Ons xs k os = OnParts K (λ k'. WaitsAt k' q) (OnRequest c n d q clock) (λ m' k'. (take c open_of (place n d) pin q (class_of n q) clock m' k').element) (same_peer q the_parent) q xs k os

  -- whoever waits in k waited in k0
  abbrev Waited : K → K → Type 0
  Waited k0 k = (y : ℕ) (a : Asker) → WaitsAt k q y a → WaitsAt k0 q y a

  -- ---- what a part leaves

  abbrev Tells : Part → Type 0
  Tells (Notes kinds rp) = Unit {0}
  Tells (Fails error rp) = Unit {0}
  Tells (Asks a) = ⊥
  Tells (Replies r) = ⊥

  older : (k k' : K) (row : Row Pin) → table.In row k'.pending.rows → (h : Row Pin) × table.In h k.pending.rows × (row.1.key ≡ h.1.key) × ((row.1.item ≡ h.1.item) ⊎ (is_ready row.1.item.stage ≡ true)) → (y : ℕ) (a : Asker) →
      row.1.item.stage ≡ Waits q y → a ≡ record { peer = row.1.key.peer; flags = row.1.item.flags; id = row.1.key.id } → WaitsAt k q y a
  older k k' row i old y a waits asked = go old.3
    where
      go : (row.1.item ≡ old.0.1.item) ⊎ (is_ready row.1.item.stage ≡ true) → WaitsAt k q y a
      go (inl same) = record {
        row = old.0;
        is_row = contains old.0 k.pending.rows old.1;
        waits = ap (λ (z : Item Pin). z.stage) (sym same) ∙ waits;
        asked = asked ∙ ap (λ z. record { peer = z.peer; flags = row.1.item.flags; id = z.id }) old.2 ∙ ap (λ (z : Item Pin). record { peer = old.0.1.key.peer; flags = z.flags; id = old.0.1.key.id }) same;
      }
      go (inr ready) = not_both (is_ready row.1.item.stage) ready (ap is_ready waits)

  one_left : (x : Part) → Tells x → (k : K) → Waited k (left x k)
  one_left (Notes kinds rp) is k y a w =
      let i = table.in_of w.row (left (Notes kinds rp) k).pending.rows w.is_row in
      older k (left (Notes kinds rp) k) w.row i (notices_subs Pin Segment c q (record { ids = rp ∷ []; kinds = kinds } ∷ []) k w.row i) y a w.waits w.asked
  one_left (Fails error rp) is k y a w =
      let i = table.in_of w.row (left (Fails error rp) k).pending.rows w.is_row in
      older k (left (Fails error rp) k) w.row i (reports_subs Pin Segment c q (record { ids = rp ∷ []; errors = error ∷ []; opening = None } ∷ []) k w.row i) y a w.waits w.asked
  one_left (Asks a) none k y w' w = absurd none
  one_left (Replies r) none k y w' w = absurd none

  -- ---- the part that an output is about

  abbrev AllTell : List Part → Type 0
  AllTell [] = Unit {0}
  AllTell (x ∷ xs) = Tells x × AllTell xs

  record IsOf (k0 : K) (out : Output) (xs : List Part) : Type 0 where
    pub part : Part
    pub among : In part xs
    pub then : K
    pub waited : Waited k0 then
    pub said : List Output
    pub on : On part then said
    pub here : In out said

  find : (xs : List Part) (k0 k : K) (os : List Output) (out : Output) → AllTell xs → Waited k0 k → Ons xs k os → In out os → IsOf k0 out xs
  find [] k0 k os out tell waited on i = absurd (let i' : In out [] = subst (In out) on i in i')
  find (x ∷ xs) k0 k os out tell waited on i = elim (in_two out on.0 on.1 (subst (In out) on.2 i)) [
    | inl first ↦ record { part = x; among = inl refl; then = k; waited = waited; said = on.0; on = on.3; here = first }
    | inr second ↦
        let r = find xs k0 (left x k) on.1 out tell.1 (λ y a w. waited y a (one_left x tell.0 k y a w)) on.4 second in
        record { part = r.part; among = inr r.among; then = r.then; waited = r.waited; said = r.said; on = r.on; here = r.here }
  ]

  both_tell : (xs ys : List Part) → AllTell xs → AllTell ys → AllTell (xs ++ ys)
  both_tell [] ys t u = u
  both_tell (x ∷ xs) ys t u = (t.0, both_tell xs ys t.1 u)

  notes_tell : (kinds ids : List (ℕ × ℕ)) → AllTell (map (Notes kinds) ids)
  notes_tell kinds [] = tt
  notes_tell kinds (rp ∷ ids) = (tt, notes_tell kinds ids)

  noted_tell : (ns : List Notice) → AllTell (noted ns)
  noted_tell [] = tt
  noted_tell (m ∷ ms) = both_tell (map (Notes m.kinds) m.ids) (noted ms) (notes_tell m.kinds m.ids) (noted_tell ms)

  fails_tell : (error : ℕ × ℕ) (ids : List (ℕ × ℕ)) → AllTell (map (Fails error) ids)
  fails_tell error [] = tt
  fails_tell error (rp ∷ ids) = (tt, fails_tell error ids)

  by_tell : (ids es : List (ℕ × ℕ)) → AllTell (failed_by ids es)
  by_tell ids [] = tt
  by_tell ids (e ∷ es) = fails_tell e ids

  failed_tell : (rs : List ErrorReport) → AllTell (failed rs)
  failed_tell [] = tt
  failed_tell (r ∷ rs) = both_tell (failed_by r.ids r.errors) (failed rs) (by_tell r.ids r.errors) (failed_tell rs)

  -- which parts are among those of notices, and of errors
  abbrev IsNote : Part → Type 0
  IsNote (Notes kinds rp) = Unit {0}
  IsNote x = ⊥

  abbrev IsFail : Part → Type 0
  IsFail (Fails error rp) = Unit {0}
  IsFail x = ⊥

  of_two : (Q : Part → Type 0) (xs ys : List Part) → ((x : Part) → In x xs → Q x) → ((y : Part) → In y ys → Q y) → (x : Part) → In x (xs ++ ys) → Q x
  of_two Q [] ys f g x i = g x i
  of_two Q (z ∷ xs) ys f g x (inl is) = f x (inl is)
  of_two Q (z ∷ xs) ys f g x (inr i) = of_two Q xs ys (λ x' i'. f x' (inr i')) g x i

  is_note : (ns : List Notice) (x : Part) → In x (noted ns) → IsNote x
  is_note [] x i = absurd i
  is_note (m ∷ ms) x i = of_two IsNote (map (Notes m.kinds) m.ids) (noted ms) (ones m.ids) (is_note ms) x i
    where
      ones : (ids : List (ℕ × ℕ)) (y : Part) → In y (map (Notes m.kinds) ids) → IsNote y
      ones [] y none = absurd none
      ones (rp ∷ ids) y (inl is) = subst IsNote (sym is) tt
      ones (rp ∷ ids) y (inr more) = ones ids y more

  is_fail : (rs : List ErrorReport) (x : Part) → In x (failed rs) → IsFail x
  is_fail [] x i = absurd i
  is_fail (r ∷ rs) x i = of_two IsFail (failed_by r.ids r.errors) (failed rs) (by r.errors) (is_fail rs) x i
    where
      ones : (e : ℕ × ℕ) (ids : List (ℕ × ℕ)) (y : Part) → In y (map (Fails e) ids) → IsFail y
      ones e [] y none = absurd none
      ones e (rp ∷ ids) y (inl is) = subst IsFail (sym is) tt
      ones e (rp ∷ ids) y (inr more) = ones e ids y more

      by : (es : List (ℕ × ℕ)) (y : Part) → In y (failed_by r.ids es) → IsFail y
      by [] y none = absurd none
      by (e ∷ es) y i' = ones e r.ids y i'

  -- ---- notices

  pub record HearsNotice (k : K) (out : Output) (ns : List Notice) : Type 0 where
    pub kinds : List (ℕ × ℕ)
    pub rp : ℕ × ℕ
    pub among : In (Notes kinds rp) (noted ns)
    pub busy : has_pair notices.BUSY.0 notices.BUSY.1 kinds ≡ true
    pub asker : Asker
    pub waits : WaitsAt k q rp.1 asker
    pub says : In out (table_full asker)

  none_said : {X : Type 0} (out : Output) (os : List Output) → os ≡ [] → In out os → X
  none_said out os none i = absurd (let i' : In out [] = subst (In out) none i in i')

  pub hears_notice : (ns : List Notice) (k : K) (os : List Output) (out : Output) → OnMessage c n d pin q clock (messages.PcNtf ns) k os → In out os → HearsNotice k out ns
  hears_notice ns k os out on i = by r.part r.among r.on
    where
      r : IsOf k out (noted ns)
      r = find (noted ns) k k os out (noted_tell ns) (λ y a w. w) on i

      by : (x : Part) → In x (noted ns) → On x r.then r.said → HearsNotice k out ns
      by (Notes kinds rp) among (next_is_full a busy' w is) = record { kinds = kinds; rp = rp; among = among; busy = busy'; asker = a; waits = r.waited rp.1 a w; says = subst (In out) is r.here }
      by (Notes kinds rp) among (noted_for_nobody none is) = none_said out r.said is r.here
      by (Notes kinds rp) among (of_other_kind miss is) = none_said out r.said is r.here
      by (Fails error rp) among on' = absurd (is_note ns (Fails error rp) among)
      by (Asks a) among on' = absurd (is_note ns (Asks a) among)
      by (Replies r') among on' = absurd (is_note ns (Replies r') among)

  -- ---- errors

  pub record HearsError (k : K) (out : Output) (rs : List ErrorReport) : Type 0 where
    pub error : ℕ × ℕ
    pub rp : ℕ × ℕ
    pub among : In (Fails error rp) (failed rs)
    pub asker : Asker
    pub waits : WaitsAt k q rp.1 asker
    pub says : (IsOutOfProfile error × In out (told asker (error_message (Some (asker.flags, asker.id)) errors.CHAIN_FAILED.0 errors.CHAIN_FAILED.1)))
        ⊎ ((¬ IsError error errors.UNKNOWN_REQUEST) × (¬ IsOutOfProfile error) × In out (chain_broken asker))

  pub hears_error : (rs : List ErrorReport) (k : K) (os : List Output) (out : Output) → OnMessage c n d pin q clock (messages.PcErr rs) k os → In out os → HearsError k out rs
  hears_error rs k os out on i = by r.part r.among r.on
    where
      r : IsOf k out (failed rs)
      r = find (failed rs) k k os out (failed_tell rs) (λ y a w. w) on i

      by : (x : Part) → In x (failed rs) → On x r.then r.said → HearsError k out rs
      by (Fails error rp) among (out_of_profile a w of is) = record { error = error; rp = rp; among = among; asker = a; waits = r.waited rp.1 a w; says = inl (of, subst (In out) is r.here) }
      by (Fails error rp) among (other_error a w known fits is) = record { error = error; rp = rp; among = among; asker = a; waits = r.waited rp.1 a w; says = inr (known, fits, subst (In out) is r.here) }
      by (Fails error rp) among (failed_for_nobody none is) = none_said out r.said is r.here
      by (Fails error rp) among (of_reply of is) = none_said out r.said is r.here
      by (Notes kinds rp) among on' = absurd (is_fail rs (Notes kinds rp) among)
      by (Asks a) among on' = absurd (is_fail rs (Asks a) among)
      by (Replies r') among on' = absurd (is_fail rs (Replies r') among)
