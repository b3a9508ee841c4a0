-- The requests that the parent sends to its children at once: their ids rise by one, none waits already, and each is of a child.
use Rattle.std.proofs.Common.{◌≡◌, ◌≤◌, ◌<◌, ◌+◌, ◌==◌, ℕ, suc, Bool, true, false, cond, List, [], ◌∷◌, Option, Some, None, sym, ◌∙◌, ap, subst, inl, inr, refl, arith}
use Rattle.std.proofs.lemmas.Bool.{cases_Bool, eqb-true}
use Rattle.std.proofs.lemmas.Grind.{common_steps}
use Rattle.plant_model.specs.Types.{As, Peer, Inner, Message, Wanted}
use Rattle.request_table.specs.Pending.{same_peer}
use Rattle.plant_model.specs.declared.output.Output.{Output}
use Rattle.plant_model.specs.Names.{same_id}
use Rattle.plant_model.specs.Writing.{request_message}
use Rattle.plant_model.specs.Element.{Way, way_to, with_last, after_id, pass_over}
use Rattle.plant_model.specs.Parent.{Wait, Errand, Asks, ask_all, next_id, among, last_to}
use Rattle.plant_laws.specs.Transcript.{put_into, count_asks, one_if}
use Rattle.plant_laws.proofs.Once.Handing.{In}
use Rattle.plant_laws.proofs.Numbering.SentOn.{same_peer_is}
use Rattle.plant_laws.proofs.Numbering.TakenUpper.{count_waits}
use Rattle.plant_laws.proofs.Numbering.Decode.{Rising}
use Rattle.plant_laws.proofs.Numbering.Onward.{last_other, last_own}

abbrev pub Last : List Way → As → ℕ
Last ways b = last_to (way_to (Inner b) ways)

pub after_suc : (last : ℕ) → last < 4294967295 → after_id last ≡ suc last
after_suc last less = elim (cases_Bool (last == 4294967295)) [
  | inl top ↦ absurd (let is = eqb-true last 4294967295 top in omega arith)
  | inr more ↦ rw more refl
]

pub pass_still : {A : Type 0} (xs : List A) (waits : ℕ → Bool) (y : ℕ) → waits y ≡ false → pass_over xs waits y ≡ y
pass_still [] waits y free = refl
pass_still (x ∷ xs) waits y free = rw free refl

id_is : (p q : Peer) (x y : ℕ) → same_id p x q y ≡ true → (p ≡ q) × (x ≡ y)
id_is p q x y e = go (same_peer p q) refl e
  where
    go : (b : Bool) → same_peer p q ≡ b → cond b (x == y) false ≡ true → (p ≡ q) × (x ≡ y)
    go true is hit = (same_peer_is p q is, eqb-true x y hit)
    go false is hit = absurd (let out : false ≡ true = hit in cc)

-- no wait is for an id above those that were sent
abbrev pub IsBelow : List Wait → List Way → Type 0
IsBelow ws ways = (v : Wait) → In v ws → (b : As) → v.peer ≡ Inner b → v.id ≤ Last ways b

not_among : (ws : List Wait) (ways : List Way) (b : As) → IsBelow ws ways → among (Inner b) ws (suc (Last ways b)) ≡ false
not_among [] ways b below = refl
not_among (v ∷ ws) ways b below =
    elim (cases_Bool (same_id v.peer v.id (Inner b) (suc (Last ways b)))) [
      | inl hit ↦
          let is = id_is v.peer (Inner b) v.id (suc (Last ways b)) hit in
          absurd (let le = below v (inl refl) b is.0 in let at = is.1 in omega arith)
      | inr miss ↦ rw miss (not_among ws ways b (λ u i. below u (inr i)))
    ]

none_counted : (q : Peer) (y : ℕ) (ws : List Wait) → among q ws y ≡ false → count_waits q y ws ≡ 0
none_counted q y [] e = refl
none_counted q y (w ∷ ws) e =
    elim (cases_Bool (same_id w.peer w.id q y)) [
      | inl hit ↦ absurd (let clash : true ≡ false = rw hit at e in cc)
      | inr miss ↦ let rest : among q ws y ≡ false = rw miss at e in rw miss (omega (arith, none_counted q y ws rest))
    ]

abbrev pub HasWay : List Way → As → Type 0
HasWay ways b = (way : Way) × (way_to (Inner b) ways ≡ Some way)

abbrev pub HaveWays : List Way → List Errand → Type 0
HaveWays ways [] = Unit {0}
HaveWays ways (r ∷ rs) = HasWay ways r.child × HaveWays ways rs

has_after : (p q : Peer) (y : ℕ) (ws : List Way) (v : Way) → way_to p ws ≡ Some v → (v' : Way) × (way_to p (with_last q y ws) ≡ Some v')
has_after p q y [] v e = absurd (let out : None ≡ Some v = e in cc)
has_after p q y (w ∷ ws) v e = go (same_peer w.peer q) (has_after p q y ws v)
  where
    here : (b : Bool) (o : Option Way) → cond b (Some w) o ≡ Some v → (v' : Way) × (cond b (Some (record w { last_id = y })) o ≡ Some v')
    here true o e' = (record w { last_id = y }, refl)
    here false o e' = (v, e')

    later : (b : Bool) → cond b (Some w) (way_to p ws) ≡ Some v → (way_to p ws ≡ Some v → (v' : Way) × (way_to p (with_last q y ws) ≡ Some v')) → (v' : Way) × (cond b (Some w) (way_to p (with_last q y ws)) ≡ Some v')
    later true e' rec = (w, refl)
    later false e' rec = rec e'

    go : (x : Bool) → (way_to p ws ≡ Some v → (v' : Way) × (way_to p (with_last q y ws) ≡ Some v')) → (v' : Way) × (way_to p (cond x (record w { last_id = y } ∷ ws) (w ∷ with_last q y ws)) ≡ Some v')
    go true rec = here (same_peer w.peer p) (way_to p ws) e
    go false rec = later (same_peer w.peer p) e rec

have_after : (q : Peer) (y : ℕ) (ways : List Way) (rs : List Errand) → HaveWays ways rs → HaveWays (with_last q y ways) rs
have_after q y ways [] h = tt
have_after q y ways (r ∷ rs) h = (has_after (Inner r.child) q y ways h.0.0 h.0.1, have_after q y ways rs h.1)

-- the last ids after one more
last_now : (child : As) (ways : List Way) → HasWay ways child → (b : As) → Last ways b ≤ Last (with_last (Inner child) (suc (Last ways child)) ways) b
last_now child ways has b =
    elim (cases_Bool (same_peer (Inner child) (Inner b))) [
      | inl hit ↦
          let is : Inner child ≡ Inner b = same_peer_is (Inner child) (Inner b) hit in
          subst (λ (p : Peer). last_to (way_to p ways) ≤ last_to (way_to p (with_last (Inner child) (suc (Last ways child)) ways))) is
          (let e = last_own (Inner child) (suc (Last ways child)) ways has.0 has.1 in omega (arith, e))
      | inr miss ↦ let e = ap last_to (last_other (Inner b) (Inner child) (suc (Last ways child)) ways miss) in omega (arith, e)
    ]

pub record IsWell (w : Wanted) (taken : List Wait) (rs : List Errand) (ways : List Way) (a : Asks) : Type 0 where
  pub rising : (b : As) → Rising (put_into b a.outputs) (Last ways b) (Last a.ways b)
  pub last : (b : As) → Last a.ways b ≤ Last ways b + count_asks (put_into b a.outputs)
  pub counts : (q : Peer) (y : ℕ) → count_waits q y taken ≤ 1 → count_waits q y a.waits + count_waits q y taken ≤ 1
  pub ids : (o : Output) → In o a.outputs → (r : Errand) × In r rs × ((y : ℕ) × (1 ≤ y) × (y ≤ 4294967295) × (o ≡ record { to = Inner r.child; message = request_message y w r.target (r.child ∷ []) }))

pub asked_well : (w : Wanted) (taken : List Wait) (rs : List Errand) (ways : List Way) → IsBelow taken ways → HaveWays ways rs →
    ((b : As) → Last ways b + count_asks (put_into b (ask_all w taken rs ways).outputs) ≤ 4294967295) → IsWell w taken rs ways (ask_all w taken rs ways)
asked_well w taken [] ways below have short = record { rising = λ b. omega arith; last = λ b. omega arith; counts = λ q y h. omega (arith, h); ids = λ o none. absurd none }
asked_well w taken (r ∷ rs) ways below have short =
    go (next_id (Inner r.child) taken ways) is (λ taken' ways' below' have' short'. asked_well w taken' rs ways' below' have' short') short
  where
    first : (n : ℕ) → Last ways r.child + (1 + n) ≤ 4294967295 → next_id (Inner r.child) taken ways ≡ suc (Last ways r.child)
    first n le =
        let after : after_id (Last ways r.child) ≡ suc (Last ways r.child) = after_suc (Last ways r.child) (omega (arith, le)) in
        ap (λ (y : ℕ). pass_over taken (among (Inner r.child) taken) y) after ∙ pass_still taken (among (Inner r.child) taken) (suc (Last ways r.child)) (not_among taken ways r.child below)

    own_counts : (y : ℕ) (m : Message) (os : List Output) → count_asks (put_into r.child (record { to = Inner r.child; message = request_message y w r.target (r.child ∷ []) } ∷ os)) ≡ 1 + count_asks (put_into r.child os)
    own_counts y m os = elim (cases_Bool (same_peer (Inner r.child) (Inner r.child))) [
      | inl hit ↦ rw hit refl
      | inr miss ↦ absurd (let own : same_peer (Inner r.child) (Inner r.child) ≡ true = grind (arith, common_steps) in let clash : true ≡ false = sym own ∙ miss in cc)
    ]

    is : next_id (Inner r.child) taken ways ≡ suc (Last ways r.child)
    is =
        let y = next_id (Inner r.child) taken ways in
        let one : Wait = record { peer = Inner r.child; id = y; child = r.child; target = r.target } in
        let rest = ask_all w (one ∷ taken) rs (with_last (Inner r.child) y ways) in
        let e = own_counts y (request_message y w r.target (r.child ∷ [])) rest.outputs in
        first (count_asks (put_into r.child rest.outputs)) (let s = short r.child in omega (arith, e, s))

    go : (y : ℕ) → y ≡ suc (Last ways r.child) →
        ((taken' : List Wait) (ways' : List Way) → IsBelow taken' ways' → HaveWays ways' rs → ((b : As) → Last ways' b + count_asks (put_into b (ask_all w taken' rs ways').outputs) ≤ 4294967295) → IsWell w taken' rs ways' (ask_all w taken' rs ways')) →
        (let one : Wait = record { peer = Inner r.child; id = y; child = r.child; target = r.target } in
        let rest = ask_all w (one ∷ taken) rs (with_last (Inner r.child) y ways) in
        let all : Asks = record { waits = one ∷ rest.waits; ways = rest.ways; outputs = record { to = Inner r.child; message = request_message y w r.target (r.child ∷ []) } ∷ rest.outputs } in
        ((b : As) → Last ways b + count_asks (put_into b all.outputs) ≤ 4294967295) → IsWell w taken (r ∷ rs) ways all)
    go y e rec short' =
        let one : Wait = record { peer = Inner r.child; id = y; child = r.child; target = r.target } in
        let ways' = with_last (Inner r.child) y ways in
        let rest = ask_all w (one ∷ taken) rs ways' in
        let well = rec (one ∷ taken) ways' below' (have_after (Inner r.child) y ways rs have.1) (λ b. shorter b rest.outputs (short' b)) in
        record {
          rising = λ b. rising b rest.outputs (Last rest.ways b) (well.rising b);
          last = λ b. lasts b rest.outputs (Last rest.ways b) (well.last b);
          counts = λ q z h. counts q z rest.waits h (well.counts q z);
          ids = λ o i. ids o rest.outputs i (λ j. well.ids o j);
        }
      where
        grown : (b : As) → Last ways b ≤ Last (with_last (Inner r.child) y ways) b
        grown b = subst (λ (z : ℕ). Last ways b ≤ Last (with_last (Inner r.child) z ways) b) (sym e) (last_now r.child ways have.0 b)

        own : (b : As) → same_peer (Inner r.child) (Inner b) ≡ true → (Last (with_last (Inner r.child) y ways) b ≡ y) × (y ≡ suc (Last ways b))
        own b hit =
            let is' : Inner r.child ≡ Inner b = same_peer_is (Inner r.child) (Inner b) hit in
            subst (λ (p : Peer). (last_to (way_to p (with_last (Inner r.child) y ways)) ≡ y) × (y ≡ suc (last_to (way_to p ways)))) is' (last_own (Inner r.child) y ways have.0.0 have.0.1, e)

        other : (b : As) → same_peer (Inner r.child) (Inner b) ≡ false → Last (with_last (Inner r.child) y ways) b ≡ Last ways b
        other b miss = ap last_to (last_other (Inner b) (Inner r.child) y ways miss)

        below' : (v : Wait) → In v (record { peer = Inner r.child; id = y; child = r.child; target = r.target } ∷ taken) → (b : As) → v.peer ≡ Inner b → v.id ≤ Last (with_last (Inner r.child) y ways) b
        below' v (inl same) b peer =
            let is' : Inner r.child ≡ Inner b = sym (ap (λ (u : Wait). u.peer) same) ∙ peer in
            let id : v.id ≡ y = ap (λ (u : Wait). u.id) same in
            let at = subst (λ (p : Peer). last_to (way_to p (with_last (Inner r.child) y ways)) ≡ y) is' (last_own (Inner r.child) y ways have.0.0 have.0.1) in
            omega (arith, at, id)
        below' v (inr i) b peer = let le = below v i b peer in let more = grown b in omega arith

        shorter : (b : As) (os : List Output) → Last ways b + count_asks (put_into b (record { to = Inner r.child; message = request_message y w r.target (r.child ∷ []) } ∷ os)) ≤ 4294967295 →
            Last (with_last (Inner r.child) y ways) b + count_asks (put_into b os) ≤ 4294967295
        shorter b os le = elim (cases_Bool (same_peer (Inner r.child) (Inner b))) [
          | inl hit ↦ let o = own b hit in let le' = rw hit at le in omega (arith, o.0, o.1, le')
          | inr miss ↦ let o = other b miss in let le' = rw miss at le in omega (arith, o, le')
        ]

        rising : (b : As) (os : List Output) (high : ℕ) → Rising (put_into b os) (Last (with_last (Inner r.child) y ways) b) high →
            Rising (put_into b (record { to = Inner r.child; message = request_message y w r.target (r.child ∷ []) } ∷ os)) (Last ways b) high
        rising b os high h = elim (cases_Bool (same_peer (Inner r.child) (Inner b))) [
          | inl hit ↦ let o = own b hit in rw hit ((let at = o.1 in omega (arith, at)), subst (λ (z : ℕ). Rising (put_into b os) z high) o.0 h)
          | inr miss ↦ rw miss (subst (λ (z : ℕ). Rising (put_into b os) z high) (other b miss) h)
        ]

        lasts : (b : As) (os : List Output) (high : ℕ) → high ≤ Last (with_last (Inner r.child) y ways) b + count_asks (put_into b os) →
            high ≤ Last ways b + count_asks (put_into b (record { to = Inner r.child; message = request_message y w r.target (r.child ∷ []) } ∷ os))
        lasts b os high h = elim (cases_Bool (same_peer (Inner r.child) (Inner b))) [
          | inl hit ↦ let o = own b hit in rw hit (omega (arith, o.0, o.1, h))
          | inr miss ↦ let o = other b miss in rw miss (omega (arith, o, h))
        ]

        counts : (q : Peer) (z : ℕ) (ws : List Wait) → count_waits q z taken ≤ 1 → (count_waits q z (record { peer = Inner r.child; id = y; child = r.child; target = r.target } ∷ taken) ≤ 1 →
            count_waits q z ws + count_waits q z (record { peer = Inner r.child; id = y; child = r.child; target = r.target } ∷ taken) ≤ 1) →
            count_waits q z (record { peer = Inner r.child; id = y; child = r.child; target = r.target } ∷ ws) + count_waits q z taken ≤ 1
        counts q z ws h rec = let more = rec (first_one (same_id (Inner r.child) y q z) refl) in omega (arith, more)
          where
            first_one : (b : Bool) → same_id (Inner r.child) y q z ≡ b → one_if b + count_waits q z taken ≤ 1
            first_one false miss = omega (arith, h)
            first_one true hit =
                let is' = id_is (Inner r.child) q y z hit in
                let none : count_waits (Inner r.child) y taken ≡ 0 =
                none_counted (Inner r.child) y taken (subst (λ (u : ℕ). among (Inner r.child) taken u ≡ false) (sym e) (not_among taken ways r.child below)) in
                let zero : count_waits q z taken ≡ 0 = subst (λ (p : Peer). count_waits p z taken ≡ 0) is'.0 (subst (λ (u : ℕ). count_waits (Inner r.child) u taken ≡ 0) is'.1 none) in
                omega (arith, zero)

        ids : (o : Output) (os : List Output) → In o (record { to = Inner r.child; message = request_message y w r.target (r.child ∷ []) } ∷ os) →
            (In o os → (r' : Errand) × In r' rs × ((z : ℕ) × (1 ≤ z) × (z ≤ 4294967295) × (o ≡ record { to = Inner r'.child; message = request_message z w r'.target (r'.child ∷ []) }))) →
            (r' : Errand) × In r' (r ∷ rs) × ((z : ℕ) × (1 ≤ z) × (z ≤ 4294967295) × (o ≡ record { to = Inner r'.child; message = request_message z w r'.target (r'.child ∷ []) }))
        ids o os (inl same) rec = (r, inl refl, (y, omega (arith, e), top, same))
          where
            top : y ≤ 4294967295
            top =
                let y' = next_id (Inner r.child) taken ways in
                let one : Wait = record { peer = Inner r.child; id = y'; child = r.child; target = r.target } in
                let more = own_counts y' (request_message y' w r.target (r.child ∷ [])) (ask_all w (one ∷ taken) rs (with_last (Inner r.child) y' ways)).outputs in
                let s = short r.child in omega (arith, more, s, e)
        ids o os (inr i) rec = let r' = rec i in (r'.0, inr r'.1, r'.2)
