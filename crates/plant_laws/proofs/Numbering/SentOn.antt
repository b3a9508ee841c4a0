-- A row that is opened and waits was sent on in the same moment.
use Rattle.std.proofs.Common.{◌≡◌, ◌⊎◌, ◌<◌, ℕ, ◌+◌, Bool, true, false, cond, Option, Some, None, List, [], ◌∷◌, length, inl, inr, sym, ◌∙◌, ap, subst, refl, arith}
use Rattle.std.proofs.lemmas.Bool.{cases_Bool}
use Rattle.plant_model.specs.Types.{As, Peer, Hop, Message, Wanted, Wish, Class, RequestKey}
use Rattle.pcep_messages.specs.declared.message.Message.TheVariants as messages
use Rattle.pcep_messages.specs.declared.message.Wish.TheVariants.{Path, Expand}
use Rattle.request_table.specs.Pending.{Pending, key_of, same_peer, number_of, number_among, opened_of, is_full}
use Rattle.request_table.proofs.KeyLemmas.{same_key_is}
use Rattle.plant_model.specs.declared.output.Output.{Output}
use Rattle.plant_model.specs.declared.route.Route.{Route}
use Rattle.plant_model.specs.Names.{the_parent, same_id}
use Rattle.plant_model.specs.Wire.{Codec, Checked, Admitted, Wrong}
use Rattle.plant_model.specs.Writing.{request_message, busy}
use Rattle.disclosure.specs.Policy.{is_denied}
use Rattle.plant_model.specs.Element.{Stage, Waits, Ready, Item, Row, Way, Element, ElementSettings, Taken, silent, only, waits_for, is_waiting, fresh_id, way_to}
use Rattle.plant_model.specs.Routes.{toward}
use Rattle.plant_model.specs.Taking as taking
use Rattle.plant_model.specs.Taking.{take, sequence_or, goes_up}
use Rattle.plant_laws.proofs.Runs.Decompose.{nil_right}
use Rattle.std.proofs.lemmas.Cmp.{nat_eq_equiv}
use Rattle.plant_laws.proofs.Numbering.Fresh.{fresh_is_free}
use Rattle.plant_laws.proofs.Runs.Rows.{In, in_append, same_peer_back}
use Rattle.plant_laws.proofs.Once.Takes.{IsSingle}
use Rattle.plant_laws.proofs.Least.Subsides.{IsOlder, Subsides, replies_subs, notices_subs, reports_subs}
use Rattle.plant_laws.specs.Waiting.{wait_alike}

-- where a request goes on, by its sequence: to the parent without one, or to the peer that is asked for the next domain
abbrev pub IsRest : List Route → List As → List As → Peer → Type 0
IsRest routes sequence rest b = ((sequence ≡ []) × (rest ≡ []) × (b ≡ the_parent)) ⊎ ((own : As) × (next : As) × (more : List As) × (sequence ≡ own ∷ rest) × (rest ≡ next ∷ more) × (b ≡ toward next routes))

-- a request that waits is among the outputs
abbrev pub IsSentIn : {P : Type 0} → List Route → List Output → Item P → Stage → Type 0
IsSentIn routes os i (Ready branches) = Unit {0}
IsSentIn routes os i (Waits b y) = (rest : List As) × In (record { to = b; message = request_message y i.wanted i.wanted.target rest }) os × IsRest routes i.sequence rest b

pub same_peer_is : (a b : Peer) → same_peer a b ≡ true → a ≡ b
same_peer_is a b e = ap (λ (k : RequestKey). k.peer) (same_key_is (key_of a 0) (key_of b 0) (rw e refl))

way_peer : (p : Peer) (ws : List Way) (w : Way) → way_to p ws ≡ Some w → w.peer ≡ p
way_peer p [] w e = absurd (let out : None ≡ Some w = e in cc)
way_peer p (v ∷ ws) w e =
    elim (cases_Bool (same_peer v.peer p)) [
      | inl hit ↦
          let at : Some v ≡ Some w = rw hit at e in
          let is : v ≡ w = cc in
          subst (λ (z : Way). z.peer ≡ p) is (same_peer_is v.peer p hit)
      | inr miss ↦ way_peer p ws w (rw miss at e)
    ]

pub same_id_back : (a b : Peer) (x y : ℕ) → same_id a x b y ≡ same_id b y a x
same_id_back a b x y = rw (same_peer_back a b, nat_eq_equiv.symm x y) refl

-- what waits for nothing that is fresh
pub fresh_apart : {P : Type 0} (b : Peer) (y : ℕ) (rows : List (Row P)) → is_waiting b rows y ≡ false → (g : Row P) → In g rows → wait_alike (Waits b y) g.1.item.stage ≡ false
fresh_apart b y [] free g none = absurd none
fresh_apart b y (row ∷ rows) free g i =
    elim (cases_Bool (waits_for b y row.1.item.stage)) [
      | inl hit ↦ absurd (let out : true ≡ false = rw hit at free in cc)
      | inr miss ↦ here miss (fresh_apart b y rows (rw miss at free) g) i
    ]
  where
    apart : (stage : Stage) → waits_for b y stage ≡ false → wait_alike (Waits b y) stage ≡ false
    apart (Ready branches) e = refl
    apart (Waits on id) e = same_id_back b on y id ∙ e

    here : waits_for b y row.1.item.stage ≡ false → (In g rows → wait_alike (Waits b y) g.1.item.stage ≡ false) → In g (row ∷ rows) → wait_alike (Waits b y) g.1.item.stage ≡ false
    here miss rec (inl is) = subst (λ (r : Row _). wait_alike (Waits b y) r.1.item.stage ≡ false) is (apart row.1.item.stage miss)
    here miss rec (inr j) = rec j

module _ (P : Type 0) (S : Type 0) (c : Codec) (show : S → List Hop) (e : ElementSettings) (pin : P) (p : Peer) (class : Class) (now : ℕ) (k : Element P S) (few : length k.pending.rows < 4294967294) where
  abbrev pub IsNew : List Output → Row P → Type 0
  IsNew os h =
      (number_among h.1.key k.pending.rows ≡ None) × IsSentIn e.routes os h.1.item h.1.item.stage
      × ((g : Row P) → In g k.pending.rows → wait_alike h.1.item.stage g.1.item.stage ≡ false)

  abbrev pub News : Taken P S → Type 0
  News t = (key : RequestKey) × ((h : Row P) → In h t.element.pending.rows → IsOlder P k.pending.rows h ⊎ ((h.1.key ≡ key) × IsNew t.outputs h))

  older : (t : Taken P S) → Subsides P k.pending.rows t.element.pending.rows → News t
  older t sub = (key_of p 0, λ h i. inl (sub h i))

  unchanged : (t : Taken P S) → t.element.pending ≡ k.pending → News t
  unchanged t same = (key_of p 0, λ h i. inl (h, subst (λ (q : Pending (Item P)). In h q.rows) same i, refl, inl refl))

  choose : (b : Bool) (t u : Taken P S) → News t → News u → News (cond b t u)
  choose true t u x y = x
  choose false t u x y = y

  module _ (flags x : ℕ) (w : Wanted) (none : number_of k.pending p x ≡ None) where
    opens : (t : Taken P S) (item : Item P) → t.element.pending ≡ opened_of k.pending p x item → IsSentIn e.routes t.outputs item item.stage →
        ((g : Row P) → In g k.pending.rows → wait_alike item.stage g.1.item.stage ≡ false) → News t
    opens t item same sent apart = (key_of p x, λ h i. go h (in_append h k.pending.rows ((k.pending.given + 1, record { key = key_of p x; item = item }) ∷ []) (subst (λ (q : Pending (Item P)). In h q.rows) same i)))
      where
        go : (h : Row P) → In h k.pending.rows ⊎ In h ((k.pending.given + 1, record { key = key_of p x; item = item }) ∷ []) → IsOlder P k.pending.rows h ⊎ ((h.1.key ≡ key_of p x) × IsNew t.outputs h)
        go h (inl old) = inl (h, old, refl, inl refl)
        go h (inr (inl is)) = inr (subst (λ (r : Row P). (r.1.key ≡ key_of p x) × IsNew t.outputs r) is (refl, (none, sent, apart)))
        go h (inr (inr never)) = absurd never

    kept : (t : Taken P S) → t.element.pending ≡ k.pending → News t
    kept t same = unchanged t same

    sends : (sequence rest : List As) (r : Bool) (to : Peer) (o : Option Way) → ((way : Way) → o ≡ Some way → way.peer ≡ to) → IsRest e.routes sequence rest to → News (taking.send_on (taking.sight pin p class) (taking.wanting flags x w) sequence rest r k o)
    sends sequence rest r to None is goes = kept (taking.denied p flags x k) refl
    sends sequence rest r to (Some way) is goes =
        choose way.up _ _
        (choose r _ _ (kept (taking.denied p flags x k) refl)
        (opens (taking.sent_on (taking.sight pin p class) (taking.wanting flags x w) sequence rest k way) (taking.item_of pin class flags w sequence (Waits way.peer (fresh_id way.peer way.last_id k.pending.rows))) refl
        (rest, inl refl, subst (IsRest e.routes sequence rest) (sym (is way refl)) goes)
        (fresh_apart way.peer (fresh_id way.peer way.last_id k.pending.rows) k.pending.rows (fresh_is_free way.peer way.last_id k.pending.rows few))))
        (kept (taking.denied p flags x k) refl)

    along : (sequence : List As) → News (taking.take_along e (taking.sight pin p class) (taking.wanting flags x w) k sequence)
    along [] = kept (taking.denied p flags x k) refl
    along (d ∷ []) = opens (taking.take_along e (taking.sight pin p class) (taking.wanting flags x w) k (d ∷ [])) (taking.item_of pin class flags w (d ∷ []) (Ready [])) refl tt (λ g i. refl)
    along (d ∷ b ∷ rest) =
        sends (d ∷ b ∷ rest) (b ∷ rest) (is_denied e.deny class b) (toward b e.routes) (way_to (toward b e.routes) k.ways) (λ way is. way_peer (toward b e.routes) k.ways way is) (inr (d, b, rest, refl, refl, refl))

    paths : News (taking.take_path e (taking.sight pin p class) (taking.wanting flags x w) k)
    paths =
        choose (goes_up e.parent class w.sequence) _ _
        (sends [] [] false the_parent (way_to the_parent k.ways) (λ way is. way_peer the_parent k.ways way is) (inl (refl, refl, refl)))
        (along (sequence_or e.own w.sequence))

  wishes : (flags x : ℕ) (wish : Wish) → number_of k.pending p x ≡ None → News (taking.take_wish show e (taking.sight pin p class) now flags x k wish)
  wishes flags x (Expand key pce) none = unchanged (taking.take_wish show e (taking.sight pin p class) now flags x k (Expand key pce)) refl
  wishes flags x (Path w) none = choose (is_full k.pending) _ _ (unchanged (only p (busy flags x) k) refl) (paths flags x w none)

  checks : (r : Checked) → News (taking.take_checked show e pin p class now k r)
  checks (Wrong rp kind value) = unchanged (taking.take_checked show e pin p class now k (Wrong rp kind value)) refl
  checks (Admitted r) = go (number_of k.pending p r.id) refl
    where
      go : (o : Option ℕ) → number_of k.pending p r.id ≡ o → News (taking.take_new show e pin p class now r k o)
      go None none = wishes r.flags r.id r.wish none
      go (Some number) some = unchanged (silent k) refl

  pub take_news : (m : Message) → IsSingle m → News (take c show e pin p class now m k)
  take_news (messages.PcReq []) one = absurd (let none : 0 ≡ 1 = one in omega arith)
  take_news (messages.PcReq (a ∷ [])) one =
      let t = taking.take_asked c show e pin p class now a k in
      subst (λ (os : List Output). (key : RequestKey) × ((h : Row P) → In h t.element.pending.rows → IsOlder P k.pending.rows h ⊎ ((h.1.key ≡ key) × IsNew os h))) (sym (nil_right t.outputs)) (checks (c.check a e.own))
  take_news (messages.PcReq (a ∷ b ∷ rest)) one = absurd (let none : length (a ∷ b ∷ rest) ≡ 1 = one in omega (arith, none))
  take_news (messages.PcRep rs) one = older (take c show e pin p class now (messages.PcRep rs) k) (replies_subs P S c p rs k)
  take_news (messages.PcNtf ns) one = older (take c show e pin p class now (messages.PcNtf ns) k) (notices_subs P S c p ns k)
  take_news (messages.PcErr rs) one = older (take c show e pin p class now (messages.PcErr rs) k) (reports_subs P S c p rs k)
  take_news (messages.Open body) one = unchanged (silent k) refl
  take_news messages.Keepalive one = unchanged (silent k) refl
  take_news (messages.Close why) one = unchanged (silent k) refl
  take_news (messages.Other kind) one = unchanged (silent k) refl
