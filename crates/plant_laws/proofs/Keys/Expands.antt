-- A request to expand a key gets the segment, where its peer may see it, and else one and the same refusal.
use Rattle.std.proofs.Common.{◌≡◌, ◌⊎◌, ◌<◌, ℕ, ◌+◌, Bool, true, false, cond, ◌==◌, ◌&&◌, nat_lt, List, [], ◌∷◌, ◌++◌, Option, Some, None, sym, ◌∙◌, ap, subst, inl, inr, refl, arith}
use Rattle.std.specs.Prelude.{if◌then◌else◌}
use Rattle.std.proofs.lemmas.Bool.{eqb-true, eq-eqb}
use Rattle.plant_model.specs.Types.{As, Addr, Peer, Asked, Answer, Request, Wish, RequestKey, Deny, Issued, NetworkParts, ElementRow}
use Rattle.pcep_messages.specs.declared.message.Message.TheVariants as messages
use Rattle.pcep_messages.specs.declared.message.Wish.TheVariants as wishes
use Rattle.request_table.specs.Pending.{number_among, number_of, key_of, same_key}
use Rattle.request_table.proofs.KeyLemmas.{same_key_is}
use Rattle.disclosure.specs.Policy.{can_expand}
use Rattle.disclosure.specs.Shown.{open_of}
use Rattle.path_keys.specs.Keys.{is_live, segment_among, segment_of}
use Rattle.path_keys.proofs.KeyLemmas.{live_if}
use Rattle.plant_model.specs.declared.output.Output.{Output}
use Rattle.plant_text.specs.Names.{same_as, parent_as}
use Rattle.plant_model.specs.Names.{same_addr}
use Rattle.plant_model.specs.Wire.{Codec, Checked, Admitted}
use Rattle.plant_model.specs.Writing.{no_key}
use Rattle.plant_model.specs.Element.{Row}
use Rattle.plant_model.specs.Taking.{take, take_checked, take_new, take_wish, expansion, expansion_of, sight}
use Rattle.plant_text.specs.Settings.{deny_at, row_of, class_of, life}
use Rattle.plant_model.specs.Settings.{place, place_from}
use Rattle.plant_model.specs.declared.route.Route.{Route}
use Rattle.plant_model.specs.Routes.{routes}
use Rattle.plant_model.specs.State.{Takes, Pops}
use Rattle.plant_model.specs.Plant.{Pin, Segment, Plant, Entry, Run, deeds_of}
use Rattle.plant_model.specs.Laws.{IsCodec, IsNetwork}
use Rattle.plant_laws.specs.Transcript.{Transcript, Within, opened}
use Rattle.plant_laws.specs.Keys.{clock_at, last_keys, MaySee, one_reply, shown_answer, ExpandsRightlyIn}
use Rattle.plant_laws.proofs.Runs.Lists.{Stands, contains_of, stands_of}
use Rattle.plant_laws.proofs.Keys.KeyedRuns.{KeysAre, run_keys, taken_from}
use Rattle.dom_base.specs.AddrOrder.{rank}
use Rattle.dom_base.proofs.Ranks.{same_addr as one_place}
use Rattle.plant_laws.proofs.Once.OpenTables.{open_is_pending}
use Rattle.plant_laws.specs.Runs.{InRuns}

not_both : {X : Type 0} (t : Bool) → t ≡ true → t ≡ false → X
not_both true e f = cc
not_both false e f = cc

own_is : (d : As) (deny : List Deny) (routes : List Route) (o : Option ElementRow) → (place_from d deny routes o).own ≡ d
own_is d deny routes None = refl
own_is d deny routes (Some r) = refl

-- what a number stands for among keys
record StandsFor (life now number : ℕ) (keys : List (Issued Segment)) (segment : Segment) : Type 0 where
  pub issued : Issued Segment
  pub stands : Stands issued keys
  pub number' : issued.number ≡ number
  pub live : is_live life now issued ≡ true
  pub is : issued.segment ≡ segment

and_left : (a b : Bool) → (a && b) ≡ true → a ≡ true
and_left true b e = refl
and_left false b e = e

and_right : (a b : Bool) → (a && b) ≡ true → b ≡ true
and_right true b e = e
and_right false b e = let no : false ≡ true = e in cc

and_both : (a b : Bool) → a ≡ true → b ≡ true → (a && b) ≡ true
and_both true b e f = f
and_both false b e f = e

some_one : {A : Type 0} (x y : A) → Some x ≡ Some y → x ≡ y
some_one x y e = cc

found : (life now number : ℕ) (keys : List (Issued Segment)) (segment : Segment) → segment_among life now number keys ≡ Some segment → StandsFor life now number keys segment
found life now number [] segment e = cc
found life now number (key ∷ keys) segment e = go ((key.number == number) && is_live life now key) refl e (found life now number keys segment)
  where
    go : (b : Bool) → ((key.number == number) && is_live life now key) ≡ b → (if b then Some key.segment else segment_among life now number keys) ≡ Some segment →
        (segment_among life now number keys ≡ Some segment → StandsFor life now number keys segment) → StandsFor life now number (key ∷ keys) segment
    go true t f later = record {
      issued = key;
      stands = inl refl;
      number' = eqb-true key.number number (and_left (key.number == number) (is_live life now key) t);
      live = and_right (key.number == number) (is_live life now key) t;
      is = some_one key.segment segment f;
    }
    go false t f later = let r = later f in record { issued = r.issued; stands = inr r.stands; number' = r.number'; live = r.live; is = r.is }

none_found : (life now number : ℕ) (keys : List (Issued Segment)) → segment_among life now number keys ≡ None → (x : Issued Segment) → Stands x keys → x.number ≡ number → is_live life now x ≡ true → ⊥
none_found life now number [] e x stands is live = absurd stands
none_found life now number (key ∷ keys) e x stands is live = go ((key.number == number) && is_live life now key) refl e stands (none_found life now number keys)
  where
    go : (b : Bool) → ((key.number == number) && is_live life now key) ≡ b → (if b then Some key.segment else segment_among life now number keys) ≡ None → Stands x (key ∷ keys) →
        (segment_among life now number keys ≡ None → (x : Issued Segment) → Stands x keys → x.number ≡ number → is_live life now x ≡ true → ⊥) → ⊥
    go true t f here later = cc
    go false t f (inl same) later =
        not_both ((key.number == number) && is_live life now key)
        (and_both (key.number == number) (is_live life now key) (eq-eqb key.number number (ap (λ (k : Issued Segment). k.number) (sym same) ∙ is)) (ap (λ (k : Issued Segment). is_live life now k) (sym same) ∙ live)) t
    go false t f (inr there) later = later f x there is live

-- a row of the number that is found
numbered : (key : RequestKey) (hs : List (Row Pin)) (number : ℕ) → number_among key hs ≡ Some number → (h : Row Pin) × Stands h hs × (key ≡ h.1.key)
numbered key [] number e = cc
numbered key (h ∷ hs) number e = go (same_key key h.1.key) refl e (numbered key hs number)
  where
    go : (b : Bool) → same_key key h.1.key ≡ b → (if b then Some h.0 else number_among key hs) ≡ Some number → (number_among key hs ≡ Some number → (z : Row Pin) × Stands z hs × (key ≡ z.1.key)) →
        (z : Row Pin) × Stands z (h ∷ hs) × (key ≡ z.1.key)
    go true same f later = (h, inl refl, same_key_is key h.1.key same)
    go false same f later = let r = later f in (r.0, inr r.1, r.2)

addr_is : (a b : Addr) → same_addr a b ≡ true → a ≡ b
addr_is a b e = one_place a b (eqb-true (rank a) (rank b) e)

less_of : (a b : ℕ) → nat_lt a b ≡ true → a < b
less_of a b e = grind arith

module _ (c : Codec) (codec : IsCodec c) (n : NetworkParts) (network : IsNetwork n) (d : As) (upper : same_as d parent_as ≡ false) where
  -- what the moment before has of the clock and the keys
  record Before (older : Transcript) (es : List Entry) : Type 0 where
    pub clock : clock_at older ≡ clock_at (deeds_of c n es)
    pub keys : last_keys d older ≡ last_keys d (deeds_of c n es)
    pub open' : (p : Peer) (x : ℕ) → opened c d p x older ≡ opened c d p x (deeds_of c n es)

  before_is : (older : Transcript) (es : List Entry) → (older ≡ deeds_of c n es) ⊎ ((a : As) × (b : As) × (older ≡ Pops a b ∷ deeds_of c n es)) → Before older es
  before_is older es (inl is) = record { clock = ap clock_at is; keys = ap (λ (l : Transcript). last_keys d l) is; open' = λ p x. ap (λ (l : Transcript). opened c d p x l) is }
  before_is older es (inr is) = record { clock = ap clock_at is.2; keys = ap (λ (l : Transcript). last_keys d l) is.2; open' = λ p x. ap (λ (l : Transcript). opened c d p x l) is.2 }

  -- a request that is not open is not pending
  not_pending : (es : List Entry) (s : Plant) → Run c n es s → (p : Peer) (x : ℕ) → opened c d p x (deeds_of c n es) ≡ None → number_of (s.elements d).pending p x ≡ None
  not_pending es s run p x none = go (number_of (s.elements d).pending p x) refl
    where
      go : (o : Option ℕ) → number_of (s.elements d).pending p x ≡ o → o ≡ None
      go None e = refl
      go (Some number) e =
          let r = numbered (key_of p x) (s.elements d).pending.rows number e in
          let is = (open_is_pending c codec n network es s run).taken d r.0 (contains_of (s.elements d).pending.rows r.0 r.1) in
          let open' = subst (λ (k : RequestKey). opened c d k.peer k.id (deeds_of c n es) ≡ Some is.at) (sym r.2) is.is_open in
          let no : Some is.at ≡ None = sym open' ∙ none in
          cc

  abbrev reply_of : Peer → Request → Answer → List Output
  reply_of p r answer = one_reply p r answer

  -- what a request to expand is answered
  answered : (s : Plant) (p : Peer) (a : Asked) (r : Request) (key : ℕ) (pce : Addr) → c.check a d ≡ Admitted r → r.wish ≡ wishes.Expand key pce → number_of (s.elements d).pending p r.id ≡ None →
      (take c open_of (place n d) (s.current d) p (class_of n p) s.clock (messages.PcReq (a ∷ [])) (s.elements d)).outputs
      ≡ one_reply p r (expansion open_of (place n d) (class_of n p) s.clock key pce (s.elements d))
  answered s p a r key pce admitted wish none =
      let k = s.elements d in
      let e = place n d in
      let checked : Checked → List Output = λ z. (take_checked open_of e (s.current d) p (class_of n p) s.clock k z).outputs ++ [] in
      let new : Option ℕ → List Output = λ o. (take_new open_of e (s.current d) p (class_of n p) s.clock r k o).outputs ++ [] in
      let wished : Wish → List Output = λ w. (take_wish open_of e (sight (s.current d) p (class_of n p)) s.clock r.flags r.id k w).outputs ++ [] in
      ap checked (ap (λ (z : As). c.check a z) (own_is d (deny_at d n.deny) (routes n d) (row_of d n.elements)) ∙ admitted) ∙ ap new none ∙ ap wished wish

  abbrev Right : Transcript → Peer → Request → ℕ → Addr → List Output → Type 0
  Right older p r key pce os =
      ((segment : Segment) × MaySee n older d p key pce segment × (os ≡ one_reply p r (shown_answer segment)))
      ⊎ (((segment : Segment) → ¬ MaySee n older d p key pce segment) × (os ≡ one_reply p r no_key))

  -- by the keys as they are
  by_keys : (es : List Entry) (s : Plant) → KeysAre c n (deeds_of c n es) s → (older : Transcript) → Before older es → (p : Peer) (r : Request) (key : ℕ) (pce : Addr) (os : List Output) →
      os ≡ one_reply p r (expansion open_of (place n d) (class_of n p) s.clock key pce (s.elements d)) → Right older p r key pce os
  by_keys es s keys older before p r key pce os is = go (same_addr pce (place n d).id) (can_expand (class_of n p)) (segment_of (s.elements d).keys s.clock key) refl refl refl
    where
      clock : clock_at older ≡ s.clock
      clock = before.clock ∙ keys.clock

      answer : Bool → Bool → Option Segment → Answer
      answer own may o = cond own (cond may (expansion_of open_of o) no_key) no_key

      os_is : (own may : Bool) (o : Option Segment) → same_addr pce (place n d).id ≡ own → can_expand (class_of n p) ≡ may → segment_of (s.elements d).keys s.clock key ≡ o → os ≡ one_reply p r (answer own may o)
      os_is own may o e f g =
          is ∙ ap (λ (t : Bool). one_reply p r (answer t (can_expand (class_of n p)) (segment_of (s.elements d).keys s.clock key))) e
          ∙ ap (λ (t : Bool). one_reply p r (answer own t (segment_of (s.elements d).keys s.clock key))) f ∙ ap (λ (z : Option Segment). one_reply p r (answer own may z)) g

      live_then : (x : Issued Segment) → is_live (s.elements d).keys.life s.clock x ≡ true → clock_at older < x.at.0 + life n d
      live_then x live =
          subst (λ (z : ℕ). z < x.at.0 + life n d) (sym clock) (subst (λ (z : ℕ). s.clock < x.at.0 + z) (keys.life' d) (less_of s.clock (x.at.0 + (s.elements d).keys.life) live))

      go : (own may : Bool) (o : Option Segment) → same_addr pce (place n d).id ≡ own → can_expand (class_of n p) ≡ may → segment_of (s.elements d).keys s.clock key ≡ o → Right older p r key pce os
      go false may o e f g = inr (λ segment sees. not_both (same_addr pce (place n d).id) (eq-eqb (rank pce) (rank (place n d).id) (ap rank sees.own)) e, os_is false may o e f g)
      go true false o e f g = inr (λ segment sees. not_both (can_expand (class_of n p)) sees.may f, os_is true false o e f g)
      go true true None e f g =
          inr (
            λ segment sees.
                let live : s.clock < sees.issued.at.0 + life n d = subst (λ (z : ℕ). z < sees.issued.at.0 + life n d) clock sees.live in
                let stands = keys.all d upper sees.issued (subst (λ (l : List (Issued Segment)). Stands sees.issued l) before.keys (stands_of (last_keys d older) sees.issued sees.is_issued)) live in
                none_found (s.elements d).keys.life s.clock key (s.elements d).keys.issued g sees.issued stands sees.number
                (live_if (s.elements d).keys.life s.clock sees.issued (subst (λ (z : ℕ). s.clock < sees.issued.at.0 + z) (sym (keys.life' d)) live)),
            os_is true true None e f g,
          )
      go true true (Some segment) e f g =
          let x = found (s.elements d).keys.life s.clock key (s.elements d).keys.issued segment g in
          inl (
            segment,
            record {
              own = addr_is pce (place n d).id e;
              may = f;
              issued = x.issued;
              is_issued = contains_of (last_keys d older) x.issued (subst (λ (l : List (Issued Segment)). Stands x.issued l) (sym before.keys) (keys.kept d upper x.issued x.stands));
              number = x.number';
              live = live_then x.issued x.live;
              stands = x.is;
            },
            os_is true true (Some segment) e f g,
          )

  expands : (es : List Entry) (s : Plant) → Run c n es s → (p : Peer) (a : Asked) (os : List Output) (older : Transcript) → Within (Takes d p (messages.PcReq (a ∷ [])) os ∷ older) (deeds_of c n es) →
      (r : Request) (key : ℕ) (pce : Addr) → c.check a d ≡ Admitted r → r.wish ≡ wishes.Expand key pce → opened c d p r.id older ≡ None → Right older p r key pce os
  expands es s run p a os older within r key pce admitted wish none =
      let from = taken_from c n es s run d p (messages.PcReq (a ∷ [])) os older upper within in
      let before = before_is older from.entries from.before in
      by_keys from.entries from.state (run_keys c n from.entries from.state from.run) older before p r key pce os
      (from.outputs ∙ answered from.state p a r key pce admitted wish (not_pending from.entries from.state from.run p r.id (sym (before.open' p r.id) ∙ none)))

pub expands_rightly : InRuns ExpandsRightlyIn
expands_rightly c codec n network es s run d p a os older other within r key pce admitted wish none =
    expands c codec n network d (upper (same_as d parent_as) refl) es s run p a os older within r key pce admitted wish none
  where
    upper : (b : Bool) → same_as d parent_as ≡ b → b ≡ false
    upper true e = absurd (other (ap (λ (z : ℕ). let x : As = record { 0 = z } in x) (eqb-true d.0 parent_as.0 e)))
    upper false e = refl
