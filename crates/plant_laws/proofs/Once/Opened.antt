-- The requests that are pending are those that the transcript shows open.
use Rattle.std.proofs.Common.{◌≡◌, ℕ, Bool, true, false, cond, Option, Some, None, List, [], ◌∷◌, inl, inr, sym, ◌∙◌, ap, subst, refl}
use Rattle.std.proofs.lemmas.Bool.{cases_Bool}
use Rattle.plant_model.specs.Types.{As, Peer, Outside, Inner, Request, RequestKey, NetworkParts}
use Rattle.pcep_messages.specs.declared.message.Wish.TheVariants as wishes
use Rattle.disclosure.specs.Shown.{open_of}
use Rattle.request_table.specs.Pending.{Pending, ArePending, key_of}
use Rattle.plant_model.specs.declared.output.Output.{Output}
use Rattle.plant_text.specs.Names.{same_as, parent_as}
use Rattle.plant_model.specs.Names.{set_as}
use Rattle.plant_model.specs.Wire.{Bytes, Codec}
use Rattle.plant_model.specs.Element.{Item, Element}
use Rattle.plant_model.specs.Taking.{sequence_or, goes_up}
use Rattle.plant_model.specs.Parent as parent
use Rattle.plant_model.specs.Parent.{Asking}
use Rattle.plant_text.specs.Settings.{class_of}
use Rattle.plant_model.specs.Settings.{place}
use Rattle.plant_model.specs.State.{State, Deed, Loads, Pops, Takes, Says, Ups, Downs, Clears, Solves, Expires, Hands}
use Rattle.plant_model.specs.Deeds.{put, put_to, puts}
use Rattle.plant_model.specs.Plant.{Pin, Segment, PlantDeed}
use Rattle.plant_laws.specs.Transcript.{Transcript, loaded, loads, pinned, Effect, Keeps, Ends, Begins, effect, after, opened, Delivered}
use Rattle.plant_laws.proofs.Runs.Queues.{same_as_is}
use Rattle.plant_laws.proofs.Runs.Seen.{seen}
use Rattle.plant_laws.proofs.Once.TableAsks.{Moves, IsAsked}
use Rattle.plant_laws.proofs.Once.ElementSteps as lower
use Rattle.plant_laws.proofs.Once.ParentSteps as upper
use Rattle.plant_laws.proofs.Once.Takes.{IsSingle}

-- what is seen of a request, and the moment that opened it
abbrev pub Matches : {U : Type 0} → (U → Transcript → Type 0) → Option U → Option Transcript → Type 0
Matches Good None None = Unit {0}
Matches Good None (Some at) = ⊥
Matches Good (Some u) None = ⊥
Matches Good (Some u) (Some at) = Good u at

pub matches_moved : {U : Type 0} (Good : U → Transcript → Type 0) (New : RequestKey → U → Type 0) (key : RequestKey) (e : Effect) (before now : Option U) (open' : Option Transcript) (m : Transcript) →
    ((u : U) → New key u → Good u m) → Moves New key e before now → Matches Good before open' → Matches Good now (after e open' m)
matches_moved Good New key Keeps before now open' m fresh moves held = subst (λ o. Matches Good o open') (sym moves) held
matches_moved Good New key Ends before now open' m fresh moves held = subst (λ o. Matches Good o None) (sym moves) tt
matches_moved Good New key Begins None None open' m fresh moves held = absurd moves
matches_moved Good New key Begins None (Some u) None m fresh moves held = fresh u moves
matches_moved Good New key Begins None (Some u) (Some at) m fresh moves held = absurd held
matches_moved Good New key Begins (Some v) None open' m fresh moves held = absurd moves
matches_moved Good New key Begins (Some v) (Some u) None m fresh moves held = absurd held
matches_moved Good New key Begins (Some v) (Some u) (Some at) m fresh moves held = subst (λ w. Good w at) moves held

-- every message of requests that was taken had one
abbrev pub single_deed : {S : Type 0} → Deed S → Type 0
single_deed (Takes at p m os) = IsSingle m
single_deed _ = Unit {0}

abbrev pub AreSingle : Transcript → Type 0
AreSingle [] = Unit {0}
AreSingle (d ∷ ds) = single_deed d × AreSingle ds

module _ (c : Codec) (n : NetworkParts) where
  abbrev Core : Type 0
  Core = State Pin Segment

  -- A pending request of an element is that which the moment delivered, and pins the topology that was current then.
  pub record IsRequest (d : As) (p : Peer) (x : ℕ) (u : Item Pin) (at : Transcript) : Type 0 where
    pub request : Request
    pub delivered : Delivered c at d p request
    pub flags' : request.flags ≡ u.flags
    pub id : request.id ≡ x
    pub wish' : request.wish ≡ wishes.Path u.wanted
    pub class' : u.class ≡ class_of n p
    pub number : u.pin.number ≡ loads d at
    pub topology : u.pin.topology ≡ pinned d at
    pub sequence' : u.sequence ≡ cond (goes_up (place n d).parent (class_of n p) u.wanted.sequence) [] (sequence_or d u.wanted.sequence)

  -- one of the parent
  pub record IsUpperRequest (p : Peer) (x : ℕ) (u : Asking) (at : Transcript) : Type 0 where
    pub request : Request
    pub delivered : Delivered c at parent_as p request
    pub flags' : request.flags ≡ u.flags
    pub id : request.id ≡ x
    pub wish' : request.wish ≡ wishes.Path u.wanted

  -- The tables of the elements and of the parent, and the current pins, by the transcript.
  pub record Tables (ds : Transcript) (pending : As → Pending (Item Pin)) (above : Pending Asking) (current : As → Pin) : Type 0 where
    pub elements : (d : As) → ArePending (pending d)
    pub parent : ArePending above
    pub limits : (d : As) → (pending d).limit ≡ 1024
    pub limit : above.limit ≡ 64
    pub nothing : (pending parent_as).rows ≡ []
    pub number : (d : As) → (current d).number ≡ loads d ds
    pub topology : (d : As) → (current d).topology ≡ loaded d ds
    pub rows : (d : As) (p : Peer) (x : ℕ) → same_as d parent_as ≡ false → Matches (IsRequest d p x) (seen lower.core (key_of p x) (pending d).rows) (opened c d p x ds)
    pub asking : (p : Peer) (x : ℕ) → Matches (IsUpperRequest p x) (seen upper.core (key_of p x) above.rows) (opened c parent_as p x ds)

  -- a deed that does nothing to a request
  pub quiet_tables : (e : PlantDeed) (ds : Transcript) (pending pending' : As → Pending (Item Pin)) (above : Pending Asking) (current : As → Pin) →
      ((d : As) (p : Peer) (x : ℕ) → effect c d p x e ≡ Keeps) → ((d : As) → pending' d ≡ pending d) →
      ((d : As) → loads d (e ∷ ds) ≡ loads d ds) → ((d : As) → loaded d (e ∷ ds) ≡ loaded d ds) → Tables ds pending above current → Tables (e ∷ ds) pending' above current
  quiet_tables e ds pending pending' above current keeps same count last held = record {
    elements = λ d. subst ArePending (sym (same d)) (held.elements d);
    parent = held.parent;
    limits = λ d. ap (λ (t : Pending (Item Pin)). t.limit) (same d) ∙ held.limits d;
    limit = held.limit;
    nothing = ap (λ (t : Pending (Item Pin)). t.rows) (same parent_as) ∙ held.nothing;
    number = λ d. held.number d ∙ sym (count d);
    topology = λ d. held.topology d ∙ sym (last d);
    rows = λ d p x low.
        subst (λ f. Matches (IsRequest d p x) (seen lower.core (key_of p x) (pending' d).rows) (after f (opened c d p x ds) (e ∷ ds))) (sym (keeps d p x))
        (subst (λ (t : Pending (Item Pin)). Matches (IsRequest d p x) (seen lower.core (key_of p x) t.rows) (opened c d p x ds)) (sym (same d)) (held.rows d p x low));
    asking = λ p x.
        subst (λ f. Matches (IsUpperRequest p x) (seen upper.core (key_of p x) above.rows) (after f (opened c parent_as p x ds) (e ∷ ds))) (sym (keeps parent_as p x)) (held.asking p x);
  }

  -- a deed of an element
  pub element_tables : (e : PlantDeed) (ds : Transcript) (at : As) (moved : RequestKey → Effect) (New : RequestKey → Item Pin → Type 0) (t : Pending (Item Pin)) (pending pending' : As → Pending (Item Pin)) (above : Pending Asking) (current : As → Pin) →
      same_as at parent_as ≡ false → ((d : As) (p : Peer) (x : ℕ) → effect c d p x e ≡ cond (same_as at d) (moved (key_of p x)) Keeps) →
      ((d : As) → pending' d ≡ cond (same_as at d) t (pending d)) → ((d : As) → loads d (e ∷ ds) ≡ loads d ds) → ((d : As) → loaded d (e ∷ ds) ≡ loaded d ds) →
      ((p : Peer) (x : ℕ) (u : Item Pin) → New (key_of p x) u → IsRequest at p x u (e ∷ ds)) →
      IsAsked lower.core New moved (pending at) t → Tables ds pending above current → Tables (e ∷ ds) pending' above current
  element_tables e ds at moved New t pending pending' above current low effects are count last fresh step held = record {
    elements = λ d. subst ArePending (sym (are d)) (each d (same_as at d) refl);
    parent = held.parent;
    limits = λ d. ap (λ (q : Pending (Item Pin)). q.limit) (are d) ∙ each_limit d (same_as at d) refl;
    limit = held.limit;
    nothing = ap (λ (q : Pending (Item Pin)). q.rows) (are parent_as ∙ ap (λ b. cond b t (pending parent_as)) low) ∙ held.nothing;
    number = λ d. held.number d ∙ sym (count d);
    topology = λ d. held.topology d ∙ sym (last d);
    rows = λ d p x below.
        subst (λ f. Matches (IsRequest d p x) (seen lower.core (key_of p x) (pending' d).rows) (after f (opened c d p x ds) (e ∷ ds))) (sym (effects d p x))
        (subst (λ (q : Pending (Item Pin)). Matches (IsRequest d p x) (seen lower.core (key_of p x) q.rows) (after (cond (same_as at d) (moved (key_of p x)) Keeps) (opened c d p x ds) (e ∷ ds))) (sym (are d))
        (row d p x (same_as at d) refl below));
    asking = λ p x.
        subst (λ f. Matches (IsUpperRequest p x) (seen upper.core (key_of p x) above.rows) (after f (opened c parent_as p x ds) (e ∷ ds)))
        (sym (effects parent_as p x ∙ ap (λ b. cond b (moved (key_of p x)) Keeps) low)) (held.asking p x);
  }
    where
      each : (d : As) (b : Bool) → same_as at d ≡ b → ArePending (cond b t (pending d))
      each d true is = step.pending
      each d false is = held.elements d

      each_limit : (d : As) (b : Bool) → same_as at d ≡ b → (cond b t (pending d)).limit ≡ 1024
      each_limit d true is = step.limit ∙ held.limits at
      each_limit d false is = held.limits d

      row : (d : As) (p : Peer) (x : ℕ) (b : Bool) → same_as at d ≡ b → same_as d parent_as ≡ false →
          Matches (IsRequest d p x) (seen lower.core (key_of p x) (cond b t (pending d)).rows) (after (cond b (moved (key_of p x)) Keeps) (opened c d p x ds) (e ∷ ds))
      row d p x true is below =
          subst (λ z. Matches (IsRequest z p x) (seen lower.core (key_of p x) t.rows) (after (moved (key_of p x)) (opened c z p x ds) (e ∷ ds))) (same_as_is at d is)
          (matches_moved (IsRequest at p x) New (key_of p x) (moved (key_of p x)) (seen lower.core (key_of p x) (pending at).rows) (seen lower.core (key_of p x) t.rows) (opened c at p x ds) (e ∷ ds)
          (fresh p x) (step.moves (key_of p x)) (held.rows at p x low))
      row d p x false is below = held.rows d p x below

  -- a deed of the parent
  pub parent_tables : (e : PlantDeed) (ds : Transcript) (at : As) (moved : RequestKey → Effect) (New : RequestKey → Asking → Type 0) (t : Pending Asking) (pending : As → Pending (Item Pin)) (above : Pending Asking) (current : As → Pin) →
      same_as at parent_as ≡ true → ((d : As) (p : Peer) (x : ℕ) → effect c d p x e ≡ cond (same_as at d) (moved (key_of p x)) Keeps) →
      ((d : As) → loads d (e ∷ ds) ≡ loads d ds) → ((d : As) → loaded d (e ∷ ds) ≡ loaded d ds) →
      ((p : Peer) (x : ℕ) (u : Asking) → New (key_of p x) u → IsUpperRequest p x u (e ∷ ds)) →
      IsAsked upper.core New moved above t → Tables ds pending above current → Tables (e ∷ ds) pending t current
  parent_tables e ds at moved New t pending above current up effects count last fresh step held = record {
    elements = held.elements;
    parent = step.pending;
    limits = held.limits;
    limit = step.limit ∙ held.limit;
    nothing = held.nothing;
    number = λ d. held.number d ∙ sym (count d);
    topology = λ d. held.topology d ∙ sym (last d);
    rows = λ d p x below.
        subst (λ f. Matches (IsRequest d p x) (seen lower.core (key_of p x) (pending d).rows) (after f (opened c d p x ds) (e ∷ ds)))
        (sym (effects d p x ∙ ap (λ b. cond b (moved (key_of p x)) Keeps) (other d below))) (held.rows d p x below);
    asking = λ p x.
        subst (λ f. Matches (IsUpperRequest p x) (seen upper.core (key_of p x) t.rows) (after f (opened c parent_as p x ds) (e ∷ ds)))
        (sym (effects parent_as p x ∙ ap (λ b. cond b (moved (key_of p x)) Keeps) up))
        (matches_moved (IsUpperRequest p x) New (key_of p x) (moved (key_of p x)) (seen upper.core (key_of p x) above.rows) (seen upper.core (key_of p x) t.rows) (opened c parent_as p x ds) (e ∷ ds)
        (fresh p x) (step.moves (key_of p x)) (held.asking p x));
  }
    where
      other : (d : As) → same_as d parent_as ≡ false → same_as at d ≡ false
      other d below =
          elim (cases_Bool (same_as at d)) [
            | inr apart ↦ apart
            | inl same ↦
                let one : at ≡ d = same_as_is at d same in
                absurd (let out : true ≡ false = sym up ∙ ap (λ z. same_as z parent_as) one ∙ below in cc)
          ]

  -- sending changes neither elements nor the parent
  put_elements : (at : As) (bytes : Bytes) (s : Core) (to : Peer) → (put_to Pin Segment c n open_of at bytes s to).elements ≡ s.elements
  put_elements at bytes s (Outside i) = refl
  put_elements at bytes s (Inner b) = refl

  pub puts_elements : (at : As) (os : List Output) (s : Core) → (puts Pin Segment c n open_of at os s).elements ≡ s.elements
  puts_elements at [] s = refl
  puts_elements at (o ∷ os) s = puts_elements at os (put Pin Segment c n open_of at o s) ∙ put_elements at (c.text o.message) s o.to

  put_parent : (at : As) (bytes : Bytes) (s : Core) (to : Peer) → (put_to Pin Segment c n open_of at bytes s to).parent ≡ s.parent
  put_parent at bytes s (Outside i) = refl
  put_parent at bytes s (Inner b) = refl

  pub puts_parent : (at : As) (os : List Output) (s : Core) → (puts Pin Segment c n open_of at os s).parent ≡ s.parent
  puts_parent at [] s = refl
  puts_parent at (o ∷ os) s = puts_parent at os (put Pin Segment c n open_of at o s) ∙ put_parent at (c.text o.message) s o.to

  abbrev pub Holds : Transcript → Core → Type 0
  Holds ds s = Tables ds (λ d. (s.elements d).pending) s.parent.pending s.current

  pub holds_same : (ds : Transcript) (s t : Core) → t.elements ≡ s.elements → t.parent ≡ s.parent → t.current ≡ s.current → Holds ds s → Holds ds t
  holds_same ds s t elements parent' current held =
      subst (λ (f : As → Element Pin Segment). Tables ds (λ d. (f d).pending) t.parent.pending t.current) (sym elements)
      (subst (λ (q : parent.Parent). Tables ds (λ d. (s.elements d).pending) q.pending t.current) (sym parent')
      (subst (λ (f : As → Pin). Tables ds (λ d. (s.elements d).pending) s.parent.pending f) (sym current) held))

  pub set_pending : (at d : As) (k : Element Pin Segment) (s : Core) → (set_as at k s.elements d).pending ≡ cond (same_as at d) k.pending (s.elements d).pending
  set_pending at d k s = elim (cases_Bool (same_as at d)) [ inl own ↦ rw own refl | inr other ↦ rw other refl ]
