-- Steps of one member are those of the model.
use Rattle.std.proofs.Common.{◌≡◌, ℕ, Bool, true, false, cond, is_some, Option, Some, None, Result, Ok, Err, List, [], ◌∷◌, ◌++◌, refl, sym, ◌∙◌, ap, ap₂, subst}
use Rattle.std.specs.Prelude.{IfOk, IfSome}
use Rattle.pce_common.specs.plant_model.Types.{As, Peer, NoMemory, Hop, Message, NetworkParts}
use Rattle.plant_text.specs.Names.{same_as, parent_as}
use Rattle.plant_text.specs.Settings.{class_of, is_element}
use Rattle.pce_common.specs.plant_model.declared.output.Lost.{Lost}
use Rattle.pce_common.specs.plant_model.Names.{set_as}
use Rattle.pce_common.specs.plant_model.RealWire.{wire}
use Rattle.pce_common.specs.plant_model.Element as element
use Rattle.pce_common.specs.plant_model.Element.{Element, Losing, ElementSettings, Taken, down_of, handed_lost, next_lost_of}
use Rattle.pce_common.specs.plant_model.Parent as parent
use Rattle.pce_common.specs.plant_model.Settings.{place, family}
use Rattle.pce_common.specs.plant_model.Taking.{take}
use Rattle.pce_common.specs.Membership.{Membership, Replied, Standing, given, is_member, raised, fallen, lost_at, with_element, with_parent, HandsOut}
use Rattle.pce_common.specs.Owed.{count_by_asker, is_peer, owed}
use Rattle.pce_element.specs.Plans.{Planned}
use Rattle.pce_element.specs.Seen.{Seen}
use Rattle.pce_parent.specs.Plans as border
use Rattle.pce_parent.specs.Seen as above
use Rattle.network_members.specs.Elements.{at_domain, element_or, current_or}
use Rattle.network_members.specs.Becoming.{Becomes, HasElement, owed_by, taken_by, unchanged}
use Rattle.network_members.specs.Tiers.{Tiers, AreSet, Become, Takes, planned_below, members_of, lost_in, standing_of}
use Rattle.network_members.specs.declared.plan.MemberPlan.{MemberPlan}
use Rattle.network_members.specs.declared.plan.MemberPlan.TheVariants as plan
use Rattle.network_members.proofs.DomainLemmas.{found_own, same_as_is, as_self, set_again}
use Rattle.network_members.proofs.BecomingLemmas.{there_one}
use Rattle.network_members.proofs.RisingDomains.{element_is}
use Rattle.network_members.proofs.TierLemmas.{placed_at, goes_below, goes_above, one_is, become_as, element_again, losing_at, lost_parent}

-- the number of the parent is one
pub is_upper : (d : As) → same_as d parent_as ≡ true → d ≡ parent_as
is_upper d is = same_as_is d parent_as is

-- where they stand then
pub stands_as : {P : Type 0} {S : Type 0} (first : As → P) (old new : Tiers P S) (ms : Membership P S) (lost : As → List Lost) → Become first old ms lost new →
    standing_of first new ≡ record { network = old.network; seen = ms; lost = lost }
stands_as {P} {S} first old new ms lost is =
    ap₂ (λ (n : NetworkParts) (x : Membership P S). let s : Standing P S = record { network = n; seen = x; lost = lost_in new } in s) is.network is.seen
    ∙ ap (λ (l : As → List Lost). let s : Standing P S = record { network = old.network; seen = ms; lost = l } in s) is.lost_is

-- ---- lost requests

abbrev pub first_lost : List Lost → Option Lost
first_lost [] = None
first_lost (x ∷ xs) = Some x

abbrev pub rest_lost : List Lost → List Lost
rest_lost [] = []
rest_lost (x ∷ xs) = xs

pub hands_first : (d : As) (old new : As → List Lost) (r : Option Lost) → r ≡ first_lost (old d) → new ≡ set_as d (rest_lost (old d)) old → HandsOut d old r new
hands_first d old new r is rest = go (old d) refl
  where
    go : (xs : List Lost) → old d ≡ xs → HandsOut d old r new
    go [] none =
        subst (λ (o : Option Lost). HandsOut d old o new) (sym (is ∙ ap first_lost none))
        (none, rest ∙ set_again d (rest_lost (old d)) old (none ∙ sym (ap rest_lost none)))
    go (x ∷ xs) some =
        let left : new ≡ set_as d xs old = rest ∙ ap (λ (ys : List Lost). set_as d (rest_lost ys) old) some in
        let here : new d ≡ xs = ap (λ (g : As → List Lost). g d) left ∙ ap (λ (c : Bool). cond c xs (old d)) (as_self d) in
        subst (λ (o : Option Lost). HandsOut d old o new) (sym (is ∙ ap first_lost some))
        (some ∙ ap (λ (ys : List Lost). x ∷ ys) (sym here), left ∙ ap (λ (ys : List Lost). set_as d ys old) (sym here))

pub handed_above : (k : parent.Parent) (xs : List Lost) → (parent.handed_lost k xs).0 ≡ first_lost xs
handed_above k [] = refl
handed_above k (x ∷ xs) = refl

pub rest_above : (k : parent.Parent) (xs : List Lost) → (parent.handed_lost k xs).1 ≡ record { parent = k; lost = rest_lost xs }
rest_above k [] = refl
rest_above k (x ∷ xs) = refl

module _ {P : Type 0} {S : Type 0} (initial : As → P) (show : S → List Hop) where
  pub has_element : (t : Tiers P S) (d : As) → AreSet t → is_element t.network d ≡ true → HasElement d t.elements
  has_element t d are is = sym (element_is t.network d t.elements are.domains) ∙ is

  -- ---- nothing changes

  pub keeps_below : (d : As) (t : Tiers P S) (es : List (Seen P S)) → Becomes d unchanged t.elements es → same_as d parent_as ≡ false → Become initial t (members_of initial t) (lost_in t) (record t { elements = es })
  keeps_below d t es b below =
      become_as initial t (record t { elements = es }) _ (members_of initial t) _ (lost_in t)
      (element_again d ((members_of initial t).elements d) (members_of initial t) refl) (set_again d (lost_in t d) (lost_in t) refl)
      (goes_below d unchanged t es b below initial)

  pub keeps_above : (t : Tiers P S) (s : above.Seen) → above.SameButRoom t.parent s → Become initial t (members_of initial t) (lost_in t) (record t { parent = s })
  keeps_above t s same =
      become_as initial t (record t { parent = s }) _ (members_of initial t) _ (lost_in t) refl
      (set_again parent_as t.parent.losing.lost (lost_in t) (lost_parent t parent_as (as_self parent_as)))
      (goes_above (λ l. l) t s same initial)

  -- ---- a message

  module _ (d : As) (p : Peer) (now : ℕ) (m : Message) (t : Tiers P S) where
    abbrev does : Replied P S
    does = given wire t.network show d p now m (members_of initial t)

    abbrev below_does : Taken P S → Replied P S
    below_does r = record { members = with_element d r.element (members_of initial t); outputs = r.outputs }

    abbrev above_does : parent.ParentTaken → Replied P S
    above_does r = record { members = with_parent r.parent (members_of initial t); outputs = r.outputs }

    abbrev taken_there : Taken P S
    taken_there = take wire show (place t.network d) ((members_of initial t).current d) p (class_of t.network p) now m ((members_of initial t).elements d)

    abbrev given_there : parent.ParentTaken
    given_there = parent.take wire (family t.network) p m t.parent.losing.parent

    does_below : same_as d parent_as ≡ false → does ≡ below_does taken_there
    does_below below = ap (λ (b : Bool). cond b (above_does given_there) (below_does taken_there)) below

    does_above : same_as d parent_as ≡ true → does ≡ above_does given_there
    does_above upper = ap (λ (b : Bool). cond b (above_does given_there) (below_does taken_there)) upper

    pub refused_below : {W : Type 0} {D : Type 0} → (es : List (Seen P S)) (e : NoMemory) → Becomes d unchanged t.elements es → same_as d parent_as ≡ false → Takes initial show d p now m t (let z : Result (MemberPlan W P S D) NoMemory = Err e in z) (record t { elements = es })
    refused_below es e b below = record { same = keeps_below d t es b below; fits = tt; next = tt; sends = tt }

    -- what the element of the domain does
    taken_is : (one : Seen P S) (r : Taken P S) → AreSet t → at_domain d t.elements ≡ Some one → IfSome (at_domain d t.elements) (λ e. r ≡ taken_by show p (class_of t.network p) now m e) → r ≡ taken_there
    taken_is one r are found taken =
        let e : r ≡ taken_by show p (class_of t.network p) now m one = subst (λ (o : Option (Seen P S)). IfSome o (λ x. r ≡ taken_by show p (class_of t.network p) now m x)) found taken in
        e
        ∙ ap (λ (x : ElementSettings). take wire show x one.current p (class_of t.network p) now m one.losing.element) (placed_at t.network d t.elements one are.places found ∙ ap (place t.network) (found_own d t.elements one found))
        ∙ ap (λ (x : P). take wire show (place t.network d) x p (class_of t.network p) now m one.losing.element) (ap (current_or initial d) (sym found))
        ∙ ap (λ (x : Element P S). take wire show (place t.network d) ((members_of initial t).current d) p (class_of t.network p) now m x) (ap (element_or t.network t.clock d) (sym found))

    pub takes_below : {W : Type 0} {D : Type 0} → (es : List (Seen P S)) (x : Planned P S D) → AreSet t → Becomes d unchanged t.elements es → same_as d parent_as ≡ false → at_domain d es ≡ Some x.from →
        IfSome (at_domain d t.elements) (λ e. x.taken ≡ taken_by show p (class_of t.network p) now m e) → Takes initial show d p now m t (let z : Result (MemberPlan W P S D) NoMemory = Ok (plan.Element d x) in z) (record t { elements = es })
    takes_below es x are b below from taken =
        let same = keeps_below d t es b below in
        let is : x.taken ≡ taken_there = taken_is b.one x.taken are b.found taken in
        record {
          same = same;
          fits = (below, from);
          next = ap₂ (λ (k : Element P S) (ms : Membership P S). with_element d k ms) (ap (λ (r : Taken P S). r.element) is) same.seen ∙ sym (ap (λ (r : Replied P S). r.members) (does_below below));
          sends = ap (λ (r : Taken P S). r.outputs) is ∙ sym (ap (λ (r : Replied P S). r.outputs) (does_below below));
        }

    pub refused_above : {W : Type 0} {D : Type 0} → (s : above.Seen) (e : NoMemory) → above.SameButRoom t.parent s → Takes initial show d p now m t (let z : Result (MemberPlan W P S D) NoMemory = Err e in z) (record t { parent = s })
    refused_above s e same = record { same = keeps_above t s same; fits = tt; next = tt; sends = tt }

    pub takes_above : {W : Type 0} {D : Type 0} → (s : above.Seen) (x : border.Planned) → AreSet t → above.SameButRoom t.parent s → same_as d parent_as ≡ true → x.from ≡ s →
        x.given ≡ parent.take wire t.parent.family p m t.parent.losing.parent → Takes initial show d p now m t (let z : Result (MemberPlan W P S D) NoMemory = Ok (plan.Parent x) in z) (record t { parent = s })
    takes_above s x are keep upper from given_is =
        let same = keeps_above t s keep in
        let is : x.given ≡ given_there = given_is ∙ ap (λ (f : parent.Family). parent.take wire f p m t.parent.losing.parent) are.is_family in
        record {
          same = same;
          fits = from;
          next = ap₂ (λ (k : parent.Parent) (ms : Membership P S). with_parent k ms) (ap (λ (r : parent.ParentTaken). r.parent) is) same.seen ∙ sym (ap (λ (r : Replied P S). r.members) (does_above upper));
          sends = ap (λ (r : parent.ParentTaken). r.outputs) is ∙ sym (ap (λ (r : Replied P S). r.outputs) (does_above upper));
        }

  -- ---- plans are made

  pub makes_below : (d : As) (k : Element P S) (t : Tiers P S) (es : List (Seen P S)) → Becomes d (λ l. record l { element = k }) t.elements es → same_as d parent_as ≡ false →
      Become initial t (with_element d k (members_of initial t)) (lost_in t) (record t { elements = es })
  makes_below d k t es b below =
      become_as initial t (record t { elements = es }) _ (with_element d k (members_of initial t)) _ (lost_in t) refl (set_again d (lost_in t d) (lost_in t) refl)
      (goes_below d (λ l. record l { element = k }) t es b below initial)

  pub makes_above : (k : parent.Parent) (t : Tiers P S) (s : above.Seen) → above.SameButRoom (above.with_parent k t.parent) s → Become initial t (with_parent k (members_of initial t)) (lost_in t) (record t { parent = s })
  makes_above k t s same =
      become_as initial t (record t { parent = s }) _ (with_parent k (members_of initial t)) _ (lost_in t) refl
      (set_again parent_as t.parent.losing.lost (lost_in t) (lost_parent t parent_as (as_self parent_as)))
      (goes_above (λ l. record l { parent = k }) t s same initial)

  -- ---- sessions

  module _ (d : As) (p : Peer) (t : Tiers P S) where
    abbrev ms : Membership P S
    ms = members_of initial t

    pub rises_below : (es : List (Seen P S)) → Becomes d (λ l. record l { element = element.upped p l.element }) t.elements es → same_as d parent_as ≡ false → Become initial t (raised d p ms) (lost_in t) (record t { elements = es })
    rises_below es b below =
        become_as initial t (record t { elements = es }) _ (raised d p ms) _ (lost_in t)
        (sym (ap (λ (c : Bool). cond c (with_parent (parent.upped p ms.parent) ms) (with_element d (element.upped p (ms.elements d)) ms)) below))
        (set_again d (lost_in t d) (lost_in t) refl)
        (goes_below d (λ l. record l { element = element.upped p l.element }) t es b below initial)

    pub rises_above : (s : above.Seen) → above.SameButRoom (above.with_parent (parent.upped p t.parent.losing.parent) t.parent) s → same_as d parent_as ≡ true → Become initial t (raised d p ms) (lost_in t) (record t { parent = s })
    rises_above s same upper =
        become_as initial t (record t { parent = s }) _ (raised d p ms) _ (lost_in t)
        (sym (ap (λ (c : Bool). cond c (with_parent (parent.upped p ms.parent) ms) (with_element d (element.upped p (ms.elements d)) ms)) upper)) refl
        (makes_above (parent.upped p t.parent.losing.parent) t s same)

    pub falls_below : (es : List (Seen P S)) → Becomes d (down_of p) t.elements es → same_as d parent_as ≡ false → lost_in t d ≡ [] → Become initial t (fallen d p ms) (set_as d (lost_at d p ms) (lost_in t)) (record t { elements = es })
    falls_below es b below none =
        become_as initial t (record t { elements = es }) _ (fallen d p ms) _ (set_as d (lost_at d p ms) (lost_in t))
        (sym (ap (λ (c : Bool). cond c (with_parent (parent.downed p ms.parent).parent ms) (with_element d (element.downed p (ms.elements d)).element ms)) below))
        (ap (λ (xs : List Lost). set_as d xs (lost_in t)) (ap (λ (xs : List Lost). xs ++ element.lost p (ms.elements d).pending.rows) none ∙ sym (ap (λ (c : Bool). cond c (parent.lost p ms.parent.pending.rows) (element.lost p (ms.elements d).pending.rows)) below)))
        (goes_below d (down_of p) t es b below initial)

    pub falls_above : (s : above.Seen) → above.SameButRoom (above.with_losing (parent.down_of p t.parent.losing) t.parent) s → same_as d parent_as ≡ true → lost_in t d ≡ [] → Become initial t (fallen d p ms) (set_as d (lost_at d p ms) (lost_in t)) (record t { parent = s })
    falls_above s same upper none =
        become_as initial t (record t { parent = s }) _ (fallen d p ms) _ (set_as d (lost_at d p ms) (lost_in t))
        (sym (ap (λ (c : Bool). cond c (with_parent (parent.downed p ms.parent).parent ms) (with_element d (element.downed p (ms.elements d)).element ms)) upper))
        (ap (λ (a : As). set_as a (t.parent.losing.lost ++ parent.lost p ms.parent.pending.rows) (lost_in t)) (sym (is_upper d upper))
        ∙ ap (λ (xs : List Lost). set_as d xs (lost_in t))
        (ap (λ (xs : List Lost). xs ++ parent.lost p ms.parent.pending.rows) (sym (lost_parent t d upper) ∙ none)
        ∙ sym (ap (λ (c : Bool). cond c (parent.lost p ms.parent.pending.rows) (element.lost p (ms.elements d).pending.rows)) upper)))
        (goes_above (parent.down_of p) t s same initial)

  -- ---- lost requests are handed out

  pub handed_is : (k : Element P S) (xs : List Lost) → (handed_lost k xs).0 ≡ first_lost xs
  handed_is k [] = refl
  handed_is k (x ∷ xs) = refl

  pub handed_rest : (k : Element P S) (xs : List Lost) → (handed_lost k xs).1 ≡ record { element = k; lost = rest_lost xs }
  handed_rest k [] = refl
  handed_rest k (x ∷ xs) = refl

  module _ (d : As) (t : Tiers P S) (r : Option Lost) where
    pub hands_below : (es : List (Seen P S)) → Becomes d (λ l. (next_lost_of l).1) t.elements es → same_as d parent_as ≡ false → IfSome (at_domain d t.elements) (λ e. r ≡ (next_lost_of e.losing).0) →
        Become initial t (members_of initial t) (lost_in (record t { elements = es })) (record t { elements = es }) × HandsOut d (lost_in t) r (lost_in (record t { elements = es }))
    hands_below es b below is =
        let u : Tiers P S = record t { elements = es } in
        let l : Losing P S = losing_at d t in
        let goes = goes_below d (λ x. (next_lost_of x).1) t es b below initial in
        let rest : (next_lost_of l).1 ≡ record { element = l.element; lost = rest_lost l.lost } = handed_rest l.element l.lost in
        let first : r ≡ (next_lost_of b.one.losing).0 = subst (λ (o : Option (Seen P S)). IfSome o (λ e. r ≡ (next_lost_of e.losing).0)) b.found is in (
          record {
            network = goes.network;
            seen = goes.seen ∙ ap (λ (x : Losing P S). with_element d x.element (members_of initial t)) rest ∙ element_again d l.element (members_of initial t) refl;
            lost_is = refl;
          },
          hands_first d (lost_in t) (lost_in u) r
              (first ∙ ap (λ (x : Losing P S). (next_lost_of x).0) (one_is d (λ x. (next_lost_of x).1) t es b below) ∙ handed_is l.element l.lost)
              (goes.lost_is ∙ ap (λ (x : Losing P S). set_as d x.lost (lost_in t)) rest),
        )

    pub hands_above : (s : above.Seen) → above.SameButRoom (above.with_losing (parent.next_lost_of t.parent.losing).1 t.parent) s → same_as d parent_as ≡ true → r ≡ (parent.next_lost_of t.parent.losing).0 →
        Become initial t (members_of initial t) (lost_in (record t { parent = s })) (record t { parent = s }) × HandsOut d (lost_in t) r (lost_in (record t { parent = s }))
    hands_above s same upper is =
        let u : Tiers P S = record t { parent = s } in
        let l : parent.Losing = t.parent.losing in
        let goes = goes_above (λ x. (parent.next_lost_of x).1) t s same initial in
        let rest : (parent.next_lost_of l).1 ≡ record { parent = l.parent; lost = rest_lost l.lost } = rest_above l.parent l.lost in (
          record {
            network = goes.network;
            seen = goes.seen ∙ ap (λ (x : parent.Losing). with_parent x.parent (members_of initial t)) rest;
            lost_is = refl;
          },
          hands_first d (lost_in t) (lost_in u) r
              (is ∙ handed_above l.parent l.lost ∙ ap first_lost (sym (lost_parent t d upper)))
              (goes.lost_is ∙ ap (λ (x : parent.Losing). set_as parent_as x.lost (lost_in t)) rest
              ∙ ap₂ (λ (a : As) (xs : List Lost). set_as a (rest_lost xs) (lost_in t)) (sym (is_upper d upper)) (sym (lost_parent t d upper))),
        )

  -- ---- members

  -- a member that is not the parent is an element
  pub member_below : (t : Tiers P S) (d : As) → same_as d parent_as ≡ false → is_member t.network d ≡ true → is_element t.network d ≡ true
  member_below t d below is = sym (ap (λ (b : Bool). cond b (is_some t.network.parent) (is_element t.network d)) below) ∙ is

  pub owed_below : (t : Tiers P S) (d : As) (p : Peer) (k : ℕ) → same_as d parent_as ≡ false → AreSet t → is_element t.network d ≡ true → IfSome (at_domain d t.elements) (λ e. k ≡ owed_by p e) → k ≡ owed d p (members_of initial t)
  owed_below t d p k below are known is =
      let one = there_one d t.elements (has_element t d are known) in
      let here : k ≡ owed_by p one.0 = subst (λ (o : Option (Seen P S)). IfSome o (λ e. k ≡ owed_by p e)) one.1 is in
      here
      ∙ ap (λ (o : Option (Seen P S)). count_by_asker (is_peer p) (element_or t.network t.clock d o).pending.rows) (sym one.1)
      ∙ sym (ap (λ (b : Bool). cond b (count_by_asker (is_peer p) t.parent.losing.parent.pending.rows) (count_by_asker (is_peer p) ((members_of initial t).elements d).pending.rows)) below)

  pub takes_as : {W : Type 0} {D : Type 0} → (t u : Tiers P S) → t ≡ u → (d : As) (p : Peer) (now : ℕ) (m : Message) (r : Result (MemberPlan W P S D) NoMemory) (v : Tiers P S) → Takes initial show d p now m t r v → Takes initial show d p now m u r v
  takes_as t u is d p now m r v takes = subst (λ (x : Tiers P S). Takes initial show d p now m x r v) is takes

  pub planned_takes : {W : Type 0} {D : Type 0} → (d : As) (p : Peer) (now : ℕ) (m : Message) (t u : Tiers P S) (es : List (Seen P S)) (r : Result (Planned P S D) NoMemory) (r' : Result (MemberPlan W P S D) NoMemory) → t ≡ u → r' ≡ planned_below d r → AreSet t → Becomes d unchanged t.elements es → same_as d parent_as ≡ false →
      IfOk r (λ x. at_domain d es ≡ Some x.from) → IfOk r (λ x. IfSome (at_domain d t.elements) (λ e. x.taken ≡ taken_by show p (class_of t.network p) now m e)) → Takes initial show d p now m u r' (record t { elements = es })
  planned_takes {W = W} {D = D} d p now m t u es r r' is same are b below from taken =
      subst (λ (z : Result (MemberPlan W P S D) NoMemory). Takes initial show d p now m u z (record t { elements = es })) (sym same)
      (takes_as t u is d p now m (planned_below d r) (record t { elements = es }) (go r from taken))
    where
      go : (x : Result (Planned P S D) NoMemory) → IfOk x (λ y. at_domain d es ≡ Some y.from) → IfOk x (λ y. IfSome (at_domain d t.elements) (λ e. y.taken ≡ taken_by show p (class_of t.network p) now m e)) → Takes {W = W} initial show d p now m t (planned_below d x) (record t { elements = es })
      go (Ok x) from taken = takes_below d p now m t es x are b below from taken
      go (Err e) from taken = refused_below d p now m t es e b below
