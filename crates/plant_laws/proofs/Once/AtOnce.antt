-- A reply that is said to a request when it is taken has the id of that request.
use Rattle.std.proofs.Common.{◌≡◌, ℕ, Bool, true, false, cond, Option, Some, None, List, [], ◌∷◌, sym, ap, subst}
use Rattle.plant_model.specs.Types.{As, Peer, Inner, Hop, Answer, Asked, Message, Reply, Request, Wanted, Wish, Class, NetworkParts}
use Rattle.pcep_messages.specs.declared.message.Message.TheVariants as messages
use Rattle.pcep_messages.specs.declared.message.Wish.TheVariants.{Path, Expand}
use Rattle.disclosure.specs.Shown.{open_of}
use Rattle.request_table.specs.Pending.{number_of, is_full}
use Rattle.plant_model.specs.declared.output.Output.{Output}
use Rattle.plant_text.specs.Names.{parent_as}
use Rattle.plant_model.specs.Names.{the_parent}
use Rattle.plant_model.specs.Wire.{Codec, Checked, Admitted, Wrong}
use Rattle.plant_model.specs.Writing.{reply_message, unavailable, no_key}
use Rattle.disclosure.specs.Policy.{is_denied}
use Rattle.plant_model.specs.Element.{Element, Way, ElementSettings, Taken, way_to, with_last}
use Rattle.plant_model.specs.Routes.{toward}
use Rattle.plant_model.specs.Taking.{take, take_asked, take_checked, take_new, take_wish, take_along, send_on, sequence_or, goes_up, expansion, sight, wanting}
use Rattle.plant_model.specs.Parent as parent
use Rattle.plant_model.specs.Parent.{Family, Parent, ParentTaken, Wait, Errand}
use Rattle.plant_text.specs.Settings.{class_of}
use Rattle.plant_model.specs.Settings.{place, family}
use Rattle.plant_model.specs.State.{State, Deed, Loads, Pops, Takes, Says, Ups, Downs, Clears, Solves, Expires, Hands}
use Rattle.plant_model.specs.Plant.{Pin, Segment, Plant, Entry, Run, deeds_of, PlantDeed}
use Rattle.plant_laws.proofs.Once.DeedByDeed.{Does, takes_above, takes_below, downs_above, downs_below, ups_above, ups_below, solves_above, solves_below, pops, hands_out, says_own, clears_link, expires_at, loads_rows, run_keeps}
use Rattle.plant_laws.proofs.Runs.Decompose.{nil_right}
use Rattle.plant_laws.proofs.Runs.Queues.{same_as_is}
use Rattle.plant_laws.proofs.Once.Takes.{own_is}
use Rattle.plant_laws.proofs.Numbering.Sends.{Each}

-- what is so of each reply among these
abbrev pub EachReply : (Reply → Type 0) → List Output → Type 0
EachReply Q [] = Unit {0}
EachReply Q (o ∷ os) = ((r : Reply) → o.message ≡ messages.PcRep (r ∷ []) → Q r) × EachReply Q os

-- what a reply to a request that was checked is like
abbrev pub Tells : Checked → Reply → Type 0
Tells (Admitted q) r = r.id ≡ q.id
Tells (Wrong rp kind value) r = ⊥

pick : {T : Type 0} (outs : T → List Output) (Q : Reply → Type 0) (b : Bool) (t u : T) → EachReply Q (outs t) → EachReply Q (outs u) → EachReply Q (outs (cond b t u))
pick outs Q true t u x y = x
pick outs Q false t u x y = y

same_reply : (flags x : ℕ) (a : Answer) (r : Reply) → reply_message flags x a ≡ messages.PcRep (r ∷ []) → r.id ≡ x
same_reply flags x a r e =
    let q : Reply = record { flags = flags; id = x; answer = a } in
    let lists : q ∷ [] ≡ r ∷ [] = cc in
    let is : q ≡ r = cc in
    sym (ap (λ (z : Reply). z.id) is)

abbrev OfId : ℕ → Reply → Type 0
OfId x r = r.id ≡ x

module _ (P : Type 0) (S : Type 0) (show : S → List Hop) (e : ElementSettings) (pin : P) (p : Peer) (class : Class) (now : ℕ) where
  sends : (flags x : ℕ) (w : Wanted) (sequence rest : List As) (r : Bool) (k : Element P S) (o : Option Way) → EachReply (OfId x) (send_on (sight pin p class) (wanting flags x w) sequence rest r k o).outputs
  sends flags x w sequence rest r k None = ((λ q is. same_reply flags x unavailable q is), tt)
  sends flags x w sequence rest r k (Some way) =
      pick (λ (t : Taken P S). t.outputs) (OfId x) way.up _ _
      (pick (λ (t : Taken P S). t.outputs) (OfId x) r _ _ ((λ q is. same_reply flags x unavailable q is), tt) ((λ q is. absurd (cc)), tt)) ((λ q is. same_reply flags x unavailable q is), tt)

  along : (flags x : ℕ) (w : Wanted) (k : Element P S) (sequence : List As) → EachReply (OfId x) (take_along e (sight pin p class) (wanting flags x w) k sequence).outputs
  along flags x w k [] = ((λ q is. same_reply flags x unavailable q is), tt)
  along flags x w k (a ∷ []) = tt
  along flags x w k (a ∷ b ∷ rest) = sends flags x w (a ∷ b ∷ rest) (b ∷ rest) (is_denied e.deny class b) k (way_to (toward b e.routes) k.ways)

  wishes : (flags x : ℕ) (k : Element P S) (wish : Wish) → EachReply (OfId x) (take_wish show e (sight pin p class) now flags x k wish).outputs
  wishes flags x k (Expand key pce) = ((λ q is. same_reply flags x (expansion show e class now key pce k) q is), tt)
  wishes flags x k (Path w) =
      pick (λ (t : Taken P S). t.outputs) (OfId x) (is_full k.pending) _ _ ((λ q is. absurd (cc)), tt)
      (pick (λ (t : Taken P S). t.outputs) (OfId x) (goes_up e.parent class w.sequence) _ _ (sends flags x w [] [] false k (way_to the_parent k.ways)) (along flags x w k (sequence_or e.own w.sequence)))

  news : (r : Request) (k : Element P S) (o : Option ℕ) → EachReply (OfId r.id) (take_new show e pin p class now r k o).outputs
  news r k (Some number) = tt
  news r k None = wishes r.flags r.id k r.wish

  checks : (k : Element P S) (o : Checked) → EachReply (Tells o) (take_checked show e pin p class now k o).outputs
  checks k (Wrong rp kind value) = ((λ q is. absurd (cc)), tt)
  checks k (Admitted r) = news r k (number_of k.pending p r.id)

all_asked : (x : ℕ) (w : Wanted) (before : List Wait) (rs : List Errand) (ways : List Way) → EachReply (OfId x) (parent.ask_all w before rs ways).outputs
all_asked x w before [] ways = tt
all_asked x w before (r ∷ rs) ways =
    let y = parent.next_id (Inner r.child) before ways in
    let one : Wait = record { peer = Inner r.child; id = y; child = r.child; target = r.target } in
    ((λ q is. absurd (cc)), all_asked x w (one ∷ before) rs (with_last (Inner r.child) y ways))

module _ (f : Family) (p : Peer) where
  upper_wishes : (flags x : ℕ) (k : Parent) (wish : Wish) → EachReply (OfId x) (parent.take_wish f p flags x k wish).outputs
  upper_wishes flags x k (Expand key pce) = ((λ q is. same_reply flags x no_key q is), tt)
  upper_wishes flags x k (Path w) =
      pick (λ (t : ParentTaken). t.outputs) (OfId x) (is_full k.pending) _ _ ((λ q is. absurd (cc)), tt)
      (pick (λ (t : ParentTaken). t.outputs) (OfId x) (parent.all_up f.children k.ways) _ _
      (all_asked x w (parent.all_waits k.pending.rows) (parent.errands f.links w.target f.children) k.ways) ((λ q is. same_reply flags x unavailable q is), tt))

  upper_news : (r : Request) (k : Parent) (o : Option ℕ) → EachReply (OfId r.id) (parent.take_new f p r k o).outputs
  upper_news r k (Some number) = tt
  upper_news r k None = upper_wishes r.flags r.id k r.wish

  upper_checks : (k : Parent) (o : Checked) → EachReply (Tells o) (parent.take_checked f p k o).outputs
  upper_checks k (Wrong rp kind value) = ((λ q is. absurd (cc)), tt)
  upper_checks k (Admitted r) = upper_news r k (number_of k.pending p r.id)

-- a deed that takes a request
abbrev pub asks_tell : Codec → As → List Asked → List Output → Type 0
asks_tell c at [] os = Unit {0}
asks_tell c at (a ∷ []) os = EachReply (Tells (c.check a at)) os
asks_tell c at (a ∷ b ∷ rest) os = Unit {0}

abbrev pub message_tells : Codec → As → Message → List Output → Type 0
message_tells c at (messages.PcReq asks) os = asks_tell c at asks os
message_tells c at (messages.PcRep replies) os = Unit {0}
message_tells c at (messages.PcNtf notices) os = Unit {0}
message_tells c at (messages.PcErr reports) os = Unit {0}
message_tells c at (messages.Open body) os = Unit {0}
message_tells c at messages.Keepalive os = Unit {0}
message_tells c at (messages.Close why) os = Unit {0}
message_tells c at (messages.Other kind) os = Unit {0}

abbrev pub DeedTells : Codec → Deed Segment → Type 0
DeedTells c (Takes at p m os) = message_tells c at m os
DeedTells c _ = Unit {0}

module _ (c : Codec) (n : NetworkParts) where
  element_tells : (at : As) (p : Peer) (m : Message) (s : State Pin Segment) → message_tells c at m (take c open_of (place n at) (s.current at) p (class_of n p) s.clock m (s.elements at)).outputs
  element_tells at p (messages.PcReq []) s = tt
  element_tells at p (messages.PcReq (a ∷ [])) s =
      let t = take_asked c open_of (place n at) (s.current at) p (class_of n p) s.clock a (s.elements at) in
      subst (λ (os : List Output). EachReply (Tells (c.check a at)) os) (sym (nil_right t.outputs))
      (subst (λ (z : As). EachReply (Tells (c.check a z)) t.outputs) (own_is n at) (checks Pin Segment open_of (place n at) (s.current at) p (class_of n p) s.clock (s.elements at) (c.check a (place n at).own)))
  element_tells at p (messages.PcReq (a ∷ b ∷ rest)) s = tt
  element_tells at p (messages.PcRep replies) s = tt
  element_tells at p (messages.PcNtf notices) s = tt
  element_tells at p (messages.PcErr reports) s = tt
  element_tells at p (messages.Open body) s = tt
  element_tells at p messages.Keepalive s = tt
  element_tells at p (messages.Close why) s = tt
  element_tells at p (messages.Other kind) s = tt

  parent_tells : (p : Peer) (m : Message) (k : Parent) → message_tells c parent_as m (parent.take c (family n) p m k).outputs
  parent_tells p (messages.PcReq []) k = tt
  parent_tells p (messages.PcReq (a ∷ [])) k =
      subst (λ (os : List Output). EachReply (Tells (c.check a parent_as)) os) (sym (nil_right (parent.take_asked c (family n) p a k).outputs)) (upper_checks (family n) p k (c.check a parent_as))
  parent_tells p (messages.PcReq (a ∷ b ∷ rest)) k = tt
  parent_tells p (messages.PcRep replies) k = tt
  parent_tells p (messages.PcNtf notices) k = tt
  parent_tells p (messages.PcErr reports) k = tt
  parent_tells p (messages.Open body) k = tt
  parent_tells p messages.Keepalive k = tt
  parent_tells p (messages.Close why) k = tt
  parent_tells p (messages.Other kind) k = tt

  does_tell : (s t : State Pin Segment) (e : PlantDeed) → Does c n s e t → DeedTells c e
  does_tell s t e (takes_above at p m s' up) = subst (λ (z : As). message_tells c z m (parent.take c (family n) p m s.parent).outputs) (sym (same_as_is at parent_as up)) (parent_tells p m s.parent)
  does_tell s t e (takes_below at p m s' low heard) = element_tells at p m s
  does_tell s t e _ = tt

  pub run_tells : (es : List Entry) (s : Plant) → Run c n es s → Each (DeedTells c) (deeds_of c n es)
  run_tells = run_keeps c n (λ ds s. Each (DeedTells c) ds) (λ ds s t elements above current all. all) (λ ds s t e does all. (does_tell s t e does, all)) tt
