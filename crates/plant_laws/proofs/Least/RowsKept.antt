-- What holds of each pending request of an element holds after every change, where it holds of a new one and of one that is made
-- ready by a reply.
use Rattle.std.proofs.Common.{◌≡◌, ℕ, Bool, true, false, cond, List, [], ◌∷◌, Option, Some, None, subst, inl, inr, refl}
use Rattle.plant_model.specs.Types.{As, Peer, Hop, Message, Asked, Reply, Path as PathRow, Request, Wanted, Class, Held, Best, Branch}
use Rattle.pcep_messages.specs.declared.message.Wish.TheVariants.{Path}
use Rattle.request_table.specs.Pending.{key_of, same_peer}
use Rattle.plant_model.specs.Names.{the_parent}
use Rattle.plant_model.specs.Wire.{Codec, Admitted}
use Rattle.plant_model.specs.Element.{Stage, Waits, Ready, Item, Row, Element, ElementSettings, at_stage, waiting, waits_for, stays, downed}
use Rattle.plant_model.specs.Branches.{branches_in}
use Rattle.plant_model.specs.Taking.{item_of, take}
use Rattle.plant_model.specs.Solving.{commit, job_found}
use Rattle.plant_laws.specs.Certified.{Tells}
use Rattle.plant_laws.proofs.Runs.Rows.{In}
use Rattle.plant_laws.proofs.Runs.TablesKept.{Keeps, in_rows, closed_keeps, filtered_keeps, written_keeps, opened_keeps}
use Rattle.plant_laws.proofs.Runs.TakesKept.{KeptAtEnds, KeptAtReplies, KeptAtNew, replies_of, take_after, commit_after}

abbrev pub IsFresh : List As → Stage → Type 0
IsFresh sequence (Waits on id) = Unit {0}
IsFresh sequence (Ready down) = (own : As) × (sequence ≡ own ∷ []) × (down ≡ [])

-- the row that is found waits
module _ {P : Type 0} where
  pub found_in : (p : Peer) (y : ℕ) (hs : List (Row P)) (h : Row P) → waiting p y hs ≡ Some h → In h hs × (waits_for p y h.1.item.stage ≡ true)
  found_in p y [] h e = absurd (differ e)
    where
      differ : ◌≡◌ {A = Option (Row P)} None (Some h) → ⊥
      differ e' = cc
  found_in p y (x ∷ xs) h e = go (waits_for p y x.1.item.stage) refl (λ e'. found_in p y xs h e') e
    where
      go : (b : Bool) → waits_for p y x.1.item.stage ≡ b → (waiting p y xs ≡ Some h → In h xs × (waits_for p y h.1.item.stage ≡ true)) → cond b (Some x) (waiting p y xs) ≡ Some h →
          In h (x ∷ xs) × (waits_for p y h.1.item.stage ≡ true)
      go true is more e' = let same : x ≡ h = cc in (inl same, subst (λ (z : Row P). waits_for p y z.1.item.stage ≡ true) same is)
      go false is more e' = let rest = more e' in (inr rest.0, rest.1)

module _ {P : Type 0} (Q : Held (Item P) → Type 0) where
  -- one that is made ready
  abbrev pub KeptReady : Codec → Peer → List Reply → Type 0
  KeptReady c p replies = (h : Held (Item P)) (r : Reply) (paths : List PathRow) → In r replies → same_peer p the_parent ≡ false → waits_for p r.id h.item.stage ≡ true → Tells r.answer paths → Q h →
      Q (record h { item = at_stage (Ready (branches_in c h.item.wanted.query.metric paths)) h.item })

  -- a new one
  abbrev pub KeptNew : Codec → ElementSettings → P → Peer → Class → Type 0
  KeptNew c e pin p class = (a : Asked) (r : Request) (w : Wanted) → c.check a e.own ≡ Admitted r → r.wish ≡ Path w → (sequence : List As) (stage : Stage) → IsFresh sequence stage →
      Q (record { key = key_of p r.id; item = item_of pin class r.flags w sequence stage })

  module _ {S : Type 0} where
    abbrev pub Holds : Element P S → Type 0
    Holds k = Keeps Q k.pending

    pub ends : KeptAtEnds Holds
    ends n k holds = closed_keeps Q n k.pending holds

    pub readies : (c : Codec) (p : Peer) (replies : List Reply) → KeptReady c p replies → KeptAtReplies Holds c p replies
    readies c p replies made r paths h k i below found tells holds =
        let there = found_in p r.id k.pending.rows h found in
        written_keeps Q h (at_stage (Ready (branches_in c h.1.item.wanted.query.metric paths)) h.1.item)
        (made h.1 r paths i below there.1 tells (in_rows Q h k.pending.rows holds.rows there.0)) k.pending there.0 holds

    opens : (c : Codec) (e : ElementSettings) (pin : P) (p : Peer) (class : Class) → KeptNew c e pin p class → KeptAtNew Holds c e pin p class
    opens c e pin p class new a r w is wish = record {
      ready = λ own k holds. opened_keeps Q p r.id (item_of pin class r.flags w (own ∷ []) (Ready [])) (new a r w is wish (own ∷ []) (Ready []) (own, refl, refl)) k.pending holds;
      sent = λ sequence on y k holds. opened_keeps Q p r.id (item_of pin class r.flags w sequence (Waits on y)) (new a r w is wish sequence (Waits on y) tt) k.pending holds;
    }

    pub take_keeps : (c : Codec) (e : ElementSettings) (pin : P) (p : Peer) (class : Class) (show : S → List Hop) (now : ℕ) (m : Message) → (replies_of m ≡ [] → KeptNew c e pin p class) → KeptReady c p (replies_of m) →
        (k : Element P S) → Holds k → Holds (take c show e pin p class now m k).element
    take_keeps c e pin p class show now m new made k holds = take_after Holds ends c e pin p class show now m (λ none. opens c e pin p class (new none)) (readies c p (replies_of m) made) k holds

    pub downed_keeps : (p : Peer) (k : Element P S) → Holds k → Holds (downed p k).element
    downed_keeps p k holds = filtered_keeps Q (stays p) k.pending holds

    pub commit_keeps : (c : Codec) (e : ElementSettings) (h : Row P) (down : List Branch) (now : ℕ) (stands : Best → S) (source_known target_known : Bool) (best : List Best) (k : Element P S) →
        Holds k → Holds (commit c e h down now stands (job_found source_known target_known best) k).element
    commit_keeps c e h down now stands source_known target_known best k holds = commit_after Holds ends c e h down now stands source_known target_known best (λ bs k' kept. kept) k holds
