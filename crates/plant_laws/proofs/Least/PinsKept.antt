-- What holds of the pins of an element's pending requests holds after every change, where it holds of the pin of a new one.
use Rattle.std.proofs.Common.{ℕ, Bool, true, false, cond, nat_eq, List, [], ◌∷◌}
use Rattle.plant_model.specs.Types.{Peer, Hop, Message, Reply, Class, Held, Best, Branch}
use Rattle.request_table.specs.Lends.{with_item}
use Rattle.plant_model.specs.Wire.{Codec}
use Rattle.plant_model.specs.Element.{Ready, Item, Row, Element, ElementSettings, at_stage, stays, downed}
use Rattle.plant_model.specs.Branches.{branches_in}
use Rattle.plant_model.specs.Taking.{take}
use Rattle.plant_model.specs.Solving.{commit, job_found}
use Rattle.plant_laws.proofs.Least.RowsKept.{found_in}
use Rattle.plant_laws.proofs.Runs.TablesKept as table
use Rattle.plant_laws.proofs.Runs.TakesKept.{KeptAtEnds, KeptAtReplies, KeptAtNew, replies_of, take_after, commit_after}

module _ {P : Type 0} (Q : P → Type 0) where
  abbrev OfPin : Held (Item P) → Type 0
  OfPin h = Q h.item.pin

  abbrev pub Rows : List (Row P) → Type 0
  Rows hs = table.Rows OfPin hs

  rows_written : (n : ℕ) (i : Item P) (xs : List (Row P)) → Q i.pin → Rows xs → Rows (with_item n i xs)
  rows_written n i [] q h = tt
  rows_written n i (x ∷ xs) q h = go (nat_eq n x.0) (rows_written n i xs q h.1)
    where
      go : (b : Bool) → Rows (with_item n i xs) → Rows (cond b ((x.0, record x.1 { item = i }) ∷ xs) (x ∷ with_item n i xs))
      go true k = (q, h.1)
      go false k = (h.0, k)

  module _ {S : Type 0} where
    abbrev pub Holds : Element P S → Type 0
    Holds k = Rows k.pending.rows

    ends : KeptAtEnds Holds
    ends n k holds = table.rows_removed OfPin n k.pending.rows holds

    readies : (c : Codec) (p : Peer) (replies : List Reply) → KeptAtReplies Holds c p replies
    readies c p replies r paths h k i below found tells holds =
        rows_written h.0 (at_stage (Ready (branches_in c h.1.item.wanted.query.metric paths)) h.1.item) k.pending.rows
        (table.in_rows OfPin h k.pending.rows holds (found_in p r.id k.pending.rows h found).0) holds

    opens : (c : Codec) (e : ElementSettings) (pin : P) (p : Peer) (class : Class) → Q pin → KeptAtNew Holds c e pin p class
    opens c e pin p class new a r w is wish = record {
      ready = λ own k holds. table.rows_append OfPin k.pending.rows _ holds (new, tt);
      sent = λ sequence on y k holds. table.rows_append OfPin k.pending.rows _ holds (new, tt);
    }

    pub take_keeps : (pin : P) → Q pin → (c : Codec) (show : S → List Hop) (e : ElementSettings) (p : Peer) (class : Class) (now : ℕ) (m : Message) (k : Element P S) → Holds k → Holds (take c show e pin p class now m k).element
    take_keeps pin new c show e p class now m k holds = take_after Holds ends c e pin p class show now m (λ none. opens c e pin p class new) (readies c p (replies_of m)) k holds

    pub downed_keeps : (p : Peer) (k : Element P S) → Holds k → Holds (downed p k).element
    downed_keeps p k holds = table.rows_filter OfPin (stays p) k.pending.rows holds

    pub commit_keeps : (c : Codec) (e : ElementSettings) (h : Row P) (down : List Branch) (now : ℕ) (stands : Best → S) (source_known target_known : Bool) (best : List Best) (k : Element P S) →
        Holds k → Holds (commit c e h down now stands (job_found source_known target_known best) k).element
    commit_keeps c e h down now stands source_known target_known best k holds = commit_after Holds ends c e h down now stands source_known target_known best (λ bs k' kept. kept) k holds
