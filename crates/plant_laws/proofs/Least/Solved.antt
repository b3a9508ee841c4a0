-- What a solve sends, by cases.
use Rattle.std.proofs.Common.{◌≡◌, ◌⊎◌, ℕ, Bool, true, false, cond, nat_lt, List, [], ◌∷◌, length, Option, Some, None, Ok, Err, sym, ◌∙◌, ap, subst, inl, inr, refl}
use Rattle.std.proofs.Common.{ltb-true, ltb-false}
use Rattle.plant_model.specs.Types.{As, Addr, Message, Seed, Class, Best, Branch, Ask, NetworkParts}
use Rattle.te_links.specs.Rows.{Rows}
use Rattle.disclosure.specs.declared.class.Class.TheVariants.{Client, Neighbour, Parent}
use Rattle.border_costs.specs.declared.answer.Answer.{Answer}
use Rattle.border_costs.specs.Solutions.{AreRows, AreBest}
use Rattle.plant_model.specs.declared.outcome.Outcome.{Outcome}
use Rattle.plant_model.specs.declared.outcome.Refused.{Refused}
use Rattle.plant_model.specs.declared.event.Event.TheVariants as event
use Rattle.plant_model.specs.declared.output.Output.{Output}
use Rattle.plant_text.specs.Names.{parent_as}
use Rattle.plant_model.specs.Wire.{Codec}
use Rattle.plant_model.specs.Jobs.{entries_of}
use Rattle.plant_model.specs.Taking.{answered}
use Rattle.plant_model.specs.Element.{Element, Row, ElementSettings, Taken, is_client}
use Rattle.plant_model.specs.Solving.{commit, client_reply, closed_reply, free, job_found}
use Rattle.plant_model.specs.Parent as parent
use Rattle.plant_model.specs.BorderGraph.{Found}
use Rattle.plant_model.specs.Settings.{place}
use Rattle.plant_model.specs.State.{Solves}
use Rattle.plant_model.specs.Plant.{Pin, Segment, Plant, Happened, ElementSolves, ParentSolves, Steps, ask, refused}
use Rattle.plant_laws.specs.Solves.{TellsClient, its_path, no_pair, TellsClosed, branches, no_branch, lacks_keys, ElementTells, TellsUpper, found, no_walk, ParentTells, SolvesTell}

-- the one entry of a client is its source
one_best : (g : Rows) (a : Ask) (seeds : List Seed) (source : Addr) (best : List Best) → AreBest g a seeds (source ∷ []) best → (best ≡ []) ⊎ ((b : Best) × (best ≡ b ∷ []) × (b.entry ≡ source))
one_best g a seeds source best (inl none) = inl none.1
one_best g a seeds source best (inr some) = inr (some.0, some.2 ∙ ap (λ (l : List Best). some.0 ∷ l) some.4, some.3.is_entry)

client_entries : (class : Class) (source : Addr) (g : Rows) → is_client class ≡ true → entries_of class source g ≡ source ∷ []
client_entries (Client may) source g is = refl
client_entries (Neighbour a) source g is = cc
client_entries Parent source g is = cc

module _ (c : Codec) (e : ElementSettings) (h : Row Pin) (down : List Branch) (now : ℕ) (rows : Answer) (k : Element Pin Segment) where
  abbrev reply : Message
  reply = client_reply c h down rows.source_known rows.target_known rows.best

  tells_client : (g : Rows) (a : Ask) (seeds : List Seed) → AreBest g a seeds (h.1.item.wanted.source ∷ []) rows.best → TellsClient c h down rows reply
  tells_client g a seeds are = elim (one_best g a seeds h.1.item.wanted.source rows.best are) [
    | inl none ↦ no_pair none (ap (client_reply c h down rows.source_known rows.target_known) none)
    | inr some ↦ its_path some.0 some.1 some.2 (ap (client_reply c h down rows.source_known rows.target_known) some.1)
  ]

  abbrev closed : List Best → Taken Pin Segment
  closed best = closed_reply c e h down now (λ b. b.segment) k best

  abbrev Tells : List Best → Taken Pin Segment → Type 0
  Tells best t = (m : Message) × (t.outputs ≡ record { to = h.1.key.peer; message = m } ∷ []) × TellsClosed c e h down now k.keys best m

  pick : (best : List Best) (b : Bool) (x y : Taken Pin Segment) → (b ≡ true → Tells best x) → (b ≡ false → Tells best y) → Tells best (cond b x y)
  pick best true x y f g = f refl
  pick best false x y f g = g refl

  tells_closed : (best : List Best) → Tells best (closed best)
  tells_closed [] = (_, refl, no_branch refl refl)
  tells_closed (b ∷ bs) =
      pick (b ∷ bs) (nat_lt (free now k.keys) (length (b ∷ bs))) _ _
      (λ is. (_, refl, lacks_keys (ltb-true (free now k.keys) (length (b ∷ bs)) is) refl))
      (λ is. (_, refl, branches (λ none. cc) (ltb-false (free now k.keys) (length (b ∷ bs)) is) refl))

-- what is sent, and to whom
pub record Said (c : Codec) (e : ElementSettings) (h : Row Pin) (down : List Branch) (now : ℕ) (rows : Answer) (k : Element Pin Segment) (os : List Output) : Type 0 where
  pub message : Message
  pub one : os ≡ record { to = h.1.key.peer; message = message } ∷ []
  pub to_client : is_client h.1.item.class ≡ true → TellsClient c h down rows message
  pub to_closed : is_client h.1.item.class ≡ false → TellsClosed c e h down now k.keys rows.best message

module _ (c : Codec) (n : NetworkParts) (before : Plant) where
  commit_says : (d : As) (h : Row Pin) (down : List Branch) (rows : Answer) → AreRows h.1.item.pin.topology (ask c n d h down) rows →
      Said c (place n d) h down before.clock rows (before.elements d)
      (commit c (place n d) h down before.clock (λ (b : Best). b.segment) (job_found rows.source_known rows.target_known rows.best) (before.elements d)).outputs
  commit_says d h down rows right = go (is_client h.1.item.class) refl
    where
      go : (b : Bool) → is_client h.1.item.class ≡ b → Said c (place n d) h down before.clock rows (before.elements d)
          (cond b (answered h (client_reply c h down rows.source_known rows.target_known rows.best) (before.elements d))
          (closed_reply c (place n d) h down before.clock (λ (b : Best). b.segment) (before.elements d) rows.best)).outputs
      go true is = record {
        message = client_reply c h down rows.source_known rows.target_known rows.best;
        one = refl;
        to_client = λ is'. tells_client c (place n d) h down before.clock rows (before.elements d) h.1.item.pin.topology (ask c n d h down) right.seeds
            (subst (λ (l : List Addr). AreBest h.1.item.pin.topology (ask c n d h down) right.seeds l rows.best) (client_entries h.1.item.class h.1.item.wanted.source h.1.item.pin.topology is) right.best);
        to_closed = λ is'. let other : true ≡ false = sym is ∙ is' in cc;
      }
      go false is =
          let t = tells_closed c (place n d) h down before.clock rows (before.elements d) rows.best in
          record {
            message = t.0;
            one = t.1;
            to_client = λ is'. let other : true ≡ false = sym is' ∙ is in cc;
            to_closed = λ is'. t.2;
          }

  element_tells : (d : As) (k : ℕ) (h : Happened) → ElementSolves c n d k before h → ElementTells c n before d k h.deeds
  element_tells d k h x =
      let said = commit_says d (k, x.held) x.down x.rows x.right in
      let done = commit c (place n d) (k, x.held) x.down before.clock (λ (b : Best). b.segment) (job_found x.rows.source_known x.rows.target_known x.rows.best) (before.elements d) in
      record {
        upper = x.upper;
        held = x.held;
        is_held = x.is_held;
        down = x.down;
        ready = x.ready;
        rows = x.rows;
        right = x.right;
        message = said.message;
        keys = done.element.keys.issued;
        sends_one = ap (λ (h' : Happened). h'.deeds) x.is ∙ ap (λ (os : List Output). Solves d k os done.element.keys.issued ∷ []) said.one;
        to_client = said.to_client;
        to_closed = said.to_closed;
      }

  -- what the parent sends
  abbrev UpperSays : parent.AskingRow → Option Found → List Output → Type 0
  UpperSays h a os = (m : Message) × (os ≡ record { to = h.1.key.peer; message = m } ∷ []) × TellsUpper c h a m

  upper_says : (h : parent.AskingRow) (a : Option Found) → UpperSays h a (parent.commit c h a before.parent).outputs
  upper_says h None = (_, refl, no_walk refl refl)
  upper_says h (Some a) = (_, refl, found a refl refl)

  parent_tells : (k : ℕ) (h : Happened) → ParentSolves c n k before h → ParentTells c n before k h.deeds
  parent_tells k h x =
      let says = upper_says (k, x.held) x.answer in
      record {
        held = x.held;
        is_held = x.is_held;
        ready = x.ready;
        answer = x.answer;
        solves = x.solves;
        message = says.0;
        sends_one = ap (λ (h' : Happened). h'.deeds) x.is ∙ ap (λ (os : List Output). Solves parent_as k os [] ∷ []) says.1;
        tells = says.2;
      }

  refused_not : (h : Happened) (why : Refused) (o : Outcome) → h ≡ refused c n why before → h.answer ≡ Ok o → ⊥
  refused_not h why o is ok = let other = ap (λ (h' : Happened). h'.answer) is in let clash : Err why ≡ Ok o = sym other ∙ ok in cc

  step_tells : (d : As) (k : ℕ) (h : Happened) → Steps c n before (event.Solve d k) h → (o : Outcome) → h.answer ≡ Ok o →
      ElementTells c n before d k h.deeds ⊎ ((d ≡ parent_as) × ParentTells c n before k h.deeds)
  step_tells d k h (inl (inl none)) o ok = absurd (refused_not h _ o none.1 ok)
  step_tells d k h (inl (inr (inl none))) o ok = absurd (refused_not h _ o none.2 ok)
  step_tells d k h (inl (inr (inr (inl x)))) o ok = inl (element_tells d k h x.1)
  step_tells d k h (inl (inr (inr (inr x)))) o ok = inr (x.1, parent_tells k h x.2)
  step_tells d k h (inr none) o ok = absurd (refused_not h _ o none.1 ok)

pub solves_tell : SolvesTell
solves_tell c n older before run d k h steps o ok = step_tells c n before d k h steps o ok
