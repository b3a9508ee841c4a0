-- What is given of a run, from the laws on its pending requests, its readings and its ids; and the theorems on least costs for runs.
use Rattle.std.proofs.Common.{◌≡◌, ◌≢◌, ◌⊎◌, ◌≤◌, ℕ, cond, List, [], ◌∷◌, length, sym, ◌∙◌, ap, subst, inl, inr, refl, arith}
use Rattle.std.specs.Prelude.{Contains, Option, Some}
use Rattle.std.proofs.lemmas.Bool.{eq-eqb}
use Rattle.plant_model.specs.Types.{As, Peer, Outside, Path, Reply, Request, Issued, NetworkParts, Answer, Class}
use Rattle.pcep_messages.specs.Spelling.{IsWritten}
use Rattle.pcep_messages.specs.declared.message.Message.TheVariants as messages
use Rattle.plant_model.specs.declared.output.Output.{Output}
use Rattle.plant_text.specs.Names.{same_as, parent_as}
use Rattle.plant_model.specs.Wire.{Codec}
use Rattle.plant_model.specs.Element.{Row}
use Rattle.plant_model.specs.Parent.{AskingRow}
use Rattle.plant_text.specs.Settings.{class_of}
use Rattle.plant_model.specs.Solving.{commit, job_found}
use Rattle.plant_model.specs.Settings.{place}
use Rattle.plant_model.specs.State.{Loads, Pops, Takes, Says, Ups, Downs, Clears, Solves, Expires, Hands}
use Rattle.plant_model.specs.Plant.{Pin, Segment, Plant, PlantDeed, Happened, Entry, Run, deeds_of, ElementSolves, ParentSolves, ask}
use Rattle.plant_model.specs.Laws.{IsCodec, IsNetwork}
use Rattle.plant_laws.specs.Transcript.{Transcript, Within, opened, outputs_at, Delivered}
use Rattle.plant_laws.specs.Sending.{AllSent}
use Rattle.plant_laws.specs.About.{Replies, IsGathered, HasReplied, IsShort}
use Rattle.plant_laws.specs.Replies.{LeastRepliesIn, NoneRepliesIn}
use Rattle.plant_laws.specs.Headline.{LeastAnswersIn, NoneAnswersIn}
use Rattle.plant_laws.proofs.Least.Headline.{least_replies, none_replies, least_answers, none_answers, element_answers}
use Rattle.plant_laws.proofs.Runs.Rows.{In, in_of}
use Rattle.plant_laws.proofs.Once.OpenedRuns.{lookup_in}
use Rattle.plant_laws.proofs.Once.OpenTables.{open_is_pending}
use Rattle.plant_laws.proofs.Runs.Readings.{messages_are_read}
use Rattle.plant_laws.proofs.Runs.Reading.{outside_is_read}
use Rattle.plant_laws.proofs.WrittenForm.HeededHops.{taken_range}
use Rattle.plant_laws.proofs.Runs.Topologies.{pins_are_domains}
use Rattle.border_costs.proofs.Members.{contains_head, contains_tail, contains_none, contains_cases}
use Rattle.plant_laws.proofs.Least.Told.{apart}
use Rattle.plant_laws.proofs.Least.ReadyRows.{is_readied}
use Rattle.plant_laws.proofs.Runs.Own.{run_owns}
use Rattle.plant_laws.proofs.Keys.LifeKept.{run_lives}
use Rattle.plant_laws.proofs.Once.RepliedRuns.{replied_of}
use Rattle.plant_laws.proofs.Runs.SolveMoments.{element_deed, upper_deed, run_moments}
use Rattle.plant_laws.proofs.Least.Given.{Premises, IsSolved, IsSolvedAbove, OfSolve, OfKey, RepliesAlone}
use Rattle.plant_laws.proofs.WrittenForm.Again.{all_read}
use Rattle.plant_laws.proofs.Once.Alone.{sent_alone}
use Rattle.plant_laws.proofs.Least.GatheredRuns.{has_gathered}
use Rattle.plant_laws.proofs.Once.AskedRuns.{flip_in, asked_of_run, none_outside}
use Rattle.plant_laws.proofs.Reasons.Causes.{HasCause, run_has}
use Rattle.plant_laws.proofs.Numbering.Counted.{element_ids_differ}
use Rattle.plant_laws.proofs.Numbering.Sends.{Each-within}
use Rattle.plant_laws.proofs.WrittenForm.ReadBack.{run_single}
use Rattle.plant_laws.proofs.Least.ViaParent.{above_says}
use Rattle.plant_laws.proofs.Runs.Moments.{within_trans, opened_within, no_more}
use Rattle.plant_laws.proofs.Least.FromElement.{within_tail}
use Rattle.plant_laws.specs.Certified.{Tells, IsServed, SolvesCertifyIn}
use Rattle.plant_model.specs.Jobs.{entries_of, target_along}
use Rattle.te_links.specs.Rows.{Rows}
use Rattle.walk_laws.specs.Certificate.{Certifies}
use Rattle.path_certificate.specs.Rows.{label_in}
use Rattle.border_costs.specs.Solutions.{AreRows}
use Rattle.plant_laws.proofs.WrittenForm.WhereWritten.{WrittenNet, WrittenNetIds}

pub in_contains : {A : Type 0} (x : A) (xs : List A) → In x xs → Contains xs x
in_contains x [] none = absurd none
in_contains x (y ∷ ys) (inl same) = subst (λ (z : _). Contains (y ∷ ys) z) same (contains_head y ys)
in_contains x (y ∷ ys) (inr more) = contains_tail y ys x (in_contains x ys more)

pub same_moment : (o : Option Transcript) (a b : Transcript) → o ≡ Some a → o ≡ Some b → a ≡ b
same_moment o a b e f = let one : Some a ≡ Some b = sym e ∙ f in cc

module _ (c : Codec) (codec : IsCodec c) (n : NetworkParts) (net : IsNetwork n) where
  abbrev IsMoment : PlantDeed → Transcript → Type 0
  IsMoment (Solves d k os keys) older = (d ≢ parent_as → IsSolved c n older d k os keys) × (d ≡ parent_as → IsSolvedAbove c n older k os)
  IsMoment _ older = Unit {0}

  -- a solve, from the state before it
  abbrev pub solved_of : (es : List Entry) (s : Plant) → Run c n es s → AllSent IsWritten (deeds_of c n es) → (d : As) (k : ℕ) (h : Happened) (x : ElementSolves c n d k s h) →
      IsSolved c n (deeds_of c n es) d k
      (commit c (place n d) (k, x.held) x.down s.clock (λ b. b.segment) (job_found x.rows.source_known x.rows.target_known x.rows.best) (s.elements d)).outputs
      (commit c (place n d) (k, x.held) x.down s.clock (λ b. b.segment) (job_found x.rows.source_known x.rows.target_known x.rows.best) (s.elements d)).element.keys.issued
  solved_of es s run written d k h x =
      let row : Row Pin = (k, x.held) in
      let there : Contains (s.elements d).pending.rows row = in_contains row (s.elements d).pending.rows (lookup_in k (s.elements d).pending.rows x.held x.is_held) in
      let taken = (open_is_pending c codec n net es s run).taken d row there in
      let r = is_readied c codec n es s run written d row there x.down x.ready in
      let same = same_moment (opened c d x.held.key.peer x.held.key.id (deeds_of c n es)) r.at taken.at r.is_open taken.is_open in
      record {
        held = x.held;
        taken = taken;
        domain = (pins_are_domains c n es s run).pinned d row there;
        along = r.along;
        stays = r.stays;
        down = x.down;
        served = subst (λ (at : Transcript). IsServed c n (deeds_of c n es) d at x.held.item.wanted x.held.item.sequence x.down) same r.served;
        rows = x.rows;
        right = x.right;
        now = s.clock;
        element = s.elements d;
        life = run_lives c n net es s run d;
        sends = refl;
        has = refl;
      }

  element_made : (es : List Entry) (s : Plant) → Run c n es s → AllSent IsWritten (deeds_of c n es) → (d : As) (k : ℕ) (h : Happened) (x : ElementSolves c n d k s h) →
      IsMoment (element_deed c n d k s h x) (deeds_of c n es)
  element_made es s run written d k h x = (
    (λ real. solved_of es s run written d k h x),
    (λ up. absurd (apart (sym (eq-eqb d.0 parent_as.0 (ap (λ (a : As). a.0) up)) ∙ x.upper))),
  )

  upper_made : (es : List Entry) (s : Plant) → Run c n es s → AllSent IsWritten (deeds_of c n es) → (k : ℕ) (h : Happened) (x : ParentSolves c n k s h) → IsMoment (upper_deed c n k s h x) (deeds_of c n es)
  upper_made es s run written k h x = (
    (λ real. absurd (real refl)),
    (λ up.
        let row : AskingRow = (k, x.held) in
        let there : Contains s.parent.pending.rows row = in_contains row s.parent.pending.rows (lookup_in k s.parent.pending.rows x.held x.is_held) in
        let taken = (open_is_pending c codec n net es s run).taken_above row there in
        let g = has_gathered c codec n es s run written row there x.ready in
        let same = same_moment (opened c parent_as x.held.key.peer x.held.key.id (deeds_of c n es)) g.at taken.at g.is_open taken.is_open in
        record {
          held = x.held;
          taken = taken;
          answer = x.answer;
          solves = x.solves;
          upper = s.parent;
          sends = refl;
          each = λ r i. subst (λ (at : Transcript). IsGathered c (deeds_of c n es) at x.held.item.wanted r) same (g.each r i);
          every = λ end i. subst (λ (at : Transcript). HasReplied c (deeds_of c n es) at x.held.item.wanted x.held.item.rows end) same (g.every end i);
        }),
  )

-- what was delivered by an outside peer is none of the parent's
none_delivered : (c : Codec) (codec : IsCodec c) (n : NetworkParts) (net : IsNetwork n) (es : List Entry) (s : Plant) → Run c n es s → (i : ℕ) (p : Peer) (q : Request) (at : Transcript) → p ≡ Outside i → Within at (deeds_of c n es) →
    Delivered c at parent_as p q → ⊥
none_delivered c codec n net es s run i p q [] from within none = none
none_delivered c codec n net es s run i p q (e ∷ older) from within x =
    none_outside n net c codec es s run i (messages.PcReq (x.0 ∷ [])) x.1 older
    (subst (λ (z : Peer). Within (Takes parent_as z (messages.PcReq (x.0 ∷ [])) x.1 ∷ older) (deeds_of c n es)) from (subst (λ (z : PlantDeed). Within (z ∷ older) (deeds_of c n es)) x.2 within))

one_reply : (replies : List Reply) (r : Reply) → length replies ≤ 1 → Contains replies r → replies ≡ r ∷ []
one_reply [] r few h = absurd (contains_none r h)
one_reply (x ∷ []) r few h = elim (contains_cases x [] r h) [
  | inl same ↦ ap (λ (y : Reply). y ∷ []) same
  | inr none ↦ absurd (contains_none r none)
]
one_reply (x ∷ y ∷ rest) r few h = absurd (omega (arith, few))

module _ (c : Codec) (codec : IsCodec c) (n : NetworkParts) (net : IsNetwork n) (es : List Entry) (s : Plant) (run : Run c n es s) (written : AllSent IsWritten (deeds_of c n es)) (short : IsShort (deeds_of c n es)) where
  abbrev now : Transcript
  now = deeds_of c n es

  moments : (d : As) (k : ℕ) (os : List Output) (keys : List (Issued Segment)) (older : Transcript) → Within (Solves d k os keys ∷ older) now → IsMoment c codec n net (Solves d k os keys) older
  moments d k os keys older w = run_moments c n (IsMoment c codec n net) (element_made c codec n net) (upper_made c codec n net) d k os keys older es s run written w

  above : (e : PlantDeed) (older : Transcript) (p : Peer) (r : Reply) (paths : List Path) → Within (e ∷ older) now → Contains (outputs_at parent_as e) (record { to = p; message = messages.PcRep (r ∷ []) }) → Tells r.answer paths →
      OfSolve parent_as e ⊎ OfKey c parent_as p r e
  above e older p r paths w said tells = (Each-within (HasCause c n) now (run_has c n es s run (run_single c n codec es s run written)) e older w).1 p r paths said tells

  inside : (e : PlantDeed) (older : Transcript) (i : ℕ) (r : Reply) (paths : List Path) → Within (e ∷ older) now → Contains (outputs_at parent_as e) (record { to = Outside i; message = messages.PcRep (r ∷ []) }) → Tells r.answer paths → ⊥
  inside e older i r paths w said tells = elim (above e older (Outside i) r paths w said tells) [
    | inl o ↦
        let w' : Within (Solves parent_as o.number o.outputs o.keys ∷ older) now = subst (λ (z : PlantDeed). Within (z ∷ older) now) o.is w in
        let y = (moments parent_as o.number o.outputs o.keys older w').1 refl in
        let said' : Contains (cond (same_as parent_as parent_as) o.outputs []) (record { to = Outside i; message = messages.PcRep (r ∷ []) }) =
        subst (λ (z : PlantDeed). Contains (outputs_at parent_as z) (record { to = Outside i; message = messages.PcRep (r ∷ []) })) o.is said in
        let says = above_says c o.number y.held y.answer y.upper (Outside i) r
        (subst (λ (l : List Output). Contains l (record { to = Outside i; message = messages.PcRep (r ∷ []) })) y.sends (no_more (same_as parent_as parent_as) o.outputs _ said').1) in
        let at_older = opened_within c parent_as y.held.key.peer y.held.key.id older y.taken.at y.taken.is_open in
        let older_now = within_tail (Solves parent_as o.number o.outputs o.keys) older now w' in
        none_delivered c codec n net es s run i y.held.key.peer y.taken.request y.taken.at says.0 (within_trans y.taken.at older now at_older older_now) y.taken.delivered
    | inr key ↦
        none_outside n net c codec es s run i (messages.PcReq (key.taken ∷ [])) key.outputs older (subst (λ (z : PlantDeed). Within (z ∷ older) now) key.is w)
  ]

  pub given_of : Premises c n now
  given_of =
      let readings = messages_are_read c codec n es s run written in
      record {
        owns = run_owns c n es s run;
        solved = λ d k os keys older real w. (moments d k os keys older w).0 real;
        replied = replied_of c codec n es s run written;
        asked = asked_of_run c codec n es s run written short;
        carried_replies = λ d b replies os older w. (let r = readings.queues b d (messages.PcRep replies) os older w in record { before = r.before; is = r.is_popped; put = r.put; rest = r.rest; stood = r.stood });
        carried_requests = λ d b asks os older w. (let r = readings.queues b d (messages.PcReq asks) os older w in record { before = r.before; is = r.is_popped; put = r.put; rest = r.rest; stood = r.stood });
        ids = element_ids_differ c codec n es s run written short;
        ranged = taken_range c codec n now (outside_is_read c codec n es s run);
        expands = codec.numbers.expands;
        inside = inside;
        replied_above = above;
        solved_above = λ k os keys older w. (moments parent_as k os keys older w).1 refl;
      }

  -- each message of replies has one
  pub replies_alone : (m older : Transcript) (d : As) (p : Peer) (r : Reply) → Replies now m older d p r → RepliesAlone now m older d p r
  replies_alone m older d p r x =
      let o : Output = record { to = p; message = messages.PcRep x.replies } in
      let alone : length x.replies ≤ 1 = sent_alone c codec n es s run (all_read c codec now written) x.deed older (subst (λ (t : Transcript). Within t now) x.is x.within) d o (flip_in o (outputs_at d x.deed) (in_of o (outputs_at d x.deed) x.sent)) in
      record {
        deed = x.deed;
        is = x.is;
        within = x.within;
        sent = subst (λ (l : List Reply). Contains (outputs_at d x.deed) (record { to = p; message = messages.PcRep l })) (one_reply x.replies r alone x.among) x.sent;
        answer = x.answer;
      }

-- ---- the statements

pub least_replies_are : WrittenNetIds LeastRepliesIn
least_replies_are c codec n net es s run written short m older d p r real closed replies =
    least_replies c codec n (deeds_of c n es) (given_of c codec n net es s run written short) m older d p r real closed (replies_alone c codec n net es s run written short m older d p r replies)

pub none_replies_are : WrittenNetIds NoneRepliesIn
none_replies_are c codec n net es s run written short m older d p r real closed replies =
    none_replies c codec n (deeds_of c n es) (given_of c codec n net es s run written short) m older d p r real closed (replies_alone c codec n net es s run written short m older d p r replies)

pub least_answers_are : WrittenNetIds LeastAnswersIn
least_answers_are c codec n net es s run written short m older d i r client replies paths is =
    let given = given_of c codec n net es s run written short in
    let alone = replies_alone c codec n net es s run written short m older d (Outside i) r replies in (
      element_answers c codec n (deeds_of c n es) given m older d i r paths (subst (λ (a : Answer). Tells a paths) (sym is) refl) alone,
      least_answers c codec n (deeds_of c n es) given m older d i r client alone paths is,
    )

pub none_answers_are : WrittenNetIds NoneAnswersIn
none_answers_are c codec n net es s run written short m older d i r client replies vector is =
    let given = given_of c codec n net es s run written short in
    let alone = replies_alone c codec n net es s run written short m older d (Outside i) r replies in (
      element_answers c codec n (deeds_of c n es) given m older d i r [] (subst (λ (a : Answer). Tells a []) (sym is) (refl, refl)) alone,
      none_answers c codec n (deeds_of c n es) given m older d i r client alone vector is,
    )

-- the rows and the certificates of a solve
pub solves_certify : WrittenNet SolvesCertifyIn
solves_certify c codec n net es s run written d k h x =
    let y = solved_of c codec n net es s run written d k h x in
    let i = x.held.item in
    record {
      at = y.taken.at;
      is_open = y.taken.is_open;
      is_pinned = y.taken.pin;
      request = y.taken.request;
      delivered = y.taken.delivered;
      id = y.taken.id;
      wanted = i.wanted;
      is_path = y.taken.wanted;
      down = x.down;
      told = subst (λ (l : List As). IsServed c n (deeds_of c n es) d y.taken.at i.wanted l x.down) y.along y.served;
      query = refl;
      source = refl;
      entries =
          ap (λ (z : Class). entries_of z i.wanted.source i.pin.topology) y.taken.class
          ∙ ap (λ (g : Rows). entries_of (class_of n x.held.key.peer) i.wanted.source g) y.taken.pin;
      target = ap (λ (l : List As). target_along l i.wanted.target) y.along;
      below = refl;
      right = subst (λ (g : Rows). AreRows g (ask c n d (k, x.held) x.down) x.rows) y.taken.pin x.right;
      certified = λ seeds shown is. subst (λ (g : Rows). Certifies g i.wanted.query seeds (label_in shown.labels)) y.taken.pin is.certifies;
    }
