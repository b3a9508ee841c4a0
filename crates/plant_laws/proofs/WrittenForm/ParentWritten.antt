-- What the solve of the parent sends is in written form: a walk through the border graph passes each link once, and what a child told
-- of its own domain takes three hops.
use Rattle.std.proofs.Common.{◌≡◌, ◌≢◌, ◌≤◌, ◌<◌, ◌+◌, ◌*◌, ℕ, suc, false, cond, List, [], ◌∷◌, ◌++◌, length, sym, ◌∙◌, ap, subst, inl, inr, refl, arith}
use Rattle.std.specs.Prelude.{All, Contains, Option, Some, None}
use Rattle.std.specs.List.{AllByRecursion}
use Rattle.std.proofs.lemmas.List.Elements.{All-contains}
use Rattle.dom_base.specs.declared.limits.TheConstants.{COST_MAX}
use Rattle.plant_model.specs.Types.{Addr, As, Peer, Inner, ParentLink, Metric, Hop, Answer, Asked, Path, Reply, Request, Wanted, Issued, Branch, NetworkParts}
use Rattle.dom_base.specs.declared.query.Metric.TheVariants.{Igp, Te, Hops}
use Rattle.dom_base.specs.Admission.{weight}
use Rattle.pcep_subobjects.specs.Hops as hops
use Rattle.pcep_subobjects.specs.Hops.{hops_text, strict_hop}
use Rattle.pcep_messages.specs.declared.message.Answer.TheVariants.{Paths, NoPath}
use Rattle.pcep_messages.specs.declared.message.Message.TheVariants as messages
use Rattle.pcep_messages.specs.declared.message.Wish.TheVariants as wishes
use Rattle.pcep_messages.specs.Spelling.{IsWritten}
use Rattle.plant_text.specs.Names.{same_as, parent_as}
use Rattle.plant_text.specs.Settings.{class_of}
use Rattle.plant_model.specs.declared.output.Output.{Output}
use Rattle.plant_model.specs.declared.upper.BorderJob.{BorderJob}
use Rattle.plant_model.specs.declared.upper.ChildRow.{ChildRow}
use Rattle.plant_model.specs.Wire.{Codec, Admitted}
use Rattle.plant_model.specs.Laws.{IsCodec, IsNetwork, IsParentLink}
use Rattle.plant_model.specs.Writing.{asked_of, request_message, vspt_flag}
use Rattle.plant_model.specs.Branches.{path_of}
use Rattle.plant_model.specs.Taking.{sequence_or}
use Rattle.plant_model.specs.BorderGraph.{Vertex, Enter, Leave, Edge, IsFirstRow, IsLeastTo, Shows, SolvesBorder, Found}
use Rattle.plant_model.specs.Parent as parent
use Rattle.plant_model.specs.Parent.{Asking, rows_at, job_of}
use Rattle.plant_model.specs.Element.{is_client}
use Rattle.plant_model.specs.Settings.{place, family}
use Rattle.plant_model.specs.State.{Pops, Takes, Solves}
use Rattle.plant_model.specs.Plant.{Segment, Plant, PlantDeed, Happened, Entry, Run, deeds_of, ParentSolves}
use Rattle.plant_laws.specs.Transcript.{Transcript, Within, Standing, outputs_at, SentIn, numbers, Delivered}
use Rattle.plant_laws.specs.About.{IsShort, IsGathered, told_in}
use Rattle.plant_laws.specs.Certified.{Tells}
use Rattle.plant_laws.specs.Sending.{AreAll, AllSent}
use Rattle.border_costs.proofs.Members.{contains_none, contains_head, contains_cases}
use Rattle.plant_laws.proofs.Runs.Rows.{In, in_of}
use Rattle.plant_laws.proofs.Runs.Moments.{within_trans, opened_within, standing_put, no_more}
use Rattle.plant_laws.proofs.Least.Given.{Premises}
use Rattle.plant_laws.proofs.Least.FromElement.{within_tail, same_request, same_wanted, no_expansion}
use Rattle.plant_laws.proofs.Least.ClosedReplies.{closes, goes_to}
use Rattle.plant_laws.proofs.Least.LeastChains.{leg, neighbour_stays, solve_chained}
use Rattle.plant_laws.proofs.Once.Asks.{closed_class}
use Rattle.plant_laws.proofs.Once.OpenedRuns.{lookup_in}
use Rattle.plant_laws.proofs.Least.GatheredRuns.{has_gathered}
use Rattle.plant_laws.proofs.Runs.Inboxes.{contains}
use Rattle.plant_laws.proofs.Least.OfRun.{given_of}
use Rattle.plant_laws.proofs.WrittenForm.InForm.{all_append, no_path_written, paths_written}
use Rattle.plant_laws.proofs.WrittenForm.BestFits.{hop_short}
use Rattle.plant_laws.proofs.WrittenForm.DownsFit.{HopsFit, BranchesFit, text_cons, text_append, shown_fits, branches_fit, told_written, both_fit, drop_front, taken_written}
use Rattle.plant_laws.proofs.WrittenForm.SolvesWritten.{metric_fits}
use Rattle.plant_laws.proofs.WrittenForm.ElementSays.{Ok, under}
use Rattle.plant_laws.proofs.WrittenForm.ParentSays.{IsDown, IsMetBelow, asking_flags, asking_wanted}
use Rattle.plant_laws.proofs.WrittenForm.AllWritten.{AllDown, AllFit}

-- ---- different elements of a list are no more than it has

remove : {A : Type 0} (x : A) (ys : List A) → In x ys → List A
remove x [] i = absurd i
remove x (y ∷ ys) (inl e) = ys
remove x (y ∷ ys) (inr i) = y ∷ remove x ys i

remove_length : {A : Type 0} (x : A) (ys : List A) (i : In x ys) → suc (length (remove x ys i)) ≡ length ys
unfolding remove
remove_length x [] i = absurd i
remove_length x (y ∷ ys) (inl e) = omega arith
remove_length x (y ∷ ys) (inr i) = omega (arith, remove_length x ys i)

kept : {A : Type 0} (z x : A) (ys : List A) (i : In x ys) → (x ≡ z → ⊥) → In z ys → In z (remove x ys i)
unfolding remove
kept z x [] i other j = absurd i
kept z x (y ∷ ys) (inl e) other (inl f) = absurd (other (sym e ∙ f))
kept z x (y ∷ ys) (inl e) other (inr j) = j
kept z x (y ∷ ys) (inr i) other (inl f) = inl f
kept z x (y ∷ ys) (inr i) other (inr j) = inr (kept z x ys i other j)

abbrev AllDiffer : {A : Type 0} → List A → Type 0
AllDiffer [] = Unit {0}
AllDiffer (x ∷ xs) = AllByRecursion (λ y. x ≡ y → ⊥) xs × AllDiffer xs

few_differ : {A : Type 0} (xs ys : List A) → AllDiffer xs → AllByRecursion (λ x. In x ys) xs → length xs ≤ length ys
few_differ [] ys differ inside = omega arith
few_differ {A = A} (x ∷ xs) ys differ inside =
    let i = inside.0 in
    let rest = few_differ xs (remove x ys i) differ.1 (all_kept xs differ.0 inside.1) in
    omega (arith, rest, remove_length x ys i)
  where
    all_kept : (zs : List A) → AllByRecursion (λ z. x ≡ z → ⊥) zs → AllByRecursion (λ z. In z ys) zs → AllByRecursion (λ z. In z (remove x ys inside.0)) zs
    all_kept [] d h = tt
    all_kept (z ∷ zs) d h = (kept z x ys inside.0 d.0 h.0, all_kept zs d.1 h.1)

-- ---- a walk through the border graph

weight_some : (m : Metric) (l : ParentLink) → IsParentLink l → 1 ≤ weight m l.link
weight_some Igp l is = is.igp.0
weight_some Te l is = is.te.0
weight_some Hops l is = omega arith

module _ (j : BorderJob) (links : All IsParentLink j.links) (rows : AllByRecursion (λ (r : ChildRow). HopsFit 60 r.hops) j.rows) where
  abbrev tail : ParentLink → Vertex
  tail l = Leave l.from_as l.link.from

  abbrev extra : Vertex → ℕ
  extra (Enter a n) = 60
  extra (Leave a n) = 0

  -- its links, each with the cost from where it leaves
  record Trace (v : Vertex) (c : ℕ) (hs : List Hop) : Type 0 where
    pub passed : List ParentLink
    pub inside : AllByRecursion (λ (l : ParentLink). In l j.links) passed
    pub costs : AllByRecursion (λ (l : ParentLink). (d : ℕ) × IsLeastTo j (tail l) d × (d ≤ c)) passed
    pub differ : AllDiffer passed
    pub written : hops.AreWritten hs
    pub short : length (hops_text hs) ≤ extra v + 80 * length passed

  one_cost : (v : Vertex) (c d : ℕ) → IsLeastTo j v c → IsLeastTo j v d → c ≡ d
  one_cost v c d x y =
      let le = x.least y.walk d y.is_walk in
      let ge = y.least x.walk c x.is_walk in
      omega (arith, le, ge)

  raised : (c d : ℕ) (ls : List ParentLink) → c ≤ d → AllByRecursion (λ (l : ParentLink). (e : ℕ) × IsLeastTo j (tail l) e × (e ≤ c)) ls → AllByRecursion (λ (l : ParentLink). (e : ℕ) × IsLeastTo j (tail l) e × (e ≤ d)) ls
  raised c d [] le h = tt
  raised c d (l ∷ ls) le h = (let x = h.0 in (x.0, x.1, omega (arith, le, x.2)), raised c d ls le h.1)

  -- a link with a greater cost is none of these
  not_passed : (l : ParentLink) (c rest : ℕ) → IsLeastTo j (tail l) c → rest < c → (ls : List ParentLink) → AllByRecursion (λ (m : ParentLink). (e : ℕ) × IsLeastTo j (tail m) e × (e ≤ rest)) ls → AllByRecursion (λ (m : ParentLink). l ≡ m → ⊥) ls
  not_passed l c rest is less [] h = tt
  not_passed l c rest is less (m ∷ ls) h = (
    (λ same.
        let x = h.0 in
        let one = one_cost (tail m) c x.0 (subst (λ (z : ParentLink). IsLeastTo j (tail z) c) same is) x.1 in
        omega (arith, one, x.2, less)),
    not_passed l c rest is less ls h.1,
  )

  row_in : (row : ChildRow) → IsFirstRow j.rows row → HopsFit 60 row.hops
  row_in row first = (drop_front (λ (r : ChildRow). HopsFit 60 r.hops) first.before (row ∷ first.after) (subst (AllByRecursion (λ (r : ChildRow). HopsFit 60 r.hops)) first.is rows)).0

  trace : (walk : List Vertex) (v : Vertex) (c : ℕ) (hs : List Hop) → IsLeastTo j v c → Shows j walk v c hs → Trace v c hs
  trace [] (Enter a n) c hs least shows = absurd shows.0
  trace [] (Leave a n) c hs least shows =
      subst (Trace (Leave a n) c) (sym shows.1) (record { passed = []; inside = tt; costs = tt; differ = tt; written = tt; short = omega arith })
  trace (Enter b m ∷ us) (Enter a n) c hs least shows = absurd shows.tight.0
  trace (Leave b m ∷ us) (Leave a n) c hs least shows = absurd shows.tight.0
  trace (Leave b m ∷ us) (Enter a n) c hs least shows =
      let e = shows.tight.0 in
      let more = trace us (Leave b m) shows.rest shows.below shows.tight.1 shows.shown in
      let fit = row_in e.0 e.1 in
      let own : shows.edge.hops ≡ e.0.hops = ap (λ (x : Edge). x.hops) e.7 in
      let sum = shows.tight.2 in
      let le : shows.rest ≤ c = omega (arith, sum) in
      subst (Trace (Enter a n) c) (sym (shows.is_hops ∙ ap (λ (l : List Hop). l ++ shows.below) own))
      (record {
        passed = more.passed;
        inside = more.inside;
        costs = raised shows.rest c more.passed le more.costs;
        differ = more.differ;
        written = all_append hops.IsWritten e.0.hops shows.below fit.written more.written;
        short = (let few = more.short in omega (arith, text_append e.0.hops shows.below, fit.short, few));
      })
  trace (Enter b m ∷ us) (Leave a n) c hs least shows =
      let e = shows.tight.0 in
      let l = e.0 in
      let is = All-contains IsParentLink j.links l links e.1 in
      let more = trace us (Enter b m) shows.rest shows.below shows.tight.1 shows.shown in
      let own : shows.edge.hops ≡ strict_hop l.link.far ∷ [] = ap (λ (x : Edge). x.hops) e.9 in
      let cost : shows.edge.cost ≡ weight j.query.metric l.link = ap (λ (x : Edge). x.cost) e.9 in
      let some = weight_some j.query.metric l is in
      let sum = shows.tight.2 in
      let less : shows.rest < c = omega (arith, sum, cost, some) in
      let place : Leave a n ≡ tail l = ap (λ (x : As). Leave x n) (sym e.2) ∙ ap (λ (x : Addr). Leave l.from_as x) (sym e.3) in
      let here : IsLeastTo j (tail l) c = subst (λ (v : Vertex). IsLeastTo j v c) place least in
      subst (Trace (Leave a n) c) (sym (shows.is_hops ∙ ap (λ (hs' : List Hop). hs' ++ shows.below) own))
      (record {
        passed = l ∷ more.passed;
        inside = (in_of l j.links e.1, more.inside);
        costs = ((c, here, omega arith), raised shows.rest c more.passed (omega (arith, less)) more.costs);
        differ = (not_passed l c shows.rest here less more.passed more.costs, more.differ);
        written = ((refl, refl, is.link.far), more.written);
        short = (let few = more.short in omega (arith, text_cons (strict_hop l.link.far) shows.below, hop_short l.link.far, few));
      })

  pub walk_fits : length j.links ≤ 256 → (walk : List Vertex) (a : As) (n : Addr) (c : ℕ) (hs : List Hop) → IsLeastTo j (Enter a n) c → Shows j walk (Enter a n) c hs → HopsFit 20540 hs
  walk_fits few walk a n c hs least shows =
      let t = trace walk (Enter a n) c hs least shows in
      let once = few_differ t.passed j.links t.differ t.inside in
      record { written = t.written; short = (let short = t.short in omega (arith, short, once, few)) }

-- ---- the rows of a run

told_fits : (most : ℕ) (c : Codec) (m : Metric) (a : Answer) → ((ps : List Path) → Tells a ps → AllByRecursion (λ (p : Path). HopsFit most p.hops) ps) → BranchesFit most (told_in c m a)
told_fits most c m (Paths ps) each = branches_fit most c m ps (each ps refl)
told_fits most c m (NoPath nature vector) each = tt

row_of_branch : (most : ℕ) (child : As) (target : Addr) (bs : List Branch) (row : ChildRow) → BranchesFit most bs → Contains (rows_at child target bs) row → HopsFit most row.hops
row_of_branch most child target [] row fit there = absurd (contains_none row there)
row_of_branch most child target (b ∷ bs) row fit there = elim (contains_cases _ (rows_at child target bs) row there) [
  | inl same ↦ subst (λ (r : ChildRow). HopsFit most r.hops) same fit.0
  | inr more ↦ row_of_branch most child target bs row fit.1 more
]

module _ (c : Codec) (codec : IsCodec c) (n : NetworkParts) (now : Transcript) (given : Premises c n now) (written : AllSent IsWritten now) (down : AllDown c now) where
  down_within : (e : PlantDeed) (older ds : Transcript) → Within (e ∷ older) ds → AllDown c ds → AllByRecursion (λ (o : Output). IsDown c o.to o.message) (outputs_at parent_as e)
  down_within e older [] w h = absurd (let out : e ∷ older ≡ [] = w in cc)
  down_within e older (d ∷ ds) (inl is) h = let same : d ≡ e = cc in subst (λ (z : PlantDeed). AllByRecursion (λ (o : Output). IsDown c o.to o.message) (outputs_at parent_as z)) same h.0
  down_within e older (d ∷ ds) (inr w) h = down_within e older ds w h.1

  of_all : (os : List Output) (o : Output) → AllByRecursion (λ (o : Output). IsDown c o.to o.message) os → Contains os o → IsDown c o.to o.message
  of_all [] o h there = absurd (contains_none o there)
  of_all (x ∷ os) o h there = elim (contains_cases x os o there) [
    | inl same ↦ subst (λ (z : Output). IsDown c z.to z.message) same h.0
    | inr more ↦ of_all os o h.1 more
  ]

  -- what the parent sent to an element
  sent_below : (put : Transcript) (b : As) (a : Asked) → Within put now → SentIn put parent_as (Inner b) (messages.PcReq (a ∷ [])) → IsMetBelow c a b
  sent_below [] b a within sent = absurd sent
  sent_below (e ∷ older) b a within sent =
      let x = of_all (outputs_at parent_as e) (record { to = Inner b; message = messages.PcReq (a ∷ []) }) (down_within e older now within down) sent in
      let child : x.0 ≡ b = (let same = x.1 in cc) in
      let asked : x.2 ≡ a = (let same = x.3 in cc) in
      subst (IsMetBelow c a) child (subst (λ (z : Asked). IsMetBelow c z x.0) asked x.4)

  taken_below : (b : As) (a : Asked) (os : List Output) (older : Transcript) → Within (Takes b (Inner parent_as) (messages.PcReq (a ∷ [])) os ∷ older) now → IsMetBelow c a b
  taken_below b a os older within =
      let deed : PlantDeed = Takes b (Inner parent_as) (messages.PcReq (a ∷ [])) os in
      let carried = given.carried_requests b parent_as (a ∷ []) os older within in
      let stood : Standing = record { message = messages.PcReq (a ∷ []); put = carried.put } in
      let was = standing_put parent_as b carried.before stood (subst (λ (l : List Standing). Contains l stood) (sym carried.stood) (contains_head stood carried.rest)) in
      let before_within : Within carried.before now = within_tail (Pops parent_as b) carried.before now (subst (λ (o : Transcript). Within o now) carried.is (within_tail deed older now within)) in
      sent_below carried.put b a (within_trans carried.put carried.before now was.within before_within) was.sent

  -- the request of the parent that an element took asks for its own domain alone
  pub asked_alone : (b : As) (r : Request) (at : Transcript) → Within at now → Delivered c at b (Inner parent_as) r → (id : ℕ) × (w : Wanted) × (w.sequence ≡ b ∷ []) × (Admitted r ≡ Admitted (record { flags = vspt_flag; id = id; wish = wishes.Path w }))
  asked_alone b r [] within h = absurd h
  asked_alone b r (e ∷ older) within h =
      let met = taken_below b h.0 h.1 older (subst (λ (z : PlantDeed). Within (z ∷ older) now) h.2 within) in
      (met.id, met.wanted, met.alone, sym h.3 ∙ met.admits)

  -- what a child told the parent takes three hops
  module _ (b : As) (real : b ≢ parent_as) (r : Reply) (paths : List Path) (tells : Tells r.answer paths) where
    abbrev AreShort : Type 0
    AreShort = (p : Path) → In p paths → length (hops_text p.hops) ≤ 60

    by_solve : (k : ℕ) (os : List Output) (keys : List (Issued Segment)) (older : Transcript) → Within (Solves b k os keys ∷ older) now → Contains os (record { to = Inner parent_as; message = messages.PcRep (r ∷ []) }) → AreShort
    by_solve k os keys older within said p inside =
        let y = given.solved b k os keys older real within in
        let ch = solve_chained c codec n now given (suc (length older)) b real k os keys older within (omega arith) in
        let one = leg c codec n now given b k os keys older y.taken.at in
        let says = subst (λ (l : List Output). Contains l (record { to = Inner parent_as; message = messages.PcRep (r ∷ []) })) y.sends said in
        let to : y.held.key.peer ≡ Inner parent_as = goes_to c n b k y.held y.down y.now y.element y.rows.source_known y.rows.target_known one ch.chain ch.end (Inner parent_as) (messages.PcRep (r ∷ [])) y.rows.best says in
        let class : is_client y.held.item.class ≡ false = ap is_client (y.taken.class ∙ ap (class_of n) to) ∙ closed_class n parent_as in
        let right = closes c n b k y.held y.down y.now y.element y.rows.source_known y.rows.target_known one ch.chain ch.end refl y.life (Inner parent_as) r paths y.rows.best class ch.ways says tells y.has in
        let at_now = within_trans y.taken.at older now (opened_within c b y.held.key.peer y.held.key.id older y.taken.at y.taken.is_open) (within_tail (Solves b k os keys) older now within) in
        let alone = asked_alone b y.taken.request y.taken.at at_now (subst (λ (q : Peer). Delivered c y.taken.at b q y.taken.request) to y.taken.delivered) in
        let same = same_request y.taken.request (record { flags = vspt_flag; id = alone.0; wish = wishes.Path alone.1 }) alone.3 in
        let wanted : y.held.item.wanted ≡ alone.1 = same_wanted y.held.item.wanted alone.1 (sym y.taken.wanted ∙ ap (λ (q : Request). q.wish) same) in
        let along : numbers (one ∷ ch.chain) ++ ch.behind ≡ b ∷ [] = ch.along ∙ ap (λ (v : Wanted). sequence_or b v.sequence) wanted ∙ ap (sequence_or b) alone.2 in
        let told = right.2.each p (contains p paths inside) in
        let short = shown_fits c codec n now given written y.held.item.wanted ch.behind (one ∷ ch.chain) ch.end (Solves b k os keys ∷ older) within ch.chained ch.reaches
        y.held.item.wanted.query told.0 p.hops told.2.legs told.2.last told.2.shown in
        let long = ap (λ (l : List As). length l) along in
        omega (arith, short, long)

    by_put : (put : Transcript) → Within put now → SentIn put b (Inner parent_as) (messages.PcRep (r ∷ [])) → AreShort
    by_put [] within sent = absurd sent
    by_put (e ∷ older) within sent =
        elim (given.replied e older b (Inner parent_as) r paths real within sent tells) [
          | inl o ↦
              let said : Contains (cond (same_as b b) o.outputs []) (record { to = Inner parent_as; message = messages.PcRep (r ∷ []) }) =
              subst (λ (z : PlantDeed). Contains (outputs_at b z) (record { to = Inner parent_as; message = messages.PcRep (r ∷ []) })) o.is sent in
              by_solve o.number o.outputs o.keys older (subst (λ (z : PlantDeed). Within (z ∷ older) now) o.is within) (no_more (same_as b b) o.outputs _ said).1
          | inr (inl key) ↦
              let met = taken_below b key.taken key.outputs older (subst (λ (z : PlantDeed). Within (z ∷ older) now) key.is within) in
              let same = same_request key.request (record { flags = vspt_flag; id = met.id; wish = wishes.Path met.wanted }) (sym key.admits ∙ met.admits) in
              absurd (no_expansion met.wanted key.key key.pce (sym (ap (λ (q : Request). q.wish) same) ∙ key.wish))
          | inr (inr p) ↦
              let class : is_client p.held.item.class ≡ false = ap is_client (p.taken.class ∙ ap (class_of n) (sym p.to)) ∙ closed_class n parent_as in
              absurd (neighbour_stays (place n b).parent p.held.item.class p.held.item.wanted.sequence class p.goes)
        ]

  pub gathered_fits : (asking : Transcript) (w : Wanted) (row : ChildRow) → Within asking now → IsGathered c now asking w row → HopsFit 60 row.hops
  gathered_fits asking w row within g =
      let real : row.at ≢ parent_as = child_real asking within g.sent in
      let deed : PlantDeed = Takes parent_as (Inner row.at) (messages.PcRep (g.reply ∷ [])) g.os in
      let carried = given.carried_replies parent_as row.at (g.reply ∷ []) g.os g.older g.within in
      let stood : Standing = record { message = messages.PcRep (g.reply ∷ []); put = carried.put } in
      let was = standing_put row.at parent_as carried.before stood (subst (λ (l : List Standing). Contains l stood) (sym carried.stood) (contains_head stood carried.rest)) in
      let before_within : Within carried.before now = within_tail (Pops row.at parent_as) carried.before now (subst (λ (o : Transcript). Within o now) carried.is (within_tail deed g.older now g.within)) in
      let put_within = within_trans carried.put carried.before now was.within before_within in
      let texts = taken_written c codec n now given written parent_as row.at g.reply g.os g.older g.within in
      row_of_branch 60 row.at row.target (told_in c w.query.metric g.reply.answer) row
      (told_fits 60 c w.query.metric g.reply.answer (λ ps tells. both_fit 60 ps (told_written g.reply ps texts tells) (by_put row.at real g.reply ps tells carried.put put_within was.sent)))
      g.is_row
    where
      child_real : (m : Transcript) → Within m now → SentIn m parent_as (Inner row.at) (request_message g.reply.id w row.target (row.at ∷ [])) → row.at ≢ parent_as
      child_real m inside sent same = let met = sent_below m row.at (asked_of g.reply.id w row.target (row.at ∷ [])) inside sent in let some = met.real in let zero_as = ap (λ (a : As). a.0) same in omega (arith, some, zero_as)

-- ---- a solve of the parent

module _ (c : Codec) (codec : IsCodec c) (n : NetworkParts) (net : IsNetwork n) (es : List Entry) (s : Plant) (run : Run c n es s) (written : AllSent IsWritten (deeds_of c n es)) (down : AllDown c (deeds_of c n es)) (fit : AllFit c codec n net s)
    (short : IsShort (deeds_of c n es)) where
  pub upper_writes : (k : ℕ) (h : Happened) (x : ParentSolves c n k s h) → AreAll IsWritten (parent.commit c (k, x.held) x.answer s.parent).outputs
  upper_writes k h x = go x.answer x.solves
    where
      ok : Ok Asking asking_flags asking_wanted x.held
      ok = under Asking asking_flags asking_wanted k s.parent.pending.rows x.held fit.parent.0 x.is_held

      rows_fit : AllByRecursion (λ (r : ChildRow). HopsFit 60 r.hops) x.held.item.rows
      rows_fit =
          let there : Contains s.parent.pending.rows (k, x.held) = contains (k, x.held) s.parent.pending.rows (lookup_in k s.parent.pending.rows x.held x.is_held) in
          let g = has_gathered c codec n es s run written (k, x.held) there x.ready in
          let asking = opened_within c parent_as x.held.key.peer x.held.key.id (deeds_of c n es) g.at g.is_open in
          all_rows x.held.item.rows (λ r i. gathered_fits c codec n (deeds_of c n es) (given_of c codec n net es s run written short) written down g.at x.held.item.wanted r asking (g.each r (contains r x.held.item.rows i)))
        where
          all_rows : (rs : List ChildRow) → ((r : ChildRow) → In r rs → HopsFit 60 r.hops) → AllByRecursion (λ (r : ChildRow). HopsFit 60 r.hops) rs
          all_rows [] each = tt
          all_rows (r ∷ rs) each = (each r (inl refl), all_rows rs (λ q i. each q (inr i)))

      go : (o : Option Found) → SolvesBorder (job_of (family n) (k, x.held)) o → AreAll IsWritten (parent.commit c (k, x.held) o s.parent).outputs
      go None solves = (no_path_written x.held.item.flags x.held.key.id 0 0 ok.0 (omega arith) (omega arith), tt)
      go (Some a) solves =
          let hops_fit = walk_fits (job_of (family n) (k, x.held)) net.parent_links rows_fit net.few_parent_links solves.2 (job_of (family n) (k, x.held)).start (job_of (family n) (k, x.held)).source a.cost a.hops solves.0 solves.3 in
          let cost : a.cost ≤ COST_MAX = (let le = solves.1 in let cap = ok.1.2 in omega (arith, le, cap)) in (
            paths_written x.held.item.flags x.held.key.id 20540 (path_of c x.held.item.wanted.query.metric a.cost a.hops ∷ []) ok.0 tt (omega arith)
                (record { route = hops_fit.written; few = hops_fit.short; metric = metric_fits c codec x.held.item.wanted.query.metric a.cost cost }, tt) (omega arith),
            tt,
          )
