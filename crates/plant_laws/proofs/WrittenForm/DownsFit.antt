-- What was told of a request for the next domain is in written form, and takes at most three hops for each domain from there on.
use Rattle.std.proofs.Common.{◌≡◌, ◌≢◌, ◌≤◌, ◌+◌, ◌*◌, ◌==◌, ℕ, suc, Bool, true, false, cond, nat_le, List, [], ◌∷◌, ◌++◌, length, sym, ◌∙◌, ap, subst, inl, inr, refl, arith, length-append}
use Rattle.std.specs.Prelude.{Option, Some, None}
use Rattle.std.specs.List.{AllByRecursion, flat_map}
use Rattle.std.proofs.lemmas.List.Concat.{flat_map-cons, flat_map-append}
use Rattle.dom_base.specs.declared.limits.TheConstants.{COST_MAX}
use Rattle.plant_model.specs.Types.{Addr, As, Peer, Inner, Outside, Query, Metric, Hop, Object, Answer, Path, Reply, Wanted, Issued, Branch, NetworkParts}
use Rattle.dom_base.specs.declared.addr.Addr.TheVariants.{V4, V6}
use Rattle.walk_laws.specs.Crossing.{Leg, Last, Links, Over}
use Rattle.pcep_subobjects.specs.declared.hop.Hop.TheVariants.{Prefix, AsNumber, Key, Other}
use Rattle.pcep_subobjects.specs.Hops as hops
use Rattle.pcep_subobjects.specs.Hops.{hop_text, hops_text, strict_hop}
use Rattle.pcep_objects.specs.Spelling as objects
use Rattle.pcep_messages.specs.declared.message.Answer.TheVariants.{Paths, NoPath}
use Rattle.pcep_messages.specs.declared.message.Message.TheVariants as messages
use Rattle.pcep_messages.specs.Spelling.{IsWritten, answer_objects, path_objects, metric_objects}
use Rattle.outside_part.specs.Ranges.{IsInRange, AreInRange, EachPath}
use Rattle.outside_part.specs.Rows.{IsPlain}
use Rattle.disclosure.specs.Shown.{closed_of}
use Rattle.plant_text.specs.Names.{parent_as}
use Rattle.plant_model.specs.declared.output.Output.{Output}
use Rattle.plant_model.specs.Wire.{Codec}
use Rattle.plant_model.specs.Laws.{IsCodec, IsSequence}
use Rattle.plant_model.specs.Routes.{toward}
use Rattle.plant_model.specs.Taking.{sequence_or}
use Rattle.plant_model.specs.Branches.{branch_with, branch_at, branch_by, branch_of, branches_in}
use Rattle.pcep_messages.specs.Requests.{type_of_metric}
use Rattle.plant_model.specs.State.{Takes}
use Rattle.plant_model.specs.Settings.{place}
use Rattle.plant_model.specs.Plant.{Segment, PlantDeed}
use Rattle.plant_laws.specs.Transcript.{Transcript, Within, Standing, Visit, Chain, numbers}
use Rattle.plant_laws.specs.Ends.{End, Inside, Asked, ChainEnds}
use Rattle.plant_laws.specs.Shown.{ShowsAlong}
use Rattle.plant_laws.specs.Certified.{Tells, IsServed, IsAnswered}
use Rattle.plant_laws.specs.Sending.{AllSent}
use Rattle.plant_laws.proofs.Runs.Rows.{In, in_of}
use Rattle.plant_laws.proofs.WrittenForm.ReadBack.{standing_sent}
use Rattle.plant_laws.proofs.Runs.Moments.{within_here, within_trans}
use Rattle.plant_laws.proofs.Least.BestParts.{IsFirst, first_is}
use Rattle.plant_laws.proofs.WrittenForm.HeededHops.{AreFewPlain, sifted_plain}
use Rattle.plant_laws.proofs.Least.Given.{Premises, IsSolved}
use Rattle.plant_laws.proofs.Least.FromElement.{own_sequence, real_next}
use Rattle.plant_laws.proofs.Least.LeastChains.{taken_asked, taken_admits, toward_is, told_beyond, solve_chained}
use Rattle.plant_laws.proofs.Runs.Inboxes.{contains}
use Rattle.plant_laws.proofs.WrittenForm.InForm.{all_append}
use Rattle.plant_laws.proofs.WrittenForm.BestFits.{hop_short}

-- ---- sizes

key_short : (key : ℕ) (pce : Addr) → length (hop_text (Key false key pce)) ≤ 20
key_short key (V4 n) = omega arith
key_short key (V6 n) = omega arith

pub text_cons : (h : Hop) (hs : List Hop) → length (hops_text (h ∷ hs)) ≡ length (hop_text h) + length (hops_text hs)
text_cons h hs = ap length (flat_map-cons hop_text h hs) ∙ length-append (hop_text h) (hops_text hs)

pub text_append : (xs ys : List Hop) → length (hops_text (xs ++ ys)) ≡ length (hops_text xs) + length (hops_text ys)
text_append xs ys = ap length (flat_map-append hop_text xs ys) ∙ length-append (hops_text xs) (hops_text ys)

-- an entry and a key
pub closed_short : (entry : Addr) (key : ℕ) (pce : Addr) → length (hops_text (closed_of entry key pce None)) ≤ 40
closed_short entry key pce =
    omega (arith, text_cons (strict_hop entry) (Key false key pce ∷ []), text_cons (Key false key pce) [], hop_short entry, key_short key pce)

pub ended_short : (entry : Addr) (key : ℕ) (pce end : Addr) → length (hops_text (closed_of entry key pce (Some end))) ≤ 60
ended_short entry key pce end =
    omega (arith, text_cons (strict_hop entry) (Key false key pce ∷ strict_hop end ∷ []), text_cons (Key false key pce) (strict_hop end ∷ []), text_cons (strict_hop end) [], hop_short entry, key_short key pce, hop_short end)

-- plain hops with numbers of their types
hop_fits : (h : Hop) → IsPlain h → IsInRange h → hops.IsWritten h × (length (hop_text h) ≤ 20)
hop_fits (Prefix loose (V4 a) size) plain range = ((plain.0, plain.1, range), omega arith)
hop_fits (Prefix loose (V6 a) size) plain range = ((plain.0, plain.1, range), omega arith)
hop_fits (AsNumber loose number) plain range = absurd plain
hop_fits (Key loose key (V4 a)) plain range = (range, omega arith)
hop_fits (Key loose key (V6 a)) plain range = (range, omega arith)
hop_fits (Other loose kind body) plain range = absurd plain

hops_fit : (hs : List Hop) → AllByRecursion IsPlain hs → AllByRecursion IsInRange hs → hops.AreWritten hs × (length (hops_text hs) ≤ 20 * length hs)
hops_fit [] plain range = (tt, omega arith)
hops_fit (h ∷ hs) plain range =
    let one = hop_fits h plain.0 range.0 in
    let more = hops_fit hs plain.1 range.1 in
    ((one.0, more.0), omega (arith, one.1, more.1, text_cons h hs))

-- ---- branches

-- in written form, and short
pub record HopsFit (most : ℕ) (hs : List Hop) : Type 0 where
  pub written : hops.AreWritten hs
  pub short : length (hops_text hs) ≤ most

abbrev pub BranchesFit : ℕ → List Branch → Type 0
BranchesFit most bs = AllByRecursion (λ (b : Branch). HopsFit most b.hops) bs

with_fits : (most cost : ℕ) (hs : List Hop) (entry : Addr) → HopsFit most hs → BranchesFit most (branch_with cost hs entry)
with_fits most cost hs entry fit = go (nat_le cost COST_MAX)
  where
    go : (b : Bool) → BranchesFit most (let one : Branch = record { entry = entry; cost = cost; hops = hs } in cond b (one ∷ []) [])
    go true = (fit, tt)
    go false = tt

at_fits : (most cost : ℕ) (hs front : List Hop) → HopsFit most hs → BranchesFit most (branch_at cost hs front)
at_fits most cost hs [] fit = tt
at_fits most cost hs (Prefix loose entry length ∷ rest) fit = with_fits most cost hs entry fit
at_fits most cost hs (AsNumber loose n ∷ rest) fit = tt
at_fits most cost hs (Key loose n pce ∷ rest) fit = tt
at_fits most cost hs (Other loose kind body ∷ rest) fit = tt

by_fits : (most : ℕ) (hs : List Hop) (o : Option ℕ) → HopsFit most hs → BranchesFit most (branch_by hs o)
by_fits most hs None fit = tt
by_fits most hs (Some cost) fit = at_fits most cost hs hs fit

branch_fits : (most : ℕ) (c : Codec) (m : Metric) (hs : List Hop) (o : Option (ℕ × ℕ)) → HopsFit most hs → BranchesFit most (branch_of c m hs o)
branch_fits most c m hs None fit = tt
branch_fits most c m hs (Some metric) fit = go (metric.0 == type_of_metric m) (by_fits most hs (c.units metric.1) fit)
  where
    go : (b : Bool) → BranchesFit most (branch_by hs (c.units metric.1)) → BranchesFit most (cond b (branch_by hs (c.units metric.1)) [])
    go true more = more
    go false more = tt

pub branches_fit : (most : ℕ) (c : Codec) (m : Metric) (ps : List Path) → AllByRecursion (λ (p : Path). HopsFit most p.hops) ps → BranchesFit most (branches_in c m ps)
branches_fit most c m [] all = tt
branches_fit most c m (p ∷ ps) all = all_append (λ (b : Branch). HopsFit most b.hops) (branch_of c m p.hops p.metric) (branches_in c m ps) (branch_fits most c m p.hops p.metric all.0) (branches_fit most c m ps all.1)

-- ---- paths of a reply in written form

pub drop_front : {X : Type 0} (Q : X → Type 0) (xs ys : List X) → AllByRecursion Q (xs ++ ys) → AllByRecursion Q ys
drop_front Q [] ys h = h
drop_front Q (x ∷ xs) ys h = drop_front Q xs ys h.1

paths_hops : (ps : List Path) (rest : List Object) → AllByRecursion objects.IsWritten (flat_map path_objects ps ++ rest) → AllByRecursion (λ (p : Path). hops.AreWritten p.hops) ps
paths_hops [] rest all = tt
paths_hops (p ∷ ps) rest all = (all.0.fits, paths_hops ps rest (drop_front objects.IsWritten (metric_objects p.metric) (flat_map path_objects ps ++ rest) (again all.1)))
  where
    assoc : {X : Type 0} (xs ys zs : List X) → (xs ++ ys) ++ zs ≡ xs ++ (ys ++ zs)
    assoc [] ys zs = refl
    assoc (x ∷ xs) ys zs = ap (λ l. x ∷ l) (assoc xs ys zs)

    again : AllByRecursion objects.IsWritten ((metric_objects p.metric ++ flat_map path_objects ps) ++ rest) → AllByRecursion objects.IsWritten (metric_objects p.metric ++ (flat_map path_objects ps ++ rest))
    again h = subst (AllByRecursion objects.IsWritten) (assoc (metric_objects p.metric) (flat_map path_objects ps) rest) h

pub told_written : (r : Reply) (ps : List Path) → IsWritten (messages.PcRep (r ∷ [])) → Tells r.answer ps → AllByRecursion (λ (p : Path). hops.AreWritten p.hops) ps
told_written r ps is tells = go r.answer is.objects.1 tells
  where
    go : (a : Answer) → AllByRecursion objects.IsWritten (answer_objects a ++ []) → Tells a ps → AllByRecursion (λ (p : Path). hops.AreWritten p.hops) ps
    go (Paths told) all same = subst (AllByRecursion (λ (p : Path). hops.AreWritten p.hops)) same (paths_hops told [] all)
    go (NoPath nature vector) all none = subst (AllByRecursion (λ (p : Path). hops.AreWritten p.hops)) (sym none.1) tt

-- with what is known of each
pub both_fit : (most : ℕ) (ps : List Path) → AllByRecursion (λ (p : Path). hops.AreWritten p.hops) ps → ((p : Path) → In p ps → length (hops_text p.hops) ≤ most) → AllByRecursion (λ (p : Path). HopsFit most p.hops) ps
both_fit most [] written short = tt
both_fit most (p ∷ ps) written short = (record { written = written.0; short = short p (inl refl) }, both_fit most ps written.1 (λ q i. short q (inr i)))

pub sent_within : (m now : Transcript) → Within m now → AllSent IsWritten now → AllSent IsWritten m
sent_within m [] w h = subst (λ (l : Transcript). AllSent IsWritten l) (sym w) tt
sent_within m (e ∷ now) (inl is) h = subst (λ (l : Transcript). AllSent IsWritten l) (sym is) h
sent_within m (e ∷ now) (inr w) h = sent_within m now w h.1

-- ---- a solve after a run

module _ (c : Codec) (codec : IsCodec c) (n : NetworkParts) (now : Transcript) (given : Premises c n now) (written : AllSent IsWritten now) where
  -- a reply that an element took was written
  pub taken_written : (d b : As) (r : Reply) (os : List Output) (older : Transcript) → Within (Takes d (Inner b) (messages.PcRep (r ∷ [])) os ∷ older) now → IsWritten (messages.PcRep (r ∷ []))
  taken_written d b r os older within =
      let carried = given.carried_replies d b (r ∷ []) os older within in
      let deed : PlantDeed = Takes d (Inner b) (messages.PcRep (r ∷ [])) os in
      let before : AllSent IsWritten carried.before = (subst (λ (l : Transcript). AllSent IsWritten l) carried.is (sent_within (deed ∷ older) now within written).1).1 in
      let stood : Standing = record { message = messages.PcRep (r ∷ []); put = carried.put } in
      standing_sent IsWritten b d carried.before stood before (subst (λ (l : List Standing). In stood l) (sym carried.stood) (inl refl))

  -- what an outside peer told, of which so many domains
  out_fits : (d : As) (at m : Transcript) (w : Wanted) (i : ℕ) (b : As) (rest : List As) (down : List Branch) → Within m now → IsAnswered c m d at w (Outside i) b rest down → BranchesFit (60 * length (b ∷ rest)) down
  out_fits d at m w i b rest down within a =
      let domains = length (b ∷ rest) in
      let range : AreInRange a.reply.answer = given.ranged d i a.reply a.outputs a.before (within_trans (Takes d (Outside i) (messages.PcRep (a.reply ∷ [])) a.outputs ∷ a.before) m now a.within within) in
      let plain : EachPath (λ (p : Path). AreFewPlain (3 * domains) p.hops) a.reply.answer =
      subst (λ (r : Reply). EachPath (λ (p : Path). AreFewPlain (3 * domains) p.hops) r.answer) (sym a.heeded.1) (sifted_plain c.units c.word (3 * domains) a.heeded.0.answer) in
      subst (BranchesFit (60 * domains)) (sym a.is) (branches_fit (60 * domains) c w.query.metric a.paths (go domains a.reply.answer plain range a.tells))
    where
      each : (domains : ℕ) (ps : List Path) → AllByRecursion (λ (p : Path). AreFewPlain (3 * domains) p.hops) ps → AllByRecursion (λ (p : Path). AllByRecursion IsInRange p.hops) ps → AllByRecursion (λ (p : Path). HopsFit (60 * domains) p.hops) ps
      each domains [] plain range = tt
      each domains (p ∷ ps) plain range =
          let fit = hops_fit p.hops plain.0.0 range.0 in
          (record { written = fit.0; short = omega (arith, fit.1, plain.0.1) }, each domains ps plain.1 range.1)

      go : (domains : ℕ) (x : Answer) → EachPath (λ (p : Path). AreFewPlain (3 * domains) p.hops) x → AreInRange x → Tells x a.paths → AllByRecursion (λ (p : Path). HopsFit (60 * domains) p.hops) a.paths
      go domains (Paths told) plain range same = subst (AllByRecursion (λ (p : Path). HopsFit (60 * domains) p.hops)) same (each domains told plain range)
      go domains (NoPath nature vector) plain range none = subst (AllByRecursion (λ (p : Path). HopsFit (60 * domains) p.hops)) (sym none.1) tt

  -- what was told at the end of a chain
  abbrev EndFits : ℕ → End → Type 0
  EndFits most (Inside t) = Unit {0}
  EndFits most (Asked next told) = BranchesFit most told

  end_fits : (w : Wanted) (behind : List As) (chain : List Visit) (end : End) (m : Transcript) → Within m now → Chain m chain → ChainEnds c n w behind chain end → EndFits (60 * length behind) end
  end_fits w behind [] end m within chained ends = absurd ends
  end_fits w behind (one ∷ []) (Inside t) m within chained ends = tt
  end_fits w behind (one ∷ []) (Asked next told) m within chained ends =
      subst (λ (l : List As). BranchesFit (60 * length l) told) (sym ends.is_behind)
      (out_fits one.own one.at one.solved w ends.peer next ends.rest told (within_trans one.solved m now chained.1 within) ends.answered)
  end_fits w behind (one ∷ next ∷ rest) end m within chained ends = end_fits w behind (next ∷ rest) end m within chained.3 ends

  in_fits : (most : ℕ) (bs : List Branch) (b : Branch) → In b bs → BranchesFit most bs → HopsFit most b.hops
  in_fits most [] b none all = absurd none
  in_fits most (x ∷ xs) b (inl same) all = subst (λ (z : Branch). HopsFit most z.hops) same all.0
  in_fits most (x ∷ xs) b (inr more) all = in_fits most xs b more all.1

  -- what is shown behind keys takes at most three hops for each domain of the chain, and those of what was told at its end
  shows_short : (q : Query) (most : ℕ) (end : End) → EndFits most end → (chain : List Visit) (e : Addr) (hs : List Hop) (legs : List Leg) (last : Last) → ShowsAlong n false q end chain e hs legs last →
      length (hops_text hs) ≤ 60 * length chain + most
  shows_short q most end fits [] e hs legs last s = absurd s
  shows_short q most (Inside t) fits (one ∷ []) e hs [] (Links last) s =
      let part = ap (λ (p : List Hop). length (hops_text (p ++ strict_hop t ∷ []))) s.is_part.3 in
      let is = ap (λ (p : List Hop). length (hops_text p)) s.is_hops in
      let pce = closed_short e s.is_part.0.number (place n one.own).id in
      omega (arith, is, part, pce, text_append (closed_of e s.is_part.0.number (place n one.own).id None) (strict_hop t ∷ []), text_cons (strict_hop t) [], hop_short t)
  shows_short q most (Asked next told) fits (one ∷ []) e hs [] (Over l c') s =
      let exit = strict_hop l.out.link.far in
      let first = subst (λ (o : Option Branch). IsFirst l.out.link.to told o) s.is_row (first_is l.out.link.to told) in
      let row = in_fits most told s.row (in_of s.row told first.0) fits in
      let part = ap (λ (p : List Hop). length (hops_text (p ++ exit ∷ s.row.hops))) s.is_part.3 in
      let is = ap (λ (p : List Hop). length (hops_text p)) s.is_hops in
      let pce = closed_short e s.is_part.0.number (place n one.own).id in
      omega (arith, is, part, pce, row.short, text_append (closed_of e s.is_part.0.number (place n one.own).id None) (exit ∷ s.row.hops), text_cons exit s.row.hops, hop_short l.out.link.far)
  shows_short q most (Inside t) fits (one ∷ []) e hs [] (Over l c') s = absurd s
  shows_short q most (Asked next told) fits (one ∷ []) e hs [] (Links last) s = absurd s
  shows_short q most end fits (one ∷ []) e hs (l ∷ ls) last s = absurd s
  shows_short q most end fits (one ∷ next ∷ rest) e hs [] last s = absurd s
  shows_short q most end fits (one ∷ next ∷ rest) e hs (l ∷ ls) last s =
      let exit = strict_hop l.out.link.far in
      let part = ap (λ (p : List Hop). length (hops_text (p ++ exit ∷ s.below))) s.is_part.3 in
      let is = ap (λ (p : List Hop). length (hops_text p)) s.is_hops in
      let pce = closed_short e s.is_part.0.number (place n one.own).id in
      let more = shows_short q most end fits (next ∷ rest) l.out.link.to s.below ls last s.shown in
      omega (arith, is, part, pce, more, text_append (closed_of e s.is_part.0.number (place n one.own).id None) (exit ∷ s.below), text_cons exit s.below, hop_short l.out.link.far)

  long : (chain : List Visit) → length chain ≡ length (numbers chain)
  long [] = refl
  long (leg ∷ legs) = ap suc (long legs)

  -- so it takes three for each domain of the sequence
  pub shown_fits : (w : Wanted) (behind : List As) (chain : List Visit) (end : End) (m : Transcript) → Within m now → Chain m chain → ChainEnds c n w behind chain end →
      (q : Query) (e : Addr) (hs : List Hop) (legs : List Leg) (last : Last) → ShowsAlong n false q end chain e hs legs last → length (hops_text hs) ≤ 60 * length (numbers chain ++ behind)
  shown_fits w behind chain end m within chained ends q e hs legs last s =
      let short = shows_short q (60 * length behind) end (end_fits w behind chain end m within chained ends) chain e hs legs last s in
      omega (arith, short, long chain, length-append (numbers chain) behind)

  more_fits : (less most : ℕ) → less ≤ most → (bs : List Branch) → BranchesFit less bs → BranchesFit most bs
  more_fits less most le [] all = tt
  more_fits less most le (b ∷ bs) all = (record { written = all.0.written; short = omega (arith, all.0.short, le) }, more_fits less most le bs all.1)

  pub downs_fit : (d : As) (real : d ≢ parent_as) (k : ℕ) (os : List Output) (keys : List (Issued Segment)) (x : IsSolved c n now d k os keys) → BranchesFit 900 x.down
  downs_fit d real k os keys x =
      let asked = taken_asked c codec n now given d real k os keys now (within_here now) x in
      let admits = taken_admits c codec n now given d real k os keys now (within_here now) x in
      let w = x.held.item.wanted in
      elim (own_sequence d w.sequence (codec.onward.own asked.0 d x.taken.request.flags x.taken.request.id w admits).2) [
        | inl short ↦
            let none : x.down ≡ [] = subst (λ (l : List As). IsServed c n now d x.taken.at w l x.down) (x.along ∙ short) x.served in
            subst (BranchesFit 900) (sym none) tt
        | inr long ↦
            let b = long.0 in
            let rest = long.1 in
            let few : length (b ∷ rest) ≤ 15 = let most = long.3.few in omega (arith, most) in
            let served : IsAnswered c now d x.taken.at w (toward b (place n d).routes) b rest x.down = subst (λ (l : List As). IsServed c n now d x.taken.at w l x.down) (x.along ∙ long.2) x.served in
            elim (toward_is b (place n d).routes) [
              | inl inner ↦ by_inner b rest long.2 long.3 few (subst (λ (on : Peer). IsAnswered c now d x.taken.at w on b rest x.down) inner served)
              | inr out ↦
                  let answered = subst (λ (on : Peer). IsAnswered c now d x.taken.at w on b rest x.down) out.1 served in
                  more_fits (60 * length (b ∷ rest)) 900 (omega (arith, few)) x.down (out_fits d x.taken.at now w out.0 b rest x.down (within_here now) answered)
            ]
      ]
    where
      by_inner : (b : As) (rest : List As) → sequence_or d x.held.item.wanted.sequence ≡ d ∷ b ∷ rest → IsSequence d (b ∷ rest) → length (b ∷ rest) ≤ 15 → IsAnswered c now d x.taken.at x.held.item.wanted (Inner b) b rest x.down →
          BranchesFit 900 x.down
      by_inner b rest along sequence few answered =
          let w = x.held.item.wanted in
          let upper = real_next d b rest sequence in
          let beyond = told_beyond c codec n now given d real k os keys now (within_here now) x b rest along upper answered
          (λ k' os' keys' older' less w'. solve_chained c codec n now given (suc (length older')) b upper k' os' keys' older' w' (omega arith)) in
          let chain : List Visit = record { own = b; at = beyond.at_next; solved = beyond.solved } ∷ beyond.chain in
          let texts = told_written answered.reply answered.paths (taken_written d b answered.reply answered.outputs answered.before answered.within) answered.tells in
          let all = both_fit 900 answered.paths texts (λ p i.
          let told = beyond.told.each p (contains p answered.paths i) in
          let short = shown_fits w beyond.behind chain beyond.end now (within_here now) beyond.chained beyond.reaches w.query told.0 p.hops told.2.legs told.2.last told.2.shown in
          let is = ap (λ (l : List As). length l) beyond.along in
          omega (arith, short, is, few)) in
          subst (BranchesFit 900) (sym answered.is) (branches_fit 900 c w.query.metric answered.paths all)
