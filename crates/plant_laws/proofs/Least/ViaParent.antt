-- An answer that an element passes on from the parent is what the parent found over the rows of its children's replies.
use Rattle.std.proofs.Common.{◌≡◌, ◌≢◌, ◌≤◌, ◌<◌, ◌^◌, ℕ, true, cond, List, [], ◌∷◌, sym, ◌∙◌, ap, subst, inl, inr, refl}
use Rattle.std.specs.Prelude.{Contains, Some, None}
use Rattle.std.specs.declared.option.Option.{Option}
use Rattle.plant_model.specs.Types.{As, Peer, Inner, Asked, Answer, Path, Reply, Message, Request, Wanted, Issued, Held, Class, NetworkParts}
use Rattle.pcep_messages.specs.declared.message.Answer.TheVariants.{Paths, NoPath}
use Rattle.pcep_messages.specs.declared.message.Message.TheVariants as messages
use Rattle.pcep_messages.specs.declared.message.Wish.TheVariants as wishes
use Rattle.plant_model.specs.declared.output.Output.{Output}
use Rattle.plant_model.specs.declared.upper.ChildRow.{ChildRow}
use Rattle.plant_text.specs.Names.{same_as, parent_as}
use Rattle.plant_model.specs.Names.{the_parent}
use Rattle.plant_model.specs.Wire.{Codec, Admitted, Wrong}
use Rattle.plant_model.specs.Writing.{ends_kind, asked_of, request_message, reply_message, no_path, vspt_flag}
use Rattle.plant_model.specs.Branches.{path_of}
use Rattle.plant_model.specs.Taking.{goes_up}
use Rattle.plant_model.specs.BorderGraph.{Found}
use Rattle.plant_model.specs.Parent.{Asking, Parent, job_of, start_of, Errand}
use Rattle.plant_model.specs.Parent as parent
use Rattle.plant_text.specs.Settings.{class_of}
use Rattle.plant_model.specs.Settings.{place, family}
use Rattle.plant_model.specs.State.{Pops, Takes, Solves}
use Rattle.plant_model.specs.Plant.{Segment, PlantDeed}
use Rattle.plant_model.specs.Laws.{IsCodec, Admits}
use Rattle.plant_laws.specs.Transcript.{Transcript, Within, Standing, outputs_at, opened, Delivered, Handed, SentIn}
use Rattle.plant_laws.specs.About.{IsGathered, IsViaParent, HasReplied, upward}
use Rattle.border_costs.proofs.Members.{contains_head}
use Rattle.plant_laws.proofs.Numbering.SentOnAsks.{ends_are}
use Rattle.plant_laws.proofs.Runs.Moments.{within_here, within_trans, standing_put, opened_within, no_more}
use Rattle.plant_laws.proofs.Least.Given.{Premises, IsSolvedAbove, OfKey, OfParent}
use Rattle.plant_laws.proofs.Least.Spoken.{one_said, reply_is}
use Rattle.plant_laws.proofs.Least.LeastChains.{admitted_at}
use Rattle.plant_laws.proofs.Least.FromElement.{within_tail, same_request, same_wanted, same_asked, admits_path, no_expansion, same_first, along_sequence, real_next, IsFrom, from_inner, delivered_from}
use Rattle.plant_laws.specs.Certified.{Tells}

-- what the parent answers by what it found
abbrev pub FoundTells : Codec → Wanted → Option Found → Answer → Type 0
FoundTells c w None answer = answer ≡ NoPath 0 0
FoundTells c w (Some a) answer = answer ≡ Paths (path_of c w.query.metric a.cost a.hops ∷ [])

pub above_says : (c : Codec) (k : ℕ) (held : Held Asking) (answer : Option Found) (upper : Parent) (p : Peer) (r : Reply) →
    Contains (parent.commit c (k, held) answer upper).outputs (record { to = p; message = messages.PcRep (r ∷ []) }) → (held.key.peer ≡ p) × (r.id ≡ held.key.id) × FoundTells c held.item.wanted answer r.answer
above_says c k held None upper p r said =
    let s = one_said held.key.peer p (reply_message held.item.flags held.key.id (no_path true true)) r said in
    let is = reply_is (record { flags = held.item.flags; id = held.key.id; answer = no_path true true }) r s.1 in
    (s.0, ap (λ (x : Reply). x.id) (sym is), ap (λ (x : Reply). x.answer) (sym is))
above_says c k held (Some a) upper p r said =
    let told : Answer = Paths (path_of c held.item.wanted.query.metric a.cost a.hops ∷ []) in
    let s = one_said held.key.peer p (reply_message held.item.flags held.key.id told) r said in
    let is = reply_is (record { flags = held.item.flags; id = held.key.id; answer = told }) r s.1 in
    (s.0, ap (λ (x : Reply). x.id) (sym is), ap (λ (x : Reply). x.answer) (sym is))

gathered_later : (c : Codec) (m now asking : Transcript) (w : Wanted) (row : ChildRow) → Within m now → IsGathered c m asking w row → IsGathered c now asking w row
gathered_later c m now asking w row later g = record {
  reply = g.reply;
  sent = g.sent;
  os = g.os;
  older = g.older;
  within = within_trans (Takes parent_as (Inner row.at) (messages.PcRep (g.reply ∷ [])) g.os ∷ g.older) m now g.within later;
  is_row = g.is_row;
}

replied_later : (c : Codec) (m now asking : Transcript) (w : Wanted) (rows : List ChildRow) (end : Errand) → Within m now → HasReplied c m asking w rows end → HasReplied c now asking w rows end
replied_later c m now asking w rows end later g = record {
  reply = g.reply;
  sent = g.sent;
  os = g.os;
  older = g.older;
  within = within_trans (Takes parent_as (Inner end.child) (messages.PcRep (g.reply ∷ [])) g.os ∷ g.older) m now g.within later;
  all = g.all;
}

-- what an element sent to the parent, and is admitted there, asks the parent the same
upward_admits : (c : Codec) → IsCodec c → (first : Asked) (d : As) (flags x : ℕ) (w : Wanted) → Admits c first d flags x w → (id : ℕ) → 1 ≤ id → id < 2 ^ 32 →
    (a : Asked) → a ≡ asked_of id w w.target [] → (r : Request) → c.check a parent_as ≡ Admitted r → Admits c a parent_as vspt_flag id (upward w)
upward_admits c codec first d flags x w admits id some fits a is r admitted =
    let four : ends_kind w.source w.target ≡ 1 = elim (ends_are w.source w.target) [
      | inl four ↦ four
      | inr six ↦ absurd (let clash : Admitted r ≡ Wrong (Some (vspt_flag, id)) 4 2 = sym admitted ∙ ap (λ (z : Asked). c.check z parent_as) is ∙ codec.onward.refuses_upward w id six in cc)
    ] in
    subst (λ (z : Asked). Admits c z parent_as vspt_flag id (upward w)) (sym is) (codec.onward.admits_upward first d flags x w admits four id some fits)

module _ (c : Codec) (codec : IsCodec c) (n : NetworkParts) (now : Transcript) (given : Premises c n now) where
  -- what an element sent to the parent
  pub record IsUpward (d : As) (a : Asked) (id : ℕ) (w : Wanted) : Type 0 where
    pub is : a ≡ asked_of id w w.target []
    pub admits : Admits c a parent_as vspt_flag id (upward w)

  pub sent_up : (d : As) → d ≢ parent_as → (a : Asked) (r : Request) → c.check a parent_as ≡ Admitted r → (at : Transcript) (f : IsFrom c codec n now given d parent_as a at) → IsUpward d a f.asked.id f.asked.wanted
  sent_up d real a r admitted at f = elim f.asked.sends [
    | inl on ↦ absurd (real_next d parent_as on.0 (along_sequence d parent_as on.0 f.asked.wanted.sequence (codec.onward.own f.asked.taken d f.asked.flags f.asked.x f.asked.wanted f.asked.admits).2 on.1) refl)
    | inr up ↦
        let is = same_first a (asked_of f.asked.id f.asked.wanted f.asked.wanted.target []) [] [] up.1 in
        record {
          is = is;
          admits = upward_admits c codec f.asked.taken d f.asked.flags f.asked.x f.asked.wanted f.asked.admits f.asked.id f.asked.some f.asked.fits a is r admitted;
        }
  ]

  module _ (d : As) (real : d ≢ parent_as) (p : Peer) (r : Reply) (paths : List Path) (tells : Tells r.answer paths) (e : PlantDeed) (older : Transcript) (within : Within (e ∷ older) now) (q : OfParent c n older d p r e) where
    pub record IsPassedOn : Type 0 where
      pub found : Option Found
      pub via : IsViaParent c n older (e ∷ older) d p r.id found
      pub shows : FoundTells c via.asks.asked found r.answer

    abbrev at : Transcript
    at = q.taken.at

    older_now : Within older now
    older_now = within_tail e older now within

    module _ (k : ℕ) (os : List Output) (keys : List (Issued Segment)) (older' : Transcript) (inside : Within (Solves parent_as k os keys ∷ older') older) (y : IsSolvedAbove c n older' k os)
        (said : Contains os (record { to = Inner d; message = messages.PcRep (q.reply ∷ []) })) where
      says : (y.held.key.peer ≡ Inner d) × (q.reply.id ≡ y.held.key.id) × FoundTells c y.held.item.wanted y.answer q.reply.answer
      says = above_says c k y.held y.answer y.upper (Inner d) q.reply (subst (λ (l : List Output). Contains l (record { to = Inner d; message = messages.PcRep (q.reply ∷ []) })) y.sends said)

      delivered : Delivered c y.taken.at parent_as (Inner d) y.taken.request
      delivered = subst (λ (z : Peer). Delivered c y.taken.at parent_as z y.taken.request) says.0 y.taken.delivered

      older'_older : Within older' older
      older'_older = within_tail (Solves parent_as k os keys) older' older inside

      at'_now : Within y.taken.at now
      at'_now = within_trans y.taken.at older' now (opened_within c parent_as y.held.key.peer y.held.key.id older' y.taken.at y.taken.is_open) (within_trans older' older now older'_older older_now)

      from : (a : Asked) × (c.check a parent_as ≡ Admitted y.taken.request) × IsFrom c codec n now given d parent_as a y.taken.at
      from = delivered_from c codec n now given d parent_as real y.taken.request y.taken.at at'_now delivered

      -- the very request that the element sent on, so the parent was asked what the client asked
      handed : Handed d parent_as at y.taken.at × (y.held.item.wanted ≡ upward q.held.item.wanted)
      handed =
          let a = from.0 in
          let f = from.2 in
          let g = sent_up d real a y.taken.request from.1 y.taken.at f in
          let w = f.asked.wanted in
          let asked = same_request y.taken.request (record { flags = vspt_flag; id = f.asked.id; wish = wishes.Path (upward w) }) (sym from.1 ∙ g.admits) in
          let id : f.asked.id ≡ q.reply.id = sym (ap (λ (x : Request). x.id) asked) ∙ y.taken.id ∙ sym says.1 in
          let asks : messages.PcReq (a ∷ []) ≡ request_message q.reply.id w w.target [] = ap (λ (z : Asked). messages.PcReq (z ∷ [])) (g.is ∙ ap (λ (i : ℕ). asked_of i w w.target []) id) in
          let sent : SentIn f.put d (Inner parent_as) (request_message q.reply.id w w.target []) = subst (λ (m : Message). SentIn f.put d (Inner parent_as) m) asks f.sent in
          let at_now = within_trans at older now (opened_within c d q.held.key.peer q.held.key.id older at q.taken.is_open) older_now in
          let once = given.ids at f.put at_now f.within d parent_as real q.reply.id q.held.item.wanted w q.held.item.wanted.target w.target [] [] q.sent sent in
          let v = q.held.item.wanted in
          let same_ask : asked_of q.reply.id v v.target [] ≡ a = same_asked (asked_of q.reply.id v v.target []) a (once.1 ∙ sym asks) in
          let first = admitted_at c at d q.held.key.peer q.taken.request q.taken.delivered in
          let admits = upward_admits c codec first.0 d q.taken.request.flags q.taken.request.id v (admits_path c first.0 d q.taken.request v first.1 q.taken.wanted) q.reply.id
          (subst (λ (i : ℕ). 1 ≤ i) id f.asked.some) (subst (λ (i : ℕ). i < 2 ^ 32) id f.asked.fits) a (sym same_ask) y.taken.request from.1 in
          let request = same_request y.taken.request (record { flags = vspt_flag; id = q.reply.id; wish = wishes.Path (upward v) }) (sym from.1 ∙ admits) in (
            subst (λ (m : Transcript). Handed d parent_as m y.taken.at) (sym once.0) f.handed,
            same_wanted y.held.item.wanted (upward v) (sym y.taken.wanted ∙ ap (λ (r' : Request). r'.wish) request),
          )

      passed : IsPassedOn
      passed = record {
        found = y.answer;
        via = record {
          up = record {
            at = at;
            is_open =
                subst (λ (i : ℕ). opened c d p i older ≡ Some at) (sym q.id)
                (subst (λ (z : Peer). opened c d z q.held.key.id older ≡ Some at) (sym q.to) q.taken.is_open);
            request = q.taken.request;
            wanted = q.held.item.wanted;
            delivered = subst (λ (z : Peer). Delivered c at d z q.taken.request) (sym q.to) q.taken.delivered;
            is_path = q.taken.wanted;
            goes = subst (λ (z : Class). goes_up (place n d).parent z q.held.item.wanted.sequence ≡ true) (q.taken.class ∙ ap (class_of n) (sym q.to)) q.goes;
            asking = y.taken.at;
            handed = handed.0;
          };
          asks = record {
            upper = y.taken.request;
            asked = y.held.item.wanted;
            taken = delivered;
            is_asked = y.taken.wanted;
            question = handed.1;
          };
          finds = record {
            job = job_of (family n) (k, y.held);
            start = ap start_of says.0;
            source = refl;
            target = refl;
            query = refl;
            links = refl;
            each = λ row h. gathered_later c older' (e ∷ older) y.taken.at y.held.item.wanted row (inr older'_older) (y.each row h);
            every = λ end h. replied_later c older' (e ∷ older) y.taken.at y.held.item.wanted y.held.item.rows end (inr older'_older) (y.every end h);
            solved = y.solves;
          };
        };
        shows = subst (λ (z : Answer). FoundTells c y.held.item.wanted y.answer z) (sym q.answer) says.2;
      }

    no_key_above : (e' : PlantDeed) (older' : Transcript) → Within (e' ∷ older') now → OfKey c parent_as (Inner d) q.reply e' → ⊥
    no_key_above e' older' inside key =
        let f = from_inner c codec n now given d parent_as real key.taken key.outputs older' (subst (λ (z : PlantDeed). Within (z ∷ older') now) key.is inside) in
        let g = sent_up d real key.taken key.request key.admits (Takes parent_as (Inner d) (messages.PcReq (key.taken ∷ [])) key.outputs ∷ older') f in
        let w = f.asked.wanted in
        let same = same_request key.request (record { flags = vspt_flag; id = f.asked.id; wish = wishes.Path (upward w) }) (sym key.admits ∙ g.admits) in
        no_expansion (upward w) key.key key.pce (sym (ap (λ (x : Request). x.wish) same) ∙ key.wish)

    by_put : (put : Transcript) → Within put older → SentIn put parent_as (Inner d) (messages.PcRep (q.reply ∷ [])) → IsPassedOn
    by_put [] inside sent = absurd sent
    by_put (e' ∷ older') inside sent =
        let e_now = within_trans (e' ∷ older') older now inside older_now in
        elim (given.replied_above e' older' (Inner d) q.reply paths e_now sent (subst (λ (a : Answer). Tells a paths) q.answer tells)) [
          | inl o ↦
              let inside' : Within (Solves parent_as o.number o.outputs o.keys ∷ older') older = subst (λ (z : PlantDeed). Within (z ∷ older') older) o.is inside in
              let within'' = within_trans (Solves parent_as o.number o.outputs o.keys ∷ older') older now inside' older_now in
              let said : Contains (cond (same_as parent_as parent_as) o.outputs []) (record { to = Inner d; message = messages.PcRep (q.reply ∷ []) }) =
              subst (λ (z : PlantDeed). Contains (outputs_at parent_as z) (record { to = Inner d; message = messages.PcRep (q.reply ∷ []) })) o.is sent in
              passed o.number o.outputs o.keys older' inside' (given.solved_above o.number o.outputs o.keys older' within'') (no_more (same_as parent_as parent_as) o.outputs _ said).1
          | inr key ↦ absurd (no_key_above e' older' e_now key)
        ]

    pub passed_on : IsPassedOn
    passed_on =
        let deed : PlantDeed = Takes d the_parent (messages.PcRep (q.reply ∷ [])) q.outputs in
        let carried = given.carried_replies d parent_as (q.reply ∷ []) q.outputs older (subst (λ (z : PlantDeed). Within (z ∷ older) now) q.is within) in
        let stood : Standing = record { message = messages.PcRep (q.reply ∷ []); put = carried.put } in
        let was = standing_put parent_as d carried.before stood (subst (λ (l : List Standing). Contains l stood) (sym carried.stood) (contains_head stood carried.rest)) in
        let before_older : Within carried.before older = within_tail (Pops parent_as d) carried.before older (subst (λ (o : Transcript). Within o older) carried.is (within_here older)) in
        by_put carried.put (within_trans carried.put carried.before older was.within before_older) was.sent
