-- The answers of elements: rightful to closed peers, least to clients, over what is given of a run.
use Rattle.std.proofs.Common.{◌≡◌, ◌≢◌, ◌⊎◌, ℕ, suc, Bool, true, false, cond, List, [], ◌∷◌, length, sym, ◌∙◌, ap, subst, inl, inr, refl, arith}
use Rattle.std.specs.Prelude.{Contains, Some, None, bit_and}
use Rattle.std.specs.declared.option.Option.{Option}
use Rattle.plant_model.specs.Types.{As, Peer, Outside, Answer, Path, Reply, Issued, Class, NetworkParts}
use Rattle.pcep_messages.specs.declared.message.Answer.TheVariants.{Paths, NoPath}
use Rattle.pcep_messages.specs.declared.message.Message.TheVariants as messages
use Rattle.plant_model.specs.declared.output.Output.{Output}
use Rattle.plant_text.specs.Names.{same_as, parent_as}
use Rattle.plant_model.specs.Wire.{Codec}
use Rattle.plant_model.specs.Element.{is_client}
use Rattle.plant_model.specs.Taking.{goes_up}
use Rattle.plant_text.specs.Settings.{class_of}
use Rattle.plant_model.specs.Settings.{place}
use Rattle.plant_model.specs.Solving.{commit, job_found}
use Rattle.plant_model.specs.Blind.{is_closed}
use Rattle.plant_model.specs.State.{Solves}
use Rattle.plant_model.specs.Plant.{Segment, PlantDeed}
use Rattle.plant_model.specs.Laws.{IsCodec}
use Rattle.plant_laws.specs.Transcript.{Transcript, Within, outputs_at, opened, Delivered, Visit}
use Rattle.plant_model.specs.BorderGraph.{Found}
use Rattle.plant_laws.specs.About.{AreSolved, IsAbout, IsViaParent}
use Rattle.plant_laws.proofs.Least.ViaParent.{FoundTells, passed_on}
use Rattle.plant_laws.specs.Replies.{IsRightful, AreRightful}
use Rattle.plant_laws.specs.Headline.{IsOfParent, IsOfChain, HasNoneOfChain}
use Rattle.plant_laws.proofs.Runs.Moments.{no_more}
use Rattle.plant_laws.proofs.Least.Told.{apart}
use Rattle.plant_laws.proofs.Least.Given.{Premises, IsSolved, RepliesAlone}
use Rattle.plant_laws.proofs.Least.ClosedReplies.{has_paths, IsReplyOf, Opens, closes, opens, goes_to}
use Rattle.plant_laws.proofs.Least.LeastChains.{neighbour_stays, leg, Chained, solve_chained}
use Rattle.plant_laws.specs.Certified.{Tells}

abbrev paths_in : List Path → Answer → List Path
paths_in ps (Paths paths) = paths
paths_in ps (NoPath nature vector) = ps

closed_class : (n : NetworkParts) (p : Peer) → is_closed n p ≡ true → is_client (class_of n p) ≡ false
closed_class n p = go (is_client (class_of n p))
  where
    go : (b : Bool) → cond b false true ≡ true → b ≡ false
    go true is = absurd (apart (sym is))
    go false is = refl

module _ (c : Codec) (codec : IsCodec c) (n : NetworkParts) (now : Transcript) (given : Premises c n now) where
  module _ (d : As) (real : d ≢ parent_as) (p : Peer) (r : Reply) (paths : List Path) (tells : Tells r.answer paths) where
    -- by a solve
    module _ (k : ℕ) (os : List Output) (keys : List (Issued Segment)) (older : Transcript) (x : IsSolved c n older d k os keys) (ch : Chained c codec n now given d k os keys older x)
        (said : Contains os (record { to = p; message = messages.PcRep (r ∷ []) })) where
      abbrev one : Visit
      one = leg c codec n now given d k os keys older x.taken.at

      said_of : Contains (commit c (place n d) (k, x.held) x.down x.now (λ z. z.segment) (job_found x.rows.source_known x.rows.target_known x.rows.best) x.element).outputs (record { to = p; message = messages.PcRep (r ∷ []) })
      said_of = subst (λ (l : List Output). Contains l (record { to = p; message = messages.PcRep (r ∷ []) })) x.sends said

      to : x.held.key.peer ≡ p
      to = goes_to c n d k x.held x.down x.now x.element x.rows.source_known x.rows.target_known one ch.chain ch.end p (messages.PcRep (r ∷ [])) x.rows.best said_of

      class : x.held.item.class ≡ class_of n p
      class = x.taken.class ∙ ap (class_of n) to

      about : IsAbout c n older (Solves d k os keys ∷ older) d p x.taken.request x.held.item.wanted (one ∷ ch.chain) ch.end
      about = record {
        at = x.taken.at;
        is_open =
            subst (λ (y : ℕ). opened c d p y older ≡ Some x.taken.at) (sym x.taken.id)
            (subst (λ (q : Peer). opened c d q x.held.key.id older ≡ Some x.taken.at) to x.taken.is_open);
        delivered = subst (λ (q : Peer). Delivered c x.taken.at d q x.taken.request) to x.taken.delivered;
        is_path = x.taken.wanted;
        stays = subst (λ (z : Class). goes_up (place n d).parent z x.held.item.wanted.sequence ≡ false) class x.stays;
        rest = ch.chain;
        begins = refl;
        chained = ch.chained;
        solved = subst (λ (q : Peer). AreSolved c q (one ∷ ch.chain)) to ch.ends;
        behind = ch.behind;
        along = ch.along;
        ends = ch.reaches;
      }

      solve_rightful : is_closed n p ≡ true → IsRightful c n older (Solves d k os keys ∷ older) d p r paths
      solve_rightful closed =
          let upper : is_client x.held.item.class ≡ false = ap is_client class ∙ closed_class n p closed in
          let done = closes c n d k x.held x.down x.now x.element x.rows.source_known x.rows.target_known one ch.chain ch.end refl x.life p r paths x.rows.best upper ch.ways said_of tells x.has in
          record {
            request = x.taken.request;
            wanted = x.held.item.wanted;
            chain = one ∷ ch.chain;
            end = ch.end;
            same = x.taken.id ∙ sym done.0.id;
            about = about;
            right = subst (λ (z : Class). AreRightful c n z (one ∷ ch.chain) ch.end x.held.item.wanted paths) class done.2;
          }

      solve_opens : is_client (class_of n p) ≡ true → IsReplyOf x.held r × (x.held.key.peer ≡ p) × Opens c n d k x.held x.down x.now x.element x.rows.source_known x.rows.target_known one ch.chain ch.end r paths
      solve_opens client = opens c n d k x.held x.down x.now x.element x.rows.source_known x.rows.target_known one ch.chain ch.end p r paths x.rows.best (ap is_client class ∙ client) ch.ways said_of tells

    -- what an element tells a closed peer
    pub closed_rightful : (m older : Transcript) → is_closed n p ≡ true → RepliesAlone now m older d p r → IsRightful c n older m d p r paths
    closed_rightful m older closed replies =
        let e_now = subst (λ (t : Transcript). Within t now) replies.is replies.within in
        elim (given.replied replies.deed older d p r paths real e_now replies.sent tells) [
          | inl o ↦
              let is : m ≡ Solves d o.number o.outputs o.keys ∷ older = replies.is ∙ ap (λ (e : PlantDeed). e ∷ older) o.is in
              let within = subst (λ (t : Transcript). Within t now) is replies.within in
              let said : Contains (cond (same_as d d) o.outputs []) (record { to = p; message = messages.PcRep (r ∷ []) }) =
              subst (λ (e : PlantDeed). Contains (outputs_at d e) (record { to = p; message = messages.PcRep (r ∷ []) })) o.is replies.sent in
              subst (λ (t : Transcript). IsRightful c n older t d p r paths) (sym is)
              (solve_rightful o.number o.outputs o.keys older (given.solved d o.number o.outputs o.keys older real within)
              (solve_chained c codec n now given (suc (length older)) d real o.number o.outputs o.keys older within (omega arith)) (no_more (same_as d d) o.outputs _ said).1 closed)
          | inr (inl key) ↦ absurd (given.expands key.taken d key.request key.key key.pce key.admits key.wish (subst (λ (f : ℕ). bit_and f 256 ≡ 0) key.flags replies.answer))
          | inr (inr q) ↦
              let class_is : q.held.item.class ≡ class_of n p = q.taken.class ∙ ap (class_of n) (sym q.to) in
              absurd (neighbour_stays (place n d).parent q.held.item.class q.held.item.wanted.sequence (ap is_client class_is ∙ closed_class n p closed) q.goes)
        ]

    -- what an element tells a client: of its own solve, or of the parent
    pub record IsOfSolve (m older : Transcript) : Type 0 where
      pub number : ℕ
      pub outputs : List Output
      pub keys : List (Issued Segment)
      pub is : m ≡ Solves d number outputs keys ∷ older
      pub solved : IsSolved c n older d number outputs keys
      pub chain : Chained c codec n now given d number outputs keys older solved
      pub about : IsAbout c n older m d p solved.taken.request solved.held.item.wanted (leg c codec n now given d number outputs keys older solved.taken.at ∷ chain.chain) chain.end
      pub same : solved.taken.request.id ≡ r.id
      pub opens : Opens c n d number solved.held solved.down solved.now solved.element solved.rows.source_known solved.rows.target_known (leg c codec n now given d number outputs keys older solved.taken.at) chain.chain chain.end r paths

    pub record FromParent (m older : Transcript) : Type 0 where
      pub found : Option Found
      pub via : IsViaParent c n older m d p r.id found
      pub shows : FoundTells c via.asks.asked found r.answer

    pub client_answered : (m older : Transcript) → is_client (class_of n p) ≡ true → RepliesAlone now m older d p r → IsOfSolve m older ⊎ FromParent m older
    client_answered m older client replies =
        let e_now = subst (λ (t : Transcript). Within t now) replies.is replies.within in
        elim (given.replied replies.deed older d p r paths real e_now replies.sent tells) [
          | inl o ↦
              let is : m ≡ Solves d o.number o.outputs o.keys ∷ older = replies.is ∙ ap (λ (e : PlantDeed). e ∷ older) o.is in
              let within = subst (λ (t : Transcript). Within t now) is replies.within in
              let said : Contains (cond (same_as d d) o.outputs []) (record { to = p; message = messages.PcRep (r ∷ []) }) =
              subst (λ (e : PlantDeed). Contains (outputs_at d e) (record { to = p; message = messages.PcRep (r ∷ []) })) o.is replies.sent in
              let said' = (no_more (same_as d d) o.outputs _ said).1 in
              let x = given.solved d o.number o.outputs o.keys older real within in
              let ch = solve_chained c codec n now given (suc (length older)) d real o.number o.outputs o.keys older within (omega arith) in
              let opened' = solve_opens o.number o.outputs o.keys older x ch said' client in
              inl (record {
                number = o.number;
                outputs = o.outputs;
                keys = o.keys;
                is = is;
                solved = x;
                chain = ch;
                about = subst (λ (t : Transcript). IsAbout c n older t d p x.taken.request x.held.item.wanted (leg c codec n now given d o.number o.outputs o.keys older x.taken.at ∷ ch.chain) ch.end) (sym is)
                    (about o.number o.outputs o.keys older x ch said');
                same = x.taken.id ∙ sym opened'.0.id;
                opens = opened'.2;
              })
          | inr (inl key) ↦ absurd (given.expands key.taken d key.request key.key key.pce key.admits key.wish (subst (λ (f : ℕ). bit_and f 256 ≡ 0) key.flags replies.answer))
          | inr (inr q) ↦
              let passed = passed_on c codec n now given d real p r paths tells replies.deed older e_now q in
              inr (subst (λ (t : Transcript). FromParent t older) (sym replies.is) (record { found = passed.found; via = passed.via; shows = passed.shows }))
        ]

-- The four statements, over what is given of a run.
module _ (c : Codec) (codec : IsCodec c) (n : NetworkParts) (now : Transcript) (given : Premises c n now) (m older : Transcript) (d : As) where
  pub least_replies : (p : Peer) (r : Reply) → d ≢ parent_as → is_closed n p ≡ true → RepliesAlone now m older d p r → (paths : List Path) → r.answer ≡ Paths paths → IsRightful c n older m d p r paths
  least_replies p r real closed replies paths is =
      closed_rightful c codec n now given d real p r paths (subst (λ (a : Answer). Tells a paths) (sym is) refl) m older closed replies

  pub none_replies : (p : Peer) (r : Reply) → d ≢ parent_as → is_closed n p ≡ true → RepliesAlone now m older d p r → (vector : ℕ) → r.answer ≡ NoPath 0 vector → IsRightful c n older m d p r []
  none_replies p r real closed replies vector is =
      closed_rightful c codec n now given d real p r [] (subst (λ (a : Answer). Tells a []) (sym is) (refl, refl)) m older closed replies

  -- the parent has no outside peers
  pub element_answers : (i : ℕ) (r : Reply) (paths : List Path) → Tells r.answer paths → RepliesAlone now m older d (Outside i) r → d ≢ parent_as
  element_answers i r paths tells replies same =
      given.inside replies.deed older i r paths (subst (λ (t : Transcript). Within t now) replies.is replies.within)
      (subst (λ (a : As). Contains (outputs_at a replies.deed) (record { to = Outside i; message = messages.PcRep (r ∷ []) })) same replies.sent) tells

  pub least_answers : (i : ℕ) (r : Reply) → is_client (class_of n (Outside i)) ≡ true → RepliesAlone now m older d (Outside i) r → (paths : List Path) → r.answer ≡ Paths paths →
      IsOfParent c n older m d i r paths ⊎ IsOfChain c n older m d i r paths
  least_answers i r client replies paths is =
      let tells : Tells r.answer paths = subst (λ (a : Answer). Tells a paths) (sym is) refl in
      let real = element_answers i r paths tells replies in
      elim (client_answered c codec n now given d real (Outside i) r paths tells m older client replies) [
        | inr up ↦ inl (by_found up.found up.via up.shows)
        | inl x ↦ inr (by_opens x x.opens)
      ]
    where
      by_found : (found : Option Found) (via : IsViaParent c n older m d (Outside i) r.id found) → FoundTells c via.asks.asked found r.answer → IsOfParent c n older m d i r paths
      by_found None via shows = absurd (apart (ap has_paths (sym is ∙ shows)))
      by_found (Some a) via shows = record { found = a; via = via; one = ap (paths_in []) (sym is ∙ shows) }

      by_opens : (x : IsOfSolve c codec n now given d (element_answers i r paths (subst (λ (a : Answer). Tells a paths) (sym is) refl) replies) (Outside i) r paths (subst (λ (a : Answer). Tells a paths) (sym is) refl) m older) →
          Opens c n d x.number x.solved.held x.solved.down x.solved.now x.solved.element x.solved.rows.source_known x.solved.rows.target_known (leg c codec n now given d x.number x.outputs x.keys older x.solved.taken.at) x.chain.chain x.chain.end r paths →
          IsOfChain c n older m d i r paths
      by_opens x (inl path) = record {
        request = x.solved.taken.request;
        wanted = x.solved.held.item.wanted;
        chain = leg c codec n now given d x.number x.outputs x.keys older x.solved.taken.at ∷ x.chain.chain;
        end = x.chain.end;
        same = x.same;
        about = x.about;
        path = path.0;
        one = path.1;
        least = path.3;
      }
      by_opens x (inr none) = absurd (apart (ap has_paths (sym is) ∙ none.1))

  pub none_answers : (i : ℕ) (r : Reply) → is_client (class_of n (Outside i)) ≡ true → RepliesAlone now m older d (Outside i) r → (vector : ℕ) → r.answer ≡ NoPath 0 vector →
      IsViaParent c n older m d (Outside i) r.id None ⊎ HasNoneOfChain c n older m d i r
  none_answers i r client replies vector is =
      let tells : Tells r.answer [] = subst (λ (a : Answer). Tells a []) (sym is) (refl, refl) in
      let real = element_answers i r [] tells replies in
      elim (client_answered c codec n now given d real (Outside i) r [] tells m older client replies) [
        | inr up ↦ inl (by_found up.found up.via up.shows)
        | inl x ↦ inr (by_opens x x.opens)
      ]
    where
      by_found : (found : Option Found) (via : IsViaParent c n older m d (Outside i) r.id found) → FoundTells c via.asks.asked found r.answer → IsViaParent c n older m d (Outside i) r.id None
      by_found None via shows = via
      by_found (Some a) via shows = absurd (apart (sym (ap has_paths (sym is ∙ shows))))

      by_opens : (x : IsOfSolve c codec n now given d (element_answers i r [] (subst (λ (a : Answer). Tells a []) (sym is) (refl, refl)) replies) (Outside i) r [] (subst (λ (a : Answer). Tells a []) (sym is) (refl, refl)) m older) →
          Opens c n d x.number x.solved.held x.solved.down x.solved.now x.solved.element x.solved.rows.source_known x.solved.rows.target_known (leg c codec n now given d x.number x.outputs x.keys older x.solved.taken.at) x.chain.chain x.chain.end r [] →
          HasNoneOfChain c n older m d i r
      by_opens x (inl path) = absurd (apart (sym path.2 ∙ ap has_paths is))
      by_opens x (inr none) = record {
        request = x.solved.taken.request;
        wanted = x.solved.held.item.wanted;
        chain = leg c codec n now given d x.number x.outputs x.keys older x.solved.taken.at ∷ x.chain.chain;
        end = x.chain.end;
        same = x.same;
        about = x.about;
        none = none.2;
      }
