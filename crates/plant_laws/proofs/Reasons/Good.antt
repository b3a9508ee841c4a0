-- Nothing breaks the chain of a good request, nothing on its way lacks room, and no outside peer fails it, so it is served.
use Rattle.std.proofs.Common.{◌≡◌, ℕ, Bool, true, false, cond, List, [], ◌∷◌, Option, Some, sym, ◌∙◌, ap, subst, inl, inr, refl, arith}
use Rattle.std.specs.Prelude.{◌⊎◌, Contains}
use Rattle.std.proofs.lemmas.Bool.{cases_Bool}
use Rattle.plant_model.specs.Types.{As, Addr, Peer, Outside, Inner, Asked, Wanted, RequestKey, NetworkParts}
use Rattle.pcep_codes.specs.declared.errors.TheConstants as errors
use Rattle.pcep_messages.specs.declared.message.Message.TheVariants as messages
use Rattle.request_table.specs.Pending.{key_of, same_peer}
use Rattle.plant_text.specs.Names.{same_as, parent_as}
use Rattle.plant_model.specs.declared.output.Output.{Output}
use Rattle.plant_model.specs.Names.{the_parent}
use Rattle.plant_model.specs.Wire.{Codec}
use Rattle.plant_model.specs.Writing.{request_message, busy}
use Rattle.plant_model.specs.Element.{Waits, Row}
use Rattle.plant_model.specs.State.{Takes, Downs, Solves}
use Rattle.plant_model.specs.Plant.{Pin, Segment, PlantDeed, deeds_of}
use Rattle.plant_laws.specs.Broken.{Breaks, stopped, lost, refused, further, outside, outside_error, stopped_above, lost_above, of_child}
use Rattle.plant_laws.specs.Chains.{WaitsOutside, asks_outside, through}
use Rattle.plant_laws.specs.Errors.{chain_failed, Unserved, outside as serves_not, further as fails_further}
use Rattle.plant_laws.specs.Full.{Fills, crowded, lacks, outside_full, further_full}
use Rattle.plant_laws.specs.Good.{IsOnWay, first, next, AnswersWell, IsGood, IsWellServed, GoodRequestsAreServedIn}
use Rattle.plant_laws.specs.Matched.{Answering, ends, at_once}
use Rattle.plant_laws.specs.MessageCauses.{IsError, IsOutOfProfile}
use Rattle.plant_laws.specs.Waiting.{WasSentOn}
use Rattle.plant_laws.specs.WentOn.{WentOn}
use Rattle.plant_laws.specs.Met.{RunOf, run_of}
use Rattle.plant_laws.specs.Served.{EndsWith, tells, is_full, breaks, is_unserved, CameTo, answered, dropped, waits}
use Rattle.plant_laws.specs.Transcript.{Transcript, Within, Keeps, Ends, asks_effect, answers_to, effect, opened, Handed, SentIn}
use Rattle.plant_laws.proofs.Least.FromElement.{within_tail}
use Rattle.plant_laws.proofs.Reasons.MomentCauses.{head_of}
use Rattle.plant_laws.proofs.Runs.Moments.{within_trans, opened_within}
use Rattle.plant_laws.proofs.Reasons.PartCauses.{not_both}
use Rattle.plant_laws.proofs.Runs.Queues.{same_as_is}
use Rattle.plant_laws.proofs.Reasons.Served.{asked_never, requests_are_served}
use Rattle.plant_laws.proofs.Settled.Waits.{waits_are_sent}
use Rattle.plant_laws.proofs.WrittenForm.WhereWritten.{WrittenNetIds}

-- how a deed of b is about the request y of q that was taken in a moment: it ends it, or takes it
abbrev IsAboutIt : Codec → As → Peer → ℕ → Transcript → PlantDeed → Transcript → Type 0
IsAboutIt c b q y taken deed older =
    ((opened c b q y older ≡ Some taken) × (effect c b q y deed ≡ Ends))
    ⊎ ((taken ≡ deed ∷ older) × (asks : List Asked) × (os : List Output) × (deed ≡ Takes b q (messages.PcReq asks) os))

taking_never : {X : Type 0} (c : Codec) (b : As) (q : Peer) (y : ℕ) (at : As) (from : Peer) (asks : List Asked) (os : List Output) → effect {S = Segment} c b q y (Takes at from (messages.PcReq asks) os) ≡ Ends → X
taking_never {X} c b q y at from asks os e = go (same_as at b) e
  where
    go : (t : Bool) → cond t (cond (same_peer from q) (asks_effect c b y (answers_to q y os) asks) Keeps) Keeps ≡ Ends → X
    go true e' = asked_never c b q from y (answers_to q y os) asks (same_peer from q) e'
    go false e' = absurd (let clash : Keeps ≡ Ends = e' in cc)

one_moment : (o : Option Transcript) (a b : Transcript) → o ≡ Some a → o ≡ Some b → a ≡ b
one_moment o a b is is' = let both : Some a ≡ Some b = sym is ∙ is' in cc

module _ (c : Codec) (n : NetworkParts) (this : RunOf c n) (now : Transcript) (d : As) (p : Peer) (x : ℕ) (at : Transcript) (good : IsGood c n this now d p x at) where
  -- the next step of the way
  step_of : (b b' : As) (q : Peer) (y : ℕ) (taken : Transcript) (deed' : PlantDeed) (older' : Transcript) (z : ℕ) → IsOnWay now d p x at b q y taken → (w : Wanted) (t : Addr) (rest : List As) → SentIn taken b (Inner b') (request_message z w t rest) →
      Answering c b b' z taken deed' older' → Within (deed' ∷ older') now → (taken' : Transcript) × IsOnWay now d p x at b' (Inner b) z taken' × IsAboutIt c b' (Inner b) z taken' deed' older'
  step_of b b' q y taken deed' older' z way w t rest sent (ends at' is_open' over handed) within =
      (at', next b b' q y z taken at' w t rest way sent handed (within_trans at' older' now (opened_within c b' (Inner b) z older' at' is_open') (within_tail deed' older' now within)), inl (is_open', over))
  step_of b b' q y taken deed' older' z way w t rest sent (at_once asks os is handed) within = (deed' ∷ older', next b b' q y z taken (deed' ∷ older') w t rest way sent handed within, inr (refl, asks, os, is))

  -- what it went on to an outside peer as
  asked_well : (b : As) (q : Peer) (y : ℕ) (taken : Transcript) → IsOnWay now d p x at b q y taken → (i z : ℕ) (older : Transcript) (went : WentOn c older b q y (Outside i) z) → opened c b q y older ≡ Some taken → AnswersWell now taken b i z
  asked_well b q y taken way i z older went open' =
      (good.way b q y taken way).outside i z went.wanted went.rest (subst (λ (m : Transcript). SentIn m b (Outside i) (request_message z went.wanted went.wanted.target went.rest)) (one_moment (opened c b q y older) went.at taken went.is_open open') went.sent)

  never : (b : As) (q : Peer) (y : ℕ) (deed : PlantDeed) (older : Transcript) → Breaks c n this b q y deed older → (taken : Transcript) → IsOnWay now d p x at b q y taken → Within (deed ∷ older) now → IsAboutIt c b q y taken deed older → ⊥
  never b q y deed older (stopped b' q' y' deed' older' is) taken way within (inr taking) = (good.way b q y taken way).allowed deed older taking.0 is
  never b q y deed older (stopped b' q' y' deed' older' is) taken way within (inl open') =
      taking_never c b q y b q (is.taking.asked ∷ []) is.taking.os (subst (λ (e : PlantDeed). effect c b q y e ≡ Ends) is.taking.takes open'.1)
  never b q y deed older (lost b' q' y' older' on z os other went) taken way within (inl open') =
      let sent = subst (λ (m : Transcript). SentIn m b on (request_message z went.wanted went.wanted.target went.rest)) (one_moment (opened c b q y older) went.at taken went.is_open open'.0) went.sent in
      (good.way b q y taken way).stays on z went.wanted went.rest os older sent other within (opened_within c b q y older taken open'.0)
  never b q y deed older (lost b' q' y' older' on z os other went) taken way within (inr taking) = absurd (let clash : Downs b on os ≡ Takes b q (messages.PcReq taking.1) taking.2 = taking.3 in cc)
  never b q y deed older (lost_above q' y' older' at' a os other is) taken way within (inl open') = (good.way b q y taken way).stays_above a os older refl other within (opened_within c b q y older taken open'.0)
  never b q y deed older (lost_above q' y' older' at' a os other is) taken way within (inr taking) = absurd (let clash : Downs parent_as (Inner a) os ≡ Takes b q (messages.PcReq taking.1) taking.2 = taking.3 in cc)
  never b q y deed older (outside b' i q' y' older' r os broken went) taken way within (inl open') =
      broken ((asked_well b q y taken way i r.id older went open'.0).replies r os older refl within (opened_within c b q y older taken open'.0))
  never b q y deed older (outside b' i q' y' older' r os broken went) taken way within (inr taking) = absurd (let clash : Takes b (Outside i) (messages.PcRep (r ∷ [])) os ≡ Takes b q (messages.PcReq taking.1) taking.2 = taking.3 in cc)
  never b q y deed older (outside_error b' i q' y' older' reports error rp os there known fits went) taken way within (inl open') =
      known ((asked_well b q y taken way i rp.1 older went open'.0).serves reports error rp os older there refl within (opened_within c b q y older taken open'.0))
  never b q y deed older (outside_error b' i q' y' older' reports error rp os there known fits went) taken way within (inr taking) =
      absurd (let clash : Takes b (Outside i) (messages.PcErr reports) os ≡ Takes b q (messages.PcReq taking.1) taking.2 = taking.3 in cc)
  never b q y deed older (refused b' q' y' older' id reports os went ipv6 why) taken way within (inl open') =
      let sent = subst (λ (m : Transcript). SentIn m b the_parent (request_message id went.wanted went.wanted.target went.rest)) (one_moment (opened c b q y older) went.at taken went.is_open open'.0) went.sent in
      let four = (good.way b q y taken way).ipv4 id went.wanted went.rest sent in
      (let clash : 1 ≡ 2 = sym four ∙ ipv6 in omega (arith, clash))
  never b q y deed older (refused b' q' y' older' id reports os went ipv6 why) taken way within (inr taking) =
      absurd (let clash : Takes b the_parent (messages.PcErr reports) os ≡ Takes b q (messages.PcReq taking.1) taking.2 = taking.3 in cc)
  never b q y deed older (further b' a q' y' older' r os broken went said same deeper) taken way within (inl open') =
      let at_is = one_moment (opened c b q y older) went.at taken went.is_open open'.0 in
      let sent = subst (λ (m : Transcript). SentIn m b (Inner a) (request_message r.id went.wanted went.wanted.target went.rest)) at_is went.sent in
      let answering = subst (λ (m : Transcript). Answering c b a r.id m said.deed said.older) (same ∙ at_is) said.concerns.answering in
      let said_now = within_trans (said.deed ∷ said.older) older now said.within (within_tail deed older now within) in
      let then = step_of b a q y taken said.deed said.older r.id way went.wanted went.wanted.target went.rest sent answering said_now in
      never a (Inner b) r.id said.deed said.older deeper then.0 then.1 said_now then.2
  never b q y deed older (further b' a q' y' older' r os broken went said same deeper) taken way within (inr taking) =
      absurd (let clash : Takes b (Inner a) (messages.PcRep (r ∷ [])) os ≡ Takes b q (messages.PcReq taking.1) taking.2 = taking.3 in cc)
  never b q y deed older (stopped_above q' y' deed' older' is) taken way within (inr taking) = (good.way b q y taken way).allowed_above deed older taking.0 refl is
  never b q y deed older (stopped_above q' y' deed' older' is) taken way within (inl open') =
      taking_never c b q y b q (is.taking.asked ∷ []) is.taking.os (subst (λ (e : PlantDeed). effect c b q y e ≡ Ends) is.taking.takes open'.1)
  never b q y deed older (of_child a q' y' older' r os broken went deeper) taken way within (inl open') =
      let sent = subst (λ (m : Transcript). SentIn m parent_as (Inner a) (request_message r.id went.wanted went.target (a ∷ []))) (one_moment (opened c b q y older) went.at taken went.is_open open'.0) went.sent in
      broken ((good.way b q y taken way).children a went.wanted went.target r os older refl sent within)
  never b q y deed older (of_child a q' y' older' r os broken went deeper) taken way within (inr taking) =
      absurd (let clash : Takes parent_as (Inner a) (messages.PcRep (r ∷ [])) os ≡ Takes b q (messages.PcReq taking.1) taking.2 = taking.3 in cc)

  never_full : (b : As) (q : Peer) (y : ℕ) (deed : PlantDeed) (older : Transcript) → Fills c n this b q y deed older → (taken : Transcript) → IsOnWay now d p x at b q y taken → Within (deed ∷ older) now → IsAboutIt c b q y taken deed older → ⊥
  never_full b q y deed older (crowded b' q' y' deed' older' is) taken way within (inr taking) = (good.way b q y taken way).room deed older taking.0 is
  never_full b q y deed older (crowded b' q' y' deed' older' is) taken way within (inl open') =
      taking_never c b q y b q (is.taking.asked ∷ []) is.taking.os (subst (λ (e : PlantDeed). effect c b q y e ≡ Ends) is.taking.takes open'.1)
  never_full b q y deed older (lacks b' q' y' deed' older' is) taken way within (inl open') = (good.way b q y taken way).keys deed older within open'.0 is
  never_full b q y deed older (lacks b' q' y' deed' older' is) taken way within (inr taking) =
      let solves : deed ≡ Solves b is.number (record { to = is.tells.held.key.peer; message = is.tells.message } ∷ []) is.tells.keys = ap (head_of deed) is.tells.sends_one in
      absurd (let clash : ◌≡◌ {A = PlantDeed} (Takes b q (messages.PcReq taking.1) taking.2) (Solves b is.number (record { to = is.tells.held.key.peer; message = is.tells.message } ∷ []) is.tells.keys) = sym taking.3 ∙ solves in cc)
  never_full b q y deed older (outside_full b' i q' y' older' told kinds rp os there busy' went) taken way within (inl open') =
      (asked_well b q y taken way i rp.1 older went open'.0).room told kinds rp os older there refl busy' within (opened_within c b q y older taken open'.0)
  never_full b q y deed older (outside_full b' i q' y' older' told kinds rp os there busy' went) taken way within (inr taking) =
      absurd (let clash : ◌≡◌ {A = PlantDeed} (Takes b (Outside i) (messages.PcNtf told) os) (Takes b q (messages.PcReq taking.1) taking.2) = taking.3 in cc)
  never_full b q y deed older (further_full b' a q' y' older' os h deeper) taken way within (inr taking) =
      absurd (let clash : ◌≡◌ {A = PlantDeed} (Takes b (Inner a) (busy h.flags h.id) os) (Takes b q (messages.PcReq taking.1) taking.2) = taking.3 in cc)
  never_full b q y deed older (further_full b' a q' y' older' os h deeper) taken way within (inl open') = elim (cases_Bool (same_as b parent_as)) [
    | inr low ↦
        let said_now = within_trans (h.deed ∷ h.before) older now h.within (within_tail deed older now within) in
        let then = step_of b a q y taken h.deed h.before h.id way h.wanted h.target h.rest sent (subst (λ (m : Transcript). Answering c b a h.id m h.deed h.before) at_is (h.answering (λ same. not_both (same_as b parent_as) (ap (λ (z : As). same_as z parent_as) same) low))) said_now in
        never_full a (Inner b) h.id h.deed h.before deeper then.0 then.1 said_now then.2
    | inl up ↦ above (same_as_is b parent_as up)
  ]
    where
      at_is : h.at ≡ taken
      at_is = one_moment (opened c b q y older) h.at taken h.is_open open'.0

      sent : SentIn taken b (Inner a) (request_message h.id h.wanted h.target h.rest)
      sent = subst (λ (m : Transcript). SentIn m b (Inner a) (request_message h.id h.wanted h.target h.rest)) at_is h.sent

      above : b ≡ parent_as → ⊥
      above up = (good.way b q y taken way).children_room a h.wanted h.target h.rest h.flags h.id os older up (subst (λ (z : As). SentIn taken z (Inner a) (request_message h.id h.wanted h.target h.rest)) up sent) (subst (λ (z : As). Within (Takes z (Inner a) (busy h.flags h.id) os ∷ older) now) up within)

  -- an outside peer that serves none of it would say so
  not_unknown : (error : ℕ × ℕ) → IsError error errors.UNKNOWN_REQUEST → IsOutOfProfile error → ⊥
  not_unknown error known (inl of) = (let clash : 8 ≡ 4 = sym known.0 ∙ of.0 in omega (arith, clash))
  not_unknown error known (inr of) = (let clash : 8 ≡ 13 = sym known.0 ∙ of.0 in omega (arith, clash))

  never_unserved : (b : As) (q : Peer) (y : ℕ) (deed : PlantDeed) (older : Transcript) → Unserved c b q y deed older → (taken : Transcript) → IsOnWay now d p x at b q y taken → Within (deed ∷ older) now → IsAboutIt c b q y taken deed older → ⊥
  never_unserved b q y deed older (serves_not b' i q' y' older' reports error rp os there of went) taken way within (inl open') =
      not_unknown error ((asked_well b q y taken way i rp.1 older went open'.0).serves reports error rp os older there refl within (opened_within c b q y older taken open'.0)) of
  never_unserved b q y deed older (serves_not b' i q' y' older' reports error rp os there of went) taken way within (inr taking) =
      absurd (let clash : ◌≡◌ {A = PlantDeed} (Takes b (Outside i) (messages.PcErr reports) os) (Takes b q (messages.PcReq taking.1) taking.2) = taking.3 in cc)
  never_unserved b q y deed older (fails_further b' a q' y' older' os low h deeper) taken way within (inl open') =
      let at_is = one_moment (opened c b q y older) h.went.at taken h.went.is_open open'.0 in
      let sent = subst (λ (m : Transcript). SentIn m b (Inner a) (request_message h.id h.went.wanted h.went.wanted.target h.went.rest)) at_is h.went.sent in
      let said_now = within_trans (h.deed ∷ h.before) older now h.within (within_tail deed older now within) in
      let then = step_of b a q y taken h.deed h.before h.id way h.went.wanted h.went.wanted.target h.went.rest sent (subst (λ (m : Transcript). Answering c b a h.id m h.deed h.before) at_is h.answering) said_now in
      never_unserved a (Inner b) h.id h.deed h.before deeper then.0 then.1 said_now then.2
  never_unserved b q y deed older (fails_further b' a q' y' older' os low h deeper) taken way within (inr taking) =
      absurd (let clash : ◌≡◌ {A = PlantDeed} (Takes b (Inner a) (chain_failed h.flags h.id) os) (Takes b q (messages.PcReq taking.1) taking.2) = taking.3 in cc)

  -- nor does it wait outside
  never_waits : (sent_on : (b : As) (h : Row Pin) → Contains (this.state.elements b).pending.rows h → (on : Peer) (z : ℕ) → h.1.item.stage ≡ Waits on z → WasSentOn c n now b h on z) →
      (b : As) (h : Row Pin) → WaitsOutside c this.state now b h → (q : Peer) (y : ℕ) (taken : Transcript) → h.1.key ≡ key_of q y → Contains (this.state.elements b).pending.rows h → opened c b q y now ≡ Some taken → IsOnWay now d p x at b q y taken → ⊥
  never_waits sent_on b h (asks_outside b' h' i z stage) q y taken key there open' way =
      let sent = sent_on b h there (Outside i) z stage in
      let at_is = one_moment (opened c b q y now) sent.at taken (ap (λ (k : RequestKey). opened c b k.peer k.id now) (sym key) ∙ sent.is_open) open' in
      (good.way b q y taken way).answered i z h.1.item.wanted sent.rest h (subst (λ (m : Transcript). SentIn m b (Outside i) (request_message z h.1.item.wanted h.1.item.wanted.target sent.rest)) at_is sent.sent) there key stage
  never_waits sent_on b h (through b' a h' g z stage passed deeper) q y taken key there open' way =
      let sent = sent_on b h there (Inner a) z stage in
      let here : opened c b h.1.key.peer h.1.key.id now ≡ Some taken = ap (λ (k : RequestKey). opened c b k.peer k.id now) key ∙ open' in
      let sent_then = subst (λ (m : Transcript). SentIn m b (Inner a) (request_message z h.1.item.wanted h.1.item.wanted.target sent.rest)) (one_moment (opened c b h.1.key.peer h.1.key.id now) sent.at taken sent.is_open here) sent.sent in
      let handed = subst (λ (m : Transcript). Handed b a m passed.taken) (one_moment (opened c b h.1.key.peer h.1.key.id now) passed.sent taken passed.is_sent here) passed.handed in
      never_waits sent_on a g deeper (Inner b) z passed.taken passed.key passed.pending passed.is_taken
      (next b a q y z taken passed.taken h.1.item.wanted h.1.item.wanted.target sent.rest way sent_then handed (opened_within c a (Inner b) z now passed.taken passed.is_taken))

  served : ((b : As) (h : Row Pin) → Contains (this.state.elements b).pending.rows h → (on : Peer) (z : ℕ) → h.1.item.stage ≡ Waits on z → WasSentOn c n now b h on z) → CameTo c n this now d p x at → IsWellServed c now d p x at
  served sent_on (waits open' h there key outside') = absurd (never_waits sent_on d h outside' p x at key there open' first)
  served sent_on (dropped e none why) = absurd (good.kept e.deed e.older e.within (opened_within c d p x e.older at e.is_open) why)
  served sent_on (answered e one by) = go by
    where
      go : EndsWith c n this d p x now at e → IsWellServed c now d p x at
      go (tells r has id told) = record { end = e; once = one; reply = r; said = has; id = id; tells = told }
      go (is_full flags has why) = absurd (never_full d p x e.deed e.older why at first e.within (inl (e.is_open, e.ends)))
      go (is_unserved flags has why) = absurd (never_unserved d p x e.deed e.older why at first e.within (inl (e.is_open, e.ends)))
      go (breaks r has id broken why) = absurd (never d p x e.deed e.older why at first e.within (inl (e.is_open, e.ends)))

pub good_requests_are_served : WrittenNetIds GoodRequestsAreServedIn
good_requests_are_served c codec n net es s run written short run' quiet d p x at real within begins good =
    served c n (run_of c n es s run') (deeds_of c n es) d p x at good (λ b h there on z stage. waits_are_sent c codec n net es s run' b h there on z stage) (requests_are_served c codec n net es s run written short run' quiet d p x at real within begins)
