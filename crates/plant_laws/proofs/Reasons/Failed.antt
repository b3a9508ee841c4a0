-- That its chain failed is told of a request for a reason on its way.
use Rattle.std.proofs.Common.{◌≡◌, ◌≢◌, ℕ, List, [], ◌∷◌, sym, ◌∙◌, ap, subst, inl, inr, refl}
use Rattle.plant_model.specs.Types.{As, Peer, Outside, Inner, ErrorReport, NetworkParts}
use Rattle.pcep_messages.specs.declared.message.Message.TheVariants as messages
use Rattle.pcep_messages.specs.Spelling.{IsWritten}
use Rattle.plant_text.specs.Names.{parent_as}
use Rattle.plant_model.specs.declared.output.Output.{Output}
use Rattle.plant_model.specs.Wire.{Codec}
use Rattle.plant_model.specs.Laws.{IsCodec, IsNetwork}
use Rattle.plant_model.specs.Writing.{reply_message, unavailable}
use Rattle.plant_model.specs.State.{Takes}
use Rattle.plant_model.specs.Plant.{Plant, Entry, Run, deeds_of}
use Rattle.plant_laws.specs.About.{IsShort}
use Rattle.plant_laws.specs.Causes.{OnPassed, by_element, by_parent}
use Rattle.plant_laws.specs.Errors.{chain_failed, Unserved}
use Rattle.plant_laws.specs.MessageCauses.{Asker, chain_broken, WaitsAt, OnMessage}
use Rattle.plant_laws.specs.Sending.{AllSent}
use Rattle.plant_laws.specs.Transcript.{Transcript, Within}
use Rattle.plant_laws.proofs.Once.Handing.{In}
use Rattle.plant_laws.proofs.Reasons.ErrorsTaken.{hears_inner}
use Rattle.plant_laws.proofs.Reasons.MomentCauses.{HasOne, moment_cause}
use Rattle.plant_laws.proofs.Reasons.Unserved.{failed_one, by_outside, by_inner}
use Rattle.plant_laws.proofs.Runs.Queues.{same_as_is}

module _ (c : Codec) (codec : IsCodec c) (n : NetworkParts) (net : IsNetwork n) (es : List Entry) (s : Plant) (run : Run c n es s) (written : AllSent IsWritten (deeds_of c n es)) (short : IsShort (deeds_of c n es)) (d : As) (real : d ≢ parent_as)
    (p : Peer) (x flags : ℕ) (q : Peer) (reports : List ErrorReport) (os : List Output) (older : Transcript) (within : Within (Takes d q (messages.PcErr reports) os ∷ older) (deeds_of c n es))
    (said : In {A = Output} (record { to = p; message = chain_failed flags x }) os) where
  abbrev Why : Type 0
  Why = Unserved c d p x (Takes d q (messages.PcErr reports) os) older

  no_reply : (a : Asker) → os ≡ chain_broken a → ⊥
  no_reply a is = go (subst (In {A = Output} (record { to = p; message = chain_failed flags x })) is said)
    where
      go : In {A = Output} (record { to = p; message = chain_failed flags x }) (chain_broken a) → ⊥
      go (inl same) = (let clash : chain_failed flags x ≡ reply_message a.flags a.id unavailable = ap (λ (z : Output). z.message) same in cc)
      go (inr none) = none

  by_one : HasOne c n (Takes d q (messages.PcErr reports) os) older → Why
  by_one one = by q refl (on one.cause.1)
    where
      on : OnPassed c n one.before one.event d q (messages.PcErr reports) os → OnMessage c n d (one.before.current d) q one.before.clock (messages.PcErr reports) (one.before.elements d) os
      on (by_element low on') = on'
      on (by_parent up on') = absurd (real (same_as_is d parent_as up))

      by : (z : Peer) → q ≡ z → OnMessage c n d (one.before.current d) q one.before.clock (messages.PcErr reports) (one.before.elements d) os → Why
      by (Outside j) is on' =
          by_outside c codec n net es s run written short d real older q one.entries one.before one.run one.earlier one.is_then one.event one.causes p x flags reports os within one.cause.0 said j is (one.before.current d) on'
      by (Inner b) is on' = elim
          (hears_inner c codec n net es s run written short d one.entries one.before one.run one.short b (one.before.current d) reports os older (subst (λ (z : Peer). Within (Takes d z (messages.PcErr reports) os ∷ older) (deeds_of c n es)) is within)
          (subst (λ (z : Peer). OnMessage c n d (one.before.current d) z one.before.clock (messages.PcErr reports) (one.before.elements d) os) is on')) [
            | inl none ↦ absurd (let i : In {A = Output} (record { to = p; message = chain_failed flags x }) [] = subst (In {A = Output} (record { to = p; message = chain_failed flags x })) none said in i)
            | inr (inl h) ↦ absurd (no_reply h.asker h.says)
            | inr (inr f) ↦
                let own = failed_one p flags x f.asker.peer f.asker.flags f.asker.id (subst (In {A = Output} (record { to = p; message = chain_failed flags x })) f.says said) in
                let w : WaitsAt (one.before.elements d) q f.failed.id f.asker = subst (λ (z : Peer). WaitsAt (one.before.elements d) z f.failed.id f.asker) (sym is) f.waits in
                by_inner c codec n net es s run written short d real older q one.entries one.before one.run one.earlier one.is_then one.event one.causes p x flags reports os within one.cause.0 said f.from (is ∙ f.inside) f.failed.id f.failed.flags f.failed.names f.asker w own.0 own.1
                f.failed.deed f.failed.before f.failed.within f.failed.said f.failed.why
          ]

  pub failed_for_reasons : Why
  failed_for_reasons = elim (moment_cause c n es s run short (Takes d q (messages.PcErr reports) os) older within) [ inl one ↦ by_one one | inr opening ↦ absurd opening ]
