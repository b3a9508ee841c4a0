-- In every run whose messages are in written form, a reply of an element that tells of paths comes from a solve, a key, or the parent.
use Rattle.std.proofs.Common.{◌≡◌, ◌≢◌, ◌⊎◌, Bool, cond, List, [], ◌∷◌, Option, Some, sym, ◌∙◌, ap, subst, inl, inr}
use Rattle.std.specs.Prelude.{Contains}
use Rattle.std.proofs.lemmas.Bool.{cases_Bool}
use Rattle.plant_model.specs.Types.{As, Peer, Path, Reply, NetworkParts}
use Rattle.pcep_messages.specs.Spelling.{IsWritten}
use Rattle.pcep_messages.specs.declared.message.Message.TheVariants as messages
use Rattle.plant_text.specs.Names.{parent_as}
use Rattle.plant_model.specs.declared.route.Route.{Route}
use Rattle.plant_model.specs.Names.{the_parent}
use Rattle.plant_model.specs.Wire.{Codec}
use Rattle.plant_model.specs.Writing.{request_message}
use Rattle.plant_model.specs.Taking.{sequence_or, goes_up}
use Rattle.plant_text.specs.Settings.{class_of}
use Rattle.plant_model.specs.Settings.{place}
use Rattle.plant_model.specs.State.{Takes}
use Rattle.plant_model.specs.Plant.{Plant, PlantDeed, Entry, Run, deeds_of}
use Rattle.plant_model.specs.Laws.{IsCodec, IsSequence}
use Rattle.plant_laws.specs.Transcript.{Transcript, Within, opened, outputs_at, SentIn}
use Rattle.plant_laws.specs.Sending.{AllSent}
use Rattle.plant_laws.proofs.WrittenForm.ReadBack.{run_single}
use Rattle.plant_laws.proofs.Numbering.NumberRuns.{toward_inner}
use Rattle.plant_laws.proofs.Numbering.SentOn.{IsRest}
use Rattle.plant_laws.proofs.Least.ReadyRows.{taken_alone, no_cons}
use Rattle.plant_laws.proofs.Once.Replied.{OfReplies, AllReplied, IsReplied, run_replied}
use Rattle.plant_laws.proofs.Least.FromElement.{admits_path, own_sequence, real_next, same_first, same_rest}
use Rattle.plant_laws.proofs.Least.LeastChains.{admitted_at}
use Rattle.plant_laws.proofs.Least.Given.{OfSolve, OfKey, OfParent}
use Rattle.plant_laws.specs.Certified.{Tells}

some_moment : (o : Option Transcript) (a b : Transcript) → o ≡ Some a → o ≡ Some b → a ≡ b
some_moment o a b e f = let one : Some a ≡ Some b = sym e ∙ f in cc

never_empty : (d : As) (l : List As) → sequence_or d l ≡ [] → ⊥
never_empty d [] e = no_cons d [] e
never_empty d (a ∷ rest) e = no_cons a rest e

rest_none : (routes : List Route) (sequence rest : List As) → IsRest routes sequence rest the_parent → sequence ≡ [] → rest ≡ []
rest_none routes sequence rest (inl up) none = up.1
rest_none routes sequence rest (inr on) none = absurd (no_cons on.0 rest (sym on.3 ∙ none))

-- no real sequence leads to the parent
not_along : (d : As) (routes : List Route) (wanted sequence rest : List As) → ((wanted ≡ []) ⊎ ((l : List As) × (wanted ≡ d ∷ l) × IsSequence d l)) → sequence ≡ sequence_or d wanted → IsRest routes sequence rest the_parent → ⊥
not_along d routes wanted sequence rest own is (inl up) = never_empty d wanted (sym is ∙ up.0)
not_along d routes wanted sequence rest own is (inr on) =
    let up : on.1 ≡ parent_as = sym (toward_inner on.1 parent_as routes on.5) in
    let along : sequence_or d wanted ≡ on.0 ∷ on.1 ∷ on.2 = sym is ∙ on.3 ∙ ap (λ (l : List As). on.0 ∷ l) on.4 in
    elim (own_sequence d wanted own) [
      | inl short ↦ no_cons on.1 on.2 (same_rest on.0 d (on.1 ∷ on.2) [] (sym along ∙ short))
      | inr long ↦ real_next d long.0 long.1 long.3 (same_first long.0 on.1 long.1 on.2 (same_rest d on.0 (long.0 ∷ long.1) (on.1 ∷ on.2) (sym long.2 ∙ along)) ∙ up)
    ]

module _ (c : Codec) (codec : IsCodec c) (n : NetworkParts) (es : List Entry) (s : Plant) (run : Run c n es s) (written : AllSent IsWritten (deeds_of c n es)) where
  one_replied : (e : PlantDeed) (older ds : Transcript) → AllReplied c n ds → Within (e ∷ older) ds → IsReplied c n e older
  one_replied e older [] h w = absurd (no_cons e older w)
  one_replied e older (f ∷ fs) h (inl same) =
      let z : AllReplied c n (e ∷ older) = subst (λ (t : Transcript). AllReplied c n t) (sym same) h in
      z.0
  one_replied e older (f ∷ fs) h (inr w) = one_replied e older fs h.1 w

  of_parent : (e : PlantDeed) (older : Transcript) (d : As) (p : Peer) (r : Reply) → Within (e ∷ older) (deeds_of c n es) → OfReplies c n older d p r e → OfParent c n older d p r e
  of_parent e older d p r w x =
      let w' : Within (Takes d the_parent (messages.PcRep x.replies) x.outputs ∷ older) (deeds_of c n es) = subst (λ (z : PlantDeed). Within (z ∷ older) (deeds_of c n es)) x.is w in
      let one = taken_alone c codec n es s run written d x.row the_parent x.replies x.reply x.outputs older w' x.is_reply' in
      let v = x.row.1.item.wanted in
      let asked = admitted_at c x.taken_row.at d x.row.1.key.peer x.taken_row.request x.taken_row.delivered in
      let admits = admits_path c asked.0 d x.taken_row.request v asked.1 x.taken_row.wanted in
      let sequence = (codec.onward.own asked.0 d x.taken_row.request.flags x.taken_row.request.id v admits).2 in
      let up = goes_up (place n d).parent (class_of n x.row.1.key.peer) v.sequence in
      elim (cases_Bool up) [
        | inl goes ↦
            let none : x.row.1.item.sequence ≡ [] = x.sequence ∙ ap (λ (b : Bool). cond b [] (sequence_or d v.sequence)) goes in
            let same = some_moment (opened c d x.row.1.key.peer x.row.1.key.id older) x.at x.taken_row.at x.is_open x.taken_row.is_open in
            record {
              reply = x.reply;
              outputs = x.outputs;
              is = x.is ∙ ap (λ (l : List Reply). Takes d the_parent (messages.PcRep l) x.outputs) one;
              number = x.row.0;
              held = x.row.1;
              taken = x.taken_row;
              goes = ap (λ z. goes_up (place n d).parent z v.sequence) x.taken_row.class ∙ goes;
              sent = subst (λ (m : Transcript). SentIn m d the_parent (request_message x.reply.id v v.target [])) same
                  (subst (λ (l : List As). SentIn x.at d the_parent (request_message x.reply.id v v.target l)) (rest_none (place n d).routes x.row.1.item.sequence x.rest x.goes none) x.sent);
              to = x.to;
              id = x.id;
              answer = x.answer;
            }
        | inr stays ↦ absurd (not_along d (place n d).routes v.sequence x.row.1.item.sequence x.rest sequence (x.sequence ∙ ap (λ (b : Bool). cond b [] (sequence_or d v.sequence)) stays) x.goes)
      ]

  pub replied_of : (e : PlantDeed) (older : Transcript) (d : As) (p : Peer) (r : Reply) (paths : List Path) → d ≢ parent_as → Within (e ∷ older) (deeds_of c n es) →
      Contains (outputs_at d e) (record { to = p; message = messages.PcRep (r ∷ []) }) → Tells r.answer paths → OfSolve d e ⊎ OfKey c d p r e ⊎ OfParent c n older d p r e
  replied_of e older d p r paths real w said tells =
      elim (one_replied e older (deeds_of c n es) (run_replied c n es s run (run_single c n codec es s run written)) w d p r paths real said tells) [
        | inl o ↦ inl o
        | inr (inl key) ↦ inr (inl key)
        | inr (inr x) ↦ inr (inr (of_parent e older d p r w x))
      ]
