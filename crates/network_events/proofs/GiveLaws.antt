-- A member that is given a message sends its letters, and this is the deed of the model.
use Rattle.std.proofs.Common.{◌≡◌, true, false, List, [], ◌∷◌, ◌++◌, refl, ap, sym, subst, ◌∙◌, inl, inr, append_assoc, append-nil}
use Rattle.std.proofs.lemmas.Bool.{cases_Bool}
use Rattle.pce_common.specs.plant_model.Types.{As, Peer, Outside, Inner, Hop, Message, Sent, NetworkParts}
use Rattle.plant_queues.specs.Sents.{sent_of}
use Rattle.plant_text.specs.Names.{same_as, parent_as}
use Rattle.plant_text.specs.Settings.{class_of}
use Rattle.pce_common.specs.plant_model.declared.output.Output.{Output}
use Rattle.pce_common.specs.plant_model.declared.output.Lost.{Lost}
use Rattle.pce_common.specs.plant_model.Settings.{place, family}
use Rattle.pce_common.specs.plant_model.RealWire.{wire}
use Rattle.pce_common.specs.plant_model.State.{State, said, sent_by}
use Rattle.pce_common.specs.plant_model.Deeds as deeds
use Rattle.pce_common.specs.plant_model.Deeds.{Going}
use Rattle.pce_common.specs.plant_model.Taking.{take}
use Rattle.pce_common.specs.plant_model.Parent as parent
use Rattle.network_links.specs.Flow.{Flow, put_flow}
use Rattle.pce_common.specs.Membership.{Membership, given, with_element, with_parent}
use Rattle.network_events.specs.Standing.{IsAt, here_of, Goes, state_of}
use Rattle.network_events.specs.Giving.{PutsAll, IsGiven, put_all}
use Rattle.network_events.proofs.LetterLaws.{puts_keep}

pub said_put : (ss : List Sent) (f : Flow) → (put_all ss f).said ≡ f.said ++ ss
said_put [] f = sym (append-nil f.said)
said_put (s ∷ ss) f = said_put ss (put_flow s.from s.to s.bytes f) ∙ ap (λ (x : List Sent). x ++ ss) (one s.to) ∙ append_assoc f.said (s ∷ []) ss
  where
    one : (to : Peer) → (put_flow s.from to s.bytes f).said ≡ f.said ++ sent_of s.from to s.bytes ∷ []
    one (Outside i) = refl
    one (Inner b) = refl

module _ {P : Type 0} {S : Type 0} (show : S → List Hop) (n : NetworkParts) where
  state_sent : (at : As) (os : List Output) (ms : Membership P S) (f : Flow) → state_of ms (put_all (sent_by wire at os) f) ≡ deeds.puts P S wire n show at os (state_of ms f)
  state_sent at [] ms f = refl
  state_sent at (o ∷ os) ms f = state_sent at os ms (put_flow at o.to (wire.text o.message) f) ∙ ap (deeds.puts P S wire n show at os) (one o.to)
    where
      one : (to : Peer) → state_of ms (put_flow at to (wire.text o.message) f) ≡ deeds.put_to P S wire n show at (wire.text o.message) (state_of ms f) to
      one (Outside i) = refl
      one (Inner b) = refl

  pub sent_is : (at : As) (os : List Output) (ms : Membership P S) (f f' : Flow) → PutsAll (sent_by wire at os) f f' →
      (state_of ms f' ≡ deeds.puts P S wire n show at os (state_of ms f)) × (f'.said ≡ f.said ++ sent_by wire at os)
  sent_is at os ms f f' puts = (ap (state_of ms) puts.kept ∙ state_sent at os ms f, ap (λ (x : Flow). x.said) puts.kept ∙ said_put (sent_by wire at os) f)

  gives : (ms : Membership P S) (at : As) (p : Peer) (m : Message) (f f' : Flow) → PutsAll (sent_by wire at (given wire n show at p f.clock m ms).outputs) f f' →
      (g : Going P S) → IsAt g ms f → IsAt (deeds.give P S wire n show at p m g) (given wire n show at p f.clock m ms).members f'
  gives ms at p m f f' puts g is = elim (cases_Bool (same_as at parent_as)) [
    | inl upper ↦ upper_gives upper
    | inr inner ↦ inner_gives inner
  ]
    where
      upper_gives : same_as at parent_as ≡ true → IsAt (deeds.give P S wire n show at p m g) (given wire n show at p f.clock m ms).members f'
      upper_gives upper =
          let r = parent.take wire (family n) p m ms.parent in
          let puts' : PutsAll (sent_by wire at r.outputs) f f' = rw upper at puts in
          let sent = sent_is at r.outputs (with_parent r.parent ms) f f' puts' in
          rw upper (record {
            state = sent.0 ∙ ap (λ (s : State P S). let q = parent.take wire (family n) p m s.parent in deeds.puts P S wire n show at q.outputs (deeds.with_parent P S wire n show q.parent s)) is.state;
            said = sent.1 ∙ ap (λ (ss : List Sent). ss ++ sent_by wire at r.outputs) is.said
                ∙ ap (λ (s : State P S). said wire g.deeds ++ sent_by wire at (parent.take wire (family n) p m s.parent).outputs) is.state;
          })

      inner_gives : same_as at parent_as ≡ false → IsAt (deeds.give P S wire n show at p m g) (given wire n show at p f.clock m ms).members f'
      inner_gives inner =
          let r = take wire show (place n at) (ms.current at) p (class_of n p) f.clock m (ms.elements at) in
          let puts' : PutsAll (sent_by wire at r.outputs) f f' = rw inner at puts in
          let sent = sent_is at r.outputs (with_element at r.element ms) f f' puts' in
          rw inner (record {
            state = sent.0 ∙ ap (λ (s : State P S). let q = take wire show (place n at) (s.current at) p (class_of n p) s.clock m (s.elements at) in deeds.puts P S wire n show at q.outputs (deeds.with_element P S wire n show at q.element s)) is.state;
            said = sent.1 ∙ ap (λ (ss : List Sent). ss ++ sent_by wire at r.outputs) is.said
                ∙ ap (λ (s : State P S). said wire g.deeds ++ sent_by wire at (take wire show (place n at) (s.current at) p (class_of n p) s.clock m (s.elements at)).outputs) is.state;
          })

-- the deed is done by those who make what the message makes of the member, and then put the letters
pub goes_give : {P : Type 0} {S : Type 0} (show : S → List Hop) (n n' : NetworkParts) (ms mid ms' : Membership P S) (lost lost' : As → List Lost) (at : As) (p : Peer) (m : Message) (letters : List Sent) (f f' : Flow) →
    n' ≡ n → lost' ≡ lost → ms' ≡ mid → IsGiven n show at p f.clock m ms mid letters → PutsAll letters f f' →
    Goes (λ k. deeds.give P S wire k show at p m) (here_of n ms lost f) (here_of n' ms' lost' f')
goes_give show n n' ms mid ms' lost lost' at p m letters f f' same_n same_lost same_ms is_given puts =
    let keeps = puts_keep letters f in
    let reply = given wire n show at p f.clock m ms in
    let puts' : PutsAll (sent_by wire at reply.outputs) f f' = subst (λ (ss : List Sent). PutsAll ss f f') is_given.letters_are puts in
    let next : reply.members ≡ ms' = sym is_given.members ∙ sym same_ms in
    record {
      network = same_n;
      lost = λ none a. ap (λ (ls : As → List Lost). ls a) same_lost ∙ none a;
      adjacencies = ap (λ (x : Flow). x.adjacencies) puts.kept ∙ keeps.1;
      peers = ap (λ (x : Flow). x.peers) puts.kept ∙ keeps.2;
      room = puts.room;
      goes = λ g is. subst (λ (x : Membership _ _). IsAt (deeds.give _ _ wire n show at p m g) x f') next (gives show n ms at p m f f' puts' g is);
    }
