-- The weight of a network after what is put into its queues or taken from them, and after a change of one table.
use Rattle.std.proofs.Common.{◌≡◌, ◌∙◌, ◌≤◌, ◌+◌, ℕ, Bool, true, false, cond, List, [], ◌∷◌, ◌++◌, Option, length, refl, sym, ap, subst, arith}
use Rattle.std.proofs.Math.Nat.{le_refl}
use Rattle.plant_laws.specs.plant_model.Types.{As, Peer, Outside, Inner, Message, NetworkParts}
use Rattle.disclosure.specs.Shown.{open_of}
use Rattle.plant_text.specs.Names.{same_as}
use Rattle.plant_text.specs.Settings.{elements_of}
use Rattle.plant_laws.specs.plant_model.declared.output.Output.{Output}
use Rattle.plant_laws.specs.plant_model.Names.{set_pair}
use Rattle.plant_laws.specs.plant_model.Wire.{Bytes, Codec}
use Rattle.plant_laws.specs.plant_model.Laws.{IsNetwork}
use Rattle.plant_laws.specs.plant_model.Element.{Element}
use Rattle.plant_laws.specs.plant_model.Parent.{Parent}
use Rattle.plant_laws.specs.plant_model.Deeds.{put_to, put, puts, with_element, with_parent}
use Rattle.plant_laws.specs.plant_model.Plant.{Pin, Segment}
use Rattle.plant_laws.specs.Sending.{AreAll}
use Rattle.run_laws.specs.Settling.{total, ends, cost, read_weight, queue_weight, queues_weight, pending_count}
use Rattle.run_laws.proofs.SettlingLemmas.Pairs.{both, first_apart, second_apart, same_self, set_here, set_other, set_all}
use Rattle.run_laws.proofs.SettlingLemmas.Calm.{Core, ReadsAgain}
use Rattle.run_laws.proofs.SettlingLemmas.Adjacencies.{elements_rise}
use Rattle.run_laws.proofs.SettlingLemmas.Sums.{stands, total_append, total_le, total_more, total_less, total_set}
use Rattle.run_laws.proofs.SettlingLemmas.Standing.{ends_rise}
use Rattle.run_laws.proofs.SettlingLemmas.Weighing.{peer_weight, sent_weight}

module _ (c : Codec) (n : NetworkParts) (net : IsNetwork n) where
  abbrev pub Queues : Type 0
  Queues = As → As → List Bytes

  -- the queues of one end
  abbrev pub from_weight : Queues → As → ℕ
  from_weight q a = total (λ b. queue_weight c n b (q a b)) (ends n)

  abbrev pub all_weight : Queues → ℕ
  all_weight q = total (from_weight q) (ends n)

  -- ---- one more message

  more_queue : (b : As) (q : List Bytes) (y : Bytes) → queue_weight c n b (q ++ y ∷ []) ≡ queue_weight c n b q + read_weight c n b (c.read y)
  more_queue b q y = let l = total_append (λ bytes. read_weight c n b (c.read bytes)) q (y ∷ []) in omega (arith, l)

  module _ (at b : As) (y : Bytes) (q : Queues) where
    abbrev longer : Queues
    longer = set_pair at b (q at b ++ y ∷ []) q

    abbrev extra : ℕ
    extra = read_weight c n b (c.read y)

    at_other : (a b' : As) → both at b a b' ≡ false → queue_weight c n b' (longer a b') ≤ queue_weight c n b' (q a b')
    at_other a b' miss = subst (λ (z : List Bytes). queue_weight c n b' z ≤ queue_weight c n b' (q a b')) (sym (set_other at b (q at b ++ y ∷ []) q a b' miss)) (le_refl (queue_weight c n b' (q a b')))

    at_here : queue_weight c n b (longer at b) ≤ queue_weight c n b (q at b) + extra
    at_here =
        subst (λ (z : List Bytes). queue_weight c n b z ≤ queue_weight c n b (q at b) + extra) (sym (set_here at b (q at b ++ y ∷ []) q))
        (let more = more_queue b (q at b) y in omega (arith, more))

    from_here : from_weight longer at ≤ from_weight q at + extra
    from_here =
        total_more (λ b'. queue_weight c n b' (longer at b')) (λ b'. queue_weight c n b' (q at b')) b extra 0 (ends n) (ends_rise n net)
        (λ d miss. at_other at d (second_apart at b at d miss)) at_here

    from_other : (d : As) → same_as at d ≡ false → from_weight longer d ≤ from_weight q d
    from_other d miss = total_le (λ b'. queue_weight c n b' (longer d b')) (λ b'. queue_weight c n b' (q d b')) (ends n) (λ b'. at_other d b' (first_apart at b d b' miss))

    pub longer_weighs : all_weight longer ≤ all_weight q + extra
    longer_weighs = total_more (from_weight longer) (from_weight q) at extra 0 (ends n) (ends_rise n net) from_other from_here

  -- ---- one message less

  module _ (a b : As) (y : Bytes) (rest : List Bytes) (q : Queues) (is : q a b ≡ y ∷ rest) where
    abbrev shorter : Queues
    shorter = set_pair a b rest q

    popped_queue : queue_weight c n b rest + read_weight c n b (c.read y) ≤ queue_weight c n b (q a b)
    popped_queue = subst (λ (z : List Bytes). queue_weight c n b rest + read_weight c n b (c.read y) ≤ queue_weight c n b z) (sym is) (omega arith)

    each_less : (a' b' : As) → queue_weight c n b' (shorter a' b') ≤ queue_weight c n b' (q a' b')
    each_less = set_all (λ (z w : As) (l : List Bytes). queue_weight c n w l ≤ queue_weight c n w (q z w)) a b rest q (let one = popped_queue in omega (arith, one)) (λ z w miss. le_refl (queue_weight c n w (q z w)))

    here_less : queue_weight c n b (shorter a b) + read_weight c n b (c.read y) ≤ queue_weight c n b (q a b)
    here_less = subst (λ (l : List Bytes). queue_weight c n b l + read_weight c n b (c.read y) ≤ queue_weight c n b (q a b)) (sym (set_here a b rest q)) popped_queue

    pub shorter_weighs : stands a (ends n) ≡ true → stands b (ends n) ≡ true → all_weight shorter + read_weight c n b (c.read y) ≤ all_weight q
    shorter_weighs in_a in_b =
        total_less (from_weight shorter) (from_weight q) a (read_weight c n b (c.read y)) (ends n) in_a
        (λ d. total_le (λ b'. queue_weight c n b' (shorter d b')) (λ b'. queue_weight c n b' (q d b')) (ends n) (each_less d))
        (total_less (λ b'. queue_weight c n b' (shorter a b')) (λ b'. queue_weight c n b' (q a b')) b (read_weight c n b (c.read y)) (ends n) in_b (each_less a) here_less)

  -- ---- what is sent

  put_weighs : (at : As) (m : Message) (s : Core) (to : Peer) → ReadsAgain c n m → queues_weight c n (put_to Pin Segment c n open_of at (c.text m) s to) ≤ queues_weight c n s + peer_weight c n to m
  put_weighs at m s (Outside i) again = omega arith
  put_weighs at m s (Inner b) again =
      let more = longer_weighs at b (c.text m) s.queues in
      let same : read_weight c n b (c.read (c.text m)) ≡ 1 + cost c n b m = ap (λ (o : Option Message). read_weight c n b o) again in
      omega (arith, more, same)

  pub puts_weigh : (at : As) (os : List Output) (s : Core) → AreAll (ReadsAgain c n) os → queues_weight c n (puts Pin Segment c n open_of at os s) ≤ queues_weight c n s + sent_weight c n os
  puts_weigh at [] s again = omega arith
  puts_weigh at (o ∷ os) s again =
      let first' = put_weighs at o.message s o.to again.0 in
      let rest' = puts_weigh at os (put Pin Segment c n open_of at o s) again.1 in
      omega (arith, first', rest')

  put_count : (at : As) (bytes : Bytes) (s : Core) (to : Peer) → pending_count c n (put_to Pin Segment c n open_of at bytes s to) ≡ pending_count c n s
  put_count at bytes s (Outside i) = refl
  put_count at bytes s (Inner b) = refl

  pub puts_count : (at : As) (os : List Output) (s : Core) → pending_count c n (puts Pin Segment c n open_of at os s) ≡ pending_count c n s
  puts_count at [] s = refl
  puts_count at (o ∷ os) s = puts_count at os (put Pin Segment c n open_of at o s) ∙ put_count at (c.text o.message) s o.to

  -- ---- tables

  -- one element becomes another
  pub element_count : (at : As) (k : Element Pin Segment) (s : Core) → stands at (elements_of n.elements) ≡ true →
      pending_count c n (with_element Pin Segment c n open_of at k s) + length (s.elements at).pending.rows ≡ pending_count c n s + length k.pending.rows
  element_count at k s there =
      let f : As → ℕ = λ d. length (cond (same_as at d) k (s.elements d)).pending.rows in
      let g : As → ℕ = λ d. length (s.elements d).pending.rows in
      let set = total_set f g at 1 (elements_of n.elements) (elements_rise n.elements net.elements) there (λ d miss. ap (λ (t : Bool). length (cond t k (s.elements d)).pending.rows) miss) in
      let here : f at ≡ length k.pending.rows = ap (λ (t : Bool). length (cond t k (s.elements at)).pending.rows) (same_self at) in
      omega (arith, set, here)

  pub parent_count : (k : Parent) (s : Core) → pending_count c n (with_parent Pin Segment c n open_of k s) + length s.parent.pending.rows ≡ pending_count c n s + length k.pending.rows
  parent_count k s = omega arith
