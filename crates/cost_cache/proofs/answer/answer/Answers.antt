use Rattle.cost_cache.proofs.answer.answer.Goals as goal

pub returns : goal.returns
returns g c =
    let kept = c.requires in
    record {
      seeds = kept.seeds;
      are_seeds = record { are = kept.are_seeds; few = kept.few };
      best = rw c.from_vec.ensures (c.in_ok-best.ensures kept.seeds (record { are = kept.are_seeds; few = kept.few }) kept.are_kept);
      source_known = c.is_node.ensures;
      target_known = c.knows_target.ensures;
    }
