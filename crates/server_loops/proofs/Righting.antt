-- A cache that is right in the topologies that a bench knows.
use Rattle.std.proofs.Common.{◌≡◌, inl, inr, List, None, Some, refl, sym, ◌∙◌, ap, subst}
use Rattle.std.specs.Prelude.{Contains, [], IfSome}
use Rattle.std.specs.Arc.{arc_value}
use Rattle.std.specs.declared.option.Option.{Option}
use Rattle.lru.specs.LruCache.{put_entries}
use Rattle.lru.proofs.CallerLemmas.{Contains-put_entries}
use Rattle.lru.proofs.Splits.{Contains-nil}
use Rattle.dom_base.specs.declared.names.As.{As}
use Rattle.te_links.specs.Rows.{Rows}
use Rattle.border_costs.specs.declared.job.Job.{Job}
use Rattle.pce_parent.specs.declared.work.Work.{Work}
use Rattle.pce_parent.specs.declared.work.Work.TheVariants.{Domain, Border}
use Rattle.cost_cache.specs.declared.key.Key.{Key}
use Rattle.cost_cache.specs.declared.kept.Kept.{Kept}
use Rattle.cost_cache.specs.Keys.{same_key}
use Rattle.cost_cache.specs.SameKeys.{same_key-Decides}
use Rattle.cost_cache.specs.Entries.{Entries, IsGood, IsAfter, IsKept}
use Rattle.server_loops.specs.Benches.{Benched, IsGiven}
use Rattle.server_loops.specs.WorkerTurns.{key_of_work}
use Rattle.server_loops.specs.WorkerSteps.{Known, AreRight, AreSound, CanKeep, CanSolve, IsKnown, IsLast, OnlyAdds, last_after}

-- a call of the cache keeps it right
pub right_after : (known : Known) (key : Key) (g : Rows) (old new : Entries) → known key.at key.generation ≡ Some g → AreRight known old → IsAfter old key new →
    IsGood key.at key.generation g new → AreRight known new
right_after known key g old new knows right after good k v has =
    let was : Contains (put_entries same_key old key after.0) (k, v) = subst (λ (es : List (Key × Kept)). Contains es (k, v)) (ap (λ (c : Entries). c.entries) after.1) has in
    elim (Contains-put_entries same_key old key after.0 (k, v) was) [
      | inl before ↦ right k v before
      | inr put ↦
          let one : k ≡ key = elim put.1 [ inl same ↦ same | inr other ↦ sym ((same_key-Decides key k).0 other.2) ] in (
            g,
            ap (λ (j : Key). known j.at j.generation) one ∙ knows,
            good k v has (ap (λ (j : Key). j.at) one) (ap (λ (j : Key). j.generation) one),
          )
    ]

-- so does a bench that learns topologies
pub right_grows : (old new : Benched) (cache : Entries) → OnlyAdds old new → AreRight old.topologies cache → AreRight new.topologies cache
right_grows old new cache stays right k v has = let was = right k v has in (was.0, stays.topologies k.at k.generation was.0 was.1, was.2)

-- it is good for each job of the bench
pub can_solve : (b : Benched) (cache : Entries) (work : Work) → AreRight b.topologies cache → IsGiven b work → CanSolve cache work
can_solve b cache (Domain job) right given = λ key kept has here now.
    let was = right key kept has in
    let known : b.topologies key.at key.generation ≡ Some (arc_value job.topology) =
    ap (λ (a : As). b.topologies a key.generation) here ∙ ap (λ n. b.topologies job.ask.at n) now ∙ given in
    let both : Some was.0 ≡ Some (arc_value job.topology) = sym was.1 ∙ known in
    let one : was.0 ≡ arc_value job.topology = cc in
    subst (λ (g : Rows). IsKept g key kept) one was.2
can_solve b cache (Border job) right given = given

-- a new cache is right
pub right_new : (known : Known) (cache : Entries) → cache.entries ≡ [] → AreRight known cache
right_new known cache empty k v has = absurd (Contains-nil (k, v) (subst (λ (es : List (Key × Kept)). Contains es (k, v)) empty has))

known_grows : (old new : Benched) (last : Option Job) → OnlyAdds old new → IfSome last (IsKnown old.topologies) → IfSome last (IsKnown new.topologies)
known_grows old new None stays known = tt
known_grows old new (Some job) stays known = stays.topologies job.ask.at job.ask.generation (arc_value job.topology) known

-- what is sound stays so where a bench learns topologies
pub sound_grows : (old new : Benched) (cache : Entries) (last : Option Job) → OnlyAdds old new → AreSound old.topologies cache last → AreSound new.topologies cache last
sound_grows old new cache last stays sound = record {
  right = right_grows old new cache stays sound.right;
  known_last = known_grows old new last stays sound.known_last;
}

-- a new cache is sound, and so is no job
pub sound_new : (known : Known) (cache : Entries) (last : Option Job) → cache.entries ≡ [] → last ≡ None → AreSound known cache last
sound_new known cache last empty none = record {
  right = right_new known cache empty;
  known_last = subst (λ (l : Option Job). IfSome l (IsKnown known)) (sym none) tt;
}

known_after : (b : Benched) (work : Work) (last : Option Job) → IsGiven b work → IfSome last (IsKnown b.topologies) → IfSome (last_after work last) (IsKnown b.topologies)
known_after b (Domain job) last given known = given
known_after b (Border job) last given known = known

-- so is a job that a look gave, behind its solution
pub sound_after : (b : Benched) (work : Work) (cache : Entries) (before last : Option Job) → IsGiven b work → AreRight b.topologies cache → IfSome before (IsKnown b.topologies) →
    last ≡ last_after work before → AreSound b.topologies cache last
sound_after b work cache before last given right known is = record {
  right = right;
  known_last = subst (λ (l : Option Job). IfSome l (IsKnown b.topologies)) (sym is) (known_after b work before given known);
}

-- a domain's job that was finished is the last one
pub last_of : (work : Work) (before last : Option Job) → last ≡ last_after work before → IsLast (key_of_work work) before last
last_of (Domain job) before last is = (job, is, refl)
last_of (Border job) before last is = is

-- the costs of the last job can be kept
pub can_keep : (b : Benched) (cache : Entries) (last : Option Job) → AreSound b.topologies cache last → IfSome last (CanKeep cache)
can_keep b cache None sound = tt
can_keep b cache (Some job) sound = can_solve b cache (Domain job) sound.right sound.known_last
