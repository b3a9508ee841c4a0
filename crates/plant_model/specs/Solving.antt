-- An element answers a job that was solved: an open path to a client, closed branches to the others.
use Rattle.std.specs.Prelude.{ℕ, Bool, true, cond, nat_lt, ◌-◌, List, [], ◌∷◌, length}
use Rattle.plant_model.specs.Types.{Addr, Metric, Message, Path, Best, Branch}
use Rattle.pcep_messages.specs.declared.message.Answer.TheVariants.{Paths}
use Rattle.path_keys.specs.Keys.{Keys, live_most, live_at, issue_of, number_after}
use Rattle.plant_model.specs.Wire.{Codec}
use Rattle.plant_model.specs.Writing.{reply_message, busy, no_path, none_between}
use Rattle.plant_model.specs.Branches.{open_branch, closed_branch, path_of}
use Rattle.plant_model.specs.Element.{Row, Element, ElementSettings, Taken, is_client}
use Rattle.plant_model.specs.Taking.{answered}

-- To a client: the path of its source, or that there is none. The bits say whether its ends are nodes here.
abbrev pub client_reply : {P : Type 0} → Codec → Row P → List Branch → Bool → Bool → List Best → Message
client_reply c h down source_known target_known [] = reply_message h.1.item.flags h.1.key.id (no_path source_known target_known)
client_reply c h down source_known target_known (b ∷ bs) =
    reply_message h.1.item.flags h.1.key.id (Paths (path_of c h.1.item.wanted.query.metric b.cost (open_branch b down) ∷ []))

-- To a closed peer: a branch for each entry, with keys issued in their order.
abbrev pub closed_paths : Codec → Addr → Metric → Addr → List Branch → ℕ → List Best → List Path
closed_paths c pce m target down key [] = []
closed_paths c pce m target down key (b ∷ bs) =
    path_of c m b.cost (closed_branch key pce target b down) ∷ closed_paths c pce m target down (number_after key) bs

abbrev pub issued_all : {S : Type 0} → ℕ → (Best → S) → List Best → Keys S → Keys S
issued_all now stands [] keys = keys
issued_all now stands (b ∷ bs) keys = issued_all now stands bs (issue_of keys now (stands b))

-- how many more keys may be live
abbrev pub free : {S : Type 0} → ℕ → Keys S → ℕ
free now keys = live_most - length (live_at keys now)

abbrev pub closed_reply : {P : Type 0} {S : Type 0} → Codec → ElementSettings → Row P → List Branch → ℕ → (Best → S) → Element P S → List Best → Taken P S
closed_reply c e h down now stands k [] = answered h (reply_message h.1.item.flags h.1.key.id none_between) k
closed_reply c e h down now stands k (b ∷ bs) =
    cond (nat_lt (free now k.keys) (length (b ∷ bs)))
    (answered h (busy h.1.item.flags h.1.key.id) k)
    (answered h
    (reply_message h.1.item.flags h.1.key.id (Paths (closed_paths c e.id h.1.item.wanted.query.metric h.1.item.wanted.target down k.keys.next (b ∷ bs))))
    (record k { keys = issued_all now stands (b ∷ bs) k.keys }))

-- what the search for a job found: whether the ends of the path are nodes here, and the best ways
pub record JobFound : Type 0 where
  pub source_known : Bool
  pub target_known : Bool
  pub best : List Best

abbrev pub job_found : Bool → Bool → List Best → JobFound
job_found source_known target_known best = record { source_known = source_known; target_known = target_known; best = best }

-- The answer to the asker, and the element after it.
abbrev pub commit : {P : Type 0} {S : Type 0} → Codec → ElementSettings → Row P → List Branch → ℕ → (Best → S) → JobFound → Element P S → Taken P S
commit c e h down now stands found k =
    cond (is_client h.1.item.class)
    (answered h (client_reply c h down found.source_known found.target_known found.best) k)
    (closed_reply c e h down now stands k found.best)
