-- In every state of a run the keys of an element are a table of keys, whose numbers differ and fit their field.
use Rattle.std.proofs.Common.{◌≡◌, ◌≢◌, ◌<◌, ◌≤◌, ℕ, ◌+◌, zero, suc, Bool, true, false, cond, nat_lt, List, [], ◌∷◌, ◌++◌, length, filter, Some, sym, ◌∙◌, ap, subst, inl, inr, refl, arith}
use Rattle.plant_model.specs.Types.{As, Issued, ElementRow, Best, Branch, NetworkParts}
use Rattle.disclosure.specs.Shown.{open_of}
use Rattle.path_keys.specs.Keys.{Keys, AreKeys, Follows, Rises, is_live, live_at, issue_of, expired_of, live_most, number_most}
use Rattle.path_keys.proofs.KeyLemmas.{live_if, all_live, issued_keys, expired_keys, numbers_differ}
use Rattle.std.specs.Prelude.{AllPairs, All, ◌-◌, drop}
use Rattle.std.proofs.lemmas.List.Elements.{All-nil, All-cons, All-contains}
use Rattle.plant_text.specs.Settings.{life_from, row_of}
use Rattle.plant_model.specs.Solving.{free, job_found}
use Rattle.plant_model.specs.Laws.{IsElement, IsNetwork}
use Rattle.plant_laws.specs.Keys.{KeysDiffer}
use Rattle.plant_laws.proofs.Keys.KeyedRuns.{opened_calm, ticked_calm, later_least, before_plain}
use Rattle.plant_model.specs.declared.outcome.Refused.TheVariants.{GenerationsFull, NoSuchPeer}
use Rattle.plant_model.specs.declared.event.Event.{Event}
use Rattle.plant_model.specs.declared.event.Event.TheVariants as event
use Rattle.plant_model.specs.declared.output.Output.{Output}
use Rattle.plant_text.specs.Names.{same_as, parent_as}
use Rattle.plant_model.specs.Wire.{Codec}
use Rattle.plant_model.specs.Element.{Element, ElementSettings, Row, Taken, is_client}
use Rattle.plant_model.specs.Taking.{answered}
use Rattle.plant_model.specs.Solving.{commit, client_reply, closed_reply, issued_all}
use Rattle.plant_model.specs.Parent as parent
use Rattle.plant_text.specs.Settings.{adjacencies, life, is_element}
use Rattle.plant_model.specs.Settings.{place}
use Rattle.plant_model.specs.State.{State, Loads, Pops, Takes, Says, Ups, Downs, Clears, Solves, Expires, Hands}
use Rattle.plant_model.specs.Deeds.{Going, with_element, with_parent, puts, tick_outside, tick_adjacencies}
use Rattle.plant_model.specs.Events as events
use Rattle.plant_model.specs.Plant.{Pin, Segment, first_pin, Plant, PlantDeed, Happened, Entry, Run, Happens, opened, deeds_of, load_new, refused, is_full, ElementSolves, ParentSolves}
use Rattle.plant_laws.specs.Transcript.{Transcript, Within}
use Rattle.plant_laws.proofs.Runs.Lists.{Stands, contains_of}
use Rattle.plant_laws.proofs.Keys.Keyed.{plain_nil, Kind, going, open_calm, shut_calm, feed_calm, break_calm, drain_calm, take_kind, carry_kind}
use Rattle.plant_laws.proofs.Runs.Calm.{is_plain, Plain, puts_elements, puts_clock}

not_both : {X : Type 0} (t : Bool) → t ≡ true → t ≡ false → X
not_both true e f = cc
not_both false e f = cc

not_less : (a b : ℕ) → nat_lt a b ≡ false → b ≤ a
not_less a b e = grind arith

less_of : (a b : ℕ) → nat_lt a b ≡ true → a < b
less_of a b e = grind arith

-- what is live is the end of a table
record IsEnd (life now : ℕ) (keys : List (Issued Segment)) : Type 0 where
  pub dead : ℕ
  pub most : dead ≤ length keys
  pub is : filter (is_live life now) keys ≡ drop dead keys

live_end : (life now low high : ℕ) (keys : List (Issued Segment)) → Rises low keys high → IsEnd life now keys
live_end life now low high [] rises = record { dead = 0; most = omega arith; is = refl }
live_end life now low high (key ∷ keys) rises = go (is_live life now key) refl (live_end life now key.at.0 high keys rises.1)
  where
    go : (b : Bool) → is_live life now key ≡ b → IsEnd life now keys → IsEnd life now (key ∷ keys)
    go true e rest = record {
      dead = 0;
      most = omega arith;
      is = ap (λ (t : Bool). cond t (key ∷ filter (is_live life now) keys) (filter (is_live life now) keys)) e
          ∙ ap (λ (l : List (Issued Segment)). key ∷ l) (all_live life now key.at.0 high keys rises.1 (less_of now (key.at.0 + life) e));
    }
    go false e rest = record {
      dead = suc rest.dead;
      most = omega (arith, rest.most);
      is = ap (λ (t : Bool). cond t (key ∷ filter (is_live life now) keys) (filter (is_live life now) keys)) e ∙ rest.is;
    }

drop_push : (i : ℕ) (xs : List (Issued Segment)) (x : Issued Segment) → i ≤ length xs → drop i xs ++ x ∷ [] ≡ drop i (xs ++ x ∷ [])
drop_push zero xs x le = refl
drop_push (suc i) [] x le = absurd (omega (arith, le))
drop_push (suc i) (y ∷ ys) x le = drop_push i ys x (omega (arith, le))

length_drop : (i : ℕ) (xs : List (Issued Segment)) → i ≤ length xs → length (drop i xs) ≡ length xs - i
length_drop zero xs le = omega arith
length_drop (suc i) [] le = absurd (omega (arith, le))
length_drop (suc i) (y ∷ ys) le = omega (arith, length_drop i ys (omega (arith, le)))

filter_push : (f : Issued Segment → Bool) (xs : List (Issued Segment)) (x : Issued Segment) → f x ≡ true → length (filter f (xs ++ x ∷ [])) ≡ length (filter f xs) + 1
filter_push f [] x ok = ap (λ (b : Bool). length (cond b (x ∷ []) [])) ok
filter_push f (y ∷ ys) x ok = go (f y) (filter_push f ys x ok)
  where
    go : (b : Bool) → length (filter f (ys ++ x ∷ [])) ≡ length (filter f ys) + 1 → length (cond b (y ∷ filter f (ys ++ x ∷ [])) (filter f (ys ++ x ∷ []))) ≡ length (cond b (y ∷ filter f ys) (filter f ys)) + 1
    go true rest = omega (arith, rest)
    go false rest = rest

filter_twice : (f : Issued Segment → Bool) (xs : List (Issued Segment)) → length (filter f (filter f xs)) ≡ length (filter f xs)
filter_twice f [] = refl
filter_twice f (y ∷ ys) = go (f y) refl (filter_twice f ys)
  where
    go : (b : Bool) → f y ≡ b → length (filter f (filter f ys)) ≡ length (filter f ys) → length (filter f (cond b (y ∷ filter f ys) (filter f ys))) ≡ length (cond b (y ∷ filter f ys) (filter f ys))
    go true e rest = ap (λ (t : Bool). length (cond t (y ∷ filter f (filter f ys)) (filter f (filter f ys)))) e ∙ ap suc rest
    go false e rest = rest

issue_good : (keys : Keys Segment) (now : ℕ) (segment : Segment) → AreKeys keys → keys.clock ≤ now → length (live_at keys now) < live_most → AreKeys (issue_of keys now segment)
issue_good keys now segment are le room =
    let end = live_end keys.life now 0 keys.clock keys.issued are.ticks in
    let new : Issued Segment = record { number = keys.next; at = record { 0 = now }; segment = segment } in
    issued_keys keys.life keys.next keys.clock now end.dead keys.issued (live_at keys now ++ new ∷ []) new are refl refl le end.most
    (omega (arith, room, ap length end.is, length_drop end.dead keys.issued end.most))
    (ap (λ (l : List (Issued Segment)). l ++ new ∷ []) end.is ∙ drop_push end.dead keys.issued new end.most)

issued_good : (now : ℕ) (stands : Best → Segment) (bs : List Best) (keys : Keys Segment) → AreKeys keys → keys.clock ≤ now → length (live_at keys now) + length bs ≤ live_most →
    AreKeys (issued_all now stands bs keys) × ((issued_all now stands bs keys).clock ≤ now)
issued_good now stands [] keys are le room = (are, le)
issued_good now stands (b ∷ bs) keys are le room =
    let new : Issued Segment = record { number = keys.next; at = record { 0 = now }; segment = stands b } in
    let f = is_live keys.life now in
    let live : f new ≡ true = live_if keys.life now new (omega (arith, are.life)) in
    let more = filter_push f (live_at keys now) new live in
    let twice = filter_twice f keys.issued in
    issued_good now stands bs (issue_of keys now (stands b)) (issue_good keys now (stands b) are le (omega (arith, room))) (omega arith) (omega (arith, room, more, twice))

module _ (c : Codec) (n : NetworkParts) where
  abbrev Core : Type 0
  Core = State Pin Segment

  -- keys that are a table, no later than the clock
  pub record Fine (now : ℕ) (keys : Keys Segment) : Type 0 where
    pub are : AreKeys keys
    pub clock : keys.clock ≤ now

  abbrev pub AllFine : Core → Type 0
  AllFine s = (d : As) → Fine s.clock (s.elements d).keys

  fine_pick : (now : ℕ) (b : Bool) (t u : Taken Pin Segment) → (b ≡ true → Fine now t.element.keys) → (b ≡ false → Fine now u.element.keys) → Fine now (cond b t u).element.keys
  fine_pick now true t u x y = x refl
  fine_pick now false t u x y = y refl

  closed_fine : (e : ElementSettings) (h : Row Pin) (down : List Branch) (now : ℕ) (stands : Best → Segment) (k : Element Pin Segment) (best : List Best) → Fine now k.keys → Fine now (closed_reply c e h down now stands k best).element.keys
  closed_fine e h down now stands k [] fine = fine
  closed_fine e h down now stands k (b ∷ bs) fine =
      fine_pick now (nat_lt (free now k.keys) (length (b ∷ bs))) _ _ (λ full. fine) (λ room.
      (let end = live_end k.keys.life now 0 k.keys.clock k.keys.issued fine.are.ticks in
      let few : length (live_at k.keys now) ≤ live_most = omega (arith, fine.are.few, ap length end.is, length_drop end.dead k.keys.issued end.most) in
      let enough = not_less (free now k.keys) (length (b ∷ bs)) room in
      let r = issued_good now stands (b ∷ bs) k.keys fine.are fine.clock (omega (arith, enough, few)) in
      record { are = r.0; clock = r.1 }))

  commit_fine : (e : ElementSettings) (h : Row Pin) (down : List Branch) (now : ℕ) (stands : Best → Segment) (sk tk : Bool) (best : List Best) (k : Element Pin Segment) → Fine now k.keys → Fine now (commit c e h down now stands (job_found sk tk best) k).element.keys
  commit_fine e h down now stands sk tk best k fine =
      fine_pick now (is_client h.1.item.class) (answered h (client_reply c h down sk tk best) k) (closed_reply c e h down now stands k best) (λ client. fine) (λ closed. closed_fine e h down now stands k best fine)

  same_fine : (s t : Core) → t.clock ≡ s.clock → ((d : As) → (t.elements d).keys ≡ (s.elements d).keys) → AllFine s → AllFine t
  same_fine s t clock keys fine d = subst (λ (now : ℕ). Fine now (t.elements d).keys) (sym clock) (subst (λ (k : Keys Segment). Fine s.clock k) (sym (keys d)) (fine d))

  kind_fine : (s : Core) (g : Going Pin Segment) → Kind c n s g → AllFine s → AllFine g.state
  kind_fine s g (inl calm) fine = same_fine s g.state calm.clock calm.keys fine
  kind_fine s g (inr gives) fine = same_fine s g.state gives.clock gives.keys fine

  tick_fine : (t : ℕ) (s : Core) → AllFine s → AllFine (events.tick Pin Segment c n open_of t s).state
  tick_fine t s fine d =
      let now = events.later s.clock t in
      let u : Core = record s { clock = now } in
      let g = tick_adjacencies Pin Segment c n open_of (adjacencies n) (record { 0 = now }) (tick_outside Pin Segment c n open_of 0 n.peers (record { 0 = now }) (record { state = u; deeds = [] })) in
      let calm = ticked_calm c n t s in
      subst (λ (k : Keys Segment). Fine g.state.clock (expired_of k now)) (sym (calm.keys d))
      (subst (λ (z : ℕ). Fine z (expired_of (s.elements d).keys now)) (sym calm.clock)
      (let k = (s.elements d).keys in
      let end = live_end k.life now 0 k.clock k.issued (fine d).are.ticks in
      record { are = expired_keys k.life k.next k.clock now end.dead k.issued (live_at k now) (fine d).are (omega (arith, (fine d).clock, later_least s.clock t)) end.is; clock = omega arith }))

  solve_fine : (s : Plant) (d : As) (k : ℕ) (h : Happened) → AllFine s → ElementSolves c n d k s h → AllFine h.state
  solve_fine s d k h fine x =
      let r = commit c (place n d) (k, x.held) x.down s.clock (λ b. b.segment) (job_found x.rows.source_known x.rows.target_known x.rows.best) (s.elements d) in
      let v = with_element Pin Segment c n open_of d r.element s in
      let one : Fine s.clock r.element.keys = commit_fine (place n d) (k, x.held) x.down s.clock (λ b. b.segment) x.rows.source_known x.rows.target_known x.rows.best (s.elements d) (fine d) in
      subst (λ (h' : Happened). AllFine h'.state) (sym x.is)
      (same_fine v (puts Pin Segment c n open_of d r.outputs v) (puts_clock c n d r.outputs v) (λ e. ap (λ (f : As → Element Pin Segment). (f e).keys) (puts_elements c n d r.outputs v))
      (λ e. at r.element one (same_as d e) (s.elements e) (fine e)))
    where
      at : (q : Element Pin Segment) → Fine s.clock q.keys → (b : Bool) (o : Element Pin Segment) → Fine s.clock o.keys → Fine s.clock (cond b q o).keys
      at q one true o other = one
      at q one false o other = other

  upper_fine : (s : Plant) (k : ℕ) (h : Happened) → AllFine s → ParentSolves c n k s h → AllFine h.state
  upper_fine s k h fine x =
      let r = parent.commit c (k, x.held) x.answer s.parent in
      let v = with_parent Pin Segment c n open_of r.parent s in
      subst (λ (h' : Happened). AllFine h'.state) (sym x.is)
      (same_fine v (puts Pin Segment c n open_of parent_as r.outputs v) (puts_clock c n parent_as r.outputs v) (λ e. ap (λ (f : As → Element Pin Segment). (f e).keys) (puts_elements c n parent_as r.outputs v)) fine)

  -- the keys of a solve
  pub record Differ (keys : List (Issued Segment)) : Type 0 where
    pub differ : AllPairs (λ x y. x.number ≢ y.number) keys
    pub fit : All (λ x. (1 ≤ x.number) × (x.number ≤ number_most)) keys

  follows_fit : (next : ℕ) (keys : List (Issued Segment)) → Follows next keys → All (λ x. (1 ≤ x.number) × (x.number ≤ number_most)) keys
  follows_fit next [] follows = All-nil (λ x. (1 ≤ x.number) × (x.number ≤ number_most))
  follows_fit next (key ∷ keys) follows = All-cons (λ x. (1 ≤ x.number) × (x.number ≤ number_most)) key keys (follows.0.some, follows.0.last) (follows_fit next keys follows.1)

  fine_differ : (now : ℕ) (keys : Keys Segment) → Fine now keys → Differ keys.issued
  fine_differ now keys fine = record { differ = numbers_differ keys.next keys.issued fine.are.numbers; fit = follows_fit keys.next keys.issued fine.are.numbers }

  none_differ : Differ []
  none_differ = record { differ = λ i j d before below. absurd (omega (arith, below)); fit = All-nil (λ x. (1 ≤ x.number) × (x.number ≤ number_most)) }

  -- each deed that solves has such keys
  abbrev Solved : PlantDeed → Type 0
  Solved (Solves at k os keys) = Differ keys
  Solved _ = Unit {0}

  abbrev AllSolved : Transcript → Type 0
  AllSolved [] = Unit {0}
  AllSolved (e ∷ es) = Solved e × AllSolved es

  abbrev FirstSolved : Transcript → Type 0
  FirstSolved [] = Unit {0}
  FirstSolved (x ∷ xs) = Solved x

  plain_one : (e : PlantDeed) → is_plain e ≡ true → Solved e
  plain_one (Solves at k os keys) plain = let no : false ≡ true = plain in cc
  plain_one _ plain = tt

  plain_solved : (es : Transcript) → Plain es → AllSolved es
  plain_solved [] plain = tt
  plain_solved (e ∷ es) plain = (plain_one e plain.0, plain_solved es plain.1)

  more_solved : (es ds : Transcript) → AllSolved es → AllSolved ds → AllSolved (es ++ ds)
  more_solved [] ds x y = y
  more_solved (e ∷ es) ds x y = (x.0, more_solved es ds x.1 y)

  record Good (h : Happened) : Type 0 where
    pub fine : AllFine h.state
    pub solved : AllSolved h.deeds

  by_kind : (s : Plant) (h k : Happened) → h ≡ k → Kind c n s (going c n k) → AllFine s → Good h
  by_kind s h k is kind fine = subst Good (sym is) (record { fine = kind_fine s (going c n k) kind fine; solved = go kind })
    where
      go : Kind c n s (going c n k) → AllSolved k.deeds
      go (inl calm) = plain_solved k.deeds (plain_nil k.deeds calm.more calm.is calm.plain)
      go (inr gives) = subst AllSolved (sym gives.deeds) (tt, plain_solved gives.before (before_plain c n gives.before gives.first))

  happens_good : (s : Plant) (e : Event) (h : Happened) → Happens c n s e h → AllFine s → Good h
  happens_good s (event.Load d g) h is fine = subst Good (sym is) (go (is_element n d) (is_full (s.current d).number (s.elements d).pending.rows))
    where
      go : (t u : Bool) → Good (cond t (cond u (refused c n GenerationsFull s) (load_new c n d g s)) (refused c n NoSuchPeer s))
      go true true = record { fine = fine; solved = tt }
      go false u = record { fine = fine; solved = tt }
      go true false = record { fine = fine; solved = (tt, tt) }
  happens_good s (event.Open i holder) h is fine = by_kind s h _ is (inl (open_calm c n i holder s)) fine
  happens_good s (event.Shut i) h is fine = by_kind s h _ is (inl (shut_calm c n i s)) fine
  happens_good s (event.Feed i bytes) h is fine = by_kind s h _ is (inl (feed_calm c n i bytes s)) fine
  happens_good s (event.Take i) h is fine = by_kind s h _ is (take_kind c n i s) fine
  happens_good s (event.Carry a b) h is fine = by_kind s h _ is (carry_kind c n a b s) fine
  happens_good s (event.Break a b) h is fine = by_kind s h _ is (inl (break_calm c n a b s)) fine
  happens_good s (event.Tick t) h is fine =
      let calm = ticked_calm c n t.0 s in
      subst Good (sym is) (record { fine = tick_fine t.0 s fine; solved = (tt, plain_solved _ (plain_nil _ calm.more calm.is calm.plain)) })
  happens_good s (event.Drain i holder) h is fine = by_kind s h _ is (inl (drain_calm c n i holder s)) fine
  happens_good s (event.Solve d k) h (inl none) fine = subst Good (sym none.1) (record { fine = fine; solved = tt })
  happens_good s (event.Solve d k) h (inr (inl none)) fine = subst Good (sym none.2) (record { fine = fine; solved = tt })
  happens_good s (event.Solve d k) h (inr (inr (inl solves))) fine =
      let x = solves.1 in
      record {
        fine = solve_fine s d k h fine x;
        solved = subst (λ (h' : Happened). AllSolved h'.deeds) (sym x.is)
            (fine_differ s.clock _ (commit_fine (place n d) (k, x.held) x.down s.clock (λ b. b.segment) x.rows.source_known x.rows.target_known x.rows.best (s.elements d) (fine d)), tt);
      }
  happens_good s (event.Solve d k) h (inr (inr (inr solves))) fine =
      record { fine = upper_fine s k h fine solves.2; solved = subst (λ (h' : Happened). AllSolved h'.deeds) (sym solves.2.is) (none_differ, tt) }

  -- lives fit their field
  module _ (lives : (d : As) → (1 ≤ life n d) × (life n d ≤ 3600)) where
    pub record Run-good (es : List Entry) (s : Plant) : Type 0 where
      pub fine : AllFine s
      pub solved : AllSolved (deeds_of c n es)

    bare_fine : AllFine (events.bare Pin Segment c n open_of first_pin)
    bare_fine d = record {
      are = record { life = (lives d).0; life_few = (lives d).1; next = omega arith; next_most = omega arith; few = omega arith; numbers = tt; ticks = omega arith };
      clock = omega arith;
    }

    pub run_good : (es : List Entry) (s : Plant) → Run c n es s → Run-good es s
    run_good [] s is =
        let calm = opened_calm c n in
        record {
          fine = subst AllFine (sym is) (same_fine (events.bare Pin Segment c n open_of first_pin) (opened c n).state calm.clock calm.keys bare_fine);
          solved = plain_solved (opened c n).deeds (plain_nil (opened c n).deeds calm.more calm.is calm.plain);
        }
    run_good (e ∷ older) s run =
        let before = run_good older run.0 run.1 in
        let h : Happened = record { answer = e.answer; state = s; deeds = e.deeds } in
        let good : Good h = elim run.3 [
          | inl is ↦ happens_good run.0 e.event h is before.fine
          | inr none ↦ subst Good (sym none.1) (record { fine = before.fine; solved = tt })
        ] in
        record { fine = good.fine; solved = more_solved e.deeds (deeds_of c n older) good.solved before.solved }

    within_solved : (ds : Transcript) (d : As) (k : ℕ) (os : List Output) (keys : List (Issued Segment)) (older : Transcript) → AllSolved ds → Within (Solves d k os keys ∷ older) ds → Differ keys
    within_solved [] d k os keys older all within = let no : Solves d k os keys ∷ older ≡ [] = within in cc
    within_solved (e ∷ es) d k os keys older all (inl is) = subst FirstSolved (sym is) all.0
    within_solved (e ∷ es) d k os keys older all (inr there) = within_solved es d k os keys older all.1 there

    pub differ : (es : List Entry) (s : Plant) → Run c n es s → (d : As) (k : ℕ) (os : List Output) (keys : List (Issued Segment)) (older : Transcript) → Within (Solves d k os keys ∷ older) (deeds_of c n es) → Differ keys
    differ es s run d k os keys older within = within_solved (deeds_of c n es) d k os keys older (run_good es s run).solved within

pub row_lives : (d : As) (rs : List ElementRow) → ((r : ElementRow) → Stands r rs → (1 ≤ r.key_life) × (r.key_life ≤ 3600)) → (1 ≤ life_from (row_of d rs)) × (life_from (row_of d rs) ≤ 3600)
row_lives d [] each = (omega arith, omega arith)
row_lives d (r ∷ rs) each = go (same_as r.own d) (row_lives d rs (λ x stands. each x (inr stands)))
  where
    go : (b : Bool) → (1 ≤ life_from (row_of d rs)) × (life_from (row_of d rs) ≤ 3600) → (1 ≤ life_from (cond b (Some r) (row_of d rs))) × (life_from (cond b (Some r) (row_of d rs)) ≤ 3600)
    go true rest = each r (inl refl)
    go false rest = rest

pub lives_of : (n : NetworkParts) → IsNetwork n → (d : As) → (1 ≤ life n d) × (life n d ≤ 3600)
lives_of n network d = row_lives d n.elements (λ r stands. (let e = All-contains IsElement n.elements r network.elements (contains_of n.elements r stands) in (e.life, e.life_most)))

pub keys_differ : KeysDiffer
keys_differ c n network es s run d k os keys older within =
    let x = differ c n (lives_of n network) es s run d k os keys older within in
    (x.differ, x.fit)
