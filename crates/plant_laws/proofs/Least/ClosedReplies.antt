-- What a solve answers is rightful, where its rows stand for least walks.
use Rattle.std.proofs.Common.{◌≡◌, ◌⊎◌, ◌≤◌, ℕ, Bool, true, false, cond, List, [], ◌∷◌, nat_lt, length, sym, ◌∙◌, ap, subst, inl, inr, refl}
use Rattle.std.specs.Prelude.{Contains, Some}
use Rattle.std.specs.declared.option.Option.{Option}
use Rattle.plant_model.specs.Types.{Addr, As, Peer, Answer, Path, Reply, Message, Wanted, Issued, Best, Branch, Held, NetworkParts, Class}
use Rattle.pcep_messages.specs.declared.message.Answer.TheVariants.{Paths, NoPath}
use Rattle.pcep_messages.specs.declared.message.Message.TheVariants as messages
use Rattle.plant_model.specs.declared.output.Output.{Output}
use Rattle.plant_model.specs.Wire.{Codec}
use Rattle.pcep_messages.specs.Requests.{type_of_metric}
use Rattle.plant_model.specs.Writing.{reply_message, no_path, busy}
use Rattle.plant_model.specs.Branches.{path_of, closed_branch, open_branch}
use Rattle.plant_model.specs.Element.{Item, Element, Taken, is_client}
use Rattle.plant_model.specs.Taking.{answered}
use Rattle.plant_model.specs.Solving.{client_reply, closed_paths, closed_reply, commit, free, issued_all, job_found}
use Rattle.plant_model.specs.Settings.{place}
use Rattle.plant_model.specs.Jobs.{entries_of}
use Rattle.plant_model.specs.Plant.{Pin, Segment}
use Rattle.plant_laws.specs.Transcript.{Visit, pinned, domains, keys_at}
use Rattle.plant_laws.specs.Ends.{End, goal_of}
use Rattle.plant_laws.specs.About.{HasNoneAlong, IsLeastPath}
use Rattle.plant_laws.specs.Replies.{AreRightful}
use Rattle.border_costs.proofs.Members.{contains_none, contains_head, contains_cases}
use Rattle.plant_laws.specs.Shown.{ShowsAlong}
use Rattle.disclosure.specs.declared.class.Class.TheVariants.{Client, Neighbour, Parent}
use Rattle.plant_laws.proofs.Least.Told.{apart}
use Rattle.plant_laws.proofs.Least.Ways.{IsWay}
use Rattle.plant_laws.proofs.Least.AllWays.{AreWays}
use Rattle.plant_laws.proofs.Least.Spoken.{closed_each, closed_every, one_said, reply_is, no_notice}
use Rattle.plant_laws.specs.Certified.{Tells}

abbrev pub has_paths : Answer → Bool
has_paths (Paths paths) = true
has_paths (NoPath nature vector) = false

-- what a reply is, of those that a solve makes
pub record IsReplyOf (held : Held (Item Pin)) (r : Reply) : Type 0 where
  pub flags : r.flags ≡ held.item.flags
  pub id : r.id ≡ held.key.id

module _ (c : Codec) (n : NetworkParts) (d : As) (k : ℕ) (held : Held (Item Pin)) (down : List Branch) (now : ℕ) (element : Element Pin Segment) (source_known target_known : Bool) (one : Visit) (chain : List Visit) (end : End) where
  abbrev w : Wanted
  w = held.item.wanted

  abbrev entries : List Addr
  entries = entries_of held.item.class w.source (pinned one.own one.at)

  abbrev made : List Best → Taken Pin Segment
  made best = commit c (place n d) (k, held) down now (λ b. b.segment) (job_found source_known target_known best) element

  abbrev closed : List Best → Taken Pin Segment
  closed best = closed_reply c (place n d) (k, held) down now (λ b. b.segment) element best

  -- a way is what its closed branch shows
  closed_path : (own : one.own ≡ d) (b : Best) → IsWay n w.query end w.target one chain down b → (key : Issued Segment) → Contains (keys_at one.solved) key → key.segment ≡ b.segment →
      IsLeastPath c n false (domains (one ∷ chain)) (one ∷ chain) end w b.entry (path_of c w.query.metric b.cost (closed_branch key.number (place n d).id w.target b down))
  closed_path own b way key is_key stands = record {
    legs = way.legs;
    last = way.last;
    least = way.least;
    metric = ap (λ (x : ℕ). let o : Option (ℕ × ℕ) = Some (type_of_metric w.query.metric, c.word x) in o) way.sum;
    shown = subst (λ (x : As). ShowsAlong n false w.query end (one ∷ chain) b.entry (closed_branch key.number (place n x).id w.target b down) way.legs way.last) own (way.closed key is_key stands);
  }

  abbrev Rightful : List Path → Type 0
  Rightful paths = AreRightful c n held.item.class (one ∷ chain) end w paths

  none_rightful : AreWays n w end one chain down entries [] → Rightful []
  none_rightful ways = record {
    each = λ path h. absurd (contains_none path h);
    every = λ e h. elim (ways.every e h) [ inl nowhere ↦ inl nowhere | inr row ↦ absurd (contains_none row.0 row.1) ];
  }

  abbrev told_paths : List Best → List Path
  told_paths best = closed_paths c (place n d).id w.query.metric w.target down element.keys.next best

  paths_rightful : (own : one.own ≡ d) (best : List Best) → 1 ≤ element.keys.life → keys_at one.solved ≡ (issued_all now (λ b. b.segment) best element.keys).issued → AreWays n w end one chain down entries best → Rightful (told_paths best)
  paths_rightful own best life keys ways = record {
    each = λ path h.
        let r = closed_each now c (place n d).id w.query.metric w.target down best element.keys life path h in
        let way = ways.each r.row r.is_row in (
          r.row.entry,
          way.0,
          subst (λ (x : Path). IsLeastPath c n false (domains (one ∷ chain)) (one ∷ chain) end w r.row.entry x) (sym r.is)
              (closed_path own r.row way.1 r.key (subst (λ (l : List (Issued Segment)). Contains l r.key) (sym keys) r.is_key) r.stands_for),
        );
    every = λ e h. elim (ways.every e h) [
      | inl nowhere ↦ inl nowhere
      | inr row ↦
          let r = closed_every now c (place n d).id w.query.metric w.target down best element.keys life row.0 row.1 in
          let way = ways.each row.0 row.1 in
          inr (
            path_of c w.query.metric row.0.cost (closed_branch r.key.number (place n d).id w.target row.0 down),
            r.is_path,
            subst (λ (x : Addr). IsLeastPath c n false (domains (one ∷ chain)) (one ∷ chain) end w x (path_of c w.query.metric row.0.cost (closed_branch r.key.number (place n d).id w.target row.0 down))) row.2
                (closed_path own row.0 way.1 r.key (subst (λ (l : List (Issued Segment)). Contains l r.key) (sym keys) r.is_key) r.stands_for),
          )
    ];
  }

  -- what is told to a closed peer
  abbrev Closes : Taken Pin Segment → Peer → Reply → List Path → Type 0
  Closes t p r paths = Contains t.outputs (record { to = p; message = messages.PcRep (r ∷ []) }) → Tells r.answer paths → keys_at one.solved ≡ t.element.keys.issued → IsReplyOf held r × (held.key.peer ≡ p) × Rightful paths

  closes_none : (p : Peer) (r : Reply) (paths : List Path) → AreWays n w end one chain down entries [] → Closes (closed []) p r paths
  closes_none p r paths ways said tells keys =
      let s = one_said held.key.peer p (reply_message held.item.flags held.key.id (NoPath 0 0)) r said in
      let is = reply_is (record { flags = held.item.flags; id = held.key.id; answer = NoPath 0 0 }) r s.1 in
      let t : Tells (NoPath 0 0) paths = subst (λ (a : Answer). Tells a paths) (ap (λ (x : Reply). x.answer) (sym is)) tells in
      (record { flags = ap (λ (x : Reply). x.flags) (sym is); id = ap (λ (x : Reply). x.id) (sym is) }, s.0, subst Rightful (sym t.1) (none_rightful ways))

  closes_some : (own : one.own ≡ d) (life : 1 ≤ element.keys.life) (p : Peer) (r : Reply) (paths : List Path) (b : Best) (bs : List Best) → AreWays n w end one chain down entries (b ∷ bs) → Closes (closed (b ∷ bs)) p r paths
  closes_some own life p r paths b bs ways = go (nat_lt (free now element.keys) (length (b ∷ bs)))
    where
      go : (full : Bool) → Closes (cond full (answered (k, held) (busy held.item.flags held.key.id) element)
          (answered (k, held) (reply_message held.item.flags held.key.id (Paths (told_paths (b ∷ bs)))) (record element { keys = issued_all now (λ x. x.segment) (b ∷ bs) element.keys }))) p r paths
      go true said tells keys = (let s = one_said held.key.peer p (busy held.item.flags held.key.id) r said in absurd (no_notice _ r s.1))
      go false said tells keys =
          let s = one_said held.key.peer p (reply_message held.item.flags held.key.id (Paths (told_paths (b ∷ bs)))) r said in
          let is = reply_is (record { flags = held.item.flags; id = held.key.id; answer = Paths (told_paths (b ∷ bs)) }) r s.1 in
          let t : Tells (Paths (told_paths (b ∷ bs))) paths = subst (λ (a : Answer). Tells a paths) (ap (λ (x : Reply). x.answer) (sym is)) tells in
          (record { flags = ap (λ (x : Reply). x.flags) (sym is); id = ap (λ (x : Reply). x.id) (sym is) }, s.0, subst Rightful t (paths_rightful own (b ∷ bs) life keys ways))

  pub closes : (own : one.own ≡ d) (life : 1 ≤ element.keys.life) (p : Peer) (r : Reply) (paths : List Path) (best : List Best) → is_client held.item.class ≡ false → AreWays n w end one chain down entries best → Closes (made best) p r paths
  closes own life p r paths best upper ways =
      subst (λ (b : Bool). Closes (cond b (answered (k, held) (client_reply c (k, held) down source_known target_known best) element) (closed best)) p r paths) (sym upper) (go best ways)
    where
      go : (bs : List Best) → AreWays n w end one chain down entries bs → Closes (closed bs) p r paths
      go [] ws = closes_none p r paths ws
      go (b ∷ bs) ws = closes_some own life p r paths b bs ws

  -- what is told to a client: the path of the source, or that there is none
  abbrev pub Opens : Reply → List Path → Type 0
  Opens r paths =
      ((path : Path) × (paths ≡ path ∷ []) × (has_paths r.answer ≡ true) × IsLeastPath c n true (domains (one ∷ chain)) (one ∷ chain) end w w.source path)
      ⊎ ((paths ≡ []) × (has_paths r.answer ≡ false) × HasNoneAlong w.query (domains (one ∷ chain)) w.source (goal_of end))

  only_source : (class : Class) → is_client class ≡ true → (e : Addr) → Contains (entries_of class w.source (pinned one.own one.at)) e → w.source ≡ e
  only_source (Client may) is e h = elim (contains_cases w.source [] e h) [ inl same ↦ same | inr none ↦ absurd (contains_none e none) ]
  only_source (Neighbour a) is e h = absurd (apart (sym is))
  only_source Parent is e h = absurd (apart (sym is))

  has_source : (class : Class) → is_client class ≡ true → Contains (entries_of class w.source (pinned one.own one.at)) w.source
  has_source (Client may) is = contains_head w.source []
  has_source (Neighbour a) is = absurd (apart (sym is))
  has_source Parent is = absurd (apart (sym is))

  open_path : (b : Best) → IsWay n w.query end w.target one chain down b → IsLeastPath c n true (domains (one ∷ chain)) (one ∷ chain) end w b.entry (path_of c w.query.metric b.cost (open_branch b down))
  open_path b way = record {
    legs = way.legs;
    last = way.last;
    least = way.least;
    metric = ap (λ (x : ℕ). let o : Option (ℕ × ℕ) = Some (type_of_metric w.query.metric, c.word x) in o) way.sum;
    shown = way.opened;
  }

  -- whether or not the ends are known nodes, nature 0 tells that there is none
  no_paths : (s t : Bool) (paths : List Path) → Tells (no_path s t) paths → paths ≡ []
  no_paths true true paths tells = tells.1
  no_paths true false paths tells = tells.1
  no_paths false true paths tells = tells.1
  no_paths false false paths tells = tells.1

  no_has : (s t : Bool) → has_paths (no_path s t) ≡ false
  no_has true true = refl
  no_has true false = refl
  no_has false true = refl
  no_has false false = refl

  pub opens : (p : Peer) (r : Reply) (paths : List Path) (best : List Best) → is_client held.item.class ≡ true → AreWays n w end one chain down entries best →
      Contains (made best).outputs (record { to = p; message = messages.PcRep (r ∷ []) }) → Tells r.answer paths → IsReplyOf held r × (held.key.peer ≡ p) × Opens r paths
  opens p r paths best client ways said tells =
      go best ways
      (subst (λ (b : Bool). Contains (cond b (answered (k, held) (client_reply c (k, held) down source_known target_known best) element) (closed best)).outputs (record { to = p; message = messages.PcRep (r ∷ []) })) client said)
    where
      from : (a : Answer) → Contains {X = Output} (record { to = held.key.peer; message = reply_message held.item.flags held.key.id a } ∷ []) (record { to = p; message = messages.PcRep (r ∷ []) }) →
          IsReplyOf held r × (held.key.peer ≡ p) × (r.answer ≡ a)
      from a h =
          let s = one_said held.key.peer p (reply_message held.item.flags held.key.id a) r h in
          let is = reply_is (record { flags = held.item.flags; id = held.key.id; answer = a }) r s.1 in
          (record { flags = ap (λ (x : Reply). x.flags) (sym is); id = ap (λ (x : Reply). x.id) (sym is) }, s.0, ap (λ (x : Reply). x.answer) (sym is))

      go : (bs : List Best) → AreWays n w end one chain down entries bs → Contains (answered (k, held) (client_reply c (k, held) down source_known target_known bs) element).outputs (record { to = p; message = messages.PcRep (r ∷ []) }) →
          IsReplyOf held r × (held.key.peer ≡ p) × Opens r paths
      go [] ws h =
          let f = from (no_path source_known target_known) h in (
            f.0,
            f.1,
            inr (
              no_paths source_known target_known paths (subst (λ (a : Answer). Tells a paths) f.2 tells),
              ap has_paths f.2 ∙ no_has source_known target_known,
              elim (ws.every w.source (has_source held.item.class client)) [ inl nowhere ↦ nowhere | inr row ↦ absurd (contains_none row.0 row.1) ],
            ),
          )
      go (b ∷ bs) ws h =
          let path = path_of c w.query.metric b.cost (open_branch b down) in
          let f = from (Paths (path ∷ [])) h in
          let way = ws.each b (contains_head b bs) in (
            f.0,
            f.1,
            inl (
              path,
              sym (subst (λ (a : Answer). Tells a paths) f.2 tells),
              ap has_paths f.2,
              subst (λ (x : Addr). IsLeastPath c n true (domains (one ∷ chain)) (one ∷ chain) end w x path) (sym (only_source held.item.class client b.entry way.0)) (open_path b way.1),
            ),
          )

  -- the one message of a solve goes to the asker
  pub goes_to : (p : Peer) (m : Message) (best : List Best) → Contains (made best).outputs (record { to = p; message = m }) → held.key.peer ≡ p
  goes_to p m best = pick (is_client held.item.class) (answered (k, held) (client_reply c (k, held) down source_known target_known best) element) (closed best) (single (client_reply c (k, held) down source_known target_known best) element) (go best)
    where
      pick : (b : Bool) (t u : Taken Pin Segment) → (Contains t.outputs (record { to = p; message = m }) → held.key.peer ≡ p) → (Contains u.outputs (record { to = p; message = m }) → held.key.peer ≡ p) →
          Contains (cond b t u).outputs (record { to = p; message = m }) → held.key.peer ≡ p
      pick true t u f g = f
      pick false t u f g = g

      single : (x : Message) (e : Element Pin Segment) → Contains (answered (k, held) x e).outputs (record { to = p; message = m }) → held.key.peer ≡ p
      single x e h = elim (contains_cases _ [] _ h) [ inl same ↦ ap (λ (o : Output). o.to) same | inr none ↦ absurd (contains_none _ none) ]

      go : (bs : List Best) → Contains (closed bs).outputs (record { to = p; message = m }) → held.key.peer ≡ p
      go [] = single (reply_message held.item.flags held.key.id (NoPath 0 0)) element
      go (b ∷ bs) = pick (nat_lt (free now element.keys) (length (b ∷ bs)))
          (answered (k, held) (busy held.item.flags held.key.id) element)
          (answered (k, held) (reply_message held.item.flags held.key.id (Paths (told_paths (b ∷ bs)))) (record element { keys = issued_all now (λ x. x.segment) (b ∷ bs) element.keys }))
          (single (busy held.item.flags held.key.id) element)
          (single (reply_message held.item.flags held.key.id (Paths (told_paths (b ∷ bs)))) (record element { keys = issued_all now (λ x. x.segment) (b ∷ bs) element.keys }))
