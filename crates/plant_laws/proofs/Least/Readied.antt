-- In every state of a run, the branches of a row that is ready are none, in the last domain, or those of a reply that was taken.
use Rattle.std.proofs.Common.{◌≡◌, ◌⊎◌, ℕ, Bool, true, false, cond, Option, Some, None, List, [], ◌∷◌, length, drop, map, inl, inr, sym, ◌∙◌, ap, subst, refl}
use Rattle.std.proofs.lemmas.Bool.{cases_Bool, eqb-true}
use Rattle.std.specs.Option.{option_map}
use Rattle.plant_model.specs.Types.{As, Peer, Outside, Inner, Message, RequestKey, NetworkParts, Held, Path, Reply, Wanted, Class, Branch}
use Rattle.te_links.specs.Rows.{Rows}
use Rattle.disclosure.specs.Shown.{open_of}
use Rattle.request_table.specs.Pending.{Pending, same_peer, same_key, NumbersRise, AreNamedOnce}
use Rattle.plant_model.specs.declared.output.Output.{Output}
use Rattle.plant_text.specs.Names.{same_as, parent_as}
use Rattle.plant_model.specs.Names.{the_parent, set_as}
use Rattle.plant_model.specs.Wire.{Codec}
use Rattle.plant_model.specs.Writing.{request_message}
use Rattle.plant_model.specs.Element.{Stage, Waits, Ready, Item, Element, Row, upped, downed, at_stage, waits_for, waiting, sent_through, ElementSettings}
use Rattle.plant_model.specs.Taking.{take}
use Rattle.plant_model.specs.Solving.{commit, job_found}
use Rattle.plant_model.specs.Parent as parent
use Rattle.plant_text.specs.Settings.{class_of}
use Rattle.plant_model.specs.Settings.{place, family}
use Rattle.plant_model.specs.State.{State, Takes}
use Rattle.plant_model.specs.Deeds.{own_message, with_parent, with_element, rise}
use Rattle.plant_model.specs.Plant.{Pin, Segment, Plant, PlantDeed, Entry, Run, deeds_of, first_pin}
use Rattle.plant_laws.specs.Transcript.{Transcript, effect, opened, SentIn, Within}
use Rattle.plant_laws.proofs.Runs.Queues.{same_as_is}
use Rattle.plant_laws.proofs.Runs.Rows.{In, seen_in}
use Rattle.plant_laws.proofs.Once.Opened.{AreSingle, Holds, puts_elements, set_pending, single_deed}
use Rattle.plant_laws.proofs.Once.DeedByDeed.{Does, takes_above, takes_below, downs_above, downs_below, ups_above, ups_below, solves_above, solves_below, pops, hands_out, says_own, clears_link, expires_at, loads_rows, ComesAs, run_singles}
use Rattle.plant_model.specs.Events as events
use Rattle.plant_laws.proofs.Numbering.SentOn.{IsRest}
use Rattle.std.specs.Prelude.{◌==◌}
use Rattle.pcep_messages.specs.declared.message.Message.TheVariants as messages
use Rattle.request_table.proofs.KeyLemmas.{same_key_is}
use Rattle.plant_model.specs.Branches.{branches_in}
use Rattle.plant_model.specs.Outside.{heeded, heeded_by}
use Rattle.plant_laws.proofs.Runs.Moments.{peer_is}
use Rattle.plant_laws.proofs.Settled.Waits.{Both, SentAt, still, is_open, both_same, does_both, bare_both}
use Rattle.plant_laws.proofs.Least.RowsKept.{IsFresh, take_keeps, downed_keeps, commit_keeps}
use Rattle.plant_laws.proofs.Runs.TablesKept as table
use Rattle.plant_laws.proofs.Runs.TakesKept.{replies_of}
use Rattle.plant_laws.specs.Ends.{Tells, IsHeeded}
use Rattle.plant_laws.specs.Waiting.{wait_alike}
use Rattle.plant_laws.proofs.Runs.Seen.{seen}
use Rattle.plant_laws.proofs.Once.ElementSteps.{waiting_in}

-- a row made ready by a reply
pub record IsMade (c : Codec) (p : Peer) (rs : List Reply) (i j : Item Pin) : Type 0 where
  pub reply : Reply
  pub is_reply : In reply rs
  pub upper : same_peer p the_parent ≡ false
  pub waits : waits_for p reply.id i.stage ≡ true
  pub paths : List Path
  pub tells : Tells reply.answer paths
  pub is : j ≡ at_stage (Ready (branches_in c i.wanted.query.metric paths)) i

-- the branches came with a reply to what was sent on
pub record IsBack (c : Codec) (n : NetworkParts) (ds : Transcript) (d : As) (h : Row Pin) (down : List Branch) : Type 0 where
  pub at : Transcript
  pub is_open : opened c d h.1.key.peer h.1.key.id ds ≡ Some at
  pub on : Peer
  pub id : ℕ
  pub rest : List As
  pub sent : SentIn at d on (request_message id h.1.item.wanted h.1.item.wanted.target rest)
  pub goes : IsRest (place n d).routes h.1.item.sequence rest on
  pub upper : same_peer on the_parent ≡ false
  pub replies : List Reply
  pub outputs : List Output
  pub before : Transcript
  pub within : Within (Takes d on (messages.PcRep replies) outputs ∷ before) ds
  pub reply : Reply
  pub is_reply : In reply replies
  pub heeded : IsHeeded c on (length rest) reply
  pub same : reply.id ≡ id
  pub paths : List Path
  pub tells : Tells reply.answer paths
  pub is : down ≡ branches_in c h.1.item.wanted.query.metric paths

differs : true ≡ false → ⊥
differs e = cc

-- a reply of an outside peer is what the element heeds of what it said, by the rows that it had
abbrev pub Heeds : Codec → Peer → List (Row Pin) → Reply → Type 0
Heeds c (Inner b) rows r = Unit {0}
Heeds c (Outside i) rows r = (said : Reply) × (r ≡ heeded_by c (sent_through (Outside i) r.id rows) said)

module _ (c : Codec) (old : List (Row Pin)) (p : Peer) (rs : List Reply) where
  abbrev pub FromOld : Held (Item Pin) → Type 0
  FromOld h =
      ((h0 : Row Pin) × In h0 old × (h.key ≡ h0.1.key) × (h.item ≡ h0.1.item))
      ⊎ ((h0 : Row Pin) × In h0 old × (h.key ≡ h0.1.key) × IsMade c p rs h0.1.item h.item)
      ⊎ ((rs ≡ []) × IsFresh h.item.sequence h.item.stage)

  pub none_in : (r : Reply) → rs ≡ [] → In r rs → ⊥
  none_in r none i = subst (λ (l : List Reply). In r l) none i

  pub no_wait : (r : Reply) (i : Item Pin) (bs : List Branch) (j : Item Pin) → j ≡ at_stage (Ready bs) i → waits_for p r.id j.stage ≡ true → ⊥
  no_wait r i bs j is waits = differs (sym (subst (λ (x : Item Pin). waits_for p r.id x.stage ≡ true) is waits))

  pub made_ready : (h : Held (Item Pin)) (r : Reply) (paths : List Path) → In r rs → same_peer p the_parent ≡ false → waits_for p r.id h.item.stage ≡ true → Tells r.answer paths → FromOld h →
      FromOld (record h { item = at_stage (Ready (branches_in c h.item.wanted.query.metric paths)) h.item })
  made_ready h r paths i upper waits tells (inl q) =
      inr (inl (
        q.0,
        q.1,
        q.2,
        record {
          reply = r;
          is_reply = i;
          upper = upper;
          waits = subst (λ (x : Item Pin). waits_for p r.id x.stage ≡ true) q.3 waits;
          paths = paths;
          tells = tells;
          is = ap (λ (x : Item Pin). at_stage (Ready (branches_in c x.wanted.query.metric paths)) x) q.3;
        },
      ))
  made_ready h r paths i upper waits tells (inr (inl q)) = absurd (no_wait r q.0.1.item (branches_in c q.0.1.item.wanted.query.metric q.3.paths) h.item q.3.is waits)
  made_ready h r paths i upper waits tells (inr (inr q)) = absurd (none_in r q.0 i)

  -- rows as they were
  pub as_old : (xs : List (Row Pin)) → ((h : Row Pin) → In h xs → In h old) → table.Rows FromOld xs
  as_old xs within = table.rows_in FromOld xs (λ h i. inl (h, within h i, refl, refl))

-- what is heeded
module _ (c : Codec) where
  same_name : (o : Option ℕ) (r : Reply) → (heeded_by c o r).id ≡ r.id
  same_name None r = refl
  same_name (Some domains) r = refl

  heeds_in : (sent : ℕ → Option ℕ) (rs : List Reply) (r : Reply) → In r (map (λ (x : Reply). heeded_by c (sent x.id) x) rs) → (said : Reply) × (r ≡ heeded_by c (sent r.id) said)
  heeds_in sent [] r none = absurd none
  heeds_in sent (x ∷ xs) r (inl same) =
      (x, subst (λ (z : Reply). z ≡ heeded_by c (sent z.id) x) same (ap (λ (y : ℕ). heeded_by c (sent y) x) (sym (same_name (sent x.id) x))))
  heeds_in sent (x ∷ xs) r (inr more) = heeds_in sent xs r more

  pub heeds_of : (i : ℕ) (rows : List (Row Pin)) (m : Message) (r : Reply) → In r (replies_of (heeded c (Outside i) rows m)) → Heeds c (Outside i) rows r
  heeds_of i rows (messages.PcRep replies) r there = heeds_in (λ id. sent_through (Outside i) id rows) replies r there
  heeds_of i rows (messages.PcReq asks) r none = absurd none
  heeds_of i rows (messages.PcNtf notices) r none = absurd none
  heeds_of i rows (messages.PcErr reports) r none = absurd none
  heeds_of i rows (messages.Open body) r none = absurd none
  heeds_of i rows messages.Keepalive r none = absurd none
  heeds_of i rows (messages.Close why) r none = absurd none
  heeds_of i rows (messages.Other kind) r none = absurd none

  pub as_heeded : (p : Peer) (rows : List (Row Pin)) (r : Reply) (domains : ℕ) → Heeds c p rows r → sent_through p r.id rows ≡ Some domains → IsHeeded c p domains r
  as_heeded (Inner b) rows r domains heeds through = tt
  as_heeded (Outside i) rows r domains heeds through = (heeds.0, heeds.1 ∙ ap (λ (o : Option ℕ). heeded_by c o heeds.0) through)

-- the row that waits for an id of a peer
at_waits : (g : Stage) (p : Peer) (y : ℕ) → waits_for p y g ≡ true → g ≡ Waits p y
at_waits (Ready bs) p y e = absurd (differs (sym e))
at_waits (Waits on id) p y e = go (same_peer on p) refl e
  where
    go : (b : Bool) → same_peer on p ≡ b → cond b (id == y) false ≡ true → Waits on id ≡ Waits p y
    go true is hit = ap (λ (q : Peer). Waits q id) (peer_is on p is) ∙ ap (λ (x : ℕ). Waits p x) (eqb-true id y hit)
    go false is hit = absurd (differs (sym hit))

first_waiting : (p : Peer) (y : ℕ) (rows : List (Row Pin)) (h : Row Pin) → In h rows → waits_for p y h.1.item.stage ≡ true → (g : Row Pin) × (waiting p y rows ≡ Some g)
first_waiting p y [] h none waits = absurd none
first_waiting p y (row ∷ rows) h there waits = elim (cases_Bool (waits_for p y row.1.item.stage)) [
  | inl hit ↦ (row, rw hit refl)
  | inr miss ↦ elim there [
    | inl same ↦ absurd (differs (sym (subst (λ (z : Row Pin). waits_for p y z.1.item.stage ≡ true) (sym same) waits) ∙ miss))
    | inr more ↦ (let rest = first_waiting p y rows h more waits in (rest.0, rw miss rest.1))
  ]
]

-- rows of one request have one sequence
one_sequence : (rows : List (Row Pin)) (h g : Row Pin) → AreNamedOnce rows → In h rows → In g rows → h.1.key ≡ g.1.key → h.1.item.sequence ≡ g.1.item.sequence
one_sequence rows h g once i j key =
    let f : Item Pin → List As = λ z. z.sequence in
    let some : Some h.1.item.sequence ≡ Some g.1.item.sequence = sym (seen_in f rows h once i) ∙ ap (λ (k : RequestKey). seen f k rows) key ∙ seen_in f rows g once j in
    cc

-- the rows of an element after it took a message
module _ (c : Codec) (k : Element Pin Segment) (numbers : NumbersRise 0 k.pending.rows k.pending.given) (p : Peer) where
  abbrev From : List Reply → Held (Item Pin) → Type 0
  From rs = FromOld c k.pending.rows p rs

  begins : (rs : List Reply) → table.Keeps (From rs) k.pending
  begins rs = record { rise = numbers; rows = as_old c k.pending.rows p rs k.pending.rows (λ h i. i) }

  pub take_from : (e : ElementSettings) (pin : Pin) (class : Class) (now : ℕ) (m : Message) (h : Row Pin) → In h (take c open_of e pin p class now m k).element.pending.rows → From (replies_of m) h.1
  take_from e pin class now m h i =
      table.in_rows (From (replies_of m)) h (take c open_of e pin p class now m k).element.pending.rows
      (take_keeps (From (replies_of m)) c e pin p class open_of now m (λ none a r w is wish sequence stage fresh. inr (inr (none, fresh))) (made_ready c k.pending.rows p (replies_of m)) k (begins (replies_of m))).rows i

  pub downed_from : (q : Peer) (h : Row Pin) → In h (downed q k).element.pending.rows → From [] h.1
  downed_from q h i = table.in_rows (From []) h (downed q k).element.pending.rows (downed_keeps (From []) q k (begins [])).rows i

  pub commit_from : (e : ElementSettings) (row : Row Pin) (down : List Branch) (now : ℕ) (s t : Bool) (best : List _) (h : Row Pin) → In h (commit c e row down now (λ b. b.segment) (job_found s t best) k).element.pending.rows → From [] h.1
  commit_from e row down now s t best h i =
      table.in_rows (From []) h (commit c e row down now (λ b. b.segment) (job_found s t best) k).element.pending.rows
      (commit_keeps (From []) c e row down now (λ b. b.segment) s t best k (begins [])).rows i

module _ (c : Codec) (n : NetworkParts) where
  abbrev Core : Type 0
  Core = State Pin Segment

  abbrev pub ReadyAt : Transcript → As → Row Pin → Stage → Type 0
  ReadyAt ds d h (Waits b y) = Unit {0}
  ReadyAt ds d h (Ready down) = IsFresh h.1.item.sequence (Ready down) ⊎ IsBack c n ds d h down

  abbrev pub AreReady : Transcript → Core → Type 0
  AreReady ds s = (d : As) (h : Row Pin) → In h (s.elements d).pending.rows → ReadyAt ds d h h.1.item.stage

  -- where a row comes from, by a deed
  abbrev ComesFrom : PlantDeed → Core → As → Row Pin → Type 0
  ComesFrom e s d h =
      ((h0 : Row Pin) × In h0 (s.elements d).pending.rows × (h.1.key ≡ h0.1.key) × (h.1.item ≡ h0.1.item))
      ⊎ ((h0 : Row Pin) × In h0 (s.elements d).pending.rows × (h.1.key ≡ h0.1.key) × ((p : Peer) × (rs : List Reply) × (os : List Output) × (e ≡ Takes d p (messages.PcRep rs) os) × IsMade c p rs h0.1.item h.1.item × ((r : Reply) → In r rs → Heeds c p (s.elements d).pending.rows r)))
      ⊎ IsFresh h.1.item.sequence h.1.item.stage

  open_still : (e : PlantDeed) (ds : Transcript) (d : As) (h h0 : Row Pin) (at at' : Transcript) → h.1.key ≡ h0.1.key → opened c d h0.1.key.peer h0.1.key.id ds ≡ Some at → opened c d h.1.key.peer h.1.key.id (e ∷ ds) ≡ Some at' →
      opened c d h.1.key.peer h.1.key.id (e ∷ ds) ≡ Some at
  open_still e ds d h h0 at at' key was is =
      still (effect c d h.1.key.peer h.1.key.id e) (opened c d h.1.key.peer h.1.key.id ds) (e ∷ ds) at at' (ap (λ (k : RequestKey). opened c d k.peer k.id ds) key ∙ was) is

  older_ready : (e : PlantDeed) (ds : Transcript) (d : As) (h h0 : Row Pin) (at' : Transcript) → h.1.key ≡ h0.1.key → h.1.item ≡ h0.1.item → opened c d h.1.key.peer h.1.key.id (e ∷ ds) ≡ Some at' →
      (stage : Stage) → ReadyAt ds d h0 stage → ReadyAt (e ∷ ds) d h stage
  older_ready e ds d h h0 at' key item is (Waits b y) r = tt
  older_ready e ds d h h0 at' key item is (Ready down) (inl fresh) = inl (subst (λ (i : Item Pin). IsFresh i.sequence (Ready down)) (sym item) fresh)
  older_ready e ds d h h0 at' key item is (Ready down) (inr b) = inr (record {
    at = b.at;
    is_open = open_still e ds d h h0 b.at at' key b.is_open is;
    on = b.on;
    id = b.id;
    rest = b.rest;
    sent = subst (λ (i : Item Pin). SentIn b.at d b.on (request_message b.id i.wanted i.wanted.target b.rest)) (sym item) b.sent;
    goes = subst (λ (i : Item Pin). IsRest (place n d).routes i.sequence b.rest b.on) (sym item) b.goes;
    upper = b.upper;
    replies = b.replies;
    outputs = b.outputs;
    before = b.before;
    within = inr b.within;
    reply = b.reply;
    is_reply = b.is_reply;
    heeded = b.heeded;
    same = b.same;
    paths = b.paths;
    tells = b.tells;
    is = subst (λ (i : Item Pin). down ≡ branches_in c i.wanted.query.metric b.paths) (sym item) b.is;
  })

  pub waits_both : (a b : Bool) → cond a b false ≡ true → (a ≡ true) × (b ≡ true)
  waits_both true b is = (refl, is)
  waits_both false b is = absurd (differs (sym is))

  -- through how many domains it was sent on
  through : (ds : Transcript) (s : Core) → Both c n ds s → (d : As) (h : Row Pin) → In h (s.elements d).pending.rows → (p : Peer) (y : ℕ) → waits_for p y h.1.item.stage ≡ true →
      sent_through p y (s.elements d).pending.rows ≡ Some (length (drop 1 h.1.item.sequence))
  through ds s both d h i p y waits =
      let rows = (s.elements d).pending.rows in
      let first = first_waiting p y rows h i waits in
      let g = first.0 in
      let other = waiting_in Pin Segment p y rows g first.1 in
      let sequence : g.1.item.sequence ≡ h.1.item.sequence = elim (cases_Bool (same_key g.1.key h.1.key)) [
        | inl same ↦ one_sequence rows g h (both.0.elements d).names other.0 i (same_key_is g.1.key h.1.key same)
        | inr differ ↦ absurd (alike g.1.item.stage h.1.item.stage (at_waits g.1.item.stage p y other.1) (at_waits h.1.item.stage p y waits) waits (both.1.1 d g h other.0 i differ))
      ] in
      ap (λ (o : Option (Row Pin)). option_map (λ (z : Row Pin). length (drop 1 z.1.item.sequence)) o) first.1 ∙ ap (λ (l : List As). let o : Option ℕ = Some (length (drop 1 l)) in o) sequence
    where
      alike : (a b : Stage) → a ≡ Waits p y → b ≡ Waits p y → waits_for p y b ≡ true → wait_alike a b ≡ false → ⊥
      alike a b is is' waits' apart =
          let one : waits_for p y (Waits p y) ≡ true = subst (λ (z : Stage). waits_for p y z ≡ true) is' waits' in
          let two : wait_alike (Waits p y) (Waits p y) ≡ false = subst (λ (z : Stage). wait_alike z (Waits p y) ≡ false) is (subst (λ (z : Stage). wait_alike a z ≡ false) is' apart) in
          differs (sym one ∙ two)

  behind_rest : (d : As) (sequence rest : List As) (on : Peer) → IsRest (place n d).routes sequence rest on → length (drop 1 sequence) ≡ length rest
  behind_rest d sequence rest on (inl up) = ap (λ (l : List As). length (drop 1 l)) up.0 ∙ sym (ap (λ (l : List As). length l) up.1)
  behind_rest d sequence rest on (inr along) = ap (λ (l : List As). length (drop 1 l)) along.3

  made_back : (e : PlantDeed) (ds : Transcript) (d : As) (h h0 : Row Pin) (at' : Transcript) → h.1.key ≡ h0.1.key → opened c d h.1.key.peer h.1.key.id (e ∷ ds) ≡ Some at' →
      (p : Peer) (rs : List Reply) (os : List Output) → e ≡ Takes d p (messages.PcRep rs) os → (m : IsMade c p rs h0.1.item h.1.item) → IsHeeded c p (length (drop 1 h0.1.item.sequence)) m.reply →
      (stage : Stage) → waits_for p m.reply.id stage ≡ true → SentAt c n ds d h0 stage → IsBack c n (e ∷ ds) d h (branches_in c h0.1.item.wanted.query.metric m.paths)
  made_back e ds d h h0 at' key is p rs os deed m heeds (Ready bs) waits sent = absurd (differs (sym waits))
  made_back e ds d h h0 at' key is p rs os deed m heeds (Waits on id) waits sent =
      let both = waits_both (same_peer on p) (id == m.reply.id) waits in
      let to : on ≡ p = peer_is on p both.0 in
      let ids : id ≡ m.reply.id = eqb-true id m.reply.id both.1 in
      let wanted : h.1.item.wanted ≡ h0.1.item.wanted = ap (λ (i : Item Pin). i.wanted) m.is in
      let sequence : h.1.item.sequence ≡ h0.1.item.sequence = ap (λ (i : Item Pin). i.sequence) m.is in
      record {
        at = sent.0;
        is_open = open_still e ds d h h0 sent.0 at' key sent.1 is;
        on = on;
        id = id;
        rest = sent.2.0;
        sent = subst (λ (w : Wanted). SentIn sent.0 d on (request_message id w w.target sent.2.0)) (sym wanted) sent.2.1;
        goes = subst (λ (l : List As). IsRest (place n d).routes l sent.2.0 on) (sym sequence) sent.2.2;
        upper = subst (λ (x : Peer). same_peer x the_parent ≡ false) (sym to) m.upper;
        replies = rs;
        outputs = os;
        before = ds;
        within = inl (ap (λ (z : PlantDeed). z ∷ ds) (sym (deed ∙ ap (λ (x : Peer). Takes d x (messages.PcRep rs) os) (sym to))));
        reply = m.reply;
        is_reply = m.is_reply;
        heeded = subst (λ (x : Peer). IsHeeded c x (length sent.2.0) m.reply) (sym to) (subst (λ (k : ℕ). IsHeeded c p k m.reply) (behind_rest d h0.1.item.sequence sent.2.0 on sent.2.2) heeds);
        same = sym ids;
        paths = m.paths;
        tells = m.tells;
        is = ap (λ (w : Wanted). branches_in c w.query.metric m.paths) (sym wanted);
      }

  fresh_ready : (ds : Transcript) (d : As) (h : Row Pin) (stage : Stage) → IsFresh h.1.item.sequence stage → ReadyAt ds d h stage
  fresh_ready ds d h (Waits b y) fresh = tt
  fresh_ready ds d h (Ready down) fresh = inl fresh

  pub ready_after : (e : PlantDeed) (ds : Transcript) (s t : Core) → Both c n ds s → AreReady ds s → Holds c n (e ∷ ds) t → ((d : As) (h : Row Pin) → In h (t.elements d).pending.rows → ComesFrom e s d h) → AreReady (e ∷ ds) t
  ready_after e ds s t both ready next comes d h i =
      let o = is_open c n (e ∷ ds) t next d h i in
      elim (comes d h i) [
        | inl old ↦
            subst (λ (stage : Stage). ReadyAt (e ∷ ds) d h stage) (sym (ap (λ (j : Item Pin). j.stage) old.3))
            (older_ready e ds d h old.0 o.1.0 old.2 old.3 o.1.1 old.0.1.item.stage (ready d old.0 old.1))
        | inr (inl made) ↦
            let m = made.3.4 in
            subst (λ (stage : Stage). ReadyAt (e ∷ ds) d h stage) (sym (ap (λ (j : Item Pin). j.stage) m.is))
            (inr (made_back e ds d h made.0 o.1.0 made.2 o.1.1 made.3.0 made.3.1 made.3.2 made.3.3 m
            (as_heeded c made.3.0 (s.elements d).pending.rows m.reply (length (drop 1 made.0.1.item.sequence)) (made.3.5 m.reply m.is_reply) (through ds s both d made.0 made.1 made.3.0 m.reply.id m.waits))
            made.0.1.item.stage m.waits (both.1.0 d made.0 made.1)))
        | inr (inr fresh) ↦ fresh_ready (e ∷ ds) d h h.1.item.stage fresh
      ]

  pub stay : (e : PlantDeed) (s t : Core) → ((d : As) → (t.elements d).pending ≡ (s.elements d).pending) → (d : As) (h : Row Pin) → In h (t.elements d).pending.rows → ComesFrom e s d h
  stay e s t same d h i = inl (h, subst (λ (q : Pending (Item Pin)). In h q.rows) (same d) i, refl, refl)

  come : (e : PlantDeed) (at : As) (k : Element Pin Segment) (s t : Core) → t.elements ≡ set_as at k s.elements → ((h : Row Pin) → In h k.pending.rows → ComesFrom e s at h) →
      (d : As) (h : Row Pin) → In h (t.elements d).pending.rows → ComesFrom e s d h
  come e at k s t same one d h i = go (same_as at d) refl (subst (λ (q : Pending (Item Pin)). In h q.rows) (ap (λ (f : As → Element Pin Segment). (f d).pending) same ∙ set_pending c n at d k s) i)
    where
      go : (b : Bool) → same_as at d ≡ b → In h (cond b k.pending (s.elements d).pending).rows → ComesFrom e s d h
      go true is j = subst (λ z. ComesFrom e s z h) (same_as_is at d is) (one h j)
      go false is j = inl (h, j, refl, refl)

  -- without replies none is made ready
  silent_comes : (at : As) (s : Core) (p : Peer) (m : Message) (os : List Output) (h : Row Pin) → FromOld c (s.elements at).pending.rows p [] h.1 → ComesFrom (Takes at p m os) s at h
  silent_comes at s p m os h (inl q) = inl q
  silent_comes at s p m os h (inr (inl q)) = absurd q.3.is_reply
  silent_comes at s p m os h (inr (inr q)) = inr (inr q.1)

  quiet_comes : (e : PlantDeed) (at : As) (s : Core) (p : Peer) (h : Row Pin) → FromOld c (s.elements at).pending.rows p [] h.1 → ComesFrom e s at h
  quiet_comes e at s p h (inl q) = inl q
  quiet_comes e at s p h (inr (inl q)) = absurd q.3.is_reply
  quiet_comes e at s p h (inr (inr q)) = inr (inr q.1)

  take_comes : (at : As) (s : Core) (p : Peer) (m : Message) (os : List Output) → ((r : Reply) → In r (replies_of m) → Heeds c p (s.elements at).pending.rows r) → (h : Row Pin) → FromOld c (s.elements at).pending.rows p (replies_of m) h.1 → ComesFrom (Takes at p m os) s at h
  take_comes at s p (messages.PcRep rs) os heeds h (inl q) = inl q
  take_comes at s p (messages.PcRep rs) os heeds h (inr (inl q)) = inr (inl (q.0, q.1, q.2, (p, rs, os, refl, q.3, heeds)))
  take_comes at s p (messages.PcRep rs) os heeds h (inr (inr q)) = inr (inr q.1)
  take_comes at s p (messages.PcReq asks) os heeds h q = silent_comes at s p (messages.PcReq asks) os h q
  take_comes at s p (messages.PcNtf notices) os heeds h q = silent_comes at s p (messages.PcNtf notices) os h q
  take_comes at s p (messages.PcErr reports) os heeds h q = silent_comes at s p (messages.PcErr reports) os h q
  take_comes at s p (messages.Open body) os heeds h q = silent_comes at s p (messages.Open body) os h q
  take_comes at s p messages.Keepalive os heeds h q = silent_comes at s p messages.Keepalive os h q
  take_comes at s p (messages.Close why) os heeds h q = silent_comes at s p (messages.Close why) os h q
  take_comes at s p (messages.Other kind) os heeds h q = silent_comes at s p (messages.Other kind) os h q

  abbrev pub All : Transcript → Core → Type 0
  All ds s = Both c n ds s × AreReady ds s

  pub numbers : (ds : Transcript) (s : Core) → Both c n ds s → (d : As) → NumbersRise 0 (s.elements d).pending.rows (s.elements d).pending.given
  numbers ds s both d = (both.0.elements d).numbers

  pub ready_same : (ds : Transcript) (s t : Core) → t.elements ≡ s.elements → AreReady ds s → AreReady ds t
  ready_same ds s t same ready = subst (λ (f : As → Element Pin Segment). (d : As) (h : Row Pin) → In h (f d).pending.rows → ReadyAt ds d h h.1.item.stage) (sym same) ready

  -- elements' rows are as before
  as_before : (e : PlantDeed) (s t : Core) → t.elements ≡ s.elements → (d : As) (h : Row Pin) → In h (t.elements d).pending.rows → ComesFrom e s d h
  as_before e s t same = stay e s t (λ d. ap (λ (f : As → Element Pin Segment). (f d).pending) same)

  heeds : (at : As) (p : Peer) (m : Message) (s : Core) → ComesAs c n at p m s → (r : Reply) → In r (replies_of m) → Heeds c p (s.elements at).pending.rows r
  heeds at (Inner b) m s heard = λ r i. tt
  heeds at (Outside i) m s heard =
      subst (λ (z : Message). (r : Reply) → In r (replies_of z) → Heeds c (Outside i) (s.elements at).pending.rows r) (sym heard.1) (heeds_of c i (s.elements at).pending.rows heard.0)

  comes_of : (s t : Core) (ds : Transcript) (e : PlantDeed) → Does c n s e t → single_deed e → Both c n ds s → (d : As) (h : Row Pin) → In h (t.elements d).pending.rows → ComesFrom e s d h
  comes_of s t ds e (takes_above at p m s' up) one both = as_before e s t (let r = parent.take c (family n) p m s.parent in puts_elements c n at r.outputs (with_parent Pin Segment c n open_of r.parent s))
  comes_of s t ds e (takes_below at p m s' low heard) one both =
      let r = take c open_of (place n at) (s.current at) p (class_of n p) s.clock m (s.elements at) in
      come e at r.element s t (puts_elements c n at r.outputs (with_element Pin Segment c n open_of at r.element s))
      (λ h i. take_comes at s p m r.outputs (heeds at p m s heard) h (take_from c (s.elements at) (numbers ds s both at) p (place n at) (s.current at) (class_of n p) s.clock m h i))
  comes_of s t ds e (downs_above at p s' up) one both = as_before e s t (let r = parent.downed p s.parent in puts_elements c n at r.outputs (with_parent Pin Segment c n open_of r.parent s))
  comes_of s t ds e (downs_below at p s' low) one both =
      let r = downed p (s.elements at) in
      come e at r.element s t (puts_elements c n at r.outputs (with_element Pin Segment c n open_of at r.element s)) (λ h i. quiet_comes e at s p h (downed_from c (s.elements at) (numbers ds s both at) p p h i))
  comes_of s t ds e (ups_above at p s' up) one both = as_before e s t refl
  comes_of s t ds e (ups_below at p s' low) one both = come e at (upped p (s.elements at)) s t refl (λ h i. inl (h, i, refl, refl))
  comes_of s t ds e (solves_above k h s' x) one both =
      let r = parent.commit c (k, x.held) x.answer s.parent in
      as_before e s t (puts_elements c n parent_as r.outputs (with_parent Pin Segment c n open_of r.parent s))
  comes_of s t ds e (solves_below d k h s' x) one both =
      let r = commit c (place n d) (k, x.held) x.down s.clock (λ b. b.segment) (job_found x.rows.source_known x.rows.target_known x.rows.best) (s.elements d) in
      come e d r.element s t (puts_elements c n d r.outputs (with_element Pin Segment c n open_of d r.element s))
      (λ g i. quiet_comes e d s the_parent g (commit_from c (s.elements d) (numbers ds s both d) the_parent (place n d) (k, x.held) x.down s.clock x.rows.source_known x.rows.target_known x.rows.best g i))
  comes_of s t ds e (says_own at p o s') one both = as_before e s t (puts_elements c n at (record { to = p; message = own_message o } ∷ []) s)
  comes_of s t ds e (loads_rows d g s') one both = stay e s t (λ d'. refl)
  comes_of s t ds e _ one both = stay e s t (λ d. refl)

  pub all_same : (ds : Transcript) (s t : Core) → t.elements ≡ s.elements → t.parent ≡ s.parent → t.current ≡ s.current → All ds s → All ds t
  all_same ds s t elements above current all = (both_same c n ds s t elements above current all.0, ready_same ds s t elements all.1)

  pub does_all : (ds : Transcript) (s t : Core) (e : PlantDeed) → Does c n s e t → single_deed e → All ds s → All (e ∷ ds) t
  does_all ds s t e does one all =
      let both = does_both c n ds s t e does one all.0 in
      (both, ready_after e ds s t all.0 all.1 both.0 (comes_of s t ds e does one all.0))

  pub bare_all : AreSingle [] → All [] (events.bare Pin Segment c n open_of first_pin)
  bare_all single = (bare_both c n single, (λ d h none. absurd none))

  pub run_ready : (es : List Entry) (s : Plant) → Run c n es s → AreSingle (deeds_of c n es) → (Both c n (deeds_of c n es) s) × AreReady (deeds_of c n es) s
  run_ready = run_singles c n All all_same does_all bare_all
