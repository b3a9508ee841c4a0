-- What the messages of a solve say: to a closed peer a path for each best row, behind a key that was issued for its segment.
use Rattle.std.proofs.Common.{◌≡◌, ◌+◌, ◌≤◌, ℕ, Bool, true, false, cond, List, [], ◌∷◌, filter, sym, ◌∙◌, ap, subst, inl, inr, refl, arith}
use Rattle.std.specs.Prelude.{Contains}
use Rattle.std.proofs.lemmas.Bool.{lt-ltb}
use Rattle.std.proofs.lemmas.List.Elements.{Contains-append_left, Contains-append_right}
use Rattle.plant_model.specs.Types.{Addr, Peer, Metric, Path, Reply, Message, Issued, Best, Branch}
use Rattle.pcep_messages.specs.declared.message.Message.TheVariants as messages
use Rattle.path_keys.specs.Keys.{Keys, is_live, live_at, issue_of}
use Rattle.plant_model.specs.declared.output.Output.{Output}
use Rattle.plant_model.specs.Wire.{Codec}
use Rattle.plant_model.specs.Branches.{closed_branch, path_of}
use Rattle.plant_model.specs.Solving.{closed_paths, issued_all}
use Rattle.plant_model.specs.Plant.{Segment}
use Rattle.border_costs.proofs.Members.{contains_none, contains_head, contains_tail, contains_cases}

pub kept_by : {X : Type 0} (test : X → Bool) (xs : List X) (x : X) → test x ≡ true → Contains xs x → Contains (filter test xs) x
kept_by test [] x is h = h
kept_by test (y ∷ ys) x is h = elim (contains_cases y ys x h) [
  | inl same ↦
      subst (λ (b : Bool). Contains (cond b (y ∷ filter test ys) (filter test ys)) x) (sym (ap test same ∙ is))
      (subst (λ (z : _). Contains (y ∷ filter test ys) z) same (contains_head y (filter test ys)))
  | inr inside ↦ go (test y) (kept_by test ys x is inside)
]
  where
    go : (b : Bool) → Contains (filter test ys) x → Contains (cond b (y ∷ filter test ys) (filter test ys)) x
    go true k = contains_tail y (filter test ys) x k
    go false k = k

abbrev stands : Best → Segment
stands b = b.segment

module _ (now : ℕ) where
  -- a key of this tick stays while more are issued
  issued_stays : (bs : List Best) (keys : Keys Segment) (x : Issued Segment) → x.at.0 ≡ now → 1 ≤ keys.life → Contains keys.issued x → Contains (issued_all now stands bs keys).issued x
  issued_stays [] keys x at life h = h
  issued_stays (b ∷ bs) keys x at life h =
      let live : is_live keys.life now x ≡ true = lt-ltb now (x.at.0 + keys.life) (omega (arith, at, life)) in
      issued_stays bs (issue_of keys now (stands b)) x at life (Contains-append_left (live_at keys now) _ x (kept_by (is_live keys.life now) keys.issued x live h))

  -- a path of a closed reply
  pub record IsClosedPath (c : Codec) (pce : Addr) (m : Metric) (t : Addr) (down : List Branch) (best : List Best) (issued : List (Issued Segment)) (path : Path) : Type 0 where
    pub row : Best
    pub is_row : Contains best row
    pub key : Issued Segment
    pub is_key : Contains issued key
    pub stands_for : key.segment ≡ row.segment
    pub is : path ≡ path_of c m row.cost (closed_branch key.number pce t row down)

  module _ (c : Codec) (pce : Addr) (m : Metric) (t : Addr) (down : List Branch) where
    abbrev last_issued : List Best → Keys Segment → List (Issued Segment)
    last_issued bs keys = (issued_all now stands bs keys).issued

    new_key : (b : Best) (bs : List Best) (keys : Keys Segment) → 1 ≤ keys.life → Contains (last_issued (b ∷ bs) keys) (record { number = keys.next; at = record { 0 = now }; segment = stands b })
    new_key b bs keys life =
        issued_stays bs (issue_of keys now (stands b)) (record { number = keys.next; at = record { 0 = now }; segment = stands b }) refl life
        (Contains-append_right (live_at keys now) _ _ (contains_head (record { number = keys.next; at = record { 0 = now }; segment = stands b }) []))

    pub closed_each : (best : List Best) (keys : Keys Segment) → 1 ≤ keys.life → (path : Path) → Contains (closed_paths c pce m t down keys.next best) path →
        IsClosedPath c pce m t down best (last_issued best keys) path
    closed_each [] keys life path h = absurd (contains_none path h)
    closed_each (b ∷ bs) keys life path h = elim (contains_cases _ _ path h) [
      | inl same ↦ record {
        row = b;
        is_row = contains_head b bs;
        key = record { number = keys.next; at = record { 0 = now }; segment = stands b };
        is_key = new_key b bs keys life;
        stands_for = refl;
        is = sym same;
      }
      | inr inside ↦
          let r = closed_each bs (issue_of keys now (stands b)) life path inside in
          record { row = r.row; is_row = contains_tail b bs r.row r.is_row; key = r.key; is_key = r.is_key; stands_for = r.stands_for; is = r.is }
    ]

    -- and each row has one
    pub record HasClosedPath (row : Best) (issued : List (Issued Segment)) (paths : List Path) : Type 0 where
      pub key : Issued Segment
      pub is_key : Contains issued key
      pub stands_for : key.segment ≡ row.segment
      pub is_path : Contains paths (path_of c m row.cost (closed_branch key.number pce t row down))

    pub closed_every : (best : List Best) (keys : Keys Segment) → 1 ≤ keys.life → (row : Best) → Contains best row → HasClosedPath row (last_issued best keys) (closed_paths c pce m t down keys.next best)
    closed_every [] keys life row h = absurd (contains_none row h)
    closed_every (b ∷ bs) keys life row h = elim (contains_cases b bs row h) [
      | inl same ↦ subst (λ (x : Best). HasClosedPath x (last_issued (b ∷ bs) keys) (closed_paths c pce m t down keys.next (b ∷ bs))) same (record {
        key = record { number = keys.next; at = record { 0 = now }; segment = stands b };
        is_key = new_key b bs keys life;
        stands_for = refl;
        is_path = contains_head _ _;
      })
      | inr inside ↦
          let r = closed_every bs (issue_of keys now (stands b)) life row inside in
          record { key = r.key; is_key = r.is_key; stands_for = r.stands_for; is_path = contains_tail _ _ _ r.is_path }
    ]

-- a message with one reply
abbrev reply_or : Reply → Message → Reply
reply_or r (messages.PcRep (x ∷ xs)) = x
reply_or r (messages.PcRep []) = r
reply_or r (messages.Open body) = r
reply_or r messages.Keepalive = r
reply_or r (messages.PcReq asks) = r
reply_or r (messages.PcNtf notices) = r
reply_or r (messages.PcErr reports) = r
reply_or r (messages.Close why) = r
reply_or r (messages.Other kind) = r

abbrev pub is_reply : Message → Bool
is_reply (messages.PcRep replies) = true
is_reply (messages.Open body) = false
is_reply messages.Keepalive = false
is_reply (messages.PcReq asks) = false
is_reply (messages.PcNtf notices) = false
is_reply (messages.PcErr reports) = false
is_reply (messages.Close why) = false
is_reply (messages.Other kind) = false

-- the one output is this reply
pub one_said : (to p : Peer) (m : Message) (r : Reply) → Contains {X = Output} (record { to = to; message = m } ∷ []) (record { to = p; message = messages.PcRep (r ∷ []) }) → (to ≡ p) × (m ≡ messages.PcRep (r ∷ []))
one_said to p m r h = elim (contains_cases _ [] _ h) [
  | inl same ↦ (ap (λ (o : Output). o.to) same, ap (λ (o : Output). o.message) same)
  | inr none ↦ absurd (contains_none _ none)
]

pub reply_is : (x r : Reply) → messages.PcRep (x ∷ []) ≡ messages.PcRep (r ∷ []) → x ≡ r
reply_is x r same = ap (reply_or r) same

pub no_notice : (ns : List _) (r : Reply) → messages.PcNtf ns ≡ messages.PcRep (r ∷ []) → ⊥
no_notice ns r same = differ (ap is_reply same)
  where
    differ : false ≡ true → ⊥
    differ e = cc
