-- What the next domain told of its entries is right for the domains beyond, and each branch that was read is a path that it told.
use Rattle.std.proofs.Common.{◌≡◌, ◌⊎◌, ◌≤◌, ℕ, Bool, true, false, cond, List, [], ◌∷◌, ◌++◌, map, filter, sym, ◌∙◌, ap, subst, inl, inr, refl, arith}
use Rattle.std.specs.Prelude.{Contains, Some}
use Rattle.std.proofs.lemmas.Bool.{eq-eqb, le-leb}
use Rattle.std.proofs.lemmas.List.Elements.{Contains-append_left, Contains-append_right, Contains-append_cases}
use Rattle.std.specs.declared.option.Option.{Option}
use Rattle.dom_base.specs.declared.limits.TheConstants.{COST_MAX}
use Rattle.plant_model.specs.Types.{Addr, As, Query, Metric, Entry, Hop, Path, Wanted, Branch, NetworkParts}
use Rattle.te_links.specs.Rows.{Rows}
use Rattle.walk_laws.specs.Crossing.{Leg, Goal, Last, Links, Over, crossing_cost, IsLeastCost}
use Rattle.walk_laws.specs.Composition.{IsEntryFrom, AreBeyond}
use Rattle.border_costs.specs.Asks.{beyond}
use Rattle.plant_text.specs.Names.{same_as}
use Rattle.plant_model.specs.Wire.{Codec}
use Rattle.pcep_messages.specs.Requests.{type_of_metric}
use Rattle.plant_model.specs.Branches.{downs, branch_at, branch_by, branch_of, branches_in}
use Rattle.plant_model.specs.Laws.{IsCodec}
use Rattle.plant_laws.specs.Transcript.{Visit, pinned, domains}
use Rattle.plant_laws.specs.Ends.{End, Inside, Asked, goal_of}
use Rattle.plant_laws.specs.Shown.{ShowsAlong}
use Rattle.plant_laws.specs.About.{IsLeastAlong, HasNoneAlong, IsLeastPath}
use Rattle.border_costs.proofs.Members.{contains_none, contains_head, contains_tail, contains_cases}
use Rattle.plant_laws.proofs.Runs.Queues.{same_as_is}
use Rattle.plant_laws.proofs.Least.BestParts.{row_of_branch, branch_of_row}
use Rattle.pcep_subobjects.specs.Hops.{strict_hop}

pub apart : true ≡ false → ⊥
apart e = cc

-- the nodes of the entries from a domain
abbrev pub nodes_from : As → List Entry → List Addr
nodes_from d es = map (λ e. e.node) (filter (λ e. same_as e.from_as d) es)

pub entry_of_node : (d : As) (es : List Entry) (n : Addr) → Contains (nodes_from d es) n → Contains es (record { node = n; from_as = d })
entry_of_node d [] n h = absurd (contains_none n h)
entry_of_node d (e ∷ es) n h = go (same_as e.from_as d) refl (λ h'. entry_of_node d es n h') h
  where
    go : (y : Bool) → same_as e.from_as d ≡ y → (Contains (nodes_from d es) n → Contains es (record { node = n; from_as = d })) →
        Contains (map (λ (x : Entry). x.node) (cond y (e ∷ filter (λ x. same_as x.from_as d) es) (filter (λ x. same_as x.from_as d) es))) n → Contains (e ∷ es) (record { node = n; from_as = d })
    go true is more k = elim (contains_cases e.node (nodes_from d es) n k) [
      | inl same ↦
          let one : e ≡ record { node = n; from_as = d } =
          ap (λ (x : Addr). let y : Entry = record { node = x; from_as = e.from_as } in y) same ∙ ap (λ (x : As). let y : Entry = record { node = n; from_as = x } in y) (same_as_is e.from_as d is) in
          subst (λ (y : Entry). Contains (e ∷ es) y) one (contains_head e es)
      | inr inside ↦ contains_tail e es (record { node = n; from_as = d }) (more inside)
    ]
    go false is more k = contains_tail e es (record { node = n; from_as = d }) (more k)

pub node_of_entry : (d : As) (es : List Entry) (n : Addr) → Contains es (record { node = n; from_as = d }) → Contains (nodes_from d es) n
node_of_entry d [] n h = absurd (contains_none _ h)
node_of_entry d (e ∷ es) n h = go (same_as e.from_as d) refl (λ h'. node_of_entry d es n h')
  where
    go : (y : Bool) → same_as e.from_as d ≡ y → (Contains es (record { node = n; from_as = d }) → Contains (nodes_from d es) n) →
        Contains (map (λ (x : Entry). x.node) (cond y (e ∷ filter (λ x. same_as x.from_as d) es) (filter (λ x. same_as x.from_as d) es))) n
    go true is more = elim (contains_cases e es (record { node = n; from_as = d }) h) [
      | inl same ↦ subst (λ (x : Addr). Contains (e.node ∷ nodes_from d es) x) (ap (λ (y : Entry). y.node) same) (contains_head e.node (nodes_from d es))
      | inr inside ↦ contains_tail e.node (nodes_from d es) n (more inside)
    ]
    go false is more = elim (contains_cases e es (record { node = n; from_as = d }) h) [
      | inl same ↦
          let t : same_as e.from_as d ≡ true = eq-eqb e.from_as.0 d.0 (ap (λ (y : Entry). y.from_as.0) same) in
          absurd (apart (sym t ∙ is))
      | inr inside ↦ more inside
    ]

-- a path with this metric and first hop is read as a branch
pub branch_made : (c : Codec) (m : Metric) (cost : ℕ) → c.units (c.word cost) ≡ Some cost → cost ≤ COST_MAX → (e : Addr) (hs rest : List Hop) → hs ≡ strict_hop e ∷ rest →
    branch_of c m hs (Some (type_of_metric m, c.word cost)) ≡ record { entry = e; cost = cost; hops = hs } ∷ []
branch_made c m cost units le e hs rest is =
    ap (λ (b : Bool). cond b (branch_by hs (c.units (c.word cost))) []) (eq-eqb (type_of_metric m) (type_of_metric m) refl)
    ∙ ap (λ (o : Option ℕ). branch_by hs o) units
    ∙ ap (λ (l : List Hop). branch_at cost hs l) is
    ∙ ap (λ (b : Bool). cond b (record { entry = e; cost = cost; hops = hs } ∷ []) []) (le-leb cost COST_MAX le)

-- what is shown begins with the entry
pub shown_head : (n : NetworkParts) (q : Query) (end : End) (chain : List Visit) (e : Addr) (hs : List Hop) (legs : List Leg) (last : Last) → ShowsAlong n false q end chain e hs legs last →
    (rest : List Hop) × (hs ≡ strict_hop e ∷ rest)
shown_head n q end [] e hs legs last s = absurd s
shown_head n q (Inside t) (one ∷ []) e hs [] (Links last) s = (_, s.is_hops ∙ ap (λ (p : List Hop). p ++ strict_hop t ∷ []) s.is_part.3)
shown_head n q (Asked b told) (one ∷ []) e hs [] (Over l c) s = (_, s.is_hops ∙ ap (λ (p : List Hop). p ++ strict_hop l.out.link.far ∷ s.row.hops) s.is_part.3)
shown_head n q (Inside t) (one ∷ []) e hs [] (Over l c) s = absurd s
shown_head n q (Asked b told) (one ∷ []) e hs [] (Links last) s = absurd s
shown_head n q end (one ∷ []) e hs (l ∷ ls) last s = absurd s
shown_head n q end (one ∷ next ∷ rest) e hs [] last s = absurd s
shown_head n q end (one ∷ next ∷ rest) e hs (l ∷ ls) last s = (_, s.is_hops ∙ ap (λ (p : List Hop). p ++ strict_hop l.out.link.far ∷ s.below) s.is_part.3)

pub along_within : (q : Query) (gs : List Rows) (s : Addr) (goal : Goal) (legs : List Leg) (last : Last) → IsLeastAlong q gs s goal legs last → crossing_cost q legs last ≤ q.cap
along_within q [] s goal legs last l = absurd l
along_within q (g ∷ rest) s goal legs last l = l.feasible.within

module _ (c : Codec) (codec : IsCodec c) (n : NetworkParts) (chain : List Visit) (end : End) (w : Wanted) (cap : w.query.cap ≤ COST_MAX) (P : Addr → Type 0) where
  abbrev pub Least : Addr → Path → Type 0
  Least e path = IsLeastPath c n false (domains chain) chain end w e path

  abbrev cost_of : (e : Addr) (path : Path) → Least e path → ℕ
  cost_of e path p = crossing_cost w.query p.legs p.last

  pub read_path : (e : Addr) (path : Path) (p : Least e path) → branch_of c w.query.metric path.hops path.metric ≡ record { entry = e; cost = cost_of e path p; hops = path.hops } ∷ []
  read_path e path p =
      let within = along_within w.query (domains chain) e (goal_of end) p.legs p.last p.least in
      let small : cost_of e path p ≤ COST_MAX = omega (arith, within, cap) in
      let head = shown_head n w.query end chain e path.hops p.legs p.last p.shown in
      subst (λ (m : Option (ℕ × ℕ)). branch_of c w.query.metric path.hops m ≡ record { entry = e; cost = cost_of e path p; hops = path.hops } ∷ []) (sym p.metric)
      (branch_made c w.query.metric (cost_of e path p) (codec.costs.costs (cost_of e path p) small) small e path.hops head.0 head.1)

  -- a branch that was read is one of the paths
  pub record FromPath (paths : List Path) (b : Branch) : Type 0 where
    pub path : Path
    pub is_path : Contains paths path
    pub entry : Addr
    pub holds : P entry
    pub least : Least entry path
    pub is : b ≡ record { entry = entry; cost = crossing_cost w.query least.legs least.last; hops = path.hops }

  abbrev pub Each : List Path → Type 0
  Each paths = (path : Path) → Contains paths path → (e : Addr) × P e × Least e path

  later : (p : Path) (ps : List Path) (b : Branch) → FromPath ps b → FromPath (p ∷ ps) b
  later p ps b f = record { path = f.path; is_path = contains_tail p ps f.path f.is_path; entry = f.entry; holds = f.holds; least = f.least; is = f.is }

  pub from_path : (paths : List Path) → Each paths → (b : Branch) → Contains (branches_in c w.query.metric paths) b → FromPath paths b
  from_path [] each b h = absurd (contains_none b h)
  from_path (p ∷ ps) each b h =
      let first = each p (contains_head p ps) in
      elim (Contains-append_cases (branch_of c w.query.metric p.hops p.metric) (branches_in c w.query.metric ps) b h) [
        | inl here ↦ elim (contains_cases _ [] b (subst (λ (l : List Branch). Contains l b) (read_path first.0 p first.2) here)) [
          | inl same ↦ record { path = p; is_path = contains_head p ps; entry = first.0; holds = first.1; least = first.2; is = sym same }
          | inr none ↦ absurd (contains_none b none)
        ]
        | inr inside ↦ later p ps b (from_path ps (λ path k. each path (contains_tail p ps path k)) b inside)
      ]

  -- and each path is read as a branch
  pub path_read : (paths : List Path) (path : Path) → Contains paths path → (e : Addr) (p : Least e path) →
      Contains (branches_in c w.query.metric paths) (record { entry = e; cost = cost_of e path p; hops = path.hops })
  path_read [] path h e p = absurd (contains_none path h)
  path_read (x ∷ xs) path h e p = elim (contains_cases x xs path h) [
    | inl same ↦
        Contains-append_left (branch_of c w.query.metric x.hops x.metric) (branches_in c w.query.metric xs) _
        (subst (λ (y : Path). Contains (branch_of c w.query.metric y.hops y.metric) (record { entry = e; cost = cost_of e path p; hops = path.hops })) (sym same)
        (subst (λ (l : List Branch). Contains l (record { entry = e; cost = cost_of e path p; hops = path.hops })) (sym (read_path e path p)) (contains_head _ [])))
    | inr inside ↦ Contains-append_right (branch_of c w.query.metric x.hops x.metric) (branches_in c w.query.metric xs) _ (path_read xs path inside e p)
  ]

-- what the next domain told: from which of its nodes there are paths
pub record IsTold (c : Codec) (n : NetworkParts) (d : As) (next : Visit) (chain : List Visit) (end : End) (w : Wanted) (paths : List Path) : Type 0 where
  pub each : (path : Path) → Contains paths path → (e : Addr) × IsEntryFrom (pinned next.own next.at) d e × IsLeastPath c n false (domains (next ∷ chain)) (next ∷ chain) end w e path
  pub every : (e : Addr) → IsEntryFrom (pinned next.own next.at) d e →
      HasNoneAlong w.query (domains (next ∷ chain)) e (goal_of end) ⊎ ((path : Path) × Contains paths path × IsLeastPath c n false (domains (next ∷ chain)) (next ∷ chain) end w e path)

pub told_beyond : (c : Codec) → IsCodec c → (n : NetworkParts) (d : As) (next : Visit) (chain : List Visit) (end : End) (w : Wanted) → w.query.cap ≤ COST_MAX → (paths : List Path) → IsTold c n d next chain end w paths →
    AreBeyond w.query d (pinned next.own next.at) (domains chain) (goal_of end) (beyond (downs (branches_in c w.query.metric paths)))
told_beyond c codec n d next chain end w small paths told = record {
  each = λ e cost row.
      let b = branch_of_row (branches_in c w.query.metric paths) e cost row in
      let f = from_path c codec n (next ∷ chain) end w small (IsEntryFrom (pinned next.own next.at) d) paths told.each b.0 b.1 in
      let at : f.entry ≡ e = sym (ap (λ (x : Branch). x.entry) f.is) ∙ b.2 in
      let sum : cost ≡ crossing_cost w.query f.least.legs f.least.last = sym b.3 ∙ ap (λ (x : Branch). x.cost) f.is in
      subst (λ (x : Addr). IsEntryFrom (pinned next.own next.at) d x × IsLeastCost w.query (pinned next.own next.at) (domains chain) x (goal_of end) cost) at
      (f.holds, record { legs = f.least.legs; last = f.least.last; least = f.least.least; is = sum });
  absent = λ e entry none. elim (told.every e entry) [
    | inl nowhere ↦ nowhere
    | inr known ↦ absurd (none (crossing_cost w.query known.2.legs known.2.last)
        (row_of_branch (branches_in c w.query.metric paths) _ (path_read c codec n (next ∷ chain) end w small (IsEntryFrom (pinned next.own next.at) d) paths known.0 known.1 e known.2)))
  ];
}
