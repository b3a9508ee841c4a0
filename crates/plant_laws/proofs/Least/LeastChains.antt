-- Each solve of an element has a chain, along which its best rows stand for least walks: one induction over the moments of a run.
use Rattle.std.proofs.Common.{◌≡◌, ◌≢◌, ◌≤◌, ◌<◌, ◌^◌, ℕ, zero, suc, Bool, true, false, cond, List, [], ◌∷◌, ◌++◌, ◌⊎◌, length, sym, ◌∙◌, ap, subst, inl, inr, refl, arith}
use Rattle.std.specs.Prelude.{Contains, Some}
use Rattle.std.specs.declared.option.Option.{Option}
use Rattle.std.proofs.lemmas.Bool.{eq-eqb}
use Rattle.dom_base.specs.declared.limits.TheConstants.{COST_MAX}
use Rattle.plant_model.specs.Types.{Addr, As, Peer, Inner, Outside, Asked, Path, Message, Request, Wanted, Issued, Class, Branch, NetworkParts}
use Rattle.te_links.specs.Rows.{Rows, IsInOrder}
use Rattle.pcep_messages.specs.declared.message.Message.TheVariants as messages
use Rattle.pcep_messages.specs.declared.message.Wish.TheVariants as wishes
use Rattle.disclosure.specs.declared.class.Class.TheVariants.{Neighbour, Parent}
use Rattle.border_costs.specs.Solutions.{AreRows}
use Rattle.walk_laws.specs.Crossing.{query_in}
use Rattle.plant_model.specs.declared.output.Output.{Output}
use Rattle.plant_text.specs.Names.{same_as, parent_as}
use Rattle.plant_model.specs.Wire.{Codec, Admitted}
use Rattle.pcep_messages.specs.Requests.{type_of_metric}
use Rattle.plant_model.specs.Writing.{asked_of, request_message, vspt_flag}
use Rattle.plant_model.specs.Element.{is_client}
use Rattle.plant_model.specs.Taking.{sequence_or, goes_up}
use Rattle.plant_model.specs.Solving.{commit, job_found}
use Rattle.plant_text.specs.Settings.{class_of}
use Rattle.plant_model.specs.Settings.{place}
use Rattle.plant_model.specs.declared.route.Route.{Route}
use Rattle.plant_model.specs.Routes.{toward}
use Rattle.plant_model.specs.Jobs.{ask_of, entries_of}
use Rattle.plant_model.specs.State.{Pops, Takes, Solves}
use Rattle.plant_model.specs.Plant.{Pin, Segment, PlantDeed}
use Rattle.plant_model.specs.Laws.{IsCodec, Admits}
use Rattle.plant_laws.specs.Transcript.{Transcript, Within, Standing, outputs_at, SentIn, Handed, Delivered, Visit, Chain, numbers, pinned, domains, Keeps, ends_if, answers_to}
use Rattle.plant_laws.specs.Ends.{End, Inside, Asked as AskedFor, goal_of, ChainEnds}
use Rattle.plant_laws.specs.About.{IsSolvedFor, AreSolved, IsLeastPath}
use Rattle.plant_laws.specs.Replies.{AreRightful}
use Rattle.border_costs.proofs.Members.{contains_head}
use Rattle.plant_laws.proofs.Once.Counting.{commit_answers}
use Rattle.plant_laws.proofs.Runs.Queues.{same_as_is}
use Rattle.plant_laws.proofs.Runs.Moments.{within_here, within_trans, within_length, standing_put, opened_within, chain_later, no_more}
use Rattle.plant_laws.proofs.Least.OwnFree.{crossing_free, along_free, none_free, shows_free}
use Rattle.plant_laws.proofs.Least.Told.{apart, entry_of_node, node_of_entry, IsTold}
use Rattle.plant_laws.proofs.Least.Given.{Premises, IsSolved, OfKey, OfParent}
use Rattle.plant_laws.proofs.Least.AllWays.{AreWays, end_ways, over_ways, on_ways}
use Rattle.plant_laws.proofs.Least.ClosedReplies.{IsReplyOf, closes, goes_to}
use Rattle.plant_laws.proofs.Least.FromElement.{within_tail, same_request, same_wanted, no_expansion, same_asked, admits_path, own_sequence, real_next, on_wanted, IsFrom, from_inner, delivered_from, next_admits, IsAlong, sent_along}
use Rattle.plant_laws.specs.Certified.{IsAnswered, IsServed}

-- a path of the next element's request is one of the request before it
same_path : (c : Codec) (n : NetworkParts) (chain : List Visit) (end : End) (w : Wanted) (b : As) (rest : List As) (e : Addr) (path : Path) →
    IsLeastPath c n false (domains chain) chain end (on_wanted w b rest) e path → IsLeastPath c n false (domains chain) chain end w e path
same_path c n chain end w b rest e path p = record {
  legs = p.legs;
  last = p.last;
  least = along_free w.query b (domains chain) e (goal_of end) p.legs p.last p.least;
  metric = p.metric ∙ ap (λ (x : ℕ). let o : Option (ℕ × ℕ) = Some (type_of_metric w.query.metric, c.word x) in o) (crossing_free w.query b p.legs p.last);
  shown = shows_free w.query b n end false chain e path.hops p.legs p.last p.shown;
}

told_of : (c : Codec) (n : NetworkParts) (d : As) (w : Wanted) (b : As) (rest : List As) (next : Visit) (chain : List Visit) (end : End) (paths : List Path) →
    AreRightful c n (Neighbour d) (next ∷ chain) end (on_wanted w b rest) paths → IsTold c n d next chain end w paths
told_of c n d w b rest next chain end paths right = record {
  each = λ path h.
      let r = right.each path h in
      (r.0, entry_of_node d (pinned next.own next.at).entries r.0 r.1, same_path c n (next ∷ chain) end w b rest r.0 path r.2);
  every = λ e h. elim (right.every e (node_of_entry d (pinned next.own next.at).entries e h)) [
    | inl nowhere ↦ inl (none_free w.query b (domains (next ∷ chain)) e (goal_of end) nowhere)
    | inr known ↦ inr (known.0, known.1, same_path c n (next ∷ chain) end w b rest e known.0 known.2)
  ];
}

-- a chain of the next element's request ends as one of the request before it
same_end : (c : Codec) (n : NetworkParts) (w : Wanted) (b : As) (rest behind : List As) (chain : List Visit) (end : End) → ChainEnds c n (on_wanted w b rest) behind chain end → ChainEnds c n w behind chain end
same_end c n w b rest behind [] end e = e
same_end c n w b rest behind (one ∷ []) (Inside t) e = e
same_end c n w b rest behind (one ∷ []) (AskedFor next told) e = record {
  peer = e.peer;
  route = e.route;
  rest = e.rest;
  is_behind = e.is_behind;
  answered = record {
    id = e.answered.id;
    sent = e.answered.sent;
    reply = e.answered.reply;
    outputs = e.answered.outputs;
    before = e.answered.before;
    within = e.answered.within;
    same = e.answered.same;
    heeded = e.answered.heeded;
    paths = e.answered.paths;
    tells = e.answered.tells;
    is = e.answered.is;
  };
}
same_end c n w b rest behind (one ∷ next ∷ more) end e = same_end c n w b rest behind (next ∷ more) end e

-- requests for a domain go to its own element or to an outside peer
pub toward_is : (b : As) (routes : List Route) → (toward b routes ≡ Inner b) ⊎ ((i : ℕ) × (toward b routes ≡ Outside i))
toward_is b [] = inl refl
toward_is b (r ∷ rs) = go (same_as r.next b) (toward_is b rs)
  where
    go : (x : Bool) → (toward b rs ≡ Inner b) ⊎ ((i : ℕ) × (toward b rs ≡ Outside i)) → (cond x (Outside r.peer) (toward b rs) ≡ Inner b) ⊎ ((i : ℕ) × (cond x (Outside r.peer) (toward b rs) ≡ Outside i))
    go true more = inr (r.peer, refl)
    go false more = more

pub admitted_at : (c : Codec) (at : Transcript) (d : As) (p : Peer) (r : Request) → Delivered c at d p r → (a : Asked) × (c.check a d ≡ Admitted r)
admitted_at c [] d p r h = absurd h
admitted_at c (e ∷ older) d p r h = (h.0, h.3)

-- an inner element, not the parent, is a neighbour
pub class_inner : (n : NetworkParts) (d : As) → d ≢ parent_as → class_of n (Inner d) ≡ Neighbour d
class_inner n d real = go (same_as d parent_as) refl
  where
    go : (b : Bool) → same_as d parent_as ≡ b → cond b Parent (Neighbour d) ≡ Neighbour d
    go true is = absurd (real (same_as_is d parent_as is))
    go false is = refl

pub neighbour_stays : (parent : Bool) (class : Class) (sequence : List As) → is_client class ≡ false → goes_up parent class sequence ≡ true → ⊥
neighbour_stays parent class [] upper goes = apart (sym goes ∙ ap (λ (b : Bool). cond b parent false) upper)
neighbour_stays parent class (a ∷ rest) upper goes = apart (sym goes)

module _ (c : Codec) (codec : IsCodec c) (n : NetworkParts) (now : Transcript) (given : Premises c n now) where
  abbrev pub Solved : As → ℕ → List Output → List (Issued Segment) → Transcript → Type 0
  Solved d k os keys older = IsSolved c n older d k os keys

  abbrev pub leg : As → ℕ → List Output → List (Issued Segment) → Transcript → Transcript → Visit
  leg d k os keys older at = record { own = d; at = at; solved = Solves d k os keys ∷ older }

  -- the solve ended its own request
  pub solved_for : (d : As) (k : ℕ) (os : List Output) (keys : List (Issued Segment)) (older : Transcript) (x : Solved d k os keys older) → IsSolvedFor c x.held.key.peer (leg d k os keys older x.taken.at)
  solved_for d k os keys older x = record {
    number = k;
    outputs = os;
    keys = keys;
    before = older;
    is = refl;
    id = x.held.key.id;
    is_open = x.taken.is_open;
    ends =
        ap (λ (b : Bool). cond b (ends_if (answers_to x.held.key.peer x.held.key.id os)) Keeps) (eq-eqb d.0 d.0 refl)
        ∙ ap (λ (l : List Output). ends_if (answers_to x.held.key.peer x.held.key.id l)) x.sends
        ∙ ap ends_if (commit_answers Pin Segment c (place n d) (k, x.held) x.down x.now (λ z. z.segment) x.rows.source_known x.rows.target_known x.rows.best x.element);
  }

  pub record Chained (d : As) (k : ℕ) (os : List Output) (keys : List (Issued Segment)) (older : Transcript) (x : Solved d k os keys older) : Type 0 where
    pub chain : List Visit
    pub chained : Chain (Solves d k os keys ∷ older) (leg d k os keys older x.taken.at ∷ chain)
    pub ends : AreSolved c x.held.key.peer (leg d k os keys older x.taken.at ∷ chain)
    pub behind : List As
    pub along : numbers (leg d k os keys older x.taken.at ∷ chain) ++ behind ≡ sequence_or d x.held.item.wanted.sequence
    pub end : End
    pub reaches : ChainEnds c n x.held.item.wanted behind (leg d k os keys older x.taken.at ∷ chain) end
    pub ways : AreWays n x.held.item.wanted end (leg d k os keys older x.taken.at) chain x.down (entries_of x.held.item.class x.held.item.wanted.source (pinned d x.taken.at)) x.rows.best

  -- what lies beyond, told by the next element
  pub record IsBeyond (d : As) (at : Transcript) (w : Wanted) (b : As) (rest : List As) (older : Transcript) (paths : List Path) : Type 0 where
    pub at_next : Transcript
    pub solved : Transcript
    pub chain : List Visit
    pub handed : Handed d b at at_next
    pub chained : Chain older (record { own = b; at = at_next; solved = solved } ∷ chain)
    pub ends : AreSolved c (Inner d) (record { own = b; at = at_next; solved = solved } ∷ chain)
    pub behind : List As
    pub along : numbers (record { own = b; at = at_next; solved = solved } ∷ chain) ++ behind ≡ b ∷ rest
    pub end : End
    pub reaches : ChainEnds c n w behind (record { own = b; at = at_next; solved = solved } ∷ chain) end
    pub told : IsTold c n d (record { own = b; at = at_next; solved = solved }) chain end w paths

  -- a solve and the request of it
  module _ (d : As) (real : d ≢ parent_as) (k : ℕ) (os : List Output) (keys : List (Issued Segment)) (older : Transcript) (before : Within older now) (x : Solved d k os keys older) where
    abbrev w : Wanted
    w = x.held.item.wanted

    abbrev at : Transcript
    at = x.taken.at

    at_within : Within at older
    at_within = opened_within c d x.held.key.peer x.held.key.id older at x.taken.is_open

    pub taken_asked : (a : Asked) × (c.check a d ≡ Admitted x.taken.request)
    taken_asked = admitted_at c at d x.held.key.peer x.taken.request x.taken.delivered

    pub taken_admits : Admits c taken_asked.0 d x.taken.request.flags x.taken.request.id w
    taken_admits = admits_path c taken_asked.0 d x.taken.request w taken_asked.1 x.taken.wanted

    abbrev one : Visit
    one = leg d k os keys older at

    query_own : w.query.own ≡ d
    query_own = (codec.onward.own taken_asked.0 d x.taken.request.flags x.taken.request.id w taken_admits).0

    small : w.query.cap ≤ COST_MAX
    small = (codec.onward.own taken_asked.0 d x.taken.request.flags x.taken.request.id w taken_admits).1

    here : (pinned d at).own ≡ d
    here = given.owns d at (within_trans at older now at_within before)

    own : w.query ≡ query_in w.query d
    own = ap (λ (o : As). query_in w.query o) query_own

    home : w.query ≡ query_in w.query (pinned d at).own
    home = ap (λ (o : As). query_in w.query o) (query_own ∙ sym here)

    rows_over : AreRows (pinned d at) (ask_of d k x.held.item x.down x.held.item.pin.number (pinned d at)) x.rows
    rows_over = subst (λ (g : Rows). AreRows g (ask_of d k x.held.item x.down x.held.item.pin.number g) x.rows) x.taken.pin x.right

    abbrev entries : List Addr
    entries = entries_of x.held.item.class w.source (pinned d at)

    chained_end : sequence_or d w.sequence ≡ d ∷ [] → Chained d k os keys older x
    chained_end is =
        let sequence : x.held.item.sequence ≡ d ∷ [] = x.along ∙ is in
        let none : x.down ≡ [] = subst (λ (l : List As). IsServed c n older d at w l x.down) sequence x.served in
        let rows = subst (λ (l : List Branch). AreRows (pinned d at) (ask_of d k x.held.item l x.held.item.pin.number (pinned d at)) x.rows) none rows_over in
        let ways = end_ways n d k x.held.item one x.held.item.pin.number x.rows own home d sequence rows in
        record {
          chain = [];
          chained = (inr at_within, inl refl);
          ends = (solved_for d k os keys older x, tt);
          behind = [];
          along = sym is;
          end = Inside w.target;
          reaches = (refl, refl);
          ways = subst (λ (l : List Branch). AreWays n w (Inside w.target) one [] l entries x.rows.best) (sym none) ways;
        }

    -- over what an outside peer told: nothing is asked of the run
    chained_out : (b : As) (rest : List As) → sequence_or d w.sequence ≡ d ∷ b ∷ rest → (i : ℕ) → toward b (place n d).routes ≡ Outside i → IsAnswered c older d at w (Outside i) b rest x.down → Chained d k os keys older x
    chained_out b rest is i route answered =
        let sequence : x.held.item.sequence ≡ d ∷ b ∷ rest = x.along ∙ is in
        let order = subst (λ (g : Rows). IsInOrder g) x.taken.pin x.domain.order in
        let solved = Solves d k os keys ∷ older in
        let later : IsAnswered c solved d at w (Outside i) b rest x.down = record {
          id = answered.id;
          sent = answered.sent;
          reply = answered.reply;
          outputs = answered.outputs;
          before = answered.before;
          within = inr answered.within;
          same = answered.same;
          heeded = answered.heeded;
          paths = answered.paths;
          tells = answered.tells;
          is = answered.is;
        } in
        record {
          chain = [];
          chained = (inr at_within, inl refl);
          ends = (solved_for d k os keys older x, tt);
          behind = b ∷ rest;
          along = sym is;
          end = AskedFor b x.down;
          reaches = record { peer = i; route = route; rest = rest; is_behind = refl; answered = later };
          ways = over_ways n d k x.held.item one x.held.item.pin.number x.rows own home b rest x.down sequence order rows_over;
        }

    chained_on : (b : As) (rest : List As) → sequence_or d w.sequence ≡ d ∷ b ∷ rest → (answered : IsAnswered c older d at w (Inner b) b rest x.down) → IsBeyond d at w b rest older answered.paths → Chained d k os keys older x
    chained_on b rest is answered beyond =
        let sequence : x.held.item.sequence ≡ d ∷ b ∷ rest = x.along ∙ is in
        let next : Visit = record { own = b; at = beyond.at_next; solved = beyond.solved } in
        let rows = subst (λ (l : List Branch). AreRows (pinned d at) (ask_of d k x.held.item l x.held.item.pin.number (pinned d at)) x.rows) answered.is rows_over in
        let order = subst (λ (g : Rows). IsInOrder g) x.taken.pin x.domain.order in
        let next_within = chain_first next beyond.chain older beyond.chained in
        let ways = on_ways n d k x.held.item one x.held.item.pin.number x.rows own home c codec next beyond.chain beyond.end rest sequence small order here
        (given.owns b beyond.at_next (within_trans beyond.at_next older now next_within before)) answered.paths beyond.told rows in
        record {
          chain = next ∷ beyond.chain;
          chained = (inr at_within, inl refl, beyond.handed, chain_later (next ∷ beyond.chain) older (Solves d k os keys ∷ older) (inr (within_here older)) beyond.chained);
          ends = (solved_for d k os keys older x, beyond.ends);
          behind = beyond.behind;
          along = ap (λ (l : List As). d ∷ l) beyond.along ∙ sym is;
          end = beyond.end;
          reaches = beyond.reaches;
          ways = subst (λ (l : List Branch). AreWays n w beyond.end one (next ∷ beyond.chain) l entries x.rows.best) (sym answered.is) ways;
        }
      where
        chain_first : (first : Visit) (chain : List Visit) (m : Transcript) → Chain m (first ∷ chain) → Within first.at m
        chain_first first [] m h = h.0
        chain_first first (next ∷ rest) m h = h.0

    -- what the next element told, by its own solve
    module _ (b : As) (rest : List As) (is : sequence_or d w.sequence ≡ d ∷ b ∷ rest) (upper : b ≢ parent_as) (answered : IsAnswered c older d at w (Inner b) b rest x.down) where
      abbrev Told : Type 0
      Told = IsBeyond d at w b rest older answered.paths

      -- a request from here that the other took
      module _ (a : Asked) (next_at : Transcript) (f : IsFrom c codec n now given d b a next_at) where
        abbrev next_along : IsAlong c codec n now given d b a f.put
        next_along = sent_along c codec n now given d b upper a f.put f.asked

        -- of the id that was answered
        pub record IsSame : Type 0 where
          pub handed : Handed d b at next_at
          pub admits : Admits c a b vspt_flag answered.id (on_wanted w b rest)

        same_at : next_along.asked.id ≡ answered.id → IsSame
        same_at id =
            let g = next_along in
            let asks : messages.PcReq (a ∷ []) ≡ request_message answered.id g.asked.wanted g.asked.wanted.target (b ∷ g.rest) =
            ap (λ (z : Asked). messages.PcReq (z ∷ [])) (g.is ∙ ap (λ (y : ℕ). asked_of y g.asked.wanted g.asked.wanted.target (b ∷ g.rest)) id) in
            let sent : SentIn f.put d (Inner b) (request_message answered.id g.asked.wanted g.asked.wanted.target (b ∷ g.rest)) = subst (λ (m : Message). SentIn f.put d (Inner b) m) asks f.sent in
            let once = given.ids at f.put (within_trans at older now at_within before) f.within d b real answered.id w g.asked.wanted w.target g.asked.wanted.target (b ∷ rest) (b ∷ g.rest) answered.sent sent in
            let asked : asked_of answered.id w w.target (b ∷ rest) ≡ a = same_asked (asked_of answered.id w w.target (b ∷ rest)) a (once.1 ∙ sym asks) in
            record {
              handed = subst (λ (m : Transcript). Handed d b m next_at) (sym once.0) f.handed;
              admits = subst (λ (z : Asked). Admits c z b vspt_flag answered.id (on_wanted w b rest)) asked
                  (next_admits c codec n now given d b taken_asked.0 x.taken.request.flags x.taken.request.id w taken_admits rest is answered.id
                  (subst (λ (y : ℕ). 1 ≤ y) id g.asked.some) (subst (λ (y : ℕ). y < 2 ^ 32) id g.asked.fits));
            }

      -- the other's solve, with its chain
      module _ (k' : ℕ) (os' : List Output) (keys' : List (Issued Segment)) (older' : Transcript) (inside : Within (Solves b k' os' keys' ∷ older') older) (y : Solved b k' os' keys' older') (ch : Chained b k' os' keys' older' y)
          (said : Contains os' (record { to = Inner d; message = messages.PcRep (answered.reply ∷ []) })) where
        within' : Within (Solves b k' os' keys' ∷ older') now
        within' = within_trans (Solves b k' os' keys' ∷ older') older now inside before

        said_here : Contains (commit c (place n b) (k', y.held) y.down y.now (λ z. z.segment) (job_found y.rows.source_known y.rows.target_known y.rows.best) y.element).outputs (record { to = Inner d; message = messages.PcRep (answered.reply ∷ []) })
        said_here = subst (λ (l : List Output). Contains l (record { to = Inner d; message = messages.PcRep (answered.reply ∷ []) })) y.sends said

        to_here : y.held.key.peer ≡ Inner d
        to_here = goes_to c n b k' y.held y.down y.now y.element y.rows.source_known y.rows.target_known (leg b k' os' keys' older' y.taken.at) ch.chain ch.end (Inner d) (messages.PcRep (answered.reply ∷ [])) y.rows.best said_here

        class_here : y.held.item.class ≡ Neighbour d
        class_here = y.taken.class ∙ ap (class_of n) to_here ∙ class_inner n d real

        closes_here : IsReplyOf y.held answered.reply × (y.held.key.peer ≡ Inner d)
            × AreRightful c n y.held.item.class (leg b k' os' keys' older' y.taken.at ∷ ch.chain) ch.end y.held.item.wanted answered.paths
        closes_here =
            closes c n b k' y.held y.down y.now y.element y.rows.source_known y.rows.target_known (leg b k' os' keys' older' y.taken.at) ch.chain ch.end refl y.life (Inner d) answered.reply answered.paths y.rows.best
            (ap is_client class_here) ch.ways said_here answered.tells y.has

        told_by_solve : Told
        told_by_solve =
            let at' = y.taken.at in
            let at'_within = opened_within c b y.held.key.peer y.held.key.id older' at' y.taken.is_open in
            let delivered : Delivered c at' b (Inner d) y.taken.request = subst (λ (p : Peer). Delivered c at' b p y.taken.request) to_here y.taken.delivered in
            let at'_now = within_trans at' older' now at'_within (within_tail (Solves b k' os' keys') older' now within') in
            let from = delivered_from c codec n now given d b real y.taken.request at' at'_now delivered in
            let a = from.0 in
            let f = from.2 in
            let g = next_along a at' f in
            let asked = same_request y.taken.request (record { flags = vspt_flag; id = g.asked.id; wish = wishes.Path (on_wanted g.asked.wanted b g.rest) }) (sym from.1 ∙ g.admits) in
            let id : g.asked.id ≡ answered.id = sym (ap (λ (r : Request). r.id) asked) ∙ y.taken.id ∙ sym closes_here.0.id ∙ answered.same in
            let same = same_at a at' f id in
            let request = same_request y.taken.request (record { flags = vspt_flag; id = answered.id; wish = wishes.Path (on_wanted w b rest) }) (sym from.1 ∙ same.admits) in
            let wanted : y.held.item.wanted ≡ on_wanted w b rest = same_wanted y.held.item.wanted (on_wanted w b rest) (sym y.taken.wanted ∙ ap (λ (r : Request). r.wish) request) in
            let chain : List Visit = leg b k' os' keys' older' at' ∷ ch.chain in
            let right : AreRightful c n (Neighbour d) chain ch.end (on_wanted w b rest) answered.paths =
            subst (λ (v : Wanted). AreRightful c n (Neighbour d) chain ch.end v answered.paths) wanted (subst (λ (z : Class). AreRightful c n z chain ch.end y.held.item.wanted answered.paths) class_here closes_here.2) in
            record {
              at_next = at';
              solved = Solves b k' os' keys' ∷ older';
              chain = ch.chain;
              handed = same.handed;
              chained = chain_later chain (Solves b k' os' keys' ∷ older') older inside ch.chained;
              ends = subst (λ (p : Peer). AreSolved c p chain) to_here ch.ends;
              behind = ch.behind;
              along = ch.along ∙ ap (λ (v : Wanted). sequence_or b v.sequence) wanted;
              end = ch.end;
              reaches = same_end c n w b rest ch.behind chain ch.end (subst (λ (v : Wanted). ChainEnds c n v ch.behind chain ch.end) wanted ch.reaches);
              told = told_of c n d w b rest (leg b k' os' keys' older' at') ch.chain ch.end answered.paths right;
            }

      -- it was no expansion of a key, and not passed on from the parent
      no_key : (e : PlantDeed) (older' : Transcript) → Within (e ∷ older') now → OfKey c b (Inner d) answered.reply e → ⊥
      no_key e older' inside key =
          let f = from_inner c codec n now given d b real key.taken key.outputs older' (subst (λ (z : PlantDeed). Within (z ∷ older') now) key.is inside) in
          let g = next_along key.taken (Takes b (Inner d) (messages.PcReq (key.taken ∷ [])) key.outputs ∷ older') f in
          let same = same_request key.request (record { flags = vspt_flag; id = g.asked.id; wish = wishes.Path (on_wanted g.asked.wanted b g.rest) }) (sym key.admits ∙ g.admits) in
          no_expansion (on_wanted g.asked.wanted b g.rest) key.key key.pce (sym (ap (λ (r : Request). r.wish) same) ∙ key.wish)

      no_parent : (e : PlantDeed) (older' : Transcript) → OfParent c n older' b (Inner d) answered.reply e → ⊥
      no_parent e older' p =
          let class : p.held.item.class ≡ Neighbour d = p.taken.class ∙ ap (class_of n) (sym p.to) ∙ class_inner n d real in
          neighbour_stays (place n b).parent p.held.item.class p.held.item.wanted.sequence (ap is_client class) p.goes

      -- by what the reply comes from, where solves before this one have their chains
      module _ (ih : (k' : ℕ) (os' : List Output) (keys' : List (Issued Segment)) (older' : Transcript) → length older' < length older → (w' : Within (Solves b k' os' keys' ∷ older') now) →
          Chained b k' os' keys' older' (given.solved b k' os' keys' older' upper w')) where
        by_put : (put : Transcript) → Within put older → SentIn put b (Inner d) (messages.PcRep (answered.reply ∷ [])) → Told
        by_put [] inside sent = absurd sent
        by_put (e ∷ older') inside sent =
            let e_now = within_trans (e ∷ older') older now inside before in
            elim (given.replied e older' b (Inner d) answered.reply answered.paths upper e_now sent answered.tells) [
              | inl o ↦
                  let inside' : Within (Solves b o.number o.outputs o.keys ∷ older') older = subst (λ (z : PlantDeed). Within (z ∷ older') older) o.is inside in
                  let within'' = within_trans (Solves b o.number o.outputs o.keys ∷ older') older now inside' before in
                  let le = within_length (Solves b o.number o.outputs o.keys ∷ older') older inside' in
                  let ch = ih o.number o.outputs o.keys older' (omega (arith, le)) within'' in
                  let said : Contains (cond (same_as b b) o.outputs []) (record { to = Inner d; message = messages.PcRep (answered.reply ∷ []) }) =
                  subst (λ (z : PlantDeed). Contains (outputs_at b z) (record { to = Inner d; message = messages.PcRep (answered.reply ∷ []) })) o.is sent in
                  told_by_solve o.number o.outputs o.keys older' inside' (given.solved b o.number o.outputs o.keys older' upper within'') ch (no_more (same_as b b) o.outputs _ said).1
              | inr (inl key) ↦ absurd (no_key e older' e_now key)
              | inr (inr p) ↦ absurd (no_parent e older' p)
            ]

        pub told_beyond : Told
        told_beyond =
            let deed : PlantDeed = Takes d (Inner b) (messages.PcRep (answered.reply ∷ [])) answered.outputs in
            let carried = given.carried_replies d b (answered.reply ∷ []) answered.outputs answered.before (within_trans (deed ∷ answered.before) older now answered.within before) in
            let stood : Standing = record { message = messages.PcRep (answered.reply ∷ []); put = carried.put } in
            let was = standing_put b d carried.before stood (subst (λ (l : List Standing). Contains l stood) (sym carried.stood) (contains_head stood carried.rest)) in
            let before_older : Within carried.before older = within_tail (Pops b d) carried.before older (subst (λ (o : Transcript). Within o older) carried.is (within_tail deed answered.before older answered.within)) in
            by_put carried.put (within_trans carried.put carried.before older was.within before_older) was.sent

  -- the solve itself may be newer than what is given
  pub by_sequence : (d : As) (real : d ≢ parent_as) (k : ℕ) (os : List Output) (keys : List (Issued Segment)) (older : Transcript) (before : Within older now) (x : Solved d k os keys older) →
      ((b : As) → (upper : b ≢ parent_as) → (k' : ℕ) (os' : List Output) (keys' : List (Issued Segment)) (older' : Transcript) → length older' < length older → (w' : Within (Solves b k' os' keys' ∷ older') now) →
      Chained b k' os' keys' older' (given.solved b k' os' keys' older' upper w')) → Chained d k os keys older x
  by_sequence d real k os keys older before x ih =
      let asked = taken_asked d real k os keys older before x in
      let admits = taken_admits d real k os keys older before x in
      let sequence = (codec.onward.own asked.0 d x.taken.request.flags x.taken.request.id x.held.item.wanted admits).2 in
      elim (own_sequence d x.held.item.wanted.sequence sequence) [
        | inl short ↦ chained_end d real k os keys older before x short
        | inr long ↦
            let b = long.0 in
            let rest = long.1 in
            let upper = real_next d b rest long.3 in
            let served : IsAnswered c older d x.taken.at x.held.item.wanted (toward b (place n d).routes) b rest x.down = subst (λ (l : List As). IsServed c n older d x.taken.at x.held.item.wanted l x.down) (x.along ∙ long.2) x.served in
            elim (toward_is b (place n d).routes) [
              | inl inner ↦
                  let answered = subst (λ (on : Peer). IsAnswered c older d x.taken.at x.held.item.wanted on b rest x.down) inner served in
                  chained_on d real k os keys older before x b rest long.2 answered (told_beyond d real k os keys older before x b rest long.2 upper answered (ih b upper))
              | inr out ↦
                  chained_out d real k os keys older before x b rest long.2 out.0 out.1
                  (subst (λ (on : Peer). IsAnswered c older d x.taken.at x.held.item.wanted on b rest x.down) out.1 served)
            ]
      ]

  pub solve_chained : (fuel : ℕ) (d : As) (real : d ≢ parent_as) (k : ℕ) (os : List Output) (keys : List (Issued Segment)) (older : Transcript) (within : Within (Solves d k os keys ∷ older) now) →
      length older < fuel → Chained d k os keys older (given.solved d k os keys older real within)
  solve_chained zero d real k os keys older within less = absurd (omega (arith, less))
  solve_chained (suc fuel) d real k os keys older within less =
      by_sequence d real k os keys older (within_tail (Solves d k os keys) older now within) (given.solved d k os keys older real within)
      (λ b upper k' os' keys' older' less' w'. solve_chained fuel b upper k' os' keys' older' w' (omega (arith, less, less')))
