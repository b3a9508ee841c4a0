-- What the parent's taking of one request leaves of its requests.
use Rattle.std.proofs.Common.{◌≡◌, ℕ, ◌+◌, Bool, true, false, cond, ◌==◌, Option, Some, None, List, [], ◌∷◌, sym, subst, refl, arith}
use Rattle.plant_model.specs.Types.{Peer, Inner, Message, Asked, Request, Wanted, Wish, RequestKey}
use Rattle.pcep_messages.specs.declared.message.Wish.TheVariants.{Path, Expand}
use Rattle.request_table.specs.Pending.{Pending, ArePending, same_peer, number_of, is_full}
use Rattle.plant_model.specs.declared.output.Output.{Output}
use Rattle.plant_text.specs.Names.{parent_as}
use Rattle.plant_model.specs.Wire.{Codec, Checked, Admitted, Wrong}
use Rattle.plant_model.specs.Writing.{reply_message, busy, unavailable}
use Rattle.plant_model.specs.Element.{Way, with_last}
use Rattle.plant_model.specs.Parent as parent
use Rattle.plant_model.specs.Parent.{Parent, ParentTaken, Family, Asking, Wait, Errand}
use Rattle.plant_laws.specs.Transcript.{answers_to, Effect, Keeps, begins_if}
use Rattle.plant_laws.proofs.Once.TableSteps.{AnswersOnly, reply_answers, busy_answers}
use Rattle.plant_laws.proofs.Once.TableAsks.{IsAsked, keeps_asked, answered_keeps, repeats_asked, opens_asked}
use Rattle.plant_laws.proofs.Once.ParentSteps.{core}

-- a request that was opened just now is that which was asked
pub record IsFresh (c : Codec) (p : Peer) (a : Asked) (key : RequestKey) (u : Asking) : Type 0 where
  pub peer : key.peer ≡ p
  pub request : Request
  pub admitted : c.check a parent_as ≡ Admitted request
  pub id : request.id ≡ key.id
  pub flags' : request.flags ≡ u.flags
  pub wish' : request.wish ≡ Path u.wanted

zero_more : (b : Bool) (n : ℕ) → n ≡ 0 → cond b 0 0 + n ≡ 0
zero_more true n e = omega (arith, e)
zero_more false n e = omega (arith, e)

-- requests to children answer nobody
quiet_asks : (w : Wanted) (key : RequestKey) (taken : List Wait) (rs : List Errand) (ways : List Way) → answers_to key.peer key.id (parent.ask_all w taken rs ways).outputs ≡ 0
quiet_asks w key taken [] ways = refl
quiet_asks w key taken (r ∷ rs) ways =
    let p = Inner r.child in
    let y = parent.next_id p taken ways in
    let one : Wait = record { peer = p; id = y; child = r.child; target = r.target } in
    zero_more (same_peer p key.peer) (answers_to key.peer key.id (parent.ask_all w (one ∷ taken) rs (with_last p y ways)).outputs) (quiet_asks w key (one ∷ taken) rs (with_last p y ways))

module _ (c : Codec) (f : Family) (p : Peer) (a : Asked) (k : Parent) where
  abbrev Good : RequestKey → Asking → Type 0
  Good = IsFresh c p a

  abbrev pub asked_effect : Checked → List Output → RequestKey → Effect
  asked_effect r os key = cond (same_peer p key.peer) (begins_if c parent_as key.id (answers_to key.peer key.id os) r) Keeps

  abbrev Holds : Checked → ParentTaken → Type 0
  Holds r t = IsAsked core Good (asked_effect r t.outputs) k.pending t.parent.pending

  no_effect : (r : Checked) (t : ParentTaken) → t.parent.pending ≡ k.pending → ArePending k.pending → ((key : RequestKey) → asked_effect r t.outputs key ≡ Keeps) → Holds r t
  no_effect r t same are keeps = subst (λ (q : Pending Asking). IsAsked core Good (asked_effect r t.outputs) k.pending q) (sym same) (keeps_asked core Good k.pending (asked_effect r t.outputs) are keeps)

  cond_same : (b : Bool) → cond b Keeps Keeps ≡ Keeps
  cond_same true = refl
  cond_same false = refl

  cond_twice : (b d : Bool) → cond b (cond d Keeps Keeps) Keeps ≡ Keeps
  cond_twice true d = cond_same d
  cond_twice false d = refl

  module _ (flags x : ℕ) where
    abbrev path_request : Wanted → Request
    path_request w = record { flags = flags; id = x; wish = Path w }

    refused : (w : Wanted) (m : Message) → AnswersOnly x m → ArePending k.pending → Holds (Admitted (path_request w)) (parent.only p m k)
    refused w m single are = no_effect (Admitted (path_request w)) (parent.only p m k) refl are (λ key. answered_keeps core Good p x m single key)

    wish_asked : (wish : Wish) → ArePending k.pending → c.check a parent_as ≡ Admitted (record { flags = flags; id = x; wish = wish }) → number_of k.pending p x ≡ None →
        Holds (Admitted (record { flags = flags; id = x; wish = wish })) (parent.take_wish f p flags x k wish)
    wish_asked (Expand key pce) are admitted none =
        no_effect (Admitted (record { flags = flags; id = x; wish = Expand key pce })) (parent.take_wish f p flags x k (Expand key pce)) refl are (λ key'. cond_twice (same_peer p key'.peer) (x == key'.id))
    wish_asked (Path w) are admitted none = go (is_full k.pending) (parent.all_up f.children k.ways) refl
      where
        go : (b u : Bool) → is_full k.pending ≡ b →
            Holds (Admitted (path_request w)) (cond b (parent.only p (busy flags x) k) (cond u (parent.take_path f p flags x w k) (parent.only p (reply_message flags x unavailable) k)))
        go true u full = refused w (busy flags x) (busy_answers flags x) are
        go false false room = refused w (reply_message flags x unavailable) (reply_answers flags x unavailable) are
        go false true room =
            let rs = parent.errands f.links w.target f.children in
            let asks = parent.ask_all w (parent.all_waits k.pending.rows) rs k.ways in
            opens_asked core Good k.pending p x (record { flags = flags; wanted = w; waits = asks.waits; rows = [] }) (λ key. answers_to key.peer key.id asks.outputs) are room none
            (λ key. quiet_asks w key (parent.all_waits k.pending.rows) rs k.ways)
            (record { peer = refl; request = path_request w; admitted = admitted; id = refl; flags' = refl; wish' = refl })

    repeated : (wish : Wish) (number : ℕ) → ArePending k.pending → number_of k.pending p x ≡ Some number → Holds (Admitted (record { flags = flags; id = x; wish = wish })) (parent.silent k)
    repeated (Expand key pce) number are some = no_effect (Admitted (record { flags = flags; id = x; wish = Expand key pce })) (parent.silent k) refl are (λ key'. cond_twice (same_peer p key'.peer) (x == key'.id))
    repeated (Path w) number are some = repeats_asked core Good k.pending p x number are some

  checked_asked : (r : Checked) → ArePending k.pending → c.check a parent_as ≡ r → Holds r (parent.take_checked f p k r)
  checked_asked (Wrong rp kind value) are is =
      no_effect (Wrong rp kind value) (parent.take_checked f p k (Wrong rp kind value)) refl are (λ key. cond_same (same_peer p key.peer))
  checked_asked (Admitted r) are is = go (number_of k.pending p r.id) refl
    where
      go : (o : Option ℕ) → number_of k.pending p r.id ≡ o → Holds (Admitted r) (parent.take_new f p r k o)
      go None none = wish_asked r.flags r.id r.wish are is none
      go (Some number) some = repeated r.flags r.id r.wish number are some

  pub asked_step : ArePending k.pending →
      IsAsked core (IsFresh c p a) (asked_effect (c.check a parent_as) (parent.take_asked c f p a k).outputs) k.pending (parent.take_asked c f p a k).parent.pending
  asked_step are = checked_asked (c.check a parent_as) are refl
