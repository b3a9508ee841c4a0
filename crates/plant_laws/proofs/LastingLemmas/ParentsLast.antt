-- Whatever the parent does, each of its requests that can be solved stays as it is until it ends.
use Rattle.std.proofs.Common.{◌≡◌, ℕ, true, false, List, [], ◌∷◌, Option, refl}
use Rattle.plant_model.specs.Types.{Peer, Message}
use Rattle.request_table.specs.Pending.{opened_of, closed_of}
use Rattle.request_table.specs.Lends.{written_of}
use Rattle.plant_laws.specs.About.{told_in}
use Rattle.plant_model.specs.Wire.{Codec}
use Rattle.plant_model.specs.BorderGraph.{Found}
use Rattle.plant_model.specs.Parent.{Wait, Asking, AskingRow, Parent, Family, each, among, all_waits, errands, ask_all, gathered, ended, take, is_ready, stays, upped, downed, commit}
use Rattle.plant_laws.proofs.Runs.ParentTakesKept.{found_in, take_after, commit_after}
use Rattle.plant_laws.proofs.LastingLemmas.Tables.{Becomes, still, and_then, closed, opened, filtered, written}

abbrev pub Lasts : Parent → Parent → Type 0
Lasts k t = Becomes is_ready k.pending t.pending

-- a request that waits can't be solved
not_ready : (p : Peer) (y : ℕ) (waits : List Wait) (i : Asking) → i.waits ≡ waits → among p waits y ≡ true → is_ready i ≡ false
not_ready p y [] i is has = absurd (let no : false ≡ true = has in cc)
not_ready p y (w ∷ ws) i is has = rw is refl

ends : (k : Parent) (number : ℕ) (t : Parent) → Lasts k t → Lasts k (ended number t)
ends k number t lasts = and_then is_ready k.pending t.pending (closed_of t.pending number) lasts (closed is_ready number t.pending)

pub take_lasts : (c : Codec) (f : Family) (p : Peer) (m : Message) (k : Parent) → Lasts k (take c f p m k).parent
take_lasts c f p m k =
    take_after (Lasts k) (ends k) c f p
    (λ flags x w t lasts.
    let item : Asking = record { flags = flags; wanted = w; waits = (ask_all w (all_waits t.pending.rows) (errands f.links w.target f.children) t.ways).waits; rows = [] } in
    and_then is_ready k.pending t.pending (opened_of t.pending p x item) lasts (opened is_ready p x item t.pending)) m
    (λ r h t i found lasts.
    let there = found_in p r.id t.pending.rows h found in
    let item = gathered p r.id (told_in c h.1.item.wanted.query.metric r.answer) h.1.item in
    and_then is_ready k.pending t.pending (written_of t.pending h.0 item) lasts (written is_ready h item t.pending there.0 (not_ready p r.id h.1.item.waits h.1.item refl there.1))) k (still is_ready k.pending)

pub upped_lasts : (p : Peer) (k : Parent) → Lasts k (upped p k)
upped_lasts p k = still is_ready k.pending

pub downed_lasts : (p : Peer) (k : Parent) → Lasts k (downed p k).parent
downed_lasts p k = filtered is_ready (stays p) k.pending

pub commit_lasts : (c : Codec) (h : AskingRow) (a : Option Found) (k : Parent) → Lasts k (commit c h a k).parent
commit_lasts c h a k = commit_after (Lasts k) (ends k) c h a k (still is_ready k.pending)
