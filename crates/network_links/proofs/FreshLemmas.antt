-- Peers and links of which nothing has begun.
use Rattle.std.proofs.Common.{◌≡◌, ◌≤◌, ℕ, zero, suc, Bool, true, false, cond, Some, None, List, [], ◌∷◌, ◌++◌, length, get_or, drop, ◌+◌, ◌<◌, add-one, drop-cons, append_assoc, length-append, arith, refl, sym, ◌∙◌, ap}
use mathlib.Core.Path.{fun_ext}
use Rattle.std.specs.Prelude.{All, slice_get}
use Rattle.std.proofs.lemmas.Bool.{false≢true}
use Rattle.std.proofs.lemmas.List.{append-nil, drop_all}
use Rattle.std.proofs.lemmas.List.Elements.{All-push}
use Rattle.plant_model.specs.Types.{As}
use Rattle.plant_text.specs.Names.{same_as, same_link}
use Rattle.plant_text.specs.Settings.{Adjacency, has_adjacency}
use Rattle.network_links.specs.Adjacencies.{adjacency_of, are_adjacencies}
use Rattle.plant_queues.specs.Messages.{Spare}
use Rattle.plant_model.specs.State as model
use Rattle.network_links.specs.declared.access.Access.{Access}
use Rattle.network_links.specs.declared.link.End.TheVariants.{Lower, Upper}
use Rattle.network_links.specs.Links.{Joined, at_end, new_sender}
use Rattle.network_links.specs.Rooms.{KeepsRoom, queue}
use Rattle.network_links.specs.Flow.{no_room}
use Rattle.network_links.specs.Peers.{Guests, guests_of, no_guests, never_open, access_or, room_or}
use Rattle.network_links.specs.Sides.{Side, row_of, side_at, side_or, link_at, end_of, adjacencies_in, AreNewLinks}

-- ---- peers

abbrev pub AreNew : ℕ → List Access → Type 0
AreNew count as' = (length as' ≡ count) × All (λ (a : Access). a ≡ never_open) as'

never : (as' : List Access) → All (λ (a : Access). a ≡ never_open) as' → (i : ℕ) → (access_or (slice_get as' i) ≡ record { opened = 0; connection = None }) × (room_or (slice_get as' i) ≡ no_room)
never [] all i = (refl, refl)
never (a ∷ as') all zero = (ap (λ (x : Access). access_or (Some x)) (all zero a (omega arith)), ap (λ (x : Access). room_or (Some x)) (all zero a (omega arith)))
never (a ∷ as') all (suc i) = never as' (λ k d within. all (suc k) d (omega arith)) i

pub new_guests : (count : ℕ) (as' : List Access) → AreNew count as' → guests_of as' ≡ no_guests count
new_guests count as' new =
    ap (λ (k : ℕ). let g : Guests = record { count = k; accesses = λ (i : ℕ). access_or (slice_get as' i); room = λ (i : ℕ). room_or (slice_get as' i) } in g) new.0
    ∙ ap (λ (f : ℕ → model.Access). let g : Guests = record { count = count; accesses = f; room = λ (i : ℕ). room_or (slice_get as' i) } in g) (fun_ext (λ i. (never as' new.1 i).0))
    ∙ ap (λ (f : ℕ → Spare). let g : Guests = record { count = count; accesses = λ (i : ℕ). record { opened = 0; connection = None }; room = f } in g) (fun_ext (λ i. (never as' new.1 i).1))

-- one peer more
pub one_more_new : (count : ℕ) (as' : List Access) (a : Access) → AreNew count as' → a ≡ never_open → AreNew (count + 1) (as' ++ a ∷ [])
one_more_new count as' a new is = (omega (arith, length-append as' (a ∷ []), new.0), All-push (λ (x : Access). x ≡ never_open) as' a new.1 is)

-- ---- links

pub record IsNewSide (s : Side) : Type 0 where
  pub kept : s.kept ≡ new_sender
  pub room : KeepsRoom 0 0 (queue [] s.spare)

pub record IsNewLink (x : Joined) : Type 0 where
  pub lower : IsNewSide x.lower
  pub upper : IsNewSide x.upper

new_end : (a : As) (x : Joined) → IsNewLink x → IsNewSide (at_end (end_of a x.adjacency) x)
new_end a x new = go (same_as x.adjacency.lower a)
  where
    go : (t : Bool) → IsNewSide (at_end (cond t Lower Upper) x)
    go true = new.lower
    go false = new.upper

new_sides : (xs : List Joined) → All IsNewLink xs → (a b : As) → (side_at xs a b).kept ≡ new_sender
new_sides [] all a b = refl
new_sides (x ∷ xs) all a b = go (new_sides xs (λ k d within. all (suc k) d (omega arith)) a b) (same_link x.adjacency.lower x.adjacency.upper a b)
  where
    go : (side_at xs a b).kept ≡ new_sender → (t : Bool) → (side_or a (cond t (Some x) (link_at a b xs))).kept ≡ new_sender
    go rest true = (new_end a x (all zero x (omega arith))).kept
    go rest false = rest

new_room : (xs : List Joined) → All IsNewLink xs → (a b : As) → has_adjacency a b (adjacencies_in xs) ≡ true → KeepsRoom 0 0 (queue [] (side_at xs a b).spare)
new_room [] all a b is = absurd (false≢true is)
new_room (x ∷ xs) all a b is = go (λ is'. new_room xs (λ k d within. all (suc k) d (omega arith)) a b is') (same_link x.adjacency.lower x.adjacency.upper a b) is
  where
    go : (has_adjacency a b (adjacencies_in xs) ≡ true → KeepsRoom 0 0 (queue [] (side_at xs a b).spare)) → (t : Bool) → cond t true (has_adjacency a b (adjacencies_in xs)) ≡ true → KeepsRoom 0 0 (queue [] (side_or a (cond t (Some x) (link_at a b xs))).spare)
    go rest true is' = (new_end a x (all zero x (omega arith))).room
    go rest false is' = rest is'

pub new_links : (adjacencies : List Adjacency) (xs : List Joined) → adjacencies_in xs ≡ adjacencies → All IsNewLink xs → AreNewLinks adjacencies (row_of xs)
new_links adjacencies xs same all = record {
  adjacencies_are = same;
  sides = new_sides xs all;
  room = λ a b is. new_room xs all a b (ap (has_adjacency a b) same ∙ is);
}

-- ---- links are made one after the other

abbrev pub Pair : Type 0
Pair = As × As

pub all_adjacencies : (ps : List Pair) (i : ℕ) (done : List Adjacency) → length ps ≤ i → done ++ are_adjacencies (drop i ps) ≡ are_adjacencies ps → done ≡ are_adjacencies ps
all_adjacencies ps i done past is = sym (ap (λ (rest : List Pair). done ++ are_adjacencies rest) (drop_all i ps past) ∙ append-nil done) ∙ is

adjacencies_append : (xs : List Joined) (x : Joined) → adjacencies_in (xs ++ x ∷ []) ≡ adjacencies_in xs ++ x.adjacency ∷ []
adjacencies_append [] x = refl
adjacencies_append (y ∷ xs) x = ap (λ (rest : List Adjacency). y.adjacency ∷ rest) (adjacencies_append xs x)

pub one_more : (ps : List Pair) (i : ℕ) (xs : List Joined) (x : Joined) (d : Pair) → i < length ps → x.adjacency ≡ adjacency_of (get_or ps i d) →
    adjacencies_in xs ++ are_adjacencies (drop i ps) ≡ are_adjacencies ps → adjacencies_in (xs ++ x ∷ []) ++ are_adjacencies (drop (i + 1) ps) ≡ are_adjacencies ps
one_more ps i xs x d within adjacency done =
    ap (λ (ls : List Adjacency). ls ++ are_adjacencies (drop (i + 1) ps)) (adjacencies_append xs x)
    ∙ append_assoc (adjacencies_in xs) (x.adjacency ∷ []) (are_adjacencies (drop (i + 1) ps))
    ∙ ap (λ (l : Adjacency). adjacencies_in xs ++ l ∷ are_adjacencies (drop (i + 1) ps)) adjacency
    ∙ ap (λ (rest : List Pair). adjacencies_in xs ++ are_adjacencies rest) (sym rest_is)
    ∙ done
  where
    rest_is : drop i ps ≡ get_or ps i d ∷ drop (i + 1) ps
    rest_is = rw (add-one, drop-cons ps i d) refl

pub all_new : (xs : List Joined) (x : Joined) → All IsNewLink xs → IsNewLink x → All IsNewLink (xs ++ x ∷ [])
all_new xs x all new = All-push IsNewLink xs x all new
