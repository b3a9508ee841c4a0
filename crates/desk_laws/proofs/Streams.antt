-- What drains hand out over the connection of a peer, by the events alone that open and drain it.
use Rattle.std.proofs.Common.{◌≡◌, ◌∙◌, ◌&&◌, ℕ, Bool, true, false, cond, List, [], ◌∷◌, ◌++◌, map, filter, option_map, Option, Some, None, ap, refl, subst}
use Rattle.plant_network.specs.plant_model.declared.event.Event.{Event}
use Rattle.plant_network.specs.plant_model.Blind.{is_accepted}
use Rattle.plant_network.specs.plant_model.Events.{Answered}
use Rattle.plant_network.specs.plant_model.Plant.{Entry, Plant, Run}
use Rattle.plant_network.specs.plant_model.Types.{Message, NetworkParts}
use Rattle.plant_network.specs.plant_model.Wire.{Codec}
use Rattle.plant_network.specs.Histories.{done_by}
use Rattle.run_laws.specs.Outlets.{ConnectionChange, Drains, Opens, Outlet, Shuts, Stays, handed_in, messages_for, outlet, turn_for, turned}
use Rattle.desk_laws.specs.Connections.{at_peer, is_at, is_use}

abbrev Events : Type 0
Events = List (Event × Answered)

abbrev pub turn_stream : ConnectionChange → List ℕ → Option (List ℕ) → Option (List ℕ)
turn_stream (Opens holder) bytes before = Some []
turn_stream Shuts bytes before = before
turn_stream Drains bytes before = option_map (λ (xs : List ℕ). xs ++ bytes) before
turn_stream Stays bytes before = before

-- what drains handed out since the connection was last opened; the newest event is first
abbrev pub stream : ℕ → Events → Option (List ℕ)
stream i [] = None
stream i (e ∷ es) = cond (is_accepted e.1) (turn_stream (turn_for i e.0) (handed_in e.1) (stream i es)) (stream i es)

abbrev IsHanded : Option Outlet → Option (List ℕ) → Type 0
IsHanded o q = (x : Outlet) → o ≡ Some x → q ≡ Some x.handed

handed_of : (o : Option Outlet) (x : Outlet) → o ≡ Some x → option_map (λ (y : Outlet). y.handed) o ≡ Some x.handed
handed_of o x is = ap (option_map (λ (y : Outlet). y.handed)) is

turned_handed : (b : Bool) (t : ConnectionChange) (ms : List Message) (bytes : List ℕ) (o : Option Outlet) (q : Option (List ℕ)) → IsHanded o q → IsHanded (cond b (turned t ms bytes o) o) (cond b (turn_stream t bytes q) q)
turned_handed false t ms bytes o q are x is = are x is
turned_handed true (Opens holder) ms bytes o q are x is = handed_of (turned (Opens holder) ms bytes o) x is
turned_handed true Shuts ms bytes o q are x is = absurd (let no : ⊥ = cc in no)
turned_handed true Drains ms bytes None q are x is = absurd (let no : ⊥ = cc in no)
turned_handed true Drains ms bytes (Some y) q are x is = ap (option_map (λ (xs : List ℕ). xs ++ bytes)) (are y refl) ∙ handed_of (turned Drains ms bytes (Some y)) x is
turned_handed true Stays ms bytes None q are x is = absurd (let no : ⊥ = cc in no)
turned_handed true Stays ms bytes (Some y) q are x is = are y refl ∙ handed_of (turned Stays ms bytes (Some y)) x is

-- of a connection that is open, that is what its drains handed out
pub outlet_streams : (i : ℕ) (es : List Entry) → IsHanded (outlet i es) (stream i (map done_by es))
outlet_streams i [] x is = absurd (let no : ⊥ = cc in no)
outlet_streams i (e ∷ older) x is = turned_handed (is_accepted e.answer) (turn_for i e.event) (messages_for i e.deeds) (handed_in e.answer) (outlet i older) (stream i (map done_by older)) (outlet_streams i older) x is

module _ (i : ℕ) where
  at_step : (e : Event × Answered) (es rest : Events) → stream i es ≡ stream i rest → stream i (e ∷ es) ≡ stream i (cond (is_at i e) (e ∷ rest) rest)
  at_step e es rest same = by (is_accepted e.1) (turn_for i e.0) refl refl
    where
      onto : stream i (e ∷ es) ≡ stream i (e ∷ rest)
      onto = ap (λ (q : Option (List ℕ)). cond (is_accepted e.1) (turn_stream (turn_for i e.0) (handed_in e.1) q) q) same

      by : (b : Bool) (t : ConnectionChange) → is_accepted e.1 ≡ b → turn_for i e.0 ≡ t → stream i (e ∷ es) ≡ stream i (cond (b && is_use t) (e ∷ rest) rest)
      by false t refused turn = ap (λ (b : Bool). cond b (turn_stream (turn_for i e.0) (handed_in e.1) (stream i es)) (stream i es)) refused ∙ same
      by true (Opens holder) accepted turn = onto
      by true Drains accepted turn = onto
      by true Shuts accepted turn =
          ap (λ (b : Bool). cond b (turn_stream (turn_for i e.0) (handed_in e.1) (stream i es)) (stream i es)) accepted
          ∙ ap (λ (t : ConnectionChange). turn_stream t (handed_in e.1) (stream i es)) turn ∙ same
      by true Stays accepted turn =
          ap (λ (b : Bool). cond b (turn_stream (turn_for i e.0) (handed_in e.1) (stream i es)) (stream i es)) accepted
          ∙ ap (λ (t : ConnectionChange). turn_stream t (handed_in e.1) (stream i es)) turn ∙ same

  -- no other event counts
  pub stream_at : (es : Events) → stream i es ≡ stream i (at_peer i es)
  stream_at [] = refl
  stream_at (e ∷ es) = at_step e es (at_peer i es) (stream_at es)

-- ---- parts of lists

module _ {X : Type 0} (p : X → Bool) where
  pub filter_on : (xs ys : List X) → filter p (xs ++ ys) ≡ filter p xs ++ filter p ys
  filter_on [] ys = refl
  filter_on (x ∷ xs) ys = by (p x) (filter_on xs ys)
    where
      by : (b : Bool) → filter p (xs ++ ys) ≡ filter p xs ++ filter p ys → cond b (x ∷ filter p (xs ++ ys)) (filter p (xs ++ ys)) ≡ cond b (x ∷ filter p xs) (filter p xs) ++ filter p ys
      by true rest = ap (λ (zs : List X). x ∷ zs) rest
      by false rest = rest

  abbrev Cut : List X → List X → Type 0
  Cut xs zs = (a : List X) × (b : List X) × (xs ≡ a ++ b) × (filter p b ≡ zs)

  -- where what is kept has two parts, so has the list
  pub filter_cut : (xs ys zs : List X) → filter p xs ≡ ys ++ zs → Cut xs zs
  filter_cut xs [] zs is = ([], xs, refl, is)
  filter_cut [] (y ∷ ys) zs is = absurd (let no : ⊥ = cc in no)
  filter_cut (x ∷ xs) (y ∷ ys) zs is = by (p x) is (filter_cut xs ys zs) (filter_cut xs (y ∷ ys) zs)
    where
      behind : Cut xs zs → Cut (x ∷ xs) zs
      behind c = (x ∷ c.0, c.1, ap (λ (l : List X). x ∷ l) c.2, c.3)

      by : (b : Bool) → cond b (x ∷ filter p xs) (filter p xs) ≡ y ∷ (ys ++ zs) → (filter p xs ≡ ys ++ zs → Cut xs zs) → (filter p xs ≡ y ∷ (ys ++ zs) → Cut xs zs) → Cut (x ∷ xs) zs
      by true same taken left = behind (taken (let tails : filter p xs ≡ ys ++ zs = cc in tails))
      by false same taken left = behind (left same)

module _ {X : Type 0} (p : X → Bool) where
  abbrev First : X → List X → List X → Type 0
  First z zs xs = (a : List X) × (b : List X) × (xs ≡ a ++ z ∷ b) × (p z ≡ true) × (filter p b ≡ zs)

  -- the first that is kept
  pub filter_first : (xs : List X) (z : X) (zs : List X) → filter p xs ≡ z ∷ zs → First z zs xs
  filter_first [] z zs is = absurd (let no : ⊥ = cc in no)
  filter_first (x ∷ xs) z zs is = by (p x) refl is (filter_first xs z zs)
    where
      by : (b : Bool) → p x ≡ b → cond b (x ∷ filter p xs) (filter p xs) ≡ z ∷ zs → (filter p xs ≡ z ∷ zs → First z zs xs) → First z zs (x ∷ xs)
      by true kept same later =
          let heads : x ≡ z = cc in
          let tails : filter p xs ≡ zs = cc in
          ([], xs, ap (λ (y : X). y ∷ xs) heads, subst (λ (y : X). p y ≡ true) heads kept, tails)
      by false kept same later =
          let f = later same in
          (x ∷ f.0, f.1, ap (λ (l : List X). x ∷ l) f.2, f.3, f.4)

-- a list with something in it has a first
pub first_of : {X : Type 0} (xs : List X) (y : X) (ys : List X) → (z : X) × (zs : List X) × (xs ++ y ∷ ys ≡ z ∷ zs)
first_of [] y ys = (y, ys, refl)
first_of (x ∷ xs) y ys = (x, xs ++ y ∷ ys, refl)

pub map_cut : {X Y : Type 0} (f : X → Y) (xs : List X) (ys zs : List Y) → map f xs ≡ ys ++ zs → (a : List X) × (b : List X) × (xs ≡ a ++ b) × (map f b ≡ zs)
map_cut f xs [] zs is = ([], xs, refl, is)
map_cut f [] (y ∷ ys) zs is = absurd (let no : ⊥ = cc in no)
map_cut f (x ∷ xs) (y ∷ ys) zs is =
    let tails : map f xs ≡ ys ++ zs = cc in
    let c = map_cut f xs ys zs tails in
    (x ∷ c.0, c.1, ap (λ l. x ∷ l) c.2, c.3)

-- a moment of a run
pub run_at : (c : Codec) (n : NetworkParts) (xs ys : List Entry) (s : Plant) → Run c n (xs ++ ys) s → (t : Plant) × Run c n ys t
run_at c n [] ys s run = (s, run)
run_at c n (x ∷ xs) ys s run = run_at c n xs ys run.0 run.1
