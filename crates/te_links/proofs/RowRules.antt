-- What a row and the survey of all rows tell of each rule.
use Rattle.std.proofs.Common.{◌≡◌, ◌⊎◌, inl, inr, ℕ, ◌+◌, ◌<◌, Bool, true, false, not, List, ◌++◌, length, map, take, get_or, Some, refl, sym, ◌∙◌, ap, subst, arith}
use Rattle.std.specs.Prelude.{Contains, IsPermutation, slice_get}
use Rattle.std.specs.Bool.{Decides}
use Rattle.std.proofs.Math.Dec.{ltb}
use Rattle.std.proofs.lemmas.Bool.Decides.{Decides-like, Decides-ltb, Decides-not, not_from_Decides}
use Rattle.std.proofs.lemmas.List.{get_or_default, take-map}
use Rattle.std.proofs.lemmas.List.Sorted.{IsPermutation-sym, Contains-permutation}
use Rattle.std.proofs.lemmas.Option.{slice_get_within, slice_get_read}
use Rattle.dom_base.specs.declared.addr.Addr.{Addr}
use Rattle.dom_base.specs.declared.link.Link.{Link}
use Rattle.te_links.specs.declared.rows.OutLink.{OutLink}
use Rattle.te_links.specs.Rows.{Rows, all_links}
use Rattle.te_links.specs.Faults.{links_before_out}
use Rattle.te_links.specs.Survey.{TellsRepeats}
use Rattle.te_links.proofs.Sound.{at_left, at_right, take_left, take_right, to_map}

-- a rule that is not of the row's kind
pub not_told : Decides false ⊥
not_told = (λ f. cc, λ broken. absurd broken)

-- what decides one statement decides another
pub told_by : {P Q : Type 0} (b : Bool) → Decides b P → (P → Q) → (¬ P → ¬ Q) → Decides b Q
told_by {P} {Q} b d if_so if_not =
    let go : (t : Bool) → Decides t P → Decides t Q =
    λ t. elim t as (λ u. Decides u P → Decides u Q) [
      | true ↦ λ e. (λ is. if_so (e.0 refl), λ q. refl)
      | false ↦ λ e. (λ is. cc, λ q. absurd (if_not (not_from_Decides false e refl) q))
    ] in
    go b d

-- whether a key stands before, read of the counts
pub told_repeat : {K : Type 0} (keys : List K) (counts : List ℕ) (k : ℕ) (x : K) (v : ℕ) → TellsRepeats keys counts → slice_get keys k ≡ Some x → v ≡ get_or counts k v →
    Decides (ltb 0 v) (Contains (take k keys) x)
told_repeat keys counts k x v tells at is =
    let same = is ∙ get_or_default counts k v 0 (omega (arith, slice_get_within keys k x at, tells.each)) in
    told_by (ltb 0 v) (Decides-ltb 0 v) (λ some. tells.repeats k x at (omega (arith, some, same))) (λ none. tells.differs k x at (omega (arith, none, same)))

pub link_key : (g : Rows) (key : Link → Addr) (i : ℕ) (l : Link) → slice_get g.links i ≡ Some l →
    (slice_get (map key (all_links g)) i ≡ Some (key l)) × (take i (map key (all_links g)) ≡ map key (take i g.links))
link_key g key i l at = (
  to_map key (all_links g) i l (at_left g.links (map (λ o. o.link) g.outs) i l at),
  take-map key i (all_links g) ∙ ap (map key) (take_left g.links (map (λ o. o.link) g.outs) i (let w = slice_get_within g.links i l at in omega (arith, w))),
)

pub out_key : (g : Rows) (key : Link → Addr) (i : ℕ) (o : OutLink) → slice_get g.outs i ≡ Some o →
    (slice_get (map key (all_links g)) (length g.links + i) ≡ Some (key o.link)) × (take (length g.links + i) (map key (all_links g)) ≡ map key (links_before_out g i))
out_key g key i o at =
    let link : OutLink → Link = λ p. p.link in (
      to_map key (all_links g) (length g.links + i) o.link (at_right g.links (map link g.outs) i o.link (to_map link g.outs i o at)),
      take-map key (length g.links + i) (all_links g)
          ∙ ap (map key) (take_right g.links (map link g.outs) i ∙ ap (λ l. g.links ++ l) (take-map link i g.outs)),
    )

pub link_repeat : (g : Rows) (key : Link → Addr) (counts : List ℕ) (i : ℕ) (l : Link) (v : ℕ) → slice_get g.links i ≡ Some l → TellsRepeats (map key (all_links g)) counts → v ≡ get_or counts i v →
    Decides (ltb 0 v) (Contains (map key (take i g.links)) (key l))
link_repeat g key counts i l v at tells is =
    let found = link_key g key i l at in
    subst (λ keys. Decides (ltb 0 v) (Contains keys (key l))) found.1 (told_repeat (map key (all_links g)) counts i (key l) v tells found.0 is)

pub out_repeat : (g : Rows) (key : Link → Addr) (counts : List ℕ) (i : ℕ) (o : OutLink) (v n : ℕ) → slice_get g.outs i ≡ Some o → TellsRepeats (map key (all_links g)) counts → n ≡ length g.links →
    v ≡ get_or counts (n + i) v → Decides (ltb 0 v) (Contains (map key (links_before_out g i)) (key o.link))
out_repeat g key counts i o v n at tells before is =
    let found = out_key g key i o at in
    subst (λ keys. Decides (ltb 0 v) (Contains keys (key o.link))) found.1
    (told_repeat (map key (all_links g)) counts (length g.links + i) (key o.link) v tells found.0 (subst (λ m. v ≡ get_or counts (m + i) v) before is))

pub read_at : {X : Type 0} (rows read : List X) (i : ℕ) (x : X) → read ≡ rows → i < length rows → x ≡ get_or read i x → slice_get rows i ≡ Some x
read_at {X} rows read i x same inside is =
    subst (λ (l : List X). slice_get l i ≡ Some x) same (slice_get_read read (length read) i x refl (rw same inside) is)

same_nodes : (xs ys read : List Addr) (a : Addr) → IsPermutation xs ys → read ≡ ys → (Contains xs a → Contains read a) × (Contains read a → Contains xs a)
same_nodes xs ys read a moves same = (
  λ has. subst (λ l. Contains l a) (sym same) (Contains-permutation xs ys a moves has),
  λ has. Contains-permutation ys xs a (IsPermutation-sym xs ys moves) (subst (λ l. Contains l a) same has),
)

pub told_node : (xs ys read : List Addr) (a : Addr) (b : Bool) → IsPermutation xs ys → read ≡ ys → Decides b (Contains read a) → Decides (not b) (¬ Contains xs a)
told_node xs ys read a b moves same d =
    let nodes = same_nodes xs ys read a moves same in
    Decides-not b (Decides-like b nodes.1 nodes.0 d)

pub told_ends : (xs ys read : List Addr) (from to : Addr) (b : Bool) → IsPermutation xs ys → read ≡ ys → Decides b ((¬ Contains read from) ⊎ (¬ Contains read to)) →
    Decides b ((¬ Contains xs from) ⊎ (¬ Contains xs to))
told_ends xs ys read from to b moves same d =
    let tail = same_nodes xs ys read from moves same in
    let head = same_nodes xs ys read to moves same in
    Decides-like b
    (λ lacks. elim lacks [ inl lack ↦ inl (λ has. lack (tail.0 has)) | inr lack ↦ inr (λ has. lack (head.0 has)) ])
    (λ lacks. elim lacks [ inl lack ↦ inl (λ has. lack (tail.1 has)) | inr lack ↦ inr (λ has. lack (head.1 has)) ])
    d
