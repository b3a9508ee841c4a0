-- A query that asks nothing of a link allows every link.
use Rattle.std.proofs.Common.{◌≡◌, inl, ℕ, arith, sym, ◌∙◌}
use Rattle.std.specs.Prelude.{bit_and}
use Rattle.std.proofs.lemmas.Nat.{and_le_r}
use Rattle.dom_base.specs.declared.link.Link.{Link}
use Rattle.dom_base.specs.declared.query.Query.{Query}
use Rattle.dom_base.specs.Admission.{Allows}
use Rattle.path_constraints.specs.Asking.{AsksNothing}

none_shared : (n m : ℕ) → m ≡ 0 → bit_and n m ≡ 0
none_shared n m is = omega (arith, is, and_le_r n m)

pub all_allowed : (q : Query) → AsksNothing q → (l : Link) → Allows q l
all_allowed q asks l = record {
  fits = record {
    bandwidth = omega (arith, asks.bandwidth);
    exclude_any = none_shared l.colour q.exclude_any asks.exclude_any;
    include_any = inl asks.include_any;
    include_all = none_shared l.colour q.include_all asks.include_all ∙ sym asks.include_all;
  };
  free = λ bars. omega (arith, asks.exclusions, bars.is_row.1);
}
