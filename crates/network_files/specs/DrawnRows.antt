-- The rows of the domains: four in a row, of 50 nodes each. Inner links have metrics and bandwidths that are drawn.
use Rattle.std.specs.Prelude.{ℕ, ◌+◌, ◌-◌, ◌*◌, ◌%◌, ◌==◌, ◌&&◌, ◌||◌, Bool, nat_lt, List, [], ◌∷◌, map, if◌then◌else◌}
use Rattle.std.specs.List.{filter, flat_map, range_with_len}
use Rattle.dom_base.specs.declared.addr.Addr.{Addr}
use Rattle.dom_base.specs.declared.addr.Addr.TheVariants.{V4}
use Rattle.dom_base.specs.declared.link.Link.{Link}
use Rattle.te_links.specs.declared.rows.Entry.{Entry}
use Rattle.te_links.specs.declared.rows.OutLink.{OutLink}
use Rattle.te_links.specs.declared.rows.Parts.{Parts}
use Rattle.network_files.specs.declared.drawn_rows.Span.{Span}
use Rattle.network_files.specs.Draws.{drawn}

-- the IPv4 address 10.a.b.c
abbrev pub ten : ℕ → ℕ → ℕ → Addr
ten a b c = V4 (167772160 + a * 65536 + b * 256 + c)

-- node i of domain d
abbrev pub node : ℕ → ℕ → Addr
node d i = ten d 0 i

unfoldable pub numbers : List ℕ
numbers = range_with_len 1 50

-- ---- inner links

-- from a node to the next
abbrev pub is_next : ℕ → ℕ → Bool
is_next a b = a + 1 == b

-- from a node to the tenth behind it
abbrev pub is_far : ℕ → ℕ → Bool
is_far a b = (a == 1 || a == 11 || a == 21 || a == 31) && (a + 10 == b)

-- in both directions
abbrev pub are_joined : ℕ → ℕ → Bool
are_joined a b = is_next a b || is_next b a || is_far a b || is_far b a

abbrev pub span : ℕ → ℕ → Span
span to from = record { from = from; to = to }

-- the links that end at a node, in the order of the nodes at which they begin
abbrev pub spans_to : ℕ → List Span
spans_to to = filter (λ s. are_joined s.from s.to) (map (span to) numbers)

-- all of them, in the order of their far addresses
unfoldable pub spans : List Span
spans = flat_map spans_to numbers

-- the end of a link at one of its nodes
abbrev pub side : ℕ → ℕ → ℕ → Addr
side d at other = ten (100 + d) at other

-- the link of which the k-th draw makes the metric, and the next the bandwidth
abbrev pub drawn_link : ℕ → ℕ → Span → Link
drawn_link d k s = record {
  from = node d s.from;
  to = node d s.to;
  near = side d s.from s.to;
  far = side d s.to s.from;
  igp = 1;
  te = 10 + drawn k % 991;
  bytes_per_second = drawn (k + 1) % 4;
  colour = 0;
  srlgs = [];
}

-- each takes two draws, from the k-th on
abbrev pub drawn_links : ℕ → ℕ → List Span → List Link
drawn_links d k [] = []
drawn_links d k (s ∷ ss) = drawn_link d k s ∷ drawn_links d (k + 2) ss

-- ---- other rows

abbrev pub nodes_of : ℕ → List Addr
nodes_of d = map (node d) numbers

-- an end of the link to the next domain
abbrev pub out_address : ℕ → ℕ → Addr
out_address d last = ten 200 d last

-- from the last node to the first of the next domain
abbrev pub out_link : ℕ → OutLink
out_link d = record {
  link = record {
    from = node d 50;
    to = node (d + 1) 1;
    near = out_address d 1;
    far = out_address d 2;
    igp = 1;
    te = 1000;
    bytes_per_second = 1000000;
    colour = 0;
    srlgs = [];
  };
  to_as = record { 0 = d + 1 };
}

abbrev pub outs_of : ℕ → List OutLink
outs_of d = if nat_lt d 4 then out_link d ∷ [] else []

-- at the first node, from the domain before
abbrev pub entries_of : ℕ → List Entry
entries_of d = if nat_lt 1 d then record { from_as = record { 0 = d - 1 }; node = node d 1 } ∷ [] else []

-- the rows of domain d, whose links take the draws from the k-th on
abbrev pub parts_of : ℕ → ℕ → Parts
parts_of d k = record {
  own = record { 0 = d };
  nodes = nodes_of d;
  links = drawn_links d k spans;
  outs = outs_of d;
  entries = entries_of d;
}
