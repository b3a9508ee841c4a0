-- A link as contracts see it, by its fields.
use Rattle.std.specs.Prelude.{◌≡◌}
use Rattle.network_links.specs.Links.{Joined}
use Rattle.network_links.specs.declared.link.Link.TheInside.{Inside}

abbrev pub link_of : Inside → Joined
link_of a = record { adjacency = record { lower = a.below; upper = a.above }; lower = a.lower; upper = a.upper }

-- the numbers of both sessions
pub record KeepsNumbers (a : Inside) : Type 0 where
  pub lower : a.lower.kept.session.offer.sid ≡ a.lower_sid
  pub upper : a.upper.kept.session.offer.sid ≡ a.upper_sid
