-- The octets of a short text, by its length.
use Rattle.std.specs.Prelude.{ℕ, List}
use Rattle.network_links.specs.declared.own.Short.{Short}
use Rattle.network_links.specs.declared.own.Short.TheVariants.{Word, Object, Capable, Answer}
use Rattle.network_links.specs.declared.own.ShortText.TheInside.{Inside}

abbrev pub octets_of : Short → List ℕ
octets_of (Word octets) = octets
octets_of (Object octets) = octets
octets_of (Capable octets) = octets
octets_of (Answer octets) = octets

abbrev pub text_of : Inside → List ℕ
text_of a = octets_of a.octets
