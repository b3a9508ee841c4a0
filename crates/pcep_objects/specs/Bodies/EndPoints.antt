-- The body of END-POINTS (RFC 5440, 7.6): two addresses, of IPv4 in type 1 and of IPv6 in type 2.
use Rattle.std.specs.Prelude.{ℕ, false, List, ◌++◌, Option}
use Rattle.dom_base.specs.declared.addr.Addr.{Addr}
use Rattle.dom_base.specs.declared.addr.Addr.TheVariants.{V4, V6}
use Rattle.dom_base.specs.Parts.{word_at}
use Rattle.pcep_subobjects.specs.Addresses.{addr_octets, wide_at}
use Rattle.pcep_objects.specs.declared.object.Body.{Body}
use Rattle.pcep_objects.specs.declared.object.Body.TheVariants as bodies
use Rattle.pcep_objects.specs.Layouts.{of_length}

abbrev pub end_points_of : List ℕ → Option Body
end_points_of content = of_length 8 content false (bodies.EndPoints (V4 (word_at content 0)) (V4 (word_at content 4)))

abbrev pub longer_end_points_of : List ℕ → Option Body
longer_end_points_of content = of_length 32 content false (bodies.EndPoints (V6 (wide_at content 0)) (V6 (wide_at content 16)))

abbrev pub end_points_text : Addr → Addr → List ℕ
end_points_text source target = addr_octets source ++ addr_octets target
