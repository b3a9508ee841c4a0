-- An end of a session as contracts see it, by its fields.
use Rattle.network_links.specs.Ends.{Roomy, Sender}
use Rattle.network_links.specs.declared.side.Side.TheInside.{Inside}

abbrev pub sender_of : Inside → Roomy Sender
sender_of a = record { kept = record { session = a.session; out = a.out.kept }; spare = a.out.spare }
