-- A traffic as contracts see it, by its fields.
use Rattle.network_links.specs.Carried.{Carried}
use Rattle.network_links.specs.declared.traffic.Traffic.TheInside.{Inside}

abbrev pub carried_of : Inside → Carried
carried_of a = record { clock = a.clock.0; peers = a.peers; links = a.links; said = a.said }
