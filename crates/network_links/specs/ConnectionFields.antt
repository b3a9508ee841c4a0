-- A connection as contracts see it, by its fields.
use Rattle.plant_model.specs.State.{Connection}
use Rattle.network_links.specs.Ends.{Roomy}
use Rattle.network_links.specs.declared.connection.Connection.TheInside.{Inside}

abbrev pub connection_of : Inside → Roomy Connection
connection_of a = record {
  kept = record {
    holder = a.holder;
    session = a.side.kept.session;
    framing = a.framer;
    inbox = a.inbox.items;
    out = a.side.kept.out;
  };
  spare = a.side.spare;
}
