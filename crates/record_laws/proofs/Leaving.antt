-- Whatever ended a record, some first of its events stand in its files.
use Rattle.std.proofs.Common.{◌∙◌, ◌+◌, List, [], ◌∷◌, ◌++◌, Option, Some, None, refl, sym, ap, append-nil}
use Rattle.dom_edge.specs.Folders.{Contents}
use Rattle.plant_text.specs.declared.settings.PeerRow.{PeerRow}
use Rattle.event_tape.specs.declared.tape.TapeEnd.{TapeEnd}
use Rattle.event_tape.specs.declared.told.Told.{Told}
use Rattle.plant_record.specs.Books.{next_part, part_count, told_in}
use Rattle.plant_record.specs.Parts.{Title, part_name, part_text, tail_by, topologies}
use Rattle.plant_record.specs.Recording.{IsPart, IsWhole, Leaves}
use Rattle.plant_record.specs.declared.recorded.Recorded.{Recorded}
use Rattle.plant_record.specs.declared.recorded.Recorded.TheVariants.{Ended, Turns, Spent, Lost, Fault}
use Rattle.record_laws.specs.Records.{EndsAreRecords}

whole_is_part : (peers : List PeerRow) (t : Title) (told : List Told) (ended : Option TapeEnd) (c : Option Contents) → IsWhole peers t told ended c → IsPart peers t told c
whole_is_part peers t told ended c w = record {
  book = w.book;
  sound = w.sound;
  last = (part_name (part_count w.book + 1), part_text peers t (next_part w.book w.moment w.events) ++ tail_by ended) ∷ [];
  is_last = (
    refl,
    record {
      moment = w.moment;
      events = w.events;
      page = w.page;
      first = ([], w.all ∙ sym (append-nil (told_in w.book ++ w.events)));
      topologies_are = ([], w.topologies_are ∙ ap topologies w.all ∙ sym (append-nil (topologies (told_in w.book ++ w.events))));
      ended = ended;
      begins = ([], sym (append-nil (part_text peers t (next_part w.book w.moment w.events) ++ tail_by ended)));
    },
  );
  contents = w.contents;
  is = w.is;
  closed = w.closed;
}

leaves_part : (peers : List PeerRow) (t : Title) (told : List Told) (end : Recorded) (c : Option Contents) → Leaves peers t told end c → IsPart peers t told c
leaves_part peers t told (Fault why) c left = left
leaves_part peers t told (Ended why) c left = whole_is_part peers t told (Some why) c left
leaves_part peers t told Turns c left = whole_is_part peers t told None c left
leaves_part peers t told (Spent k) c left = whole_is_part peers t told None c left
leaves_part peers t told Lost c left = whole_is_part peers t told None c left

pub ends_are_records : EndsAreRecords
ends_are_records n t title told end c left = record { title = t; is_title = title; part = leaves_part n.peers t told end (Some c) left }
