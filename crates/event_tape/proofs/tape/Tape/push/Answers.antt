use Rattle.std.proofs.Common.{Some, rules}
use Rattle.event_tape.specs.Counting.{IsRoom}
use Rattle.event_tape.specs.Tapes.{event_of}
use Rattle.event_tape.specs.Fields.{taped_of}
use Rattle.event_tape.proofs.Counted.{counted, most, numbered}
use Rattle.event_tape.proofs.tape.Tape.push.Goals as goal

pub invariant_of-self-in-Ok : goal.invariant_of-self-in-Ok
invariant_of-self-in-Ok c =
    let t = taped_of c.self.inside in
    let room : IsRoom (Some c.in-Some.octets) t (event_of c.args.item) = search rules in
    let is = c.in-Ok.ensures.items in
    record {
      octets = counted t c.args.item c.in-Some.octets room c.push.new.self.items is;
      most = most t c.args.item c.in-Some.octets room c.push.new.self.items is;
      numbered = numbered t c.args.item c.in-Some.octets room c.push.new.self.items is;
    }
