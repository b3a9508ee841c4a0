use Rattle.pcep_messages.proofs.Faults.{no_memory_at_fault}
use Rattle.pcep_messages.proofs.objects.fault_of_members.Goals as goal

pub unreachable-requires : goal.unreachable-requires
unreachable-requires c = no_memory_at_fault c.args.bytes.now (rw c.in-Err-NoMemory.field-0-is at c.in-Err-NoMemory.ensures)
