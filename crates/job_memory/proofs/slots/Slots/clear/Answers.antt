use Rattle.job_memory.proofs.SlotLemmas.{sorted-entries_of}
use Rattle.job_memory.proofs.slots.Slots.clear.Goals as goal

pub returns-clause-ordered : goal.returns-clause-ordered
returns-clause-ordered g c = sorted-entries_of c.clear.new.self.items
