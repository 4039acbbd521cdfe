use Rattle.std.proofs.Common.{◌+◌, ◌-◌, subst, arith}
use Rattle.std.specs.Prelude.{Err}
use Rattle.job_memory.specs.declared.contents.TheConstants.{MOST_ROOM}
use Rattle.job_memory.specs.Memory.{Memory, variables_size}
use Rattle.job_memory.specs.Seen.{memory_seen}
use Rattle.job_memory.specs.TextChanges.{Appends, lengthened}
use Rattle.job_memory.proofs.TextLemmas.{changed_memory}
use Rattle.job_memory.proofs.memory.Memory.append.Goals as goal

pub returns-in-Err : goal.returns-in-Err
returns-in-Err c =
    let before = memory_seen c.self.inside in
    subst (λ (m : Memory). Appends c.args.name c.args.more.now m (record before { variables = c.append_in.new.variables }) (Err c.in-Err.why)) c.self.view_is
    (changed_memory c.args.name before c.append_in.new.variables (MOST_ROOM - c.self.inside.room) (lengthened c.args.more.now) (Err c.in-Err.why)
    (omega (arith, c.self.invariant.counted, c.self.invariant.most)) c.in-Err.ensures.changes)
