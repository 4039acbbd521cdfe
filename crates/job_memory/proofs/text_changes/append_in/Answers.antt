use Rattle.std.proofs.Common.{◌≡◌, ◌+◌, Some, sym, arith}
use Rattle.std.specs.Map.{lookup}
use Rattle.job_memory.specs.Contents.{size}
use Rattle.job_memory.specs.Memory.{variables_size}
use Rattle.job_memory.specs.Names.{at_name}
use Rattle.job_memory.specs.TextChanges.{lengthened}
use Rattle.job_memory.proofs.TextLemmas.{changed_among, grown}
use Rattle.job_memory.proofs.text_changes.append_in.Goals as goal

pub returns-in-Some-clause-changes : goal.returns-in-Some-clause-changes
returns-in-Some-clause-changes c =
    let found : lookup (at_name c.args.name) c.args.variables.now ≡ Some c.in-Some.place.now = sym c.in-Some.ensures.value in
    changed_among c.args.name c.args.variables.now _ c.in-Some.place.now c.lengthen.new.place c.requires found (c.get_mut.follows.holds c.lengthen.new.place).0
    (size c.in-Some.place.now + c.args.spare) (variables_size c.args.variables.now + c.args.spare) (lengthened c.args.more.now) c.lengthen.result (omega arith) c.lengthen.ensures

pub returns-in-Some-clause-grows : goal.returns-in-Some-clause-grows
returns-in-Some-clause-grows c =
    let found : lookup (at_name c.args.name) c.args.variables.now ≡ Some c.in-Some.place.now = sym c.in-Some.ensures.value in
    grown c.args.name c.args.variables.now _ c.in-Some.place.now c.lengthen.new.place c.requires found (c.get_mut.follows.holds c.lengthen.new.place).0
    (size c.in-Some.place.now + c.args.spare) c.args.more.now c.lengthen.result c.lengthen.ensures
