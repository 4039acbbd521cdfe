use Rattle.std.proofs.Common.{◌≡◌, Some, refl, sym}
use Rattle.std.specs.Prelude.{Ok}
use Rattle.std.specs.Map.{lookup}
use Rattle.std.specs.Option.{is_some}
use Rattle.job_memory.specs.Contents.{size}
use Rattle.job_memory.specs.Memory.{variables_size}
use Rattle.job_memory.specs.Names.{at_name}
use Rattle.job_memory.specs.TextChanges.{shortened}
use Rattle.job_memory.proofs.TextLemmas.{changed_among, shrunk}
use Rattle.job_memory.proofs.text_changes.cut_in.Goals as goal

pub returns-in-Some-clause-changes : goal.returns-in-Some-clause-changes
returns-in-Some-clause-changes c =
    let found : lookup (at_name c.args.name) c.args.variables.now ≡ Some c.in-Some.place.now = sym c.in-Some.ensures.value in
    changed_among c.args.name c.args.variables.now _ c.in-Some.place.now c.shorten.new.place c.requires found (c.get_mut.follows.holds c.shorten.new.place).0
    (size c.in-Some.place.now) (variables_size c.args.variables.now) (shortened c.args.before c.args.count) (Ok (is_some c.shorten.result)) refl c.shorten.ensures.changes

pub returns-in-Some-clause-shrinks : goal.returns-in-Some-clause-shrinks
returns-in-Some-clause-shrinks c =
    let found : lookup (at_name c.args.name) c.args.variables.now ≡ Some c.in-Some.place.now = sym c.in-Some.ensures.value in
    shrunk c.args.name c.args.variables.now _ c.in-Some.place.now c.shorten.new.place c.requires found (c.get_mut.follows.holds c.shorten.new.place).0 c.shorten.result c.shorten.ensures.shrinks
