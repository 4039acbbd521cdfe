use Rattle.basic_tree.specs.StatementViews.{statement_of}
use Rattle.program_soundness.proofs.PartLemmas.{handles_are, programs_are}
use Rattle.program_soundness.proofs.parts.sorts_of.Goals as goal

pub returns-clause-handles : goal.returns-clause-handles
returns-clause-handles c = handles_are c.visit_parts.new.visitor (statement_of c.args.statement.now) c.in-Ok.ensures

pub returns-clause-programs : goal.returns-clause-programs
returns-clause-programs c = programs_are c.visit_parts.new.visitor (statement_of c.args.statement.now) c.in-Ok.ensures
