use Rattle.line_editor.proofs.ProgramLemmas.{whole_without}
use Rattle.line_editor.proofs.text.ProgramText.delete.Goals as goal

pub invariant_of-self : goal.invariant_of-self
invariant_of-self c =
    whole_without c.self.inside.buffer c.self.inside.program.lines c.remove.new.self c.delete_trees.new.trees c.args.from c.args.to
    c.self.invariant c.remove.ensures c.delete_trees.ensures
