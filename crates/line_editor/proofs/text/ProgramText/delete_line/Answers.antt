use Rattle.std.proofs.Common.{rules, ap, ◌∙◌}
use Rattle.basic_tree.specs.ProgramLines.{removed}
use Rattle.line_editor.proofs.PlaceLemmas.{without_one}
use Rattle.line_editor.proofs.ProgramLemmas.{whole_removed}
use Rattle.line_editor.proofs.text.ProgramText.delete_line.Goals as goal

pub invariant_of-self : goal.invariant_of-self
invariant_of-self c =
    whole_removed c.self.inside.buffer c.self.inside.program.lines c.remove.new.self c.remove-2.new.self c.args.number
    c.self.invariant c.remove.ensures c.remove-2.ensures.entries

pub returns : goal.returns
returns c = (
  c.remove.ensures ∙ without_one c.args.number c.self.inside.buffer c.self.invariant.program.ordered ∙ ap (removed c.args.number) c.self.view_is,
  search rules,
)
