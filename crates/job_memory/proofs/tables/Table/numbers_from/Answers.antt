use Rattle.std.proofs.Common.{◌≡◌, ap, subst, ◌∙◌}
use Rattle.std.specs.Prelude.{List, ℤ, IfOk, map, take, drop}
use Rattle.job_memory.specs.Contents.{number_of}
use Rattle.job_memory.specs.Tables as tables
use Rattle.job_memory.proofs.MatrixLemmas.{part_numbers}
use Rattle.job_memory.proofs.tables.Table.numbers_from.Goals as goal

pub returns-clause-numbers : goal.returns-clause-numbers
returns-clause-numbers c =
    let cells = c.deref.ensures.value ∙ ap (λ (t : tables.Table). t.cells) c.self.view_is in
    subst (λ (numbers : List ℤ). IfOk c.numbers_of.result (λ list. list.items ≡ numbers))
    (part_numbers c.deref.result.now c.args.place c.args.length ∙ ap (λ (l : List _). take c.args.length (drop c.args.place (map number_of l))) cells)
    c.numbers_of.ensures.numbers
