use Rattle.std.proofs.Common.{ap, arith}
use Rattle.job_memory.specs.Matrices.{number_in_list}
use Rattle.job_memory.specs.Tables.{table_size}
use Rattle.job_memory.proofs.MatrixLemmas.{table_size-renumbered}
use Rattle.job_memory.proofs.tables.Table.renumber.Goals as goal

pub size-requires-2 : goal.size-requires-2
size-requires-2 c =
    let smaller = table_size-renumbered (number_in_list c.args.numbers.now) c.self.inside c.as_mut_slice.result.now c.renumber_cells.new.cells c.as_mut_slice.ensures.value c.as_mut_slice.ensures.len c.renumber_cells.ensures in
    omega (arith, smaller, ap table_size c.self.view_is)

pub overflow_add-result : goal.overflow_add-result
overflow_add-result c =
    let smaller = table_size-renumbered (number_in_list c.args.numbers.now) c.self.inside c.as_mut_slice.result.now c.renumber_cells.new.cells c.as_mut_slice.ensures.value c.as_mut_slice.ensures.len c.renumber_cells.ensures in
    omega (arith, smaller, c.size.ensures, c.size-2.ensures, ap table_size c.self.view_is)

pub returns-clause-no_more : goal.returns-clause-no_more
returns-clause-no_more c =
    let smaller = table_size-renumbered (number_in_list c.args.numbers.now) c.self.inside c.as_mut_slice.result.now c.renumber_cells.new.cells c.as_mut_slice.ensures.value c.as_mut_slice.ensures.len c.renumber_cells.ensures in
    omega (arith, smaller, c.size.ensures, c.size-2.ensures, ap table_size c.self.view_is)
