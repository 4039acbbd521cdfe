use Rattle.std.proofs.Common.{◌≡◌, Some, ap, sym, arith}
use Rattle.std.proofs.lemmas.Map.Entries.{sum_by-set_value}
use Rattle.job_memory.specs.Memory.{array, arrays_size}
use Rattle.job_memory.specs.Names.{at_name}
use Rattle.job_memory.specs.Tables.{table_size}
use Rattle.job_memory.proofs.TableLemmas.{table_size-le}
use Rattle.job_memory.proofs.matrices.renumber_in.Goals as goal

pub returns-in-Some-clause-room : goal.returns-in-Some-clause-room
returns-in-Some-clause-room c =
    let found : array c.args.name c.args.arrays.now ≡ Some c.in-Some.table.now = sym c.in-Some.ensures.value in
    omega (
      arith,
      c.renumber.ensures.room,
      ap arrays_size (c.get_mut.follows.holds c.renumber.new.self).0,
      sum_by-set_value table_size (at_name c.args.name) c.args.arrays.now c.in-Some.table.now c.renumber.new.self found,
    )

pub renumber-requires-clause-counted : goal.renumber-requires-clause-counted
renumber-requires-clause-counted c = omega (arith, table_size-le c.args.arrays.now c.args.name c.in-Some.table.now (sym c.in-Some.ensures.value), c.requires.counted)
