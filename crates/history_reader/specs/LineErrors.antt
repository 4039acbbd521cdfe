-- The error of a line that is not read.
use Rattle.std.specs.Prelude.{ℕ}
use Rattle.basic_values.specs.declared.failures.Trouble.{Trouble}
use Rattle.basic_values.specs.declared.failures.Trouble.TheVariants as trouble
use Rattle.history_reader.specs.declared.failures.LineError.{LineError}
use Rattle.history_reader.specs.declared.failures.LineError.TheVariants.{Wrong, Memory}

abbrev pub trouble_at_line : LineError → ℕ → Trouble ℕ
trouble_at_line Wrong good = trouble.Refused good
trouble_at_line Memory good = trouble.NoMemory
