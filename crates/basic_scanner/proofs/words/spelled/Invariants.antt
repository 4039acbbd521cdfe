use Rattle.std.proofs.Common.{◌≡◌, drop}
use Rattle.basic_tree.specs.Tokens.{spelled}
use Rattle.basic_scanner.specs.Tables.{entries}
use Rattle.basic_scanner.proofs.words.spelled.Given as goal

abbrev pub invariant-loop-entry : goal.invariant-loop-entry
invariant-loop-entry g l = spelled (entries l.table) l.bytes ≡ spelled (entries (drop l.entry-index l.table)) l.bytes
