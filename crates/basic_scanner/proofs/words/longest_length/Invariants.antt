use Rattle.std.proofs.Common.{◌≡◌, ◌≤◌, length, take}
use Rattle.basic_tree.specs.Tokens.{longest_length}
use Rattle.basic_scanner.specs.Tables.{entries}
use Rattle.basic_scanner.proofs.words.longest_length.Given as goal

abbrev pub invariant-loop-entry : goal.invariant-loop-entry
invariant-loop-entry g l = record {
  value : l.longest ≡ longest_length (entries (take l.entry-index l.table)) l.rest;
  within : l.longest ≤ length l.rest;
}
