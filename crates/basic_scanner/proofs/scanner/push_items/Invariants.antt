use Rattle.std.proofs.Common.{◌≡◌, ◌≤◌, ◌+◌, ◌-◌, ◌++◌, [], drop, length, None}
use Rattle.arrayvec.specs.ArrayVec.{array_vec_len}
use Rattle.basic_tree.specs.Tokens.{items_from}
use Rattle.basic_scanner.specs.Lexemes.{lexemes}
use Rattle.basic_scanner.proofs.scanner.push_items.Given as goal

abbrev pub invariant-items : goal.invariant-items
invariant-items l = record {
  items : lexemes l.tokens.items ++ items_from l.start [] None (drop l.start l.line) ≡ lexemes l.fn.tokens.items ++ items_from l.from [] None (drop l.from l.line);
  within : l.start ≤ length l.line;
  count : array_vec_len l.tokens + l.from ≤ array_vec_len l.fn.tokens + l.start;
}

abbrev pub decreases-items : goal.decreases-items
decreases-items l = length l.line - l.start
