use Rattle.std.proofs.Common.{◌≡◌, ◌≤◌, ◌-◌, drop, length}
use Rattle.arrayvec.specs.ArrayVec.{array_vec_len}
use Rattle.basic_tree.specs.Tokens.{with_tokens, tokens_from, tokens_of}
use Rattle.basic_scanner.specs.Lexemes.{lexemes}
use Rattle.basic_scanner.proofs.scanner.read.Given as goal

abbrev pub invariant-loop-place : goal.invariant-loop-place
invariant-loop-place l = record {
  value : with_tokens (lexemes l.tokens.items) (tokens_from l.place 0 (drop l.place l.line)) ≡ tokens_of l.line;
  within : l.place ≤ length l.line;
  count : array_vec_len l.tokens ≤ l.place;
}

abbrev pub decreases-loop-place : goal.decreases-loop-place
decreases-loop-place l = length l.line - l.place
