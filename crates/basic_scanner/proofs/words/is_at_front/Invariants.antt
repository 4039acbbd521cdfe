use Rattle.std.proofs.Common.{◌≡◌, drop}
use Rattle.basic_tree.specs.Tokens.{is_at_front}
use Rattle.basic_scanner.proofs.words.is_at_front.Given as goal

abbrev pub invariant-loop-place : goal.invariant-loop-place
invariant-loop-place l = is_at_front l.word l.rest ≡ is_at_front (drop l.place l.word) (drop l.place l.rest)
