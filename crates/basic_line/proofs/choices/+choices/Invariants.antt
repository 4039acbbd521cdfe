use Rattle.std.proofs.Common.{◌+◌, ◌*◌, ◌-◌, length}
use Rattle.basic_line.proofs.choices.+choices.Given as goal

abbrev pub decreases-if_at : goal.decreases-if_at
decreases-if_at l = 8 * (length l.words.now - l.from)

abbrev pub decreases-clause_at : goal.decreases-clause_at
decreases-clause_at l = 8 * (length l.words.now - l.from) + 1

abbrev pub decreases-then_at : goal.decreases-then_at
decreases-then_at l = 8 * (length l.words.now - l.from) + 2

abbrev pub decreases-goto_at : goal.decreases-goto_at
decreases-goto_at l = 8 * (length l.words.now - l.from) + 2

abbrev pub decreases-else_at : goal.decreases-else_at
decreases-else_at l = 8 * (length l.words.now - l.from) + 2
