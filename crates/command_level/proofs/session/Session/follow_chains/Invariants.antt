use Rattle.std.proofs.Common.{ℕ}
use Rattle.std.specs.Prelude.{Some, Ok}
use Rattle.program_model.specs.Program.{Position}
use Rattle.session_model.specs.Talk.{Step}
use Rattle.command_level.specs.Chaining.{LeftRun}
use Rattle.command_level.proofs.Chained.{Comes, turns_left}
use Rattle.command_level.proofs.session.Session.follow_chains.Given as goal

abbrev pub invariant-loop-at : goal.invariant-loop-at
invariant-loop-at g l =
    (left : ℕ → Step Position) → LeftRun (λ most. most) l.fn.self (Ok l.fn.reached) (Some left)
    → Comes g.P.Port.who g.P.Port.log l.fn.port l.port l.fn.clock l.clock left l.self l.at

abbrev pub decreases-loop-at : goal.decreases-loop-at
decreases-loop-at g l = turns_left l.at l.clock
