use Rattle.std.proofs.Common.{◌-◌}
use Rattle.std.specs.Prelude.{Some}
use Rattle.job_model.specs.Play.{Clock}
use Rattle.job_model.specs.Follow.{Follows}
use Rattle.channels.specs.declared.lines.TheConstants.{MOST_TURNS}
use Rattle.channels.specs.TextIn.{line_from, whole_line}
use Rattle.channels.specs.Seen.{files}
use Rattle.channels.proofs.channels.Channels.read_whole.Given as goal

abbrev pub invariant-loop-turn : goal.invariant-loop-turn
invariant-loop-turn g l =
    (clock : Clock) → Follows g.P.Port.who g.P.Port.log l.fn.port l.port clock clock (whole_line l.channel (files l.fn.self l.fn.buffers)) (Some (line_from (MOST_TURNS - l.turn) l.channel l.line (files l.self l.buffers)))
