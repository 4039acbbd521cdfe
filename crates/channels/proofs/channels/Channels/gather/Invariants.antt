use Rattle.std.proofs.Common.{◌≡◌, false, length}
use Rattle.std.specs.Prelude.{Some}
use Rattle.job_model.specs.Play.{Clock}
use Rattle.job_model.specs.Follow.{Follows}
use Rattle.channels.specs.Files.{channel_at}
use Rattle.channels.specs.Waiting.{is_state_due}
use Rattle.channels.specs.TextOut.{gathers}
use Rattle.channels.specs.Seen.{files}
use Rattle.channels.proofs.channels.Channels.gather.Given as goal

abbrev pub invariant-loop-rest : goal.invariant-loop-rest
invariant-loop-rest g l = record {
  room : is_state_due (channel_at l.channel l.self.states) ≡ false;
  follows : (clock : Clock) → Follows g.P.Port.who g.P.Port.log l.fn.port l.port clock clock (gathers l.channel l.bytes (files l.fn.self l.fn.buffers)) (Some (gathers l.channel l.rest (files l.self l.buffers)));
}

abbrev pub decreases-loop-rest : goal.decreases-loop-rest
decreases-loop-rest g l = length l.rest
