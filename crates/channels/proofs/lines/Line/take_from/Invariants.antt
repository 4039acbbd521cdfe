use Rattle.std.proofs.Common.{◌≡◌, ◌≤◌, length}
use Rattle.channels.specs.TextIn.{takes_from}
use Rattle.channels.proofs.lines.Line.take_from.Given as goal

abbrev pub invariant-loop-rest : goal.invariant-loop-rest
invariant-loop-rest l = record {
  taken : takes_from l.fn.self l.bytes ≡ takes_from l.line l.rest;
  short : length l.rest ≤ length l.bytes;
}

abbrev pub decreases-loop-rest : goal.decreases-loop-rest
decreases-loop-rest l = length l.rest
