use Rattle.std.proofs.Common.{◌≡◌, take}
use Rattle.report_texts.specs.Names.{names_of}
use Rattle.time_sharing.proofs.writings.names_of.Given as goal

abbrev pub invariant-loop-terminal : goal.invariant-loop-terminal
invariant-loop-terminal l = l.names.items ≡ names_of (take l.terminal-index l.terminals)
