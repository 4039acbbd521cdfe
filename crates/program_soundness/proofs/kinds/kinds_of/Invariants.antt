use Rattle.std.proofs.Common.{◌≡◌, ◌++◌, drop}
use Rattle.program_model.specs.Parts.{kinds}
use Rattle.program_model.specs.InMemory.{trees_in}
use Rattle.program_soundness.proofs.kinds.kinds_of.Given as goal

abbrev pub invariant-loop-argument : goal.invariant-loop-argument
invariant-loop-argument l = l.texts.items ++ kinds (trees_in (drop l.argument-index l.arguments)) ≡ kinds (trees_in l.arguments)
