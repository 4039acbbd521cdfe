use Rattle.std.proofs.Common.{◌≡◌, ◌++◌, map, drop}
use Rattle.basic_tree.specs.StatementViews.{statement_of}
use Rattle.program_model.specs.Program.{Program, statements_of, bodies_of, pairs_from, pairs_of}
use Rattle.loop_pairs.specs.Pairs.{pair_seen}
use Rattle.loop_pairs.proofs.pairs.pairs_in.Given as goal

-- those so far and those to come are all
abbrev pub invariant-loop-m : goal.invariant-loop-m
invariant-loop-m l = (program : Program) → map (λ r. statement_of r.now) l.statements ≡ statements_of program → l.bodies ≡ bodies_of program
    → map pair_seen l.pairs.items ++ pairs_from program l.m l.opens (map (λ r. statement_of r.now) (drop l.m l.statements)) ≡ pairs_of program
