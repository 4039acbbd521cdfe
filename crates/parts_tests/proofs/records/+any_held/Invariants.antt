use Rattle.parts_tests.proofs.records.+any_held.Given as goal

abbrev pub decreases-any_held : goal.decreases-any_held
decreases-any_held l = l.count
