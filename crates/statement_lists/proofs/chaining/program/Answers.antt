-- The last word of the string is before the place after it.
use Rattle.basic_tree.specs.TreeViews.{tree_of}
use Rattle.statement_lists.proofs.ChainSteps.{ends_before}
use Rattle.statement_lists.proofs.chaining.program.Goals as goal

pub returns-clause-last : goal.returns-clause-last
returns-clause-last c =
    let e = c.in_ok-found.ensures.ends in
    ends_before c.args.levels c.args.words.now c.args.from c.in_ok-found.found.end (tree_of c.in_ok-found.found.tree) e.0 e.1 c.in_ok-found.ensures.reads
