-- No words are two expressions: the machine gives one tree.
use Rattle.std.proofs.Common.{◌+◌, List, Ok, Err, sym, ap, ◌∙◌, arith}
use Rattle.basic_tree.specs.declared.kinds.Want.{Want}
use Rattle.basic_tree.specs.declared.kinds.Want.TheVariants as want
use Rattle.basic_tree.specs.SpellingWords.{Word}
use Rattle.basic_tree.specs.Trees.{Tree, Literal}
use Rattle.basic_tree.specs.SpellingExpressions.{IsExpr}
use Rattle.basic_tree.specs.GrammarPlaces.{OneTree}
use Rattle.grammar_machine.specs.MachineStack.{top}
use Rattle.grammar_machine.specs.MachineRun.{MachineOutcome}
use Rattle.grammar_machine.proofs.MachineComplete.{depth_of}
use Rattle.grammar_machine.proofs.MachineForms.{taken_whole}

either : (w : Want) (ws : List Word) (t : Tree) → IsExpr w ws t → IsExpr want.Either ws t
either w ws t h = record { tree = h.tree; kind = tt; spelling = h.spelling }

abbrev tree_made : MachineOutcome → Tree
tree_made (Ok x) = top x.0
tree_made (Err e) = Literal 0

pub one_tree_lem : OneTree
one_tree_lem v w ws t u a b =
    let n = depth_of t + depth_of u in
    let same = sym (taken_whole n want.Either ws t (either v ws t a) (omega arith)) ∙ taken_whole n want.Either ws u (either w ws u b) (omega arith) in
    ap (λ o. tree_made o) same
