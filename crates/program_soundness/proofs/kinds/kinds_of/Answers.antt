use Rattle.std.proofs.Common.{Bool, List, [], ◌∷◌, ◌++◌, ap, ◌∙◌, refl}
use Rattle.basic_tree.specs.SpellingExpressions.{is_text}
use Rattle.basic_tree.specs.TreeViews.{tree_of}
use Rattle.basic_tree.specs.declared.expressions.Expr.{Expr}
use Rattle.program_model.specs.InMemory.{trees_in}
use Rattle.program_model.specs.Parts.{kinds}
use Rattle.program_soundness.proofs.LoopLemmas.{begun, added, ended}
use Rattle.program_soundness.proofs.kinds.kinds_of.Goals as goal

abbrev come : List Expr → List Bool
come arguments = kinds (trees_in arguments)

pub loop-argument-init : goal.loop-argument-init
loop-argument-init c = begun come c.args.arguments.now _ c.new-texts.ensures.items

pub loop-argument-preserved : goal.loop-argument-preserved
loop-argument-preserved c =
    added come (λ (e : Expr). is_text (tree_of e) ∷ []) c.args.arguments.now c.loop-argument.argument-index c.argument-item.result c.loop-argument.texts.items c.push.new.self.items _ (λ e es. refl) c.argument-item.is c.loop-argument-test.true
    (c.in_ok-push.ensures.items ∙ ap (λ b. c.loop-argument.texts.items ++ b ∷ []) c.is_text.ensures) c.loop-argument.invariant

pub returns : goal.returns
returns c = ended come c.args.arguments.now c.loop-argument.argument-index c.loop-argument.texts.items _ refl c.loop-argument-test.false c.loop-argument.invariant
