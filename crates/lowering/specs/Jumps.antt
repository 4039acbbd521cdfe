-- Jumps over parts of statements: how many instructions they skip.
use Rattle.std.specs.Prelude.{ℕ, suc, ◌+◌}
use Rattle.basic_tree.specs.StatementViews.{statement_of, clause_of}
use Rattle.basic_tree.specs.TreeViews.{tree_of}
use Rattle.polish_code.specs.declared.items.Item.{Item}
use Rattle.polish_code.specs.declared.items.Item.TheVariants as item
use Rattle.polish_code.specs.Code.{expr_size, body_size, clause_size}
use Rattle.lowering.specs.declared.sink.Jump.{Jump}
use Rattle.lowering.specs.declared.sink.Jump.TheVariants.{Skip, SkipUnless, SkipIf, SkipToElse, BackIf, BackUnless, OpenOrSkip, StepBack}
use Rattle.lowering.specs.declared.sink.Over.{Over}
use Rattle.lowering.specs.declared.sink.Over.TheVariants.{Clause, Statement, Value}

-- a part of a statement, with its start or the instructions around it
abbrev pub items_over : Over → ℕ
items_over (Clause c) = suc (clause_size (clause_of c.now))
items_over (Statement s) = suc (body_size (statement_of s.now))
items_over (Value e) = suc (expr_size (tree_of e.now) + 2)

-- the instruction that skips a part of this size, and what else it skips
abbrev pub jump_item : Jump → ℕ → Item
jump_item Skip count = item.Skip count
jump_item SkipUnless count = item.SkipUnless count
jump_item SkipIf count = item.SkipIf count
jump_item SkipToElse count = item.SkipUnless (suc count)
jump_item (BackIf e) count = item.BackIf (count + expr_size (tree_of e.now))
jump_item (BackUnless e) count = item.BackUnless (count + expr_size (tree_of e.now))
jump_item (OpenOrSkip variable place) count = item.OpenOrSkip variable place (count + 1)
jump_item (StepBack variable place) count = item.StepBack variable place count
