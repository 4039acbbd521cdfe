-- The parts of a statement, each once, in the order of the walk; and the visitor after them.
use Rattle.std.specs.Prelude.{ℕ, ◌+◌, Bool, false, List, [], ◌∷◌, ◌++◌, map}
use Rattle.basic_tree.specs.Trees.{Tree, ModifierTree, If, Unless, While, Until, ForModifier, ClauseTree, LineClause, StatementClause, ElseTree, NoElse, Else, StatementTree, IfThen, IfGoto, Modified, For, Goto}
use Rattle.program_model.specs.Parts.{given, expressions_in}

pub data StatementPart : Type 0 where
  -- without others inside
  Simple : StatementTree → StatementPart
  Expression : Tree → StatementPart
  -- a FOR modifier
  Loop : StatementPart

-- a statement without others inside, with its expressions
abbrev pub own_expressions : StatementTree → List Tree
own_expressions (IfThen e clause otherwise) = []
own_expressions (IfGoto e n otherwise) = []
own_expressions (Modified s modifier) = []
own_expressions s = expressions_in s

abbrev pub parts_alone : StatementTree → List StatementPart
parts_alone s = Simple s ∷ map Expression (own_expressions s)

abbrev pub modifier_parts : ModifierTree → List StatementPart
modifier_parts (If e) = Expression e ∷ []
modifier_parts (Unless e) = Expression e ∷ []
modifier_parts (While e) = Expression e ∷ []
modifier_parts (Until e) = Expression e ∷ []
modifier_parts (ForModifier variable from to step) = Loop ∷ map Expression (from ∷ to ∷ given step)

abbrev mutual
  pub parts_in : StatementTree → List StatementPart
  parts_in (IfThen e clause otherwise) = Expression e ∷ parts_in_clause clause ++ parts_in_else otherwise
  parts_in (IfGoto e n otherwise) = Expression e ∷ Simple (Goto false n) ∷ parts_in_else otherwise
  parts_in (Modified s modifier) = parts_in s ++ modifier_parts modifier
  parts_in s = parts_alone s

  pub parts_in_clause : ClauseTree → List StatementPart
  parts_in_clause (LineClause n) = Simple (Goto false n) ∷ []
  parts_in_clause (StatementClause s) = parts_in s

  pub parts_in_else : ElseTree → List StatementPart
  parts_in_else NoElse = []
  parts_in_else (Else clause) = parts_in_clause clause

-- WHAT EACH PART HAS

abbrev pub simple_by : StatementPart → List StatementTree
simple_by (Simple s) = s ∷ []
simple_by (Expression e) = []
simple_by Loop = []

abbrev pub expression_by : StatementPart → List Tree
expression_by (Simple s) = []
expression_by (Expression e) = e ∷ []
expression_by Loop = []

-- a FOR without others inside
abbrev pub loops_alone : StatementTree → ℕ
loops_alone (For variable from to step) = 1
loops_alone s = 0

abbrev pub loops_by : StatementPart → ℕ
loops_by (Simple s) = loops_alone s
loops_by (Expression e) = 0
loops_by Loop = 1

abbrev pub loops_among : List StatementPart → ℕ
loops_among [] = 0
loops_among (part ∷ parts) = loops_by part + loops_among parts

-- THE VISITOR AFTER PARTS, given what it is after one part

abbrev pub visited : {S : Type 0} → (S → StatementPart → S) → S → List StatementPart → S
visited after s [] = s
visited after s (part ∷ parts) = visited after (after s part) parts

-- expressions only
abbrev pub visited_trees : {S : Type 0} → (S → StatementPart → S) → S → List Tree → S
visited_trees after s [] = s
visited_trees after s (e ∷ es) = visited_trees after (after s (Expression e)) es
