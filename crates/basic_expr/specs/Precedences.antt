-- The precedences of the parser, as the numbered precedence levels of the grammar.
use denote.Enum.Declared.{tag_of}
use Rattle.std.specs.Prelude.{◌≡◌, ◌≤◌, ℕ, Bool, true, false, Option, Some, None}
use Rattle.basic_tree.specs.declared.expressions.Operator.{Operator}
use Rattle.basic_tree.specs.SpellingExpressions.{want_of}
use Rattle.grammar_machine.specs.MachineStack.{Exponent, Level}
use Rattle.grammar_machine.specs.MachineMoves.{right_of}
use Rattle.basic_expr.specs.declared.precedence.Precedence.{Precedence}
use Rattle.basic_expr.specs.declared.precedence.Precedence.TheVariants as precedence
use Rattle.basic_expr.specs.contracts.precedence.Precedence.{the_type}

-- the number of a precedence among the variants, from 0 for an atom to 11
abbrev pub level_number : Precedence → ℕ
level_number p = tag_of the_type p

-- the operands may have a prefix
abbrev pub is_prefixed : Precedence → Bool
is_prefixed precedence.Sign = true
is_prefixed precedence.Not = true
is_prefixed other = false

-- the operands are separated by operators, and grouped from the left
abbrev pub is_chain : Precedence → Bool
is_chain precedence.Atom = false
is_chain precedence.Sign = false
is_chain precedence.Relation = false
is_chain precedence.Not = false
is_chain other = true

-- the precedence of what follows an operator, or none for an exponent
abbrev pub IsRight : Operator → Option Precedence → Type 0
IsRight o (Some p) = (level_number p ≤ 10) × ((text : Bool) → right_of o text ≡ Level (level_number p) (want_of text))
IsRight o None = (text : Bool) → right_of o text ≡ Exponent
