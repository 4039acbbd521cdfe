use Rattle.std.proofs.Common.{◌≤◌, ◌<◌, ◌+◌, ◌*◌, ◌-◌, [], ◌∷◌, ◌++◌, length, drop}
use Rattle.grammar_machine.specs.MachineStack.{Arguments, Close, Do, Expect, Level, MakeCall, MakeFunction, More, MoreArguments, Several}
use Rattle.grammar_machine.specs.MachineStarts.{more_expected, relations}
use Rattle.basic_tree.specs.GrammarTables.{arguments_of}
use Rattle.basic_tree.specs.Trees.{NoTrees}
use Rattle.basic_tree.specs.declared.tokens.Sign.TheVariants.{Closing}
use Rattle.basic_expr.specs.Precedences.{level_number}
use Rattle.basic_expr.specs.ParsedSymbols.{Continues, Gathers, function_expected}
use Rattle.basic_expr.proofs.expressions.+expression.Given as goal

abbrev pub decreases-parse_atom : goal.decreases-parse_atom
decreases-parse_atom l = 32 * (length l.words.now - l.from) + 1

abbrev pub decreases-parse_parenthesized : goal.decreases-parse_parenthesized
decreases-parse_parenthesized l = 32 * (length l.words.now - l.from)

abbrev pub decreases-parse_exponent : goal.decreases-parse_exponent
decreases-parse_exponent l = 32 * (length l.words.now - l.from) + 2

abbrev pub decreases-parse_level : goal.decreases-parse_level
decreases-parse_level l = 32 * (length l.words.now - l.from) + 2 * level_number l.precedence + 3

abbrev pub decreases-parse_chain : goal.decreases-parse_chain
decreases-parse_chain l = 32 * (length l.words.now - l.from) + 2 * level_number l.precedence + 2

abbrev pub decreases-parse_prefixed : goal.decreases-parse_prefixed
decreases-parse_prefixed l = 32 * (length l.words.now - l.from) + 2 * level_number l.precedence + 2

abbrev pub decreases-parse_relations : goal.decreases-parse_relations
decreases-parse_relations l = 32 * (length l.words.now - l.from) + 12

abbrev pub decreases-parse_right : goal.decreases-parse_right
decreases-parse_right l = 32 * (length l.words.now - l.from) + 30

abbrev pub decreases-subscripts_at : goal.decreases-subscripts_at
decreases-subscripts_at l = 32 * (length l.words.now - l.from) + 30

abbrev pub decreases-second_subscript : goal.decreases-second_subscript
decreases-second_subscript l = 32 * (length l.words.now - l.from) + 30

abbrev pub decreases-parse_call : goal.decreases-parse_call
decreases-parse_call l = 32 * (length l.words.now - l.from) + 30

abbrev pub decreases-parse_function : goal.decreases-parse_function
decreases-parse_function l = 32 * (length l.words.now - l.from) + 30

abbrev pub invariant-parse_chain-operands : goal.invariant-parse_chain-operands
invariant-parse_chain-operands l = Continues l.fn.levels l.words (Level (level_number l.fn.precedence) l.fn.want) l.fn.from (More (level_number l.fn.precedence) ∷ []) l.left

abbrev pub decreases-parse_chain-operands : goal.decreases-parse_chain-operands
decreases-parse_chain-operands l = length l.words - l.left.end

abbrev pub invariant-parse_relations-relations : goal.invariant-parse_relations-relations
invariant-parse_relations-relations l = Continues l.fn.levels l.words (Level 5 l.fn.want) l.fn.from (relations l.fn.want) l.left

abbrev pub decreases-parse_relations-relations : goal.decreases-parse_relations-relations
decreases-parse_relations-relations l = length l.words - l.left.end

abbrev pub invariant-parse_call-arguments : goal.invariant-parse_call-arguments
invariant-parse_call-arguments l = Gathers l.fn.levels (l.fn.levels - 1) l.words (Arguments l.fn.name ∷ []) [] l.fn.from (MoreArguments ∷ Expect Closing ∷ Close ∷ Do (MakeCall l.fn.name) ∷ []) l.arguments.items l.place × (0 < l.fn.levels)

abbrev pub decreases-parse_call-arguments : goal.decreases-parse_call-arguments
decreases-parse_call-arguments l = length l.words - l.place

abbrev pub invariant-parse_function-arguments : goal.invariant-parse_function-arguments
invariant-parse_function-arguments l = Gathers l.fn.levels (l.fn.levels - 1) l.words (function_expected l.fn.function) (Several NoTrees ∷ []) l.fn.from (more_expected (drop (length l.arguments.items) (arguments_of l.fn.function)) ++ Do (MakeFunction l.fn.function) ∷ []) l.arguments.items l.place × (0 < l.fn.levels) × (length l.arguments.items ≤ length (arguments_of l.fn.function))

abbrev pub decreases-parse_function-arguments : goal.decreases-parse_function-arguments
decreases-parse_function-arguments l = length (arguments_of l.fn.function) - length l.arguments.items
