-- The machine's verdict on a line. It serves proofs only.
use Rattle.std.specs.Prelude.{List, [], ◌∷◌, Option, None, Ok, Err}
use Rattle.basic_tree.specs.declared.tokens.Cause.TheVariants as cause
use Rattle.basic_tree.specs.Tokens.{Reading, tokens_of}
use Rattle.basic_tree.specs.SpellingWords.{Word, words_of, most_levels}
use Rattle.grammar_machine.specs.MachineStack.{Values, Parsed, parsed, Symbol, OneStatement, MoreStatements}
use Rattle.grammar_machine.specs.MachineRun.{Wrong, TooDeep, MachineOutcome, run}
use Rattle.basic_tree.specs.Trees.{LineTree, StatementTree}
use Rattle.basic_tree.specs.LineVerdicts.{Verdict, HasTree, RefusedFor, Judge}

-- what is expected of a line, and the statements at its start
abbrev pub line_symbols : List Symbol
line_symbols = OneStatement ∷ MoreStatements ∷ []

abbrev pub line_values : Values
line_values = Parsed [] ∷ []

-- the statement before the first separator, and the one after each
abbrev pub line_in : List (Option StatementTree) → LineTree
line_in [] = record { first = None; others = [] }
line_in (s ∷ ss) = record { first = s; others = ss }

abbrev pub outcome_verdict : MachineOutcome → Verdict
outcome_verdict (Ok (values, [])) = HasTree (line_in (parsed values))
outcome_verdict (Ok (values, word ∷ words)) = RefusedFor cause.Syntax
outcome_verdict (Err (Wrong words)) = RefusedFor cause.Syntax
outcome_verdict (Err (TooDeep words)) = RefusedFor cause.TooDeep

unfoldable pub verdict_of : List Word → Verdict
verdict_of ws = outcome_verdict (run most_levels ws line_symbols line_values)

abbrev pub reading_verdict : Reading → Verdict
reading_verdict (Err refusal) = RefusedFor refusal.cause
reading_verdict (Ok tokens) = verdict_of (words_of tokens)

abbrev pub judge_of : Judge
judge_of line = reading_verdict (tokens_of line)
