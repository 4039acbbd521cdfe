-- A word with which a value can begin may follow the string or not.
use Rattle.std.proofs.Common.{rules, ◌≡◌, ◌∷◌, ◌+◌, true, drop, sym}
use Rattle.basic_expr.specs.Views.{as_word}
use Rattle.grammar_machine.specs.MachineForms.{begins_value}
use Rattle.statement_lists.proofs.ChainSteps.{either_follows}
use Rattle.statement_lists.proofs.chaining.number_follows.Goals as goal

pub returns-then-begins_value : goal.returns-then-begins_value
returns-then-begins_value c =
    let there : drop c.args.place c.args.words.now ≡ as_word c.in-Some.word ∷ drop (c.args.place + 1) c.args.words.now = search rules in
    let begins : begins_value (as_word c.in-Some.word) ≡ true = sym c.if-begins_value.ensures in
    either_follows c.args.words.now c.args.place (as_word c.in-Some.word) c.name_stands-named.result c.follows.result there c.name_stands-named.ensures begins c.follows.ensures
