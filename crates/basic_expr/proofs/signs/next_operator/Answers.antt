use Rattle.std.proofs.Common.{◌≡◌, Some, None, true, false}
use Rattle.basic_expr.specs.Views.{as_word}
use Rattle.grammar_machine.specs.GrammarWords.{operator_of}
use Rattle.basic_expr.specs.Precedences.{level_number}
use Rattle.basic_expr.specs.ParsedSymbols.{goes_on}
use Rattle.basic_expr.proofs.Steps.{operator_there, operator_elsewhere, no_operator, no_word_operator}
use Rattle.basic_expr.proofs.signs.next_operator.Goals as goal

pub returns-in-None-clause-operator : goal.returns-in-None-clause-operator
returns-in-None-clause-operator c = no_word_operator c.args.words.now c.args.place (level_number c.args.precedence) c.args.text c.in-None.ensures.word

pub returns-in-None-operator_of-clause-operator : goal.returns-in-None-operator_of-clause-operator
returns-in-None-operator_of-clause-operator c =
    let at = c.in-Some.ensures.word in
    let is : operator_of (as_word c.in-Some.word) ≡ None = cc in
    no_operator c.args.words.now c.args.place (level_number c.args.precedence) c.args.text (as_word c.in-Some.word) at.1 is

pub returns-then-goes_on-clause-operator : goal.returns-then-goes_on-clause-operator
returns-then-goes_on-clause-operator c =
    let at = c.in-Some.ensures.word in
    let is : operator_of (as_word c.in-Some.word) ≡ Some c.in-Some-operator_of.operator = cc in
    let goes : goes_on c.in-Some-operator_of.operator (level_number c.args.precedence) c.args.text ≡ true = cc in
    operator_there c.args.words.now c.args.place (level_number c.args.precedence) c.args.text (as_word c.in-Some.word) c.in-Some-operator_of.operator at.0 at.1 is goes

pub returns-else-goes_on-clause-operator : goal.returns-else-goes_on-clause-operator
returns-else-goes_on-clause-operator c =
    let at = c.in-Some.ensures.word in
    let is : operator_of (as_word c.in-Some.word) ≡ Some c.in-Some-operator_of.operator = cc in
    let goes : goes_on c.in-Some-operator_of.operator (level_number c.args.precedence) c.args.text ≡ false = cc in
    operator_elsewhere c.args.words.now c.args.place (level_number c.args.precedence) c.args.text (as_word c.in-Some.word) c.in-Some-operator_of.operator at.1 is goes
