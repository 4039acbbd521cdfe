use Rattle.basic_expr.specs.Views.{as_word}
use Rattle.basic_expr.proofs.WordTests.{key_stands, no_key}
use Rattle.basic_expr.proofs.signs.next_is_key.Goals as goal

pub returns-in-None-clause-stands : goal.returns-in-None-clause-stands
returns-in-None-clause-stands c = no_key c.args.words.now c.args.place c.args.key c.in-None.ensures.word

pub returns-in-Some-clause-stands : goal.returns-in-Some-clause-stands
returns-in-Some-clause-stands c =
    let there = c.in-Some.ensures.word in
    key_stands c.args.words.now c.args.place c.args.key (as_word c.in-Some.word) c.is_key.result there.0 there.1 c.is_key.ensures
