use Rattle.basic_expr.specs.Views.{as_word}
use Rattle.basic_expr.proofs.Steps.{relation_there, no_word_relation}
use Rattle.basic_expr.proofs.signs.next_relation.Goals as goal

pub returns-in-None-clause-relation : goal.returns-in-None-clause-relation
returns-in-None-clause-relation c = no_word_relation c.args.words.now c.args.place c.in-None.ensures.word

pub returns-in-Some-clause-relation : goal.returns-in-Some-clause-relation
returns-in-Some-clause-relation c =
    let at = c.in-Some.ensures.word in
    relation_there c.args.words.now c.args.place (as_word c.in-Some.word) c.relation_of.result at.0 at.1 c.relation_of.ensures
