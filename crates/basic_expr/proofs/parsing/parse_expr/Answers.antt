-- The words are those of the tokens, and the rest follows from where the machine stops.
use Rattle.std.proofs.Common.{length, ◌≤◌, List, Err, ap, subst, arith}
use Rattle.std.proofs.lemmas.List.{length-map}
use Rattle.basic_tree.specs.SpellingWords.{Word, word_of}
use Rattle.basic_tree.specs.TreeViews.{tree_of}
use Rattle.basic_expr.specs.Failures.{trouble_of}
use Rattle.basic_expr.specs.Parsing.{ParsesExpr}
use Rattle.basic_expr.specs.Views.{as_word, most_words}
use Rattle.basic_expr.proofs.Places.{parsed, refused, near}
use Rattle.basic_expr.proofs.parsing.parse_expr.Goals as goal

pub returns-in-Ok-expression_at : goal.returns-in-Ok-expression_at
returns-in-Ok-expression_at c =
    let e = c.in-Ok-expression_at.ensures.ends in
    record { exact = rw (← c.in-Ok.ensures) (parsed c.args.want c.in-Ok.words c.args.from c.in-Ok-expression_at.found.end (tree_of c.in-Ok-expression_at.found.tree) (omega (arith, e.0)) e.1 c.in-Ok-expression_at.ensures.reads) }

pub returns : goal.returns
returns c =
    let inside : c.args.from ≤ length c.in-Ok.words = rw (c.in-Ok.ensures, length-map c.args.tokens.now word_of) c.requires in
    let failure = c.in-Err-expression_at.failure in
    record { exact = rw c.trouble.ensures (subst (λ (ws : List Word). ParsesExpr c.args.want ws c.args.from (Err (trouble_of failure))) c.in-Ok.ensures (refused c.args.want c.in-Ok.words c.args.from failure inside c.in-Err-expression_at.ensures.reads)) }

pub expression_at-requires : goal.expression_at-requires
expression_at-requires c = rw (c.in-Ok.ensures, length-map c.args.tokens.now word_of) c.requires

pub overflow_cast-result : goal.overflow_cast-result
overflow_cast-result c =
    let vec = c.words.inside.words in
    let few : length c.in-Ok.words ≤ most_words = omega (arith, c.words.invariant.0, ap length c.words.view_is, length-map vec.items as_word, vec.ok.0) in
    omega (arith, few, c.in-Ok-expression_at.ensures.ends.1)

pub trouble-requires : goal.trouble-requires
trouble-requires c =
    let vec = c.words.inside.words in
    let few : length c.in-Ok.words ≤ most_words = omega (arith, c.words.invariant.0, ap length c.words.view_is, length-map vec.items as_word, vec.ok.0) in
    near c.args.want c.in-Ok.words c.args.from c.in-Err-expression_at.failure few c.in-Err-expression_at.ensures.reads
