use Rattle.std.proofs.Common.{◌≡◌, ◌++◌, ◌∷◌, [], take, refl, sym, ap, ◌∙◌, arith}
use Rattle.std.proofs.lemmas.List.Elements.{All-push}
use Rattle.basic_tree.specs.SpellingWords.{word_of, words_of}
use Rattle.basic_scanner.specs.Lexemes.{lexeme_of}
use Rattle.basic_expr.specs.Views.{as_word, as_words, IsShort}
use Rattle.basic_expr.proofs.WordLemmas.{words_more, as_words_more}
use Rattle.basic_expr.proofs.words.Words.of.Goals as goal

pub loop-k-preserved : goal.loop-k-preserved
loop-k-preserved c =
    let tokens = c.args.tokens.now in
    let token = lexeme_of c.token-token.result in
    let words = c.loop-k.words.items in
    let word = c.word_with.result in
    let same : as_words words ++ as_word word ∷ [] ≡ words_of (take c.loop-k.k tokens) ++ word_of token ∷ [] = rw (c.loop-k.invariant.words, c.word_with.ensures.word) refl in
    record {
      words = ap as_words c.in_ok-push.ensures.items ∙ as_words_more words word ∙ same ∙ sym (words_more tokens c.loop-k.k token c.token-token.ensures.value);
      count = omega (arith, c.in_ok-push.ensures.len);
      short = rw c.in_ok-push.ensures.items (All-push IsShort words word c.loop-k.invariant.short c.word_with.ensures.short);
    }
