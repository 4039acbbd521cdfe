use Rattle.std.proofs.Common.{◌≡◌, take, vec_len}
use Rattle.std.specs.Prelude.{All}
use Rattle.basic_tree.specs.SpellingWords.{words_of}
use Rattle.basic_expr.specs.Views.{as_words, IsShort}
use Rattle.basic_expr.proofs.words.Words.of.Given as goal

abbrev pub invariant-loop-k : goal.invariant-loop-k
invariant-loop-k l = record {
  words : as_words l.words.items ≡ words_of (take l.k l.tokens);
  count : vec_len l.words ≡ l.k;
  short : All IsShort l.words.items;
}
