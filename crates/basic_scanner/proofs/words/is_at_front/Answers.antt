use Rattle.std.proofs.Common.{sym}
use Rattle.basic_scanner.proofs.WordLemmas.{stands_short}
use Rattle.basic_scanner.proofs.words.is_at_front.Goals as goal

pub returns-then-rest-word : goal.returns-then-rest-word
returns-then-rest-word c = sym (stands_short _ _ c.if-rest-word.true)
