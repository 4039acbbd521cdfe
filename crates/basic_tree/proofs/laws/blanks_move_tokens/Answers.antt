use Rattle.basic_tree.proofs.MoveLemmas.{blank_moves}
use Rattle.basic_tree.proofs.laws.blanks_move_tokens.Goals as goal

pub returns : goal.returns
returns c place blank rest e = blank_moves rest blank place e
