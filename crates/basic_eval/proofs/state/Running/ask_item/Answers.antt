use Rattle.std.proofs.Common.{[], ap}
use Rattle.job_model.proofs.Follows.{follows_from}
use Rattle.polish_code.specs.declared.items.Item.{Item}
use Rattle.polish_code.specs.Walk.{item_act}
use Rattle.basic_eval.specs.Acting.{alone, seen}
use Rattle.basic_eval.proofs.state.Running.ask_item.Goals as goal

pub returns-in-WriteUsing : goal.returns-in-WriteUsing
returns-in-WriteUsing g c behind clock = follows_from (ap (λ (i : Item). item_act (alone []) behind i c.args.stack.now (seen c.args.self.now)) c.in-WriteUsing.is) (c.write_using.ensures clock)

pub returns-in-LineOn : goal.returns-in-LineOn
returns-in-LineOn g c behind clock = rw c.in-LineOn.is (c.line_on.ensures clock)

pub returns-in-AskItems : goal.returns-in-AskItems
returns-in-AskItems g c behind clock = follows_from (ap (λ (i : Item). item_act (alone []) behind i c.args.stack.now (seen c.args.self.now)) c.in-AskItems.is) (c.ask_items.ensures clock)

pub returns-in-AskLine : goal.returns-in-AskLine
returns-in-AskLine g c behind clock = rw c.in-AskLine.is (c.ask_line.ensures clock)
