use Rattle.std.proofs.Common.{sym, ◌∙◌}
use Rattle.channels.proofs.Calls.{follows_true, follows_false}
use Rattle.channels.proofs.transfers.store.Goals as goal

pub returns-then-is_single-clause-follows : goal.returns-then-is_single-clause-follows
returns-then-is_single-clause-follows g c clock files = follows_true _ _ (sym c.is_single.ensures ∙ c.if-is_single.true) (c.store_block.ensures.follows clock files)

pub returns-else-is_single-clause-follows : goal.returns-else-is_single-clause-follows
returns-else-is_single-clause-follows g c clock files = follows_false _ _ (sym c.is_single.ensures ∙ c.if-is_single.false) (c.store_pages.ensures.follows clock files)
