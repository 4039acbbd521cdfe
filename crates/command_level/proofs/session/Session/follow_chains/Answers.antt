use Rattle.std.proofs.Common.{sym, ◌∙◌}
use Rattle.command_level.proofs.Chained.{comes_first, comes_on, comes_lost, comes_end, comes_over, turns_fewer}
use Rattle.command_level.proofs.session.Session.follow_chains.Goals as goal

pub loop-at-init : goal.loop-at-init
loop-at-init g c left h = comes_first c.args.self.now c.args.reached left h

pub loop-at-smaller : goal.loop-at-smaller
loop-at-smaller g c = turns_fewer c.loop-at.at c.in_ok-at.at c.loop-at.clock c.follow_chain.new.clock (sym c.is_chain.ensures ∙ c.loop-at-test.true) c.in_ok-at.ensures.units

pub loop-at-preserved : goal.loop-at-preserved
loop-at-preserved g c left h = comes_on c.loop-at.self c.follow_chain.new.self c.loop-at.at c.in_ok-at.at (sym c.is_chain.ensures ∙ c.loop-at-test.true) (c.loop-at.invariant left h) c.in_ok-at.ensures.path

pub returns-in_err-at : goal.returns-in_err-at
returns-in_err-at g c left h = comes_lost c.loop-at.self c.follow_chain.new.self _ c.loop-at.at c.in_err-at.field-0.0 _ _ c.from_residual.ensures.1 (sym c.is_chain.ensures ∙ c.loop-at-test.true) (c.loop-at.invariant left h) c.in_err-at.ensures.path

pub returns-in-End : goal.returns-in-End
returns-in-End g c left h = comes_end c.loop-at.self c.end_run.new.self c.loop-at.at c.in-End.why c.end_run.result c.in-End.is (sym c.is_chain.ensures ∙ c.loop-at-test.false) (c.loop-at.invariant left h) c.end_run.ensures

pub returns-in-Over : goal.returns-in-Over
returns-in-Over g c left h = comes_over c.loop-at.self c.loop-at.at c.in-Over.onward c.in-Over.is (c.loop-at.invariant left h)
