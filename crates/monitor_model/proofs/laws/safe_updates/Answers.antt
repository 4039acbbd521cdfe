use Rattle.monitor_model.proofs.Counters.{safe_updates_count, counters_are_safe}
use Rattle.monitor_model.proofs.Updating.{nobody_writes_between, writes_over_what_it_read, safe_updates_are_a_chain, safe_if_held}
use Rattle.monitor_model.proofs.laws.safe_updates.Goals as goal

pub returns-clause-between : goal.returns-clause-between
returns-clause-between c = nobody_writes_between

pub returns-clause-over : goal.returns-clause-over
returns-clause-over c = writes_over_what_it_read

pub returns-clause-chain : goal.returns-clause-chain
returns-clause-chain c = safe_updates_are_a_chain

pub returns-clause-held : goal.returns-clause-held
returns-clause-held c = safe_if_held

pub returns-clause-count : goal.returns-clause-count
returns-clause-count c = safe_updates_count

pub returns-clause-jobs : goal.returns-clause-jobs
returns-clause-jobs c = counters_are_safe
