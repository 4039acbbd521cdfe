use Rattle.drill_talk.proofs.Counted.{no_put_is_lost}
use Rattle.drill_talk.proofs.laws.no_put_is_lost.Goals as goal

pub returns : goal.returns
returns c =
    let updates = c.safe_updates.ensures in
    no_put_is_lost c.opening_is_good.ensures c.opening_is_unopened.ensures c.answer_keeps_jobs.ensures updates.chain updates.count updates.jobs c.talk_counts.ensures
