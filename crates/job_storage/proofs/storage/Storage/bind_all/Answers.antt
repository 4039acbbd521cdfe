use Rattle.std.proofs.Common.{drop, ◌∙◌, drop_of_length-le}
use Rattle.job_storage.proofs.BindLemmas.{no_part_left}
use Rattle.job_storage.proofs.storage.Storage.bind_all.Goals as goal

pub returns-in-None : goal.returns-in-None
returns-in-None c =
    c.loop-place.invariant ∙ no_part_left c.args.channel (drop c.loop-place.place c.args.names.now) (drop c.loop-place.place c.args.parts.now) c.loop-place.self (drop_of_length-le c.args.parts.now c.in-None.ensures.lookup.3)
