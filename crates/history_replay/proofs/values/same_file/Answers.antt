use Rattle.std.proofs.lemmas.Bool.Decides.{Decides-at}
use Rattle.monitor_calls.proofs.FileNameLemmas.{Decides-same_name}
use Rattle.history_replay.proofs.values.same_file.Goals as goal

pub returns : goal.returns
returns c = Decides-at _ _ c.is_same.ensures (Decides-same_name c.args.a.now c.args.b.now)
