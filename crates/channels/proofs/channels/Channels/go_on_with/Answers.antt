use Rattle.std.proofs.Common.{refl}
use Rattle.job_model.specs.Act.{Gives}
use Rattle.job_model.proofs.Ends.{follows_ends}
use Rattle.job_model.proofs.Follows.{follows_to}
use Rattle.channels.specs.declared.lines.Turn.TheVariants.{GoesOn}
use Rattle.channels.specs.TextIn.{ends_at_stop}
use Rattle.channels.specs.Seen.{files}
use Rattle.channels.proofs.channels.Channels.go_on_with.Goals as goal

pub returns-in-Ok : goal.returns-in-Ok
returns-in-Ok g c clock =
    follows_ends (λ files. files) (λ _ files. Gives (GoesOn c.args.line) files) (ends_at_stop c.args.line) (λ _. refl) (c.in-Ok.ensures clock)

pub returns-in-Err : goal.returns-in-Err
returns-in-Err g c clock =
    follows_to (c.ends_at_stop.ensures (files c.read_next.new.self c.read_next.new.buffers))
    (follows_ends (λ files. files) (λ _ files. Gives (GoesOn c.args.line) files) (ends_at_stop c.args.line) (λ _. refl) (c.in-Err.ensures clock))
