use Rattle.std.proofs.Common.{refl}
use Rattle.job_model.specs.Act.{Gives}
use Rattle.job_model.proofs.Ends.{follows_ends}
use Rattle.job_model.proofs.Follows.{follows_to}
use Rattle.channels.specs.Openings.{past_faults}
use Rattle.channels.proofs.openings.ask_close_quietly.Goals as goal

pub returns : goal.returns
returns g c clock files =
    follows_to (c.past_faults.ensures files)
    (follows_ends (λ files. files) (λ _ files. Gives tt files) past_faults (λ _. refl) (c.ask_close-closed.ensures clock files))
