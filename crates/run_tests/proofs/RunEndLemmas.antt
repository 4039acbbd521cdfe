-- What the program's clause says of a run between ends that do not fail.
use Rattle.program_words.specs.declared.words.Wanted.{Wanted}
use Rattle.program_words.specs.declared.words.Asked.TheVariants.{Run}
use Rattle.time_sharing.specs.declared.outcomes.Outcome.{Outcome}
use Rattle.time_sharing.specs.declared.outcomes.Outcome.TheVariants as outcome
use Rattle.time_sharing.specs.Headline.{Does, IsFair}
use Rattle.time_sharing.specs.TwoEnds.{Ends}
use Rattle.run_tests.specs.RunEnds.{RanOrLacked}

pub ran_or_lacked : (wanted : Wanted) (before after : Ends) (result : Outcome) → Does (Run wanted) before after result → IsFair before after → RanOrLacked result
ran_or_lacked wanted before after (outcome.Run end) does fair = does.completes fair
ran_or_lacked wanted before after outcome.NoMemory does fair = tt
ran_or_lacked wanted before after (outcome.Check end) does fair = absurd does
ran_or_lacked wanted before after (outcome.Drill end) does fair = absurd does
ran_or_lacked wanted before after (outcome.Replay end) does fair = absurd does
ran_or_lacked wanted before after outcome.Usage does fair = absurd does
