-- What the program does without waiting, and what is left to do.
use Rattle.std.specs.Prelude.{◌≡◌, ◌≤◌}
use Rattle.program_words.specs.declared.words.Asked.{Asked}
use Rattle.program_words.specs.declared.words.Asked.TheVariants as asked
use Rattle.program_words.specs.declared.words.TheConstants.{MOST_DRILL_JOBS}
use Rattle.time_sharing.specs.declared.top.Rest.{Rest}
use Rattle.time_sharing.specs.declared.top.Rest.TheVariants.{Run, Drill}
use Rattle.time_sharing.specs.declared.top.Step.{Step}
use Rattle.time_sharing.specs.declared.top.Step.TheVariants.{Ended, Waits}
use Rattle.time_sharing.specs.Headline.{Does}
use Rattle.time_sharing.specs.TwoEnds.{Ends}

-- the words that leave this to be done
abbrev pub asked_by_rest : Rest → Asked
asked_by_rest (Run wanted) = asked.Run wanted
asked_by_rest (Drill jobs) = asked.Drill jobs

abbrev pub IsRest : Rest → Type 0
IsRest (Run wanted) = Unit {0}
IsRest (Drill jobs) = jobs ≤ MOST_DRILL_JOBS

-- all that the words ask is done; or this is what they ask, and nothing was done yet
abbrev pub Begins : Asked → Ends → Ends → Step → Type 0
Begins words before after (Ended result) = Does words before after result
Begins words before after (Waits rest) = (words ≡ asked_by_rest rest) × (after ≡ before) × IsRest rest
