-- What must come of a run.
use Rattle.time_sharing.specs.declared.outcomes.Outcome.{Outcome}
use Rattle.time_sharing.specs.declared.outcomes.Outcome.TheVariants as outcome
use Rattle.time_sharing.specs.TwoEnds.{OkOrLacked}

-- a deck was run, unless memory ran out
abbrev pub RanOrLacked : Outcome → Type 0
RanOrLacked (outcome.Run end) = OkOrLacked end
RanOrLacked outcome.NoMemory = Unit {0}
RanOrLacked _ = ⊥
