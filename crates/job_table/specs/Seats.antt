-- What stays true of the jobs.
use Rattle.std.specs.Prelude.{◌≡◌, List, [], ◌∷◌, length, None}
use Rattle.monitor_model.specs.declared.entries.JobEntry.{JobEntry}
use Rattle.monitor_model.specs.Jobs.{nobody}

-- it has 13 places for channels; without an account it has made no calls and opened none
pub record IsSeated (job : JobEntry) : Type 0 where
  pub places : length job.channels ≡ 13
  pub visitor : job.account ≡ None → job ≡ nobody

abbrev pub AreSeated : List JobEntry → Type 0
AreSeated [] = Unit {0}
AreSeated (job ∷ jobs) = IsSeated job × AreSeated jobs
