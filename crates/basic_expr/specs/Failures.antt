-- Failures as rejections.
use Rattle.std.specs.Prelude.{◌≤◌}
use Rattle.basic_values.specs.declared.failures.Trouble.{Trouble}
use Rattle.basic_values.specs.declared.failures.Trouble.TheVariants as trouble
use Rattle.basic_tree.specs.declared.tokens.Cause.TheVariants as cause
use Rattle.basic_tree.specs.declared.tokens.Refusal.{Refusal}
use Rattle.basic_expr.specs.declared.failures.Failure.{Failure}
use Rattle.basic_expr.specs.declared.failures.Failure.TheVariants as failure
use Rattle.basic_expr.specs.Views.{most_words}

-- its place is one of a line, or the end
abbrev pub IsNear : Failure → Type 0
IsNear failure.NoMemory = Unit {0}
IsNear (failure.Wrong place) = place ≤ most_words
IsNear (failure.TooDeep place) = place ≤ most_words

abbrev pub trouble_of : Failure → Trouble Refusal
trouble_of failure.NoMemory = trouble.NoMemory
trouble_of (failure.Wrong place) = trouble.Refused (record { place = place; cause = cause.Syntax })
trouble_of (failure.TooDeep place) = trouble.Refused (record { place = place; cause = cause.TooDeep })
