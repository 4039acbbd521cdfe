-- The blocks of a file, printed one after another.
use Rattle.std.proofs.Common.{◌≡◌, ℕ, suc, List, Some, Result, Err, sym, ap}
use Rattle.std.specs.Result.{IsErrAnd}
use Rattle.basic_values.specs.declared.failures.Stop.{Stop}
use Rattle.monitor_calls.specs.declared.events.Event.{Event}
use Rattle.job_model.specs.Act.{Gives}
use Rattle.job_model.specs.Play.{Clock}
use Rattle.job_model.specs.Follow.{Follows, answered_by}
use Rattle.job_model.proofs.Follows.{follows_to, follows_with, follows_on, follows_stay, broken}
use Rattle.program_files.specs.Channels.{FileAct}
use Rattle.program_files.specs.Listings.{prints_block, prints_from}

module _ {P W : Type 0} {who : P → W} {log : P → List Event} where
  at_block : {start p : P} {c : Clock} {whole : FileAct (Unit {0})} (block n more : ℕ) → n ≡ suc more
      → Follows who log start p c c whole (Some (prints_from block n)) → Follows who log start p c c whole (Some (prints_from block (suc more)))
  at_block block n more is so_far = follows_to (ap (λ (k : ℕ). Some (prints_from block k)) is) so_far

  -- one more was printed
  pub one_printed : {start p q : P} {c : Clock} {whole : FileAct (Unit {0})} (block n more next : ℕ) → n ≡ suc more → next ≡ suc block
      → Follows who log start p c c whole (Some (prints_from block n)) → Follows who log p q c c (prints_block block) (Some (Gives tt tt)) → Follows who log start q c c whole (Some (prints_from next more))
  one_printed block n more next is then_next so_far f =
      follows_to (ap (λ (b : ℕ). Some (prints_from b more)) (sym then_next))
      (follows_on (at_block block n more is so_far) (follows_with (λ _ _. prints_from (suc block) more) f follows_stay))

  -- one was not
  pub print_stopped : {start p q : P} {c : Clock} {whole : FileAct (Unit {0})} (block n more : ℕ) (e : Stop) (result : Result (Unit {0}) Stop) → n ≡ suc more → IsErrAnd result (λ x. x ≡ e)
      → Follows who log start p c c whole (Some (prints_from block n)) → Follows who log p q c c (prints_block block) (answered_by (Err e) tt) → Follows who log start q c c whole (answered_by result tt)
  print_stopped block n more e result is lost so_far f =
      follows_on (at_block block n more is so_far) (broken e result tt (λ _ _. prints_from (suc block) more) lost f)
