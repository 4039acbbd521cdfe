use Rattle.std.proofs.Common.{List, ℕ, ap, sym}
use Rattle.job_model.specs.Act.{Gives}
use Rattle.job_model.proofs.Follows.{follows_with, follows_is, broken}
use Rattle.channels.proofs.transfers.fetch_block.Goals as goal

pub returns-in_err-page-clause-follows : goal.returns-in_err-page-clause-follows
returns-in_err-page-clause-follows g c clock files =
    broken c.in_err-page.field-0.0 c.from_residual.result files (λ page. Gives (1, page)) c.from_residual.ensures.1 (c.in_err-page.ensures.follows clock files)

pub returns-clause-follows : goal.returns-clause-follows
returns-clause-follows g c clock files =
    follows_with (λ page. Gives (1, page)) (c.in_ok-page.ensures.follows clock files)
    (follows_is (ap (λ (bytes : List ℕ). Gives (1, bytes) files) (sym c.into_bytes.ensures.bytes)))
