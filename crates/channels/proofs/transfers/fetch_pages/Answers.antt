use Rattle.std.proofs.Common.{◌≡◌, List, ℕ, length, ap, ◌∙◌, rules}
use Rattle.job_model.specs.Act.{Gives}
use Rattle.job_model.proofs.Follows.{follows_with, follows_is, follows_then, broken}
use Rattle.channels.specs.Transfers.{joined}
use Rattle.channels.proofs.Calls.{follows_lost}
use Rattle.channels.proofs.transfers.fetch_pages.Goals as goal

pub returns-in_err-pages-clause-follows : goal.returns-in_err-pages-clause-follows
returns-in_err-pages-clause-follows g c clock files =
    broken c.in_err-pages.field-0.0 c.from_residual.result files (λ pages. Gives (length pages, joined pages)) c.from_residual.ensures.1 (c.in_err-pages.ensures.follows clock files)

pub returns-in_err-bytes-clause-follows : goal.returns-in_err-bytes-clause-follows
returns-in_err-bytes-clause-follows g c clock files =
    follows_lost c.from_residual-in_err-bytes.result files c.from_residual-in_err-bytes.ensures.1 (follows_then (λ pages. Gives (length pages, joined pages)) (c.in_ok-pages.ensures.follows clock files))

pub returns-clause-follows : goal.returns-clause-follows
returns-clause-follows g c clock files =
    let bytes : joined c.in_ok-pages.pages ≡ c.in_ok-bytes.bytes = search rules in
    let count : length c.in_ok-pages.pages ≡ length c.as_slice-2.result.now = search rules in
    follows_with (λ pages. Gives (length pages, joined pages)) (c.in_ok-pages.ensures.follows clock files)
    (follows_is (ap (λ (l : List ℕ). Gives (length c.in_ok-pages.pages, l) files) bytes ∙ ap (λ (n : ℕ). Gives (n, c.in_ok-bytes.bytes) files) count))
