use Rattle.std.proofs.Common.{◌≡◌, List, ℕ, ap, sym, ◌∙◌}
use Rattle.monitor_calls.specs.declared.calls.Request.TheVariants as request
use Rattle.job_model.specs.Replies.{asks_for, done_by}
use Rattle.job_model.proofs.Follows.{follows_from}
use Rattle.record_fields.specs.Sizes.{blocks_of}
use Rattle.channels.specs.Files.{asks}
use Rattle.channels.specs.Transfers.{pages_from}
use Rattle.channels.proofs.Calls.{follows_asks, follows_unbegun}
use Rattle.channels.proofs.transfers.store_pages.Goals as goal

pub returns-in_err-pages-clause-follows : goal.returns-in_err-pages-clause-follows
returns-in_err-pages-clause-follows g c clock files = follows_unbegun c.from_residual.result files c.from_residual.ensures.1

pub returns-clause-follows : goal.returns-clause-follows
returns-clause-follows g c clock files =
    let pages : pages_from (blocks_of c.args.size) c.args.bytes.now ≡ c.in_ok-pages.pages = ap (λ (n : ℕ). pages_from n c.args.bytes.now) (sym c.blocks-count.ensures.is) ∙ sym c.in_ok-pages.ensures in
    follows_from (ap (λ (pages : List (List ℕ)). asks (asks_for done_by (request.PutRecord c.args.channel c.args.block pages)) files) pages)
    (follows_asks (asks_for done_by (request.PutRecord c.args.channel c.args.block c.in_ok-pages.pages)) c.ask_done.result files (c.ask_done.ensures.follows clock))
