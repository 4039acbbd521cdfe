use Rattle.std.proofs.Common.{◌≡◌, List, ℕ, Some, refl, ap, sym, ◌∙◌, rules}
use Rattle.job_model.specs.Act.{Gives}
use Rattle.job_model.proofs.Ends.{follows_ends}
use Rattle.job_model.proofs.Follows.{follows_to}
use Rattle.channels.specs.Files.{Files, changes}
use Rattle.channels.specs.Windows.{with_window, zeros_at_end}
use Rattle.channels.specs.Seen.{files}
use Rattle.channels.proofs.channels.Channels.read_window.Goals as goal

pub returns-in-Ok : goal.returns-in-Ok
returns-in-Ok g c clock =
    let old = files c.args.self.now c.args.buffers.now in
    let bytes : c.in-Ok.page ≡ c.as_bytes.result.now = search rules in
    follows_to (ap (λ (f : Files). Some (Gives tt f)) (ap (λ (page : List ℕ). with_window c.args.channel c.args.block c.args.writing page old) bytes ∙ sym c.keep_window.ensures))
    (follows_ends (λ files. files) (λ page. changes (with_window c.args.channel c.args.block c.args.writing page)) (zeros_at_end c.args.channel c.args.block c.args.writing) (λ _. refl) (c.in-Ok.ensures.follows clock old))

pub returns-in-Err : goal.returns-in-Err
returns-in-Err g c clock =
    let old = files c.args.self.now c.args.buffers.now in
    follows_to c.zeros_at_end.ensures
    (follows_ends (λ files. files) (λ page. changes (with_window c.args.channel c.args.block c.args.writing page)) (zeros_at_end c.args.channel c.args.block c.args.writing) (λ _. refl) (c.in-Err.ensures.follows clock old))
