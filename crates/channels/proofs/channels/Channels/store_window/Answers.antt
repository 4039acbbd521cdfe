use Rattle.std.proofs.Common.{List, ℕ, false, refl, ap, sym}
use Rattle.job_model.proofs.Follows.{follows_from, broken}
use Rattle.channels.specs.declared.states.Waiting.TheVariants.{Window}
use Rattle.channels.specs.Files.{changes}
use Rattle.channels.specs.Transfers.{stores_block}
use Rattle.channels.specs.Seen.{files}
use Rattle.channels.specs.Waiting.{with_waiting}
use Rattle.channels.proofs.Calls.{follows_changed}
use Rattle.channels.proofs.Beside.{told_beside}
use Rattle.channels.proofs.channels.Channels.store_window.Goals as goal

pub returns-in_err-store_block-clause-follows : goal.returns-in_err-store_block-clause-follows
returns-in_err-store_block-clause-follows g c clock =
    let old = files c.args.self.now c.args.buffers.now in
    let same = ap (λ (bytes : List ℕ). stores_block c.args.channel c.args.block bytes old) (sym c.buffer.ensures.bytes) in
    broken c.in_err-store_block.field-0.0 c.from_residual.result old (λ _. changes (with_waiting c.args.channel (Window c.args.block false))) c.from_residual.ensures.1 (follows_from same (c.in_err-store_block.ensures.follows clock old))

pub returns-clause-follows : goal.returns-clause-follows
returns-clause-follows g c clock =
    let old = files c.args.self.now c.args.buffers.now in
    let same = ap (λ (bytes : List ℕ). stores_block c.args.channel c.args.block bytes old) (sym c.buffer.ensures.bytes) in
    follows_changed (λ _. changes (with_waiting c.args.channel (Window c.args.block false))) (follows_from same (c.in_ok-store_block.ensures.follows clock old)) refl (sym (told_beside c.args.buffers.now c.note_window.ensures.state))
