use Rattle.std.proofs.Common.{List, ℕ, refl, ap, sym, ◌∙◌}
use Rattle.job_model.proofs.Follows.{follows_from, broken}
use Rattle.record_fields.specs.Buffers.{buffer_of}
use Rattle.channels.specs.declared.states.ChannelState.{ChannelState}
use Rattle.channels.specs.Files.{changes}
use Rattle.channels.specs.Transfers.{stores}
use Rattle.channels.specs.Records.{record_put}
use Rattle.channels.specs.Seen.{files}
use Rattle.channels.proofs.Calls.{follows_changed}
use Rattle.channels.proofs.Beside.{told_beside}
use Rattle.channels.proofs.channels.Channels.put_at.Goals as goal

pub returns-in_err-store : goal.returns-in_err-store
returns-in_err-store g c clock =
    let old = files c.args.self.now c.args.buffers.now in
    let same = ap (λ (state : ChannelState). stores c.args.channel c.args.block state.size (buffer_of c.args.channel c.args.buffers.now) old) (sym c.state-state.ensures)
    ∙ ap (λ (bytes : List ℕ). stores c.args.channel c.args.block c.state-state.result.size bytes old) (sym c.buffer-bytes.ensures.bytes) in
    broken c.in_err-store.field-0.0 c.from_residual.result old (λ _. changes (record_put c.args.channel c.args.block)) c.from_residual.ensures.1 (follows_from same (c.in_err-store.ensures.follows clock old))

pub returns : goal.returns
returns g c clock =
    let old = files c.args.self.now c.args.buffers.now in
    let same = ap (λ (state : ChannelState). stores c.args.channel c.args.block state.size (buffer_of c.args.channel c.args.buffers.now) old) (sym c.state-state.ensures)
    ∙ ap (λ (bytes : List ℕ). stores c.args.channel c.args.block c.state-state.result.size bytes old) (sym c.buffer-bytes.ensures.bytes) in
    follows_changed (λ _. changes (record_put c.args.channel c.args.block)) (follows_from same (c.in_ok-store.ensures.follows clock old)) refl (sym (told_beside c.args.buffers.now c.note_put.ensures))
