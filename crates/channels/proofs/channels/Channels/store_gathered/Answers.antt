use Rattle.std.proofs.Common.{List, ℕ, take, refl, ap, sym, ◌∙◌}
use Rattle.job_model.proofs.Follows.{follows_from, broken}
use Rattle.record_fields.specs.Buffers.{buffer_of}
use Rattle.channels.specs.declared.states.ChannelState.{ChannelState}
use Rattle.channels.specs.Files.{changes}
use Rattle.channels.specs.Transfers.{stores}
use Rattle.channels.specs.Seen.{files}
use Rattle.channels.specs.Waiting.{gathered_stored}
use Rattle.channels.proofs.Calls.{follows_changed}
use Rattle.channels.proofs.Beside.{told_beside}
use Rattle.channels.proofs.channels.Channels.store_gathered.Goals as goal

pub returns-in_err-store-clause-follows : goal.returns-in_err-store-clause-follows
returns-in_err-store-clause-follows g c clock =
    let old = files c.args.self.now c.args.buffers.now in
    let gathered = take c.args.count (buffer_of c.args.channel c.args.buffers.now) in
    let same = ap (λ (state : ChannelState). stores c.args.channel state.next state.size gathered old) (sym c.state-state.ensures)
    ∙ ap (λ (bytes : List ℕ). stores c.args.channel c.state-state.result.next c.state-state.result.size bytes old) (sym c.first_bytes-bytes.ensures) in
    broken c.in_err-store.field-0.0 c.from_residual.result old (λ _. changes (gathered_stored c.args.channel)) c.from_residual.ensures.1 (follows_from same (c.in_err-store.ensures.follows clock old))

pub returns-clause-follows : goal.returns-clause-follows
returns-clause-follows g c clock =
    let old = files c.args.self.now c.args.buffers.now in
    let gathered = take c.args.count (buffer_of c.args.channel c.args.buffers.now) in
    let same = ap (λ (state : ChannelState). stores c.args.channel state.next state.size gathered old) (sym c.state-state.ensures)
    ∙ ap (λ (bytes : List ℕ). stores c.args.channel c.state-state.result.next c.state-state.result.size bytes old) (sym c.first_bytes-bytes.ensures) in
    follows_changed (λ _. changes (gathered_stored c.args.channel)) (follows_from same (c.in_ok-store.ensures.follows clock old)) refl (sym (told_beside c.args.buffers.now c.note_gathered_stored.ensures.state))
