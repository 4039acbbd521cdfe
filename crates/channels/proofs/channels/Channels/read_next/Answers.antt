use Rattle.std.proofs.Common.{◌≡◌, List, ℕ, refl, ap, sym, ◌∙◌, rules}
use Rattle.job_model.proofs.Follows.{follows_from, broken}
use Rattle.channels.specs.declared.states.ChannelState.{ChannelState}
use Rattle.channels.specs.Files.{changes}
use Rattle.channels.specs.Transfers.{fetches}
use Rattle.channels.specs.TextIn.{record_loaded}
use Rattle.channels.specs.Seen.{files}
use Rattle.channels.proofs.Calls.{follows_changed}
use Rattle.channels.proofs.channels.Channels.read_next.Goals as goal

pub returns-in_err-count : goal.returns-in_err-count
returns-in_err-count g c clock =
    let old = files c.args.self.now c.args.buffers.now in
    let same = ap (λ (state : ChannelState). fetches c.args.channel state.next state.size old) (sym c.state-state.ensures) in
    broken c.in_err-count.field-0.0 c.from_residual.result old (λ reading. changes (record_loaded c.args.channel reading)) c.from_residual.ensures.1 (follows_from same (c.in_err-count.ensures.follows clock old))

pub returns : goal.returns
returns g c clock =
    let old = files c.args.self.now c.args.buffers.now in
    let same = ap (λ (state : ChannelState). fetches c.args.channel state.next state.size old) (sym c.state-state.ensures) in
    let bytes : c.in_ok-count.bytes ≡ c.as_slice.result.now = search rules in
    follows_changed (λ reading. changes (record_loaded c.args.channel reading)) (follows_from same (c.in_ok-count.ensures.follows clock old)) refl
    (ap (λ (bytes : List ℕ). record_loaded c.args.channel (c.in_ok-count.count, bytes) old) bytes ∙ sym c.keep_loaded.ensures)
