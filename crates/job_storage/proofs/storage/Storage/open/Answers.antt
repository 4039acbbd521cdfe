use Rattle.std.proofs.Common.{List, ℕ, Ok, Err}
use Rattle.std.specs.Prelude.{ℤ}
use Rattle.channels.specs.Files.{channel_to_open}
use Rattle.monitor_calls.specs.declared.files.OpenKind.{OpenKind}
use Rattle.job_model.specs.Act.{◌then◌}
use Rattle.job_model.proofs.Follows.{follows_with, broken}
use Rattle.program_model.specs.FileActs.{is_tested, record_and_mode, opens_said}
use Rattle.program_model.specs.Storage.{StorageAct}
use Rattle.job_storage.proofs.Asked.{follows_tested}
use Rattle.job_storage.proofs.storage.Storage.open.Goals as goal

abbrev next : OpenKind → List ℕ → ℤ → ℤ → ℕ → StorageAct (Unit {0})
next kind text bytes mode c s = is_tested (record_and_mode bytes mode) s then λ how. opens_said kind text c how

pub returns-in_err-channel : goal.returns-in_err-channel
returns-in_err-channel g c clock =
    let s = c.args.self.now in
    broken c.in_err-channel.field-0.0 c.from_residual.result s (next c.args.kind c.args.text.now c.args.bytes c.args.mode) c.from_residual.ensures.1
    (follows_tested (Err c.in_err-channel.field-0.0) s (is_tested (channel_to_open c.args.channel s.files.channels) s) (c.in_err-channel.ensures.tested s))

pub returns-in_err-how : goal.returns-in_err-how
returns-in_err-how g c clock =
    let s = c.args.self.now in
    follows_with (next c.args.kind c.args.text.now c.args.bytes c.args.mode)
    (follows_tested (Ok c.in_ok-channel.channel) s (is_tested (channel_to_open c.args.channel s.files.channels) s) (c.in_ok-channel.ensures.tested s))
    (broken c.in_err-how.field-0.0 c.from_residual-in_err-how.result s (λ how. opens_said c.args.kind c.args.text.now c.in_ok-channel.channel how) c.from_residual-in_err-how.ensures.1
    (follows_tested (Err c.in_err-how.field-0.0) s (is_tested (record_and_mode c.args.bytes c.args.mode) s) (c.in_err-how.ensures s)))

pub returns : goal.returns
returns g c clock =
    let s = c.args.self.now in
    follows_with (next c.args.kind c.args.text.now c.args.bytes c.args.mode)
    (follows_tested (Ok c.in_ok-channel.channel) s (is_tested (channel_to_open c.args.channel s.files.channels) s) (c.in_ok-channel.ensures.tested s))
    (follows_with (λ how. opens_said c.args.kind c.args.text.now c.in_ok-channel.channel how)
    (follows_tested (Ok c.in_ok-how.how) s (is_tested (record_and_mode c.args.bytes c.args.mode) s) (c.in_ok-how.ensures s)) (c.open_said.ensures clock))
