use Rattle.std.proofs.Common.{ℕ, Ok, Err}
use Rattle.job_model.proofs.Follows.{follows_with, broken}
use Rattle.channels.specs.Files.{Files, FilesAct}
use Rattle.channels.specs.Seen.{files}
use Rattle.channels.proofs.Calls.{follows_tested}
use Rattle.virtual_arrays.specs.declared.places.Place.{Place}
use Rattle.virtual_arrays.specs.declared.elements.Element.{Element}
use Rattle.virtual_arrays.specs.declared.elements.Element.TheVariants.{Text}
use Rattle.virtual_arrays.specs.Elements.{writes_at}
use Rattle.virtual_arrays.proofs.elements.write_text.Goals as goal

abbrev next : Element → ℕ × Place → Files → FilesAct Unit
next value at = writes_at at.0 at.1 value

pub returns-in_err-channel : goal.returns-in_err-channel
returns-in_err-channel g c clock =
    let old = files c.args.channels.now c.args.buffers.now in
    broken c.in_err-channel.field-0.0 c.from_residual.result old (next (Text c.args.bytes.now)) c.from_residual.ensures.1 (follows_tested (Err c.in_err-channel.field-0.0) old (c.in_err-channel.ensures.judged old))

pub returns : goal.returns
returns g c clock =
    let old = files c.args.channels.now c.args.buffers.now in
    follows_with (next (Text c.args.bytes.now)) (follows_tested (Ok (c.in_ok-channel.channel, c.in_ok-channel.place)) old (c.in_ok-channel.ensures.judged old)) (c.write_at.ensures clock)
