use Rattle.std.proofs.Common.{refl, ap, sym}
use Rattle.job_model.proofs.Follows.{broken}
use Rattle.channels.specs.Files.{changes}
use Rattle.channels.specs.Seen.{files}
use Rattle.channels.proofs.Beside.{beside}
use Rattle.channels.proofs.Calls.{follows_changed}
use Rattle.virtual_arrays.specs.declared.elements.Element.TheVariants.{Text}
use Rattle.virtual_arrays.specs.Elements.{with_element}
use Rattle.virtual_arrays.proofs.elements.write_at.Goals as goal

pub returns-in_err-window : goal.returns-in_err-window
returns-in_err-window g c clock =
    broken c.in_err-window.field-0.0 c.from_residual.result (files c.window.new.self c.window.new.buffers) (λ _. changes (with_element c.args.channel c.args.place (Text c.args.bytes.now))) c.from_residual.ensures.1 (c.in_err-window.ensures clock)

pub returns : goal.returns
returns g c clock =
    follows_changed (λ _. changes (with_element c.args.channel c.args.place (Text c.args.bytes.now))) (c.in_ok-window.ensures clock) refl (ap (λ b. beside b (files c.window.new.self c.window.new.buffers)) (sym c.fill_part.ensures))
