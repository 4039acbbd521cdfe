use Rattle.std.proofs.Common.{ap, sym, ◌∙◌}
use Rattle.job_model.specs.Act.{Gives}
use Rattle.job_model.proofs.Follows.{follows_with, follows_then, follows_is, broken}
use Rattle.channels.specs.Seen.{files}
use Rattle.channels.proofs.Calls.{follows_lost}
use Rattle.virtual_arrays.specs.declared.elements.Element.{Element}
use Rattle.virtual_arrays.specs.Elements.{element_of, element_at}
use Rattle.virtual_arrays.proofs.elements.read_at.Goals as goal

pub returns-in_err-window : goal.returns-in_err-window
returns-in_err-window g c clock =
    broken c.in_err-window.field-0.0 c.from_residual.result (files c.window.new.self c.window.new.buffers) (λ _ files. Gives (element_at c.args.text c.args.channel c.args.place files) files) c.from_residual.ensures.1 (c.in_err-window.ensures clock)

pub returns-in_err-element : goal.returns-in_err-element
returns-in_err-element g c clock =
    follows_lost c.from_residual-in_err-element.result _ c.from_residual-in_err-element.ensures.1 (follows_then (λ _ files. Gives (element_at c.args.text c.args.channel c.args.place files) files) (c.in_ok-window.ensures clock))

pub returns : goal.returns
returns g c clock =
    let left = files c.window.new.self c.window.new.buffers in
    follows_with (λ _ files. Gives (element_at c.args.text c.args.channel c.args.place files) files) (c.in_ok-window.ensures clock) (follows_is (ap (λ (element : Element). Gives element left) (ap (element_of c.args.text) (sym c.part.ensures) ∙ sym c.in_ok-element.ensures)))
