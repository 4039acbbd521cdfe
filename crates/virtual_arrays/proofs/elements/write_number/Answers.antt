use Rattle.std.proofs.Common.{List, ℕ, ap, sym}
use Rattle.channels.specs.Seen.{files}
use Rattle.job_model.proofs.Follows.{follows_from}
use Rattle.virtual_arrays.specs.declared.elements.Element.TheVariants.{Text}
use Rattle.virtual_arrays.specs.Elements.{writes_element}
use Rattle.virtual_arrays.proofs.elements.write_number.Goals as goal

pub returns : goal.returns
returns g c clock =
    let old = files c.args.channels.now c.args.buffers.now in
    follows_from (ap (λ (bytes : List ℕ). writes_element c.args.shape.now c.args.first c.args.second (Text bytes) old) (sym c.low_first-bytes.ensures)) (c.write_text.ensures clock)
