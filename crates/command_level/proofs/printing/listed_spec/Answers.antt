use Rattle.std.proofs.Common.{List, ℕ, ap, ◌∙◌}
use Rattle.file_names.specs.SpecFronts.{spec_said}
use Rattle.command_level.proofs.printing.listed_spec.Goals as goal

pub returns : goal.returns
returns c = c.parse_spec.ensures.said ∙ ap (λ (e : List ℕ). spec_said c.args.own e c.args.text.now) c.listing_extension.ensures
