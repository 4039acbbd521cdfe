use Rattle.file_names.proofs.SpecLaws.{spec_is_one}
use Rattle.file_names.proofs.laws.spec_is_one.Goals as goal

pub returns : goal.returns
returns c = spec_is_one
