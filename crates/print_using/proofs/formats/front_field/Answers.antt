use Rattle.std.proofs.Common.{◌≡◌, rules, sym}
use Rattle.print_using.specs.FormatFronts.{front_field}
use Rattle.print_using.proofs.FieldLaws.{front_within}
use Rattle.print_using.proofs.formats.front_field.Goals as goal

pub returns-clause-within : goal.returns-clause-within
returns-clause-within c =
    let found : c.front_by.result ≡ front_field c.args.format.now = search rules in
    front_within c.args.format.now c.front_by.result (sym found)
