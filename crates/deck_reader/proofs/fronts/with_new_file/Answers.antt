use Rattle.std.proofs.Common.{sym, ap}
use Rattle.deck_model.specs.Fronts.{InFile}
use Rattle.deck_model.specs.Reading.{unless_refused}
use Rattle.deck_reader.specs.Seen.{deck_of, open_of}
use Rattle.deck_reader.proofs.fronts.with_new_file.Goals as goal

pub returns-in-Some : goal.returns-in-Some
returns-in-Some c = ap (unless_refused (InFile c.args.version (deck_of c.args.deck) (open_of c.args.file))) (sym c.in-Some.ensures)

pub returns-in-None : goal.returns-in-None
returns-in-None c = ap (unless_refused (InFile c.args.version (deck_of c.args.deck) (open_of c.args.file))) (sym c.in-None.ensures)
