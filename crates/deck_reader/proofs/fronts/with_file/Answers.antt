use Rattle.std.proofs.Common.{sym, subst}
use Rattle.std.specs.Prelude.{Result}
use Rattle.deck_model.specs.declared.faults.DeckCause.{DeckCause}
use Rattle.deck_model.specs.Fronts.{Front, InFile, new_file}
use Rattle.deck_reader.specs.Seen.{Decides, file_texts_seen, deck_of, open_of, front_of}
use Rattle.deck_reader.proofs.FileLemmas.{out_of_range, in_range}
use Rattle.deck_reader.proofs.fronts.with_file.Goals as goal

pub returns-in-None : goal.returns-in-None
returns-in-None c =
    let texts = file_texts_seen c.args.texts.now in
    out_of_range c.args.version (deck_of c.args.deck) texts (InFile c.args.version (deck_of c.args.deck) (new_file texts)) c.in-None.ensures

pub returns-in-Some : goal.returns-in-Some
returns-in-Some c =
    let same = in_range c.args.version (deck_of c.args.deck) (file_texts_seen c.args.texts.now) (open_of c.in-Some.file) c.in-Some.ensures in
    subst (λ (r : Result Front DeckCause). Decides front_of c.with_new_file.result r) (sym same) c.with_new_file.ensures
