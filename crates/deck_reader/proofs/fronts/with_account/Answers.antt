use Rattle.std.proofs.Common.{sym}
use Rattle.deck_model.specs.Fronts.{InAccounts, with_account, entry_of}
use Rattle.deck_reader.specs.Seen.{texts_seen, deck_of}
use Rattle.deck_reader.proofs.FrontLemmas.{account_out}
use Rattle.deck_reader.proofs.fronts.with_account.Goals as goal

pub returns-in-None : goal.returns-in-None
returns-in-None c =
    let deck = deck_of c.args.deck in
    let texts = texts_seen c.args.texts.now in
    account_out deck texts (InAccounts c.args.version (with_account deck (entry_of deck.blocks texts))) (sym c.in-None.ensures)
