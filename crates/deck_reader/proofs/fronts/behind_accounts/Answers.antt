use Rattle.std.proofs.Common.{sym, subst}
use Rattle.std.specs.Prelude.{Result}
use Rattle.deck_model.specs.declared.faults.DeckCause.{DeckCause}
use Rattle.deck_model.specs.Fronts.{Front}
use Rattle.deck_reader.specs.Seen.{texts_seen, file_texts_seen, deck_of, front_of, Decides}
use Rattle.deck_reader.proofs.FrontLemmas.{account_behind, file_behind, first_terminal_behind}
use Rattle.deck_reader.proofs.fronts.behind_accounts.Goals as goal

pub returns-in-Some-Account : goal.returns-in-Some-Account
returns-in-Some-Account c =
    let behind = account_behind c.args.version (deck_of c.args.deck) c.args.line.now (texts_seen c.in-Some-Account.texts) (rw c.in-Some-Account.field-0-is at c.in-Some-Account.ensures) in
    subst (λ (r : Result Front DeckCause). Decides front_of c.with_account.result r) (sym behind) c.with_account.ensures

pub returns-in-Some-File : goal.returns-in-Some-File
returns-in-Some-File c =
    let behind = file_behind c.args.version (deck_of c.args.deck) c.args.line.now (file_texts_seen c.in-Some-File.texts) (rw c.in-Some-File.field-0-is at c.in-Some-File.ensures) in
    subst (λ (r : Result Front DeckCause). Decides front_of c.with_file.result r) (sym behind) c.with_file.ensures

pub returns-in-Some-Terminal : goal.returns-in-Some-Terminal
returns-in-Some-Terminal c =
    let behind = first_terminal_behind c.args.version (deck_of c.args.deck) c.args.line.now c.in-Some-Terminal.name.now (rw c.in-Some-Terminal.field-0-is at c.in-Some-Terminal.ensures) in
    subst (λ (r : Result Front DeckCause). Decides front_of c.with_terminal.result r) (sym behind) c.with_terminal.ensures
