use Rattle.std.proofs.Common.{sym, subst}
use Rattle.std.specs.Prelude.{Result}
use Rattle.deck_model.specs.declared.faults.DeckCause.{DeckCause}
use Rattle.deck_model.specs.Deck as model
use Rattle.deck_model.specs.Fronts.{Front}
use Rattle.deck_reader.specs.Seen.{deck_of, terminal_of, front_of, Decides}
use Rattle.deck_reader.proofs.FrontLemmas.{named, next_terminal_behind}
use Rattle.deck_reader.proofs.fronts.behind_terminal.Goals as goal

pub returns-in_ok-before-in-Some-Terminal : goal.returns-in_ok-before-in-Some-Terminal
returns-in_ok-before-in-Some-Terminal c =
    let name = c.in-Some-Terminal.name.now in
    let behind = next_terminal_behind c.args.version (deck_of c.args.deck) (terminal_of c.args.terminal) c.args.line.now name (rw c.in-Some-Terminal.field-0-is at c.in-Some-Terminal.ensures) in
    let taken = subst (λ (deck : model.Deck). Decides front_of c.with_terminal.result (named c.args.version deck name)) c.in_ok-before-in-Some-Terminal.ensures c.with_terminal.ensures in
    subst (λ (r : Result Front DeckCause). Decides front_of c.with_terminal.result r) (sym behind) taken
