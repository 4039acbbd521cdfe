use Rattle.drill_deck.proofs.DeckLemmas.{is_deck}
use Rattle.drill_deck.proofs.decks.drill_deck.Goals as goal

pub returns-in_err-push-clause-good : goal.returns-in_err-push-clause-good
returns-in_err-push-clause-good c = is_deck c.args.jobs c.requires

pub returns-in_err-count_file-clause-good : goal.returns-in_err-count_file-clause-good
returns-in_err-count_file-clause-good c = is_deck c.args.jobs c.requires

pub returns-in_err-push-2-clause-good : goal.returns-in_err-push-2-clause-good
returns-in_err-push-2-clause-good c = is_deck c.args.jobs c.requires

pub returns-in_err-terminals-clause-good : goal.returns-in_err-terminals-clause-good
returns-in_err-terminals-clause-good c = is_deck c.args.jobs c.requires
