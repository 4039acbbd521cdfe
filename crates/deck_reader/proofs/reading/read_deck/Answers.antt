use Rattle.deck_reader.proofs.VerdictLemmas.{found_so, refused_so}
use Rattle.deck_reader.proofs.reading.read_deck.Goals as goal

pub returns-clause-found : goal.returns-clause-found
returns-clause-found c = found_so c.args.bytes.now c.judged.result c.judged.ensures

pub returns-clause-refused : goal.returns-clause-refused
returns-clause-refused c = refused_so c.args.bytes.now c.judged.result c.judged.ensures
