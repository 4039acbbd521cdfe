use Rattle.statement_parts.proofs.Parts.{opens_not}
use Rattle.statement_parts.proofs.reading.opening.Goals as goal

pub returns : goal.returns
returns c = (c.requires, opens_not c.args.words.now c.args.from c.if-next_is_sign.ensures.stands c.args.levels)
