use Rattle.basic_line.proofs.ParsedLines.{plain_stated, simple_stated}
use Rattle.basic_line.proofs.lines.statement_at.Goals as goal

pub returns-in-Head : goal.returns-in-Head
returns-in-Head c = plain_stated c.args.words.now c.args.from c.args.class c.plain_at.result c.in-Head.is c.requires.sentence c.plain_at.ensures

pub returns-in-Simple : goal.returns-in-Simple
returns-in-Simple c = simple_stated c.args.words.now c.args.from c.simple_at.result c.simple_at.ensures
