use Rattle.sys_calls.proofs.TableLaws.{decodes_by_reading}
use Rattle.sys_calls.proofs.decoding.decode.Goals as goal

pub returns-clause-says : goal.returns-clause-says
returns-clause-says c = decodes_by_reading c.args.text.now c.call_in.result c.call_in.ensures
