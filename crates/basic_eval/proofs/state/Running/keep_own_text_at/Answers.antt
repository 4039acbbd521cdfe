use Rattle.std.specs.Prelude.{Err}
use Rattle.program_model.specs.declared.values.Value.TheVariants.{Text}
use Rattle.program_model.specs.Variables.{content_of}
use Rattle.job_memory.specs.Memory.{store_at}
use Rattle.basic_eval.specs.Acting.{seen}
use Rattle.basic_eval.proofs.Stores.{elements_act}
use Rattle.basic_eval.proofs.state.Running.keep_own_text_at.Goals as goal

pub returns-in-Err : goal.returns-in-Err
returns-in-Err c =
    let wanted = store_at c.args.name c.args.first c.args.second (content_of (Text c.args.text)) c.args.self.now.storage.memory in
    rw (c.fail.ensures.nothing, c.fail.ensures.why, c.exit_at.ensures) (elements_act wanted c.set_text_at.new.self.memory (seen c.args.self.now) (seen c.fail.new.self) (Err c.in-Err.stop) c.in-Err.ensures.memory (cc))
