use Rattle.job_model.proofs.Follows.{follows_none, follows_nothing}
use Rattle.basic_eval.specs.Acting.{seen}
use Rattle.basic_eval.proofs.AskLemmas.{follows_key, key_lost}
use Rattle.basic_eval.proofs.state.Running.ask.Goals as goal

pub returns-in_err-write_question : goal.returns-in_err-write_question
returns-in_err-write_question g c clock = key_lost c.from_residual.result _ c.from_residual.ensures.1 follows_nothing

pub returns-in_err-key : goal.returns-in_err-key
returns-in_err-key g c clock = key_lost c.from_residual-in_err-key.result _ c.from_residual-in_err-key.ensures.1 (follows_none c.in_err-key.ensures.memory)

pub returns : goal.returns
returns g c clock = follows_key c.args.prompt.now (seen c.args.self.now) (seen c.write_question.new.self) (seen c.take_key.new.self) _ c.take_key.result c.in_ok-write_question.ensures c.in_ok-key.ensures.ok c.take_key.ensures
