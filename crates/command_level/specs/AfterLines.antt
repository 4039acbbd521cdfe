-- What is left of a key line, by the answer of its call.
use Rattle.command_level.specs.declared.session.AfterLine.{AfterLine}
use Rattle.command_level.specs.declared.session.AfterLine.TheVariants as onward
use Rattle.job_model.specs.Act.{Gives, Breaks, Gone, Left}
use Rattle.session_model.specs.Talk.{Session, Step, Ended}

-- what is left of a line after which the session is in this state
abbrev pub goes : {R : Type 0} → AfterLine → Session R → Step R
goes onward.Next s = Gives tt s
goes onward.Ended s = Breaks (Left Ended) s
goes onward.Expired s = Breaks Gone s
