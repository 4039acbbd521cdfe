use Rattle.std.proofs.Common.{◌≡◌, drop}
use Rattle.program_model.specs.FileActs.{binds}
use Rattle.job_storage.proofs.storage.Storage.bind_all.Given as goal

-- what is bound so far, and what is left to be bound
abbrev pub invariant-loop-place : goal.invariant-loop-place
invariant-loop-place l = binds l.channel l.names l.parts l.fn.self ≡ binds l.channel (drop l.place l.names) (drop l.place l.parts) l.self
