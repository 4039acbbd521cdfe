-- A job's variables and files, and core common: the state of the statements on files and of SYS.
use Rattle.std.specs.Prelude.{ℕ, List}
use Rattle.monitor_calls.specs.declared.names.Account.{Account}
use Rattle.channels.specs.Files.{Files}
use Rattle.job_memory.specs.Memory.{Memory}
use Rattle.job_model.specs.Act.{Act, Place, on}
use Rattle.program_model.specs.Job.{Job, Deed}

pub record Storage : Type 0 where
  -- the account that the job acts for
  pub account : Account
  pub memory : Memory
  -- the channels with RECOUNT, and the buffers
  pub files : Files
  -- core common, which one program leaves to the next
  pub common : List ℕ

-- it has no way of its own to leave
abbrev pub StorageAct : Type 0 → Type 0
StorageAct A = Storage → Act ⊥ Storage A

-- the files and core common as parts of it, and it as a part of a job
abbrev pub in_files : Place Storage Files
in_files = record { part = λ s. s.files; with_part = λ s files. record s { files = files } }

abbrev pub in_common : Place Storage (List ℕ)
in_common = record { part = λ s. s.common; with_part = λ s common. record s { common = common } }

abbrev pub in_storage : {R : Type 0} → Place (Job R) Storage
in_storage = record {
  part = λ j. record {
    account = j.account;
    memory = j.memory;
    files = record { channels = j.channels; recount = j.recount; buffers = j.buffers };
    common = j.common;
  };
  with_part = λ j s. record j {
    account = s.account;
    memory = s.memory;
    channels = s.files.channels;
    recount = s.files.recount;
    buffers = s.files.buffers;
    common = s.common;
  };
}

-- what is done on it is done by the job
abbrev pub stores_by : {R A : Type 0} → StorageAct A → Job R → Deed R A
stores_by act j = on in_storage act j
