pub mod MachineForms
pub mod MachineJudge
pub mod MachineMoves
pub mod MachineRun
pub mod MachineSentences
pub mod MachineStack
pub mod MachineStarts
pub mod GrammarWords
