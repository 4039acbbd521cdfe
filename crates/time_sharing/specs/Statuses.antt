-- The program's status and its line on standard error.
use Rattle.std.specs.Prelude.{ℕ, List, ◌++◌, Result, Ok, Err, codes}
use Rattle.std.specs.Fmt.{decimal}
use Rattle.deck_model.specs.declared.faults.DeckCause.{DeckCause}
use Rattle.deck_model.specs.declared.faults.DeckCause.TheVariants.{Cut, Version, Shape, Range, Double, Owner, Space}
use Rattle.deck_model.specs.declared.faults.DeckFault.{DeckFault}
use Rattle.time_sharing.specs.declared.outcomes.HistoryCause.{HistoryCause}
use Rattle.time_sharing.specs.declared.outcomes.HistoryCause.TheVariants.{Form, Reply, Meaning}
use Rattle.time_sharing.specs.declared.outcomes.HistoryFault.{HistoryFault}
use Rattle.time_sharing.specs.declared.outcomes.Failure.{Failure}
use Rattle.time_sharing.specs.declared.outcomes.Failure.TheVariants.{Deck, ReadFault, TooLong, WriteFault, NoMemory, History}
use Rattle.time_sharing.specs.declared.outcomes.Outcome.{Outcome}
use Rattle.time_sharing.specs.declared.outcomes.Outcome.TheVariants as outcome

abbrev pub failure_status : Failure → ℕ
failure_status (Deck fault) = 2
failure_status ReadFault = 3
failure_status TooLong = 4
failure_status WriteFault = 5
failure_status NoMemory = 6
failure_status (History fault) = 7

-- of the result of a word
abbrev pub end_status : {A : Type 0} → Result A Failure → ℕ
end_status (Ok done) = 0
end_status (Err failure) = failure_status failure

abbrev pub status_of : Outcome → ℕ
status_of (outcome.Run end) = end_status end
status_of (outcome.Check end) = end_status end
status_of (outcome.Drill end) = end_status end
status_of (outcome.Replay end) = end_status end
status_of outcome.Usage = 1
status_of outcome.NoMemory = failure_status NoMemory

abbrev pub cause_text : DeckCause → List ℕ
cause_text Cut = codes "input ends early"
cause_text Version = codes "not a version 1, 2 or 3 deck"
cause_text Shape = codes "wrong form"
cause_text Range = codes "number or text out of range"
cause_text Double = codes "name given twice"
cause_text Owner = codes "unknown account"
cause_text Space = codes "no room"

abbrev pub fault_line : DeckFault → List ℕ
fault_line fault = codes "deck line " ++ decimal fault.line ++ codes ": " ++ cause_text fault.cause

abbrev pub dispute_text : HistoryCause → List ℕ
dispute_text Form = codes "wrong form"
dispute_text Reply = codes "reply differs"
dispute_text Meaning = codes "request differs"

abbrev pub dispute_line : HistoryFault → List ℕ
dispute_line fault = codes "history line " ++ decimal fault.line ++ codes ": " ++ dispute_text fault.cause

abbrev pub failure_line : Failure → List ℕ
failure_line (Deck fault) = fault_line fault
failure_line ReadFault = codes "read fault"
failure_line TooLong = codes "input too long"
failure_line WriteFault = codes "write fault"
failure_line NoMemory = codes "no memory"
failure_line (History fault) = dispute_line fault

abbrev pub end_line : {A : Type 0} → Result A Failure → List ℕ
end_line (Ok done) = codes ""
end_line (Err failure) = failure_line failure

abbrev pub line_of : Outcome → List ℕ
line_of (outcome.Run end) = end_line end
line_of (outcome.Check end) = end_line end
line_of (outcome.Drill end) = end_line end
line_of (outcome.Replay end) = end_line end
line_of outcome.Usage = codes "usage: rsts run [--history] [--printer] | check | drill N | replay"
line_of outcome.NoMemory = failure_line NoMemory
