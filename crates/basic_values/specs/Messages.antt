-- The messages of the errors and halts, without the question mark of a report.
use Rattle.std.specs.Prelude.{ℕ, ◌==◌, if◌then◌else◌, List, [], ◌∷◌, codes}
use Rattle.basic_values.specs.declared.failures.Halt.{Halt}
use Rattle.basic_values.specs.declared.failures.Halt.TheVariants.{NoGosub, TooDeep, RoomFull, NoError, TooLong}

-- the message of each error that can occur
abbrev pub fault_texts : List (ℕ × List ℕ)
fault_texts =
    (2, codes "Illegal file name")
    ∷ (3, codes "Account or device in use")
    ∷ (4, codes "No room for user on device")
    ∷ (5, codes "Can't find file or account")
    ∷ (7, codes "I/O channel already open")
    ∷ (8, codes "Device not available")
    ∷ (9, codes "I/O channel not open")
    ∷ (10, codes "Protection violation")
    ∷ (11, codes "End of file on device")
    ∷ (16, codes "Name or account now exists")
    ∷ (18, codes "Illegal SYS() usage")
    ∷ (19, codes "Disk block is interlocked")
    ∷ (31, codes "Illegal byte count for I/O")
    ∷ (32, codes "No buffer space available")
    ∷ (46, codes "Illegal I/O channel")
    ∷ (50, codes "Data format error")
    ∷ (51, codes "Integer error")
    ∷ (52, codes "Illegal number")
    ∷ (55, codes "Subscript out of range")
    ∷ (57, codes "Out of data")
    ∷ (58, codes "ON statement out of range")
    ∷ (59, codes "Not enough data in record")
    ∷ (61, codes "Division by 0")
    ∷ (63, codes "FIELD overflows buffer")
    ∷ []

-- the message listed for the number; empty if there is none
abbrev pub text_beside : ℕ → List (ℕ × List ℕ) → List ℕ
text_beside number [] = []
text_beside number (row ∷ rows) = if number == row.0 then row.1 else text_beside number rows

-- the message of the error with this number
unfoldable pub fault_text : ℕ → List ℕ
fault_text number = text_beside number fault_texts

-- the message of the halt
abbrev pub halt_text : Halt → List ℕ
halt_text NoGosub = codes "RETURN without GOSUB"
halt_text TooDeep = codes "Nested too deep"
halt_text RoomFull = codes "Maximum memory exceeded"
halt_text NoError = codes "RESUME and no error"
halt_text TooLong = codes "String too long"
