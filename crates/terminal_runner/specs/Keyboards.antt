-- What a batch keyboard has.
use Rattle.std.specs.Prelude.{ℕ, List, take}
use Rattle.std.specs.Global.{Vec}
use Rattle.monitor_calls.specs.Typing.{Typing}
use Rattle.terminal_runner.specs.Batches.{typed_lines}
use Rattle.terminal_runner.specs.declared.batch_keyboard.BatchKeyboard.{BatchKeyboard}

-- the lines that it had at first
abbrev pub lines_of : BatchKeyboard → Vec (List ℕ)
lines_of keyboard = keyboard.all.value

-- those of them that were taken, and whether the end was met
abbrev pub taken_of : BatchKeyboard → Typing
taken_of keyboard = typed_lines keyboard.over (take keyboard.taken keyboard.all.value.items)
