-- The jobs of a run: sessions, and keyboards with the key lines of their terminals. You need not
-- trust this file.
use Rattle.std.specs.Prelude.{ℕ, List}
use Rattle.monitor_calls.specs.declared.events.Event.{Event}
use Rattle.terminal_runner.specs.Keyboards.{lines_of}
use Rattle.terminal_runner.specs.declared.batch_keyboard.BatchKeyboard.{BatchKeyboard}
use Rattle.session_model.specs.Talk.{IsTalkOf}
use Rattle.deck_reader.specs.declared.decks.Terminal.{Terminal}
use Rattle.time_sharing.specs.declared.runs.TerminalSession.{TerminalSession}

abbrev pub session_does : TerminalSession → List Event → List ℕ → Type 0
session_does session events screen = IsTalkOf events screen

abbrev pub job_lines : TerminalSession × BatchKeyboard → List (List ℕ)
job_lines job = (lines_of job.1).items

abbrev pub typed_keys : Terminal → List (List ℕ)
typed_keys terminal = terminal.keys.items
