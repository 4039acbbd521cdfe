use Rattle.std.proofs.Common.{◌≡◌, List, ℕ, Some, ap, sym, ◌∙◌}
use Rattle.basic_values.specs.declared.errors.TheConstants.{DATA_FORMAT_ERROR}
use Rattle.job_model.specs.Act.{Breaks, Faulted}
use Rattle.job_model.proofs.Follows.{follows_from, follows_is}
use Rattle.channels.specs.declared.lines.Taken.{Taken}
use Rattle.channels.specs.declared.lines.Taken.TheVariants.{AllTaken, LineTaken, TooMany}
use Rattle.channels.specs.Files.{Files}
use Rattle.channels.specs.TextIn.{without_last_return, ends_line, goes_on_with, reads_next, with_unread, bytes_left}
use Rattle.channels.specs.Seen.{files}
use Rattle.channels.proofs.Calls.{follows_unbegun, follows_tested}
use Rattle.channels.proofs.Turned.{turn_by}
use Rattle.channels.proofs.channels.Channels.take_turn.Goals as goal

pub returns-in_err-line : goal.returns-in_err-line
returns-in_err-line g c clock = follows_unbegun c.from_residual.result _ c.from_residual.ensures.1

pub returns-in-AllTaken : goal.returns-in-AllTaken
returns-in-AllTaken g c clock =
    let channel = c.args.channel in
    let old = files c.args.self.now c.args.buffers.now in
    let now = files c.take_unread.new.self c.args.buffers.now in
    let left : with_unread channel (bytes_left (AllTaken c.in-AllTaken.line)) old ≡ now = sym (c.in_ok-line.ensures.left ∙ ap (λ (t : Taken). with_unread channel (bytes_left t) old) c.in-AllTaken.is) in
    follows_from (turn_by channel c.args.line old c.in_ok-line.field-0 (AllTaken c.in-AllTaken.line) c.in_ok-line.ensures.taken c.in-AllTaken.is ∙ ap (λ (f : Files). goes_on_with c.in-AllTaken.line (reads_next channel f)) left) (c.go_on_with.ensures clock)

pub returns-in-LineTaken : goal.returns-in-LineTaken
returns-in-LineTaken g c clock =
    let channel = c.args.channel in
    let old = files c.args.self.now c.args.buffers.now in
    let now = files c.take_unread.new.self c.args.buffers.now in
    let left : with_unread channel (bytes_left (LineTaken c.in-LineTaken.line c.in-LineTaken.left)) old ≡ now = sym (c.in_ok-line.ensures.left ∙ ap (λ (t : Taken). with_unread channel (bytes_left t) old) c.in-LineTaken.is) in
    follows_from (turn_by channel c.args.line old c.in_ok-line.field-0 (LineTaken c.in-LineTaken.line c.in-LineTaken.left) c.in_ok-line.ensures.taken c.in-LineTaken.is ∙ ap (ends_line (without_last_return c.in-LineTaken.line)) left)
    (follows_tested c.ends_line.result now (c.ends_line.ensures now ∙ ap (λ (line : List ℕ). Some (ends_line line now)) c.without_last_return.ensures))

pub returns-in-TooMany : goal.returns-in-TooMany
returns-in-TooMany g c clock =
    let channel = c.args.channel in
    let old = files c.args.self.now c.args.buffers.now in
    let now = files c.take_unread.new.self c.args.buffers.now in
    let left : with_unread channel (bytes_left (TooMany c.in-TooMany.left)) old ≡ now = sym (c.in_ok-line.ensures.left ∙ ap (λ (t : Taken). with_unread channel (bytes_left t) old) c.in-TooMany.is) in
    follows_is (turn_by channel c.args.line old c.in_ok-line.field-0 (TooMany c.in-TooMany.left) c.in_ok-line.ensures.taken c.in-TooMany.is ∙ ap (λ (f : Files). Breaks (Faulted DATA_FORMAT_ERROR) f) left ∙ ap (λ (n : ℕ). Breaks (Faulted n) now) (sym c.new.ensures))
