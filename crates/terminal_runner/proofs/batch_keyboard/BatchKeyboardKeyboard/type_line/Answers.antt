use Rattle.std.proofs.Common.{◌≡◌, suc, ◌+◌, arith}
use Rattle.terminal_runner.proofs.BatchLemmas.{line_typed, taken_none}
use Rattle.terminal_runner.proofs.batch_keyboard.BatchKeyboardKeyboard.type_line.Goals as goal

pub returns-in-Some-clause-ok : goal.returns-in-Some-clause-ok
returns-in-Some-clause-ok c =
    let k = c.args.self.now in
    line_typed k.taken (k.taken + 1) k.all.value.items k.left.items _ c.in-Some.line k.over (let h : k.taken + 1 ≡ suc k.taken = omega arith in h) k.left_are k.over_is c.in-Some.ensures.items

pub returns-in-None-clause-ok : goal.returns-in-None-clause-ok
returns-in-None-clause-ok c = taken_none _ c.args.self.now.over
