use Rattle.std.proofs.Common.{◌≡◌, drop, length}
use Rattle.polish_code.specs.KeptCode.{place_in}
use Rattle.polish_code.proofs.code.Code.place_of.Given as goal

abbrev pub invariant-loop-line : goal.invariant-loop-line
invariant-loop-line l = place_in (length l.self.items) (drop l.line-index l.self.lines) l.number ≡ place_in (length l.self.items) l.self.lines l.number
