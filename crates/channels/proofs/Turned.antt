-- What is left of interaction trees that read a line, and of one turn of them.
use Rattle.std.proofs.Common.{◌≡◌, ℕ, suc, ◌+◌, ◌-◌, ◌<◌, List, [], refl, sym, ap, ◌∙◌, arith}
use Rattle.job_model.specs.Act.{◌then◌}
use Rattle.channels.specs.declared.lines.TheConstants.{MOST_TURNS}
use Rattle.channels.specs.declared.lines.Taken.{Taken}
use Rattle.channels.specs.Files.{Files}
use Rattle.channels.specs.TextIn.{takes_unread, behind_taking, takes_turn, behind_turn, line_from, whole_line}

-- one more turn
pub line_step : (turn c : ℕ) (line : List ℕ) (files : Files) → turn < MOST_TURNS → line_from (MOST_TURNS - turn) c line files ≡ takes_turn c line files then behind_turn (line_from (MOST_TURNS - (turn + 1)) c)
line_step turn c line files less =
    let m : ℕ = MOST_TURNS - (turn + 1) in
    let n : MOST_TURNS - turn ≡ suc m = omega (arith, less) in
    ap (λ (k : ℕ). line_from k c line files) n

-- what was taken decides what follows
pub turn_by : (c : ℕ) (line : List ℕ) (files : Files) (taken seen : Taken) → taken ≡ takes_unread c line files → taken ≡ seen → takes_turn c line files ≡ behind_taking c seen files
turn_by c line files taken seen is same = ap (λ (t : Taken). behind_taking c t files) (sym is ∙ same)

pub whole_is : (c : ℕ) (files : Files) → whole_line c files ≡ line_from (MOST_TURNS - 0) c [] files
unfolding whole_line
whole_is c files = refl
