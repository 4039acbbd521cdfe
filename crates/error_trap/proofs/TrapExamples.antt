-- Traps, computed.
use Rattle.std.proofs.Common.{◌≡◌, true, false, refl}
use Rattle.std.specs.Prelude.{Some, None, Ok, Err}
use Rattle.basic_values.specs.declared.failures.Halt.TheVariants.{NoError}
use Rattle.error_trap.specs.declared.trap.Trap.{Trap}
use Rattle.error_trap.specs.declared.trap.Raised.TheVariants.{Handle, Report}
use Rattle.error_trap.specs.Trapping.{untouched, raised, resumed, handled_by}

-- ON ERROR GOTO 100, and a division by 0 in line 20 at place 7
abbrev waiting : Trap
waiting = (handled_by (Some 100) untouched).0

abbrev handling : Trap
handling = (raised 61 20 7 waiting).0

abbrev resumed_once : Trap
resumed_once = (resumed handling).0

no_handler : raised 61 20 7 untouched ≡ (untouched, Report)
no_handler = refl

to_the_handler : raised 61 20 7 waiting ≡ (record { handler = Some 100; active = true; number = 61; line = 20; place = 7 }, Handle 100)
to_the_handler = refl

in_the_handler : raised 55 100 9 handling ≡ (handling, Report)
in_the_handler = refl

back : (resumed handling).1 ≡ Ok 7
back = refl

-- ERR and ERL are still known, and the next error is trapped again
told_afterwards : resumed_once ≡ record { handler = Some 100; active = false; number = 61; line = 20; place = 7 }
told_afterwards = refl

trapped_again : (raised 55 30 9 resumed_once).1 ≡ Handle 100
trapped_again = refl

nothing_to_resume : resumed waiting ≡ (waiting, Err NoError)
nothing_to_resume = refl

-- ON ERROR GOTO 0 ends a program only while an error is being handled
taken_away_early : (handled_by None waiting).1 ≡ None
taken_away_early = refl

taken_away : (handled_by None handling).1 ≡ Some (61, 20)
taken_away = refl

another_handler : handled_by (Some 200) handling ≡ (record handling { handler = Some 200 }, None)
another_handler = refl
