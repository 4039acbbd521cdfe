-- The run of the machine over the words, by recursion over the words, with the number of nesting
-- levels that are left. It serves proofs only.
use Rattle.std.specs.Prelude.{ℕ, zero, suc, List, [], ◌∷◌, ◌++◌, Bool, true, false, Option, Some, None, Result, Ok, Err}
use Rattle.basic_tree.specs.SpellingWords.{Word}
use Rattle.grammar_machine.specs.MachineStack.{Values, Symbol}
use Rattle.grammar_machine.specs.MachineMoves.{MachineMove, Shifts, Skips, Closes, Refuses, move}

-- a move of the top symbol, and of those below it, until a word is taken
pub data Turn : Type 0 where
  Next : ℕ → Values → List Symbol → Turn
  Ended : Values → Turn
  Stuck : Turn
  Deep : Turn

-- with this many nesting levels left
abbrev pub entered : Bool → ℕ → Values → List Symbol → Turn
entered false n vs k = Next n vs k
entered true zero vs k = Deep
entered true (suc n) vs k = Next n vs k

abbrev pub moved : MachineMove → ℕ → List Symbol → (ℕ → Values → Turn) → Turn
moved (Shifts opens vs more) n k skip = entered opens n vs (more ++ k)
moved (Skips vs) n k skip = skip n vs
moved (Closes vs) n k skip = skip (suc n) vs
moved Refuses n k skip = Stuck

abbrev pub turn : List Symbol → ℕ → Values → Option Word → Turn
turn [] n vs t = Ended vs
turn (s ∷ k) n vs t = moved (move s vs t) n k (λ m vs'. turn k m vs' t)

-- the words from the rejected one on, or from the one that opens a nesting level too many
pub data Halt : Type 0 where
  Wrong : List Word → Halt
  TooDeep : List Word → Halt

-- the values at the end and the words that are left, or where the machine stops
abbrev pub MachineOutcome : Type 0
MachineOutcome = Result (Values × List Word) Halt

abbrev pub turned : Turn → List Word → (ℕ → Values → List Symbol → MachineOutcome) → MachineOutcome
turned (Next n vs k) ws go = go n vs k
turned (Ended vs) ws go = Ok (vs, ws)
turned Stuck ws go = Err (Wrong ws)
turned Deep ws go = Err (TooDeep ws)

unfoldable pub run : ℕ → List Word → List Symbol → Values → MachineOutcome
run n [] k vs = turned (turn k n vs None) [] (λ m vs' k'. Err (Wrong []))
run n (w ∷ ws) k vs = turned (turn k n vs (Some w)) (w ∷ ws) (λ m vs' k'. run m ws k' vs')
