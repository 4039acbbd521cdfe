-- FORs and NEXTs as they are paired.
use Rattle.std.specs.Prelude.{◌≡◌, ℕ, suc, ◌==◌, not, List, ◌∷◌, ◌++◌, map, filter, reverse, Option, Some, None}
use Rattle.basic_tree.specs.Trees.{StatementTree}
use Rattle.program_model.specs.Program.{Program, OpenLoop, Pair, body_at, pairs_from}
use Rattle.loop_pairs.specs.declared.opens.OpenLoop.{OpenLoop as Opened}
use Rattle.loop_pairs.specs.declared.pairs.Pair.{Pair as Closed}

abbrev pub open_seen : Opened → OpenLoop
open_seen o = record { number = o.number; variable = o.variable; body = o.body }

-- the nearest first
abbrev pub opens_seen : List Opened → List OpenLoop
opens_seen opens = map open_seen (reverse opens)

abbrev pub pair_seen : Closed → Pair
pair_seen pair = record { opening = pair.opening; closing = pair.closing }

-- those that are left open if the FOR with this number, if any, is closed
abbrev pub left_open : Option ℕ → List OpenLoop → List OpenLoop
left_open None opens = opens
left_open (Some number) opens = filter (λ other. not (other.number == number)) opens

-- A statement is passed: the pairs so far, with those that are still to come, stay the same.
abbrev pub PairsOn : List Closed → List OpenLoop → ℕ → Option ℕ → StatementTree → List Closed → List OpenLoop → Type 0
PairsOn pairs opens m body s pairs_then opens_then = (program : Program) (ss : List StatementTree) → body ≡ body_at program m
    → map pair_seen pairs ++ pairs_from program m opens (s ∷ ss) ≡ map pair_seen pairs_then ++ pairs_from program (suc m) opens_then ss
