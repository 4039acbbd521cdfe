-- A function takes at most three arguments.
use Rattle.std.proofs.Common.{◌≡◌, ℕ, zero, suc, List, [], ◌∷◌, refl}
use Rattle.basic_tree.specs.declared.expressions.Function.{Function}
use Rattle.basic_tree.specs.declared.expressions.Function.TheVariants as function
use Rattle.program_model.specs.declared.values.Value.{Value}
use Rattle.program_model.specs.Functions.{applied, text_at}
use Rattle.program_model.specs.Job.{Job, text}
use Rattle.polish_code.specs.Walk.{Spot}
use Rattle.basic_eval.specs.Lending.{value_at, first_three}

-- a missing string is empty, like a missing number's bytes
missing : (place : ℕ) (vs : List Value) → text (value_at place vs) ≡ text_at place vs
missing zero [] = refl
missing zero (v ∷ vs) = refl
missing (suc place) [] = refl
missing (suc place) (v ∷ vs) = missing place vs

pub three_suffice : (f : Function) (vs : List Value) (j : Job Spot) → applied f (first_three vs) j ≡ applied f vs j
three_suffice function.Len vs j = rw (missing 0 vs) refl
three_suffice function.Ascii vs j = rw (missing 0 vs) refl
three_suffice function.Left vs j = rw (missing 0 vs) refl
three_suffice function.Right vs j = rw (missing 0 vs) refl
three_suffice function.Mid vs j = rw (missing 0 vs) refl
three_suffice function.Instr vs j = rw (missing 1 vs, missing 2 vs) refl
three_suffice function.Chr vs j = refl
three_suffice function.Space vs j = refl
three_suffice function.StringOf vs j = refl
three_suffice function.Num1 vs j = refl
three_suffice function.Num vs j = refl
three_suffice function.Val vs j = rw (missing 0 vs) refl
three_suffice function.CvtToText vs j = refl
three_suffice function.CvtToNumber vs j = rw (missing 0 vs) refl
three_suffice function.Swap vs j = refl
three_suffice function.Abs vs j = refl
three_suffice function.Sgn vs j = refl
three_suffice function.Xlate vs j = rw (missing 0 vs, missing 1 vs) refl
three_suffice function.Err vs j = refl
three_suffice function.Erl vs j = refl
three_suffice function.Pos vs j = refl
three_suffice function.Recount vs j = refl
three_suffice function.Sys vs j = rw (missing 0 vs) refl
