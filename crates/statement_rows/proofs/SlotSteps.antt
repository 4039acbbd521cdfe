-- Expressions, added and taken in order.
use Rattle.std.proofs.Common.{◌≡◌, ◌<◌, List, length, [], ◌∷◌, ◌++◌, map, Option, option_map, refl, ap, arith, remove, slice_index_or}
use Rattle.basic_tree.specs.declared.expressions.Expr.{Expr}
use Rattle.basic_tree.specs.TreeViews.{tree_of}
use Rattle.statement_rows.specs.Slots.{behind_first, first_option, first_tree}

pub value_added : (ts : List Expr) (t : Expr) → map tree_of (ts ++ t ∷ []) ≡ map tree_of ts ++ tree_of t ∷ []
value_added [] t = refl
value_added (u ∷ ts) t = ap (λ x. tree_of u ∷ x) (value_added ts t)

pub option_added : (ts : List (Option Expr)) (t : Option Expr) → map (option_map tree_of) (ts ++ t ∷ []) ≡ map (option_map tree_of) ts ++ option_map tree_of t ∷ []
option_added [] t = refl
option_added (u ∷ ts) t = ap (λ x. option_map tree_of u ∷ x) (option_added ts t)

pub ruleset adding = (value_added, option_added)

pub value_taken : (ts : List Expr) (d : Expr) → 0 < length ts → tree_of (slice_index_or ts 0 d) ≡ first_tree (map tree_of ts)
value_taken [] d h = absurd (omega (arith, h))
value_taken (t ∷ ts) d h = refl

pub values_left : (ts : List Expr) → 0 < length ts → map tree_of (remove ts 0) ≡ behind_first (map tree_of ts)
values_left [] h = absurd (omega (arith, h))
values_left (t ∷ ts) h = refl

pub option_taken : (ts : List (Option Expr)) (d : Option Expr) → 0 < length ts → option_map tree_of (slice_index_or ts 0 d) ≡ first_option (map (option_map tree_of) ts)
option_taken [] d h = absurd (omega (arith, h))
option_taken (t ∷ ts) d h = refl

pub options_left : (ts : List (Option Expr)) → 0 < length ts → map (option_map tree_of) (remove ts 0) ≡ behind_first (map (option_map tree_of) ts)
options_left [] h = absurd (omega (arith, h))
options_left (t ∷ ts) h = refl

pub ruleset taking = (value_taken, values_left, option_taken, options_left)
