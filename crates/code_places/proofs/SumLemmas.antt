-- The sums before statements.
use Rattle.std.proofs.Common.{◌≡◌, ℕ, zero, suc, ◌+◌, ◌≤◌, List, [], ◌∷◌, length, get_or, refl, ap, arith}
use Rattle.basic_tree.specs.Trees.{StatementTree}
use Rattle.program_model.specs.Program.{loops_in, loops_before}
use Rattle.polish_code.specs.Code.{start_of}
use Rattle.code_places.specs.Sums.{size_whole, sums_from}

pub sums_length : (f : StatementTree → ℕ) (n : ℕ) (ss : List StatementTree) → length (sums_from f n ss) ≡ suc (length ss)
sums_length f n [] = refl
sums_length f n (s ∷ ss) = ap (λ k. suc k) (sums_length f (n + f s) ss)

-- the places of statements
pub place_sum : (n : ℕ) (ss : List StatementTree) (m : ℕ) → m ≤ length ss → get_or (sums_from size_whole n ss) m 0 ≡ n + start_of ss m
place_sum n [] zero h = omega arith
place_sum n [] (suc m) h = absurd (omega arith)
place_sum n (s ∷ ss) zero h = omega arith
place_sum n (s ∷ ss) (suc m) h = omega (arith, place_sum (n + size_whole s) ss m (omega arith))

-- the FORs before statements
pub loops_sum : (n : ℕ) (ss : List StatementTree) (m : ℕ) → m ≤ length ss → get_or (sums_from loops_in n ss) m 0 ≡ n + loops_before ss m
loops_sum n [] zero h = omega arith
loops_sum n [] (suc m) h = absurd (omega arith)
loops_sum n (s ∷ ss) zero h = omega arith
loops_sum n (s ∷ ss) (suc m) h = omega (arith, loops_sum (n + loops_in s) ss m (omega arith))
