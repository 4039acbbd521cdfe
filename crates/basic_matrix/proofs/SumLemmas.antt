-- A sum of products that is wrapped on the way.
use Rattle.std.proofs.Common.{◌≡◌, ℕ, ◌+◌, ◌%◌, ◌-◌, cond, ltb, ℤ, pos, negsuc, ◌+ℤ◌, ◌*ℤ◌, sym, ap, ◌∙◌, arith}
use Rattle.std.specs.Prelude.{map, fold}
use Rattle.std.specs.Int.{w16, int_wrap, cast_signed}
use Rattle.std.specs.List.{range_with_len}
use Rattle.std.proofs.lemmas.Int.{int_wrap-add_left, int_wrap-add_right}
use Rattle.std.proofs.lemmas.List.FromFn.{map-range_with_len_more}
use Rattle.std.proofs.lemmas.List.Sums.{fold_push}
use Rattle.basic_values.specs.Numbers.{wrap, signed}
use Rattle.basic_matrix.specs.MatrixValues.{middle_sum}

signed-is : (n : ℕ) → signed n ≡ cast_signed w16 n
signed-is n = ap (λ m. cond (ltb n 32768) (pos n) (negsuc m)) (omega arith)

wrap-is : (z : ℤ) → wrap z ≡ int_wrap w16 z
unfolding int_wrap
wrap-is (pos n) = signed-is (n % 65536)
wrap-is (negsuc n) = signed-is (65535 - n % 65536)

wrap-sum : (a b : ℤ) → wrap (wrap a +ℤ wrap b) ≡ wrap (a +ℤ b)
wrap-sum a b =
    wrap-is (wrap a +ℤ wrap b) ∙ (λ i. int_wrap w16 (wrap-is a i +ℤ wrap-is b i))
    ∙ int_wrap-add_left w16 a (int_wrap w16 b) ∙ int_wrap-add_right w16 a b ∙ sym (wrap-is (a +ℤ b))

-- one more product
pub middle_sum-more : (left right : ℕ → ℕ → ℤ) (count row column : ℕ)
    → wrap (middle_sum left right (count + 1) row column) ≡ wrap (wrap (middle_sum left right count row column) +ℤ wrap (left row (count + 1) *ℤ right (count + 1) column))
middle_sum-more left right count row column =
    let product : ℕ → ℤ = λ (middle : ℕ). left row middle *ℤ right middle column in
    let more = map-range_with_len_more product 1 count (count + 1) (omega arith) in
    let pushed = fold_push ◌+ℤ◌ (pos 0) (map product (range_with_len 1 count)) (product (count + 1)) in
    ap (λ (products : _). wrap (fold ◌+ℤ◌ (pos 0) products)) more ∙ ap wrap pushed ∙ sym (wrap-sum (middle_sum left right count row column) (product (count + 1)))
