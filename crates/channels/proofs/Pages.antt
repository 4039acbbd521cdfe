-- The pages of a record, one by one; and how many blocks a disk can have.
use Rattle.std.proofs.Common.{◌≡◌, ℕ, suc, ◌+◌, ◌-◌, ◌<◌, ◌≤◌, true, List, [], ◌∷◌, ◌++◌, drop, sym, ap, ◌∙◌, append_assoc, arith}
use Rattle.std.proofs.lemmas.Bool.Decides.{nat_tests}
use Rattle.job_model.specs.Asking.{can_be_block, can_be_blocks, can_be_record}
use Rattle.channels.specs.Transfers.{page_from, pages_from}

-- one more page
pub pages_step : (count made : ℕ) (pages pages' : List (List ℕ)) (rest next page : List ℕ) → made < count → page ≡ page_from rest → next ≡ drop 512 rest → pages' ≡ pages ++ page ∷ []
    → pages ++ pages_from (count - made) rest ≡ pages' ++ pages_from (count - (made + 1)) next
pages_step count made pages pages' rest next page less is behind pushed =
    let m : ℕ = count - (made + 1) in
    let n : count - made ≡ suc m = omega (arith, less) in
    ap (λ (k : ℕ). pages ++ pages_from k rest) n
    ∙ ap (λ (p : List ℕ). pages ++ p ∷ pages_from m (drop 512 rest)) (sym is)
    ∙ ap (λ (l : List ℕ). pages ++ page ∷ pages_from m l) (sym behind)
    ∙ sym (append_assoc pages (page ∷ []) (pages_from m next))
    ∙ ap (λ (l : List (List ℕ)). l ++ pages_from m next) (sym pushed)

-- THE BLOCKS OF A DISK, in numbers

pub block_bound : (block : ℕ) → can_be_block block ≡ true → block ≤ 16384
block_bound block can = grind (arith, nat_tests)

pub blocks_bound : (block count : ℕ) → can_be_blocks block count ≡ true → block + count ≤ 16385
blocks_bound block count can = grind (arith, nat_tests)

pub pages_bound : (block most count : ℕ) → can_be_record block most count ≡ true → block + count ≤ 16385
pages_bound block most count can = grind (arith, nat_tests)

pub count_bound : (block most count : ℕ) → most ≤ 3 → can_be_record block most count ≡ true → count ≤ 3
count_bound block most count few can = grind (arith, nat_tests)
