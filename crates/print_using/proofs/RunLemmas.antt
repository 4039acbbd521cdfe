-- Equal bytes at the beginning of a string, and the byte at a place.
use Rattle.std.proofs.Common.{◌≡◌, ℕ, zero, suc, ◌+◌, Bool, true, false, cond, eqb, List, [], ◌∷◌, ◌++◌, drop, refl, sym, ap, ◌∙◌, arith, eq-eqb}
use Rattle.std.specs.Prelude.{replicate}
use Rattle.std.proofs.lemmas.Bool.{eqb-true}
use Rattle.print_using.specs.FormatFronts.{run_of, has_at}

-- ---- equal bytes at the beginning

-- one more than after the first byte
run_more : (byte x : ℕ) (xs : List ℕ) → eqb x byte ≡ true → run_of byte (x ∷ xs) ≡ suc (run_of byte xs)
run_more byte x xs e = ap (λ b. cond b (1 + run_of byte xs) 0) e ∙ omega arith

run_none : (byte x : ℕ) (xs : List ℕ) → eqb x byte ≡ false → run_of byte (x ∷ xs) ≡ 0
run_none byte x xs e = ap (λ b. cond b (1 + run_of byte xs) 0) e

-- the string is its equal bytes and what follows them
abbrev split_at : ℕ → ℕ → List ℕ → List ℕ
split_at n byte text = replicate n byte ++ drop n text

run_split_by : (byte x : ℕ) (xs : List ℕ) (is : Bool) → eqb x byte ≡ is → xs ≡ split_at (run_of byte xs) byte xs → x ∷ xs ≡ split_at (run_of byte (x ∷ xs)) byte (x ∷ xs)
run_split_by byte x xs true e again =
    (λ i. eqb-true x byte e i ∷ again i) ∙ ap (λ n. split_at n byte (x ∷ xs)) (sym (run_more byte x xs e))
run_split_by byte x xs false e again = ap (λ n. split_at n byte (x ∷ xs)) (sym (run_none byte x xs e))

pub run_split : (byte : ℕ) (text : List ℕ) → text ≡ replicate (run_of byte text) byte ++ drop (run_of byte text) text
run_split byte [] = refl
run_split byte (x ∷ xs) = run_split_by byte x xs (eqb x byte) refl (run_split byte xs)

-- with n more of the byte before it there are n more of them
pub run_behind : (byte n : ℕ) (text : List ℕ) → run_of byte (replicate n byte ++ text) ≡ n + run_of byte text
run_behind byte zero text = omega arith
run_behind byte (suc n) text =
    run_more byte byte (replicate n byte ++ text) (eq-eqb byte byte refl) ∙ ap suc (run_behind byte n text) ∙ omega arith

-- ---- the byte at a place

pub at_behind : (byte wanted n : ℕ) (text : List ℕ) (place : ℕ) → has_at wanted (n + place) (replicate n byte ++ text) ≡ has_at wanted place text
at_behind byte wanted zero text place =
    let none : 0 + place ≡ place = omega arith in
    ap (λ k. has_at wanted k text) none
at_behind byte wanted (suc n) text place =
    let one : suc n + place ≡ suc (n + place) = omega arith in
    ap (λ k. has_at wanted k (replicate (suc n) byte ++ text)) one ∙ at_behind byte wanted n text place

-- the byte at a place is the first of the bytes from there on
pub at_first : (byte place : ℕ) (text : List ℕ) → eqb 0 byte ≡ false → has_at byte place text ≡ true → drop place text ≡ byte ∷ drop (suc place) text
at_first byte place [] nonzero e = absurd cc
at_first byte zero (x ∷ xs) nonzero e = λ i. eqb-true x byte e i ∷ xs
at_first byte (suc place) (x ∷ xs) nonzero e = at_first byte place xs nonzero e
