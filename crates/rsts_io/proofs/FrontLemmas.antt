-- What was copied to the start of a buffer is the next part of the bytes.
use Rattle.std.proofs.Common.{◌≡◌, ℕ, ◌+◌, ◌-◌, List, ◌++◌, length, take, drop, sym, ap, ◌∙◌, arith, length-drop}
use Rattle.std.proofs.lemmas.List.{take-append-drop, drop-drop, take_at, take_all}

pub front_is_next : (bytes old new : List ℕ) (at n : ℕ) → length new ≡ n → new ≡ take n (take (length bytes - at) (drop at bytes)) → drop at bytes ≡ take n (new ++ drop n old) ++ drop (at + n) bytes
front_is_next bytes old new at n len copied =
    let all : take (length bytes - at) (drop at bytes) ≡ drop at bytes = take_all (length bytes - at) (drop at bytes) (omega (arith, length-drop at bytes)) in
    let front : take n (drop at bytes) ≡ take n (new ++ drop n old) = ap (take n) (sym all) ∙ sym copied ∙ sym (take_at new (drop n old) n len) in
    sym (take-append-drop n (drop at bytes)) ∙ (λ i. front i ++ drop-drop n at bytes i)
