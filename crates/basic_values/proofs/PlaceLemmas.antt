-- A cut at the first byte of a kind.
use Rattle.std.proofs.Common.{◌≡◌, ℕ, ◌+◌, ◌-◌, Bool, true, false, cond, eqb, ltb, List, length, take, drop, Some, None, refl, sym, ap, ◌∙◌, arith, length-drop}
use Rattle.std.specs.Prelude.{position}
use Rattle.std.specs.List.{position_or_len, before_first, after_first}
use Rattle.std.proofs.lemmas.List.{take_all}
use Rattle.basic_values.specs.Cuts.{cut}
use Rattle.basic_values.proofs.CutLaws.{guard_some}

pub cut_found : (byte : ℕ) (text : List ℕ) (at : ℕ) → position (λ b. eqb b byte) text ≡ Some at → cut byte text ≡ Some (take at text, take (length text - (at + 1)) (drop (at + 1) text))
cut_found byte text at e =
    let p : ℕ → Bool = λ b. eqb b byte in
    let g = guard_some (ltb (position_or_len p text) (length text)) (position_or_len p text) at e in
    let rest : take (length text - (at + 1)) (drop (at + 1) text) ≡ drop (at + 1) text = take_all (length text - (at + 1)) (drop (at + 1) text) (omega (arith, length-drop (at + 1) text)) in
    ap (λ (b : Bool). cond b (Some (before_first p text, after_first p text)) None) g.0 ∙ (λ i. Some (take (g.1 i) text, drop (g.1 i + 1) text)) ∙ ap (λ (r : List ℕ). Some (take at text, r)) (sym rest)

pub missed : {A B : Type 0} (b : Bool) (x : A) (y : B) → cond b (Some x) None ≡ None → (b ≡ false) × (cond b (Some y) None ≡ None)
missed true x y e = absurd cc
missed false x y e = (refl, refl)

pub cut_missed : (byte : ℕ) (text : List ℕ) → position (λ b. eqb b byte) text ≡ None → cut byte text ≡ None
cut_missed byte text e =
    let p : ℕ → Bool = λ b. eqb b byte in
    (missed (ltb (position_or_len p text) (length text)) (position_or_len p text) (before_first p text, after_first p text) e).1
