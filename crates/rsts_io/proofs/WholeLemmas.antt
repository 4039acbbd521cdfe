-- Bytes that are taken or given one part after the other.
use Rattle.std.proofs.Common.{◌≡◌, ℕ, ◌+◌, ◌≤◌, List, [], ◌++◌, length, take, drop, Option, Some, None, refl, sym, ap, subst, ◌∙◌, append_assoc, arith, ◌-◌, length-drop}
use Rattle.std.proofs.lemmas.List.{append-nil, take-append-drop, take_all, length-append, length-take-le}
use Rattle.rsts_io.specs.Ends.{SourceState, SinkState, raised, AreNext, IsAtEnd, Appended}
use Rattle.rsts_io.specs.Whole.{AreAll, TookNext, Written, BrokeOff}

pub next_none : (left : Option (List ℕ)) → AreNext [] left left
next_none None = refl
next_none (Some left) = (left, refl, refl)

some_is : (x y : List ℕ) → Some x ≡ Some y → x ≡ y
some_is x y e = cc

pub next_more : (a b : List ℕ) (x y z : Option (List ℕ)) → AreNext a x y → AreNext b y z → AreNext (a ++ b) x z
next_more a b None y z p q = subst (λ (w : Option (List ℕ)). AreNext b w z) p q
next_more a b (Some left) y z p q =
    let r : AreNext b (Some p.0) z = subst (λ (w : Option (List ℕ)). AreNext b w z) p.2 q in
    (r.0, p.1 ∙ ap (λ (t : List ℕ). a ++ t) r.1 ∙ sym (append_assoc a b r.0), r.2)

-- what was taken before, and a prefix of the buffer after it
pub took_more : (limit : ℕ) (bytes chunk : List ℕ) (n : ℕ) (old mid new : SourceState) → mid.taken ≡ old.taken + length bytes → AreNext bytes old.left mid.left → n ≤ length chunk → AreNext (take n chunk) mid.left new.left
    → new.taken ≡ mid.taken + n → new.taken ≤ old.taken + (limit + 1) → TookNext limit old new
took_more limit bytes chunk n old mid new before p fits q after few =
    let len : length (bytes ++ take n chunk) ≡ length bytes + n = omega (arith, length-append bytes (take n chunk), length-take-le n chunk fits) in
    record {
      bytes = bytes ++ take n chunk;
      count = omega (arith, len, before, after);
      most = omega (arith, len, before, after, few);
      next = next_more bytes (take n chunk) old.left mid.left new.left p q;
    }

pub all_at_end : (bytes : List ℕ) (x y z : Option (List ℕ)) → AreNext bytes x y → IsAtEnd y → z ≡ y → AreAll bytes x z
all_at_end bytes None y z p at e = e ∙ p
all_at_end bytes (Some left) y z p at e =
    let none : p.0 ≡ [] = subst (λ (w : Option (List ℕ)). IsAtEnd w) p.2 at in
    (p.1 ∙ ap (λ (t : List ℕ). bytes ++ t) none ∙ append-nil bytes, e ∙ p.2 ∙ ap (λ (t : List ℕ). Some t) none)

pub given_none : (given : Option (List ℕ)) → Appended [] given given
given_none None = refl
given_none (Some given) = ap (λ (t : List ℕ). Some t) (sym (append-nil given))

pub given_more : (a b : List ℕ) (x y z : Option (List ℕ)) → Appended a x y → Appended b y z → Appended (a ++ b) x z
given_more a b None y z p q = subst (λ (w : Option (List ℕ)). Appended b w z) p q
given_more a b (Some given) y z p q = subst (λ (w : Option (List ℕ)). Appended b w z) p q ∙ ap (λ (t : List ℕ). Some t) (append_assoc given a b)

-- a prefix of the second part, after the first
pub broke_off_behind : (a b : List ℕ) (old mid new : SinkState) → Written a old mid → BrokeOff b mid new → BrokeOff (a ++ b) old new
broke_off_behind a b old mid new p q =
    let f = q.front in
    record {
      front = (a ++ f.0, f.1, ap (λ (t : List ℕ). a ++ t) f.2 ∙ sym (append_assoc a f.0 f.1), f.3, given_more a f.0 old.given mid.given new.given p.given f.4);
      fault = q.fault ∙ ap raised p.no_fault;
    }

-- a prefix of the first part is a prefix of both
pub broke_off_first : (a b : List ℕ) (old new : SinkState) → BrokeOff a old new → BrokeOff (a ++ b) old new
broke_off_first a b old new q =
    let f = q.front in
    record { front = (f.0, f.1 ++ b, ap (λ (t : List ℕ). t ++ b) f.2 ∙ append_assoc f.0 f.1 b, omega (arith, length-append f.1 b, f.3), f.4); fault = q.fault }

-- what is left of a piece when more of it was given
pub goes_on : (piece front rest : List ℕ) (n : ℕ) → piece ≡ front ++ rest → piece ≡ (front ++ take n rest) ++ take (length rest - n) (drop n rest)
goes_on piece front rest n e =
    let all : take (length rest - n) (drop n rest) ≡ drop n rest = take_all (length rest - n) (drop n rest) (omega (arith, length-drop n rest)) in
    e ∙ ap (λ (t : List ℕ). front ++ t) (sym (take-append-drop n rest)) ∙ sym (append_assoc front (take n rest) (drop n rest)) ∙ ap (λ (t : List ℕ). (front ++ take n rest) ++ t) (sym all)
