-- A split finds what was concatenated.
use Rattle.std.proofs.Common.{◌≡◌, ℕ, ◌^◌, ◌<◌, ◌≤◌, Bool, true, false, cond, eqb, List, [], ◌∷◌, ◌++◌, length, get_or, take, drop, Option, Some, None, refl, sym, ap, subst, ◌∙◌, arith, eq-eqb}
use Rattle.std.specs.Prelude.{◌&&◌, nat_le, nat_lt, bytes_eq, ⊤}
use Rattle.std.specs.List.{position_or_len, before_first, after_first, list_all}
use Rattle.std.specs.Fmt.{decimal}
use Rattle.std.specs.Str.Parse.{digits_value, AllDigits}
use Rattle.std.specs.Cmp.Lexicographic.{bytes_decides}
use Rattle.std.proofs.Math.Seq.{drop-append-add}
use Rattle.std.proofs.lemmas.Bool.{eqb-true, ltb-true, leb-true, lt-ltb, le-ltb, le-leb, ne_eqb}
use Rattle.std.proofs.lemmas.Fmt.{decimal_is_IsNumeral}
use Rattle.std.proofs.lemmas.List.{take_at, drop_at, take-append-drop, length-append}
use Rattle.std.proofs.lemmas.List.Sums.{split_at_first, passes_at_first}
use Rattle.std.specs.Int.{IsInRange}
use Rattle.std.proofs.lemmas.Str.Parse.{digit_from_value}
use Rattle.basic_values.specs.Decimals.{number_between}
use Rattle.basic_values.specs.Cuts.{◌>>=◌, behind, cut}

-- the value of a step that did not fail
pub bind_some : {A B : Type 0} (o : Option A) (f : A → Option B) (y : B) → (o >>= f) ≡ Some y → (x : A) × (o ≡ Some x) × (f x ≡ Some y)
bind_some (Some x) f y e = (x, refl, e)
bind_some None f y e = absurd cc

-- a test that did not fail
pub guard_some : {A : Type 0} (b : Bool) (x y : A) → cond b (Some x) None ≡ Some y → (b ≡ true) × (x ≡ y)
guard_some true x y e = (refl, cc)
guard_some false x y e = absurd cc

pub and_left : (a b : Bool) → (a && b) ≡ true → a ≡ true
and_left true b e = refl
and_left false b e = absurd (cc)

pub and_right : (a b : Bool) → (a && b) ≡ true → b ≡ true
and_right true b e = e
and_right false b e = absurd (cc)

pub and_both : (a b : Bool) → a ≡ true → b ≡ true → (a && b) ≡ true
and_both a b e f = rw (e, f) refl

pub same_bytes : (xs : List ℕ) → bytes_eq xs xs ≡ true
same_bytes xs = (bytes_decides xs xs).1 refl

pub behind_takes : (prefix text rest : List ℕ) → behind prefix text ≡ Some rest → text ≡ prefix ++ rest
behind_takes prefix text rest e =
    let g = guard_some (bytes_eq (take (length prefix) text) prefix) (drop (length prefix) text) rest e in
    let front : take (length prefix) text ≡ prefix = (bytes_decides (take (length prefix) text) prefix).0 g.0 in
    sym (take-append-drop (length prefix) text) ∙ (λ i. front i ++ g.1 i)

pub behind_again : (prefix rest : List ℕ) → behind prefix (prefix ++ rest) ≡ Some rest
behind_again prefix rest =
    rw (take_at prefix rest (length prefix) refl, drop_at prefix rest (length prefix) refl, same_bytes prefix) refl

-- the byte is not among these
abbrev pub Lacks : ℕ → List ℕ → Type 0
Lacks byte [] = ⊤
Lacks byte (b ∷ bs) = (eqb b byte ≡ false) × Lacks byte bs

same_byte : (n : ℕ) → eqb n n ≡ true
same_byte n = eq-eqb n n refl

place : (byte : ℕ) (before rest : List ℕ) → Lacks byte before → position_or_len (λ b. eqb b byte) (before ++ byte ∷ rest) ≡ length before
place byte [] rest lacks = rw same_byte refl
place byte (b ∷ before) rest lacks = rw (lacks.0, place byte before rest lacks.1) (omega arith)

pub cut_takes : (byte : ℕ) (text : List ℕ) (parts : List ℕ × List ℕ) → cut byte text ≡ Some parts → text ≡ parts.0 ++ byte ∷ parts.1
cut_takes byte text parts e =
    let p : ℕ → Bool = λ b. eqb b byte in
    let g = guard_some (nat_lt (position_or_len p text) (length text)) (before_first p text, after_first p text) parts e in
    let lt : position_or_len p text < length text = ltb-true _ _ g.0 in
    let at : get_or text (position_or_len p text) 0 ≡ byte = eqb-true _ _ (passes_at_first p text 0 lt) in
    split_at_first p text 0 lt ∙ (λ i. (g.1 i).0 ++ (at i ∷ (g.1 i).1))

pub cut_again : (byte : ℕ) (before rest : List ℕ) → Lacks byte before → cut byte (before ++ byte ∷ rest) ≡ Some (before, rest)
cut_again byte before rest lacks =
    let lt : nat_lt (length before) (length (before ++ byte ∷ rest)) ≡ true = lt-ltb _ _ (omega (arith, length-append before (byte ∷ rest))) in
    rw (place byte before rest lacks, lt, take_at before (byte ∷ rest) (length before) refl, drop-append-add before (byte ∷ rest) 1) refl

pub number_takes : (low high : ℕ) (text : List ℕ) (n : ℕ) → number_between low high text ≡ Some n → text ≡ decimal n
number_takes low high text n e =
    let v : ℕ = digits_value 10 text in
    let g = guard_some (bytes_eq text (decimal v) && nat_le low v && nat_le v high) v n e in
    (bytes_decides text (decimal v)).0 (and_left _ _ (and_left _ _ g.0)) ∙ ap decimal g.1

pub number_again : (low high n : ℕ) → low ≤ n → n ≤ high → n < 2 ^ 32 → number_between low high (decimal n) ≡ Some n
number_again low high n l h small =
    let v : digits_value 10 (decimal n) ≡ n = (decimal_is_IsNumeral n (omega arith)).1 in
    rw (v, same_bytes (decimal n), le-leb low n l, le-leb n high h) refl

digits_lack : (byte : ℕ) → (IsInRange 48 57 byte → ⊥) → (ds : List ℕ) → AllDigits 10 ds → Lacks byte ds
digits_lack byte other [] all = tt
digits_lack byte other (d ∷ ds) all =
    (ne_eqb d byte (λ e. other (subst (IsInRange 48 57) e (digit_from_value d all.0))), digits_lack byte other ds all.1)

-- a decimal number has no byte that is not a digit
pub decimal_lacks : (byte n : ℕ) → (IsInRange 48 57 byte → ⊥) → n < 2 ^ 32 → Lacks byte (decimal n)
decimal_lacks byte n other fits = digits_lack byte other (decimal n) (decimal_is_IsNumeral n (omega arith)).0.1

-- a string of one kind of bytes has no byte of another kind
pub kind_lacks : (kind : ℕ → Bool) (byte : ℕ) → kind byte ≡ false → (text : List ℕ) → list_all kind text ≡ true → Lacks byte text
kind_lacks kind byte other [] all = tt
kind_lacks kind byte other (b ∷ text) all = (
  ne_eqb b byte (λ e. let bad : true ≡ false = sym (and_left (kind b) (list_all kind text) all) ∙ ap kind e ∙ other in absurd cc),
  kind_lacks kind byte other text (and_right (kind b) (list_all kind text) all),
)

pub lacks_both : (byte : ℕ) (xs ys : List ℕ) → Lacks byte xs → Lacks byte ys → Lacks byte (xs ++ ys)
lacks_both byte [] ys l r = r
lacks_both byte (x ∷ xs) ys l r = (l.0, lacks_both byte xs ys l.1 r)

no_place : (byte : ℕ) (text : List ℕ) → Lacks byte text → position_or_len (λ b. eqb b byte) text ≡ length text
no_place byte [] lacks = refl
no_place byte (b ∷ text) lacks = rw (lacks.0, no_place byte text lacks.1) (omega arith)

pub cut_nowhere : (byte : ℕ) (text : List ℕ) → Lacks byte text → cut byte text ≡ None
cut_nowhere byte text lacks =
    let far : nat_lt (length text) (length text) ≡ false = le-ltb (length text) (length text) (omega arith) in
    rw (no_place byte text lacks, far) refl

pub number_at_most : (low high : ℕ) (text : List ℕ) (n : ℕ) → number_between low high text ≡ Some n → n ≤ high
number_at_most low high text n e =
    let v : ℕ = digits_value 10 text in
    let g = guard_some (bytes_eq text (decimal v) && nat_le low v && nat_le v high) v n e in
    let most : v ≤ high = leb-true v high (and_right (bytes_eq text (decimal v) && nat_le low v) (nat_le v high) g.0) in
    omega (arith, g.1)
