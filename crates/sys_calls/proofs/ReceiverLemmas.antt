-- The name of a receiver in six bytes: what is spelled is found, and what is found is spelled.
use Rattle.std.proofs.Common.{◌≡◌, ℕ, zero, suc, ◌≤◌, ◌+◌, ◌-◌, Bool, true, false, cond, eqb, List, [], ◌∷◌, ◌++◌, length, map, take, drop, Option, Some, None, refl, sym, ap, subst, ◌∙◌, arith}
use Rattle.std.specs.Prelude.{◌&&◌, nat_le, replicate}
use Rattle.std.specs.List.{list_all}
use Rattle.std.specs.Char.{to_ascii_uppercase}
use Rattle.std.proofs.lemmas.Bool.{eqb-true, leb-true}
use Rattle.std.proofs.lemmas.List.{take_at, drop_at, take-append-drop, length-append, length-drop, length-map, length-replicate}
use Rattle.std.proofs.lemmas.List.Folds.{length-prefix_len}
use Rattle.basic_values.proofs.CutLaws.{and_left, and_right}
use Rattle.monitor_calls.specs.Names.{is_password, is_capital_or_digit}
use Rattle.sys_calls.specs.Table.{SaysReceiver}
use Rattle.sys_calls.specs.CallFronts.{name_length, if_password, receiver_before, receiver_in}

pub some_is : {A : Type 0} (x y : A) → Some x ≡ Some y → x ≡ y
some_is x y e = cc

-- what is found after a test: the test holds
pub if_found : {A : Type 0} (b : Bool) (o : Option A) (y : A) → cond b o None ≡ Some y → (b ≡ true) × (o ≡ Some y)
if_found true o y e = (refl, e)
if_found false o y e = absurd cc

-- if the test holds, what follows it is found
pub then_found : {A : Type 0} (b : Bool) (o : Option A) → b ≡ true → cond b o None ≡ o
then_found b o e = ap (λ b. cond b o None) e

-- ---- spaces

abbrev is_space : ℕ → Bool
is_space byte = eqb byte 32

spaces_are_spaces : (count : ℕ) → list_all is_space (replicate count 32) ≡ true
spaces_are_spaces zero = refl
spaces_are_spaces (suc count) = spaces_are_spaces count

only_spaces : (xs : List ℕ) → list_all is_space xs ≡ true → xs ≡ replicate (length xs) 32
only_spaces [] e = refl
only_spaces (x ∷ xs) e =
    let front : x ≡ 32 = eqb-true x 32 (and_left (eqb x 32) (list_all is_space xs) e) in
    let rest : xs ≡ replicate (length xs) 32 = only_spaces xs (and_right (eqb x 32) (list_all is_space xs) e) in
    λ i. front i ∷ rest i

-- a space is no letter, so a name ends before the first space
no_letter : (count : ℕ) → name_length (replicate count 32) ≡ 0
no_letter zero = refl
no_letter (suc count) = refl

name_before_spaces : (name : List ℕ) (count : ℕ) → list_all is_capital_or_digit name ≡ true → name_length (name ++ replicate count 32) ≡ length name
name_before_spaces [] count all = no_letter count
name_before_spaces (b ∷ name) count all =
    let first : is_capital_or_digit b ≡ true = and_left (is_capital_or_digit b) (list_all is_capital_or_digit name) all in
    let others : list_all is_capital_or_digit name ≡ true = and_right (is_capital_or_digit b) (list_all is_capital_or_digit name) all in
    rw (first, name_before_spaces name count others) (omega arith)

-- ---- what a name is

abbrev has_length : List ℕ → Bool
has_length name = nat_le 1 (length name) && nat_le (length name) 6

few_bytes : (name : List ℕ) → is_password name ≡ true → length name ≤ 6
few_bytes name good =
    let lengths : has_length name ≡ true = and_left (has_length name) (list_all is_capital_or_digit name) good in
    leb-true (length name) 6 (and_right (nat_le 1 (length name)) (nat_le (length name) 6) lengths)

all_letters : (name : List ℕ) → is_password name ≡ true → list_all is_capital_or_digit name ≡ true
all_letters name good = and_right (has_length name) (list_all is_capital_or_digit name) good

-- ---- what is spelled is found

found_before_spaces : (name : List ℕ) (count : ℕ) → is_password name ≡ true → receiver_before (name ++ replicate count 32) ≡ Some name
found_before_spaces name count good =
    let spaces : List ℕ = replicate count 32 in
    let long : name_length (name ++ spaces) ≡ length name = name_before_spaces name count (all_letters name good) in
    let behind : list_all is_space (drop (name_length (name ++ spaces)) (name ++ spaces)) ≡ true =
    ap (λ n. list_all is_space (drop n (name ++ spaces))) long
    ∙ ap (list_all is_space) (drop_at name spaces (length name) refl)
    ∙ spaces_are_spaces count in
    let before : take (name_length (name ++ spaces)) (name ++ spaces) ≡ name =
    ap (λ n. take n (name ++ spaces)) long ∙ take_at name spaces (length name) refl in
    then_found (list_all is_space (drop (name_length (name ++ spaces)) (name ++ spaces))) (if_password (take (name_length (name ++ spaces)) (name ++ spaces))) behind
    ∙ ap if_password before
    ∙ then_found (is_password name) (Some name) good

pub receiver_found : (six name : List ℕ) → SaysReceiver six name → receiver_in six ≡ Some name
receiver_found six name says = ap receiver_before says.says ∙ found_before_spaces name (6 - length name) says.kind

pub six_bytes_long : (six name : List ℕ) → SaysReceiver six name → length six ≡ 6
six_bytes_long six name says =
    let few : length name ≤ 6 = few_bytes name says.kind in
    let spaces : List ℕ = replicate (6 - length name) 32 in
    let sum : length six ≡ length name + length spaces =
    sym (length-map six to_ascii_uppercase) ∙ ap length says.says ∙ length-append name spaces in
    let rest : length spaces ≡ 6 - length name = length-replicate (6 - length name) 32 in
    omega (arith, few, sum, rest)

-- ---- what is found is spelled

pub receiver_said : (six name : List ℕ) → length six ≡ 6 → receiver_in six ≡ Some name → SaysReceiver six name
receiver_said six name long e =
    let r : List ℕ = map to_ascii_uppercase six in
    let n : ℕ = name_length r in
    let behind = if_found (list_all is_space (drop n r)) (if_password (take n r)) name e in
    let before = if_found (is_password (take n r)) (Some (take n r)) name behind.1 in
    let is : take n r ≡ name = some_is (take n r) name before.1 in
    let whole : length r ≡ 6 = length-map six to_ascii_uppercase ∙ long in
    let count : length name ≡ n = ap length (sym is) ∙ length-prefix_len is_capital_or_digit r in
    let spaces : drop n r ≡ replicate (6 - length name) 32 =
    only_spaces (drop n r) behind.0
    ∙ ap (λ k. replicate k 32) (length-drop n r ∙ (λ i. whole i - sym count i)) in
    record {
      kind = subst (λ (t : List ℕ). is_password t ≡ true) is before.0;
      says = sym (take-append-drop n r) ∙ (λ i. is i ++ spaces i);
    }
