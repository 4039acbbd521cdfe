-- What was written is read back.
use Rattle.std.proofs.Common.{◌≡◌, ℕ, zero, suc, ◌+◌, ◌-◌, ◌*◌, ◌/◌, ◌%◌, ◌<◌, ◌≤◌, true, false, cond, List, [], ◌∷◌, ◌++◌, length, get_or, take, drop, Some, Ok, Err, ℤ, pos, negsuc, ◌+ℤ◌, neg_ℤ, refl, ap, ◌∙◌, add-one, arith}
use Rattle.std.specs.Prelude.{◌==◌, option_map}
use Rattle.std.specs.Fmt.{decimal, signed_decimal}
use Rattle.std.specs.List.{prefix_len}
use Rattle.std.specs.Int.{IsInRange as IsInBounds}
use Rattle.std.specs.Str.Parse.{AllDigits, digits_value}
use Rattle.std.proofs.lemmas.Bool.{lt-ltb, le-ltb}
use Rattle.std.proofs.lemmas.Bool.Decides.{nat_tests}
use Rattle.std.proofs.lemmas.Fmt.{decimal_is_IsNumeral, decimal_nonempty}
use Rattle.std.proofs.lemmas.Grind.{get_or_tail}
use Rattle.std.proofs.lemmas.Int.{ints}
use Rattle.std.proofs.lemmas.List.{get_or_append_left, length-append, take_all, take_at, take-append-drop}
use Rattle.std.proofs.lemmas.List.Sums.{suffix_len_is}
use Rattle.std.proofs.Math.Seq.{get_or-append_seam}
use Rattle.std.proofs.lemmas.Str.Parse.{digit_at}
use Rattle.basic_values.specs.declared.errors.TheConstants.{ILLEGAL_NUMBER, INTEGER_ERROR}
use Rattle.basic_values.specs.Blanks.{is_blank, without_front_blanks, without_end_blanks}
use Rattle.basic_values.specs.Laws.{IsInRange}
use Rattle.basic_values.specs.Numbers.{low_bits, signed, printed}
use Rattle.basic_strings.specs.Cuts.{place_given, left_of, right_of}
use Rattle.basic_strings.specs.Pairs.{pair_of, number_in}
use Rattle.basic_strings.specs.Readings.{without_blanks, size_spelled, with_sign, number_spelled, is_in_range, judged, value_read}
use Rattle.basic_strings.proofs.SizeLemmas.{size_of_digits}

-- ---- two bytes

signed-low : (z : ℤ) → IsInRange z → signed (low_bits z) ≡ z
signed-low (pos n) within =
    let small : n < 32768 = omega (arith, ints, within.1) in
    let bits : n % 65536 ≡ n = omega arith in
    ap signed bits ∙ ap (λ b. cond b (pos n) (negsuc (65535 - n))) (lt-ltb n 32768 small)
signed-low (negsuc n) within =
    let small : n < 32768 = omega (arith, ints, within.0) in
    let bits : 65535 - n % 65536 ≡ 65535 - n = omega arith in
    let back : 65535 - (65535 - n) ≡ n = omega arith in
    ap signed bits ∙ ap (λ b. cond b (pos (65535 - n)) (negsuc (65535 - (65535 - n)))) (le-ltb (65535 - n) 32768 (omega arith)) ∙ ap negsuc back

pub pairs_give_back : (z : ℤ) → IsInRange z → number_in (pair_of z) ≡ z
pairs_give_back z within =
    let whole : low_bits z / 256 * 256 + low_bits z % 256 ≡ low_bits z = omega arith in
    ap signed whole ∙ signed-low z within

-- ---- two parts

pub cuts_lose_nothing : (text : List ℕ) (place : ℤ) → left_of text place ++ right_of text (place +ℤ pos 1) ≡ text
cuts_lose_nothing text (pos n) =
    let same : place_given (pos (n + 1)) - 1 ≡ n = omega arith in
    ap (λ k. take n text ++ drop k text) same ∙ take-append-drop n text
cuts_lose_nothing text (negsuc zero) = refl
cuts_lose_nothing text (negsuc (suc n)) =
    let next : negsuc (suc n) +ℤ pos 1 ≡ negsuc n = omega (arith, ints) in
    ap (right_of text) next

-- ---- digits

-- the byte at this place is not a blank
abbrev NoBlankAt : List ℕ → ℕ → Type 0
NoBlankAt text i = is_blank (get_or text i 0) ≡ false

starts_plain : (text : List ℕ) → (0 < length text → NoBlankAt text 0) → without_front_blanks text ≡ text
starts_plain [] plain = refl
starts_plain (x ∷ xs) plain =
    ap (λ b. drop (cond b (1 + prefix_len is_blank xs) 0) (x ∷ xs)) (plain (omega arith))

-- the blanks at its end begin at this place
ends_at : (text : List ℕ) (n : ℕ) → n ≤ length text → ((k : ℕ) → n ≤ k → k < length text → is_blank (get_or text k 0) ≡ true) → (0 < n → NoBlankAt text (n - 1)) → without_end_blanks text ≡ take n text
ends_at text n within behind stop =
    ap (λ k. take k text) (omega (arith, suffix_len_is is_blank text n 0 within behind stop))

-- a string that is not empty and neither begins nor ends with a blank
record IsPlain (text : List ℕ) : Type 0 where
  some : 0 < length text
  first : NoBlankAt text 0
  last : NoBlankAt text (length text - 1)

without_blanks-plain : (text : List ℕ) → IsPlain text → without_blanks text ≡ text
without_blanks-plain text plain =
    ap without_end_blanks (starts_plain text (λ _. plain.first))
    ∙ ends_at text (length text) (omega arith) (λ k low high. absurd (omega (arith, low, high))) (λ _. plain.last)
    ∙ take_all (length text) text (omega arith)

-- the one byte after a string, by its place
behind_is : (text : List ℕ) (k : ℕ) → length text ≤ k → k < length (text ++ 32 ∷ []) → is_blank (get_or (text ++ 32 ∷ []) k 0) ≡ true
behind_is text k low high =
    let there : k ≡ length text = omega (arith, low, high, length-append text (32 ∷ [])) in
    ap (λ i. is_blank (get_or (text ++ 32 ∷ []) i 0)) there ∙ ap is_blank (get_or-append_seam text 32 [] 0)

-- one blank after the string is dropped
without_blanks-behind : (text : List ℕ) → IsPlain text → without_blanks (text ++ 32 ∷ []) ≡ text
without_blanks-behind text plain =
    let before : (k : ℕ) → k < length text → get_or (text ++ 32 ∷ []) k 0 ≡ get_or text k 0 = λ k lt. get_or_append_left text (32 ∷ []) 0 k lt in
    ap without_end_blanks (starts_plain (text ++ 32 ∷ []) (λ _. ap is_blank (before 0 plain.some) ∙ plain.first))
    ∙ ends_at (text ++ 32 ∷ []) (length text) (omega (arith, length-append text (32 ∷ []))) (behind_is text) (λ some. ap is_blank (before (length text - 1) (omega (arith, some))) ∙ plain.last)
    ∙ take_at text (32 ∷ []) (length text) refl

-- a digit and a minus are not blanks
plain_byte : (byte : ℕ) → 45 ≤ byte → is_blank byte ≡ false
plain_byte byte high = grind (arith, nat_tests)

digit_plain : (ds : List ℕ) (i : ℕ) → AllDigits 10 ds → i < length ds → NoBlankAt ds i
digit_plain ds i all within = plain_byte (get_or ds i 0) (omega (arith, digit_at ds i all within))

digits_plain : (ds : List ℕ) → AllDigits 10 ds → 0 < length ds → IsPlain ds
digits_plain ds all some = record {
  some = some;
  first = digit_plain ds 0 all some;
  last = digit_plain ds (length ds - 1) all (omega arith);
}

minus_plain : (ds : List ℕ) → AllDigits 10 ds → 0 < length ds → IsPlain (45 ∷ ds)
minus_plain ds all some = record {
  some = omega arith;
  first = refl;
  last = ap is_blank (get_or_tail 45 ds (length (45 ∷ ds) - 1) 0 (omega arith)) ∙ digit_plain ds (length (45 ∷ ds) - 1 - 1) all (omega arith);
}

spelled_digits : (ds : List ℕ) → AllDigits 10 ds → 0 < length ds → number_spelled ds ≡ Some (pos (digits_value 10 ds))
spelled_digits [] all some = absurd (omega (arith, some))
spelled_digits (x ∷ xs) all some =
    let digit : IsInBounds 48 57 x = digit_at (x ∷ xs) 0 all some in
    let no_minus : (x == 45) ≡ false = grind (arith, nat_tests) in
    let no_plus : (x == 43) ≡ false = grind (arith, nat_tests) in
    let plain = option_map (with_sign false) (size_spelled (x ∷ xs)) in
    ap (λ b. cond b (option_map (with_sign true) (size_spelled xs)) (cond (x == 43) (option_map (with_sign false) (size_spelled xs)) plain)) no_minus
    ∙ ap (λ b. cond b (option_map (with_sign false) (size_spelled xs)) plain) no_plus
    ∙ ap (option_map (with_sign false)) (size_of_digits (x ∷ xs) some all)

-- ---- numbers in digits

-- what is known of the digits of a 16-bit number
record IsWritten (n : ℕ) : Type 0 where
  all : AllDigits 10 (decimal n)
  some : 0 < length (decimal n)
  value : digits_value 10 (decimal n) ≡ n

written : (n : ℕ) → n ≤ 32768 → IsWritten n
written n small =
    let numeral = decimal_is_IsNumeral n (omega arith) in
    record { all = numeral.0.1; some = decimal_nonempty n (omega arith); value = numeral.1 }

signed_plain : (z : ℤ) → IsInRange z → IsPlain (signed_decimal z)
signed_plain (pos n) within = let d = written n (omega (arith, ints, within.1)) in digits_plain (decimal n) d.all d.some
signed_plain (negsuc n) within = let d = written (suc n) (omega (arith, ints, within.0)) in minus_plain (decimal (suc n)) d.all d.some

number_spelled-signed : (z : ℤ) → IsInRange z → number_spelled (signed_decimal z) ≡ Some z
number_spelled-signed (pos n) within =
    let d = written n (omega (arith, ints, within.1)) in
    spelled_digits (decimal n) d.all d.some ∙ ap (λ m. Some (pos m)) d.value
number_spelled-signed (negsuc n) within =
    let d = written (suc n) (omega (arith, ints, within.0)) in
    ap (option_map (with_sign true)) (size_of_digits (decimal (suc n)) d.some d.all) ∙ ap (λ m. Some (neg_ℤ (pos m))) d.value

is_in_range-true : (z : ℤ) → IsInRange z → is_in_range z ≡ true
is_in_range-true (pos n) within = lt-ltb n 32768 (omega (arith, ints, within.1))
is_in_range-true (negsuc n) within = lt-ltb n 32768 (omega (arith, ints, within.0))

read_back : (text : List ℕ) (z : ℤ) → IsInRange z → without_blanks text ≡ signed_decimal z → value_read text ≡ Ok z
unfolding value_read
read_back text z within core =
    ap (λ t. judged ILLEGAL_NUMBER (number_spelled t)) core
    ∙ ap (judged ILLEGAL_NUMBER) (number_spelled-signed z within)
    ∙ ap (λ b. cond b (Ok z) (Err INTEGER_ERROR)) (is_in_range-true z within)

pub reading_gives_back : (z : ℤ) → IsInRange z → value_read (signed_decimal z) ≡ Ok z
reading_gives_back z within =
    read_back (signed_decimal z) z within (without_blanks-plain (signed_decimal z) (signed_plain z within))

-- one blank before the string is dropped
without_blanks-before : (text : List ℕ) → without_blanks (32 ∷ text) ≡ without_blanks text
without_blanks-before text =
    let more : 1 + prefix_len is_blank text ≡ suc (prefix_len is_blank text) = omega arith in
    ap (λ n. without_end_blanks (drop n (32 ∷ text))) more

without_blanks-printed : (z : ℤ) → IsInRange z → without_blanks (printed z) ≡ signed_decimal z
without_blanks-printed (pos n) within =
    without_blanks-before (decimal n ++ 32 ∷ []) ∙ without_blanks-behind (decimal n) (signed_plain (pos n) within)
without_blanks-printed (negsuc n) within =
    ap (λ m. without_blanks ((45 ∷ decimal m) ++ 32 ∷ [])) (add-one n)
    ∙ without_blanks-behind (45 ∷ decimal (suc n)) (signed_plain (negsuc n) within)

pub reading_skips_blanks : (z : ℤ) → IsInRange z → value_read (printed z) ≡ Ok z
reading_skips_blanks z within = read_back (printed z) z within (without_blanks-printed z within)
