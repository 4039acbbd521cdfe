-- LSET C$=CVT%$(CVT$%(C$)+1%) takes the counter of the buffer one step on.
use Rattle.std.proofs.Common.{◌≡◌, ℕ, zero, suc, ◌+◌, ◌-◌, ◌*◌, ◌%◌, ◌/◌, ◌<◌, true, false, cond, ltb, ℤ, pos, negsuc, List, [], ◌∷◌, ◌++◌, take, length, replicate, refl, sym, ap, subst, ◌∙◌, arith, append-nil}
use Rattle.std.specs.Prelude.{◌+ℤ◌, if◌then◌else◌}
use Rattle.std.proofs.lemmas.Bool.{le-leb}
use Rattle.std.proofs.lemmas.Int.{ints}
use Rattle.std.proofs.lemmas.List.{take_all}
use Rattle.monitor_calls.specs.Proper.{IsByte}
use Rattle.basic_values.specs.Numbers.{low_bits, signed, wrap}
use Rattle.basic_strings.specs.Pairs.{pair_of, number_in}
use Rattle.record_fields.specs.declared.parts.Part.{Part}
use Rattle.record_fields.specs.declared.writing.Side.TheVariants.{Left}
use Rattle.record_fields.specs.Parts.{lies_in, part_of, with_part}
use Rattle.record_fields.specs.Writing.{set_part, justified}
use Rattle.record_fields.specs.Buffers.{filled}
use Rattle.channels.specs.Transfers.{page_from}
use Rattle.drill_deck.specs.Tallies.{counter}
use Rattle.drill_talk.specs.Laws.{next_number}

low_bits-signed : (n : ℕ) → n < 65536 → low_bits (signed n) ≡ n
low_bits-signed n below =
    elim (ltb n 32768) as (λ b. ltb n 32768 ≡ b → low_bits (cond b (pos n) (negsuc (65535 - n))) ≡ n) [
      | true ↦ λ e. omega arith
      | false ↦ λ e. omega arith
    ] refl

low_bits-lt : (z : ℤ) → low_bits z < 65536
low_bits-lt (pos n) = omega arith
low_bits-lt (negsuc n) = omega arith

past_zero : (x k : ℕ) → x + k ≡ 65535 → low_bits (negsuc k +ℤ pos 1) ≡ (x + 1) % 65536
past_zero x zero sum = omega (arith, sum)
past_zero x (suc k) sum =
    let back : negsuc (suc k) +ℤ pos 1 ≡ negsuc k = omega (arith, ints) in
    let bits : low_bits (negsuc k) ≡ (x + 1) % 65536 = omega (arith, sum) in
    ap low_bits back ∙ bits

bits_next : (x : ℕ) → x < 65536 → low_bits (signed x +ℤ pos 1) ≡ (x + 1) % 65536
bits_next x below =
    elim (ltb x 32768) as (λ b. ltb x 32768 ≡ b → low_bits (cond b (pos x) (negsuc (65535 - x)) +ℤ pos 1) ≡ (x + 1) % 65536) [
      | true ↦ λ e. omega arith
      | false ↦ λ e. past_zero x (65535 - x) (omega (arith, below))
    ] refl

next_bits : (x : ℕ) → x < 65536 → low_bits (wrap (signed x +ℤ pos 1)) ≡ (x + 1) % 65536
next_bits x below = low_bits-signed (low_bits (signed x +ℤ pos 1)) (low_bits-lt (signed x +ℤ pos 1)) ∙ bits_next x below

-- the part of C$
abbrev pub first_two : Part
first_two = record { offset = 0; length = 2 }

abbrev pub counted_up : List ℕ → List ℕ
counted_up buffer = set_part Left first_two (pair_of (wrap (number_in (part_of first_two buffer) +ℤ pos 1))) buffer

pub counted_long : (buffer : List ℕ) → length buffer ≡ 512 → length (counted_up buffer) ≡ 512
counted_long [] long = absurd (omega (arith, long))
counted_long (a ∷ []) long = absurd (omega (arith, long))
counted_long (a ∷ b ∷ rest) long =
    let lies : lies_in (length (a ∷ b ∷ rest)) first_two ≡ true = le-leb (0 + 2) (length (a ∷ b ∷ rest)) (omega arith) in
    subst (λ q. length (if q then with_part first_two (justified Left 2 (pair_of (wrap (number_in (part_of first_two (a ∷ b ∷ rest)) +ℤ pos 1)))) (a ∷ b ∷ rest) else (a ∷ b ∷ rest)) ≡ 512) (sym lies) long

pub lset_counts : (buffer : List ℕ) → length buffer ≡ 512 → ((a b : ℕ) (rest : List ℕ) → buffer ≡ a ∷ b ∷ rest → IsByte a × IsByte b) → counter (counted_up buffer) ≡ next_number (counter buffer)
lset_counts [] whole bytes = absurd (omega (arith, whole))
lset_counts (a ∷ []) whole bytes = absurd (omega (arith, whole))
lset_counts (a ∷ b ∷ rest) whole bytes =
    let both = bytes a b rest refl in
    let x = a * 256 + b in
    let low : x < 65536 = omega (arith, both.0, both.1) in
    let n = low_bits (wrap (signed x +ℤ pos 1)) in
    let lies : lies_in (length (a ∷ b ∷ rest)) first_two ≡ true = le-leb (0 + 2) (length (a ∷ b ∷ rest)) (omega arith) in
    let split : 256 * (n / 256) + n % 256 ≡ n = omega arith in
    subst (λ q. counter (if q then with_part first_two (justified Left 2 (pair_of (wrap (signed x +ℤ pos 1)))) (a ∷ b ∷ rest) else (a ∷ b ∷ rest)) ≡ next_number (counter (a ∷ b ∷ rest))) (sym lies)
    (split ∙ next_bits x low ∙ ap (λ m. (m + 1) % 65536) (omega arith))

-- PUT writes the buffer as it is, and GET reads the page as it is
pub put_whole : (buffer : List ℕ) → length buffer ≡ 512 → page_from buffer ≡ buffer
put_whole buffer whole =
    let none : 512 - length buffer ≡ 0 = omega (arith, whole) in
    ap (λ n. take 512 buffer ++ replicate n 0) none ∙ append-nil (take 512 buffer) ∙ take_all 512 buffer (omega (arith, whole))

pub get_whole : (page buffer : List ℕ) → length page ≡ 512 → length buffer ≡ 512 → filled page buffer ≡ page
get_whole page buffer whole same =
    let none : length buffer - length page ≡ 0 = omega (arith, whole, same) in
    ap (λ n. take (length buffer) page ++ replicate n 0) none ∙ append-nil (take (length buffer) page) ∙ take_all (length buffer) page (omega (arith, whole, same))
