-- Hexadecimal digits of bytes are read as those bytes, and digits that are read are written again.
use Rattle.std.proofs.Common.{◌≡◌, ℕ, ◌+◌, ◌*◌, ◌<◌, ◌≤◌, Bool, true, false, eqb, List, [], ◌∷◌, ◌++◌, length, get_or, take, drop, refl, sym, ap, ◌∙◌, append_assoc, arith, ◌⊎◌, inl, inr, ⊎_elim}
use Rattle.std.specs.Prelude.{◌-◌, ◌/◌, ◌%◌, ◌&&◌, ◌||◌, nat_le}
use Rattle.std.specs.List.{list_all}
use Rattle.std.specs.Char.{is_ascii_digit}
use Rattle.std.proofs.lemmas.Bool.{leb-true, le-leb, eqb-true, eq-eqb, ne_eqb, ltb-true, lt-ltb, le-ltb, cases_lt, lt-leb}
use Rattle.std.proofs.lemmas.List.{append-nil, take_all}
use Rattle.basic_values.proofs.CutLaws.{and_left, and_right, and_both}
use Rattle.deck_model.specs.Hex.{is_byte, is_hex_digit, hex_value, is_hex, hex_bytes}
use Rattle.deck_model.specs.Histories.{hex_sign, hex_text}

-- a digit is 0 to 9 or a to f
is_sign_of : (s : ℕ) → is_hex_digit s ≡ true → ((48 ≤ s) × (s ≤ 57)) ⊎ ((97 ≤ s) × (s ≤ 102))
is_sign_of s e = go (is_ascii_digit s) refl e
  where
    go : (b : Bool) → is_ascii_digit s ≡ b → (b || (nat_le 97 s && nat_le s 102)) ≡ true → ((48 ≤ s) × (s ≤ 57)) ⊎ ((97 ≤ s) × (s ≤ 102))
    go true digit all = inl (leb-true 48 s (and_left (nat_le 48 s) (nat_le s 57) digit), leb-true s 57 (and_right (nat_le 48 s) (nat_le s 57) digit))
    go false other all = inr (leb-true 97 s (and_left (nat_le 97 s) (nat_le s 102) all), leb-true s 102 (and_right (nat_le 97 s) (nat_le s 102) all))

digit_is : (s : ℕ) → 48 ≤ s → s ≤ 57 → is_ascii_digit s ≡ true
digit_is s least most = and_both (nat_le 48 s) (nat_le s 57) (le-leb 48 s least) (le-leb s 57 most)

no_digit : (s : ℕ) → 97 ≤ s → is_ascii_digit s ≡ false
no_digit s more = go (nat_le 48 s) (nat_le s 57) (lt-leb s 57 (omega (arith, more)))
  where
    go : (a b : Bool) → b ≡ false → (a && b) ≡ false
    go true b e = e
    go false b e = refl

digit_value : (s : ℕ) → 48 ≤ s → s ≤ 57 → hex_value s ≡ s - 48
digit_value s least most = rw (digit_is s least most) refl

letter_value : (s : ℕ) → 97 ≤ s → s ≤ 102 → hex_value s ≡ s - 87
letter_value s more most = rw (no_digit s more, le-leb 97 s more, le-leb s 102 most) refl

low_sign : (n : ℕ) → n < 10 → hex_sign n ≡ 48 + n
low_sign n less = rw (lt-ltb n 10 less) refl

high_sign : (n : ℕ) → 10 ≤ n → hex_sign n ≡ 87 + n
high_sign n more = rw (le-ltb n 10 more) refl

value_small : (s : ℕ) → is_hex_digit s ≡ true → hex_value s < 16
value_small s e =
    ⊎_elim
    (λ (d : (48 ≤ s) × (s ≤ 57)). let v = digit_value s d.0 d.1 in omega (arith, v, d.0, d.1))
    (λ (l : (97 ≤ s) × (s ≤ 102)). let v = letter_value s l.0 l.1 in omega (arith, v, l.0, l.1))
    (is_sign_of s e)

sign_again : (s : ℕ) → is_hex_digit s ≡ true → hex_sign (hex_value s) ≡ s
sign_again s e =
    ⊎_elim
    (λ (d : (48 ≤ s) × (s ≤ 57)).
    let v = digit_value s d.0 d.1 in
    let w = low_sign (hex_value s) (omega (arith, v, d.0, d.1)) in omega (arith, v, w, d.0, d.1))
    (λ (l : (97 ≤ s) × (s ≤ 102)).
    let v = letter_value s l.0 l.1 in
    let w = high_sign (hex_value s) (omega (arith, v, l.0, l.1)) in omega (arith, v, w, l.0, l.1))
    (is_sign_of s e)

value_again : (n : ℕ) → n < 16 → hex_value (hex_sign n) ≡ n
value_again n small =
    ⊎_elim
    (λ (less : n < 10).
    let w = low_sign n less in
    let v = digit_value (hex_sign n) (omega (arith, w)) (omega (arith, w, less)) in omega (arith, v, w))
    (λ (more : 10 ≤ n).
    let w = high_sign n more in
    let v = letter_value (hex_sign n) (omega (arith, w, more)) (omega (arith, w, small)) in omega (arith, v, w))
    (cases_lt n 10)

is_sign : (n : ℕ) → n < 16 → is_hex_digit (hex_sign n) ≡ true
is_sign n small =
    ⊎_elim
    (λ (less : n < 10).
    let w = low_sign n less in
    let digit : is_ascii_digit (hex_sign n) ≡ true = and_both (nat_le 48 (hex_sign n)) (nat_le (hex_sign n) 57) (le-leb 48 (hex_sign n) (omega (arith, w))) (le-leb (hex_sign n) 57 (omega (arith, w, less))) in
    ap (λ (b : Bool). b || (nat_le 97 (hex_sign n) && nat_le (hex_sign n) 102)) digit)
    (λ (more : 10 ≤ n).
    let w = high_sign n more in
    let no : is_ascii_digit (hex_sign n) ≡ false = go (nat_le 48 (hex_sign n)) (nat_le (hex_sign n) 57) (lt-leb (hex_sign n) 57 (omega (arith, w, more))) in
    ap (λ (b : Bool). b || (nat_le 97 (hex_sign n) && nat_le (hex_sign n) 102)) no
    ∙ and_both (nat_le 97 (hex_sign n)) (nat_le (hex_sign n) 102) (le-leb 97 (hex_sign n) (omega (arith, w, more))) (le-leb (hex_sign n) 102 (omega (arith, w, small))))
    (cases_lt n 10)
  where
    go : (a b : Bool) → b ≡ false → (a && b) ≡ false
    go true b e = e
    go false b e = refl

two_signs : (high low : ℕ) → high < 16 → low < 16 → (((16 * high + low) / 16) ≡ high) × (((16 * high + low) % 16) ≡ low)
two_signs high low h l = (omega (arith, h, l), omega (arith, h, l))

signs_take : (signs : List ℕ) → length signs % 2 ≡ 0 → list_all is_hex_digit signs ≡ true → (hex_text (hex_bytes signs) ≡ signs) × (list_all is_byte (hex_bytes signs) ≡ true)
unfolding hex_bytes
signs_take [] even e = (refl, refl)
signs_take (h ∷ []) even e = absurd (omega (arith, even))
signs_take (h ∷ l ∷ signs) even e =
    let high = and_left (is_hex_digit h) (list_all is_hex_digit (l ∷ signs)) e in
    let more = and_right (is_hex_digit h) (list_all is_hex_digit (l ∷ signs)) e in
    let low = and_left (is_hex_digit l) (list_all is_hex_digit signs) more in
    let rest = signs_take signs (omega (arith, even)) (and_right (is_hex_digit l) (list_all is_hex_digit signs) more) in
    let hv = value_small h high in
    let lv = value_small l low in
    let two = two_signs (hex_value h) (hex_value l) hv lv in
    let first : hex_sign ((16 * hex_value h + hex_value l) / 16) ≡ h = ap hex_sign two.0 ∙ sign_again h high in
    let second : hex_sign ((16 * hex_value h + hex_value l) % 16) ≡ l = ap hex_sign two.1 ∙ sign_again l low in
    let byte : is_byte (16 * hex_value h + hex_value l) ≡ true = lt-ltb (16 * hex_value h + hex_value l) 256 (omega (arith, hv, lv)) in
    (λ i. first i ∷ second i ∷ rest.0 i, and_both _ _ byte rest.1)

-- digits that are read are the digits of their bytes
pub hex_take : (signs : List ℕ) → is_hex signs ≡ true → (hex_text (hex_bytes signs) ≡ signs) × (list_all is_byte (hex_bytes signs) ≡ true)
unfolding is_hex
hex_take signs e =
    signs_take signs (eqb-true (length signs % 2) 0 (and_left (eqb (length signs % 2) 0) (list_all is_hex_digit signs) e)) (and_right (eqb (length signs % 2) 0) (list_all is_hex_digit signs) e)

signs_again : (bytes : List ℕ) → list_all is_byte bytes ≡ true → (list_all is_hex_digit (hex_text bytes) ≡ true) × ((length (hex_text bytes) ≡ 2 * length bytes) × (hex_bytes (hex_text bytes) ≡ bytes))
unfolding hex_bytes
signs_again [] e = (refl, (refl, refl))
signs_again (b ∷ bytes) e =
    let small : b < 256 = ltb-true b 256 (and_left (is_byte b) (list_all is_byte bytes) e) in
    let rest = signs_again bytes (and_right (is_byte b) (list_all is_byte bytes) e) in
    let high : b / 16 < 16 = omega (arith, small) in
    let low : b % 16 < 16 = omega arith in
    let h = value_again (b / 16) high in
    let l = value_again (b % 16) low in
    let byte : 16 * hex_value (hex_sign (b / 16)) + hex_value (hex_sign (b % 16)) ≡ b = omega (arith, h, l) in
    (and_both _ _ (is_sign (b / 16) high) (and_both _ _ (is_sign (b % 16) low) rest.0), (omega (arith, rest.1.0), λ i. byte i ∷ rest.1.1 i))

-- the digits of bytes are read as those bytes
pub hex_again : (bytes : List ℕ) → list_all is_byte bytes ≡ true → (is_hex (hex_text bytes) ≡ true) × (hex_bytes (hex_text bytes) ≡ bytes)
unfolding is_hex
hex_again bytes e =
    let a = signs_again bytes e in
    (and_both _ _ (eq-eqb (length (hex_text bytes) % 2) 0 (omega (arith, a.1.0))) a.0, a.1.1)

pub even_hex : (signs : List ℕ) → length signs % 2 ≡ 0 → list_all is_hex_digit signs ≡ is_hex signs
unfolding is_hex
even_hex signs even = ap (λ (b : Bool). b && list_all is_hex_digit signs) (sym (eq-eqb (length signs % 2) 0 even))

pub odd_hex : (signs : List ℕ) → (length signs % 2 ≡ 0 → ⊥) → false ≡ is_hex signs
unfolding is_hex
odd_hex signs odd = ap (λ (b : Bool). b && list_all is_hex_digit signs) (sym (ne_eqb (length signs % 2) 0 odd))

two_first : (rest : List ℕ) (d : ℕ) → 2 ≤ length rest → rest ≡ get_or rest 0 d ∷ get_or rest 1 d ∷ take (length rest - 2) (drop 2 rest)
two_first [] d some = absurd (omega (arith, some))
two_first (a ∷ []) d some = absurd (omega (arith, some))
two_first (a ∷ b ∷ rest) d some = ap (λ (r : List ℕ). a ∷ b ∷ r) (sym (take_all (length (a ∷ b ∷ rest) - 2) rest (omega arith)))

-- one step of reading: the byte of the next two digits is added
pub signs_taken : (done rest all next : List ℕ) (d byte : ℕ) → 2 ≤ length rest → byte ≡ 16 * hex_value (get_or rest 0 d) + hex_value (get_or rest 1 d) → next ≡ done ++ byte ∷ [] → done ++ hex_bytes rest ≡ all → next ++ hex_bytes (take (length rest - 2) (drop 2 rest)) ≡ all
unfolding hex_bytes
signs_taken done rest all next d byte some is pushed told =
    ap (λ (t : List ℕ). t ++ hex_bytes (take (length rest - 2) (drop 2 rest))) (pushed ∙ ap (λ (b : ℕ). done ++ b ∷ []) is)
    ∙ append_assoc done ((16 * hex_value (get_or rest 0 d) + hex_value (get_or rest 1 d)) ∷ []) (hex_bytes (take (length rest - 2) (drop 2 rest)))
    ∙ ap (λ (r : List ℕ). done ++ hex_bytes r) (sym (two_first rest d some)) ∙ told

pub signs_done : (done rest all : List ℕ) → length rest < 2 → done ++ hex_bytes rest ≡ all → done ≡ all
unfolding hex_bytes
signs_done done [] all few told = sym (append-nil done) ∙ told
signs_done done (a ∷ []) all few told = sym (append-nil done) ∙ told
signs_done done (a ∷ b ∷ more) all few with_lines = absurd (omega (arith, few))
