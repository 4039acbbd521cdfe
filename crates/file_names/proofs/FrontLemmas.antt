-- The prefix of a text without its blanks, byte by byte, and how long a specification can be.
use Rattle.std.proofs.Common.{◌≡◌, ℕ, ◌+◌, ◌<◌, ◌≤◌, Bool, true, false, cond, eqb, zero, suc, List, [], ◌∷◌, ◌++◌, length, take, drop, get_or, Option, Some, None, refl, sym, ap, subst, ◌∙◌, arith}
use Rattle.std.specs.Prelude.{◌&&◌, not, nat_le, nat_lt, map, slice_get, unwrap_or, is_some, bytes_eq, codes}
use Rattle.std.specs.List.{list_all, prefix_len}
use Rattle.std.specs.Char.{to_ascii_uppercase, is_ascii_alphanumeric}
use Rattle.std.specs.Fmt.{decimal}
use Rattle.std.proofs.Math.Seq.{take-suc, drop-cons}
use Rattle.std.proofs.lemmas.Bool.{leb-true}
use Rattle.std.proofs.lemmas.Fmt.{length-decimal-le}
use Rattle.std.proofs.lemmas.List.{append-nil, length-append, take_all, length-take, take-append-drop, map-append, take-append-le}
use Rattle.std.proofs.lemmas.List.Elements.{filter-append}
use Rattle.std.proofs.lemmas.Option.{slice_get_past}
use Rattle.basic_values.specs.Blanks.{is_blank}
use Rattle.monitor_calls.specs.Names.{is_capital_or_digit, is_text_of}
use Rattle.basic_values.specs.Cuts.{behind}
use Rattle.basic_values.proofs.CutLaws.{and_left, and_right}
use Rattle.file_names.specs.Names.{OwnerPlace, Untold, Library, Bracketed, Written, device_text, place_text, extension_written, code_written, written_text, IsPlace, IsExtension, IsCode, IsWritten, solid, squeezed, letters_in, has_device}

-- ---- one more byte

solid_more : (text : List ℕ) (i : ℕ) → i < length text → solid (take (suc i) text) ≡ solid (take i text) ++ solid (get_or text i 0 ∷ [])
solid_more text i lt = ap solid (take-suc text i 0 lt) ∙ filter-append (λ byte. not (is_blank byte)) (take i text) (get_or text i 0 ∷ [])

squeezed_more : (text : List ℕ) (i : ℕ) → i < length text → squeezed (take (suc i) text) ≡ squeezed (take i text) ++ squeezed (get_or text i 0 ∷ [])
squeezed_more text i lt = ap (map to_ascii_uppercase) (solid_more text i lt) ∙ map-append to_ascii_uppercase (solid (take i text)) (solid (get_or text i 0 ∷ []))

pub blank_adds_nothing : (text : List ℕ) (i : ℕ) → i < length text → is_blank (get_or text i 0) ≡ true → squeezed (take (i + 1) text) ≡ squeezed (take i text)
blank_adds_nothing text i lt blank =
    let next : i + 1 ≡ suc i = omega arith in
    ap (λ (k : ℕ). squeezed (take k text)) next ∙ squeezed_more text i lt ∙ rw blank (append-nil (squeezed (take i text)))

pub other_is_added : (text : List ℕ) (i : ℕ) → i < length text → is_blank (get_or text i 0) ≡ false → squeezed (take (i + 1) text) ≡ squeezed (take i text) ++ to_ascii_uppercase (get_or text i 0) ∷ []
other_is_added text i lt other =
    let next : i + 1 ≡ suc i = omega arith in
    ap (λ (k : ℕ). squeezed (take k text)) next ∙ squeezed_more text i lt ∙ rw other refl

pub front_grows : (most : ℕ) (front : List ℕ) (byte : ℕ) → length (take most front) < most → take most (front ++ byte ∷ []) ≡ take most front ++ byte ∷ []
front_grows most front byte lt =
    let fits : length front < most = omega (arith, length-take most front) in
    take_all most (front ++ byte ∷ []) (omega (arith, length-append front (byte ∷ []))) ∙ ap (λ t. t ++ byte ∷ []) (sym (take_all most front (omega arith)))

pub front_is_full : (most : ℕ) (front : List ℕ) (byte : ℕ) → most ≤ length (take most front) → take most (front ++ byte ∷ []) ≡ take most front
front_is_full most front byte full = take-append-le most front (byte ∷ []) (omega (arith, length-take most front))

-- ---- the device at the start

all_front : (p : ℕ → Bool) (xs : List ℕ) → list_all p xs ≡ true → prefix_len p xs ≡ length xs
all_front p [] all = refl
all_front p (x ∷ xs) all =
    rw (and_left (p x) (list_all p xs) all) (omega (arith, all_front p xs (and_right (p x) (list_all p xs) all)))

get_seam : (xs : List ℕ) (x : ℕ) (ys : List ℕ) → slice_get (xs ++ x ∷ ys) (length xs) ≡ Some x
get_seam [] x ys = refl
get_seam (y ∷ xs) x ys = get_seam xs x ys

front_stops : (p : ℕ → Bool) (xs : List ℕ) (x : ℕ) (ys : List ℕ) → list_all p xs ≡ true → p x ≡ false → prefix_len p (xs ++ x ∷ ys) ≡ length xs
front_stops p [] x ys all other = rw other refl
front_stops p (y ∷ xs) x ys all other =
    rw (and_left (p y) (list_all p xs) all) (omega (arith, front_stops p xs x ys (and_right (p y) (list_all p xs) all) other))

pub device_decided : (text : List ℕ) (i : ℕ) → i < length text → list_all is_ascii_alphanumeric (solid (take i text)) ≡ true → is_blank (get_or text i 0) ≡ false → is_ascii_alphanumeric (get_or text i 0) ≡ false → has_device text ≡ (nat_lt 0 (length (solid (take i text))) && eqb (get_or text i 0) 58)
device_decided text i lt all solid_byte other =
    let front : List ℕ = solid (take i text) in
    let byte : ℕ = get_or text i 0 in
    let rest : List ℕ = solid (drop (suc i) text) in
    let parts : solid text ≡ front ++ byte ∷ rest =
    ap solid (sym (take-append-drop i text)) ∙ filter-append (λ byte. not (is_blank byte)) (take i text) (drop i text)
    ∙ ap (λ (t : List ℕ). front ++ solid t) (drop-cons text i 0 lt) ∙ rw solid_byte refl in
    let letters : letters_in text ≡ length front = ap (prefix_len is_ascii_alphanumeric) parts ∙ front_stops is_ascii_alphanumeric front byte rest all other in
    let found : slice_get (solid text) (letters_in text) ≡ Some byte = (λ j. slice_get (parts j) (letters j)) ∙ get_seam front byte rest in
    λ j. nat_lt 0 (letters j) && eqb (unwrap_or (found j) 0) 58

and_no : (a : Bool) → (a && false) ≡ false
and_no true = refl
and_no false = refl

pub no_device_found : (text : List ℕ) → list_all is_ascii_alphanumeric (solid text) ≡ true → has_device text ≡ false
no_device_found text all =
    let letters : letters_in text ≡ length (solid text) = all_front is_ascii_alphanumeric (solid text) all in
    let nothing : slice_get (solid text) (letters_in text) ≡ None = slice_get_past (solid text) (letters_in text) (omega arith) in
    ap (λ o. nat_lt 0 (letters_in text) && eqb (unwrap_or o 0) 58) nothing ∙ and_no (nat_lt 0 (letters_in text))

-- ---- what a prefix of the prefix begins with

found_if : (b : Bool) (x : List ℕ) → is_some (cond b (Some x) None) ≡ b
found_if true x = refl
found_if false x = refl

take_of_take : (n m : ℕ) (text : List ℕ) → n ≤ m → take n (take m text) ≡ take n text
take_of_take zero m text le = refl
take_of_take (suc n) zero text le = absurd (omega arith)
take_of_take (suc n) (suc m) [] le = refl
take_of_take (suc n) (suc m) (x ∷ text) le = ap (λ t. x ∷ t) (take_of_take n m text (omega arith))

pub front_of_front : (most : ℕ) (text : List ℕ) → 3 ≤ most → is_some (behind (codes "SY:") (take most text)) ≡ is_some (behind (codes "SY:") text)
front_of_front most text few =
    let same : take 3 (take most text) ≡ take 3 text = take_of_take 3 most text few in
    found_if (bytes_eq (take 3 (take most text)) (codes "SY:")) (drop 3 (take most text))
    ∙ ap (λ t. bytes_eq t (codes "SY:")) same ∙ sym (found_if (bytes_eq (take 3 text) (codes "SY:")) (drop 3 text))

-- ---- how long a specification is

size_of : (kind : ℕ → Bool) (least most : ℕ) (text : List ℕ) → is_text_of kind least most text ≡ true → length text ≤ most
size_of kind least most text e =
    leb-true (length text) most (and_right (nat_le least (length text)) (nat_le (length text) most) (and_left (nat_le least (length text) && nat_le (length text) most) (list_all kind text) e))

three_digits : (n : ℕ) → n < 256 → length (decimal n) ≤ 3
three_digits n small = length-decimal-le 3 n (omega arith) (omega arith) (omega arith)

device_short : (device : Bool) → length (device_text device) ≤ 3
device_short true = omega arith
device_short false = omega arith

place_short : (p : OwnerPlace) → IsPlace p → length (place_text p) ≤ 9
place_short Untold good = omega arith
place_short Library good = omega arith
place_short (Bracketed a) good =
    let p = three_digits a.project (omega arith) in
    let n = three_digits a.programmer (omega arith) in
    omega (arith, length-append (codes "[" ++ decimal a.project ++ codes "," ++ decimal a.programmer) (codes "]"), length-append (codes "[" ++ decimal a.project ++ codes ",") (decimal a.programmer), length-append (codes "[" ++ decimal a.project) (codes ","), length-append (codes "[") (decimal a.project))

extension_short : (x : Option (List ℕ)) → IsExtension x → length (extension_written x) ≤ 4
extension_short None good = omega arith
extension_short (Some text) good = let s = size_of is_capital_or_digit 0 3 text good in omega arith

code_short : (c : Option ℕ) → IsCode c → length (code_written c) ≤ 5
code_short None good = omega arith
code_short (Some code) good =
    let d = three_digits code (omega arith) in
    omega (arith, length-append (codes "<" ++ decimal code) (codes ">"), length-append (codes "<") (decimal code))

pub written_short : (w : Written) → IsWritten w → length (written_text w) ≤ 27
written_short w good =
    let d = device_short w.device in
    let p = place_short w.place good.place in
    let s = size_of is_capital_or_digit 1 6 w.stem good.stem in
    let x = extension_short w.extension good.extension in
    let c = code_short w.code good.code in
    omega (arith, length-append (device_text w.device ++ place_text w.place ++ w.stem ++ extension_written w.extension) (code_written w.code), length-append (device_text w.device ++ place_text w.place ++ w.stem) (extension_written w.extension), length-append (device_text w.device ++ place_text w.place) w.stem, length-append (device_text w.device) (place_text w.place))

-- a prefix that is shorter than it can be is the whole text
pub short_front : (most : ℕ) (text : List ℕ) → length (take most text) < most → take most text ≡ text
short_front most text lt = take_all most text (omega (arith, length-take most text))

-- ---- steps and ends of the loops

pub front_pushes : (text front : List ℕ) (i : ℕ) → front ≡ take 32 (squeezed (take i text)) → i < length text → is_blank (get_or text i 0) ≡ false → length front < 32 → front ++ to_ascii_uppercase (get_or text i 0) ∷ [] ≡ take 32 (squeezed (take (i + 1) text))
front_pushes text front i is lt other fits =
    let small : length (take 32 (squeezed (take i text))) < 32 = subst (λ (t : List ℕ). length t < 32) is fits in
    ap (λ t. t ++ to_ascii_uppercase (get_or text i 0) ∷ []) is ∙ sym (front_grows 32 (squeezed (take i text)) (to_ascii_uppercase (get_or text i 0)) small)
    ∙ ap (take 32) (sym (other_is_added text i lt other))

pub front_stays : (text front : List ℕ) (i : ℕ) → front ≡ take 32 (squeezed (take i text)) → i < length text → is_blank (get_or text i 0) ≡ false → (length front < 32 → ⊥) → front ≡ take 32 (squeezed (take (i + 1) text))
front_stays text front i is lt other full =
    let large : 32 ≤ length (take 32 (squeezed (take i text))) = subst (λ (t : List ℕ). 32 ≤ length t) is (omega (arith, full)) in
    is ∙ sym (front_is_full 32 (squeezed (take i text)) (to_ascii_uppercase (get_or text i 0)) large) ∙ ap (take 32) (sym (other_is_added text i lt other))

pub front_skips : (text front : List ℕ) (i : ℕ) → front ≡ take 32 (squeezed (take i text)) → i < length text → is_blank (get_or text i 0) ≡ true → front ≡ take 32 (squeezed (take (i + 1) text))
front_skips text front i is lt blank = is ∙ ap (take 32) (sym (blank_adds_nothing text i lt blank))
