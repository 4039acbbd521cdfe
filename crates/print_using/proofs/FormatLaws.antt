-- The parts of a format: reading finds them, and there are no others.
use Rattle.std.proofs.Common.{◌≡◌, ℕ, zero, suc, ◌≤◌, ◌+◌, ◌-◌, true, false, List, [], ◌∷◌, length, drop, Option, Some, None, refl, sym, ap, subst, ◌∙◌, arith, length-append}
use Rattle.print_using.specs.declared.fields.Field.{Field}
use Rattle.print_using.specs.declared.fields.Field.TheVariants.{Initial, Column, Digits}
use Rattle.print_using.specs.Fields.{field_spelling, has_place}
use Rattle.print_using.specs.Formats.{FormatPart, OfByte, OfField, HasNoFieldInFront, IsFormatOf}
use Rattle.print_using.specs.FormatFronts.{front_field, part_then, parts_behind, format_parts}
use Rattle.print_using.specs.Laws.{FormatIsReadOneWay}
use Rattle.print_using.proofs.FieldLaws.{spelling_length, front_stands, found_is_longest, longest_is_found, nothing_stands, nothing_found, behind_field}

-- ---- one part, and the parts after it

behind_count : (count : ℕ) (text : List ℕ) → parts_behind count text ≡ format_parts (drop count text)
behind_count zero text = refl
behind_count (suc count) [] = refl
behind_count (suc count) (byte ∷ rest) = behind_count count rest

pub byte_first : (byte : ℕ) (rest : List ℕ) → front_field (byte ∷ rest) ≡ None → format_parts (byte ∷ rest) ≡ OfByte byte ∷ format_parts rest
byte_first byte rest e = ap (λ o. part_then o byte (λ count. parts_behind count rest)) e

pub some_width : (field : Field) → has_place field ≡ true → 1 ≤ length (field_spelling field)
some_width Initial placed = omega arith
some_width (Column spaces) placed = omega arith
some_width (Digits true signs trailing) placed =
    let long = spelling_length true signs trailing in
    omega (arith, long)
some_width (Digits false zero trailing) placed = absurd cc
some_width (Digits false (suc signs) trailing) placed =
    let long = spelling_length false (suc signs) trailing in
    omega (arith, long)

pub field_first : (format : List ℕ) (field : Field) → front_field format ≡ Some field → format_parts format ≡ OfField field ∷ format_parts (drop (length (field_spelling field)) format)
field_first [] field e = absurd cc
field_first (byte ∷ rest) field e =
    let width : ℕ = length (field_spelling field) in
    let some : 1 ≤ width = some_width field (front_stands (byte ∷ rest) field e).1.placed in
    let more : suc (width - 1) ≡ width = omega (arith, some) in
    ap (λ o. part_then o byte (λ count. parts_behind count rest)) e
    ∙ ap (λ parts. OfField field ∷ parts) (behind_count (width - 1) rest)
    ∙ ap (λ n. OfField field ∷ format_parts (drop n (byte ∷ rest))) more

-- ---- the parts are those that reading finds

are_found : (parts : List FormatPart) (format : List ℕ) → IsFormatOf parts format → parts ≡ format_parts format
are_found [] format is = ap format_parts (sym is)
are_found (OfByte byte ∷ parts) format is =
    let none : front_field (byte ∷ is.0) ≡ None =
    nothing_found (byte ∷ is.0) (subst (λ (t : List ℕ). HasNoFieldInFront t) is.1 is.2) in
    ap (λ ps. OfByte byte ∷ ps) (are_found parts is.0 is.3)
    ∙ sym (byte_first byte is.0 none)
    ∙ ap format_parts (sym is.1)
are_found (OfField field ∷ parts) format is =
    ap (λ ps. OfField field ∷ ps) (are_found parts is.0 is.2)
    ∙ ap (λ t. OfField field ∷ format_parts t) (sym (behind_field field is.0 format is.1.in_front))
    ∙ sym (field_first format field (longest_is_found field is.0 format is.1))

-- ---- what reading finds are the parts

by_front : (n byte : ℕ) (rest : List ℕ) (found : Option Field) → front_field (byte ∷ rest) ≡ found → length rest ≤ n → ((text : List ℕ) → length text ≤ n → IsFormatOf (format_parts text) text) → IsFormatOf (format_parts (byte ∷ rest)) (byte ∷ rest)
by_front n byte rest None e few again =
    subst (λ (ps : List FormatPart). IsFormatOf ps (byte ∷ rest)) (sym (byte_first byte rest e))
    (rest, refl, nothing_stands (byte ∷ rest) e, again rest few)
by_front n byte rest (Some field) e few again =
    let longest = found_is_longest (byte ∷ rest) field e in
    let behind = behind_field field longest.0 (byte ∷ rest) longest.1.in_front in
    let some = some_width field longest.1.in_front.placed in
    let whole : length (byte ∷ rest) ≡ length (field_spelling field) + length longest.0 =
    ap length longest.1.in_front.is ∙ length-append (field_spelling field) longest.0 in
    let fewer : length longest.0 ≤ n = omega (arith, few, some, whole) in
    subst (λ (ps : List FormatPart). IsFormatOf ps (byte ∷ rest))
    (sym (field_first (byte ∷ rest) field e ∙ ap (λ t. OfField field ∷ format_parts t) behind))
    (longest.0, longest.1, again longest.0 fewer)

are_parts : (n : ℕ) (format : List ℕ) → length format ≤ n → IsFormatOf (format_parts format) format
are_parts n [] few = refl
are_parts zero (byte ∷ rest) few = absurd (omega (arith, few))
are_parts (suc n) (byte ∷ rest) few =
    by_front n byte rest (front_field (byte ∷ rest)) refl (omega (arith, few)) (λ text. are_parts n text)

pub format_is_read_one_way : FormatIsReadOneWay
format_is_read_one_way format parts =
    (are_found parts format, λ e. subst (λ (ps : List FormatPart). IsFormatOf ps format) (sym e) (are_parts (length format) format (omega arith)))
