-- Examples of PRINT USING.
use Rattle.std.proofs.Common.{◌≡◌, [], ◌∷◌, Ok, Err, refl}
use Rattle.std.specs.Prelude.{codes, pos, negsuc}
use Rattle.std.specs.Fmt.{digits}
use Rattle.print_using.specs.Values.{PrintedNumber, PrintedText}
use Rattle.print_using.specs.FormatFronts.{front_by}
use Rattle.print_using.specs.Using.{using_bytes, with_line_end}

-- ---- numbers

minus_behind_digits : using_bytes (codes "###-") (PrintedNumber (negsuc 41) ∷ []) ≡ Ok (codes " 42-")
unfolding front_by digits
minus_behind_digits = refl

space_behind_digits : using_bytes (codes "###-") (PrintedNumber (pos 42) ∷ []) ≡ Ok (codes " 42 ")
unfolding front_by digits
space_behind_digits = refl

minus_in_front : using_bytes (codes "####") (PrintedNumber (negsuc 41) ∷ []) ≡ Ok (codes " -42")
unfolding front_by digits
minus_in_front = refl

filled_by_stars : using_bytes (codes "**##") (PrintedNumber (pos 7) ∷ []) ≡ Ok (codes "***7")
unfolding front_by digits
filled_by_stars = refl

stars_alone : using_bytes (codes "**") (PrintedNumber (pos 7) ∷ []) ≡ Ok (codes "*7")
unfolding front_by digits
stars_alone = refl

minus_behind_stars : using_bytes (codes "**-") (PrintedNumber (negsuc 6) ∷ []) ≡ Ok (codes "*7-")
unfolding front_by digits
minus_behind_stars = refl

a_star_too_many : using_bytes (codes "***#") (PrintedNumber (pos 7) ∷ PrintedNumber (pos 8) ∷ []) ≡ Ok (codes "*7*8")
unfolding front_by digits
a_star_too_many = refl

too_few_places : using_bytes (codes "##") (PrintedNumber (pos 123) ∷ []) ≡ Ok (codes "%123")
unfolding front_by digits
too_few_places = refl

no_place_for_the_minus : using_bytes (codes "##") (PrintedNumber (negsuc 41) ∷ []) ≡ Ok (codes "%-42")
unfolding front_by digits
no_place_for_the_minus = refl

too_few_before_the_minus : using_bytes (codes "#-") (PrintedNumber (negsuc 41) ∷ []) ≡ Ok (codes "%42-")
unfolding front_by digits
too_few_before_the_minus = refl

-- ---- strings

cut_and_placed : using_bytes (codes "\\ \\ ##;") (PrintedText (codes "ABCD") ∷ PrintedNumber (pos 5) ∷ []) ≡ Ok (codes "ABC  5;")
unfolding front_by digits
cut_and_placed = refl

two_places : using_bytes (codes "\\\\") (PrintedText (codes "A") ∷ []) ≡ Ok (codes "A ")
unfolding front_by digits
two_places = refl

first_byte_of_a_text : using_bytes (codes "!") (PrintedText (codes "ABC") ∷ []) ≡ Ok (codes "A")
unfolding front_by digits
first_byte_of_a_text = refl

first_byte_of_none : using_bytes (codes "!") (PrintedText [] ∷ []) ≡ Ok (codes " ")
unfolding front_by digits
first_byte_of_none = refl

no_second_bar : using_bytes (codes "\\ !") (PrintedText (codes "AB") ∷ []) ≡ Ok (codes "\\ A")
unfolding front_by digits
no_second_bar = refl

-- ---- the other kind

number_field_and_text : using_bytes (codes "##") (PrintedText (codes "A") ∷ []) ≡ Err 50
unfolding front_by digits
number_field_and_text = refl

text_field_and_number : using_bytes (codes "! !") (PrintedText (codes "A") ∷ PrintedNumber (pos 1) ∷ []) ≡ Err 50
unfolding front_by digits
text_field_and_number = refl

-- ---- fields and values

no_field_for_a_value : using_bytes (codes "AB*") (PrintedNumber (pos 1) ∷ []) ≡ Err 50
unfolding front_by digits
no_field_for_a_value = refl

no_field_and_no_value : using_bytes (codes "AB*") [] ≡ Ok (codes "AB*")
unfolding front_by digits
no_field_and_no_value = refl

no_format_and_no_value : using_bytes [] [] ≡ Ok []
no_format_and_no_value = refl

begins_again : using_bytes (codes "<##>") (PrintedNumber (pos 1) ∷ PrintedNumber (pos 2) ∷ []) ≡ Ok (codes "< 1>< 2>")
unfolding front_by digits
begins_again = refl

ends_before_a_field : using_bytes (codes "A# B# C") (PrintedNumber (pos 1) ∷ PrintedNumber (pos 2) ∷ PrintedNumber (pos 3) ∷ []) ≡ Ok (codes "A1 B2 CA3 B")
unfolding front_by digits
ends_before_a_field = refl

end_of_the_line : with_line_end (using_bytes (codes "#") (PrintedNumber (pos 1) ∷ [])) ≡ Ok (49 ∷ 13 ∷ 10 ∷ [])
unfolding front_by digits
end_of_the_line = refl
