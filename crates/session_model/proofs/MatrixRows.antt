-- Examples of MAT: values, their bounds, what is read and written, and arrays in files, which are
-- rejected.
use Rattle.std.proofs.Common.{◌≡◌, [], ◌∷◌, Some, None, refl}
use Rattle.std.specs.Prelude.{codes}
use Rattle.std.specs.Fmt.{digits}
use Rattle.basic_values.specs.Arithmetic.{repeated_product}
use Rattle.basic_values.specs.Messages.{fault_text}
use Rattle.basic_strings.specs.Places.{place_of}
use Rattle.basic_strings.specs.Readings.{value_read, item_read}
use Rattle.basic_tree.specs.Words.{keywords, signs}
use Rattle.basic_tree.specs.Tokens.{letter_front, digit_front, quote_front, sign_front, front_of, items_from, tokens_from}
use Rattle.grammar_machine.specs.MachineRun.{run}
use Rattle.grammar_machine.specs.MachineJudge.{verdict_of}
use Rattle.program_model.specs.declared.refusals.LowerCause.TheVariants.{MatFile}
use Rattle.program_model.specs.Soundness.{refusal_of, refusal_now}
use Rattle.session_model.proofs.ProgramRows.{shows, program_read, statements_read}

-- the value is computed before anything is stored, also if the target is among its arrays
product : shows ((10, codes "DIM A%(2%,2%),B%(2%,2%)") ∷ (20, codes "MAT READ A%") ∷ (30, codes "MAT B%=A%*A%") ∷ (40, codes "MAT PRINT B%;") ∷ (50, codes "DATA 1,2,3,4") ∷ []) []
    ≡ codes " 7  10 \r\n 15  22 \r\n"
unfolding digits fault_text repeated_product place_of value_read item_read keywords signs letter_front digit_front quote_front sign_front front_of items_from tokens_from run verdict_of
product = refl

product_of_itself : shows ((10, codes "DIM A%(2%,2%),B%(2%,2%)") ∷ (20, codes "MAT READ A%") ∷ (30, codes "MAT A%=A%*A%") ∷ (40, codes "MAT PRINT A%;") ∷ (50, codes "DATA 1,2,3,4") ∷ []) []
    ≡ codes " 7  10 \r\n 15  22 \r\n"
unfolding digits fault_text repeated_product place_of value_read item_read keywords signs letter_front digit_front quote_front sign_front front_of items_from tokens_from run verdict_of
product_of_itself = refl

sum_and_difference : shows ((10, codes "DIM A%(2%,2%),B%(2%,2%)") ∷ (20, codes "MAT READ A%") ∷ (30, codes "MAT B%=A%+A% : MAT A%=B%-A%") ∷ (40, codes "MAT PRINT B%; : MAT PRINT A%;") ∷ (50, codes "DATA 1,2,3,4") ∷ []) []
    ≡ codes " 2  4 \r\n 6  8 \r\n 1  2 \r\n 3  4 \r\n"
unfolding digits fault_text repeated_product place_of value_read item_read keywords signs letter_front digit_front quote_front sign_front front_of items_from tokens_from run verdict_of
sum_and_difference = refl

constants : shows ((10, codes "DIM A%(2%,2%)") ∷ (20, codes "MAT A%=CON : MAT PRINT A%;") ∷ (30, codes "MAT A%=IDN : MAT PRINT A%;") ∷ (40, codes "MAT A%=(3%+1%)*A% : MAT PRINT A%;") ∷ (60, codes "MAT A%=ZER : MAT PRINT A%;") ∷ []) []
    ≡ codes " 1  1 \r\n 1  1 \r\n 1  0 \r\n 0  1 \r\n 4  0 \r\n 0  4 \r\n 0  0 \r\n 0  0 \r\n"
unfolding digits fault_text repeated_product place_of value_read item_read keywords signs letter_front digit_front quote_front sign_front front_of items_from tokens_from run verdict_of
constants = refl

turned : shows ((10, codes "DIM A%(2%,2%),B%(2%,2%)") ∷ (20, codes "MAT READ A%") ∷ (30, codes "MAT A%=TRN(A%) : MAT PRINT A%;") ∷ (50, codes "DATA 1,2,3,4") ∷ []) []
    ≡ codes " 1  3 \r\n 2  4 \r\n"
unfolding digits fault_text repeated_product place_of value_read item_read keywords signs letter_front digit_front quote_front sign_front front_of items_from tokens_from run verdict_of
turned = refl

-- row 0 and column 0 are no part of a matrix
subscript_0_stays : shows ((10, codes "DIM A%(1%,1%)") ∷ (20, codes "A%(0%,0%)=5% : A%(0%,1%)=6% : A%(1%,0%)=7%") ∷ (30, codes "MAT A%=CON : PRINT A%(0%,0%);A%(0%,1%);A%(1%,0%);A%(1%,1%)") ∷ []) []
    ≡ codes " 5  6  7  1 \r\n"
unfolding digits fault_text repeated_product place_of value_read item_read keywords signs letter_front digit_front quote_front sign_front front_of items_from tokens_from run verdict_of
subscript_0_stays = refl

-- error 55, and nothing is stored
turned_into_wrong_bounds : shows ((10, codes "DIM A%(2%,3%),B%(2%,2%)") ∷ (20, codes "MAT READ A%") ∷ (30, codes "MAT B%=TRN(A%)") ∷ (50, codes "DATA 1,2,3,4,5,6") ∷ []) []
    ≡ codes "?Subscript out of range at line 30\r\n"
unfolding digits fault_text repeated_product place_of value_read item_read keywords signs letter_front digit_front quote_front sign_front front_of items_from tokens_from run verdict_of
turned_into_wrong_bounds = refl

nothing_is_stored : shows ((5, codes "ON ERROR GOTO 60") ∷ (10, codes "DIM A%(2%,1%)") ∷ (20, codes "A%(1%,1%)=9%") ∷ (30, codes "MAT A%=IDN") ∷ (60, codes "PRINT ERR;ERL;A%(1%,1%)") ∷ []) []
    ≡ codes " 55  30  9 \r\n"
unfolding digits fault_text repeated_product place_of value_read item_read keywords signs letter_front digit_front quote_front sign_front front_of items_from tokens_from run verdict_of
nothing_is_stored = refl

sum_of_one_and_two_subscripts : shows ((10, codes "DIM A%(1%),B%(1%,1%)") ∷ (20, codes "MAT B%=A%+B%") ∷ []) []
    ≡ codes "?Subscript out of range at line 20\r\n"
unfolding digits fault_text repeated_product place_of value_read item_read keywords signs letter_front digit_front quote_front sign_front front_of items_from tokens_from run verdict_of
sum_of_one_and_two_subscripts = refl

-- an array of one subscript has one element in each row
one_subscript : shows ((10, codes "DIM A%(3%)") ∷ (20, codes "MAT READ A%") ∷ (30, codes "MAT PRINT A%; : MAT PRINT A%") ∷ (50, codes "DATA 1,2,3") ∷ []) []
    ≡ codes " 1 \r\n 2 \r\n 3 \r\n 1 \r\n 2 \r\n 3 \r\n"
unfolding digits fault_text repeated_product place_of value_read item_read keywords signs letter_front digit_front quote_front sign_front front_of items_from tokens_from run verdict_of
one_subscript = refl

printed_in_zones : shows ((10, codes "DIM A%(2%,2%),B%(2%,2%)") ∷ (20, codes "MAT READ A%") ∷ (40, codes "MAT PRINT A%, : MAT PRINT A%") ∷ (50, codes "DATA 1,2,3,4") ∷ []) []
    ≡ codes " 1             2 \r\n 3             4 \r\n 1 \r\n 2 \r\n 3 \r\n 4 \r\n"
unfolding digits fault_text repeated_product place_of value_read item_read keywords signs letter_front digit_front quote_front sign_front front_of items_from tokens_from run verdict_of
printed_in_zones = refl

-- a row without elements is an empty line, and nothing without a separator
without_elements : shows ((10, codes "DIM A%(2%,0%),B%(0%)") ∷ (20, codes "MAT PRINT A%; : MAT PRINT A% : MAT PRINT B%;") ∷ []) []
    ≡ codes "\r\n\r\n"
unfolding digits fault_text repeated_product place_of value_read item_read keywords signs letter_front digit_front quote_front sign_front front_of items_from tokens_from run verdict_of
without_elements = refl

-- what was stored stays
out_of_data : shows ((5, codes "ON ERROR GOTO 60") ∷ (10, codes "DIM A%(2%,2%)") ∷ (20, codes "MAT READ A%") ∷ (50, codes "DATA 1,2") ∷ (60, codes "PRINT ERR : MAT PRINT A%;") ∷ []) []
    ≡ codes " 57 \r\n 1  2 \r\n 0  0 \r\n"
unfolding digits fault_text repeated_product place_of value_read item_read keywords signs letter_front digit_front quote_front sign_front front_of items_from tokens_from run verdict_of
out_of_data = refl

-- an array that was not made gets two subscripts to 10
not_made : shows ((10, codes "MAT A%=IDN") ∷ (20, codes "PRINT A%(10%,10%);A%(9%,10%)") ∷ []) []
    ≡ codes " 1  0 \r\n"
unfolding digits fault_text repeated_product place_of value_read item_read keywords signs letter_front digit_front quote_front sign_front front_of items_from tokens_from run verdict_of
not_made = refl

-- an array in a file, alone and among others; its elements may be in a factor
virtual_target : refusal_of (program_read ((10, codes "DIM #1%,A%(2%,2%)") ∷ (20, codes "MAT A%=ZER") ∷ [])) ≡ Some (record { line = 20; cause = MatFile })
unfolding keywords signs letter_front digit_front quote_front sign_front front_of items_from tokens_from run verdict_of
virtual_target = refl

virtual_operand : refusal_of (program_read ((10, codes "DIM #1%,A%(2%,2%)") ∷ (20, codes "IF B% THEN MAT B%=B%+A%") ∷ [])) ≡ Some (record { line = 20; cause = MatFile })
unfolding keywords signs letter_front digit_front quote_front sign_front front_of items_from tokens_from run verdict_of
virtual_operand = refl

virtual_factor : refusal_of (program_read ((10, codes "DIM #1%,A%(2%,2%)") ∷ (20, codes "MAT B%=(A%(1%,1%))*B%") ∷ [])) ≡ None
unfolding keywords signs letter_front digit_front quote_front sign_front front_of items_from tokens_from run verdict_of
virtual_factor = refl

taken_now : refusal_now (statements_read (codes "MAT A%=ZER")) ≡ None
unfolding keywords signs letter_front digit_front quote_front sign_front front_of items_from tokens_from run verdict_of
taken_now = refl
