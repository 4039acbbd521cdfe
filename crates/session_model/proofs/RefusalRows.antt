-- Programs that are rejected, from their bytes: each cause at its line, the first of two on a line,
-- and the first line.
use Rattle.std.proofs.Common.{◌≡◌, ℕ, List, [], ◌∷◌, Option, Some, None, refl}
use Rattle.std.specs.Prelude.{codes}
use Rattle.basic_tree.specs.Words.{keywords, signs}
use Rattle.basic_tree.specs.Tokens.{letter_front, digit_front, quote_front, sign_front, front_of, items_from, tokens_from}
use Rattle.grammar_machine.specs.MachineRun.{run}
use Rattle.grammar_machine.specs.MachineJudge.{verdict_of}
use Rattle.program_model.specs.declared.refusals.LowerCause.{LowerCause}
use Rattle.program_model.specs.declared.refusals.LowerCause.TheVariants.{NoLine, OpenFor, StrayNext, OpenDef, StrayFnend, DoubleDef, AcrossBody, NoFunction, Arguments, DoubleDim, StrayResult, Immediate}
use Rattle.program_model.specs.declared.refusals.LowerRefusal.{LowerRefusal}
use Rattle.program_model.specs.Soundness.{refusal_of, refusal_now}
use Rattle.session_model.proofs.ProgramRows.{statements_read, program_read}

abbrev refusal : List (ℕ × List ℕ) → Option LowerRefusal
refusal lines = refusal_of (program_read lines)

abbrev at : ℕ → LowerCause → Option LowerRefusal
at line cause = Some (record { line = line; cause = cause })

no_line : refusal ((10, codes "GOTO 20") ∷ []) ≡ at 10 NoLine
unfolding keywords signs letter_front digit_front quote_front sign_front front_of items_from tokens_from run verdict_of
no_line = refl

no_line_in_a_list : refusal ((10, codes "ON I% GOTO 10,20 IF I%") ∷ []) ≡ at 10 NoLine
unfolding keywords signs letter_front digit_front quote_front sign_front front_of items_from tokens_from run verdict_of
no_line_in_a_list = refl

no_line_of_an_else : refusal ((10, codes "IF I% THEN 10 ELSE 30") ∷ []) ≡ at 10 NoLine
unfolding keywords signs letter_front digit_front quote_front sign_front front_of items_from tokens_from run verdict_of
no_line_of_an_else = refl

line_0_is_none : refusal ((10, codes "ON ERROR GOTO 0 : ON ERROR GOTO : RESUME 0 : RESUME") ∷ []) ≡ None
unfolding keywords signs letter_front digit_front quote_front sign_front front_of items_from tokens_from run verdict_of
line_0_is_none = refl

open_for : refusal ((10, codes "FOR I%=1% TO 2%") ∷ (20, codes "FOR J%=1% TO 2%") ∷ (30, codes "NEXT J%") ∷ []) ≡ at 10 OpenFor
unfolding keywords signs letter_front digit_front quote_front sign_front front_of items_from tokens_from run verdict_of
open_for = refl

stray_next : refusal ((10, codes "NEXT I%") ∷ []) ≡ at 10 StrayNext
unfolding keywords signs letter_front digit_front quote_front sign_front front_of items_from tokens_from run verdict_of
stray_next = refl

-- the NEXT names another variable than the innermost open FOR, and closes none
next_of_an_outer_for : refusal ((10, codes "FOR I%=1% TO 2%") ∷ (20, codes "FOR J%=1% TO 2%") ∷ (30, codes "NEXT I% : NEXT J%") ∷ []) ≡ at 10 OpenFor
unfolding keywords signs letter_front digit_front quote_front sign_front front_of items_from tokens_from run verdict_of
next_of_an_outer_for = refl

-- the FOR outside is closed by the NEXT outside
next_of_another_body : refusal ((10, codes "FOR I%=1% TO 2%") ∷ (20, codes "DEF FNA%(X%)") ∷ (30, codes "NEXT I%") ∷ (40, codes "FNEND") ∷ (50, codes "NEXT I%") ∷ []) ≡ at 30 StrayNext
unfolding keywords signs letter_front digit_front quote_front sign_front front_of items_from tokens_from run verdict_of
next_of_another_body = refl

open_def : refusal ((10, codes "DEF FNA%(X%)") ∷ []) ≡ at 10 OpenDef
unfolding keywords signs letter_front digit_front quote_front sign_front front_of items_from tokens_from run verdict_of
open_def = refl

def_in_a_body : refusal ((10, codes "DEF FNA%(X%)") ∷ (20, codes "DEF FNB%(X%)=X%") ∷ (30, codes "FNEND") ∷ []) ≡ at 20 OpenDef
unfolding keywords signs letter_front digit_front quote_front sign_front front_of items_from tokens_from run verdict_of
def_in_a_body = refl

def_that_takes_the_next_fnend : refusal ((10, codes "DEF FNA%(X%)") ∷ (20, codes "DEF FNB%(X%)") ∷ (30, codes "FNEND") ∷ []) ≡ at 20 OpenDef
unfolding keywords signs letter_front digit_front quote_front sign_front front_of items_from tokens_from run verdict_of
def_that_takes_the_next_fnend = refl

stray_fnend : refusal ((10, codes "DEF FNA%(X%)=X%") ∷ (20, codes "FNEND") ∷ []) ≡ at 20 StrayFnend
unfolding keywords signs letter_front digit_front quote_front sign_front front_of items_from tokens_from run verdict_of
stray_fnend = refl

double_def : refusal ((10, codes "DEF FNA%(X%)=X%") ∷ (20, codes "DEF FNA%=1%") ∷ []) ≡ at 20 DoubleDef
unfolding keywords signs letter_front digit_front quote_front sign_front front_of items_from tokens_from run verdict_of
double_def = refl

out_of_a_body : refusal ((10, codes "DEF FNA%(X%)") ∷ (20, codes "GOTO 40") ∷ (30, codes "FNEND") ∷ (40, codes "END") ∷ []) ≡ at 20 AcrossBody
unfolding keywords signs letter_front digit_front quote_front sign_front front_of items_from tokens_from run verdict_of
out_of_a_body = refl

-- the FNEND is in the body
into_a_body : refusal ((10, codes "GOTO 30") ∷ (20, codes "DEF FNA%(X%)") ∷ (30, codes "FNEND") ∷ []) ≡ at 10 AcrossBody
unfolding keywords signs letter_front digit_front quote_front sign_front front_of items_from tokens_from run verdict_of
into_a_body = refl

-- the DEF is outside
to_the_def_itself : refusal ((10, codes "GOTO 20") ∷ (20, codes "DEF FNA%(X%)") ∷ (30, codes "FNEND") ∷ []) ≡ None
unfolding keywords signs letter_front digit_front quote_front sign_front front_of items_from tokens_from run verdict_of
to_the_def_itself = refl

within_a_body : refusal ((10, codes "DEF FNA%(X%)") ∷ (20, codes "GOTO 30") ∷ (30, codes "FNEND") ∷ []) ≡ None
unfolding keywords signs letter_front digit_front quote_front sign_front front_of items_from tokens_from run verdict_of
within_a_body = refl

-- a line without statements means the next one
through_an_empty_line : refusal ((10, codes "GOTO 15") ∷ (15, codes "") ∷ (20, codes "DEF FNA%(X%) : FNA%=1%") ∷ (30, codes "FNEND") ∷ []) ≡ None
unfolding keywords signs letter_front digit_front quote_front sign_front front_of items_from tokens_from run verdict_of
through_an_empty_line = refl

error_trap_in_a_body : refusal ((10, codes "DEF FNA%(X%)") ∷ (20, codes "ON ERROR GOTO 0") ∷ (30, codes "FNEND") ∷ []) ≡ at 20 AcrossBody
unfolding keywords signs letter_front digit_front quote_front sign_front front_of items_from tokens_from run verdict_of
error_trap_in_a_body = refl

resume_in_a_body : refusal ((10, codes "DEF FNA%(X%)") ∷ (20, codes "RESUME") ∷ (30, codes "FNEND") ∷ []) ≡ at 20 AcrossBody
unfolding keywords signs letter_front digit_front quote_front sign_front front_of items_from tokens_from run verdict_of
resume_in_a_body = refl

no_function : refusal ((10, codes "PRINT FNA%(1%)") ∷ []) ≡ at 10 NoFunction
unfolding keywords signs letter_front digit_front quote_front sign_front front_of items_from tokens_from run verdict_of
no_function = refl

too_few_arguments : refusal ((10, codes "DEF FNA%(X%,Y%)=X%") ∷ (20, codes "A%(FNA%(1%))=1%") ∷ []) ≡ at 20 Arguments
unfolding keywords signs letter_front digit_front quote_front sign_front front_of items_from tokens_from run verdict_of
too_few_arguments = refl

no_parameters : refusal ((10, codes "DEF FNA%=1%") ∷ (20, codes "I%=FNA% UNTIL FNA%(1%)") ∷ []) ≡ at 20 Arguments
unfolding keywords signs letter_front digit_front quote_front sign_front front_of items_from tokens_from run verdict_of
no_parameters = refl

text_for_a_number : refusal ((10, codes "DEF FNA%(X%)=X%") ∷ (20, codes "PRINT FNA%(A$)") ∷ []) ≡ at 20 Arguments
unfolding keywords signs letter_front digit_front quote_front sign_front front_of items_from tokens_from run verdict_of
text_for_a_number = refl

number_for_a_text : refusal ((10, codes "DEF FNA$(X$)=X$") ∷ (20, codes "PRINT FNA$(1%)") ∷ []) ≡ at 20 Arguments
unfolding keywords signs letter_front digit_front quote_front sign_front front_of items_from tokens_from run verdict_of
number_for_a_text = refl

-- both kinds are there, each in the other's place
kinds_the_other_way_round : refusal ((10, codes "DEF FNA%(X%,Y$)=X%") ∷ (20, codes "PRINT FNA%(A$,1%)") ∷ []) ≡ at 20 Arguments
unfolding keywords signs letter_front digit_front quote_front sign_front front_of items_from tokens_from run verdict_of
kinds_the_other_way_round = refl

later_argument_of_the_wrong_kind : refusal ((10, codes "DEF FNA%(X%,Y$)=X%") ∷ (20, codes "PRINT FNA%(1%,'T')") ∷ (30, codes "PRINT FNA%(1%,2%)") ∷ []) ≡ at 30 Arguments
unfolding keywords signs letter_front digit_front quote_front sign_front front_of items_from tokens_from run verdict_of
later_argument_of_the_wrong_kind = refl

-- the outer call fits, and the one inside does not
wrong_kind_in_an_argument : refusal ((10, codes "DEF FNA%(X$)=1%") ∷ (20, codes "DEF FNB%(X%)=X%") ∷ (30, codes "PRINT FNB%(FNA%(1%))") ∷ []) ≡ at 30 Arguments
unfolding keywords signs letter_front digit_front quote_front sign_front front_of items_from tokens_from run verdict_of
wrong_kind_in_an_argument = refl

-- a call has the kind of its function
kind_of_a_call : refusal ((10, codes "DEF FNA$(X%)='T'") ∷ (20, codes "DEF FNB%(X%)=X%") ∷ (30, codes "PRINT FNB%(FNA$(1%))") ∷ []) ≡ at 30 Arguments
unfolding keywords signs letter_front digit_front quote_front sign_front front_of items_from tokens_from run verdict_of
kind_of_a_call = refl

-- the calls fit: what is reported is a later cause of their line
right_kinds : refusal ((10, codes "DEF FNA$(X%,Y$)=Y$") ∷ (20, codes "DEF FNB%(X%)=X%") ∷ (30, codes "PRINT FNB%(FNA$(A%,B$)<'T'),FNA$(FNB%(1%),FNA$(2%,A$(3%)+'T')) : FNC%=1%") ∷ []) ≡ at 30 StrayResult
unfolding keywords signs letter_front digit_front quote_front sign_front front_of items_from tokens_from run verdict_of
right_kinds = refl

text_in_parentheses : refusal ((10, codes "DEF FNA%(X%)=X%") ∷ (20, codes "PRINT FNA%((A$(1%)))") ∷ []) ≡ at 20 Arguments
unfolding keywords signs letter_front digit_front quote_front sign_front front_of items_from tokens_from run verdict_of
text_in_parentheses = refl

double_dim : refusal ((10, codes "DIM A%(1%),A$(1%)") ∷ (20, codes "DIM B%(1%),A%(1%,2%)") ∷ []) ≡ at 20 DoubleDim
unfolding keywords signs letter_front digit_front quote_front sign_front front_of items_from tokens_from run verdict_of
double_dim = refl

double_dim_in_one_line : refusal ((10, codes "DIM A%(1%),A%(2%)") ∷ []) ≡ at 10 DoubleDim
unfolding keywords signs letter_front digit_front quote_front sign_front front_of items_from tokens_from run verdict_of
double_dim_in_one_line = refl

stray_result : refusal ((10, codes "FNA%=1%") ∷ (20, codes "DEF FNA%(X%)=X%") ∷ []) ≡ at 10 StrayResult
unfolding keywords signs letter_front digit_front quote_front sign_front front_of items_from tokens_from run verdict_of
stray_result = refl

result_of_another : refusal ((10, codes "DEF FNA%(X%)") ∷ (20, codes "FNB%=1%") ∷ (30, codes "FNEND") ∷ (40, codes "DEF FNB%=1%") ∷ []) ≡ at 20 StrayResult
unfolding keywords signs letter_front digit_front quote_front sign_front front_of items_from tokens_from run verdict_of
result_of_another = refl

-- the first cause is reported, wherever it is in the line
two_causes_of_a_line : refusal ((10, codes "FNEND : NEXT I% : GOTO 20") ∷ []) ≡ at 10 NoLine
unfolding keywords signs letter_front digit_front quote_front sign_front front_of items_from tokens_from run verdict_of
two_causes_of_a_line = refl

-- the first line is reported, whatever the causes are
causes_of_two_lines : refusal ((10, codes "FNEND") ∷ (20, codes "GOTO 30") ∷ []) ≡ at 10 StrayFnend
unfolding keywords signs letter_front digit_front quote_front sign_front front_of items_from tokens_from run verdict_of
causes_of_two_lines = refl

immediate_reference : refusal_now (statements_read (codes "GOTO 10")) ≡ at 0 Immediate
unfolding keywords signs letter_front digit_front quote_front sign_front front_of items_from tokens_from run verdict_of
immediate_reference = refl

immediate_clause : refusal_now (statements_read (codes "IF 1% THEN 10")) ≡ at 0 Immediate
unfolding keywords signs letter_front digit_front quote_front sign_front front_of items_from tokens_from run verdict_of
immediate_clause = refl

immediate_for : refusal_now (statements_read (codes "FOR I%=1% TO 2%")) ≡ at 0 Immediate
unfolding keywords signs letter_front digit_front quote_front sign_front front_of items_from tokens_from run verdict_of
immediate_for = refl

-- a FOR as a modifier may be there
immediate_modifier : refusal_now (statements_read (codes "PRINT I% FOR I%=1% TO 2%")) ≡ None
unfolding keywords signs letter_front digit_front quote_front sign_front front_of items_from tokens_from run verdict_of
immediate_modifier = refl

immediate_call : refusal_now (statements_read (codes "PRINT FNA%(1%)")) ≡ at 0 Immediate
unfolding keywords signs letter_front digit_front quote_front sign_front front_of items_from tokens_from run verdict_of
immediate_call = refl

immediate_stop : refusal_now (statements_read (codes "STOP IF 0%")) ≡ at 0 Immediate
unfolding keywords signs letter_front digit_front quote_front sign_front front_of items_from tokens_from run verdict_of
immediate_stop = refl

immediate_trap : refusal_now (statements_read (codes "ON ERROR GOTO 0")) ≡ at 0 Immediate
unfolding keywords signs letter_front digit_front quote_front sign_front front_of items_from tokens_from run verdict_of
immediate_trap = refl

immediate_read : refusal_now (statements_read (codes "READ A% : RESTORE")) ≡ None
unfolding keywords signs letter_front digit_front quote_front sign_front front_of items_from tokens_from run verdict_of
immediate_read = refl
