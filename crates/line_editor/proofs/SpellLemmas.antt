-- What spells a line does not begin with a digit.
use Rattle.std.proofs.Common.{◌≡◌, ℕ, Bool, true, false, cond, List, ◌∷◌, Ok, Err, refl, sym, subst, ◌∙◌, arith}
use Rattle.std.specs.Char.{is_ascii_alphabetic, is_ascii_digit}
use Rattle.std.specs.Int.{IsInRange}
use Rattle.std.proofs.lemmas.Bool.Decides.{nat_tests}
use Rattle.basic_tree.specs.LineVerdicts.{Verdict, HasTree, RefusedFor, Spells}
use Rattle.grammar_machine.specs.MachineJudge.{verdict_of, reading_verdict, judge_of}
use Rattle.grammar_machine.specs.MachineRun.{run}
use Rattle.basic_tree.specs.SpellingWords.{Word, Number, words_of}
use Rattle.basic_tree.specs.Tokens.{Reading, is_blank, digit_front, front_of, read_on, tokens_from}
use Rattle.basic_tree.specs.Trees.{LineTree}
use Rattle.basic_tree.specs.declared.tokens.Cause.{Cause}
use Rattle.basic_tree.specs.declared.tokens.Cause.TheVariants as cause
use Rattle.basic_tree.specs.declared.tokens.Front.{Front}
use Rattle.basic_tree.specs.declared.tokens.Front.TheVariants as front
use Rattle.basic_tree.specs.declared.tokens.TokenKind.TheVariants as kind
use Rattle.grammar_machine.proofs.Judged.{judge_of_judges}
use Rattle.grammar_machine.proofs.OneAnswer.{one_verdict_lem}
use Rattle.line_editor.proofs.DigitLemmas.{digit_range}

-- no line begins with a number
number_first : (n : ℕ) (ws : List Word) → verdict_of (Number n ∷ ws) ≡ RefusedFor cause.Syntax
unfolding verdict_of run
number_first n ws = refl

no_blank : (byte : ℕ) → IsInRange 48 57 byte → is_blank byte ≡ false
no_blank byte r = grind (arith, nat_tests)

no_letter : (byte : ℕ) → IsInRange 48 57 byte → is_ascii_alphabetic byte ≡ false
no_letter byte r = grind (arith, nat_tests)

digit_first : (byte : ℕ) (bytes : List ℕ) → is_ascii_digit byte ≡ true → front_of (byte ∷ bytes) ≡ digit_front (byte ∷ bytes)
unfolding front_of
digit_first byte bytes is = rw (no_blank byte (digit_range byte is), no_letter byte (digit_range byte is), is) refl

-- a literal, or none
data Begins : Front → Type 0 where
  Literal : (len : ℕ) → Begins (front.Token kind.Literal len)
  Bad : (why : Cause) → Begins (front.Refused why)

either : (a b : Bool) (len : ℕ) → Begins (cond a (front.Refused cause.FloatingLiteral) (cond b (front.Refused cause.NumberTooWide) (front.Token kind.Literal len)))
either true b len = Bad cause.FloatingLiteral
either false true len = Bad cause.NumberTooWide
either false false len = Literal len

digits_begin : (rest : List ℕ) → Begins (digit_front rest)
unfolding digit_front
digits_begin rest = either _ _ _

-- so the line is rejected for some cause
abbrev IsRefused : Verdict → Type 0
IsRefused verdict = (why : Cause) × (verdict ≡ RefusedFor why)

literal_read : (place len : ℕ) (bytes : List ℕ) (later : Reading) → IsRefused (reading_verdict (read_on place bytes (front.Token kind.Literal len) later))
literal_read place len bytes (Ok tokens) = (cause.Syntax, number_first _ (words_of tokens))
literal_read place len bytes (Err refusal) = (refusal.cause, refl)

front_read : (place : ℕ) (bytes : List ℕ) (f : Front) (later : Reading) → Begins f → IsRefused (reading_verdict (read_on place bytes f later))
front_read place bytes f later (Literal len) = literal_read place len bytes later
front_read place bytes f later (Bad why) = (why, refl)

digit_refused : (byte : ℕ) (bytes : List ℕ) → is_ascii_digit byte ≡ true → IsRefused (judge_of (byte ∷ bytes))
unfolding tokens_from
digit_refused byte bytes is =
    front_read 0 (byte ∷ bytes) (front_of (byte ∷ bytes)) _ (subst (λ (f : Front). Begins f) (sym (digit_first byte bytes is)) (digits_begin (byte ∷ bytes)))

pub no_digit_first : (byte : ℕ) (bytes : List ℕ) (l : LineTree) → is_ascii_digit byte ≡ true → Spells (byte ∷ bytes) l → ⊥
no_digit_first byte bytes l is spells =
    let refused = digit_refused byte bytes is in
    let same : HasTree l ≡ judge_of (byte ∷ bytes) = one_verdict_lem (byte ∷ bytes) (HasTree l) (judge_of (byte ∷ bytes)) spells (judge_of_judges (byte ∷ bytes)) in
    let never : HasTree l ≡ RefusedFor refused.0 = same ∙ refused.1 in
    cc
