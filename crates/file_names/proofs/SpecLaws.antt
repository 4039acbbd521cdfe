-- The laws of specifications, and what is read of the prefix of a text.
use Rattle.std.proofs.Common.{◌≡◌, ℕ, ◌<◌, ◌≤◌, Bool, true, false, List, [], ◌∷◌, ◌++◌, length, take, Option, Some, None, Ok, Err, refl, sym, ap, subst, ◌∙◌, arith}
use Rattle.std.specs.Prelude.{◌&&◌, ◌||◌, nat_le, unwrap_or, codes}
use Rattle.std.specs.List.{list_all}
use Rattle.std.specs.Char.{to_ascii_uppercase, is_ascii_uppercase, is_ascii_digit}
use Rattle.std.specs.Int.{IsInRange}
use Rattle.std.specs.Fmt.{decimal}
use Rattle.std.specs.Str.Parse.{AllDigits}
use Rattle.std.proofs.lemmas.Bool.{leb-true, lt-ltb, ne_eqb}
use Rattle.std.proofs.lemmas.Fmt.{decimal_is_IsNumeral}
use Rattle.std.proofs.lemmas.List.{append-nil, take_all}
use Rattle.std.proofs.lemmas.Str.Parse.{digit_from_value}
use Rattle.basic_values.specs.Blanks.{is_blank}
use Rattle.monitor_calls.specs.declared.names.Account.{Account}
use Rattle.monitor_calls.specs.Names.{is_capital_or_digit}
use Rattle.monitor_calls.specs.NameTexts.{account_text, extension_text, name_text}
use Rattle.basic_values.proofs.CutLaws.{and_left, and_right}
use Rattle.file_names.specs.declared.spec.Spec.{Spec}
use Rattle.file_names.specs.Names.{Bracketed, Written, extension_written, IsPlace, IsExtension, is_extension, IsSpecOf, squeezed, refusal_of}
use Rattle.file_names.specs.Laws.{SpecIsOne, PrintedIsRead, SpecsAreRead}
use Rattle.file_names.specs.SpecFronts.{spec_in, spec_or, spec_said}
use Rattle.file_names.proofs.ReadingLaws.{spec_takes}
use Rattle.file_names.proofs.FrontLemmas.{written_short, short_front}
use Rattle.file_names.proofs.WritingLaws.{spec_again, kind_of}

spelled_is_read : (own : Account) (default text : List ℕ) (spec : Spec) → IsSpecOf own default text spec → spec_in own default (squeezed text) ≡ Some spec
spelled_is_read own default text spec s =
    ap (spec_in own default) (sym s.says) ∙ spec_again own default s.written s.proper ∙ ap Some s.means

pub spec_is_one : SpecIsOne
spec_is_one own default text a b x y =
    let e : Some a ≡ Some b = sym (spelled_is_read own default text a x) ∙ spelled_is_read own default text b y in
    cc

-- ---- what is read of a text

spelled_by : (own : Account) (default text : List ℕ) (spec : Spec) → spec_in own default (squeezed text) ≡ Some spec → IsSpecOf own default text spec
spelled_by own default text spec e =
    let t = spec_takes own default (squeezed text) spec e in
    record { written = t.written; proper = t.proper; says = t.says; means = t.means }

spelled_if : (own : Account) (default text : List ℕ) (spec : Spec) (o : Option Spec) → spec_in own default (squeezed text) ≡ o → spec_or (refusal_of text) o ≡ Ok spec → IsSpecOf own default text spec
spelled_if own default text spec None e f = absurd (cc)
spelled_if own default text spec (Some other) e f = let is : other ≡ spec = cc in spelled_by own default text spec (e ∙ ap Some is)

refused_if : (own : Account) (default text : List ℕ) (o : Option Spec) → spec_in own default (squeezed text) ≡ o → ((spec : Spec) → IsSpecOf own default text spec → ⊥) → spec_or (refusal_of text) o ≡ Err (refusal_of text)
refused_if own default text None e nay = refl
refused_if own default text (Some spec) e nay = absurd (nay spec (spelled_by own default text spec e))

pub specs_are_read : SpecsAreRead
specs_are_read own default text = record {
  read = λ spec s. ap (spec_or (refusal_of text)) (spelled_is_read own default text spec s);
  spelled = λ spec e. spelled_if own default text spec (spec_in own default (squeezed text)) refl e;
  refused = refused_if own default text (spec_in own default (squeezed text)) refl;
}

-- ---- what stays the same when blanks are dropped and letters become capitals

abbrev IsPlain : ℕ → Type 0
IsPlain byte = (is_blank byte ≡ false) × (to_ascii_uppercase byte ≡ byte)

abbrev AllPlain : List ℕ → Type 0
AllPlain [] = Unit {0}
AllPlain (byte ∷ text) = IsPlain byte × AllPlain text

plain_low : (byte : ℕ) → 32 < byte → byte < 97 → IsPlain byte
plain_low byte low high =
    (rw (ne_eqb byte 32 (λ e. omega arith), ne_eqb byte 9 (λ e. omega arith)) refl, rw (lt-ltb byte 97 high) refl)

plain_both : (xs ys : List ℕ) → AllPlain xs → AllPlain ys → AllPlain (xs ++ ys)
plain_both [] ys l r = r
plain_both (x ∷ xs) ys l r = (l.0, plain_both xs ys l.1 r)

squeezed_plain : (text : List ℕ) → AllPlain text → squeezed text ≡ text
squeezed_plain [] all = refl
squeezed_plain (byte ∷ text) all = rw (all.0.0, all.0.1, squeezed_plain text all.1) refl

digits_plain : (ds : List ℕ) → AllDigits 10 ds → AllPlain ds
digits_plain [] all = tt
digits_plain (d ∷ ds) all =
    let range : IsInRange 48 57 d = digit_from_value d all.0 in
    (plain_low d (omega arith) (omega arith), digits_plain ds all.1)

decimal_plain : (n : ℕ) → n < 256 → AllPlain (decimal n)
decimal_plain n small = digits_plain (decimal n) (decimal_is_IsNumeral n (omega arith)).0.1

in_range : (low high byte : ℕ) → (nat_le low byte && nat_le byte high) ≡ true → (low ≤ byte) × (byte ≤ high)
in_range low high byte e = (leb-true low byte (and_left (nat_le low byte) (nat_le byte high) e), leb-true byte high (and_right (nat_le low byte) (nat_le byte high) e))

capital_plain_if : (byte : ℕ) (u d : Bool) → is_ascii_uppercase byte ≡ u → is_ascii_digit byte ≡ d → (u || d) ≡ true → IsPlain byte
capital_plain_if byte true d eu ed e = let r = in_range 65 90 byte eu in plain_low byte (omega arith) (omega arith)
capital_plain_if byte false true eu ed e = let r = in_range 48 57 byte ed in plain_low byte (omega arith) (omega arith)
capital_plain_if byte false false eu ed e = absurd cc

capitals_plain : (text : List ℕ) → list_all is_capital_or_digit text ≡ true → AllPlain text
capitals_plain [] all = tt
capitals_plain (byte ∷ text) all = (
  capital_plain_if byte (is_ascii_uppercase byte) (is_ascii_digit byte) refl refl (and_left (is_capital_or_digit byte) (list_all is_capital_or_digit text) all),
  capitals_plain text (and_right (is_capital_or_digit byte) (list_all is_capital_or_digit text) all),
)

mark : (byte : ℕ) → 32 < byte → byte < 97 → AllPlain (byte ∷ [])
mark byte low high = (plain_low byte low high, tt)

account_plain : (a : Account) → IsPlace (Bracketed a) → AllPlain (account_text a)
account_plain a good =
    plain_both (codes "[" ++ decimal a.project ++ codes "," ++ decimal a.programmer) (codes "]")
    (plain_both (codes "[" ++ decimal a.project ++ codes ",") (decimal a.programmer)
    (plain_both (codes "[" ++ decimal a.project) (codes ",") (plain_both (codes "[") (decimal a.project) (mark 91 (omega arith) (omega arith)) (decimal_plain a.project (omega arith))) (mark 44 (omega arith) (omega arith)))
    (decimal_plain a.programmer (omega arith))) (mark 93 (omega arith) (omega arith))

extension_plain : (text : List ℕ) → is_extension text ≡ true → AllPlain (extension_text text)
extension_plain [] good = tt
extension_plain (byte ∷ text) good =
    (plain_low 46 (omega arith) (omega arith), capitals_plain (byte ∷ text) (kind_of is_capital_or_digit 0 3 (byte ∷ text) good))

-- ---- what is printed

abbrev told : List ℕ → Option (List ℕ)
told [] = None
told (byte ∷ text) = Some (byte ∷ text)

told_text : (text : List ℕ) → extension_written (told text) ≡ extension_text text
told_text [] = refl
told_text (byte ∷ text) = refl

told_good : (text : List ℕ) → is_extension text ≡ true → IsExtension (told text)
told_good [] good = tt
told_good (byte ∷ text) good = good

told_or : (text default : List ℕ) → (text ≡ [] → default ≡ []) → unwrap_or (told text) default ≡ text
told_or [] default none = none refl
told_or (byte ∷ text) default none = refl

pub printed_is_read : PrintedIsRead
printed_is_read own default name good none =
    let w : Written = record { device = false; place = Bracketed name.owner; stem = name.stem; extension = told name.extension; code = None } in
    let place : IsPlace (Bracketed name.owner) = (good.least, good.project, good.programmer) in
    let plain : AllPlain (name_text name) =
    plain_both (account_text name.owner ++ name.stem) (extension_text name.extension)
    (plain_both (account_text name.owner) name.stem (account_plain name.owner place) (capitals_plain name.stem (kind_of is_capital_or_digit 1 6 name.stem good.stem)))
    (extension_plain name.extension good.extension) in
    record {
      written = w;
      proper = record { place = place; stem = good.stem; extension = told_good name.extension good.extension; code = tt };
      says = append-nil (account_text name.owner ++ name.stem ++ extension_written (told name.extension))
          ∙ ap (λ t. account_text name.owner ++ name.stem ++ t) (told_text name.extension) ∙ sym (squeezed_plain (name_text name) plain);
      means = λ i. record { name = record { owner = name.owner; stem = name.stem; extension = told_or name.extension default none i }; code = None };
    }

-- ---- what is read of the prefix is what the text spells

pub front_spells : (own : Account) (default text : List ℕ) (spec : Spec) → spec_in own default (take 32 (squeezed text)) ≡ Some spec → IsSpecOf own default text spec
front_spells own default text spec e =
    let t = spec_takes own default (take 32 (squeezed text)) spec e in
    let few : length (take 32 (squeezed text)) ≤ 27 = subst (λ (s : List ℕ). length s ≤ 27) t.says (written_short t.written t.proper) in
    record {
      written = t.written;
      proper = t.proper;
      says = t.says ∙ short_front 32 (squeezed text) (omega arith);
      means = t.means;
    }

pub front_refuses : (own : Account) (default text : List ℕ) → spec_in own default (take 32 (squeezed text)) ≡ None → (spec : Spec) → IsSpecOf own default text spec → ⊥
front_refuses own default text e spec s =
    let few : length (squeezed text) ≤ 27 = subst (λ (t : List ℕ). length t ≤ 27) s.says (written_short s.written s.proper) in
    let whole : take 32 (squeezed text) ≡ squeezed text = take_all 32 (squeezed text) (omega arith) in
    let bad : Some spec ≡ None = sym (spelled_is_read own default text spec s) ∙ ap (spec_in own default) (sym whole) ∙ e in
    absurd cc

-- the answer for the prefix is the answer for the text
pub said_by_front : (own : Account) (default text : List ℕ) (spec : Spec) → spec_in own default (take 32 (squeezed text)) ≡ Some spec → Ok spec ≡ spec_said own default text
said_by_front own default text spec e = sym ((specs_are_read own default text).read spec (front_spells own default text spec e))

pub unsaid_by_front : (own : Account) (default text : List ℕ) → spec_in own default (take 32 (squeezed text)) ≡ None → Err (refusal_of text) ≡ spec_said own default text
unsaid_by_front own default text e = sym ((specs_are_read own default text).refused (front_refuses own default text e))
