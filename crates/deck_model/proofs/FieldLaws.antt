-- The fields of a line: they are found in it, and a line is made of them again.
use Rattle.std.proofs.Common.{◌≡◌, ℕ, ◌^◌, ◌<◌, ◌≤◌, Bool, true, false, eqb, List, [], ◌∷◌, ◌++◌, length, get_or, Option, Some, None, refl, sym, ap, subst, ◌∙◌, append_assoc, arith, ◌⊎◌, inl, ⊎_elim}
use Rattle.std.specs.Prelude.{◌&&◌, ◌||◌, not, nat_le, unwrap_or, codes}
use Rattle.std.specs.List.{list_all}
use Rattle.std.specs.Char.{is_ascii_digit}
use Rattle.std.specs.Fmt.{decimal}
use Rattle.std.specs.Int.{IsInRange}
use Rattle.std.specs.Str.Parse.{AllDigits}
use Rattle.std.proofs.lemmas.Bool.{ne_eqb, le-leb, cases_lt}
use Rattle.std.proofs.lemmas.Fmt.{decimal_is_IsNumeral, first_decimal, decimal_digit}
use Rattle.std.proofs.lemmas.List.{append-nil}
use Rattle.std.proofs.lemmas.Str.Parse.{digit_from_value}
use Rattle.deck_model.specs.declared.versions.Version.{Version}
use Rattle.deck_model.specs.declared.versions.Version.TheVariants.{One, Two, Three}
use Rattle.deck_model.specs.Forms.{AccountTexts, FileTexts, quota_text, account_text, extension_text, file_text, is_numeral, is_file_letter, is_file_word}
use Rattle.deck_model.specs.Fronts.{MayTell}
use Rattle.basic_values.specs.Cuts.{◌>>=◌, behind, cut}
use Rattle.deck_model.specs.Reading.{limit_and_quota, limits_in, texts_in, stem_before, extension_behind, file_texts_in, are_file_texts}
use Rattle.basic_values.proofs.CutLaws.{bind_some, and_left, and_right, and_both, behind_takes, Lacks, lacks_both, cut_takes, cut_again, cut_nowhere}

-- ---- numerals and names

abbrev is_plain : List ℕ → Bool
is_plain text = list_all is_ascii_digit text

digits_are : (ds : List ℕ) → AllDigits 10 ds → is_plain ds ≡ true
digits_are [] all = refl
digits_are (d ∷ ds) all =
    let range : IsInRange 48 57 d = digit_from_value d all.0 in
    and_both (is_ascii_digit d) (is_plain ds) (and_both (nat_le 48 d) (nat_le d 57) (le-leb 48 d (omega arith)) (le-leb d 57 (omega arith))) (digits_are ds all.1)

-- digits are a numeral if the first is no zero, or the only one
numeral_from : (ds : List ℕ) → 0 < length ds → is_plain ds ≡ true → (48 < get_or ds 0 0) ⊎ (length ds ≡ 1) → is_numeral ds ≡ true
numeral_from [] some plain first = absurd (omega arith)
numeral_from (d ∷ ds) some plain first =
    ⊎_elim
    (λ (large : 48 < d).
    let no : eqb d 48 ≡ false = ne_eqb d 48 (λ e. omega arith) in
    rw (plain, no) refl)
    (λ (one : length (d ∷ ds) ≡ 1).
    let none : length ds ≡ 0 = omega arith in
    rw (plain, none) (either (eqb d 48)))
    first
  where
    either : (b : Bool) → (not b || true) ≡ true
    either true = refl
    either false = refl

pub decimal_numeral : (n : ℕ) → n < 2 ^ 32 → is_numeral (decimal n) ≡ true
decimal_numeral n small =
    let is = decimal_is_IsNumeral n (omega arith) in
    ⊎_elim
    (λ (more : 0 < n). numeral_from (decimal n) is.0.0 (digits_are (decimal n) is.0.1) (inl (first_decimal n more (omega arith))))
    (λ (zero_ : n ≤ 0).
    let none : n ≡ 0 = omega arith in
    let first : is_numeral (decimal 0) ≡ true = ap is_numeral (decimal_digit 0 (omega arith)) in
    subst (λ (k : ℕ). is_numeral (decimal k) ≡ true) (sym none) first)
    (cases_lt 0 n)

-- a text all of whose bytes pass a test lacks a byte that fails it
pub lacks_unlike : (test : ℕ → Bool) (byte : ℕ) → test byte ≡ false → (text : List ℕ) → list_all test text ≡ true → Lacks byte text
lacks_unlike test byte fails [] all = tt
lacks_unlike test byte fails (b ∷ text) all = (
  ne_eqb b byte (λ e. let bad : test byte ≡ true = subst (λ x. test x ≡ true) e (and_left (test b) (list_all test text) all) in absurd cc),
  lacks_unlike test byte fails text (and_right (test b) (list_all test text) all),
)

pub numeral_digits : (text : List ℕ) → is_numeral text ≡ true → is_plain text ≡ true
numeral_digits [] e = absurd (cc)
numeral_digits (d ∷ ds) e = and_left (is_plain (d ∷ ds)) (not (eqb d 48) || eqb (length ds) 0) e

pub numeral_lacks : (byte : ℕ) → is_ascii_digit byte ≡ false → (text : List ℕ) → is_numeral text ≡ true → Lacks byte text
numeral_lacks byte fails text e = lacks_unlike is_ascii_digit byte fails text (numeral_digits text e)

-- ---- the fields of an account

-- the limit, and the quota after it
abbrev pub limits_text : AccountTexts → List ℕ
limits_text t = t.limit ++ quota_text t.quota

abbrev pub plain_text : AccountTexts → List ℕ
plain_text t = codes "ACCOUNT " ++ (t.project ++ 44 ∷ (t.programmer ++ 32 ∷ (t.password ++ 32 ∷ limits_text t)))

pub text_is : (t : AccountTexts) → account_text t ≡ plain_text t
text_is t = simp append_assoc

pub some_is : {A : Type 0} (x y : A) → Some x ≡ Some y → x ≡ y
some_is x y e = cc

-- after the password come a limit and, in versions 2 and 3, a quota
both_take : (text : List ℕ) (parts : List ℕ × Option (List ℕ)) → limit_and_quota text ≡ Some parts → (quota : List ℕ) × (parts.1 ≡ Some quota) × (text ≡ parts.0 ++ quota_text parts.1)
both_take text parts e =
    let a = bind_some (cut 32 text) (λ p. Some (p.0, Some p.1)) parts e in
    subst (λ (p : List ℕ × Option (List ℕ)). (quota : List ℕ) × (p.1 ≡ Some quota) × (text ≡ p.0 ++ quota_text p.1)) (some_is (a.0.0, Some a.0.1) parts a.2) (a.0.1, refl, cut_takes 32 text a.0 a.1)

limits_take : (version : Version) (text : List ℕ) (parts : List ℕ × Option (List ℕ)) → limits_in version text ≡ Some parts → MayTell version parts.1 × (text ≡ parts.0 ++ quota_text parts.1)
limits_take One text parts e = subst (λ (p : List ℕ × Option (List ℕ)). MayTell One p.1 × (text ≡ p.0 ++ quota_text p.1)) (some_is (text, None) parts e) (tt, sym (append-nil text))
limits_take Two text parts e =
    let b = both_take text parts e in
    (subst (λ (q : Option (List ℕ)). MayTell Two q) (sym b.1) tt, b.2)
limits_take Three text parts e =
    let b = both_take text parts e in
    (subst (λ (q : Option (List ℕ)). MayTell Three q) (sym b.1) tt, b.2)

limits_again : (version : Version) (limit : List ℕ) (quota : Option (List ℕ)) → MayTell version quota → Lacks 32 limit → limits_in version (limit ++ quota_text quota) ≡ Some (limit, quota)
limits_again One limit None may lacks = ap (limits_in One) (append-nil limit)
limits_again Two limit (Some quota) may lacks = rw (cut_again 32 limit quota lacks) refl
limits_again Three limit (Some quota) may lacks = rw (cut_again 32 limit quota lacks) refl
limits_again One limit (Some quota) may lacks = absurd may
limits_again Two limit None may lacks = absurd may
limits_again Three limit None may lacks = absurd may

abbrev account_fields : List ℕ → List ℕ → List ℕ → List ℕ × Option (List ℕ) → AccountTexts
account_fields project programmer password limits =
    record { project = project; programmer = programmer; password = password; limit = limits.0; quota = limits.1 }

pub texts_take : (version : Version) (line : List ℕ) (t : AccountTexts) → texts_in version line ≡ Some t → MayTell version t.quota × (line ≡ account_text t)
unfolding texts_in
texts_take version line t e =
    let a = bind_some (behind (codes "ACCOUNT ") line) (λ fields. cut 44 fields >>= λ project. cut 32 project.1 >>= λ programmer. cut 32 programmer.1 >>= λ password. limits_in version password.1 >>= λ limits. Some (account_fields project.0 programmer.0 password.0 limits)) t e in
    let b = bind_some (cut 44 a.0) (λ project. cut 32 project.1 >>= λ programmer. cut 32 programmer.1 >>= λ password. limits_in version password.1 >>= λ limits. Some (account_fields project.0 programmer.0 password.0 limits)) t a.2 in
    let c = bind_some (cut 32 b.0.1) (λ programmer. cut 32 programmer.1 >>= λ password. limits_in version password.1 >>= λ limits. Some (account_fields b.0.0 programmer.0 password.0 limits)) t b.2 in
    let d = bind_some (cut 32 c.0.1) (λ password. limits_in version password.1 >>= λ limits. Some (account_fields b.0.0 c.0.0 password.0 limits)) t c.2 in
    let f = bind_some (limits_in version d.0.1) (λ limits. Some (account_fields b.0.0 c.0.0 d.0.0 limits)) t d.2 in
    let made : AccountTexts = account_fields b.0.0 c.0.0 d.0.0 f.0 in
    let limits = limits_take version d.0.1 f.0 f.1 in
    let rest : c.0.1 ≡ d.0.0 ++ 32 ∷ limits_text made = cut_takes 32 c.0.1 d.0 d.1 ∙ ap (λ t. d.0.0 ++ 32 ∷ t) limits.1 in
    let second : b.0.1 ≡ c.0.0 ++ 32 ∷ (d.0.0 ++ 32 ∷ limits_text made) = cut_takes 32 b.0.1 c.0 c.1 ∙ ap (λ t. c.0.0 ++ 32 ∷ t) rest in
    let first : a.0 ≡ b.0.0 ++ 44 ∷ (c.0.0 ++ 32 ∷ (d.0.0 ++ 32 ∷ limits_text made)) = cut_takes 44 a.0 b.0 b.1 ∙ ap (λ t. b.0.0 ++ 44 ∷ t) second in
    let line_is : line ≡ plain_text made = behind_takes (codes "ACCOUNT ") line a.0 a.1 ∙ ap (λ t. codes "ACCOUNT " ++ t) first in
    subst (λ (x : AccountTexts). MayTell version x.quota × (line ≡ account_text x)) (some_is made t f.2) (limits.0, line_is ∙ sym (text_is made))

-- no field has a byte at which the line is cut after it
pub record IsPlain (version : Version) (t : AccountTexts) : Type 0 where
  pub may : MayTell version t.quota
  pub project : Lacks 44 t.project
  pub programmer : Lacks 32 t.programmer
  pub password : Lacks 32 t.password
  pub limit : Lacks 32 t.limit

pub texts_again : (version : Version) (t : AccountTexts) → IsPlain version t → texts_in version (account_text t) ≡ Some t
unfolding texts_in
texts_again version t plain =
    ap (texts_in version) (text_is t) ∙ rw (cut_again 44 t.project (t.programmer ++ 32 ∷ (t.password ++ 32 ∷ limits_text t)) plain.project, cut_again 32 t.programmer (t.password ++ 32 ∷ limits_text t) plain.programmer, cut_again 32 t.password (limits_text t) plain.password, limits_again version t.limit t.quota plain.may plain.limit) refl

-- ---- the fields of a file

-- a name is its stem and the extension after its first point
name_take : (name : List ℕ) (o : Option (List ℕ × List ℕ)) → cut 46 name ≡ o → name ≡ stem_before name o ++ extension_text (extension_behind o)
name_take name None e = sym (append-nil name)
name_take name (Some parts) e = cut_takes 46 name parts e

stem_again : (stem : List ℕ) (extension : Option (List ℕ)) → Lacks 46 stem → stem_before (stem ++ extension_text extension) (cut 46 (stem ++ extension_text extension)) ≡ stem
stem_again stem None lacks = ap (stem_before (stem ++ [])) (ap (cut 46) (append-nil stem) ∙ cut_nowhere 46 stem lacks) ∙ append-nil stem
stem_again stem (Some extension) lacks = ap (stem_before (stem ++ 46 ∷ extension)) (cut_again 46 stem extension lacks)

extension_again : (stem : List ℕ) (extension : Option (List ℕ)) → Lacks 46 stem → extension_behind (cut 46 (stem ++ extension_text extension)) ≡ extension
extension_again stem None lacks = ap extension_behind (ap (cut 46) (append-nil stem) ∙ cut_nowhere 46 stem lacks)
extension_again stem (Some extension) lacks = ap extension_behind (cut_again 46 stem extension lacks)

abbrev pub name_of : FileTexts → List ℕ
name_of t = t.stem ++ extension_text t.extension

abbrev pub plain_file : FileTexts → List ℕ
plain_file t = codes "FILE [" ++ (t.project ++ 44 ∷ (t.programmer ++ 93 ∷ (name_of t ++ 60 ∷ (t.code ++ 62 ∷ 32 ∷ t.blocks))))

pub file_is : (t : FileTexts) → file_text t ≡ plain_file t
file_is t = simp append_assoc

abbrev fields : List ℕ → List ℕ → List ℕ → List ℕ → List ℕ → FileTexts
fields project programmer name code blocks =
    record {
      project = project;
      programmer = programmer;
      stem = stem_before name (cut 46 name);
      extension = extension_behind (cut 46 name);
      code = code;
      blocks = blocks;
    }

pub file_texts_take : (line : List ℕ) (t : FileTexts) → file_texts_in line ≡ Some t → line ≡ file_text t
unfolding file_texts_in
file_texts_take line t e =
    let a = bind_some (behind (codes "FILE [") line) (λ f. cut 44 f >>= λ p. cut 93 p.1 >>= λ n. cut 60 n.1 >>= λ m. cut 62 m.1 >>= λ c. behind (codes " ") c.1 >>= λ k. Some (fields p.0 n.0 m.0 c.0 k)) t e in
    let b = bind_some (cut 44 a.0) (λ p. cut 93 p.1 >>= λ n. cut 60 n.1 >>= λ m. cut 62 m.1 >>= λ c. behind (codes " ") c.1 >>= λ k. Some (fields p.0 n.0 m.0 c.0 k)) t a.2 in
    let c = bind_some (cut 93 b.0.1) (λ n. cut 60 n.1 >>= λ m. cut 62 m.1 >>= λ c. behind (codes " ") c.1 >>= λ k. Some (fields b.0.0 n.0 m.0 c.0 k)) t b.2 in
    let d = bind_some (cut 60 c.0.1) (λ m. cut 62 m.1 >>= λ x. behind (codes " ") x.1 >>= λ k. Some (fields b.0.0 c.0.0 m.0 x.0 k)) t c.2 in
    let f = bind_some (cut 62 d.0.1) (λ x. behind (codes " ") x.1 >>= λ k. Some (fields b.0.0 c.0.0 d.0.0 x.0 k)) t d.2 in
    let g = bind_some (behind (codes " ") f.0.1) (λ k. Some (fields b.0.0 c.0.0 d.0.0 f.0.0 k)) t f.2 in
    let made : FileTexts = fields b.0.0 c.0.0 d.0.0 f.0.0 g.0 in
    let fifth : d.0.1 ≡ f.0.0 ++ 62 ∷ 32 ∷ g.0 = cut_takes 62 d.0.1 f.0 f.1 ∙ ap (λ t. f.0.0 ++ 62 ∷ t) (behind_takes (codes " ") f.0.1 g.0 g.1) in
    let name : d.0.0 ≡ name_of made = name_take d.0.0 (cut 46 d.0.0) refl in
    let fourth : c.0.1 ≡ name_of made ++ 60 ∷ (f.0.0 ++ 62 ∷ 32 ∷ g.0) = cut_takes 60 c.0.1 d.0 d.1 ∙ (λ i. name i ++ 60 ∷ fifth i) in
    let third : b.0.1 ≡ c.0.0 ++ 93 ∷ (name_of made ++ 60 ∷ (f.0.0 ++ 62 ∷ 32 ∷ g.0)) = cut_takes 93 b.0.1 c.0 c.1 ∙ ap (λ t. c.0.0 ++ 93 ∷ t) fourth in
    let second : a.0 ≡ b.0.0 ++ 44 ∷ (c.0.0 ++ 93 ∷ (name_of made ++ 60 ∷ (f.0.0 ++ 62 ∷ 32 ∷ g.0))) = cut_takes 44 a.0 b.0 b.1 ∙ ap (λ t. b.0.0 ++ 44 ∷ t) third in
    subst (λ (x : FileTexts). line ≡ plain_file x) (some_is made t g.2) (behind_takes (codes "FILE [") line a.0 a.1 ∙ ap (λ t. codes "FILE [" ++ t) second)
    ∙ sym (file_is t)

-- no field has a byte at which the line is cut after it
pub record IsPlainFile (t : FileTexts) : Type 0 where
  pub project : Lacks 44 t.project
  pub programmer : Lacks 93 t.programmer
  pub stem : Lacks 46 t.stem
  pub name : Lacks 60 (name_of t)
  pub code : Lacks 62 t.code

pub file_texts_again : (t : FileTexts) → IsPlainFile t → file_texts_in (file_text t) ≡ Some t
unfolding file_texts_in
file_texts_again t plain =
    ap file_texts_in (file_is t)
    ∙ rw (cut_again 44 t.project (t.programmer ++ 93 ∷ (name_of t ++ 60 ∷ (t.code ++ 62 ∷ 32 ∷ t.blocks))) plain.project, cut_again 93 t.programmer (name_of t ++ 60 ∷ (t.code ++ 62 ∷ 32 ∷ t.blocks)) plain.programmer, cut_again 60 (name_of t) (t.code ++ 62 ∷ 32 ∷ t.blocks) plain.name, cut_again 62 t.code (32 ∷ t.blocks) plain.code)
    (λ i. Some (record {
      project = t.project;
      programmer = t.programmer;
      stem = stem_again t.stem t.extension plain.stem i;
      extension = extension_again t.stem t.extension plain.stem i;
      code = t.code;
      blocks = t.blocks;
    }))

-- neither a point nor a less-than sign is a letter of a name
no_point : (version : Version) → is_file_letter version 46 ≡ false
no_point One = refl
no_point Two = refl
no_point Three = refl

no_less : (version : Version) → is_file_letter version 60 ≡ false
no_less One = refl
no_less Two = refl
no_less Three = refl

extension_lacks : (version : Version) (extension : Option (List ℕ)) → is_file_word version (unwrap_or extension []) ≡ true → Lacks 60 (extension_text extension)
extension_lacks version None name = tt
extension_lacks version (Some extension) name = (refl, lacks_unlike (is_file_letter version) 60 (no_less version) extension name)

pub plain_texts : (version : Version) (t : FileTexts) → are_file_texts version t ≡ true → IsPlainFile t
plain_texts version t formed =
    let p = is_numeral t.project in
    let n = is_numeral t.programmer in
    let s = is_file_word version t.stem in
    let x = is_file_word version (unwrap_or t.extension []) in
    let c = is_numeral t.code in
    let e5 = and_left (p && n && s && x && c) (is_numeral t.blocks) formed in
    let e4 = and_left (p && n && s && x) c e5 in
    let e3 = and_left (p && n && s) x e4 in
    let e2 = and_left (p && n) s e3 in
    let stem : s ≡ true = and_right (p && n) s e3 in
    record {
      project = numeral_lacks 44 refl t.project (and_left p n e2);
      programmer = numeral_lacks 93 refl t.programmer (and_right p n e2);
      stem = lacks_unlike (is_file_letter version) 46 (no_point version) t.stem stem;
      name = lacks_both 60 t.stem (extension_text t.extension) (lacks_unlike (is_file_letter version) 60 (no_less version) t.stem stem) (extension_lacks version t.extension (and_right (p && n && s) x e4));
      code = numeral_lacks 62 refl t.code (and_right (p && n && s && x) c e5);
    }
