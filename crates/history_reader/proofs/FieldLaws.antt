-- What was written in a field is read of it.
use Rattle.std.proofs.Common.{◌≡◌, ℕ, ◌+◌, ◌-◌, ◌<◌, ◌≤◌, ◌^◌, Bool, true, false, cond, List, [], ◌∷◌, ◌++◌, length, get_or, take, drop, Option, Some, None, refl, sym, ap, subst, ◌∙◌, append_assoc, arith}
use Rattle.std.specs.Prelude.{◌*◌, ◌/◌, ◌%◌, ◌&&◌, ◌||◌, nat_le, nat_lt, bytes_eq}
use Rattle.std.specs.List.{list_all, flat_map, concat, AllByRecursion}
use Rattle.std.specs.Char.{is_ascii_alphanumeric}
use Rattle.std.specs.Fmt.{decimal}
use Rattle.std.specs.Cmp.Lexicographic.{bytes_decides}
use Rattle.std.proofs.lemmas.Bool.{leb-true, ltb-true, ltb-false, lt-ltb, le-leb, lt-leb, eq-eqb}
use Rattle.std.proofs.lemmas.List.{append-nil, take_all, take_at, drop_at, length-append}
use Rattle.basic_values.specs.Cuts.{cut}
use Rattle.basic_values.proofs.CutLaws.{Lacks, lacks_both, kind_lacks, and_left, and_right, and_both, cut_again, cut_nowhere, number_again, decimal_lacks}
use Rattle.monitor_calls.specs.declared.names.Account.{Account}
use Rattle.monitor_calls.specs.declared.files.FileName.{FileName}
use Rattle.monitor_calls.specs.declared.files.OpenKind.{OpenKind}
use Rattle.monitor_calls.specs.declared.files.OpenKind.TheVariants.{Input, Output, Either, Fresh}
use Rattle.monitor_calls.specs.NameTexts.{extension_text}
use Rattle.monitor_calls.specs.Proper.{IsByte, IsOptionalByte, AreOptionalBlocks, IsAccount, IsShort, IsName, IsText, IsPage}
use Rattle.deck_model.specs.Files.{pages_of}
use Rattle.deck_model.specs.Histories.{hex_sign, hex_text, hex_or_dash, pages_text, account_digits, truth_text, number_or_dash, letters_or_dash, printed_name, kind_text}
use Rattle.history_reader.specs.LineFields.{field_by, byte_read, half_read, long_read, account_read, short_read, stem_of, name_read, letters_read, truth_read, kind_read, code_read, blocks_read, sign_value, hex_bytes, password_read, message_read, one_page_read, page_run_read}
use Rattle.history_reader.proofs.WordLaws.{joined, is_plain, plain_both, decimal_plain, field_again}

-- ---- numbers

pub byte_again : (n : ℕ) → n < 2 ^ 8 → byte_read (decimal n) ≡ Some n
unfolding byte_read
byte_again n small = number_again 0 255 n (omega arith) (omega arith) (omega arith)

pub half_again : (n : ℕ) → n < 2 ^ 16 → half_read (decimal n) ≡ Some n
unfolding half_read
half_again n small = number_again 0 65535 n (omega arith) (omega arith) (omega arith)

pub long_again : (n : ℕ) → n < 2 ^ 32 → long_read (decimal n) ≡ Some n
unfolding long_read
long_again n small = number_again 0 4294967295 n (omega arith) (omega arith) small

pub byte_field : (n : ℕ) (words : List (List ℕ)) → n < 2 ^ 8 → field_by byte_read (joined (decimal n ∷ words)) ≡ Some (n, joined words)
byte_field n words small = field_again byte_read n (decimal n) words (decimal_plain n (omega arith)) (byte_again n small)

pub half_field : (n : ℕ) (words : List (List ℕ)) → n < 2 ^ 16 → field_by half_read (joined (decimal n ∷ words)) ≡ Some (n, joined words)
half_field n words small = field_again half_read n (decimal n) words (decimal_plain n (omega arith)) (half_again n small)

pub long_field : (n : ℕ) (words : List (List ℕ)) → n < 2 ^ 32 → field_by long_read (joined (decimal n ∷ words)) ≡ Some (n, joined words)
long_field n words small = field_again long_read n (decimal n) words (decimal_plain n (omega arith)) (long_again n small)

-- ---- accounts

pub account_plain : (a : Account) → IsAccount a → is_plain (account_digits a) ≡ true
account_plain a good =
    plain_both (decimal a.project ++ 44 ∷ []) (decimal a.programmer) (plain_both (decimal a.project) (44 ∷ []) (decimal_plain a.project (omega arith)) refl) (decimal_plain a.programmer (omega arith))

account_again : (a : Account) → IsAccount a → account_read (account_digits a) ≡ Some a
unfolding account_read
account_again a good =
    ap account_read (append_assoc (decimal a.project) (44 ∷ []) (decimal a.programmer))
    ∙ rw (cut_again 44 (decimal a.project) (decimal a.programmer) (decimal_lacks 44 a.project (λ r. omega arith) (omega arith)), byte_again a.project good.0, byte_again a.programmer good.1) refl

pub account_field : (a : Account) (words : List (List ℕ)) → IsAccount a → field_by account_read (joined (account_digits a ∷ words)) ≡ Some (a, joined words)
account_field a words good = field_again account_read a (account_digits a) words (account_plain a good) (account_again a good)

-- ---- short names

in_range : (low high byte : ℕ) → (nat_le low byte && nat_le byte high) ≡ true → (low ≤ byte) × (byte ≤ high)
in_range low high byte e = (leb-true low byte (and_left (nat_le low byte) (nat_le byte high) e), leb-true byte high (and_right (nat_le low byte) (nat_le byte high) e))

letter_range : (b : ℕ) → is_ascii_alphanumeric b ≡ true → (32 < b) × (b < 2 ^ 8)
letter_range b e = go (nat_le 48 b && nat_le b 57) (nat_le 65 b && nat_le b 90) (nat_le 97 b && nat_le b 122) refl refl refl e
  where
    go : (d u l : Bool) → (nat_le 48 b && nat_le b 57) ≡ d → (nat_le 65 b && nat_le b 90) ≡ u → (nat_le 97 b && nat_le b 122) ≡ l → ((d || u) || l) ≡ true → (32 < b) × (b < 2 ^ 8)
    go true u l ed eu el e = let r = in_range 48 57 b ed in (omega arith, omega arith)
    go false true l ed eu el e = let r = in_range 65 90 b eu in (omega arith, omega arith)
    go false false true ed eu el e = let r = in_range 97 122 b el in (omega arith, omega arith)
    go false false false ed eu el e = absurd cc

letters_plain : (text : List ℕ) → list_all is_ascii_alphanumeric text ≡ true → is_plain text ≡ true
letters_plain [] all = refl
letters_plain (b ∷ text) all =
    let r = letter_range b (and_left (is_ascii_alphanumeric b) (list_all is_ascii_alphanumeric text) all) in
    and_both (nat_lt 32 b) (is_plain text) (lt-ltb 32 b r.0) (letters_plain text (and_right (is_ascii_alphanumeric b) (list_all is_ascii_alphanumeric text) all))

letters_bytes : (text : List ℕ) → list_all is_ascii_alphanumeric text ≡ true → AllByRecursion IsByte text
letters_bytes [] all = tt
letters_bytes (b ∷ text) all =
    let r = letter_range b (and_left (is_ascii_alphanumeric b) (list_all is_ascii_alphanumeric text) all) in
    (r.1, letters_bytes text (and_right (is_ascii_alphanumeric b) (list_all is_ascii_alphanumeric text) all))

short_letters : (text : List ℕ) → IsShort text → list_all is_ascii_alphanumeric text ≡ true
short_letters text e = and_right (nat_le 0 (length text) && nat_le (length text) 6) (list_all is_ascii_alphanumeric text) e

short_again : (text : List ℕ) → IsShort text → short_read text ≡ Some text
unfolding short_read
short_again text e = ap (λ (b : Bool). cond b (Some text) None) e

not_dash : (text : List ℕ) → Lacks 45 text → bytes_eq text (45 ∷ []) ≡ false
not_dash text lacks = go (bytes_eq text (45 ∷ [])) refl
  where
    go : (b : Bool) → bytes_eq text (45 ∷ []) ≡ b → b ≡ false
    go false e = refl
    go true e = absurd (let dash : Lacks 45 (45 ∷ []) = subst (Lacks 45) ((bytes_decides text (45 ∷ [])).0 e) lacks in let bad : true ≡ false = dash.0 in cc)

pub short_plain : (text : List ℕ) → IsShort text → is_plain (letters_or_dash text) ≡ true
short_plain [] e = refl
short_plain (b ∷ text) e = letters_plain (b ∷ text) (short_letters (b ∷ text) e)

pub letters_again : (text : List ℕ) → IsShort text → letters_read (letters_or_dash text) ≡ Some text
unfolding letters_read
letters_again [] e = refl
letters_again (b ∷ text) e =
    rw (not_dash (b ∷ text) (kind_lacks is_ascii_alphanumeric 45 refl (b ∷ text) (short_letters (b ∷ text) e))) (short_again (b ∷ text) e)

pub letters_field : (text : List ℕ) (words : List (List ℕ)) → IsShort text → field_by letters_read (joined (letters_or_dash text ∷ words)) ≡ Some (text, joined words)
letters_field text words e = field_again letters_read text (letters_or_dash text) words (short_plain text e) (letters_again text e)

-- ---- names of files

stem_again : (stem extension : List ℕ) → Lacks 46 stem → stem_of (stem ++ extension_text extension) (cut 46 (stem ++ extension_text extension)) ≡ (stem, extension)
stem_again stem [] lacks = rw (append-nil stem, cut_nowhere 46 stem lacks) refl
stem_again stem (b ∷ bytes) lacks = rw (cut_again 46 stem (b ∷ bytes) lacks) refl

name_shape : (name : FileName) → printed_name name ≡ 91 ∷ (account_digits name.owner ++ 93 ∷ (name.stem ++ extension_text name.extension))
unfolding printed_name
name_shape name = simp append_assoc

name_again : (name : FileName) → IsName name → name_read (printed_name name) ≡ Some name
unfolding name_read
name_again name good =
    let rest : List ℕ = name.stem ++ extension_text name.extension in
    let digits : List ℕ = account_digits name.owner in
    let closed : cut 93 (digits ++ 93 ∷ rest) ≡ Some (digits, rest) =
    cut_again 93 digits rest
    (lacks_both 93 (decimal name.owner.project ++ 44 ∷ []) (decimal name.owner.programmer)
    (lacks_both 93 (decimal name.owner.project) (44 ∷ []) (decimal_lacks 93 name.owner.project (λ r. omega arith) (omega arith)) (refl, tt))
    (decimal_lacks 93 name.owner.programmer (λ r. omega arith) (omega arith))) in
    let stem = stem_again name.stem name.extension (kind_lacks is_ascii_alphanumeric 46 refl name.stem (short_letters name.stem good.1.0)) in
    rw (name_shape name, closed, account_again name.owner good.0, stem, short_again name.stem good.1.0, short_again name.extension good.1.1) refl

name_plain : (name : FileName) → IsName name → is_plain (printed_name name) ≡ true
name_plain name good =
    subst (λ (t : List ℕ). is_plain t ≡ true) (sym (name_shape name))
    (plain_both (account_digits name.owner) (93 ∷ (name.stem ++ extension_text name.extension)) (account_plain name.owner good.0)
    (plain_both name.stem (extension_text name.extension) (letters_plain name.stem (short_letters name.stem good.1.0)) (behind_point name.extension good.1.1)))
  where
    behind_point : (extension : List ℕ) → IsShort extension → is_plain (extension_text extension) ≡ true
    behind_point [] e = refl
    behind_point (b ∷ text) e = letters_plain (b ∷ text) (short_letters (b ∷ text) e)

pub printed_plain : (name : FileName) → IsName name → is_plain (printed_name name) ≡ true
printed_plain name good = name_plain name good

pub name_field : (name : FileName) (words : List (List ℕ)) → IsName name → field_by name_read (joined (printed_name name ∷ words)) ≡ Some (name, joined words)
name_field name words good = field_again name_read name (printed_name name) words (name_plain name good) (name_again name good)

-- ---- truth, kinds, and numbers that a dash may replace

pub truth_plain : (truth : Bool) → is_plain (truth_text truth) ≡ true
truth_plain true = refl
truth_plain false = refl

truth_again : (truth : Bool) → truth_read (truth_text truth) ≡ Some truth
unfolding truth_read
truth_again true = refl
truth_again false = refl

pub truth_field : (truth : Bool) (words : List (List ℕ)) → field_by truth_read (joined (truth_text truth ∷ words)) ≡ Some (truth, joined words)
truth_field truth words = field_again truth_read truth (truth_text truth) words (truth_plain truth) (truth_again truth)

pub kind_plain : (kind : OpenKind) → is_plain (kind_text kind) ≡ true
kind_plain Input = refl
kind_plain Output = refl
kind_plain Either = refl
kind_plain Fresh = refl

kind_again : (kind : OpenKind) → kind_read (kind_text kind) ≡ Some kind
unfolding kind_read
kind_again Input = refl
kind_again Output = refl
kind_again Either = refl
kind_again Fresh = refl

pub kind_field : (kind : OpenKind) (words : List (List ℕ)) → field_by kind_read (joined (kind_text kind ∷ words)) ≡ Some (kind, joined words)
kind_field kind words = field_again kind_read kind (kind_text kind) words (kind_plain kind) (kind_again kind)

number_no_dash : (n : ℕ) → n < 2 ^ 32 → bytes_eq (decimal n) (45 ∷ []) ≡ false
number_no_dash n small = not_dash (decimal n) (decimal_lacks 45 n (λ r. omega arith) small)

pub code_plain : (code : Option ℕ) → IsOptionalByte code → is_plain (number_or_dash code) ≡ true
code_plain None good = refl
code_plain (Some n) good = decimal_plain n (omega arith)

code_again : (code : Option ℕ) → IsOptionalByte code → code_read (number_or_dash code) ≡ Some code
unfolding code_read
code_again None good = refl
code_again (Some n) good = rw (number_no_dash n (omega arith), byte_again n good) refl

pub code_field : (code : Option ℕ) (words : List (List ℕ)) → IsOptionalByte code → field_by code_read (joined (number_or_dash code ∷ words)) ≡ Some (code, joined words)
code_field code words good = field_again code_read code (number_or_dash code) words (code_plain code good) (code_again code good)

pub blocks_plain : (blocks : Option ℕ) → AreOptionalBlocks blocks → is_plain (number_or_dash blocks) ≡ true
blocks_plain None good = refl
blocks_plain (Some n) good = decimal_plain n (omega arith)

blocks_again : (blocks : Option ℕ) → AreOptionalBlocks blocks → blocks_read (number_or_dash blocks) ≡ Some blocks
unfolding blocks_read
blocks_again None good = refl
blocks_again (Some n) good = rw (number_no_dash n (omega arith), half_again n good) refl

pub blocks_field : (blocks : Option ℕ) (words : List (List ℕ)) → AreOptionalBlocks blocks → field_by blocks_read (joined (number_or_dash blocks ∷ words)) ≡ Some (blocks, joined words)
blocks_field blocks words good = field_again blocks_read blocks (number_or_dash blocks) words (blocks_plain blocks good) (blocks_again blocks good)

-- ---- bytes

sign_back : (n : ℕ) → n < 16 → sign_value (hex_sign n) ≡ n
sign_back n small = go (nat_lt n 10) refl
  where
    go : (b : Bool) → nat_lt n 10 ≡ b → sign_value (cond b (48 + n) (87 + n)) ≡ n
    go true e =
        let l : n < 10 = ltb-true n 10 e in
        rw (le-leb 48 (48 + n) (omega arith), le-leb (48 + n) 57 (omega arith)) (omega arith)
    go false e =
        let l : 10 ≤ n = ltb-false n 10 e in
        rw (le-leb 48 (87 + n) (omega arith), lt-leb (87 + n) 57 (omega arith), le-leb 97 (87 + n) (omega arith), le-leb (87 + n) 102 (omega arith)) (omega arith)

sign_plain : (n : ℕ) → nat_lt 32 (hex_sign n) ≡ true
sign_plain n = go (nat_lt n 10)
  where
    go : (b : Bool) → nat_lt 32 (cond b (48 + n) (87 + n)) ≡ true
    go true = lt-ltb 32 (48 + n) (omega arith)
    go false = lt-ltb 32 (87 + n) (omega arith)

hex_back : (bytes : List ℕ) → AllByRecursion IsByte bytes → hex_bytes (hex_text bytes) ≡ bytes
unfolding hex_bytes
hex_back [] all = refl
hex_back (b ∷ bytes) all =
    let high = sign_back (b / 16) (omega arith) in
    let low = sign_back (b % 16) (omega arith) in
    let whole : 16 * sign_value (hex_sign (b / 16)) + sign_value (hex_sign (b % 16)) ≡ b = omega (arith, high, low) in
    λ i. whole i ∷ hex_back bytes all.1 i

dash_back : (bytes : List ℕ) → AllByRecursion IsByte bytes → hex_bytes (hex_or_dash bytes) ≡ bytes
unfolding hex_bytes
dash_back [] all = refl
dash_back (b ∷ bytes) all = hex_back (b ∷ bytes) all

hex_plain : (bytes : List ℕ) → is_plain (hex_text bytes) ≡ true
hex_plain [] = refl
hex_plain (b ∷ bytes) =
    and_both (nat_lt 32 (hex_sign (b / 16))) (nat_lt 32 (hex_sign (b % 16)) && is_plain (hex_text bytes)) (sign_plain (b / 16))
    (and_both (nat_lt 32 (hex_sign (b % 16))) (is_plain (hex_text bytes)) (sign_plain (b % 16)) (hex_plain bytes))

pub dash_plain : (bytes : List ℕ) → is_plain (hex_or_dash bytes) ≡ true
dash_plain [] = refl
dash_plain (b ∷ bytes) = hex_plain (b ∷ bytes)

password_again : (text : List ℕ) → IsShort text → password_read (hex_or_dash text) ≡ Some text
unfolding password_read
password_again text good = rw (dash_back text (letters_bytes text (short_letters text good))) (short_again text good)

pub password_field : (text : List ℕ) (words : List (List ℕ)) → IsShort text → field_by password_read (joined (hex_or_dash text ∷ words)) ≡ Some (text, joined words)
password_field text words good = field_again password_read text (hex_or_dash text) words (dash_plain text) (password_again text good)

message_again : (text : List ℕ) → IsText text → message_read (hex_or_dash text) ≡ Some text
unfolding message_read
message_again text good = rw (dash_back text good.1, le-leb (length text) 32767 good.0) refl

pub message_field : (text : List ℕ) (words : List (List ℕ)) → IsText text → field_by message_read (joined (hex_or_dash text ∷ words)) ≡ Some (text, joined words)
message_field text words good = field_again message_read text (hex_or_dash text) words (dash_plain text) (message_again text good)

page_again : (page : List ℕ) → IsPage page → one_page_read (hex_or_dash page) ≡ Some page
unfolding one_page_read
page_again page good = rw (dash_back page good.1, eq-eqb (length page) 512 good.0) refl

pub page_field : (page : List ℕ) (words : List (List ℕ)) → IsPage page → field_by one_page_read (joined (hex_or_dash page ∷ words)) ≡ Some (page, joined words)
page_field page words good = field_again one_page_read page (hex_or_dash page) words (dash_plain page) (page_again page good)

-- ---- pages

hex_both : (xs ys : List ℕ) → hex_text (xs ++ ys) ≡ hex_text xs ++ hex_text ys
hex_both [] ys = refl
hex_both (x ∷ xs) ys = ap (λ (t : List ℕ). hex_sign (x / 16) ∷ hex_sign (x % 16) ∷ t) (hex_both xs ys)

hex_run : (pages : List (List ℕ)) → flat_map hex_text pages ≡ hex_text (concat pages)
hex_run [] = refl
hex_run (page ∷ pages) = ap (λ (t : List ℕ). hex_text page ++ t) (hex_run pages) ∙ sym (hex_both page (concat pages))

bytes_both : (xs ys : List ℕ) → AllByRecursion IsByte xs → AllByRecursion IsByte ys → AllByRecursion IsByte (xs ++ ys)
bytes_both [] ys l r = r
bytes_both (x ∷ xs) ys l r = (l.0, bytes_both xs ys l.1 r)

run_bytes : (pages : List (List ℕ)) → AllByRecursion IsPage pages → AllByRecursion IsByte (concat pages)
run_bytes [] all = tt
run_bytes (page ∷ pages) all = bytes_both page (concat pages) all.0.1 (run_bytes pages all.1)

length-run : (pages : List (List ℕ)) → AllByRecursion IsPage pages → length (concat pages) ≡ 512 * length pages
length-run [] all = refl
length-run (page ∷ pages) all = omega (arith, length-append page (concat pages), length-run pages all.1, all.0.0)

cut_run : (pages : List (List ℕ)) → AllByRecursion IsPage pages → pages_of (length pages) (concat pages) ≡ pages
unfolding pages_of
cut_run [] all = refl
cut_run (page ∷ pages) all =
    λ i. take_at page (concat pages) 512 all.0.0 i ∷ (ap (pages_of (length pages)) (drop_at page (concat pages) 512 all.0.0) ∙ cut_run pages all.1) i

run_back : (pages : List (List ℕ)) → AllByRecursion IsPage pages → hex_bytes (pages_text pages) ≡ concat pages
unfolding hex_bytes
run_back [] all = refl
run_back (page ∷ pages) all = ap hex_bytes (hex_run (page ∷ pages)) ∙ hex_back (concat (page ∷ pages)) (run_bytes (page ∷ pages) all)

pages_again : (pages : List (List ℕ)) → AllByRecursion IsPage pages → page_run_read (pages_text pages) ≡ Some pages
unfolding page_run_read
pages_again pages all =
    let count : length (concat pages) / 512 ≡ length pages = omega (arith, length-run pages all) in
    rw (run_back pages all, count, cut_run pages all) refl

pub pages_plain : (pages : List (List ℕ)) → is_plain (pages_text pages) ≡ true
pages_plain [] = refl
pages_plain (page ∷ pages) = subst (λ (t : List ℕ). is_plain t ≡ true) (sym (hex_run (page ∷ pages))) (hex_plain (concat (page ∷ pages)))

pub pages_field : (pages : List (List ℕ)) (words : List (List ℕ)) → AllByRecursion IsPage pages → field_by page_run_read (joined (pages_text pages ∷ words)) ≡ Some (pages, joined words)
pages_field pages words all = field_again page_run_read pages (pages_text pages) words (pages_plain pages) (pages_again pages all)

-- ---- two signs of some

two_signs : (rest : List ℕ) (d : ℕ) → 2 ≤ length rest → rest ≡ get_or rest 0 d ∷ get_or rest 1 d ∷ take (length rest - 2) (drop 2 rest)
two_signs [] d some = absurd (omega arith)
two_signs (a ∷ []) d some = absurd (omega arith)
two_signs (a ∷ b ∷ more) d some = ap (λ (t : List ℕ). a ∷ b ∷ t) (sym (take_all (length (a ∷ b ∷ more) - 2) more (omega arith)))

hex_pair : (done rest after all : List ℕ) (high low : ℕ) → rest ≡ high ∷ low ∷ after → done ++ hex_bytes rest ≡ all → (done ++ (16 * sign_value high + sign_value low) ∷ []) ++ hex_bytes after ≡ all
unfolding hex_bytes
hex_pair done rest after all high low e told =
    append_assoc done ((16 * sign_value high + sign_value low) ∷ []) (hex_bytes after) ∙ ap (λ (t : List ℕ). done ++ hex_bytes t) (sym e) ∙ told

pub signs_taken : (done rest all next : List ℕ) (d byte : ℕ) → 2 ≤ length rest → byte ≡ 16 * sign_value (get_or rest 0 d) + sign_value (get_or rest 1 d) → next ≡ done ++ byte ∷ [] → done ++ hex_bytes rest ≡ all → next ++ hex_bytes (take (length rest - 2) (drop 2 rest)) ≡ all
signs_taken done rest all next d byte some is pushed told =
    ap (λ (t : List ℕ). t ++ hex_bytes (take (length rest - 2) (drop 2 rest))) (pushed ∙ ap (λ (b : ℕ). done ++ b ∷ []) is)
    ∙ hex_pair done rest (take (length rest - 2) (drop 2 rest)) all (get_or rest 0 d) (get_or rest 1 d) (two_signs rest d some) told

pub signs_done : (done rest all : List ℕ) → length rest < 2 → done ++ hex_bytes rest ≡ all → done ≡ all
unfolding hex_bytes
signs_done done [] all few told = sym (append-nil done) ∙ told
signs_done done (a ∷ []) all few told = sym (append-nil done) ∙ told
signs_done done (a ∷ b ∷ more) all few told = absurd (omega arith)
