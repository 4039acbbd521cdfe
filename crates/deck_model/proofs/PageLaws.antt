-- The lines that are written of a file's pages: what they give, that they are found again, and how
-- long they are.
use Rattle.std.proofs.Common.{◌≡◌, ℕ, suc, ◌+◌, ◌-◌, ◌*◌, ◌<◌, ◌≤◌, Bool, true, false, cond, eqb, List, [], ◌∷◌, ◌++◌, length, replicate, map, refl, sym, ap, ◌∙◌, arith}
use Rattle.std.specs.Prelude.{◌&&◌, ◌||◌, ◌/◌, ◌%◌, not, nat_le, nat_lt, bytes_eq}
use Rattle.std.specs.List.{AllByRecursion, concat, list_all}
use Rattle.std.specs.Cmp.Lexicographic.{bytes_decides}
use Rattle.std.proofs.lemmas.Bool.{leb-true, ne_eqb, eqb-true}
use Rattle.std.proofs.lemmas.List.{append-nil, length-append, take_at, drop_at}
use Rattle.std.proofs.lemmas.List.Folds.{list_all-append}
use Rattle.basic_values.proofs.CutLaws.{and_left, and_right, and_both}
use Rattle.deck_model.specs.declared.versions.Version.TheVariants.{Three}
use Rattle.deck_model.specs.Hex.{is_byte}
use Rattle.deck_model.specs.Histories.{hex_sign, hex_text}
use Rattle.deck_model.specs.Lines.{whole_lines}
use Rattle.deck_model.specs.Files.{pages_of, ContentLine, TextLine, block_of, content_of}
use Rattle.deck_model.specs.Spelling.{content_line, MayHave}
use Rattle.deck_model.specs.DiskTexts.{before_zeros, without_zeros, is_text_byte, is_text_line, text_lines, is_text, page_line, lines_of_pages, text_of_lines, is_page}

-- ---- bytes of which a line is made

-- neither LF nor CR
abbrev pub is_line_byte : ℕ → Bool
is_line_byte byte = not (eqb byte 10 || eqb byte 13)

abbrev pub IsPlain : List ℕ → Type 0
IsPlain line = list_all is_line_byte line ≡ true

pub line_byte : (byte : ℕ) → (byte ≡ 10 → ⊥) → (byte ≡ 13 → ⊥) → is_line_byte byte ≡ true
line_byte byte no_feed no_return = rw (ne_eqb byte 10 no_feed, ne_eqb byte 13 no_return) refl

pub large_byte : (byte : ℕ) → 31 < byte → is_line_byte byte ≡ true
large_byte byte large = line_byte byte (λ same. omega (arith, large, same)) (λ same. omega (arith, large, same))

text_byte : (byte : ℕ) → is_text_byte byte ≡ true → is_line_byte byte ≡ true
text_byte byte e = go (nat_le 32 byte && nat_le byte 126) refl e
  where
    go : (b : Bool) → (nat_le 32 byte && nat_le byte 126) ≡ b → (b || eqb byte 9) ≡ true → is_line_byte byte ≡ true
    go true printable all = large_byte byte (omega (arith, leb-true 32 byte (and_left (nat_le 32 byte) (nat_le byte 126) printable)))
    go false other all = let tab : byte ≡ 9 = eqb-true byte 9 all in line_byte byte (λ same. omega (arith, tab, same)) (λ same. omega (arith, tab, same))

text_plain : (line : List ℕ) → is_text_line line ≡ true → IsPlain line
text_plain [] e = refl
text_plain (b ∷ line) e =
    and_both (is_line_byte b) (list_all is_line_byte line) (text_byte b (and_left (is_text_byte b) (is_text_line line) e))
    (text_plain line (and_right (is_text_byte b) (is_text_line line) e))

digit_plain : (n : ℕ) → is_line_byte (hex_sign n) ≡ true
digit_plain n = go (nat_lt n 10)
  where
    go : (b : Bool) → is_line_byte (cond b (48 + n) (87 + n)) ≡ true
    go true = large_byte (48 + n) (omega arith)
    go false = large_byte (87 + n) (omega arith)

pub hex_plain : (bytes : List ℕ) → IsPlain (hex_text bytes)
hex_plain [] = refl
hex_plain (b ∷ bytes) = and_both _ _ (digit_plain (b / 16)) (and_both _ _ (digit_plain (b % 16)) (hex_plain bytes))

length-hex : (bytes : List ℕ) → length (hex_text bytes) ≡ 2 * length bytes
length-hex [] = refl
length-hex (b ∷ bytes) = let more = length-hex bytes in omega arith

-- ---- zeros at the end

pub zeros_back : (bytes : List ℕ) → without_zeros bytes ++ replicate (length bytes - length (without_zeros bytes)) 0 ≡ bytes
unfolding without_zeros
zeros_back [] = refl
zeros_back (b ∷ bytes) = go (without_zeros bytes) (zeros_back bytes)
  where
    go : (some : List ℕ) → some ++ replicate (length bytes - length some) 0 ≡ bytes → before_zeros b some ++ replicate (length (b ∷ bytes) - length (before_zeros b some)) 0 ≡ b ∷ bytes
    go [] back = first (eqb b 0) refl
      where
        first : (t : Bool) → eqb b 0 ≡ t → cond t [] (b ∷ []) ++ replicate (length (b ∷ bytes) - length (cond t [] (b ∷ []))) 0 ≡ b ∷ bytes
        first true same =
            let zero_ : b ≡ 0 = eqb-true b 0 same in
            let all : length (b ∷ bytes) - 0 ≡ suc (length bytes - 0) = omega arith in
            ap (λ (n : ℕ). replicate n 0) all ∙ (λ i. sym zero_ i ∷ back i)
        first false other =
            let all : length (b ∷ bytes) - 1 ≡ length bytes - 0 = omega arith in
            ap (λ (n : ℕ). b ∷ replicate n 0) all ∙ ap (λ (l : List ℕ). b ∷ l) back
    go (x ∷ xs) back =
        let all : length (b ∷ bytes) - length (b ∷ x ∷ xs) ≡ length bytes - length (x ∷ xs) = omega arith in
        ap (λ (n : ℕ). b ∷ x ∷ xs ++ replicate n 0) all ∙ ap (λ (l : List ℕ). b ∷ l) back

zeros_bytes : (bytes : List ℕ) → list_all is_byte bytes ≡ true → list_all is_byte (without_zeros bytes) ≡ true
zeros_bytes bytes e =
    let split : (list_all is_byte (without_zeros bytes) && list_all is_byte (replicate (length bytes - length (without_zeros bytes)) 0)) ≡ true =
    sym (list_all-append is_byte (without_zeros bytes) (replicate (length bytes - length (without_zeros bytes)) 0)) ∙ ap (list_all is_byte) (zeros_back bytes) ∙ e in
    and_left (list_all is_byte (without_zeros bytes)) _ split

zeros_few : (bytes : List ℕ) → length (without_zeros bytes) ≤ length bytes
zeros_few bytes =
    let whole = ap length (zeros_back bytes) in
    omega (arith, whole, length-append (without_zeros bytes) (replicate (length bytes - length (without_zeros bytes)) 0))

-- ---- whole pages

page_whole : (page : List ℕ) → is_page page ≡ true → length page ≡ 512
page_whole page e = eqb-true (length page) 512 (and_left (eqb (length page) 512) (list_all is_byte page) e)

page_bytes : (page : List ℕ) → is_page page ≡ true → list_all is_byte page ≡ true
page_bytes page e = and_right (eqb (length page) 512) (list_all is_byte page) e

length-pages_joined : (pages : List (List ℕ)) → list_all is_page pages ≡ true → length (concat pages) ≡ 512 * length pages
length-pages_joined [] e = refl
length-pages_joined (p ∷ pages) e =
    let whole = page_whole p (and_left (is_page p) (list_all is_page pages) e) in
    let more = length-pages_joined pages (and_right (is_page p) (list_all is_page pages) e) in
    omega (arith, whole, more, length-append p (concat pages))

-- pages that are joined are cut into the same pages
pub pages_back : (pages : List (List ℕ)) → list_all is_page pages ≡ true → pages_of (length pages) (concat pages) ≡ pages
unfolding pages_of
pages_back [] e = refl
pages_back (p ∷ pages) e =
    let whole = page_whole p (and_left (is_page p) (list_all is_page pages) e) in
    (λ i. take_at p (concat pages) 512 whole i ∷ pages_of (length pages) (drop_at p (concat pages) 512 whole i))
    ∙ ap (λ (ps : List (List ℕ)). p ∷ ps) (pages_back pages (and_right (is_page p) (list_all is_page pages) e))

-- ---- the lines of pages

-- what is known of the lines that are written of pages
pub record WritesPages (pages : List (List ℕ)) (lines : List ContentLine) : Type 0 where
  pub may : AllByRecursion (MayHave Three) lines
  pub fits : length (content_of lines) ≤ 512 * length pages
  pub back : content_of lines ++ replicate (512 * length pages - length (content_of lines)) 0 ≡ concat pages
  pub plain : AllByRecursion IsPlain (map content_line lines)
  pub short : length (text_of_lines (map content_line lines)) ≤ 1026 * length pages

texts_may : (texts : List (List ℕ)) → AllByRecursion (MayHave Three) (map TextLine texts)
texts_may [] = tt
texts_may (t ∷ texts) = (tt, texts_may texts)

texts_plain : (texts : List (List ℕ)) → list_all is_text_line texts ≡ true → AllByRecursion IsPlain (map content_line (map TextLine texts))
texts_plain [] e = tt
texts_plain (t ∷ texts) e = (text_plain t (and_left (is_text_line t) (list_all is_text_line texts) e), texts_plain texts (and_right (is_text_line t) (list_all is_text_line texts) e))

-- the sign before a line and its LF take the space of CR LF
texts_length : (texts : List (List ℕ)) → length (text_of_lines (map content_line (map TextLine texts))) ≡ length (content_of (map TextLine texts))
texts_length [] = refl
texts_length (t ∷ texts) =
    let more = texts_length texts in
    let lines : List ℕ = text_of_lines (map content_line (map TextLine texts)) in
    let content : List ℕ = content_of (map TextLine texts) in
    omega (arith, more, length-append (62 ∷ t ++ 10 ∷ []) lines, length-append t (10 ∷ []), length-append (t ++ 13 ∷ 10 ∷ []) content, length-append t (13 ∷ 10 ∷ []))

text_written : (pages : List (List ℕ)) → list_all is_page pages ≡ true → is_text (without_zeros (concat pages)) ≡ true → WritesPages pages (text_lines (without_zeros (concat pages)))
unfolding is_text
text_written pages are e =
    let bytes : List ℕ = without_zeros (concat pages) in
    let texts : List (List ℕ) = whole_lines bytes in
    let same : content_of (text_lines bytes) ≡ bytes = (bytes_decides (content_of (text_lines bytes)) bytes).0 (and_left (bytes_eq (content_of (text_lines bytes)) bytes) (list_all is_text_line texts) e) in
    let whole = length-pages_joined pages are in
    let few : length (content_of (text_lines bytes)) ≤ 512 * length pages = omega (arith, ap length same, zeros_few (concat pages), whole) in
    record {
      may = texts_may texts;
      fits = few;
      back = (λ i. same i ++ replicate (sym whole i - length (same i)) 0) ∙ zeros_back (concat pages);
      plain = texts_plain texts (and_right (bytes_eq (content_of (text_lines bytes)) bytes) (list_all is_text_line texts) e);
      short = omega (arith, texts_length texts, few);
    }

block_back : (page : List ℕ) → length page ≡ 512 → block_of (without_zeros page) ≡ page
block_back page whole = ap (λ (n : ℕ). without_zeros page ++ replicate (n - length (without_zeros page)) 0) (sym whole) ∙ zeros_back page

blocks_joined : (pages : List (List ℕ)) → list_all is_page pages ≡ true → content_of (map page_line pages) ≡ concat pages
blocks_joined [] e = refl
blocks_joined (p ∷ pages) e = λ i. block_back p (page_whole p (and_left (is_page p) (list_all is_page pages) e)) i ++ blocks_joined pages (and_right (is_page p) (list_all is_page pages) e) i

blocks_may : (pages : List (List ℕ)) → list_all is_page pages ≡ true → AllByRecursion (MayHave Three) (map page_line pages)
blocks_may [] e = tt
blocks_may (p ∷ pages) e =
    let page = and_left (is_page p) (list_all is_page pages) e in
    ((refl, zeros_bytes p (page_bytes p page), omega (arith, page_whole p page, zeros_few p)), blocks_may pages (and_right (is_page p) (list_all is_page pages) e))

blocks_plain : (pages : List (List ℕ)) → AllByRecursion IsPlain (map content_line (map page_line pages))
blocks_plain [] = tt
blocks_plain (p ∷ pages) = (hex_plain (without_zeros p), blocks_plain pages)

blocks_length : (pages : List (List ℕ)) → list_all is_page pages ≡ true → length (text_of_lines (map content_line (map page_line pages))) ≤ 1026 * length pages
blocks_length [] e = omega arith
blocks_length (p ∷ pages) e =
    let whole = page_whole p (and_left (is_page p) (list_all is_page pages) e) in
    let more = blocks_length pages (and_right (is_page p) (list_all is_page pages) e) in
    let digits : List ℕ = hex_text (without_zeros p) in
    let lines : List ℕ = text_of_lines (map content_line (map page_line pages)) in
    omega (arith, whole, more, zeros_few p, length-hex (without_zeros p), length-append (61 ∷ digits ++ 10 ∷ []) lines, length-append digits (10 ∷ []))

blocks_written : (pages : List (List ℕ)) → list_all is_page pages ≡ true → WritesPages pages (map page_line pages)
blocks_written pages are =
    let same = blocks_joined pages are in
    let whole = length-pages_joined pages are in
    let all : 512 * length pages - length (concat pages) ≡ 0 = omega (arith, whole) in
    record {
      may = blocks_may pages are;
      fits = omega (arith, ap length same, whole);
      back = (λ i. same i ++ replicate (512 * length pages - length (same i)) 0) ∙ ap (λ (n : ℕ). concat pages ++ replicate n 0) all ∙ append-nil (concat pages);
      plain = blocks_plain pages;
      short = blocks_length pages are;
    }

pub pages_written : (pages : List (List ℕ)) → list_all is_page pages ≡ true → WritesPages pages (lines_of_pages pages)
pages_written pages are = go (is_text (without_zeros (concat pages))) refl
  where
    go : (b : Bool) → is_text (without_zeros (concat pages)) ≡ b → WritesPages pages (cond b (text_lines (without_zeros (concat pages))) (map page_line pages))
    go true text = text_written pages are text
    go false other = blocks_written pages are
