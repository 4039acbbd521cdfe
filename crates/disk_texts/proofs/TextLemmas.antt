-- Whether bytes are a text, line by line.
use Rattle.std.proofs.Common.{◌≡◌, ℕ, ◌<◌, ◌≤◌, Bool, true, false, cond, eqb, List, [], ◌∷◌, ◌++◌, length, take, get_or, map, Some, None, refl, sym, ap, ◌∙◌, append_assoc, arith, eq-eqb}
use Rattle.std.specs.Prelude.{◌-◌, ◌&&◌, nat_lt, bytes_eq}
use Rattle.std.specs.List.{list_all}
use Rattle.std.specs.Str.Lines.{strip_carriage_return}
use Rattle.std.proofs.lemmas.Bool.{eqb-true, ne_eqb, lt-ltb, le-ltb}
use Rattle.std.proofs.lemmas.List.{append-nil, length-append}
use Rattle.basic_values.specs.Cuts.{cut}
use Rattle.basic_values.proofs.CutLaws.{cut_takes}
use Rattle.deck_model.specs.Files.{TextLine, content_of}
use Rattle.deck_model.specs.Lines.{whole_lines}
use Rattle.deck_model.specs.Spelling.{content_line}
use Rattle.deck_model.specs.DiskTexts.{is_text_line, text_lines, is_text, text_of_lines}
use Rattle.deck_model.proofs.LineLaws.{line_found, line_missed}
use Rattle.disk_texts.specs.Parts.{is_ended_text}
use Rattle.disk_texts.proofs.ZeroLemmas.{last_split}

same_front : (front some other : List ℕ) → bytes_eq (front ++ some) (front ++ other) ≡ bytes_eq some other
same_front [] some other = refl
same_front (b ∷ front) some other =
    ap (λ (t : Bool). t && bytes_eq (front ++ some) (front ++ other)) (eq-eqb b b refl) ∙ same_front front some other

-- a line with CR at its end, and what is behind it
after_return : (text line more rest : List ℕ) → line ≡ text ++ 13 ∷ [] → bytes_eq ((text ++ 13 ∷ 10 ∷ []) ++ more) (line ++ 10 ∷ rest) ≡ bytes_eq more rest
after_return text line more rest e =
    ap (λ (l : List ℕ). bytes_eq ((text ++ 13 ∷ 10 ∷ []) ++ more) (l ++ 10 ∷ rest)) e
    ∙ (λ i. bytes_eq (append_assoc text (13 ∷ 10 ∷ []) more i) (append_assoc text (13 ∷ []) (10 ∷ rest) i))
    ∙ same_front text (13 ∷ 10 ∷ more) (13 ∷ 10 ∷ rest)

-- a line without CR at its end
no_return : (line more rest : List ℕ) → bytes_eq ((line ++ 13 ∷ 10 ∷ []) ++ more) (line ++ 10 ∷ rest) ≡ false
no_return line more rest =
    ap (λ (l : List ℕ). bytes_eq l (line ++ 10 ∷ rest)) (append_assoc line (13 ∷ 10 ∷ []) more)
    ∙ same_front line (13 ∷ 10 ∷ more) (10 ∷ rest)

some_bytes : (line : List ℕ) → eqb (get_or line (length line - 1) 0) 13 ≡ true → 1 ≤ length line
some_bytes [] e = absurd cc
some_bytes (b ∷ line) e = omega arith

-- a text with CR LF is the line with LF only if a CR ended the line
returned : (line more rest : List ℕ) → bytes_eq ((strip_carriage_return line ++ 13 ∷ 10 ∷ []) ++ more) (line ++ 10 ∷ rest) ≡ (nat_lt (length (strip_carriage_return line)) (length line) && bytes_eq more rest)
returned line more rest = go (eqb (get_or line (length line - 1) 0) 13) refl
  where
    go : (t : Bool) → eqb (get_or line (length line - 1) 0) 13 ≡ t → bytes_eq ((cond t (take (length line - 1) line) line ++ 13 ∷ 10 ∷ []) ++ more) (line ++ 10 ∷ rest) ≡ (nat_lt (length (cond t (take (length line - 1) line) line)) (length line) && bytes_eq more rest)
    go true e =
        let text : List ℕ = take (length line - 1) line in
        let split : line ≡ text ++ 13 ∷ [] = last_split line 0 (some_bytes line e) ∙ ap (λ (b : ℕ). text ++ b ∷ []) (eqb-true _ 13 e) in
        let less : nat_lt (length text) (length line) ≡ true = lt-ltb _ _ (omega (arith, ap length split, length-append text (13 ∷ []))) in
        after_return text line more rest split ∙ sym (ap (λ (t : Bool). t && bytes_eq more rest) less)
    go false e =
        no_return line more rest ∙ sym (ap (λ (t : Bool). t && bytes_eq more rest) (le-ltb (length line) (length line) (omega arith)))

in_pairs : (a b c d : Bool) → ((a && b) && (c && d)) ≡ ((a && c) && (b && d))
in_pairs false b c d = refl
in_pairs true true c d = refl
in_pairs true false true d = refl
in_pairs true false false d = refl

-- a text is a line that CR LF ends, and a text
pub text_goes : (bytes : List ℕ) (x : List ℕ × List ℕ) → cut 10 bytes ≡ Some x → is_text bytes ≡ (is_ended_text x.0 && is_text x.1)
unfolding is_text
text_goes bytes x e =
    let found = line_found bytes x e in
    let text : List ℕ = strip_carriage_return x.0 in
    let more : List (List ℕ) = whole_lines x.1 in
    (λ i. bytes_eq (content_of (map TextLine (found.0 i))) (cut_takes 10 bytes x e i) && list_all is_text_line (found.0 i))
    ∙ ap (λ (t : Bool). t && (is_text_line text && list_all is_text_line more)) (returned x.0 (content_of (map TextLine more)) x.1)
    ∙ in_pairs (nat_lt (length text) (length x.0)) (bytes_eq (content_of (map TextLine more)) x.1) (is_text_line text) (list_all is_text_line more)

no_bytes : (bytes : List ℕ) → (bytes_eq [] bytes && true) ≡ eqb (length bytes) 0
no_bytes [] = refl
no_bytes (b ∷ bytes) = sym (ne_eqb (length (b ∷ bytes)) 0 (λ same. omega (arith, same)))

-- without a LF only no bytes are a text
pub text_ends : (bytes : List ℕ) → cut 10 bytes ≡ None → is_text bytes ≡ eqb (length bytes) 0
unfolding is_text
text_ends bytes e =
    let found = line_missed bytes e in
    (λ i. bytes_eq (content_of (map TextLine (found.0 i))) bytes && list_all is_text_line (found.0 i)) ∙ no_bytes bytes

-- ---- the lines of a text, one after the other

module _ (start out : List ℕ) (rest : List ℕ) where
  abbrev lines_text : List (List ℕ) → List ℕ
  lines_text lines = text_of_lines (map content_line (map TextLine lines))

  -- one more line is appended
  pub line_pushed : (new line after : List ℕ) → whole_lines rest ≡ line ∷ whole_lines after → new ≡ out ++ (62 ∷ line ++ 10 ∷ []) → out ++ text_of_lines (map content_line (text_lines rest)) ≡ start → new ++ text_of_lines (map content_line (text_lines after)) ≡ start
  line_pushed new line after e pushed so_far =
      ap (λ (t : List ℕ). t ++ lines_text (whole_lines after)) pushed
      ∙ append_assoc out (62 ∷ line ++ 10 ∷ []) (lines_text (whole_lines after))
      ∙ sym (ap (λ (lines : List (List ℕ)). out ++ lines_text lines) e)
      ∙ so_far

  -- no line is left
  pub lines_pushed : whole_lines rest ≡ [] → out ++ text_of_lines (map content_line (text_lines rest)) ≡ start → out ≡ start
  lines_pushed e so_far =
      sym (append-nil out) ∙ sym (ap (λ (lines : List (List ℕ)). out ++ lines_text lines) e) ∙ so_far
