-- The tokens of a line, one after another.
use Rattle.std.proofs.Common.{◌≡◌, ℕ, zero, suc, ◌+◌, ◌-◌, ◌<◌, ◌≤◌, List, [], ◌∷◌, ◌++◌, length, take, drop, refl, sym, ap, ◌∙◌, arith, add-zero, append_assoc, append-nil, length-drop, get_or}
use Rattle.std.specs.Prelude.{Ok, Err, Option, None, if◌then◌else◌}
use Rattle.std.proofs.lemmas.List.{drop-drop, drop_all, at_drop_more, at_drop_all}
use Rattle.basic_tree.specs.Tokens.{Lexeme, Reading, front_of, cuts, quote_after, items_from, width, with_tokens, read_on, tokens_from}
use Rattle.basic_tree.specs.declared.tokens.TokenKind.{TokenKind}
use Rattle.basic_tree.specs.declared.tokens.TokenKind.TheVariants as kind
use Rattle.basic_tree.specs.declared.tokens.Cause.{Cause}
use Rattle.basic_tree.specs.declared.tokens.Front.{Front}
use Rattle.basic_tree.specs.declared.tokens.Front.TheVariants as front

-- bytes of the token before are skipped
pub passed_by : (place n : ℕ) (bytes : List ℕ) → tokens_from place n bytes ≡ tokens_from (place + n) 0 (drop n bytes)
unfolding tokens_from
passed_by place zero bytes = ap (λ p. tokens_from p 0 bytes) (sym (add-zero place))
passed_by place (suc n) [] = refl
passed_by place (suc n) (b ∷ bytes) = passed_by (place + 1) n bytes ∙ ap (λ p. tokens_from p 0 (drop n bytes)) (omega arith)

behind : (w : ℕ) → 0 < w → (place b : ℕ) (bytes : List ℕ) → tokens_from (place + 1) (w - 1) bytes ≡ tokens_from (place + w) 0 (drop w (b ∷ bytes))
behind zero some place b bytes = absurd (omega arith)
behind (suc n) some place b bytes =
    let less : suc n - 1 ≡ n = omega arith in
    let there : place + 1 + n ≡ place + suc n = omega arith in
    ap (λ k. tokens_from (place + 1) k bytes) less ∙ passed_by (place + 1) n bytes ∙ ap (λ p. tokens_from p 0 (drop n bytes)) there

-- what the rest begins with, and the tokens after that
pub tokens_step : (place : ℕ) (rest : List ℕ) (f : Front) → 0 < length rest → 0 < width f → front_of rest ≡ f → tokens_from place 0 rest ≡ read_on place rest f (tokens_from (place + width f) 0 (drop (width f) rest))
unfolding tokens_from
tokens_step place [] f nonempty some e = absurd (omega arith)
tokens_step place (b ∷ bytes) f nonempty some e =
    ap (λ g. read_on place (b ∷ bytes) g (tokens_from (place + 1) (width g - 1) bytes)) e
    ∙ ap (λ later. read_on place (b ∷ bytes) f later) (behind (width f) some place b bytes)

with_more : (first second : List Lexeme) (later : Reading) → with_tokens first (with_tokens second later) ≡ with_tokens (first ++ second) later
with_more first second (Ok tokens) = ap (λ (ts : List Lexeme). Ok ts) (sym (append_assoc first second tokens))
with_more first second (Err refusal) = refl

-- ---- the cases of a place in a line, after the tokens so far

-- nothing follows the end
pub at_end : (sofar : List Lexeme) (line : List ℕ) (place : ℕ) → length line ≤ place → with_tokens sofar (tokens_from place 0 (drop place line)) ≡ Ok sofar
unfolding tokens_from
at_end sofar line place past =
    ap (λ rest. with_tokens sofar (tokens_from place 0 rest)) (drop_all place line past) ∙ ap (λ (ts : List Lexeme). Ok ts) (append-nil sofar)

module _ (sofar : List Lexeme) (line : List ℕ) (place : ℕ) (inside : place < length line) where
  here : (f : Front) → 0 < width f → front_of (drop place line) ≡ f → with_tokens sofar (tokens_from place 0 (drop place line)) ≡ with_tokens sofar (read_on place (drop place line) f (tokens_from (place + width f) 0 (drop (place + width f) line)))
  here f some e =
      let nonempty : 0 < length (drop place line) = omega (arith, length-drop place line) in
      ap (with_tokens sofar) (tokens_step place (drop place line) f nonempty some e
      ∙ ap (λ rest. read_on place (drop place line) f (tokens_from (place + width f) 0 rest)) (drop-drop (width f) place line))

  pub at_blank : front_of (drop place line) ≡ front.Blank → with_tokens sofar (tokens_from place 0 (drop place line)) ≡ with_tokens sofar (tokens_from (place + 1) 0 (drop (place + 1) line))
  at_blank e = here front.Blank (omega arith) e

  pub at_comment : front_of (drop place line) ≡ front.Comment → with_tokens sofar (tokens_from place 0 (drop place line)) ≡ Ok sofar
  at_comment e = here front.Comment (omega arith) e ∙ ap (λ (ts : List Lexeme). Ok ts) (append-nil sofar)

  pub at_refused : (why : Cause) → front_of (drop place line) ≡ front.Refused why → with_tokens sofar (tokens_from place 0 (drop place line)) ≡ Err (record { place = place; cause = why })
  at_refused why e = here (front.Refused why) (omega arith) e

  pub at_token : (k : TokenKind) (len : ℕ) → front_of (drop place line) ≡ front.Token k len → 0 < len → with_tokens sofar (tokens_from place 0 (drop place line)) ≡ with_tokens (sofar ++ record { kind = k; start = place; bytes = take len (drop place line) } ∷ []) (tokens_from (place + len) 0 (drop (place + len) line))
  at_token k len e some = here (front.Token k len) some e ∙ with_more sofar (record { kind = k; start = place; bytes = take len (drop place line) } ∷ []) (tokens_from (place + len) 0 (drop (place + len) line))

  pub at_data : front_of (drop place line) ≡ front.Data → with_tokens sofar (tokens_from place 0 (drop place line)) ≡ Ok ((sofar ++ record { kind = kind.Keyword; start = place; bytes = take 4 (drop place line) } ∷ []) ++ items_from (place + 4) [] None (drop (place + 4) line))
  at_data e =
      let data_token : Lexeme = record { kind = kind.Keyword; start = place; bytes = take 4 (drop place line) } in
      here front.Data (omega arith) e
      ∙ ap (λ rest. Ok (sofar ++ data_token ∷ items_from (place + 4) [] None rest)) (drop-drop 4 place line)
      ∙ ap (λ (ts : List Lexeme). Ok ts) (sym (append_assoc sofar (data_token ∷ []) (items_from (place + 4) [] None (drop (place + 4) line))))

-- a byte of an item, or a comma after it
pub items_step : (start : ℕ) (item : List ℕ) (quote : Option ℕ) (line : List ℕ) (k : ℕ) → k < length line → items_from start item quote (drop k line) ≡ (if cuts quote (get_or line k 0) then record { kind = kind.DataItem; start = start; bytes = item } ∷ items_from (start + length item + 1) [] None (drop (k + 1) line) else items_from start (item ++ get_or line k 0 ∷ []) (quote_after quote (get_or line k 0)) (drop (k + 1) line))
unfolding items_from
items_step start item quote line k inside = at_drop_more (items_from start item quote) line k 0 inside

-- the end of the line ends the last item
pub items_end : (start : ℕ) (item : List ℕ) (quote : Option ℕ) (line : List ℕ) (k : ℕ) → length line ≤ k → items_from start item quote (drop k line) ≡ record { kind = kind.DataItem; start = start; bytes = item } ∷ []
unfolding items_from
items_end start item quote line k past = at_drop_all (items_from start item quote) line k past
