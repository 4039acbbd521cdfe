-- One item of DATA, byte by byte.
use Rattle.std.proofs.Common.{◌≡◌, ℕ, ◌+◌, ◌-◌, ◌<◌, ◌≤◌, true, false, List, [], ◌∷◌, ◌++◌, length, take, drop, get_or, sym, ap, ◌∙◌, arith, length-drop, lt-ltb}
use Rattle.std.specs.Prelude.{Option, None, if◌then◌else◌}
use Rattle.std.proofs.lemmas.Bool.{le-ltb}
use Rattle.std.proofs.lemmas.List.{take_more, get_or-drop, length-take-le}
use Rattle.basic_tree.specs.Tokens.{cuts, quote_after, items_from}
use Rattle.basic_tree.proofs.TokenLemmas.{items_step, items_end}
use Rattle.basic_tree.specs.declared.tokens.TokenKind.TheVariants as kind
use Rattle.basic_scanner.specs.Scan.{item_and_more}

-- nothing of the item has been read at its start
pub item_start : (start : ℕ) (line : List ℕ) → items_from start [] None (drop start line) ≡ items_from start (take (start - start) (drop start line)) None (drop start line)
item_start start line =
    let nothing : 0 ≡ start - start = omega arith in
    ap (λ n. items_from start (take n (drop start line)) None (drop start line)) nothing

module _ (start place : ℕ) (line : List ℕ) (quote : Option ℕ) (behind : start ≤ place) (inside : place < length line) where
  one_more : take (place + 1 - start) (drop start line) ≡ take (place - start) (drop start line) ++ get_or line place 0 ∷ []
  one_more =
      let count : place + 1 - start ≡ place - start + 1 = omega arith in
      let there : start + (place - start) ≡ place = omega arith in
      ap (λ n. take n (drop start line)) count
      ∙ take_more (drop start line) (place - start) 0 (omega (arith, length-drop start line))
      ∙ ap (λ b. take (place - start) (drop start line) ++ b ∷ []) (get_or-drop start line (place - start) 0 ∙ ap (λ k. get_or line k 0) there)

  -- a byte that does not cut is added to the item
  pub item_goes_on : cuts quote (get_or line place 0) ≡ false → items_from start (take (place - start) (drop start line)) quote (drop place line) ≡ items_from start (take (place + 1 - start) (drop start line)) (quote_after quote (get_or line place 0)) (drop (place + 1) line)
  item_goes_on e =
      items_step start (take (place - start) (drop start line)) quote line place inside
      ∙ ap (λ b. if b then record { kind = kind.DataItem; start = start; bytes = take (place - start) (drop start line) } ∷ items_from (start + length (take (place - start) (drop start line)) + 1) [] None (drop (place + 1) line) else items_from start (take (place - start) (drop start line) ++ get_or line place 0 ∷ []) (quote_after quote (get_or line place 0)) (drop (place + 1) line)) e
      ∙ ap (λ item. items_from start item (quote_after quote (get_or line place 0)) (drop (place + 1) line)) (sym one_more)

  -- a comma that cuts ends the item
  pub item_cut : cuts quote (get_or line place 0) ≡ true → items_from start (take (place - start) (drop start line)) quote (drop place line) ≡ item_and_more start place line
  item_cut e =
      let item : List ℕ = take (place - start) (drop start line) in
      let len : length item ≡ place - start = length-take-le (place - start) (drop start line) (omega (arith, length-drop start line)) in
      let next : start + length item + 1 ≡ place + 1 = omega arith in
      items_step start item quote line place inside
      ∙ ap (λ b. if b then record { kind = kind.DataItem; start = start; bytes = item } ∷ items_from (start + length item + 1) [] None (drop (place + 1) line) else items_from start (item ++ get_or line place 0 ∷ []) (quote_after quote (get_or line place 0)) (drop (place + 1) line)) e
      ∙ ap (λ n. record { kind = kind.DataItem; start = start; bytes = item } ∷ items_from n [] None (drop (place + 1) line)) next
      ∙ ap (λ b. record { kind = kind.DataItem; start = start; bytes = item } ∷ (if b then items_from (place + 1) [] None (drop (place + 1) line) else [])) (sym (lt-ltb place (length line) inside))

-- the end of the line ends the last item
pub item_last : (start : ℕ) (line : List ℕ) (quote : Option ℕ) → items_from start (take (length line - start) (drop start line)) quote (drop (length line) line) ≡ item_and_more start (length line) line
item_last start line quote =
    let item : List ℕ = take (length line - start) (drop start line) in
    items_end start item quote line (length line) (omega arith)
    ∙ ap (λ b. record { kind = kind.DataItem; start = start; bytes = item } ∷ (if b then items_from (length line + 1) [] None (drop (length line + 1) line) else [])) (sym (le-ltb (length line) (length line) (omega arith)))

-- the rules of the search for the end of an item
pub ruleset item_steps = (item_start, item_goes_on, item_cut, item_last)
