-- Where the bytes of a file are split into lines.
use Rattle.std.proofs.Common.{◌≡◌, ℕ, ◌+◌, ◌<◌, Bool, true, false, List, [], ◌∷◌, length, take, drop, get_or, refl, ap, ◌∙◌, arith}
use Rattle.std.specs.Prelude.{not}
use Rattle.std.specs.List.{position_or_len, slice_split}
use Rattle.std.proofs.lemmas.List.Elements.{All-from_get_or}
use Rattle.std.proofs.lemmas.List.Splits.{slice_split_first, slice_split_none, length-slice_split}
use Rattle.std.proofs.lemmas.List.Sums.{prefix_len_is}
use Rattle.basic_tree.specs.FileLines.{is_line_feed, without_return, lines_between, file_lines}

abbrev NoFeedBelow : ℕ → List ℕ → Type 0
NoFeedBelow n text = (k : ℕ) → k < n → is_line_feed (get_or text k 0) ≡ false

place_is : (p : ℕ → Bool) (text : List ℕ) (n : ℕ) → n < length text → ((k : ℕ) → k < n → p (get_or text k 0) ≡ false) → p (get_or text n 0) ≡ true → position_or_len p text ≡ n
place_is p text n lt before here =
    prefix_len_is (λ byte. not (p byte)) text n 0 (omega arith) (λ k lt. ap not (before k lt)) (λ lt. ap not here)

-- a piece before others is a line
pub line_between : (piece : List ℕ) (pieces : List (List ℕ)) → 0 < length pieces → lines_between (piece ∷ pieces) ≡ without_return piece ∷ lines_between pieces
line_between piece [] some = absurd (omega arith)
line_between [] (next ∷ pieces) some = refl
line_between (byte ∷ bytes) (next ∷ pieces) some = refl

pub split_some : (text : List ℕ) → 0 < length (slice_split is_line_feed text)
split_some text = omega (arith, length-slice_split is_line_feed text)

split_at : (text : List ℕ) (n : ℕ) → n < length text → NoFeedBelow n text → is_line_feed (get_or text n 0) ≡ true → slice_split is_line_feed text ≡ take n text ∷ slice_split is_line_feed (drop (n + 1) text)
split_at text n lt before here =
    let place : position_or_len is_line_feed text ≡ n = place_is is_line_feed text n lt before here in
    slice_split_first is_line_feed text 0 (omega (arith, place))
    ∙ ap (λ (k : ℕ). take k text ∷ slice_split is_line_feed (drop (k + 1) text)) place

-- up to an LF
pub cut_line : (text : List ℕ) (n : ℕ) → n < length text → NoFeedBelow n text → is_line_feed (get_or text n 0) ≡ true → file_lines text ≡ without_return (take n text) ∷ file_lines (drop (n + 1) text)
cut_line text n lt before here =
    ap lines_between (split_at text n lt before here)
    ∙ line_between (take n text) (slice_split is_line_feed (drop (n + 1) text)) (split_some (drop (n + 1) text))

-- up to the end
last_line : (text : List ℕ) → 0 < length text → lines_between (text ∷ []) ≡ text ∷ []
last_line [] some = absurd (omega arith)
last_line (byte ∷ bytes) some = refl

pub one_line : (text : List ℕ) → 0 < length text → NoFeedBelow (length text) text → file_lines text ≡ text ∷ []
one_line text some none =
    ap lines_between (slice_split_none is_line_feed text (All-from_get_or (λ byte. is_line_feed byte ≡ false) text 0 none)) ∙ last_line text some
