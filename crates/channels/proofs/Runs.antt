-- Bytes of a line, several taken together.
use Rattle.std.proofs.Common.{◌≡◌, inl, inr, ℕ, zero, suc, ◌+◌, ◌-◌, ◌<◌, ◌≤◌, Bool, true, false, List, [], ◌∷◌, ◌++◌, length, take, drop, get_or, refl, sym, ap, ◌∙◌, append_assoc, append-nil, arith}
use Rattle.std.specs.Prelude.{◌==◌, ◌&&◌, not, nat_lt, if◌then◌else◌, cond}
use Rattle.std.specs.List.{prefix_len}
use Rattle.std.proofs.lemmas.Bool.Decides.{eqb_tells, nat_tests}
use Rattle.std.proofs.lemmas.List.{length-append, length-take, take_rest}
use Rattle.std.proofs.lemmas.List.Folds.{length-prefix_len}
use Rattle.channels.specs.declared.lines.Taken.{Taken}
use Rattle.channels.specs.declared.lines.Taken.TheVariants.{LineTaken, TooMany}
use Rattle.channels.specs.declared.lines.TheConstants.{LINE_FEED, MOST_TAKEN}
use Rattle.channels.specs.TextIn.{takes_from, is_kept, line_room}

-- THE FIRST BYTE, and those after it as the code sees them

abbrev pub behind_first : List ℕ → List ℕ
behind_first bytes = take (length bytes - 1) (drop 1 bytes)

cut_first : (bytes : List ℕ) → 1 ≤ length bytes → bytes ≡ get_or bytes 0 0 ∷ behind_first bytes
cut_first [] some = absurd (omega (arith, some))
cut_first (byte ∷ bytes) some = ap (λ (l : List ℕ). byte ∷ l) (sym (take_rest (byte ∷ bytes) 1))

pub behind_first_shorter : (bytes : List ℕ) → length (behind_first bytes) ≤ length bytes
behind_first_shorter bytes =
    let taken = length-take (length bytes - 1) (drop 1 bytes) in
    omega (arith, taken)

not_feed : (byte : ℕ) → (byte ≡ LINE_FEED → ⊥) → (byte == LINE_FEED) ≡ false
not_feed byte other = elim (eqb_tells byte LINE_FEED) [
  | inl p ↦ absurd (other p.1)
  | inr p ↦ p.0
]

-- ONE BYTE

-- what a byte does to a line, by the three tests of it
abbrev by_tests : Bool → Bool → Bool → ℕ → List ℕ → List ℕ → Taken
by_tests z f r byte bytes line =
    if z then takes_from line bytes
    else if f then LineTaken line (length bytes)
    else if r then takes_from (line ++ byte ∷ []) bytes
    else TooMany (length bytes)

-- a byte that is kept
kept_tests : (z f : Bool) → (not z && not f) ≡ true → (z ≡ false) × (f ≡ false)
kept_tests true f is = absurd cc
kept_tests false true is = absurd cc
kept_tests false false is = (refl, refl)

kept_room : (line : List ℕ) → 1 ≤ line_room line → nat_lt (length line + 1) MOST_TAKEN ≡ true
kept_room line more = grind (arith, nat_tests)

kept_full : (line : List ℕ) → line_room line ≡ 0 → nat_lt (length line + 1) MOST_TAKEN ≡ false
kept_full line none = grind (arith, nat_tests)

kept_byte : (line : List ℕ) (byte : ℕ) (bytes : List ℕ) (room : Bool) → is_kept byte ≡ true → nat_lt (length line + 1) MOST_TAKEN ≡ room → takes_from line (byte ∷ bytes) ≡ by_tests false false room byte bytes line
kept_byte line byte bytes room kept has =
    let tests = kept_tests (byte == 0) (byte == LINE_FEED) kept in
    ap (λ (z : Bool). by_tests z (byte == LINE_FEED) (nat_lt (length line + 1) MOST_TAKEN) byte bytes line) tests.0
    ∙ ap (λ (f : Bool). by_tests false f (nat_lt (length line + 1) MOST_TAKEN) byte bytes line) tests.1
    ∙ ap (λ (r : Bool). by_tests false false r byte bytes line) has

-- with one more kept byte there is less room
room_less : (line : List ℕ) (byte : ℕ) → line_room (line ++ byte ∷ []) ≡ line_room line - 1
room_less line byte = let n = length-append line (byte ∷ []) in omega (arith, n)

-- SEVERAL BYTES that are kept

-- as long as the line has room
abbrev behind_run : List ℕ → List ℕ → ℕ → Taken
behind_run line bytes count = takes_from (line ++ take count bytes) (drop count bytes)

pub takes_run : (line bytes : List ℕ) → prefix_len is_kept bytes ≤ line_room line → takes_from line bytes ≡ behind_run line bytes (prefix_len is_kept bytes)
takes_run line [] fits = ap (λ (l : List ℕ). takes_from l []) (sym (append-nil line))
takes_run line (byte ∷ bytes) fits = by (is_kept byte) refl (takes_run (line ++ byte ∷ []) bytes) fits
  where
    by : (kept : Bool) → is_kept byte ≡ kept → (prefix_len is_kept bytes ≤ line_room (line ++ byte ∷ []) → takes_from (line ++ byte ∷ []) bytes ≡ behind_run (line ++ byte ∷ []) bytes (prefix_len is_kept bytes))
        → cond kept (1 + prefix_len is_kept bytes) 0 ≤ line_room line → takes_from line (byte ∷ bytes) ≡ behind_run line (byte ∷ bytes) (cond kept (1 + prefix_len is_kept bytes) 0)
    by false is rest fits = ap (λ (l : List ℕ). takes_from l (byte ∷ bytes)) (sym (append-nil line))
    by true is rest fits =
        let k : ℕ = prefix_len is_kept bytes in
        let more : 1 ≤ line_room line = omega (arith, fits) in
        let less = room_less line byte in
        let short : k ≤ line_room (line ++ byte ∷ []) = omega (arith, fits, less) in
        let on : suc k ≡ 1 + k = omega arith in
        kept_byte line byte bytes true is (kept_room line more) ∙ rest short
        ∙ ap (λ (l : List ℕ). takes_from l (drop k bytes)) (append_assoc line (byte ∷ []) (take k bytes))
        ∙ ap (behind_run line (byte ∷ bytes)) on

-- and if they are too many
pub takes_too_many : (line bytes : List ℕ) → line_room line < prefix_len is_kept bytes → takes_from line bytes ≡ TooMany (length bytes - line_room line - 1)
takes_too_many line [] over = absurd (omega (arith, over))
takes_too_many line (byte ∷ bytes) over = by (is_kept byte) refl (takes_too_many (line ++ byte ∷ []) bytes) over
  where
    by : (kept : Bool) → is_kept byte ≡ kept → (line_room (line ++ byte ∷ []) < prefix_len is_kept bytes → takes_from (line ++ byte ∷ []) bytes ≡ TooMany (length bytes - line_room (line ++ byte ∷ []) - 1))
        → line_room line < cond kept (1 + prefix_len is_kept bytes) 0 → takes_from line (byte ∷ bytes) ≡ TooMany (length (byte ∷ bytes) - line_room line - 1)
    by false is rest over = absurd (omega (arith, over))
    by true is rest over = by_room (line_room line) refl
      where
        by_room : (room : ℕ) → line_room line ≡ room → takes_from line (byte ∷ bytes) ≡ TooMany (length (byte ∷ bytes) - line_room line - 1)
        by_room zero none =
            let left : length bytes ≡ length (byte ∷ bytes) - line_room line - 1 = omega (arith, none) in
            kept_byte line byte bytes false is (kept_full line none) ∙ ap TooMany left
        by_room (suc room) some =
            let more : 1 ≤ line_room line = omega (arith, some) in
            let less = room_less line byte in
            let still : line_room (line ++ byte ∷ []) < prefix_len is_kept bytes = omega (arith, over, less, some) in
            let left : length bytes - line_room (line ++ byte ∷ []) - 1 ≡ length (byte ∷ bytes) - line_room line - 1 = omega (arith, less, some) in
            kept_byte line byte bytes true is (kept_room line more) ∙ rest still ∙ ap TooMany left

-- AFTER KEPT BYTES comes a zero or a line feed

pub run_stops : (bytes : List ℕ) (byte : ℕ) (more : List ℕ) → drop (prefix_len is_kept bytes) bytes ≡ byte ∷ more → is_kept byte ≡ false
run_stops [] byte more is = absurd cc
run_stops (first ∷ bytes) byte more is = by (is_kept first) refl (run_stops bytes byte more) is
  where
    by : (kept : Bool) → is_kept first ≡ kept → (drop (prefix_len is_kept bytes) bytes ≡ byte ∷ more → is_kept byte ≡ false) → drop (cond kept (1 + prefix_len is_kept bytes) 0) (first ∷ bytes) ≡ byte ∷ more → is_kept byte ≡ false
    by false stops rest is = let same : first ≡ byte = cc in sym (ap is_kept same) ∙ stops
    by true goes rest is =
        let on : suc (prefix_len is_kept bytes) ≡ 1 + prefix_len is_kept bytes = omega arith in
        rest (ap (λ (k : ℕ). drop k (first ∷ bytes)) on ∙ is)

not_kept : (z f : Bool) → (not z && not f) ≡ false → f ≡ false → z ≡ true
not_kept true f is off = refl
not_kept false true is off = absurd cc
not_kept false false is off = absurd cc

-- a zero is skipped
pub skips_zero : (line : List ℕ) (byte : ℕ) (more : List ℕ) → is_kept byte ≡ false → (byte == LINE_FEED) ≡ false → takes_from line (byte ∷ more) ≡ takes_from line more
skips_zero line byte more stops other =
    ap (λ (z : Bool). by_tests z (byte == LINE_FEED) (nat_lt (length line + 1) MOST_TAKEN) byte more line) (not_kept (byte == 0) (byte == LINE_FEED) stops other)

-- a line feed ends the line
pub ends_at_feed : (line : List ℕ) (byte : ℕ) (more : List ℕ) → byte ≡ LINE_FEED → takes_from line (byte ∷ more) ≡ LineTaken line (length more)
ends_at_feed line byte more is = ap (λ (b : ℕ). takes_from line (b ∷ more)) is

-- WHAT THE LOOP SEES: kept bytes, what follows them, and its first byte

module _ (line bytes run behind : List ℕ) (count : ℕ) (counted : count ≡ prefix_len is_kept bytes) (front : run ≡ take count bytes) (back : behind ≡ drop count bytes) where
  run_length : length run ≡ prefix_len is_kept bytes
  run_length = ap length (front ∙ ap (λ (k : ℕ). take k bytes) counted) ∙ length-prefix_len is_kept bytes

  pub run_too_long : (room : ℕ) → room ≡ line_room line → room < length run → takes_from line bytes ≡ TooMany (length bytes - room - 1)
  run_too_long room is over =
      let length_is = run_length in
      let long : line_room line < prefix_len is_kept bytes = omega (arith, length_is, over, is) in
      takes_too_many line bytes long ∙ ap (λ (r : ℕ). TooMany (length bytes - r - 1)) (sym is)

  pub run_taken : (room : ℕ) (pushed : List ℕ) → room ≡ line_room line → length run ≤ room → pushed ≡ line ++ run → takes_from line bytes ≡ takes_from pushed behind
  run_taken room pushed is fits push =
      let length_is = run_length in
      let short : prefix_len is_kept bytes ≤ line_room line = omega (arith, length_is, fits, is) in
      takes_run line bytes short ∙ ap (λ (k : ℕ). behind_run line bytes k) (sym counted)
      ∙ ap (λ (l : List ℕ). takes_from (line ++ l) (drop count bytes)) (sym front) ∙ ap (λ (l : List ℕ). takes_from l (drop count bytes)) (sym push) ∙ ap (takes_from pushed) (sym back)

  first_stops : 1 ≤ length behind → is_kept (get_or behind 0 0) ≡ false
  first_stops some = run_stops bytes (get_or behind 0 0) (behind_first behind) (ap (λ (k : ℕ). drop k bytes) (sym counted) ∙ sym back ∙ cut_first behind some)

  pub zero_skipped : (pushed : List ℕ) → 1 ≤ length behind → (get_or behind 0 0 ≡ LINE_FEED → ⊥) → takes_from pushed behind ≡ takes_from pushed (behind_first behind)
  zero_skipped pushed some other = ap (takes_from pushed) (cut_first behind some) ∙ skips_zero pushed (get_or behind 0 0) (behind_first behind) (first_stops some) (not_feed (get_or behind 0 0) other)

-- a line feed comes first
pub feed_taken : (pushed behind : List ℕ) → 1 ≤ length behind → get_or behind 0 0 ≡ LINE_FEED → takes_from pushed behind ≡ LineTaken pushed (length (behind_first behind))
feed_taken pushed behind some is = ap (takes_from pushed) (cut_first behind some) ∙ ends_at_feed pushed (get_or behind 0 0) (behind_first behind) is
