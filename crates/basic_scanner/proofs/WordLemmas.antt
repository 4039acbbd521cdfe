-- Words that the rest of a line begins with.
use Rattle.std.proofs.Common.{◌≡◌, ℕ, suc, ◌+◌, ◌<◌, ◌≤◌, Bool, true, false, List, [], ◌∷◌, length, drop, get_or, refl, sym, ap, ◌∙◌, arith, add-one, drop-cons, take}
use Rattle.std.specs.Prelude.{◌==◌, ◌&&◌, max, if◌then◌else◌, find, Option, Some, None}
use Rattle.std.specs.Option.{option_map}
use Rattle.std.specs.Borrow.{Bor}
use Rattle.std.specs.Char.{to_ascii_uppercase}
use Rattle.basic_tree.specs.Tokens.{is_at_front, longest_length, is_word, spelled}
use Rattle.basic_scanner.specs.Tables.{entries}
use Rattle.std.proofs.lemmas.List.{map_more, drop_all}
use Rattle.std.proofs.lemmas.List.Sums.{fold_push}

and_false : (b : Bool) → (b && false) ≡ false
and_false true = refl
and_false false = refl

and_right : (a b : Bool) → (a && b) ≡ true → b ≡ true
and_right true b e = e
and_right false b e = absurd (cc)

-- a rest that is shorter than the word does not begin with it
pub stands_short : (word rest : List ℕ) → length rest < length word → is_at_front word rest ≡ false
stands_short [] rest lt = absurd (omega arith)
stands_short (letter ∷ word) [] lt = refl
stands_short (letter ∷ word) (b ∷ rest) lt =
    ap (λ s. to_ascii_uppercase b == letter && s) (stands_short word rest (omega arith)) ∙ and_false (to_ascii_uppercase b == letter)

-- whether the words agree from a place on is decided by the letters there and by what follows
pub stands_step : (k : ℕ) (word rest : List ℕ) → k < length word → k < length rest → is_at_front (drop k word) (drop k rest) ≡ (to_ascii_uppercase (get_or rest k 0) == get_or word k 0 && is_at_front (drop (k + 1) word) (drop (k + 1) rest))
stands_step k word rest in_word in_rest = rw (add-one, drop-cons word k 0, drop-cons rest k 0) refl

-- one more entry of a table
longest_more : {W : Type 0} (table : List (W × Bor (List ℕ))) (rest : List ℕ) (i : ℕ) (d : W × Bor (List ℕ)) → i < length table → longest_length (entries (take (i + 1) table)) rest ≡ (if is_at_front (get_or table i d).1.now rest then max (longest_length (entries (take i table)) rest) (length (get_or table i d).1.now) else longest_length (entries (take i table)) rest)
longest_more table rest i d lt = ap (λ front. longest_length front rest) (map_more (λ entry. (entry.0, entry.1.now)) table i d lt) ∙ fold_push _ 0 (entries (take i table)) ((get_or table i d).0, (get_or table i d).1.now)

pub longest_by : {W : Type 0} (table : List (W × Bor (List ℕ))) (rest : List ℕ) (i longest : ℕ) (entry : W × Bor (List ℕ)) → i < length table → entry ≡ get_or table i entry → longest ≡ longest_length (entries (take i table)) rest → longest_length (entries (take (i + 1) table)) rest ≡ (if is_at_front entry.1.now rest then max longest (length entry.1.now) else longest)
longest_by {W} table rest i longest entry lt at so_far =
    longest_more table rest i entry lt
    ∙ ap (λ (e : W × Bor (List ℕ)). if is_at_front e.1.now rest then max (longest_length (entries (take i table)) rest) (length e.1.now) else longest_length (entries (take i table)) rest) (sym at)
    ∙ ap (λ n. if is_at_front entry.1.now rest then max n (length entry.1.now) else n) (sym so_far)

-- a word that the rest begins with is no longer than the rest
pub stands_within : (word rest : List ℕ) → is_at_front word rest ≡ true → length word ≤ length rest
stands_within [] rest e = omega arith
stands_within (letter ∷ word) [] e = absurd (cc)
stands_within (letter ∷ word) (b ∷ rest) e = omega (arith, stands_within word rest (and_right (to_ascii_uppercase b == letter) (is_at_front word rest) e))

-- what is found from an entry of a table on
spelled_step : {W : Type 0} (table : List (W × Bor (List ℕ))) (bytes : List ℕ) (i : ℕ) (d : W × Bor (List ℕ)) → i < length table → spelled (entries (drop i table)) bytes ≡ (if is_word (get_or table i d).1.now bytes then Some (get_or table i d).0 else spelled (entries (drop (i + 1) table)) bytes)
spelled_step {W} table bytes i d lt =
    rw (add-one, drop-cons table i d) (found_or_later (is_word (get_or table i d).1.now bytes) ((get_or table i d).0, (get_or table i d).1.now) (find (λ entry. is_word entry.1 bytes) (entries (drop (suc i) table)))) where
      found_or_later : (b : Bool) (entry : W × List ℕ) (later : Option (W × List ℕ)) → option_map (λ e. e.0) (if b then Some entry else later) ≡ (if b then Some entry.0 else option_map (λ e. e.0) later)
      found_or_later true entry later = refl
      found_or_later false entry later = refl

module _ {W : Type 0} (table : List (W × Bor (List ℕ))) (bytes : List ℕ) (i : ℕ) where
  -- the bytes are the word of the entry, or are not
  pub spelled_by : (b : Bool) (entry : W × Bor (List ℕ)) → i < length table → entry ≡ get_or table i entry → b ≡ is_word entry.1.now bytes → spelled (entries (drop i table)) bytes ≡ (if b then Some entry.0 else spelled (entries (drop (i + 1) table)) bytes)
  spelled_by b entry lt at is =
      spelled_step table bytes i entry lt
      ∙ ap (λ (e : W × Bor (List ℕ)). if is_word e.1.now bytes then Some e.0 else spelled (entries (drop (i + 1) table)) bytes) (sym at)
      ∙ ap (λ (it : Bool). if it then Some entry.0 else spelled (entries (drop (i + 1) table)) bytes) (sym is)

  -- after the last entry nothing is found
  pub spelled_end : length table ≤ i → spelled (entries (drop i table)) bytes ≡ None
  spelled_end le = ap (λ (rest : List (W × Bor (List ℕ))). spelled (entries rest) bytes) (drop_all i table le)
