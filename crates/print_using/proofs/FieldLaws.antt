-- The field that reading finds is the longest with which the format begins.
use Rattle.std.proofs.Common.{◌≡◌, ℕ, zero, suc, ◌<◌, ◌≤◌, ◌+◌, ◌⊎◌, Bool, true, false, cond, eqb, List, [], ◌∷◌, ◌++◌, length, drop, Option, Some, None, refl, sym, ap, subst, ◌∙◌, arith, append_assoc, length-append, inl, inr}
use Rattle.std.specs.Prelude.{replicate, nat_le, IfSome}
use Rattle.std.proofs.lemmas.Bool.{eqb-true, le-leb, ne_eqb}
use Rattle.basic_values.proofs.CutLaws.{guard_some}
use Rattle.std.proofs.lemmas.List.{drop_at, length-replicate}
use Rattle.print_using.specs.declared.fields.Field.{Field}
use Rattle.print_using.specs.declared.fields.Field.TheVariants.{Initial, Column, Digits}
use Rattle.print_using.specs.Fields.{stars, minus_place, field_spelling, has_place}
use Rattle.print_using.specs.Formats.{StandsInFront, HasNoFieldInFront, IsLongestField}
use Rattle.print_using.specs.FormatFronts.{run_of, has_at, digits_front, column_front, starred_front, front_by, front_field}
use Rattle.print_using.proofs.RunLemmas.{run_split, run_behind, at_behind, at_first}

pub some_is : {A : Type 0} (x y : A) → Some x ≡ Some y → x ≡ y
some_is x y e = cc

-- a byte and what follows it
pub front_cons : (byte : ℕ) (rest : List ℕ) → front_field (byte ∷ rest) ≡ front_by byte (byte ∷ rest)
front_cons byte rest = ap (λ b. cond b None (front_by byte (byte ∷ rest))) (ne_eqb (suc (length rest)) 0 (λ e. omega arith))

-- ---- the format begins with what is found

-- there is a rest after it
abbrev pub Stands : Field → List ℕ → Type 0
Stands field format = (rest : List ℕ) × StandsInFront field rest format

digits_split : (text : List ℕ) (trailing : Bool) → has_at 45 (run_of 35 text) text ≡ trailing → (rest : List ℕ) × (text ≡ replicate (run_of 35 text) 35 ++ (minus_place trailing ++ rest))
digits_split text true e =
    (drop (suc (run_of 35 text)) text, run_split 35 text ∙ ap (λ t. replicate (run_of 35 text) 35 ++ t) (at_first 45 (run_of 35 text) text refl e))
digits_split text false e = (drop (run_of 35 text) text, run_split 35 text)

three_parts : (a b c d : List ℕ) → a ++ (b ++ (c ++ d)) ≡ a ++ b ++ c ++ d
three_parts a b c d = sym (append_assoc a b (c ++ d)) ∙ sym (append_assoc (a ++ b) c d)

digits_stand : (starred : Bool) (text : List ℕ) → (rest : List ℕ) × (stars starred ++ text ≡ field_spelling (digits_front starred text) ++ rest)
digits_stand starred text =
    let n : ℕ = run_of 35 text in
    let trailing : Bool = has_at 45 n text in
    let split = digits_split text trailing refl in
    (split.0, ap (λ t. stars starred ++ t) split.1 ∙ three_parts (stars starred) (replicate n 35) (minus_place trailing) split.0)

-- with its `**`, or from its first `#` on
run_begun : (rest : List ℕ) → run_of 35 (35 ∷ rest) ≡ suc (run_of 35 rest)
run_begun rest = run_behind 35 1 rest ∙ omega arith

stands_at_signs : (rest : List ℕ) → Stands (digits_front false (35 ∷ rest)) (35 ∷ rest)
stands_at_signs rest =
    let stand = digits_stand false (35 ∷ rest) in
    let some : nat_le 1 (run_of 35 (35 ∷ rest)) ≡ true =
    le-leb 1 (run_of 35 (35 ∷ rest)) (omega (arith, run_begun rest)) in
    (stand.0, record { is = stand.1; placed = some })

stands_at_stars : (rest : List ℕ) (field : Field) → starred_front rest ≡ Some field → Stands field (42 ∷ rest)
stands_at_stars rest field e =
    let found = guard_some (has_at 42 0 rest) (digits_front true (drop 1 rest)) field e in
    let stand = digits_stand true (drop 1 rest) in
    let second : rest ≡ 42 ∷ drop 1 rest = at_first 42 0 rest refl found.0 in
    subst (λ (f : Field). Stands f (42 ∷ rest)) found.1
    (stand.0, record { is = ap (λ t. 42 ∷ t) second ∙ stand.1; placed = refl })

stands_at_bar : (rest : List ℕ) (field : Field) → column_front rest ≡ Some field → Stands field (92 ∷ rest)
stands_at_bar rest field e =
    let n : ℕ = run_of 32 rest in
    let found = guard_some (has_at 92 n rest) (Column n) field e in
    let bar : drop n rest ≡ 92 ∷ drop (suc n) rest = at_first 92 n rest refl found.0 in
    let whole : rest ≡ replicate n 32 ++ 92 ∷ [] ++ drop (suc n) rest =
    run_split 32 rest ∙ ap (λ t. replicate n 32 ++ t) bar
    ∙ sym (append_assoc (replicate n 32) (92 ∷ []) (drop (suc n) rest)) in
    subst (λ (f : Field). Stands f (92 ∷ rest)) found.1
    (drop (suc n) rest, record { is = ap (λ t. 92 ∷ t) whole; placed = refl })

-- the byte that was tested is the first one
byte_is : (wanted byte : ℕ) (rest : List ℕ) (field : Field) → eqb byte wanted ≡ true → Stands field (wanted ∷ rest) → Stands field (byte ∷ rest)
byte_is wanted byte rest field e stands =
    subst (λ (b : ℕ). Stands field (b ∷ rest)) (sym (eqb-true byte wanted e)) stands

stands_at_mark : (byte : ℕ) (rest : List ℕ) (field : Field) → eqb byte 33 ≡ true → Some Initial ≡ Some field → Stands field (byte ∷ rest)
stands_at_mark byte rest field eq e =
    subst (λ (f : Field). Stands f (byte ∷ rest)) (some_is Initial field e)
    (byte_is 33 byte rest Initial eq (rest, record { is = refl; placed = refl }))

stands_at_sign : (byte : ℕ) (rest : List ℕ) (field : Field) → eqb byte 35 ≡ true → Some (digits_front false (byte ∷ rest)) ≡ Some field → Stands field (byte ∷ rest)
stands_at_sign byte rest field eq e =
    let stands : Stands (digits_front false (byte ∷ rest)) (byte ∷ rest) =
    subst (λ (b : ℕ). Stands (digits_front false (b ∷ rest)) (b ∷ rest)) (sym (eqb-true byte 35 eq)) (stands_at_signs rest) in
    subst (λ (f : Field). Stands f (byte ∷ rest)) (some_is (digits_front false (byte ∷ rest)) field e) stands

-- the tests on the first byte, with a Bool for each
abbrev front_tests : Bool → Bool → Bool → Bool → List ℕ → Option Field
front_tests a b c d format =
    cond a (Some Initial) (cond b (column_front (drop 1 format)) (cond c (starred_front (drop 1 format)) (cond d (Some (digits_front false format)) None)))

stands_by : (byte : ℕ) (rest : List ℕ) (field : Field) (a b c d : Bool) → eqb byte 33 ≡ a → eqb byte 92 ≡ b → eqb byte 42 ≡ c → eqb byte 35 ≡ d → front_tests a b c d (byte ∷ rest) ≡ Some field → Stands field (byte ∷ rest)
stands_by byte rest field true b c d ea eb ec ed e = stands_at_mark byte rest field ea e
stands_by byte rest field false true c d ea eb ec ed e = byte_is 92 byte rest field eb (stands_at_bar rest field e)
stands_by byte rest field false false true d ea eb ec ed e =
    byte_is 42 byte rest field ec (stands_at_stars rest field e)
stands_by byte rest field false false false true ea eb ec ed e = stands_at_sign byte rest field ed e
stands_by byte rest field false false false false ea eb ec ed e = absurd cc

pub front_stands : (format : List ℕ) (field : Field) → front_field format ≡ Some field → Stands field format
unfolding front_by
front_stands [] field e = absurd cc
front_stands (byte ∷ rest) field e =
    stands_by byte rest field (eqb byte 33) (eqb byte 92) (eqb byte 42) (eqb byte 35) refl refl refl refl (sym (front_cons byte rest) ∙ e)

-- ---- a field with which the format begins is found, or a longer one

pub spelling_length : (starred : Bool) (signs : ℕ) (trailing : Bool) → length (field_spelling (Digits starred signs trailing)) ≡ length (stars starred) + signs + length (minus_place trailing)
spelling_length starred signs trailing =
    length-append (stars starred ++ replicate signs 35) (minus_place trailing)
    ∙ ap (λ n. n + length (minus_place trailing)) (length-append (stars starred) (replicate signs 35) ∙ ap (λ n. length (stars starred) + n) (length-replicate signs 35))

abbrev IsOrLonger : Field → Field → Type 0
IsOrLonger found other = (found ≡ other) ⊎ (length (field_spelling other) < length (field_spelling found))

-- more signs, or a minus after the same number of signs
longer : (starred : Bool) (signs more : ℕ) (trailing : Bool) → signs < more + length (minus_place trailing) → IsOrLonger (Digits starred more trailing) (Digits starred signs false)
longer starred signs more trailing lt =
    let short = spelling_length starred signs false in
    let long = spelling_length starred more trailing in
    inr (omega (arith, short, long, lt))

signs_found : (starred : Bool) (signs run more : ℕ) (trailing : Bool) → run ≡ signs + more → IsOrLonger (Digits starred run trailing) (Digits starred signs false)
signs_found starred signs run zero false e =
    let same : run ≡ signs = omega (arith, e) in
    inl (λ i. Digits starred (same i) false)
signs_found starred signs run zero true e = longer starred signs run true (omega (arith, e))
signs_found starred signs run (suc more) trailing e = longer starred signs run trailing (omega (arith, e))

digits_found : (starred : Bool) (signs : ℕ) (trailing : Bool) (behind : List ℕ) → IsOrLonger (digits_front starred (replicate signs 35 ++ (minus_place trailing ++ behind))) (Digits starred signs trailing)
digits_found starred signs true behind =
    let text : List ℕ = replicate signs 35 ++ 45 ∷ behind in
    let run : run_of 35 text ≡ signs + 0 = run_behind 35 signs (45 ∷ behind) in
    let same : run_of 35 text ≡ signs = omega (arith, run) in
    let minus : has_at 45 (run_of 35 text) text ≡ true =
    ap (λ k. has_at 45 k text) run ∙ at_behind 35 45 signs (45 ∷ behind) 0 in
    inl (λ i. Digits starred (same i) (minus i))
digits_found starred signs false behind =
    let text : List ℕ = replicate signs 35 ++ behind in
    signs_found starred signs (run_of 35 text) (run_of 35 behind) (has_at 45 (run_of 35 text) text) (run_behind 35 signs behind)

column_found : (spaces : ℕ) (behind : List ℕ) → column_front (replicate spaces 32 ++ 92 ∷ behind) ≡ Some (Column spaces)
column_found spaces behind =
    let text : List ℕ = replicate spaces 32 ++ 92 ∷ behind in
    let run : run_of 32 text ≡ spaces + 0 = run_behind 32 spaces (92 ∷ behind) in
    let same : run_of 32 text ≡ spaces = omega (arith, run) in
    let bar : has_at 92 (run_of 32 text) text ≡ true =
    ap (λ k. has_at 92 k text) run ∙ at_behind 32 92 spaces (92 ∷ behind) 0 in
    λ i. cond (bar i) (Some (Column (same i))) None

record FoundOrLonger (other : Field) (format : List ℕ) : Type 0 where
  found : Field
  is : front_field format ≡ Some found
  best : IsOrLonger found other

spelling_found : (other : Field) (rest : List ℕ) → has_place other ≡ true → FoundOrLonger other (field_spelling other ++ rest)
unfolding front_by
spelling_found Initial rest placed = record { found = Initial; is = front_cons 33 rest; best = inl refl }
spelling_found (Column spaces) rest placed =
    let behind : replicate spaces 32 ++ 92 ∷ [] ++ rest ≡ replicate spaces 32 ++ 92 ∷ rest =
    append_assoc (replicate spaces 32) (92 ∷ []) rest in
    record {
      found = Column spaces;
      is = front_cons 92 (replicate spaces 32 ++ 92 ∷ [] ++ rest) ∙ ap column_front behind ∙ column_found spaces rest;
      best = inl refl;
    }
spelling_found (Digits true signs trailing) rest placed =
    let text : List ℕ = replicate signs 35 ++ (minus_place trailing ++ rest) in
    let whole = three_parts (42 ∷ 42 ∷ []) (replicate signs 35) (minus_place trailing) rest in
    record {
      found = digits_front true text;
      is = ap front_field (sym whole) ∙ front_cons 42 (42 ∷ text);
      best = digits_found true signs trailing rest;
    }
spelling_found (Digits false zero trailing) rest placed = absurd cc
spelling_found (Digits false (suc signs) trailing) rest placed =
    let text : List ℕ = replicate signs 35 ++ (minus_place trailing ++ rest) in
    let whole = three_parts [] (replicate (suc signs) 35) (minus_place trailing) rest in
    record {
      found = digits_front false (35 ∷ text);
      is = ap front_field (sym whole) ∙ front_cons 35 text;
      best = digits_found false (suc signs) trailing rest;
    }

stands_found : (other : Field) (rest format : List ℕ) → StandsInFront other rest format → FoundOrLonger other format
stands_found other rest format stands =
    subst (λ (t : List ℕ). FoundOrLonger other t) (sym stands.is) (spelling_found other rest stands.placed)

-- ---- so the one that is found is the longest, and the longest is found

at_least : (found other : Field) → IsOrLonger found other → length (field_spelling other) ≤ length (field_spelling found)
at_least found other (inl same) = omega (arith, ap (λ f. length (field_spelling f)) same)
at_least found other (inr more) = omega (arith, more)

pub found_is_longest : (format : List ℕ) (field : Field) → front_field format ≡ Some field → (rest : List ℕ) × IsLongestField field rest format
found_is_longest format field e =
    let stands = front_stands format field e in (
      stands.0,
      record {
        in_front = stands.1;
        longest = λ other behind standing.
            let best = stands_found other behind format standing in
            let same : best.found ≡ field = some_is best.found field (sym best.is ∙ e) in
            subst (λ (f : Field). length (field_spelling other) ≤ length (field_spelling f)) same (at_least best.found other best.best);
      },
    )

is_it : (found field : Field) → IsOrLonger found field → length (field_spelling found) ≤ length (field_spelling field) → found ≡ field
is_it found field (inl same) most = same
is_it found field (inr more) most = absurd (omega (arith, more, most))

pub longest_is_found : (field : Field) (rest format : List ℕ) → IsLongestField field rest format → front_field format ≡ Some field
longest_is_found field rest format is =
    let best = stands_found field rest format is.in_front in
    let stands = front_stands format best.found best.is in
    let most = is.longest best.found stands.0 stands.1 in
    best.is ∙ ap (λ f. Some f) (is_it best.found field best.best most)

none_found : {A : Type 0} (x : A) → Some x ≡ None → ⊥
none_found x e = absurd cc

pub nothing_stands : (format : List ℕ) → front_field format ≡ None → HasNoFieldInFront format
nothing_stands format e field rest stands =
    let best = stands_found field rest format stands in
    none_found best.found (sym best.is ∙ e)

nothing_by : (format : List ℕ) (found : Option Field) → front_field format ≡ found → HasNoFieldInFront format → found ≡ None
nothing_by format None e none = refl
nothing_by format (Some field) e none =
    let stands = front_stands format field e in
    absurd (none field stands.0 stands.1)

pub nothing_found : (format : List ℕ) → HasNoFieldInFront format → front_field format ≡ None
nothing_found format none = nothing_by format (front_field format) refl none

-- what follows the field that is found
pub behind_field : (field : Field) (rest format : List ℕ) → StandsInFront field rest format → drop (length (field_spelling field)) format ≡ rest
behind_field field rest format stands =
    ap (λ t. drop (length (field_spelling field)) t) stands.is ∙ drop_at (field_spelling field) rest (length (field_spelling field)) refl

-- which lies in the format
within_by : (format : List ℕ) (field : Field) → Stands field format → length (field_spelling field) ≤ length format
within_by format field stands =
    let whole = ap length stands.1.is ∙ length-append (field_spelling field) stands.0 in
    omega (arith, whole)

pub front_within : (format : List ℕ) (found : Option Field) → front_field format ≡ found → IfSome found (λ field. length (field_spelling field) ≤ length format)
front_within format None e = tt
front_within format (Some field) e = within_by format field (front_stands format field e)
