-- Loops that add to a list what each item of another gives: what was added, and what is still to
-- come, are the whole.
use Rattle.std.proofs.Common.{◌≡◌, ℕ, suc, ◌+◌, ◌<◌, ◌≤◌, List, [], ◌∷◌, ◌++◌, length, get_or, drop, sym, ap, ◌∙◌, append_assoc, append-nil, arith, map}
use Rattle.std.specs.Prelude.{Result, Ok, Err, OnErr}
use Rattle.std.proofs.lemmas.List.{drop_more, drop_all, length-append, length-map, length-drop}
use Rattle.basic_tree.specs.declared.names.Name.{Name}
use Rattle.program_soundness.specs.Added.{AddedSome}

pub added : {A B : Type 0} (come : List A → List B) (by : A → List B) (xs : List A) (i : ℕ) (x : A) (old new whole : List B)
    → ((x : A) (xs : List A) → come (x ∷ xs) ≡ by x ++ come xs) → x ≡ get_or xs i x → i < length xs → new ≡ old ++ by x
    → old ++ come (drop i xs) ≡ whole → new ++ come (drop (i + 1) xs) ≡ whole
added come by xs i x old new whole law is below more so_far =
    ap (λ l. l ++ come (drop (i + 1) xs)) more ∙ append_assoc old (by x) (come (drop (i + 1) xs))
    ∙ sym (ap (λ l. old ++ l) (ap come (drop_more xs i x below ∙ ap (λ y. y ∷ drop (i + 1) xs) (sym is)) ∙ law x (drop (i + 1) xs)))
    ∙ so_far

pub ended : {A B : Type 0} (come : List A → List B) (xs : List A) (i : ℕ) (old whole : List B)
    → come [] ≡ [] → length xs ≤ i → old ++ come (drop i xs) ≡ whole → old ≡ whole
ended come xs i old whole none past so_far = sym (append-nil old) ∙ ap (λ l. old ++ l) (sym (ap come (drop_all i xs past) ∙ none)) ∙ so_far

pub begun : {A B : Type 0} (come : List A → List B) (xs : List A) (old : List B) → old ≡ [] → old ++ come xs ≡ come xs
begun come xs old none = ap (λ l. l ++ come xs) none

-- if what comes depends on the place
pub added_at : {A B : Type 0} (come : ℕ → List A → List B) (by : ℕ → A → List B) (xs : List A) (i : ℕ) (x : A) (old new whole : List B)
    → ((i : ℕ) (x : A) (xs : List A) → come i (x ∷ xs) ≡ by i x ++ come (suc i) xs) → x ≡ get_or xs i x → i < length xs → new ≡ old ++ by i x
    → old ++ come i (drop i xs) ≡ whole → new ++ come (i + 1) (drop (i + 1) xs) ≡ whole
added_at come by xs i x old new whole law is below more so_far =
    ap (λ l. l ++ come (i + 1) (drop (i + 1) xs)) more ∙ append_assoc old (by i x) (come (i + 1) (drop (i + 1) xs))
    ∙ sym (ap (λ l. old ++ l) (ap (come i) (drop_more xs i x below ∙ ap (λ y. y ∷ drop (i + 1) xs) (sym is)) ∙ law i x (drop (i + 1) xs)
    ∙ ap (λ k. by i x ++ come k (drop (i + 1) xs)) (let e : suc i ≡ i + 1 = omega arith in e)))
    ∙ so_far

-- if the item is read from the list itself
pub added_read : {A B : Type 0} (come : List A → List B) (by : A → List B) (xs : List A) (i : ℕ) (d : A) (old new whole : List B)
    → ((x : A) (xs : List A) → come (x ∷ xs) ≡ by x ++ come xs) → i < length xs → new ≡ old ++ by (get_or xs i d)
    → old ++ come (drop i xs) ≡ whole → new ++ come (drop (i + 1) xs) ≡ whole
added_read come by xs i d old new whole law below more so_far =
    ap (λ l. l ++ come (drop (i + 1) xs)) more ∙ append_assoc old (by (get_or xs i d)) (come (drop (i + 1) xs))
    ∙ sym (ap (λ l. old ++ l) (ap come (drop_more xs i d below) ∙ law (get_or xs i d) (drop (i + 1) xs)))
    ∙ so_far

-- if each item gives the same
pub added_same : {A B : Type 0} (come : List A → List B) (one : List B) (xs : List A) (i : ℕ) (old new whole : List B)
    → ((x : A) (xs : List A) → come (x ∷ xs) ≡ one ++ come xs) → i < length xs → new ≡ old ++ one
    → old ++ come (drop i xs) ≡ whole → new ++ come (drop (i + 1) xs) ≡ whole
added_same come one [] i old new whole law below more so_far = absurd (omega arith)
added_same come one (x ∷ xs) i old new whole law below more so_far = added_read come (λ y. one) (x ∷ xs) i x old new whole law below more so_far

-- if not all could be added
pub some_added : {A : Type 0} (f : A → Name) (xs : List A) (i : ℕ) (old names new : List Name) → new ≡ names → names ++ map f (drop i xs) ≡ old ++ map f xs → AddedSome old (map f xs) new
some_added f xs i old names new same is =
    (map f (drop i xs), ap (λ (t : List Name). t ++ map f (drop i xs)) same ∙ is, omega (arith, ap length same, ap length is, length-append names (map f (drop i xs)), length-append old (map f xs), length-map (drop i xs) f, length-map xs f, length-drop i xs))

-- what is true in any case is true if there is no result
pub on_err : {A E P : Type 0} (result : Result A E) → P → OnErr result P
on_err (Ok value) holds = tt
on_err (Err error) holds = holds
