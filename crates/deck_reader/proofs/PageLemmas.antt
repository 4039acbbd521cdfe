-- Pages cut from the start of a file's bytes, one by one.
use Rattle.std.proofs.Common.{◌≡◌, ℕ, suc, List, [], ◌∷◌, ◌++◌, take, drop, sym, ap, ◌∙◌, append_assoc}
use Rattle.std.proofs.lemmas.List.{append-nil}
use Rattle.deck_model.specs.Files.{pages_of}

pub page_taken : (pages : List (List ℕ)) (page left : List ℕ) (n k : ℕ) (all : List (List ℕ)) → n ≡ suc k → page ≡ take 512 left → pages ++ pages_of n left ≡ all → (pages ++ page ∷ []) ++ pages_of k (drop 512 left) ≡ all
unfolding pages_of
page_taken pages page left n k all is_n is_page inv =
    append_assoc pages (page ∷ []) (pages_of k (drop 512 left))
    ∙ ap (λ (p : List ℕ). pages ++ p ∷ pages_of k (drop 512 left)) is_page
    ∙ ap (λ (m : ℕ). pages ++ pages_of m left) (sym is_n)
    ∙ inv

pub pages_done : (pages : List (List ℕ)) (left : List ℕ) (n : ℕ) (all : List (List ℕ)) → n ≡ 0 → pages ++ pages_of n left ≡ all → pages ≡ all
unfolding pages_of
pages_done pages left n all none inv =
    sym (append-nil pages) ∙ ap (λ (m : ℕ). pages ++ pages_of m left) (sym none) ∙ inv
