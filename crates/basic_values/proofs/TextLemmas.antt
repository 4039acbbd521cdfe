-- Two padded strings, place by place.
use Rattle.std.proofs.Common.{◌≡◌, ℕ, zero, suc, ◌+◌, ◌-◌, ◌<◌, ◌≤◌, ◌≢◌, max, List, [], ◌∷◌, ◌++◌, length, get_or, drop, refl, sym, ap, ◌∙◌, arith}
use Rattle.std.specs.Prelude.{replicate}
use Rattle.std.specs.declared.cmp.Ordering.{Ordering}
use Rattle.std.specs.declared.cmp.Ordering.TheVariants.{Equal}
use Rattle.std.specs.Ordering.{nat_cmp, ordering_then}
use Rattle.std.specs.Cmp.Lexicographic.{slice_cmp}
use Rattle.std.proofs.lemmas.Cmp.{ranked, by_ranked, tied_itself, nat_cmp_total}
use Rattle.std.proofs.lemmas.List.{drop_more, drop_all, length-append, length-replicate}
use Rattle.basic_values.specs.Texts.{space, padded}

get_or-spaces : (n i : ℕ) → get_or (replicate n space) i space ≡ space
get_or-spaces zero i = refl
get_or-spaces (suc n) zero = refl
get_or-spaces (suc n) (suc i) = get_or-spaces n i

get_or-behind : (n i : ℕ) (text : List ℕ) → get_or (text ++ replicate n space) i space ≡ get_or text i space
get_or-behind n i [] = get_or-spaces n i
get_or-behind n zero (x ∷ text) = refl
get_or-behind n (suc i) (x ∷ text) = get_or-behind n i text

-- a string reads as one with spaces after it
pub get_or-padded : (width i : ℕ) (text : List ℕ) → get_or (padded width text) i space ≡ get_or text i space
get_or-padded width i text = get_or-behind (width - length text) i text

pub length-padded : (width : ℕ) (text : List ℕ) → length (padded width text) ≡ max (length text) width
length-padded width text =
    omega (arith, length-append text (replicate (width - length text) space), length-replicate (width - length text) space)

-- the order of the bytes from a place on
abbrev pub order_from : (a b : List ℕ) (i : ℕ) → Ordering
order_from a b i = slice_cmp nat_cmp (drop i (padded (length b) a)) (drop i (padded (length a) b))

-- one place decides, or the remaining ones do
pub order_from-step : (a b : List ℕ) (i : ℕ) → i < max (length a) (length b) → order_from a b i ≡ ordering_then (nat_cmp (get_or a i space) (get_or b i space)) (order_from a b (i + 1))
order_from-step a b i lt =
    let in_a : i < length (padded (length b) a) = omega (arith, length-padded (length b) a) in
    let in_b : i < length (padded (length a) b) = omega (arith, length-padded (length a) b) in
    (λ j. slice_cmp nat_cmp (drop_more (padded (length b) a) i space in_a j) (drop_more (padded (length a) b) i space in_b j))
    ∙ (λ j. ordering_then (nat_cmp (get_or-padded (length b) i a j) (get_or-padded (length a) i b j)) (order_from a b (i + 1)))

-- after both strings nothing is left
pub order_from-end : (a b : List ℕ) (i : ℕ) → max (length a) (length b) ≤ i → order_from a b i ≡ Equal
order_from-end a b i past =
    let past_a : length (padded (length b) a) ≤ i = omega (arith, length-padded (length b) a) in
    let past_b : length (padded (length a) b) ≤ i = omega (arith, length-padded (length a) b) in
    λ j. slice_cmp nat_cmp (drop_all i (padded (length b) a) past_a j) (drop_all i (padded (length a) b) past_b j)

then-unequal : (x y : ℕ) (rest : Ordering) → x ≢ y → ordering_then (nat_cmp x y) rest ≡ nat_cmp x y
then-unequal x y rest differ =
    by_ranked (x < y) (x ≡ y) (y < x) (nat_cmp x y) (ranked x y (nat_cmp x y) refl)
    (λ e below. ap (λ o. ordering_then o rest) e ∙ sym e)
    (λ e same. absurd (differ same))
    (λ e above. ap (λ o. ordering_then o rest) e ∙ sym e)

then-equal : (x y : ℕ) (rest : Ordering) → x ≡ y → ordering_then (nat_cmp x y) rest ≡ rest
then-equal x y rest same =
    ap (λ z. ordering_then (nat_cmp x z) rest) (sym same) ∙ ap (λ o. ordering_then o rest) (tied_itself nat_cmp_total x)

-- the first place that differs decides
pub order_decided : (a b : List ℕ) (i x y : ℕ) (o whole : Ordering) → i < max (length a) (length b) → x ≡ get_or a i space → y ≡ get_or b i space → x ≢ y → o ≡ nat_cmp x y → order_from a b i ≡ whole → o ≡ whole
order_decided a b i x y o whole lt at_a at_b differ here so_far =
    here ∙ sym (then-unequal x y (order_from a b (i + 1)) differ)
    ∙ (λ j. ordering_then (nat_cmp (at_a j) (at_b j)) (order_from a b (i + 1)))
    ∙ sym (order_from-step a b i lt) ∙ so_far

-- if a place is the same in both, the remaining ones decide
pub order_left : (a b : List ℕ) (i x y : ℕ) (whole : Ordering) → i < max (length a) (length b) → x ≡ get_or a i space → y ≡ get_or b i space → x ≡ y → order_from a b i ≡ whole → order_from a b (i + 1) ≡ whole
order_left a b i x y whole lt at_a at_b same so_far =
    sym (then-equal x y (order_from a b (i + 1)) same)
    ∙ (λ j. ordering_then (nat_cmp (at_a j) (at_b j)) (order_from a b (i + 1)))
    ∙ sym (order_from-step a b i lt) ∙ so_far
