-- Padded strings are in a total order.
use Rattle.std.proofs.Common.{◌≡◌, ℕ, ◌+◌, ◌-◌, ◌≤◌, max, List, [], ◌∷◌, ◌++◌, length, sym, ap, ◌∙◌, arith}
use Rattle.std.specs.Prelude.{replicate}
use Rattle.std.specs.declared.cmp.Ordering.TheVariants.{Equal}
use Rattle.std.specs.Ordering.{nat_cmp, ordering_then, is_eq}
use Rattle.std.specs.Cmp.Lexicographic.{slice_cmp, bytes_decides}
use Rattle.std.proofs.lemmas.Cmp.{tied_itself, nat_list_cmp_total}
use Rattle.std.proofs.lemmas.Map.Text.{is_eq-slice_cmp}
use Rattle.std.proofs.lemmas.List.{append_assoc, replicate-append-replicate}
use Rattle.basic_values.specs.Texts.{space, padded, order_of}
use Rattle.basic_values.specs.Laws.{OrdersTexts}
use Rattle.basic_values.proofs.TextLemmas.{length-padded}

-- the same bytes after two strings of one length decide nothing
slice_cmp-same_tail : (xs ys zs : List ℕ) → length xs ≡ length ys → slice_cmp nat_cmp (xs ++ zs) (ys ++ zs) ≡ slice_cmp nat_cmp xs ys
slice_cmp-same_tail [] [] zs same = tied_itself nat_list_cmp_total zs
slice_cmp-same_tail [] (y ∷ ys) zs same = absurd (omega (arith, same))
slice_cmp-same_tail (x ∷ xs) [] zs same = absurd (omega (arith, same))
slice_cmp-same_tail (x ∷ xs) (y ∷ ys) zs same = ap (ordering_then (nat_cmp x y)) (slice_cmp-same_tail xs ys zs (omega (arith, same)))

-- padding in two steps
padded-more : (few more whole : ℕ) (text : List ℕ) → few + more ≡ whole → text ++ replicate whole space ≡ (text ++ replicate few space) ++ replicate more space
padded-more few more whole text same =
    ap (λ n. text ++ replicate n space) (sym same)
    ∙ ap (λ spaces. text ++ spaces) (sym (replicate-append-replicate few more space))
    ∙ sym (append_assoc text (replicate few space) (replicate more space))

padded_left : (a b : List ℕ) (width : ℕ) → length a ≤ width → length b ≤ width → padded width a ≡ padded (length b) a ++ replicate (width - max (length a) (length b)) space
padded_left a b width in_a in_b = padded-more (length b - length a) (width - max (length a) (length b)) (width - length a) a (omega arith)

padded_right : (a b : List ℕ) (width : ℕ) → length a ≤ width → length b ≤ width → padded width b ≡ padded (length a) b ++ replicate (width - max (length a) (length b)) space
padded_right a b width in_a in_b = padded-more (length a - length b) (width - max (length a) (length b)) (width - length b) b (omega arith)

-- more padding changes nothing
order_of-at : (a b : List ℕ) (width : ℕ) → length a ≤ width → length b ≤ width → order_of a b ≡ slice_cmp nat_cmp (padded width a) (padded width b)
order_of-at a b width in_a in_b =
    let same : length (padded (length b) a) ≡ length (padded (length a) b) = omega (arith, length-padded (length b) a, length-padded (length a) b) in
    sym (slice_cmp-same_tail (padded (length b) a) (padded (length a) b) (replicate (width - max (length a) (length b)) space) same)
    ∙ sym (λ i. slice_cmp nat_cmp (padded_left a b width in_a in_b i) (padded_right a b width in_a in_b i))

same_bytes : (xs ys : List ℕ) → slice_cmp nat_cmp xs ys ≡ Equal → xs ≡ ys
same_bytes xs ys tie = (bytes_decides xs ys).0 (sym (is_eq-slice_cmp xs ys) ∙ ap is_eq tie)

pub texts_ordered : OrdersTexts
texts_ordered = record {
  total = record {
    antisymm = λ a b. nat_list_cmp_total.antisymm (padded (length b) a) (padded (length a) b);
    trans = λ a b c below above.
        let width = length a + length b + length c in
        let ab = order_of-at a b width (omega arith) (omega arith) in
        let bc = order_of-at b c width (omega arith) (omega arith) in
        order_of-at a c width (omega arith) (omega arith)
        ∙ nat_list_cmp_total.trans (padded width a) (padded width b) (padded width c) (sym ab ∙ below) (sym bc ∙ above);
    congr = λ a b c tie.
        let width = length a + length b + length c in
        let ab = order_of-at a b width (omega arith) (omega arith) in
        order_of-at a c width (omega arith) (omega arith)
        ∙ nat_list_cmp_total.congr (padded width a) (padded width b) (padded width c) (sym ab ∙ tie)
        ∙ sym (order_of-at b c width (omega arith) (omega arith));
  };
  ties = λ a b. (same_bytes (padded (length b) a) (padded (length a) b), λ same. ap (λ text. slice_cmp nat_cmp text (padded (length a) b)) same ∙ tied_itself nat_list_cmp_total (padded (length a) b));
}
