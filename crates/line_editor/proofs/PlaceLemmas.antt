-- Lines in the order of their numbers, split into those below a range, those in it and those above
-- it.
use Rattle.std.proofs.Common.{◌≡◌, ℕ, ◌+◌, ◌<◌, ◌≤◌, ◌⊎◌, inl, inr, Bool, true, false, List, [], ◌∷◌, ◌++◌, length, take, drop, get_or, Some, None, refl, sym, ap, subst, ◌∙◌, arith, append-nil, length-drop}
use Rattle.std.specs.Prelude.{filter, not, max}
use Rattle.std.specs.BTreeMap.{insert_entry}
use Rattle.std.specs.List.{AllByRecursion, AllWithin, between}
use Rattle.std.specs.List.Sorted.{IsStrictlySortedBy}
use Rattle.std.specs.Map.{keys_of}
use Rattle.std.specs.Ordering.{nat_cmp}
use Rattle.std.specs.declared.cmp.Ordering.{Ordering}
use Rattle.std.specs.declared.cmp.Ordering.TheVariants.{Less, Equal, Greater}
use Rattle.std.proofs.lemmas.Bool.Decides.{nat_tests}
use Rattle.std.proofs.lemmas.List.{get_or-take, get_or-drop, length-take-le}
use Rattle.std.proofs.lemmas.List.Edits.{split_between, get_or-between, length-between}
use Rattle.std.proofs.lemmas.List.Elements.{recursion_from_All, filter-append}
use Rattle.std.proofs.lemmas.List.Kept.{IsStrictlySortedBy-filter}
use Rattle.basic_tree.specs.ProgramLines.{Lines, line, stored, removed, is_within, within, without}
use Rattle.line_editor.specs.declared.buffer.Places.{Places}
use Rattle.line_editor.specs.Marks.{IsOrderly, IsPlaced}

-- NUMBERS

lower : (a b : ℕ) → a < b → nat_cmp a b ≡ Less
lower a b lt = grind (arith, nat_tests)

higher : (a b : ℕ) → b < a → nat_cmp a b ≡ Greater
higher a b lt = grind (arith, nat_tests)

level : (a b : ℕ) → a ≡ b → nat_cmp a b ≡ Equal
level a b is = grind (arith, nat_tests)

from_lower : (a b : ℕ) → nat_cmp a b ≡ Less → a < b
from_lower a b is = grind (arith, nat_tests)

pub in_range : (from to n : ℕ) → from ≤ n → n ≤ to → is_within from to n ≡ true
in_range from to n low high = grind (arith, nat_tests)

under_range : (from to n : ℕ) → n < from → is_within from to n ≡ false
under_range from to n low = grind (arith, nat_tests)

over_range : (from to n : ℕ) → to < n → is_within from to n ≡ false
over_range from to n high = grind (arith, nat_tests)

only_one : (n k : ℕ) → is_within n n k ≡ true → k ≡ n
only_one n k is = grind (arith, nat_tests)

-- WHAT A SEARCH FOUND

pub placed : (from to : ℕ) (lines : Lines) (first last behind : ℕ) → first ≤ length lines → last ≤ length lines
    → AllWithin (λ line. line.0 < from) lines 0 first → AllWithin (λ line. from ≤ line.0) lines first (length lines)
    → AllWithin (λ line. line.0 < to + 1) lines 0 last → AllWithin (λ line. to + 1 ≤ line.0) lines last (length lines)
    → behind ≡ max last first → IsPlaced from to lines (record { first = first; behind = behind })
placed from to lines first last behind in' in'' below others below' others' is = record {
  rises = omega arith;
  inside = omega arith;
  below = below;
  among = λ k d low high.
      let low' = others k d low (omega arith) in
      let high' = below' k d (omega arith) (omega arith) in
      in_range from to (get_or lines k d).0 low' (omega arith);
  above = λ k d low high.
      let low' = others k d (omega arith) high in
      let high' = others' k d (omega arith) high in
      (low', omega arith);
}

-- THE THREE PARTS

pub record InParts (from to : ℕ) (lines a m b : Lines) : Type 0 where
  pub whole : lines ≡ a ++ (m ++ b)
  pub below : AllByRecursion (λ line. line.0 < from) a
  pub among : AllByRecursion (λ line. is_within from to line.0 ≡ true) m
  pub above : AllByRecursion (λ line. (from ≤ line.0) × (to < line.0)) b

pub in_parts : (from to : ℕ) (lines : Lines) (places : Places) → IsPlaced from to lines places → InParts from to lines (take places.first lines) (between places.first places.behind lines) (drop places.behind lines)
in_parts from to lines p is =
    let rises = is.rises in
    let inside = is.inside in
    record {
      whole = split_between lines p.first p.behind rises;
      below = recursion_from_All (λ line. line.0 < from) (take p.first lines) (λ k d lt.
          let lt' : k < p.first = omega (arith, length-take-le p.first lines (omega arith)) in
          subst (λ (line : ℕ × List ℕ). line.0 < from) (sym (get_or-take p.first lines k d lt')) (is.below k d (omega arith) lt'));
      among = recursion_from_All (λ line. is_within from to line.0 ≡ true) (between p.first p.behind lines) (λ k d lt.
          let lt' : p.first + k < p.behind = omega (arith, length-between lines p.first p.behind inside) in
          subst (λ (line : ℕ × List ℕ). is_within from to line.0 ≡ true) (sym (get_or-between lines p.first p.behind k d lt')) (is.among (p.first + k) d (omega arith) lt'));
      above = recursion_from_All (λ line. (from ≤ line.0) × (to < line.0)) (drop p.behind lines) (λ k d lt.
          let lt' : p.behind + k < length lines = omega (arith, length-drop p.behind lines) in
          subst (λ (line : ℕ × List ℕ). (from ≤ line.0) × (to < line.0)) (sym (get_or-drop p.behind lines k d)) (is.above (p.behind + k) d (omega arith) lt'));
    }

-- FILTERS

module _ (p : ℕ × List ℕ → Bool) where
  none_pass : (ls : Lines) → AllByRecursion (λ line. p line ≡ false) ls → filter p ls ≡ []
  none_pass [] all = refl
  none_pass (l ∷ ls) all = let is = all.0 in rw is (none_pass ls all.1)

  all_pass : (ls : Lines) → AllByRecursion (λ line. p line ≡ true) ls → filter p ls ≡ ls
  all_pass [] all = refl
  all_pass (l ∷ ls) all = let is = all.0 in rw is (ap (λ (lines : Lines). l ∷ lines) (all_pass ls all.1))

  filter_parts : (a m b : Lines) → filter p (a ++ (m ++ b)) ≡ filter p a ++ (filter p m ++ filter p b)
  filter_parts a m b = filter-append p a (m ++ b) ∙ ap (λ (lines : Lines). filter p a ++ lines) (filter-append p m b)

all_map : (P Q : ℕ × List ℕ → Type 0) → ((line : ℕ × List ℕ) → P line → Q line) → (ls : Lines) → AllByRecursion P ls → AllByRecursion Q ls
all_map P Q f [] all = tt
all_map P Q f (l ∷ ls) all = (f l all.0, all_map P Q f ls all.1)

module _ (from to : ℕ) (lines a m b : Lines) (is : InParts from to lines a m b) where
  pub within_parts : within from to lines ≡ m
  within_parts =
      let p = λ (line : ℕ × List ℕ). is_within from to line.0 in
      ap (filter p) is.whole ∙ filter_parts p a m b
      ∙ ap (λ (ls : Lines). ls ++ (filter p m ++ filter p b)) (none_pass p a (all_map (λ line. line.0 < from) (λ line. p line ≡ false) (λ line lt. under_range from to line.0 lt) a is.below))
      ∙ ap (λ (ls : Lines). ls ++ filter p b) (all_pass p m is.among)
      ∙ ap (λ (ls : Lines). m ++ ls) (none_pass p b (all_map (λ line. (from ≤ line.0) × (to < line.0)) (λ line. p line ≡ false) (λ line both. over_range from to line.0 both.1) b is.above))
      ∙ append-nil m

  pub without_parts : without from to lines ≡ a ++ b
  without_parts =
      let p = λ (line : ℕ × List ℕ). not (is_within from to line.0) in
      ap (filter p) is.whole ∙ filter_parts p a m b
      ∙ ap (λ (ls : Lines). ls ++ (filter p m ++ filter p b)) (all_pass p a (all_map (λ line. line.0 < from) (λ line. p line ≡ true) (λ line lt. ap not (under_range from to line.0 lt)) a is.below))
      ∙ ap (λ (ls : Lines). a ++ (ls ++ filter p b)) (none_pass p m (all_map (λ line. is_within from to line.0 ≡ true) (λ line. p line ≡ false) (λ line in'. ap not in') m is.among))
      ∙ ap (λ (ls : Lines). a ++ ls) (all_pass p b (all_map (λ line. (from ≤ line.0) × (to < line.0)) (λ line. p line ≡ true) (λ line both. ap not (over_range from to line.0 both.1)) b is.above))

-- THE ORDER

orderly_behind : (a b : Lines) → IsOrderly (a ++ b) → IsOrderly b
unfolding IsStrictlySortedBy
orderly_behind [] b is = is
orderly_behind (l ∷ a) b is = orderly_behind a b is.1

keys_filtered_by : (p : ℕ → Bool) (l : ℕ × List ℕ) (ls : Lines) (b : Bool) → p l.0 ≡ b → keys_of (filter (λ line. p line.0) ls) ≡ filter p (keys_of ls) → keys_of (filter (λ line. p line.0) (l ∷ ls)) ≡ filter p (keys_of (l ∷ ls))
keys_filtered_by p l ls true is more = rw is (ap (λ (ks : List ℕ). l.0 ∷ ks) more)
keys_filtered_by p l ls false is more = rw is more

keys_filtered : (p : ℕ → Bool) (ls : Lines) → keys_of (filter (λ line. p line.0) ls) ≡ filter p (keys_of ls)
keys_filtered p [] = refl
keys_filtered p (l ∷ ls) = keys_filtered_by p l ls (p l.0) refl (keys_filtered p ls)

-- without some, the numbers still increase
pub orderly_without : (from to : ℕ) (lines : Lines) → IsOrderly lines → IsOrderly (without from to lines)
orderly_without from to lines is =
    let p = λ (n : ℕ). not (is_within from to n) in
    subst (λ (ks : List ℕ). IsStrictlySortedBy nat_cmp ks) (sym (keys_filtered p lines)) (IsStrictlySortedBy-filter nat_cmp p (keys_of lines) is)

-- the same with one more, between those below it and those above it
with_one_below : (k : ℕ) (number : ℕ) (rest : List ℕ) (a b : Lines) → nat_cmp k number ≡ Less → AllByRecursion (λ y. nat_cmp k y ≡ Less) (keys_of (a ++ b)) → AllByRecursion (λ y. nat_cmp k y ≡ Less) (keys_of (a ++ (number, rest) ∷ b))
with_one_below k number rest [] b lt all = (lt, all)
with_one_below k number rest (l ∷ a) b lt all = (all.0, with_one_below k number rest a b lt all.1)

keys_above : (number : ℕ) (b : Lines) → AllByRecursion (λ line. (number ≤ line.0) × (number < line.0)) b → AllByRecursion (λ y. nat_cmp number y ≡ Less) (keys_of b)
keys_above number [] all = tt
keys_above number (l ∷ b) all = (lower number l.0 all.0.1, keys_above number b all.1)

orderly_with : (number : ℕ) (rest : List ℕ) (a b : Lines) → IsOrderly (a ++ b) → AllByRecursion (λ line. line.0 < number) a → AllByRecursion (λ line. (number ≤ line.0) × (number < line.0)) b → IsOrderly (a ++ (number, rest) ∷ b)
unfolding IsStrictlySortedBy
orderly_with number rest [] b is below above = (keys_above number b above, is)
orderly_with number rest (l ∷ a) b is below above =
    (with_one_below l.0 number rest a b (lower l.0 number below.0) is.0, orderly_with number rest a b is.1 below.1 above)

-- ONE NUMBER

-- at most one line has it
abbrev pub IsOne : ℕ → Lines → Type 0
IsOne number m = (m ≡ []) ⊎ ((rest : List ℕ) × (m ≡ (number, rest) ∷ []))

one_of : (number : ℕ) (m b : Lines) → IsOrderly (m ++ b) → AllByRecursion (λ line. is_within number number line.0 ≡ true) m → IsOne number m
unfolding IsStrictlySortedBy
one_of number [] b is all = inl refl
one_of number (l ∷ []) b is all = inr (l.1, ap (λ (k : ℕ). (k, l.1) ∷ []) (only_one number l.0 all.0))
one_of number (l ∷ k ∷ m) b is all =
    let first : l.0 ≡ number = only_one number l.0 all.0 in
    let second : k.0 ≡ number = only_one number k.0 all.1.0 in
    let rises : l.0 < k.0 = from_lower l.0 k.0 is.0.0 in
    absurd (omega arith)

insert_behind : (number : ℕ) (rest : List ℕ) (a ls : Lines) → AllByRecursion (λ line. line.0 < number) a → insert_entry nat_cmp (a ++ ls) number rest ≡ a ++ insert_entry nat_cmp ls number rest
insert_behind number rest [] ls below = refl
insert_behind number rest (l ∷ a) ls below =
    let is = higher number l.0 below.0 in
    rw is (ap (λ (lines : Lines). l ∷ lines) (insert_behind number rest a ls below.1))

insert_before : (number : ℕ) (rest : List ℕ) (b : Lines) → AllByRecursion (λ line. (number ≤ line.0) × (number < line.0)) b → insert_entry nat_cmp b number rest ≡ (number, rest) ∷ b
insert_before number rest [] above = refl
insert_before number rest (l ∷ b) above = let is = lower number l.0 above.0.1 in rw is refl

insert_over : (number : ℕ) (rest : List ℕ) (m b : Lines) → IsOne number m → AllByRecursion (λ line. (number ≤ line.0) × (number < line.0)) b → insert_entry nat_cmp (m ++ b) number rest ≡ (number, rest) ∷ b
insert_over number rest m b (inl none) above =
    ap (λ (ls : Lines). insert_entry nat_cmp (ls ++ b) number rest) none ∙ insert_before number rest b above
insert_over number rest m b (inr one) above =
    let is = level number number refl in
    ap (λ (ls : Lines). insert_entry nat_cmp (ls ++ b) number rest) one.1 ∙ rw is refl

lookup_behind : (number : ℕ) (a ls : Lines) → AllByRecursion (λ line. line.0 < number) a → line number (a ++ ls) ≡ line number ls
lookup_behind number [] ls below = refl
lookup_behind number (l ∷ a) ls below = let is = higher number l.0 below.0 in rw is (lookup_behind number a ls below.1)

lookup_before : (number : ℕ) (b : Lines) → AllByRecursion (λ line. (number ≤ line.0) × (number < line.0)) b → line number b ≡ None
lookup_before number [] above = refl
lookup_before number (l ∷ b) above = let is = lower number l.0 above.0.1 in rw is (lookup_before number b above.1)

module _ (number : ℕ) (lines a m b : Lines) (is : InParts number number lines a m b) where
  line_parts : line number lines ≡ line number (m ++ b)
  line_parts = ap (line number) is.whole ∙ lookup_behind number a (m ++ b) is.below

  pub line_none : m ≡ [] → line number lines ≡ None
  line_none none = line_parts ∙ ap (λ (ls : Lines). line number (ls ++ b)) none ∙ lookup_before number b is.above

module _ (number : ℕ) (lines a m b : Lines) (is : InParts number number lines a m b) (order : IsOrderly lines) where
  pub one_among : IsOne number m
  one_among =
      one_of number m b (orderly_behind a (m ++ b) (subst (λ (ls : Lines). IsOrderly ls) is.whole order)) is.among

  pub stored_parts : (rest : List ℕ) → stored number rest lines ≡ a ++ (number, rest) ∷ b
  stored_parts rest =
      ap (λ (ls : Lines). stored number rest ls) is.whole ∙ insert_behind number rest a (m ++ b) is.below
      ∙ ap (λ (ls : Lines). a ++ ls) (insert_over number rest m b one_among is.above)

  pub line_some : (first : ℕ × List ℕ) (more : Lines) → m ≡ first ∷ more → line number lines ≡ Some first.1
  line_some first more some =
      let here : is_within number number first.0 ≡ true = (subst (λ (ls : Lines). AllByRecursion (λ line. is_within number number line.0 ≡ true) ls) some is.among).0 in
      let same = level number first.0 (sym (only_one number first.0 here)) in
      line_parts number lines a m b is ∙ ap (λ (ls : Lines). line number (ls ++ b)) some ∙ rw same refl

  pub orderly_stored : (rest : List ℕ) → IsOrderly (stored number rest lines)
  orderly_stored rest =
      subst (λ (ls : Lines). IsOrderly ls) (sym (stored_parts rest))
      (orderly_with number rest a b (subst (λ (ls : Lines). IsOrderly ls) (without_parts number number lines a m b is) (orderly_without number number lines order)) is.below is.above)

-- without one number, only the line that has it is gone
module _ (number : ℕ) where
  from_level : (k : ℕ) → nat_cmp number k ≡ Equal → number ≡ k
  from_level k is = grind (arith, nat_tests)

  from_higher : (k : ℕ) → nat_cmp number k ≡ Greater → k < number
  from_higher k is = grind (arith, nat_tests)

  all_above : (ls : Lines) → AllByRecursion (λ y. nat_cmp number y ≡ Less) (keys_of ls) → without number number ls ≡ ls
  all_above [] all = refl
  all_above (l ∷ ls) all =
      let over = over_range number number l.0 (from_lower number l.0 all.0) in
      rw over (ap (λ (lines : Lines). l ∷ lines) (all_above ls all.1))

  without_one_by : (l : ℕ × List ℕ) (ls : Lines) (o : Ordering) → nat_cmp number l.0 ≡ o → AllByRecursion (λ y. nat_cmp l.0 y ≡ Less) (keys_of ls) → without number number ls ≡ removed number ls → without number number (l ∷ ls) ≡ removed number (l ∷ ls)
  without_one_by l ls Less is head more =
      let over = over_range number number l.0 (from_lower number l.0 is) in
      rw (over, is) (ap (λ (lines : Lines). l ∷ lines) more)
  without_one_by l ls Equal is head more =
      let same : number ≡ l.0 = from_level l.0 is in
      let among : is_within number number l.0 ≡ true = subst (λ (k : ℕ). is_within number number k ≡ true) same (in_range number number number (omega arith) (omega arith)) in
      let behind : AllByRecursion (λ y. nat_cmp number y ≡ Less) (keys_of ls) = subst (λ (k : ℕ). AllByRecursion (λ y. nat_cmp k y ≡ Less) (keys_of ls)) (sym same) head in
      rw (among, is) (all_above ls behind)
  without_one_by l ls Greater is head more =
      let under = under_range number number l.0 (from_higher l.0 is) in
      rw (under, is) (ap (λ (lines : Lines). l ∷ lines) more)

  pub without_one : (ls : Lines) → IsOrderly ls → without number number ls ≡ removed number ls
  unfolding IsStrictlySortedBy
  without_one [] is = refl
  without_one (l ∷ ls) is = without_one_by l ls (nat_cmp number l.0) refl is.0 (without_one ls is.1)
