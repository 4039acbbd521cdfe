-- Words have one answer: they are one whole, or they are rejected at one place for one cause.
use Rattle.std.proofs.Common.{subst, ◌≡◌, ℕ, ◌+◌, ◌-◌, ◌<◌, ◌≤◌, All, List, [], ◌++◌, length, take, drop, Some, None, Ok, Err, refl, sym, ap, ◌∙◌, append_assoc, arith}
use Rattle.std.proofs.lemmas.List.{append-nil, take-append-drop, take-take, take_all, length-take-le}
use Rattle.std.proofs.lemmas.List.Elements.{All-take}
use Rattle.basic_tree.specs.declared.kinds.Want.{Want}
use Rattle.basic_tree.specs.declared.tokens.Cause.{Cause}
use Rattle.basic_tree.specs.declared.tokens.Cause.TheVariants as cause
use Rattle.basic_tree.specs.Tokens.{Reading, tokens_of}
use Rattle.basic_tree.specs.SpellingWords.{Word, LevelStep, words_of, levels, most_levels, too_deep}
use Rattle.basic_tree.specs.Trees.{Tree, LineTree}
use Rattle.basic_tree.specs.SpellingExpressions.{steps_of, IsExpr}
use Rattle.basic_tree.specs.SpellingStatements.{line_steps}
use Rattle.basic_tree.specs.GrammarPlaces.{Whole, ExprWhole, LineWhole, Begins, BeginsFlat, IsLimit, IsDeep, IsRefused, between, IsRead, RefusesExpr, IsReadLine, RefusesLine}
use Rattle.basic_tree.specs.declared.tokens.Refusal.{Refusal}
use Rattle.basic_tree.specs.LineVerdicts.{SpelledBy, RefusedBy, HasTree, RefusedFor}
use Rattle.basic_tree.specs.AnswerLaws.{OneExprAnswer, OneLineAnswer, OneBytesAnswer, OneVerdict}
use Rattle.grammar_machine.proofs.DeepLevels.{all_within, within_before, not_within}
use Rattle.grammar_machine.proofs.LevelsSettled.{line_levels, expression_levels}
use Rattle.grammar_machine.proofs.OneLine.{one_line_lem}
use Rattle.grammar_machine.proofs.OneTree.{one_tree_lem}

-- the words up to the one at a place begin a whole, in which it is the first that is too deep
abbrev DeepAt : Whole → List Word → ℕ → Type 0
DeepAt whole ws i = (rest : List Word) × (g : List LevelStep) × whole (take (i + 1) ws ++ rest) g × (too_deep g ≡ Some i)

-- the nesting depths of the first words do not depend on those after them
abbrev Settled : Whole → Type 0
Settled whole = (p q r : List Word) (g h : List LevelStep) → whole (p ++ q) g → whole (p ++ r) h → take (length p) (levels 0 g) ≡ take (length p) (levels 0 h)

-- words up to a place, split at one before it
cut_sooner : (ws rest : List Word) (i j : ℕ) → i ≤ j → take j ws ++ rest ≡ take i ws ++ (drop i (take j ws) ++ rest)
cut_sooner ws rest i j le =
    let same : take i (take j ws) ≡ take i ws = take-take i j ws le in
    let cut : take j ws ≡ take i ws ++ drop i (take j ws) = sym (take-append-drop i (take j ws)) ∙ ap (λ (x : List Word). x ++ drop i (take j ws)) same in
    ap (λ (x : List Word). x ++ rest) cut ∙ append_assoc (take i ws) (drop i (take j ws)) rest

whole_sooner : (whole : Whole) (ws rest : List Word) (i j : ℕ) (g : List LevelStep) → i ≤ j → whole (take j ws ++ rest) g → whole (take i ws ++ (drop i (take j ws) ++ rest)) g
whole_sooner whole ws rest i j g le h = subst (λ (x : List Word). whole x g) (cut_sooner ws rest i j le) h

begun_sooner : (whole : Whole) (ws : List Word) (i j : ℕ) → i ≤ j → Begins whole (take j ws) → Begins whole (take i ws)
begun_sooner whole ws i j le b = (drop i (take j ws) ++ b.0, b.1, whole_sooner whole ws b.0 i j b.1 le b.2)

-- what is read is nowhere too deep
flat_of_read : (whole : Whole) (ws : List Word) (i : ℕ) (g : List LevelStep) → whole (take i ws) g → too_deep g ≡ None → BeginsFlat whole ws i
flat_of_read whole ws i g h flat = ([], g, subst (λ (x : List Word). whole x g) (sym (append-nil (take i ws))) h, All-take (λ level. level ≤ most_levels) i (levels 0 g) (all_within (levels 0 g) flat))

-- up to a word that is too deep, nothing is
flat_of_deep : (whole : Whole) (ws : List Word) (i : ℕ) → DeepAt whole ws i → BeginsFlat whole ws i
flat_of_deep whole ws i d = (drop i (take (i + 1) ws) ++ d.0, d.1, whole_sooner whole ws d.0 i (i + 1) d.1 (omega arith) d.2, within_before (levels 0 d.1) i d.3)

-- nothing that begins like this continues after a word that is too deep without being too deep
flat_ends : (whole : Whole) → Settled whole → (ws : List Word) (i j : ℕ) → i < length ws → DeepAt whole ws i → BeginsFlat whole ws j → i < j → ⊥
flat_ends whole settled ws i j inside d f lt =
    let same = settled (take (i + 1) ws) d.0 (drop (i + 1) (take j ws) ++ f.0) d.1 f.1 d.2 (whole_sooner whole ws f.0 (i + 1) j f.1 (omega (arith, lt)) f.2) in
    let long : length (take (i + 1) ws) ≡ i + 1 = length-take-le (i + 1) ws (omega (arith, inside)) in
    let all = All-take (λ level. level ≤ most_levels) (i + 1) (take j (levels 0 f.1)) f.3 in
    let shorter : take (i + 1) (take j (levels 0 f.1)) ≡ take (i + 1) (levels 0 f.1) = take-take (i + 1) j (levels 0 f.1) (omega (arith, lt)) in
    let levels_same : take (i + 1) (levels 0 d.1) ≡ take (i + 1) (levels 0 f.1) = subst (λ (n : ℕ). take n (levels 0 d.1) ≡ take n (levels 0 f.1)) long same in
    not_within (levels 0 d.1) i (i + 1) d.3 (omega arith) (subst (λ (x : List ℕ). All (λ level. level ≤ most_levels) x) (shorter ∙ sym levels_same) all)

equal : (i j : ℕ) → (i < j → ⊥) → (j < i → ⊥) → i ≡ j
equal i j a b = omega (arith, a, b)

one_deep : (whole : Whole) → Settled whole → (ws : List Word) (i j : ℕ) → i < length ws → j < length ws → DeepAt whole ws i → DeepAt whole ws j → i ≡ j
one_deep whole settled ws i j a b x y =
    equal i j (flat_ends whole settled ws i j a x (flat_of_deep whole ws j y)) (flat_ends whole settled ws j i b y (flat_of_deep whole ws i x))

-- ---- one place, one cause

-- no whole begins with more words than those up to the limit
none_beyond : (whole : Whole) (ws : List Word) (j k : ℕ) → IsLimit whole ws j → k ≤ length ws → Begins whole (take k ws) → j < k → ⊥
none_beyond whole ws j k a inside b lt = a.no_more (omega (arith, lt, inside)) (begun_sooner whole ws (j + 1) k (omega (arith, lt)) b)

one_limit : (whole : Whole) (ws : List Word) (j k : ℕ) → IsLimit whole ws j → IsLimit whole ws k → j ≡ k
one_limit whole ws j k a b = equal j k (none_beyond whole ws j k a b.within b.begins) (none_beyond whole ws k j b a.within a.begins)

-- if no word up to the limit is too deep, none is
flat_and_deep : (whole : Whole) → Settled whole → (ws : List Word) (j k : ℕ) → IsLimit whole ws j → BeginsFlat whole ws j → IsDeep whole ws k → ⊥
flat_and_deep whole settled ws j k a f b =
    let d = b.opens in
    either (none_beyond whole ws j (k + 1) a (omega (arith, b.within)) (d.0, d.1, d.2)) (flat_ends whole settled ws k j b.within d f) where
      either : (j < k + 1 → ⊥) → (k < j → ⊥) → ⊥
      either x y = omega (arith, x, y)

refusals : (whole : Whole) → Settled whole → (ws : List Word) (j k : ℕ) (x y : List Word) (c d : Cause) → IsRefused whole ws j x c → IsRefused whole ws k y d → (j ≡ k) × (c ≡ d)
refusals whole settled ws j k x y cause.Syntax cause.Syntax a b = (one_limit whole ws j k a.limit b.limit, refl)
refusals whole settled ws j k x y cause.TooDeep cause.TooDeep a b = (one_deep whole settled ws j k a.within b.within a.opens b.opens, refl)
refusals whole settled ws j k x y cause.Syntax cause.TooDeep a b = absurd (flat_and_deep whole settled ws j k a.limit a.flat b)
refusals whole settled ws j k x y cause.TooDeep cause.Syntax a b = absurd (flat_and_deep whole settled ws k j b.limit b.flat a)
refusals whole settled ws j k x y cause.Syntax d a b = absurd b
refusals whole settled ws j k x y cause.TooDeep d a b = absurd b
refusals whole settled ws j k x y c d a b = absurd a

-- ---- lines

lines_settled : Settled LineWhole
lines_settled p q r g h a b = rw (a.2, b.2) (line_levels p q r a.0 b.0 a.1 b.1)

line_refusals : (ws : List Word) (j k : ℕ) (c d : Cause) → RefusesLine ws j c → RefusesLine ws k d → (j ≡ k) × (c ≡ d)
line_refusals ws j k c d a b = refusals LineWhole lines_settled ws j k ws ws c d a b

line_apart : (ws : List Word) (k : ℕ) (l : LineTree) (c : Cause) → IsReadLine ws l → RefusesLine ws k c → ⊥
line_apart ws k l cause.Syntax a b = b.none (line_steps l) (l, a.line, refl)
line_apart ws k l cause.TooDeep a b =
    let whole : LineWhole (take (length ws) ws) (line_steps l) = subst (λ (x : List Word). LineWhole x (line_steps l)) (sym (take_all (length ws) ws (omega arith))) (l, a.line, refl) in
    flat_ends LineWhole lines_settled ws k (length ws) b.within b.opens (flat_of_read LineWhole ws (length ws) (line_steps l) whole a.flat) b.within
line_apart ws k l c a b = absurd b

pub one_line_answer : OneLineAnswer
one_line_answer = record {
  read = λ ws l m a b. one_line_lem ws l m a.line b.line;
  refused = line_refusals;
  apart = line_apart;
}

-- ---- bytes

same_refusal : (r s : Refusal) → r.place ≡ s.place → r.cause ≡ s.cause → r ≡ s
same_refusal r s a b = ap (λ (place : ℕ). record { place = place; cause = r.cause }) a ∙ ap (λ (why : Cause). record { place = s.place; cause = why }) b

bytes_read : (x : Reading) (l m : LineTree) → SpelledBy x l → SpelledBy x m → l ≡ m
bytes_read (Ok tokens) l m a b = one_line_lem (words_of tokens) l m a.line b.line
bytes_read (Err first) l m a b = absurd a

bytes_refused : (x : Reading) (r s : Refusal) → RefusedBy x r → RefusedBy x s → r ≡ s
bytes_refused (Ok tokens) r s a b = let same = line_refusals (words_of tokens) r.place s.place r.cause s.cause a b in same_refusal r s same.0 same.1
bytes_refused (Err first) r s a b = sym a ∙ b

bytes_apart : (x : Reading) (l : LineTree) (r : Refusal) → SpelledBy x l → RefusedBy x r → ⊥
bytes_apart (Ok tokens) l r a b = line_apart (words_of tokens) r.place l r.cause a b
bytes_apart (Err first) l r a b = a

pub one_bytes_answer : OneBytesAnswer
one_bytes_answer = record {
  read = λ line. bytes_read (tokens_of line);
  refused = λ line. bytes_refused (tokens_of line);
  apart = λ line. bytes_apart (tokens_of line);
}

pub one_verdict_lem : OneVerdict
one_verdict_lem line (HasTree l) (HasTree m) a b = ap HasTree (bytes_read (tokens_of line) l m a b)
one_verdict_lem line (HasTree l) (RefusedFor d) a b = absurd (bytes_apart (tokens_of line) l b.0 a b.1)
one_verdict_lem line (RefusedFor c) (HasTree l) a b = absurd (bytes_apart (tokens_of line) l a.0 b a.1)
one_verdict_lem line (RefusedFor c) (RefusedFor d) a b = ap RefusedFor (sym a.2 ∙ ap (λ (r : Refusal). r.cause) (bytes_refused (tokens_of line) a.0 b.0 a.1 b.1) ∙ b.2)

-- ---- expressions

expressions_settled : (w : Want) → Settled (ExprWhole w)
expressions_settled w p q r g h a b = rw (a.2, b.2) (expression_levels w w p q r a.0 b.0 a.1 b.1)

-- two places that are equally far after another
same_place : (from j k : ℕ) → from ≤ j → from ≤ k → j - from ≡ k - from → j ≡ k
same_place from j k a b e = omega (arith, e, a, b)

expr_read : (w : Want) (ws : List Word) (from j k : ℕ) (t u : Tree) → IsRead w ws from t j → IsRead w ws from u k → (t ≡ u) × (j ≡ k)
expr_read w ws from j k t u a b =
    let same = same_place from j k a.after b.after (one_limit (ExprWhole w) (drop from ws) (j - from) (k - from) a.limit b.limit) in
    (one_tree_lem w w (between ws from j) t u a.expression (subst (λ (n : ℕ). IsExpr w (between ws from n) u) (sym same) b.expression), same)

expr_refusals : (w : Want) (ws : List Word) (from j k : ℕ) (c d : Cause) → RefusesExpr w ws from j c → RefusesExpr w ws from k d → (j ≡ k) × (c ≡ d)
expr_refusals w ws from j k c d a b =
    let same = refusals (ExprWhole w) (expressions_settled w) (drop from ws) (j - from) (k - from) (between ws from j) (between ws from k) c d a.1 b.1 in
    (same_place from j k a.0 b.0 same.0, same.1)

expr_apart : (w : Want) (ws : List Word) (from j k : ℕ) (t : Tree) (c : Cause) → IsRead w ws from t j → RefusesExpr w ws from k c → ⊥
expr_apart w ws from j k t cause.Syntax a b =
    let same = same_place from j k a.after b.0 (one_limit (ExprWhole w) (drop from ws) (j - from) (k - from) a.limit b.1.limit) in
    b.1.none (steps_of t) (t, subst (λ (n : ℕ). IsExpr w (between ws from n) t) same a.expression, refl)
expr_apart w ws from j k t cause.TooDeep a b = flat_and_deep (ExprWhole w) (expressions_settled w) (drop from ws) (j - from) (k - from) a.limit (flat_of_read (ExprWhole w) (drop from ws) (j - from) (steps_of t) (t, a.expression, refl) a.flat) b.1
expr_apart w ws from j k t c a b = absurd b.1

pub one_expr_answer : OneExprAnswer
one_expr_answer = record { read = expr_read; refused = expr_refusals; apart = expr_apart }
