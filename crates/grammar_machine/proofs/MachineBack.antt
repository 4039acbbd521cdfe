-- What a move of the machine took, its symbol spells.
use Rattle.std.proofs.Common.{subst, ◌==◌, ◌≡◌, ℕ, zero, suc, ◌≤◌, Bool, true, false, cond, if◌then◌else◌, nat_lt, List, [], ◌∷◌, ◌++◌, Option, Some, None, refl, sym, ap, ◌∙◌, append_assoc, arith}
use Rattle.std.proofs.lemmas.Bool.{eqb-true}
use Rattle.basic_tree.specs.declared.tokens.Keyword.{Keyword}
use Rattle.basic_tree.specs.declared.tokens.Keyword.TheVariants as keyword
use Rattle.basic_tree.specs.declared.tokens.Sign.{Sign}
use Rattle.basic_tree.specs.declared.tokens.Sign.TheVariants as sign
use Rattle.basic_tree.specs.declared.expressions.Operator.{Operator}
use Rattle.basic_tree.specs.declared.expressions.Relation.{Relation}
use Rattle.basic_tree.specs.declared.expressions.Function.{Function}
use Rattle.basic_tree.specs.declared.kinds.Want.{Want}
use Rattle.basic_tree.specs.declared.kinds.Want.TheVariants as want
use Rattle.basic_tree.specs.SpellingWords.{Word, Key, Punctuation, Named, FnNamed, Number, Quotation, Item, LevelStep, Plain, Opens, Closes}
use Rattle.basic_tree.specs.Trees.{Tree, Literal, Quoted, FunctionOf, Parenthesized, Negative, Positive, Not, Trees, NoTrees, AndTrees}
use Rattle.basic_tree.specs.SpellingExpressions.{mark, steps_of, list_steps, more_steps, is_text, Fits, level_of, Fill, IsTree, AreTrees}
use Rattle.basic_tree.specs.GrammarTables.{sign_level, relation_level, not_level, operator_word, relation_sign, function_keyword, arguments_of, gives_text}
use Rattle.grammar_machine.specs.GrammarWords.{operator_of, relation_of, function_of}
use Rattle.grammar_machine.specs.MachineStack.{Term, Several, Values, with_last, made, others, Action, MakeFunction, MakeNegative, MakePositive, MakeNot, Symbol, Level, More, MoreRelations, Close, Do, Subscripts, Arguments}
use Rattle.grammar_machine.specs.MachineMoves.{MachineMove, Shifts, Skips, Refuses}
use Rattle.grammar_machine.specs.MachineMoves.{Closes as Ends}
use Rattle.grammar_machine.specs.MachineStarts.{Start, starts, behind, if_takes, more_expected, arguments_expected, function_start, atom, prefixed, signed, negated, side, relations, Rank, Signs, Relations, Nots, Chain, rank_of, ranked, start}
use Rattle.grammar_machine.proofs.MachineSpelled.{Fine, Kept, joined_trees, Spelled}
pub use Rattle.grammar_machine.proofs.MachineReads.{taken}

abbrev pub TakesBack : Bool → Symbol → Values → Values → Word → List Symbol → Type 0
TakesBack opens s vs vs' t more = (k : List Symbol) (q : List LevelStep) (u : Values) → Spelled (more ++ k) vs' q u → Spelled (s ∷ k) vs (taken opens t ∷ q) u

abbrev pub StartBack : ℕ → Want → Values → Word → Option Start → Type 0
StartBack l w vs t None = Unit {0}
StartBack l w vs t (Some s) = TakesBack s.opens (Level l w) vs s.values t s.expected

-- ---- lists of trees

pub joined-with_last : (ts : Trees) (a : Tree) (more : Trees) → joined_trees (with_last ts a) more ≡ joined_trees ts (AndTrees a more)
joined-with_last NoTrees a more = refl
joined-with_last (AndTrees b ts) a more = ap (λ x. AndTrees b x) (joined-with_last ts a more)

-- ---- atoms

kind_back : (w : Want) (x : Bool) (s : Option Start) (l : ℕ) (vs : Values) (t : Word) → (((a : Tree) → is_text a ≡ x → Fits w a) → StartBack l w vs t s) → StartBack l w vs t (if_takes w x s)
kind_back want.Number false s l vs t h = h (λ a e. e)
kind_back want.Number true s l vs t h = tt
kind_back want.Text false s l vs t h = tt
kind_back want.Text true s l vs t h = h (λ a e. e)
kind_back want.Either x s l vs t h = h (λ a e. tt)

-- the arguments of a function
more_back : (ws : List Want) (f : Function) (ts : Trees) (k : List Symbol) (vs : Values) (q : List LevelStep) (u : Values) → Spelled (more_expected ws ++ Do (MakeFunction f) ∷ k) (Several ts ∷ vs) q u
    → (more : Trees) × (r : List LevelStep) × (q ≡ more_steps more ++ r) × AreTrees more × Fill ws more × Spelled k (Term (FunctionOf f (joined_trees ts more)) ∷ vs) r u
more_back [] f ts k vs q u h = (NoTrees, h.2.0, h.1 ∙ ap (λ x. mark sign.Closing ∷ x) h.2.1, tt, tt, joined_nil ts (λ x. Spelled k (Term (FunctionOf f x) ∷ vs) h.2.0 u) h.2.2) where
  joined_nil : (ts : Trees) (P : Trees → Type 0) → P ts → P (joined_trees ts NoTrees)
  joined_nil NoTrees P p = p
  joined_nil (AndTrees a ts) P p = joined_nil ts (λ x. P (AndTrees a x)) p
more_back (w ∷ ws) f ts k vs q u h =
    let i = h.2 in
    let g = more_back ws f (with_last ts i.0) k vs i.1 u i.4 in
    (AndTrees i.0 g.0, g.1, h.1 ∙ ap (λ x. mark sign.Comma ∷ x) (i.2 ∙ ap (λ x. steps_of i.0 ++ x) g.2 ∙ sym (append_assoc (steps_of i.0) (more_steps g.0) g.1)), (i.3.tree, g.3), (i.3.kind, g.4), rw (← joined-with_last ts i.0 g.0) g.5)

arguments_back : (ws : List Want) (f : Function) (k : List Symbol) (vs : Values) (q : List LevelStep) (u : Values) → Spelled (arguments_expected ws ++ Do (MakeFunction f) ∷ k) (Several NoTrees ∷ vs) q u
    → (ts : Trees) × (r : List LevelStep) × (q ≡ list_steps ts ++ r) × AreTrees ts × Fill ws ts × Spelled k (Term (FunctionOf f ts) ∷ vs) r u
arguments_back [] f k vs q u h = (NoTrees, q, refl, tt, tt, h)
arguments_back (w ∷ ws) f k vs q u h =
    let i = h.2 in
    let g = more_back ws f (AndTrees i.0 NoTrees) k vs i.1 u i.4 in
    (AndTrees i.0 g.0, g.1, h.1 ∙ ap (λ x. Opens (Punctuation sign.Opening) ∷ x) (i.2 ∙ ap (λ x. steps_of i.0 ++ x) g.2 ∙ sym (append_assoc (steps_of i.0) (more_steps g.0) g.1)), (i.3.tree, g.3), (i.3.kind, g.4), g.5)

-- each table of words, in both directions
abbrev keyword_for : Keyword → Option Function → Keyword
keyword_for k None = k
keyword_for k (Some f) = function_keyword f

same_keyword : (k : Keyword) → keyword_for k (function_of k) ≡ k
same_keyword keyword.Len = refl
same_keyword k = refl

keyword_back : (k : Keyword) (f : Function) → function_of k ≡ Some f → function_keyword f ≡ k
keyword_back k f h = ap (λ o. keyword_for k o) (sym h) ∙ same_keyword k

abbrev word_for : Word → Option Operator → Word
word_for t None = t
word_for t (Some o) = operator_word o

same_sign_word : (s : Sign) → word_for (Punctuation s) (operator_of (Punctuation s)) ≡ Punctuation s
same_sign_word sign.Caret = refl
same_sign_word s = refl

same_key_word : (k : Keyword) → word_for (Key k) (operator_of (Key k)) ≡ Key k
same_key_word keyword.And = refl
same_key_word k = refl

same_word : (t : Word) → word_for t (operator_of t) ≡ t
same_word (Punctuation s) = same_sign_word s
same_word (Key k) = same_key_word k
same_word t = refl

pub operator_back : (t : Word) (o : Operator) → operator_of t ≡ Some o → operator_word o ≡ t
operator_back t o h = ap (λ x. word_for t x) (sym h) ∙ same_word t

abbrev relation_word : Word → Option Relation → Word
relation_word t None = t
relation_word t (Some r) = Punctuation (relation_sign r)

same_relation_sign : (s : Sign) → relation_word (Punctuation s) (relation_of (Punctuation s)) ≡ Punctuation s
same_relation_sign sign.Equal = refl
same_relation_sign s = refl

same_relation : (t : Word) → relation_word t (relation_of t) ≡ t
same_relation (Punctuation s) = same_relation_sign s
same_relation t = refl

pub relation_back : (t : Word) (r : Relation) → relation_of t ≡ Some r → Punctuation (relation_sign r) ≡ t
relation_back t r h = ap (λ x. relation_word t x) (sym h) ∙ same_relation t

function_back : (w : Want) (vs : Values) (k : Keyword) (o : Option Function) → function_of k ≡ o → StartBack 0 w vs (Key k) (function_start w vs o)
function_back w vs k None e = tt
function_back w vs k (Some f) e =
    kind_back w (gives_text f) (starts false (Several NoTrees ∷ vs) (arguments_expected (arguments_of f) ++ Do (MakeFunction f) ∷ [])) 0 vs (Key k) (λ fits j q u h.
    let g = arguments_back (arguments_of f) f j vs q u (subst (λ x. Spelled x (Several NoTrees ∷ vs) q u) (append_assoc (arguments_expected (arguments_of f)) (Do (MakeFunction f) ∷ []) j) h) in
    (FunctionOf f g.0, g.1, ap (λ x. Plain (Key x) ∷ q) (sym (keyword_back k f e)) ∙ ap (λ x. Plain (Key (function_keyword f)) ∷ x) g.2, record { tree = (g.3, g.4); within = omega arith; kind = fits (FunctionOf f g.0) refl }, g.5))

le_of : (n : ℕ) → nat_lt n 32768 ≡ true → n ≤ 32767
le_of n e = grind arith

literal_back : (w : Want) (vs : Values) (n : ℕ) (b : Bool) → nat_lt n 32768 ≡ b → ((a : Tree) → is_text a ≡ false → Fits w a) → StartBack 0 w vs (Number n) (cond b (starts false (Term (Literal n) ∷ vs) []) None)
literal_back w vs n false e fits = tt
literal_back w vs n true e fits = λ k q u h. (Literal n, q, refl, record { tree = le_of n e; within = omega arith; kind = fits (Literal n) refl }, h)

pub atom_back : (w : Want) (vs : Values) (t : Word) → StartBack 0 w vs t (atom w vs t)
atom_back w vs (Number n) = kind_back w false (cond (nat_lt n 32768) (starts false (Term (Literal n) ∷ vs) []) None) 0 vs (Number n) (literal_back w vs n (nat_lt n 32768) refl)
atom_back w vs (Quotation text) = kind_back w true (starts false (Term (Quoted text) ∷ vs) []) 0 vs (Quotation text) (λ fits k q u h. (Quoted text, q, refl, record { tree = tt; within = omega arith; kind = fits (Quoted text) refl }, h))
atom_back w vs (Named name) = kind_back w name.text (starts false vs (Subscripts name ∷ [])) 0 vs (Named name) (λ fits k q u h. (h.0, h.2, ap (λ x. Plain (Named name) ∷ x) h.3 ∙ ap (λ x. x ++ h.2) (sym h.4.spelled), record { tree = h.4.tree; within = omega (arith, h.4.level); kind = fits h.0 h.4.kind }, h.5))
atom_back w vs (FnNamed name) = kind_back w name.text (starts false vs (Arguments name ∷ [])) 0 vs (FnNamed name) (λ fits k q u h. (h.0, h.2, ap (λ x. Plain (FnNamed name) ∷ x) h.3 ∙ ap (λ x. x ++ h.2) (sym h.4.spelled), record { tree = h.4.tree; within = omega (arith, h.4.level); kind = fits h.0 h.4.kind }, h.5))
atom_back w vs (Punctuation sign.Opening) = λ k q u h.
    let c = h.4.2 in
    (Parenthesized h.0, c.0, ap (λ x. Opens (Punctuation sign.Opening) ∷ x) (h.2 ∙ ap (λ x. steps_of h.0 ++ x) (h.4.1 ∙ ap (λ x. mark sign.Closing ∷ x) c.1) ∙ sym (append_assoc (steps_of h.0) (mark sign.Closing ∷ Closes ∷ []) c.0)), record { tree = h.3.tree; within = omega arith; kind = parenthesized_fits w h.0 h.3.kind }, c.2) where
      parenthesized_fits : (w : Want) (a : Tree) → Fits w a → Fits w (Parenthesized a)
      parenthesized_fits want.Number a e = e
      parenthesized_fits want.Text a e = e
      parenthesized_fits want.Either a e = tt
atom_back w vs (Punctuation other) = tt
atom_back w vs (Key k) = function_back w vs k (function_of k) refl
atom_back w vs (Item item) = tt

-- ---- signs and NOT

-- what begins at a higher precedence begins at this one
raise : (l m : ℕ) → l ≤ m → (w : Want) (vs : Values) (t : Word) (s : Option Start) → StartBack l w vs t s → StartBack m w vs t s
raise l m le w vs t None h = tt
raise l m le w vs t (Some s) h = λ k q u r. let g = h k q u r in (g.0, g.1, g.2, record { tree = g.3.tree; within = omega (arith, g.3.within); kind = g.3.kind }, g.4)

-- a sign or NOT, its operand, and the end of its nesting level
prefixed_back : (l m : ℕ) (w : Want) (vs : Values) (t : Word) (a : Action) (make : Tree → Tree) → ((b : Tree) (us : Values) → Term (make b) ∷ us ≡ made a (Term b ∷ us) ∷ others a (Term b ∷ us)) → ((b : Tree) → steps_of (make b) ≡ Opens t ∷ (steps_of b ++ Closes ∷ [])) → ((b : Tree) → is_text (make b) ≡ false)
    → ((b : Tree) → Fine m want.Number b → IsTree (make b) × (level_of (make b) ≤ l)) → StartBack l w vs t (prefixed w vs (Level m want.Number) a)
prefixed_back l m w vs t a make makes spells numeric trees = kind_back_at w (λ fits k q u h.
    let c = h.4 in
    (make h.0, c.0, ap (λ x. Opens t ∷ x) (h.2 ∙ ap (λ x. steps_of h.0 ++ x) c.1 ∙ sym (append_assoc (steps_of h.0) (Closes ∷ []) c.0)) ∙ ap (λ x. x ++ c.0) (sym (spells h.0)), record { tree = (trees h.0 h.3).0; within = (trees h.0 h.3).1; kind = fits (make h.0) (numeric h.0) }, subst (λ x. Spelled k x c.0 u) (sym (makes h.0 vs)) c.2)) where
      kind_back_at : (w : Want) → (((a : Tree) → is_text a ≡ false → Fits w a) → TakesBack true (Level l w) vs vs t (Level m want.Number ∷ Close ∷ Do a ∷ [])) → StartBack l w vs t (prefixed w vs (Level m want.Number) a)
      kind_back_at want.Number h = h (λ a e. e)
      kind_back_at want.Text h = tt
      kind_back_at want.Either h = h (λ a e. tt)

signed_back : (l : ℕ) → sign_level ≤ l → (w : Want) (vs : Values) (t : Word) (s : Option Start) → StartBack l w vs t s → StartBack l w vs t (signed w vs (Level sign_level want.Number) t s)
signed_back l le w vs (Punctuation sign.Minus) s h = prefixed_back l sign_level w vs (Punctuation sign.Minus) MakeNegative (λ b. Negative b) (λ b us. refl) (λ b. refl) (λ b. refl) (λ b f. ((f.tree, f.within, f.kind), le))
signed_back l le w vs (Punctuation sign.Plus) s h = prefixed_back l sign_level w vs (Punctuation sign.Plus) MakePositive (λ b. Positive b) (λ b us. refl) (λ b. refl) (λ b. refl) (λ b f. ((f.tree, f.within, f.kind), le))
signed_back l le w vs (Punctuation other) s h = h
signed_back l le w vs (Key k) s h = h
signed_back l le w vs other s h = h

negated_back : (l : ℕ) → not_level ≤ l → (w : Want) (vs : Values) (t : Word) (s : Option Start) → StartBack l w vs t s → StartBack l w vs t (negated w vs t s)
negated_back l le w vs (Key keyword.Not) s h = prefixed_back l not_level w vs (Key keyword.Not) MakeNot (λ b. Not b) (λ b us. refl) (λ b. refl) (λ b. refl) (λ b f. ((f.tree, f.within, f.kind), le))
negated_back l le w vs (Key other) s h = h
negated_back l le w vs (Punctuation p) s h = h
negated_back l le w vs other s h = h

-- ---- more operands at a precedence level

fits_same : (w : Want) (a b : Tree) → is_text b ≡ is_text a → Fits w a → Fits w b
fits_same want.Number a b e f = e ∙ f
fits_same want.Text a b e f = e ∙ f
fits_same want.Either a b e f = tt

grow_chain : (l : ℕ) (w : Want) (vs : Values) (k : List Symbol) (q : List LevelStep) (u : Values) → Spelled (Level l w ∷ More (suc l) ∷ k) vs q u → Spelled (Level (suc l) w ∷ k) vs q u
grow_chain l w vs k q u g =
    let m = g.4 in
    let within : level_of g.0 ≤ suc l = omega (arith, g.3.within) in
    (m.0, m.2, g.2 ∙ ap (λ x. steps_of g.0 ++ x) m.3 ∙ sym (append_assoc (steps_of g.0) m.1 m.2) ∙ ap (λ x. x ++ m.2) (sym m.4.spelled), record { tree = m.4.tree g.3.tree within; within = m.4.within within; kind = fits_same w g.0 m.0 m.5 g.3.kind }, m.6)

grow_kept : (b : Bool) (l : ℕ) (w v : Want) (vs : Values) → suc l ≡ relation_level → ((t : Tree) → Kept b t → Fits w t) → (k : List Symbol) (q : List LevelStep) (u : Values) → Spelled (Level l v ∷ MoreRelations b ∷ k) vs q u → Spelled (Level (suc l) w ∷ k) vs q u
grow_kept b l w v vs e fits k q u g =
    let m = g.4 in
    let within : level_of g.0 ≤ relation_level = omega (arith, g.3.within) in
    let after : level_of m.0 ≤ relation_level = m.4.within within in
    (m.0, m.2, g.2 ∙ ap (λ x. steps_of g.0 ++ x) m.3 ∙ sym (append_assoc (steps_of g.0) m.1 m.2) ∙ ap (λ x. x ++ m.2) (sym m.4.spelled), record { tree = m.4.tree g.3.tree within; within = omega arith; kind = fits m.0 m.5 }, m.6)

grow_relation : (l : ℕ) (w : Want) (vs : Values) → suc l ≡ relation_level → (k : List Symbol) (q : List LevelStep) (u : Values) → Spelled (Level l (side w) ∷ (relations w ++ k)) vs q u → Spelled (Level (suc l) w ∷ k) vs q u
grow_relation l want.Number vs e k q u g = grow_kept true l want.Number want.Either vs e (λ t x. x) k q u g
grow_relation l want.Text vs e k q u g = (g.0, g.1, g.2, record { tree = g.3.tree; within = omega (arith, g.3.within); kind = g.3.kind }, g.4)
grow_relation l want.Either vs e k q u g = grow_kept false l want.Either want.Either vs e (λ t x. tt) k q u g

start_behind : (l m : ℕ) (v w : Want) (vs : Values) (t : Word) (s : Option Start) (more : List Symbol) → ((k : List Symbol) (q : List LevelStep) (u : Values) → Spelled (Level l v ∷ (more ++ k)) vs q u → Spelled (Level m w ∷ k) vs q u) → StartBack l v vs t s → StartBack m w vs t (behind more s)
start_behind l m v w vs t None more grow h = tt
start_behind l m v w vs t (Some s) more grow h = λ k q u r. grow k (taken s.opens t ∷ q) u (h (more ++ k) q u (subst (λ x. Spelled x s.values q u) (append_assoc s.expected more k) r))

-- what the rank of a precedence level says about it
abbrev pub RankFact : Rank → ℕ → Type 0
RankFact Signs n = n ≡ sign_level
RankFact Relations n = n ≡ relation_level
RankFact Nots n = n ≡ not_level
RankFact Chain n = Unit {0}

pub rank_fact : (n : ℕ) → RankFact (rank_of n) n
rank_fact n = go (n == sign_level) refl (n == relation_level) refl (n == not_level) refl where
  go : (a : Bool) → (n == sign_level) ≡ a → (b : Bool) → (n == relation_level) ≡ b → (c : Bool) → (n == not_level) ≡ c → RankFact (if a then Signs else (if b then Relations else (if c then Nots else Chain))) n
  go true e b f c g = eqb-true n sign_level e
  go false e true f c g = eqb-true n relation_level f
  go false e false f true g = eqb-true n not_level g
  go false e false f false g = tt

ranked_back : (r : Rank) (l : ℕ) → RankFact r (suc l) → (w : Want) (vs : Values) (t : Word) (tighter : Want → Option Start) → ((v : Want) → StartBack l v vs t (tighter v)) → StartBack (suc l) w vs t (ranked r (suc l) w vs t tighter)
ranked_back Signs l e w vs t tighter h = signed_back (suc l) (omega (arith, e)) w vs t (tighter w) (raise l (suc l) (omega arith) w vs t (tighter w) (h w))
ranked_back Relations l e w vs t tighter h = start_behind l (suc l) (side w) w vs t (tighter (side w)) (relations w) (grow_relation l w vs e) (h (side w))
ranked_back Nots l e w vs t tighter h = negated_back (suc l) (omega (arith, e)) w vs t (tighter w) (raise l (suc l) (omega arith) w vs t (tighter w) (h w))
ranked_back Chain l e w vs t tighter h = start_behind l (suc l) w w vs t (tighter w) (More (suc l) ∷ []) (grow_chain l w vs) (h w)

pub start_back : (l : ℕ) (w : Want) (vs : Values) (t : Word) → StartBack l w vs t (start l w vs t)
start_back zero w vs t = atom_back w vs t
start_back (suc l) w vs t = ranked_back (rank_of (suc l)) l (rank_fact (suc l)) w vs t (λ v. start l v vs t) (λ v. start_back l v vs t)

-- ---- moves

-- what a move of one symbol took, the symbol spells
abbrev pub MoveBack : Symbol → Values → Option Word → MachineMove → Type 0
MoveBack s vs None (Shifts opens vs' ns) = Unit {0}
MoveBack s vs (Some t) (Shifts opens vs' ns) = TakesBack opens s vs vs' t ns
MoveBack s vs o (Skips vs') = (k : List Symbol) (q : List LevelStep) (u : Values) → Spelled k vs' q u → Spelled (s ∷ k) vs q u
MoveBack s vs o (Ends vs') = (k : List Symbol) (q : List LevelStep) (u : Values) → Spelled k vs' q u → Spelled (s ∷ k) vs (Closes ∷ q) u
MoveBack s vs o Refuses = Unit {0}
