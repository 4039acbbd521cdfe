-- What the stack still takes, and that each state can be completed.
use Rattle.std.proofs.Common.{◌≡◌, ℕ, ◌≤◌, Bool, true, false, List, [], ◌∷◌, ◌++◌, Option, None, inr, refl, sym, subst, arith}
use Rattle.basic_tree.specs.declared.names.Name.{Name}
use Rattle.std.proofs.lemmas.List.{append-nil}
use Rattle.basic_tree.specs.declared.tokens.Sign.TheVariants as sign
use Rattle.basic_tree.specs.declared.expressions.Relation.TheVariants as relation
use Rattle.basic_tree.specs.declared.kinds.Want.{Want}
use Rattle.basic_tree.specs.declared.kinds.Want.TheVariants as want
use Rattle.basic_tree.specs.SpellingWords.{Word, Punctuation, Named, FnNamed, Number, Quotation, LevelStep, Plain, Opens, Closes}
use Rattle.basic_tree.specs.Trees.{Tree, Literal, Quoted, Variable, Call, Comparison, Trees, NoTrees, AndTrees, ModifierTree, LineClause, StatementClause, StatementTree}
use Rattle.basic_tree.specs.SpellingExpressions.{mark, steps_of, more_steps, is_text, Fits, level_of, is_exponent, IsTree, AreTrees}
use Rattle.basic_tree.specs.GrammarTables.{relation_level}
use Rattle.grammar_machine.specs.MachineStack.{Value, Term, Several, Stated, Parsed, Values, top, several, stated, parsed, below, with_statement, made, others, Limit, LineNumber, Bound, Size, within, Form, Made, TakeKey, TakeSign, TakeClosing, IfKey, IfSign, ExprOf, ExprIf, TargetOf, NameIn, FnNameIn, LiteralIn, LiteralIf, QuotedIf, ItemIn, MoreItems, MoreOf, MorePrinted, MoreUsing, ClauseIn, Symbol, Level, More, MoreRelations, Exponent, Expect, Opening, Close, Do, Subscripts, SecondSubscript, Arguments, MoreArguments, Go, Await, AwaitClause, Modifiers, OneStatement, MoreStatements}
use Rattle.basic_tree.specs.SpellingPieces.{each, pieces_steps, ArePieces}
use Rattle.grammar_machine.proofs.MachineReads.{Reads, modifiers_steps, AreModifiers, modified_by, place_pieces, separated}

-- a tree of a precedence level and an expected kind
pub record Fine (l : ℕ) (w : Want) (t : Tree) : Type 0 where
  pub tree : IsTree t
  pub within : level_of t ≤ l
  pub kind : Fits w t

-- a tree with more operands at a precedence level
pub record Grown (l : ℕ) (a : Tree) (steps : List LevelStep) (t : Tree) : Type 0 where
  pub spelled : steps_of t ≡ steps_of a ++ steps
  pub tree : IsTree a → level_of a ≤ l → IsTree t
  pub within : level_of a ≤ l → level_of t ≤ l

-- an atom that begins with a name
pub record Led (word : Word) (is_textual : Bool) (steps : List LevelStep) (t : Tree) : Type 0 where
  pub spelled : steps_of t ≡ Plain word ∷ steps
  pub tree : IsTree t
  pub level : level_of t ≡ 0
  pub kind : is_text t ≡ is_textual
  pub exponent : is_exponent t ≡ true

-- more of a list, up to its closing parenthesis
pub record Listed (steps : List LevelStep) (more : Trees) : Type 0 where
  pub spelled : more_steps more ≡ steps ++ mark sign.Closing ∷ Closes ∷ []
  pub trees : AreTrees more

-- a second subscript, or none
abbrev pub IsSecond : Trees → Type 0
IsSecond NoTrees = Unit {0}
IsSecond (AndTrees a NoTrees) = Fits want.Number a
IsSecond (AndTrees a (AndTrees b more)) = ⊥

abbrev pub Kept : Bool → Tree → Type 0
Kept true t = is_text t ≡ false
Kept false t = Unit {0}

-- the trees of both lists
abbrev pub joined_trees : Trees → Trees → Trees
joined_trees NoTrees more = more
joined_trees (AndTrees a ts) more = AndTrees a (joined_trees ts more)

-- the steps take all that is expected, and lead from these values to those
abbrev pub Spelled : List Symbol → Values → List LevelStep → Values → Type 0
Spelled [] vs p u = (p ≡ []) × (vs ≡ u)
Spelled (Level l w ∷ k) vs p u = (t : Tree) × (r : List LevelStep) × (p ≡ steps_of t ++ r) × Fine l w t × Spelled k (Term t ∷ vs) r u
Spelled (More l ∷ k) vs p u = (t : Tree) × (g : List LevelStep) × (r : List LevelStep) × (p ≡ g ++ r) × Grown l (top vs) g t × (is_text t ≡ is_text (top vs)) × Spelled k (Term t ∷ below vs) r u
Spelled (MoreRelations b ∷ k) vs p u = (t : Tree) × (g : List LevelStep) × (r : List LevelStep) × (p ≡ g ++ r) × Grown relation_level (top vs) g t × Kept b t × Spelled k (Term t ∷ below vs) r u
Spelled (Exponent ∷ k) vs p u = (t : Tree) × (r : List LevelStep) × (p ≡ steps_of t ++ r) × IsTree t × (is_exponent t ≡ true) × Fits want.Number t × Spelled k (Term t ∷ vs) r u
Spelled (Expect s ∷ k) vs p u = (r : List LevelStep) × (p ≡ mark s ∷ r) × Spelled k vs r u
Spelled (Opening ∷ k) vs p u = (r : List LevelStep) × (p ≡ Opens (Punctuation sign.Opening) ∷ r) × Spelled k vs r u
Spelled (Close ∷ k) vs p u = (r : List LevelStep) × (p ≡ Closes ∷ r) × Spelled k vs r u
Spelled (Do a ∷ k) vs p u = Spelled k (made a vs ∷ others a vs) p u
Spelled (Subscripts name ∷ k) vs p u = (t : Tree) × (g : List LevelStep) × (r : List LevelStep) × (p ≡ g ++ r) × Led (Named name) name.text g t × Spelled k (Term t ∷ vs) r u
Spelled (SecondSubscript ∷ k) vs p u = (more : Trees) × (g : List LevelStep) × (r : List LevelStep) × (p ≡ g ++ r) × Listed g more × IsSecond more × Spelled k (Several (joined_trees (several vs) more) ∷ below vs) r u
Spelled (Arguments name ∷ k) vs p u = (t : Tree) × (g : List LevelStep) × (r : List LevelStep) × (p ≡ g ++ r) × Led (FnNamed name) name.text g t × Spelled k (Term t ∷ vs) r u
Spelled (MoreArguments ∷ k) vs p u = (more : Trees) × (g : List LevelStep) × (r : List LevelStep) × (p ≡ g ++ r) × Listed g more × Spelled k (Several (joined_trees (several vs) more) ∷ below vs) r u
Spelled (Go f ∷ k) vs p u = (g : List LevelStep) × (v : Value) × (r : List LevelStep) × (p ≡ g ++ r) × Reads f g v × Spelled k (v ∷ vs) r u
Spelled (Await h ∷ k) vs p u = (g : List LevelStep) × (v : Value) × (r : List LevelStep) × (p ≡ g ++ r) × Reads (h (top vs)) g v × Spelled k (v ∷ below vs) r u
Spelled (AwaitClause h ∷ k) vs p u = (g : List LevelStep) × (v : Value) × (r : List LevelStep) × (p ≡ g ++ r) × Reads (h (StatementClause (stated vs))) g v × Spelled k (v ∷ below vs) r u
Spelled (Modifiers ∷ k) vs p u = (ms : List ModifierTree) × (r : List LevelStep) × (p ≡ modifiers_steps ms ++ r) × AreModifiers ms × Spelled k (Stated (modified_by (stated vs) ms) ∷ below vs) r u
Spelled (OneStatement ∷ k) vs p u = (s : Option StatementTree) × (r : List LevelStep) × (p ≡ pieces_steps (place_pieces s) ++ r) × ArePieces (place_pieces s) × Spelled k (with_statement s vs) r u
Spelled (MoreStatements ∷ k) vs p u = (ss : List (Option StatementTree)) × (r : List LevelStep) × (p ≡ pieces_steps (each separated ss) ++ r) × ArePieces (each separated ss) × Spelled k (Parsed (parsed vs ++ ss) ∷ below vs) r u

-- ---- each state can be completed

pub simplest : Want → Tree
simplest want.Number = Literal 0
simplest want.Text = Quoted []
simplest want.Either = Literal 0

pub simplest_fine : (l : ℕ) (w : Want) → Fine l w (simplest w)
unfolding simplest
simplest_fine l want.Number = record { tree = omega arith; within = omega arith; kind = refl }
simplest_fine l want.Text = record { tree = tt; within = omega arith; kind = refl }
simplest_fine l want.Either = record { tree = omega arith; within = omega arith; kind = tt }

pub as_is : (l : ℕ) (t : Tree) → Grown l t [] t
as_is l t = record { spelled = sym (append-nil (steps_of t)); tree = λ h w. h; within = λ w. w }

keep : (x : Bool) (a : Tree) → (t : Tree) × (g : List LevelStep) × Grown relation_level a g t × Kept x t
keep false a = (a, [], as_is relation_level a, tt)
keep true a = go (is_text a) refl where
  go : (x : Bool) → is_text a ≡ x → (t : Tree) × (g : List LevelStep) × Grown relation_level a g t × Kept true t
  go false e = (a, [], as_is relation_level a, e)
  go true e = (Comparison a relation.Equal (Quoted []), mark sign.Equal ∷ Plain (Quotation []) ∷ [], record { spelled = refl; tree = λ h w. (h, tt, w, omega arith, sym e); within = λ w. omega arith }, refl)

-- ---- forms

pub some_name : Want → Name
some_name want.Text = record { letter = 65; digit = None; text = true }
some_name w = record { letter = 65; digit = None; text = false }

some_fits : (w : Want) → Fits w (Variable (some_name w))
unfolding some_name
some_fits want.Number = refl
some_fits want.Text = refl
some_fits want.Either = tt

pub some_literal : Limit → ℕ
some_literal LineNumber = 1
some_literal Bound = 1
some_literal Size = 2

some_within : (limit : Limit) → within limit (some_literal limit) ≡ true
unfolding some_literal lib.Count.ones
some_within LineNumber = refl
some_within Bound = refl
some_within Size = refl

pub fill_form : (f : Form) → (p : List LevelStep) × (v : Value) × Reads f p v
fill_form (Made v) = ([], v, (refl, refl))
fill_form (TakeKey opens k f) = let h = fill_form f in (_, h.1, (h.0, refl, h.2))
fill_form (TakeSign opens s f) = let h = fill_form f in (_, h.1, (h.0, refl, h.2))
fill_form (TakeClosing f) = let h = fill_form f in (_, h.1, (h.0, refl, h.2))
fill_form (IfKey opens k f h) = let x = fill_form h in (x.0, x.1, inr x.2)
fill_form (IfSign opens s f h) = let x = fill_form h in (x.0, x.1, inr x.2)
fill_form (ExprOf w g) = let h = fill_form (g (simplest w)) in (_, h.1, (simplest w, h.0, refl, (simplest_fine 0 w).tree, (simplest_fine 0 w).kind, h.2))
fill_form (ExprIf test w g h) = let x = fill_form h in (x.0, x.1, inr x.2)
fill_form (TargetOf w g) = let h = fill_form (g (Variable (some_name w))) in (_, h.1, (Variable (some_name w), h.0, refl, tt, some_fits w, refl, h.2))
fill_form (NameIn w g) = let h = fill_form (g (some_name w)) in (_, h.1, (some_name w, h.0, refl, some_fits w, h.2))
fill_form (FnNameIn g) = let h = fill_form (g (some_name want.Number)) in (_, h.1, (some_name want.Number, h.0, refl, h.2))
fill_form (LiteralIn limit g) = let h = fill_form (g (some_literal limit)) in (_, h.1, (some_literal limit, h.0, refl, some_within limit, h.2))
fill_form (LiteralIf limit g h) = let x = fill_form h in (x.0, x.1, inr x.2)
fill_form (QuotedIf g h) = let x = fill_form h in (x.0, x.1, inr x.2)
fill_form (ItemIn g) = let h = fill_form (g []) in (_, h.1, ([], h.0, refl, h.2))
fill_form (MoreItems items g) = let h = fill_form (g items) in (h.0, h.1, ([], h.0, refl, subst (λ x. Reads (g x) h.0 h.1) (sym (append-nil items)) h.2))
fill_form (MoreOf s items g) = let h = fill_form (g items) in (h.0, h.1, ([], h.0, refl, tt, subst (λ x. Reads (g x) h.0 h.1) (sym (append-nil items)) h.2))
fill_form (MorePrinted c items) = ([], _, ([], None, refl, tt, refl))
fill_form (MoreUsing c format values) = ([], _, ([], None, refl, tt, refl))
fill_form (ClauseIn g) = let h = fill_form (g (LineClause 1)) in (_, h.1, (LineClause 1, h.0, refl, (refl, tt), h.2))

-- ---- whole stacks

pub fill : (k : List Symbol) (vs : Values) → (p : List LevelStep) × (u : Values) × Spelled k vs p u
fill [] vs = ([], vs, (refl, refl))
fill (Level l w ∷ k) vs = let f = fill k (Term (simplest w) ∷ vs) in (steps_of (simplest w) ++ f.0, f.1, (simplest w, f.0, refl, simplest_fine l w, f.2))
fill (More l ∷ k) vs = let f = fill k (Term (top vs) ∷ below vs) in (f.0, f.1, (top vs, [], f.0, refl, as_is l (top vs), refl, f.2))
fill (MoreRelations x ∷ k) vs = let g = keep x (top vs) in let f = fill k (Term g.0 ∷ below vs) in (g.1 ++ f.0, f.1, (g.0, g.1, f.0, refl, g.2, g.3, f.2))
fill (Exponent ∷ k) vs = let f = fill k (Term (Literal 0) ∷ vs) in (Plain (Number 0) ∷ f.0, f.1, (Literal 0, f.0, refl, omega arith, refl, refl, f.2))
fill (Expect s ∷ k) vs = let f = fill k vs in (mark s ∷ f.0, f.1, (f.0, refl, f.2))
fill (Opening ∷ k) vs = let f = fill k vs in (Opens (Punctuation sign.Opening) ∷ f.0, f.1, (f.0, refl, f.2))
fill (Close ∷ k) vs = let f = fill k vs in (Closes ∷ f.0, f.1, (f.0, refl, f.2))
fill (Do a ∷ k) vs = fill k (made a vs ∷ others a vs)
fill (Subscripts name ∷ k) vs = let f = fill k (Term (Variable name) ∷ vs) in (f.0, f.1, (Variable name, [], f.0, refl, record { spelled = refl; tree = tt; level = refl; kind = refl; exponent = refl }, f.2))
fill (SecondSubscript ∷ k) vs = let f = fill k (Several (joined_trees (several vs) NoTrees) ∷ below vs) in (f.0, f.1, (NoTrees, [], f.0, refl, record { spelled = refl; trees = tt }, tt, f.2))
fill (Arguments name ∷ k) vs = let f = fill k (Term (Call name NoTrees) ∷ vs) in (f.0, f.1, (Call name NoTrees, [], f.0, refl, record { spelled = refl; tree = tt; level = refl; kind = refl; exponent = refl }, f.2))
fill (MoreArguments ∷ k) vs = let f = fill k (Several (joined_trees (several vs) NoTrees) ∷ below vs) in (f.0, f.1, (NoTrees, [], f.0, refl, record { spelled = refl; trees = tt }, f.2))
fill (Go f ∷ k) vs = let h = fill_form f in let x = fill k (h.1 ∷ vs) in (h.0 ++ x.0, x.1, (h.0, h.1, x.0, refl, h.2, x.2))
fill (Await g ∷ k) vs = let h = fill_form (g (top vs)) in let x = fill k (h.1 ∷ below vs) in (h.0 ++ x.0, x.1, (h.0, h.1, x.0, refl, h.2, x.2))
fill (AwaitClause g ∷ k) vs = let h = fill_form (g (StatementClause (stated vs))) in let x = fill k (h.1 ∷ below vs) in (h.0 ++ x.0, x.1, (h.0, h.1, x.0, refl, h.2, x.2))
fill (Modifiers ∷ k) vs = let x = fill k (Stated (stated vs) ∷ below vs) in (x.0, x.1, ([], x.0, refl, tt, x.2))
fill (OneStatement ∷ k) vs = let x = fill k (with_statement None vs) in (x.0, x.1, (None, x.0, refl, tt, x.2))
fill (MoreStatements ∷ k) vs = let x = fill k (Parsed (parsed vs ++ []) ∷ below vs) in (x.0, x.1, ([], x.0, refl, tt, x.2))
