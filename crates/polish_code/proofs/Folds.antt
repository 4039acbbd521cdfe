-- Code is a list of instructions that are put one by one before what follows; and how many there
-- are.
use Rattle.std.proofs.Common.{◌≡◌, ℕ, suc, ◌+◌, List, [], ◌∷◌, ◌++◌, length, None, refl, ap, ◌∙◌, subst, arith, length-append}
use Rattle.std.specs.Prelude.{true, false}
use Rattle.basic_tree.specs.Trees.{Tree, Literal, Quoted, Variable, Element, FunctionOf, Call, Parenthesized, Negative, Positive, Not, Operation, Comparison, Trees, NoTrees, AndTrees, ModifierTree, If, ForModifier, ClauseTree, LineClause, StatementClause, ElseTree, NoElse, Else, StatementTree, IfThen, IfGoto, Modified, For, Def, Print, Input, InputLine}
use Rattle.program_model.specs.Program.{Program, loops_outside}
use Rattle.polish_code.specs.declared.items.Item.{Item}
use Rattle.polish_code.specs.declared.items.Item.TheVariants as item
use Rattle.polish_code.specs.Code.{Piece, Ex, Exs, It, Into, expr_size, trees_size, pieces_size, Places, expr_put, trees_put, pieces_put, simple_pieces, head_pieces, tail_pieces, nowhere, body_size, clause_size, else_size, else_only_size, over_clause, skip_put, body_put, clause_put, else_put}

abbrev pub folded : {S : Type 0} → (Item → S → S) → List Item → S → S
folded put [] s = s
folded put (i ∷ is) s = put i (folded put is s)

folded_both : {S : Type 0} (put : Item → S → S) (xs ys : List Item) (s : S) → folded put xs (folded put ys s) ≡ folded put (xs ++ ys) s
folded_both put [] ys s = refl
folded_both put (x ∷ xs) ys s = ap (put x) (folded_both put xs ys s)

-- this many instructions are put before others
pub record Folds {S : Type 0} (put : Item → S → S) (f : S → S) (n : ℕ) : Type 0 where
  pub front : List Item
  pub stands : (s : S) → f s ≡ folded put front s
  pub sized : length front ≡ n

abbrev none : {S : Type 0} {put : Item → S → S} → Folds put (λ s. s) 0
none = record { front = []; stands = λ s. refl; sized = refl }

abbrev next : {S : Type 0} {put : Item → S → S} (i : Item) (f : S → S) (n : ℕ) → Folds put f n → Folds put (λ s. put i (f s)) (suc n)
next {put = put} i f n h = record { front = i ∷ h.front; stands = λ s. ap (put i) (h.stands s); sized = ap suc h.sized }

-- one before the other
both : {S : Type 0} {put : Item → S → S} (f g : S → S) (n k : ℕ) → Folds put f n → Folds put g k → Folds put (λ s. f (g s)) (n + k)
both {put = put} f g n k h e = record {
  front = h.front ++ e.front;
  stands = λ s. h.stands (g s) ∙ ap (folded put h.front) (e.stands s) ∙ folded_both put h.front e.front s;
  sized = omega (arith, length-append h.front e.front, h.sized, e.sized);
}

one : {S : Type 0} {put : Item → S → S} (i : Item) → Folds put (put i) 1
one i = next i (λ s. s) 0 none

module _ {S : Type 0} (put : Item → S → S) (program : Program) (places : Places) where
  mutual
    pub expr_folds : (e : Tree) → Folds put (expr_put put program places e) (expr_size e)
    expr_folds (Literal n) = one _
    expr_folds (Quoted t) = one _
    expr_folds (Variable x) = one _
    expr_folds (Element x es) = both (trees_put put program places es) (put _) (trees_size es) 1 (trees_folds es) (one _)
    expr_folds (FunctionOf f es) = both (trees_put put program places es) (put _) (trees_size es) 1 (trees_folds es) (one _)
    expr_folds (Call f es) = both (trees_put put program places es) (put _) (trees_size es) 1 (trees_folds es) (one _)
    expr_folds (Parenthesized e) = expr_folds e
    expr_folds (Negative e) = both (expr_put put program places e) (put _) (expr_size e) 1 (expr_folds e) (one _)
    expr_folds (Positive e) = expr_folds e
    expr_folds (Not e) = both (expr_put put program places e) (put _) (expr_size e) 1 (expr_folds e) (one _)
    expr_folds (Operation a o b) = both (expr_put put program places a) (λ is. expr_put put program places b (put _ is)) (expr_size a) (expr_size b + 1) (expr_folds a) (both (expr_put put program places b) (put _) (expr_size b) 1 (expr_folds b) (one _))
    expr_folds (Comparison a r b) = both (expr_put put program places a) (λ is. expr_put put program places b (put _ is)) (expr_size a) (expr_size b + 1) (expr_folds a) (both (expr_put put program places b) (put _) (expr_size b) 1 (expr_folds b) (one _))

    pub trees_folds : (es : Trees) → Folds put (trees_put put program places es) (trees_size es)
    trees_folds NoTrees = none
    trees_folds (AndTrees e es) = both (expr_put put program places e) (trees_put put program places es) (expr_size e) (trees_size es) (expr_folds e) (trees_folds es)

  pub pieces_folds : (ps : List Piece) → Folds put (pieces_put put program places ps) (pieces_size ps)
  pieces_folds [] = none
  pieces_folds (Ex e ∷ ps) = both (expr_put put program places e) (pieces_put put program places ps) (expr_size e) (pieces_size ps) (expr_folds e) (pieces_folds ps)
  pieces_folds (Exs es ∷ ps) = both (trees_put put program places es) (pieces_put put program places ps) (trees_size es) (pieces_size ps) (trees_folds es) (pieces_folds ps)
  pieces_folds (It i ∷ ps) = next i (pieces_put put program places ps) (pieces_size ps) (pieces_folds ps)
  pieces_folds (Into x count ∷ ps) = next _ (pieces_put put program places ps) (pieces_size ps) (pieces_folds ps)

  -- sizes do not depend on places
  simple_size : (m i : ℕ) (s : StatementTree) → pieces_size (simple_pieces program places m i s) ≡ pieces_size (simple_pieces [] nowhere 0 0 s)
  simple_size m i (For x a b None) = refl
  simple_size m i (Def f xs None) = refl
  simple_size m i (Print None items last) = refl
  simple_size m i (Input None p ts) = refl
  simple_size m i (InputLine None x) = refl
  simple_size m i s = refl

  pub head_size : (d : ModifierTree) (i n : ℕ) → pieces_size (head_pieces d i n) ≡ pieces_size (head_pieces d 0 0)
  head_size (ForModifier x a b None) i n = refl
  head_size d i n = refl

  pub tail_size : (d : ModifierTree) (i n : ℕ) → pieces_size (tail_pieces d i n) ≡ pieces_size (tail_pieces d 0 0)
  tail_size (If e) i n = refl
  tail_size d i n = refl

  pub head_folds : (d : ModifierTree) (i n : ℕ) → Folds put (pieces_put put program places (head_pieces d i n)) (pieces_size (head_pieces d 0 0))
  head_folds d i n = subst (Folds put (pieces_put put program places (head_pieces d i n))) (head_size d i n) (pieces_folds (head_pieces d i n))

  pub tail_folds : (d : ModifierTree) (i n : ℕ) → Folds put (pieces_put put program places (tail_pieces d i n)) (pieces_size (tail_pieces d 0 0))
  tail_folds d i n = subst (Folds put (pieces_put put program places (tail_pieces d i n))) (tail_size d i n) (pieces_folds (tail_pieces d i n))

  simple_folds : (m i : ℕ) (s : StatementTree) → Folds put (pieces_put put program places (simple_pieces program places m i s)) (pieces_size (simple_pieces [] nowhere 0 0 s))
  simple_folds m i s = subst (Folds put (pieces_put put program places (simple_pieces program places m i s))) (simple_size m i s) (pieces_folds (simple_pieces program places m i s))

  -- ELSE after THEN
  abbrev pub else_behind : ℕ → ℕ → ElseTree → S → S
  else_behind m i o s = skip_put put o (else_put put program places m i o s)

  mutual
    pub body_folds : (s : StatementTree) (m i : ℕ) → Folds put (body_put put program places m i s) (body_size s)
    body_folds (IfThen e c o) m i =
        both (expr_put put program places e) (λ is. put (item.SkipUnless (over_clause c o)) (put (item.Start (places.home m)) (clause_put put program places m i c (else_behind m (i + loops_outside (IfThen e c o) false) o is)))) (expr_size e) (suc (suc (clause_size c + else_size o))) (expr_folds e)
        (next _ (λ is. put (item.Start (places.home m)) (clause_put put program places m i c (else_behind m (i + loops_outside (IfThen e c o) false) o is))) (suc (clause_size c + else_size o))
        (next _ (λ is. clause_put put program places m i c (else_behind m (i + loops_outside (IfThen e c o) false) o is)) (clause_size c + else_size o)
        (both (clause_put put program places m i c) (else_behind m (i + loops_outside (IfThen e c o) false) o) (clause_size c) (else_size o) (clause_folds c m i) (else_folds o m (i + loops_outside (IfThen e c o) false)))))
    body_folds (IfGoto e n o) m i =
        both (expr_put put program places e) (λ is. put (item.JumpIf (places.line n)) (else_put put program places m i o is)) (expr_size e) (suc (else_only_size o)) (expr_folds e)
        (next _ (else_put put program places m i o) (else_only_size o) (else_only_folds o m i))
    body_folds (Modified s d) m i =
        both (pieces_put put program places (head_pieces d i (body_size s))) (λ is. put (item.Start (places.home m)) (body_put put program places m (i + loops_outside (Modified s d) true) s (pieces_put put program places (tail_pieces d i (body_size s)) is))) (pieces_size (head_pieces d 0 0)) (suc (body_size s + pieces_size (tail_pieces d 0 0))) (head_folds d i (body_size s))
        (next _ (λ is. body_put put program places m (i + loops_outside (Modified s d) true) s (pieces_put put program places (tail_pieces d i (body_size s)) is)) (body_size s + pieces_size (tail_pieces d 0 0))
        (both (body_put put program places m (i + loops_outside (Modified s d) true) s) (pieces_put put program places (tail_pieces d i (body_size s))) (body_size s) (pieces_size (tail_pieces d 0 0)) (body_folds s m (i + loops_outside (Modified s d) true)) (tail_folds d i (body_size s))))
    body_folds s m i = simple_folds m i s

    pub clause_folds : (c : ClauseTree) (m i : ℕ) → Folds put (clause_put put program places m i c) (clause_size c)
    clause_folds (LineClause n) m i = one _
    clause_folds (StatementClause s) m i = body_folds s m i

    pub else_folds : (o : ElseTree) (m i : ℕ) → Folds put (else_behind m i o) (else_size o)
    else_folds NoElse m i = none
    else_folds (Else c) m i = next _ (λ is. put (item.Start (places.home m)) (clause_put put program places m i c is)) (suc (clause_size c)) (next _ (clause_put put program places m i c) (clause_size c) (clause_folds c m i))

    pub else_only_folds : (o : ElseTree) (m i : ℕ) → Folds put (else_put put program places m i o) (else_only_size o)
    else_only_folds NoElse m i = none
    else_only_folds (Else c) m i = next _ (clause_put put program places m i c) (clause_size c) (clause_folds c m i)
