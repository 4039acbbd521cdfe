-- What is put before others, into any sink of instructions.
use Rattle.std.specs.Prelude.{ℕ, suc, List}
use Rattle.basic_tree.specs.Trees.{Tree, Trees, ClauseTree, StatementTree}
use Rattle.program_model.specs.Program.{Program}
use Rattle.polish_code.specs.declared.items.Item.{Item}
use Rattle.polish_code.specs.Code.{Piece, expr_put, trees_put, pieces_put, simple_pieces, body_put, clause_put, places_of}

-- a sink that only counts has one more
abbrev pub one_more : Item → ℕ → ℕ
one_more i n = suc n

abbrev pub with_expression : {S : Type 0} → (Item → S → S) → Program → Tree → S → S
with_expression put program e s = expr_put put program (places_of program) e s

abbrev pub with_trees : {S : Type 0} → (Item → S → S) → Program → Trees → S → S
with_trees put program es s = trees_put put program (places_of program) es s

abbrev pub with_pieces : {S : Type 0} → (Item → S → S) → Program → List Piece → S → S
with_pieces put program ps s = pieces_put put program (places_of program) ps s

-- the m-th statement, or one inside it, with this many FORs before it
abbrev pub with_simple : {S : Type 0} → (Item → S → S) → Program → ℕ → ℕ → StatementTree → S → S
with_simple put program m i x s = with_pieces put program (simple_pieces program (places_of program) m i x) s

abbrev pub with_body : {S : Type 0} → (Item → S → S) → Program → ℕ → ℕ → StatementTree → S → S
with_body put program m i x s = body_put put program (places_of program) m i x s

abbrev pub with_clause : {S : Type 0} → (Item → S → S) → Program → ℕ → ℕ → ClauseTree → S → S
with_clause put program m i c s = clause_put put program (places_of program) m i c s
