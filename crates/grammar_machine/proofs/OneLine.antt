-- The words of a line lead the machine to its statements, and no words are two lines.
use Rattle.std.proofs.Common.{◌≡◌, ◌+◌, max, ℕ, ◌≤◌, false, not, List, [], ◌∷◌, ◌++◌, Option, Some, None, Ok, Err, refl, sym, ap, ◌∙◌, append_assoc, arith}
use Rattle.std.proofs.lemmas.List.{append-nil}
use Rattle.basic_tree.specs.declared.tokens.Keyword.TheVariants as keyword
use Rattle.basic_tree.specs.declared.tokens.Sign.TheVariants as sign
use Rattle.basic_tree.specs.SpellingWords.{Word, Key, Punctuation, words}
use Rattle.basic_tree.specs.Trees.{StatementTree, LineTree}
use Rattle.basic_tree.specs.SpellingPieces.{each, WordPiece, pieces_steps, ArePieces}
use Rattle.basic_tree.specs.SpellingStatements.{wants_else, line_steps, closings, pieces_of, statement_pieces, line_pieces}
use Rattle.grammar_machine.specs.MachineStack.{Values, Stated, Parsed, parsed, AddStatement, Symbol, Go, Do, OneStatement, MoreStatements}
use Rattle.grammar_machine.specs.MachineSentences.{Class, Choice, Head, Simple}
use Rattle.grammar_machine.specs.MachineMoves.{behind_class}
use Rattle.grammar_machine.specs.MachineRun.{MachineOutcome, run}
use Rattle.basic_tree.specs.GrammarPlaces.{OneLine}
use Rattle.grammar_machine.proofs.PieceLists.{steps_append}
use Rattle.grammar_machine.proofs.MachineReads.{place_pieces, separated}
use Rattle.grammar_machine.proofs.MachineSteps.{run_do}
use Rattle.grammar_machine.proofs.MachineLeads.{words_append}
use Rattle.grammar_machine.proofs.LineSteps.{NoSentence, behind_clause_class, run_statement, run_no_statement, run_more_statements}
use Rattle.grammar_machine.proofs.LineLeads.{Finished, finished_widened, closings_words, pieces_words, parts_before, parts_behind, Starts}
use Rattle.grammar_machine.proofs.IfLeads.{starts}

-- ---- a statement of a line, or none

pub record PlaceLeads (s : Option StatementTree) : Type 0 where
  pub bound : ℕ
  pub by : (n : ℕ) → bound ≤ n → (r : List Word) (ss : List (Option StatementTree)) (k : List Symbol) (vs : Values) → Finished false r → run n (words (pieces_steps (place_pieces s)) ++ r) (OneStatement ∷ k) (Parsed ss ∷ vs) ≡ run n r k (Parsed (ss ++ s ∷ []) ∷ vs)

no_sentence : (r : List Word) → Finished false r → NoSentence r
no_sentence [] h = tt
no_sentence (Punctuation sign.Colon ∷ r) h = refl
no_sentence (Key keyword.Else ∷ r) h = absurd cc
no_sentence (Key k ∷ r) h = absurd cc
no_sentence (t ∷ r) h = absurd cc

no_place : PlaceLeads None
no_place = record { bound = 0; by = λ n le r ss k vs x. run_no_statement n r k (Parsed ss ∷ vs) (no_sentence r x) }

behind_both : (c : Class) (k : List Symbol) → behind_class c ++ k ≡ behind_clause_class c ++ Do AddStatement ∷ k
behind_both Choice k = refl
behind_both Head k = refl
behind_both Simple k = refl

some_place : (s : StatementTree) → Starts s → PlaceLeads (Some s)
some_place s b = record {
  bound = b.bound;
  by = λ n le r ss k vs x.
      let e : words (pieces_steps (statement_pieces s)) ++ r ≡ words (pieces_steps (pieces_of s)) ++ r =
      pieces_words (pieces_of s) (closings s) r ∙ ap (λ y. words (pieces_steps (pieces_of s)) ++ (y ++ r)) (closings_words s) in
      ap (λ ws. run n ws (OneStatement ∷ k) (Parsed ss ∷ vs)) e
      ∙ ap (λ ws. run n (ws ++ r) (OneStatement ∷ k) (Parsed ss ∷ vs)) b.spelled
      ∙ run_statement n b.word (b.rest ++ r) b.sentence k (Parsed ss ∷ vs) b.known
      ∙ ap (λ q. run n (b.word ∷ (b.rest ++ r)) (Go b.sentence.form ∷ q) (Parsed ss ∷ vs)) (behind_both b.sentence.class k)
      ∙ ap (λ ws. run n (ws ++ r) (Go b.sentence.form ∷ (behind_clause_class b.sentence.class ++ Do AddStatement ∷ k)) (Parsed ss ∷ vs)) (sym b.spelled)
      ∙ b.by n le r (Do AddStatement ∷ k) (Parsed ss ∷ vs) (finished_widened (not (wants_else s)) r x)
      ∙ run_do n AddStatement r k (Stated s ∷ Parsed ss ∷ vs);
}

pub place_leads : (s : Option StatementTree) → ArePieces (place_pieces s) → PlaceLeads s
place_leads None h = no_place
place_leads (Some s) h = some_place s (starts s (parts_before (pieces_of s) (closings s) h))

-- ---- the statements after separators

pub record OthersLead (others : List (Option StatementTree)) : Type 0 where
  pub bound : ℕ
  pub by : (n : ℕ) → bound ≤ n → (ss : List (Option StatementTree)) → run n (words (pieces_steps (each separated others))) (MoreStatements ∷ []) (Parsed ss ∷ []) ≡ Ok (Parsed (ss ++ others) ∷ [], [])

others_finish : (others : List (Option StatementTree)) → Finished false (words (pieces_steps (each separated others)))
others_finish [] = tt
others_finish (s ∷ others) = refl

two_words : (a b : List WordPiece) → words (pieces_steps (a ++ b)) ≡ words (pieces_steps a) ++ words (pieces_steps b)
two_words a b = ap (λ x. words x) (steps_append a b) ∙ words_append (pieces_steps a) (pieces_steps b)

no_others : OthersLead []
unfolding run
no_others = record { bound = 0; by = λ n le ss. rw append-nil refl }

one_other : (s : Option StatementTree) (others : List (Option StatementTree)) → PlaceLeads s → OthersLead others → OthersLead (s ∷ others)
one_other s others b d = record {
  bound = max b.bound d.bound;
  by = λ n le ss.
      let r = words (pieces_steps (each separated others)) in
      run_more_statements n (words (pieces_steps (place_pieces s ++ each separated others))) [] (Parsed ss ∷ [])
      ∙ ap (λ ws. run n ws (OneStatement ∷ MoreStatements ∷ []) (Parsed ss ∷ [])) (two_words (place_pieces s) (each separated others))
      ∙ b.by n (omega (arith, le)) r ss (MoreStatements ∷ []) [] (others_finish others)
      ∙ d.by n (omega (arith, le)) (ss ++ s ∷ [])
      ∙ ap (λ x. Ok (Parsed x ∷ [], [])) (append_assoc ss (s ∷ []) others);
}

pub others_lead : (others : List (Option StatementTree)) → ArePieces (each separated others) → OthersLead others
others_lead [] h = no_others
others_lead (s ∷ others) h = one_other s others (place_leads s (parts_before (place_pieces s) (each separated others) h.1)) (others_lead others (parts_behind (place_pieces s) (each separated others) h.1))

-- ---- lines

pub line_leads : (l : LineTree) → ArePieces (line_pieces l) → (b : ℕ) × ((n : ℕ) → b ≤ n → run n (words (line_steps l)) (OneStatement ∷ MoreStatements ∷ []) (Parsed [] ∷ []) ≡ Ok (Parsed (l.first ∷ l.others) ∷ [], []))
line_leads l h =
    let b = place_leads l.first (parts_before (place_pieces l.first) (each separated l.others) h) in
    let d = others_lead l.others (parts_behind (place_pieces l.first) (each separated l.others) h) in (
      max b.bound d.bound,
      λ n le.
          ap (λ ws. run n ws (OneStatement ∷ MoreStatements ∷ []) (Parsed [] ∷ [])) (two_words (place_pieces l.first) (each separated l.others))
          ∙ b.by n (omega (arith, le)) (words (pieces_steps (each separated l.others))) [] (MoreStatements ∷ []) [] (others_finish l.others)
          ∙ d.by n (omega (arith, le)) (l.first ∷ []),
    )

abbrev line_of : List (Option StatementTree) → LineTree
line_of [] = record { first = None; others = [] }
line_of (s ∷ others) = record { first = s; others = others }

abbrev line_made : MachineOutcome → LineTree
line_made (Ok x) = line_of (parsed x.0)
line_made (Err e) = line_of []

pub one_line_lem : OneLine
one_line_lem ws l m a b =
    let x = line_leads l a.admissible in
    let y = line_leads m b.admissible in
    let n = x.0 + y.0 in
    let same = sym (x.1 n (omega arith)) ∙ ap (λ s. run n s (OneStatement ∷ MoreStatements ∷ []) (Parsed [] ∷ [])) (sym a.spelling ∙ b.spelling) ∙ y.1 n (omega arith) in
    ap (λ o. line_made o) same
