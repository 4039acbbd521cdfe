-- The stack of a line spells exactly lines and takes each of them; and how a line is judged by
-- where the machine stops.
use Rattle.std.proofs.Common.{◌≡◌, ℕ, suc, ◌≤◌, List, [], ◌∷◌, ◌++◌, length, drop, Option, Some, None, Ok, Err, refl, sym, ap, ◌∙◌, arith}
use Rattle.std.proofs.lemmas.List.{append-nil}
use Rattle.basic_tree.specs.SpellingWords.{Word, LevelStep, words}
use Rattle.basic_tree.specs.Trees.{LineTree, StatementTree}
use Rattle.basic_tree.specs.SpellingPieces.{each, pieces_steps}
use Rattle.basic_tree.specs.SpellingStatements.{line_steps, IsLine}
use Rattle.grammar_machine.specs.MachineStack.{Values, Parsed, Symbol}
use Rattle.grammar_machine.specs.MachineRun.{Turn, Next, Ended, Stuck, Deep, turn, Wrong, turned, run}
use Rattle.grammar_machine.specs.MachineJudge.{line_symbols, line_values}
use Rattle.grammar_machine.proofs.MachineReads.{place_pieces, separated}
use Rattle.grammar_machine.proofs.MachineSpelled.{Spelled}
use Rattle.grammar_machine.proofs.MachinePasses.{left}
use Rattle.grammar_machine.proofs.PieceLists.{steps_append, pieces_append}
use Rattle.grammar_machine.proofs.LineLevels.{line_above}
use Rattle.grammar_machine.proofs.LinePlaces.{ReadsLines}
use Rattle.grammar_machine.proofs.OneLine.{line_leads}

-- ---- lines

-- the values after a line
abbrev pub made_line : LineTree → Values
made_line l = Parsed (l.first ∷ l.others) ∷ []

spells_line : (x : List LevelStep) (u : Values) → Spelled line_symbols line_values x u → (l : LineTree) × (x ≡ line_steps l) × IsLine (words x) l × (made_line l ≡ u)
spells_line x u h =
    let m = h.4 in
    let l : LineTree = record { first = h.0; others = m.0 } in
    let same : x ≡ line_steps l = h.2 ∙ ap (λ y. pieces_steps (place_pieces h.0) ++ y) (m.2 ∙ ap (λ y. pieces_steps (each separated m.0) ++ y) m.4.0 ∙ append-nil (pieces_steps (each separated m.0))) ∙ sym (steps_append (place_pieces h.0) (each separated m.0)) in
    (l, same, record { admissible = pieces_append (place_pieces h.0) (each separated m.0) h.3 m.3; spelling = ap (λ y. words y) same }, m.4.1)

takes_line : (ws : List Word) (l : LineTree) → IsLine ws l → (d : ℕ) × ((n : ℕ) → d ≤ n → run n ws line_symbols line_values ≡ Ok (made_line l, []))
takes_line ws l h =
    let t = line_leads l h.admissible in
    (t.0, λ n e. ap (λ (x : List Word). run n x line_symbols line_values) h.spelling ∙ t.1 n e)

apart_lines : (l m : LineTree) → made_line l ≡ made_line m → l ≡ m
apart_lines l m e =
    let first : l.first ≡ m.first = cc in
    let others : l.others ≡ m.others = cc in
    ap (λ (x : Option StatementTree). record { first = x; others = l.others }) first ∙ ap (λ (x : List (Option StatementTree)). record { first = m.first; others = x }) others

pub reads_lines : ReadsLines line_symbols line_values made_line
reads_lines = record {
  spells = spells_line;
  takes = takes_line;
  nests = λ ws l h. line_above l;
  apart = apart_lines;
}

-- ---- where the machine stops

-- the words that are left are the last ones
pub left_end : (ws : List Word) (n : ℕ) (k : List Symbol) (vs : Values) → (i : ℕ) × (i ≤ length ws) × (left (run n ws k vs) ≡ drop i ws)
unfolding run
left_end [] n k vs = (0, omega arith, go (turn k n vs None)) where
  go : (x : Turn) → left (turned x [] (λ m vs' k'. Err (Wrong []))) ≡ drop 0 []
  go (Next m a b) = refl
  go (Ended u) = refl
  go Stuck = refl
  go Deep = refl
left_end (t ∷ ws) n k vs = go (turn k n vs (Some t)) (λ m vs' k'. left_end ws m k' vs') where
  go : (x : Turn) → ((m : ℕ) (vs' : Values) (k' : List Symbol) → (i : ℕ) × (i ≤ length ws) × (left (run m ws k' vs') ≡ drop i ws)) → (i : ℕ) × (i ≤ length (t ∷ ws)) × (left (turned x (t ∷ ws) (λ m vs' k'. run m ws k' vs')) ≡ drop i (t ∷ ws))
  go (Next m a b) h = let j = h m a b in (suc j.0, omega (arith, j.1), j.2)
  go (Ended u) h = (0, omega arith, refl)
  go Stuck h = (0, omega arith, refl)
  go Deep h = (0, omega arith, refl)
