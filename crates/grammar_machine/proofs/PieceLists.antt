-- Pieces of two parts: their steps, and that all are admissible.
use Rattle.std.proofs.Common.{◌≡◌, List, [], ◌∷◌, ◌++◌, refl, sym, ap, ◌∙◌, append_assoc}
use Rattle.basic_tree.specs.SpellingPieces.{WordPiece, piece_steps, pieces_steps, ArePieces}

pub steps_append : (a b : List WordPiece) → pieces_steps (a ++ b) ≡ pieces_steps a ++ pieces_steps b
steps_append [] b = refl
steps_append (x ∷ a) b = ap (λ y. piece_steps x ++ y) (steps_append a b) ∙ sym (append_assoc (piece_steps x) (pieces_steps a) (pieces_steps b))

pub pieces_append : (a b : List WordPiece) → ArePieces a → ArePieces b → ArePieces (a ++ b)
pieces_append [] b h i = i
pieces_append (x ∷ a) b h i = (h.0, pieces_append a b h.1 i)

pub pieces_split : (a b : List WordPiece) → ArePieces (a ++ b) → ArePieces a × ArePieces b
pieces_split [] b h = (tt, h)
pieces_split (x ∷ a) b h = let s = pieces_split a b h.1 in ((h.0, s.0), s.1)
