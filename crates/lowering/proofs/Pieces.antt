-- The pieces of targets and of items of PRINT, one after the other, put into any sink of
-- instructions.
use Rattle.std.proofs.Common.{◌≡◌, List, [], refl, sym, ap, ◌∙◌}
use Rattle.basic_tree.specs.declared.parts.Target.{Target}
use Rattle.basic_tree.specs.declared.parts.Target.TheVariants as target
use Rattle.basic_tree.specs.declared.parts.PrintItem.{PrintItem}
use Rattle.basic_tree.specs.declared.parts.Printed.{Printed}
use Rattle.basic_tree.specs.declared.parts.Printed.TheVariants as printed
use Rattle.basic_tree.specs.declared.parts.Separator.{Separator}
use Rattle.basic_tree.specs.declared.parts.Separator.TheVariants.{Comma, Semicolon}
use Rattle.basic_tree.specs.TreeViews.{target_of, printed_of}
use Rattle.program_model.specs.Program.{Program}
use Rattle.polish_code.specs.declared.items.Item.{Item}
use Rattle.polish_code.specs.Code.{Piece, Places, pieces_put, target_pieces, judged_pieces, printed_pieces, separator_pieces, printed_on_pieces, separator_on_pieces}

module _ {S : Type 0} (put : Item → S → S) (program : Program) (places : Places) where
  pub target_front : (t : Target) (ps : List Piece) (s : S) → pieces_put put program places (target_pieces (target_of t) ps) s ≡ pieces_put put program places (target_pieces (target_of t) []) (pieces_put put program places ps s)
  target_front (target.Variable name) ps s = refl
  target_front (target.Element name first second) ps s = refl

  pub printed_front : (p : Printed) (ps : List Piece) (s : S) → pieces_put put program places (printed_pieces (printed_of p) ps) s ≡ pieces_put put program places (printed_pieces (printed_of p) []) (pieces_put put program places ps s)
  printed_front (printed.Value e) ps s = refl
  printed_front (printed.Tab e) ps s = refl

  pub separator_front : (mark : Separator) (ps : List Piece) (s : S) → pieces_put put program places (separator_pieces mark ps) s ≡ pieces_put put program places (separator_pieces mark []) (pieces_put put program places ps s)
  separator_front Comma ps s = refl
  separator_front Semicolon ps s = refl

  pub judged_front : (t : Target) (ps : List Piece) (s : S) → pieces_put put program places (judged_pieces (target_of t) ps) s ≡ pieces_put put program places (judged_pieces (target_of t) []) (pieces_put put program places ps s)
  judged_front (target.Variable name) ps s = refl
  judged_front (target.Element name first second) ps s = refl

  pub item_front : (i : PrintItem) (ps : List Piece) (s : S) → pieces_put put program places (printed_pieces (printed_of i.printed) (separator_pieces i.separator ps)) s ≡ pieces_put put program places (printed_pieces (printed_of i.printed) (separator_pieces i.separator [])) (pieces_put put program places ps s)
  item_front i ps s =
      printed_front i.printed (separator_pieces i.separator ps) s
      ∙ ap (pieces_put put program places (printed_pieces (printed_of i.printed) [])) (separator_front i.separator ps s)
      ∙ sym (printed_front i.printed (separator_pieces i.separator []) (pieces_put put program places ps s))

  -- on a channel
  pub printed_on_front : (p : Printed) (ps : List Piece) (s : S) → pieces_put put program places (printed_on_pieces (printed_of p) ps) s ≡ pieces_put put program places (printed_on_pieces (printed_of p) []) (pieces_put put program places ps s)
  printed_on_front (printed.Value e) ps s = refl
  printed_on_front (printed.Tab e) ps s = refl

  pub separator_on_front : (mark : Separator) (ps : List Piece) (s : S) → pieces_put put program places (separator_on_pieces mark ps) s ≡ pieces_put put program places (separator_on_pieces mark []) (pieces_put put program places ps s)
  separator_on_front Comma ps s = refl
  separator_on_front Semicolon ps s = refl

  pub item_on_front : (i : PrintItem) (ps : List Piece) (s : S) → pieces_put put program places (printed_on_pieces (printed_of i.printed) (separator_on_pieces i.separator ps)) s ≡ pieces_put put program places (printed_on_pieces (printed_of i.printed) (separator_on_pieces i.separator [])) (pieces_put put program places ps s)
  item_on_front i ps s =
      printed_on_front i.printed (separator_on_pieces i.separator ps) s
      ∙ ap (pieces_put put program places (printed_on_pieces (printed_of i.printed) [])) (separator_on_front i.separator ps s)
      ∙ sym (printed_on_front i.printed (separator_on_pieces i.separator []) (pieces_put put program places ps s))
