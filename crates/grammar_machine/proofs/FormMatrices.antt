-- The values of PRINT USING and of MAT: their words lead the machine from their form to their tree.
use Rattle.std.proofs.Common.{subst, ◌≡◌, Bool, true, false, List, [], ◌∷◌, ◌++◌, Option, Some, None, refl, sym, append_assoc}
use Rattle.std.proofs.lemmas.List.{append-nil}
use Rattle.basic_tree.specs.declared.names.Name.{Name}
use Rattle.basic_tree.specs.declared.tokens.Sign.TheVariants as sign
use Rattle.basic_tree.specs.declared.parts.Separator.{Separator}
use Rattle.basic_tree.specs.declared.parts.Separator.TheVariants as separator
use Rattle.basic_tree.specs.declared.kinds.Want.TheVariants as want
use Rattle.basic_tree.specs.Trees.{Tree, UsingItemTree, MatrixTree, Zero, One, Identity, Copy, Sum, Difference, Product, Scaled, Transposed, PrintUsing, MatLet}
use Rattle.basic_tree.specs.SpellingPieces.{optional, each, WordPiece, Expression, ArePieces, sign_piece, text}
use Rattle.basic_tree.specs.SpellingParts.{has_value, using_item, using_values, matrix}
use Rattle.grammar_machine.specs.MachineStack.{Value, Stated, ExprOf, MoreUsing}
use Rattle.grammar_machine.specs.MachineForms.{says, using_value_form, matrix_form}
use Rattle.grammar_machine.specs.MachineSentences.{using_form}
use Rattle.grammar_machine.proofs.FormReads.{Reads}
use Rattle.grammar_machine.proofs.FormParts.{read_made, read_sign, read_if_key, read_if_sign, read_not_key, read_not_sign, read_opening, read_if_opening, read_closing, read_expr, read_name, read_used, read_none_used}
use Rattle.grammar_machine.proofs.PieceLists.{pieces_split}

-- ---- PRINT USING

-- the first value, and each one after it
read_value_with : {e : Bool} {v : Value} (c : Option Tree) (format : Tree) (values : List UsingItemTree) (t : Tree) (s : Separator) (ps : List WordPiece) → ArePieces (using_item (record { value = t; separator = s })) → ArePieces ps → Reads e false (MoreUsing c format (values ++ record { value = t; separator = s } ∷ [])) ps v → Reads e false (ExprOf want.Either (λ x. using_value_form c format values x)) (using_item (record { value = t; separator = s }) ++ ps) v
read_value_with c format values t separator.Comma ps a q h = read_expr a.0 refl (read_if_sign h)
read_value_with c format values t separator.Semicolon ps a q h = read_expr a.0 refl (read_not_sign refl (tt, q) (read_if_sign h))

read_last_value : {e : Bool} (c : Option Tree) (format : Tree) (values : List UsingItemTree) (t : Tree) → ArePieces (Expression want.Either t ∷ []) → Reads e false (ExprOf want.Either (λ x. using_value_form c format values x)) (Expression want.Either t ∷ []) (Stated (PrintUsing c format values (Some t)))
read_last_value c format values t a = read_expr a.0 refl (read_not_sign refl tt (read_not_sign refl tt read_made))

-- an item before the others
read_front : {e : Bool} {v : Value} (c : Option Tree) (format : Tree) (values : List UsingItemTree) (i : UsingItemTree) (more : List UsingItemTree) (last : Option Tree) → ArePieces (using_values (i ∷ more) last) → (ArePieces (using_values more last) → Reads e false (MoreUsing c format (values ++ i ∷ [])) (using_values more last) v) → Reads e false (ExprOf want.Either (λ x. using_value_form c format values x)) (using_values (i ∷ more) last) v
read_front {e = e} {v = v} c format values i more last a h =
    let rest : List WordPiece = optional (λ t. Expression want.Either t ∷ []) last in
    let same : using_values (i ∷ more) last ≡ using_item i ++ using_values more last = append_assoc (using_item i) (each using_item more) rest in
    let parts : ArePieces (using_item i) × ArePieces (using_values more last) = pieces_split (using_item i) (using_values more last) (subst ArePieces same a) in
    subst (λ x. Reads e false (ExprOf want.Either (λ y. using_value_form c format values y)) x v) (sym same)
    (read_value_with c format values i.value i.separator (using_values more last) parts.0 parts.1 (h parts.1))

read_values : {e : Bool} (c : Option Tree) (format : Tree) (list values : List UsingItemTree) (last : Option Tree) → ArePieces (using_values list last) → Reads e false (MoreUsing c format values) (using_values list last) (Stated (PrintUsing c format (values ++ list) last))
read_values {e = e} c format [] values None a = subst (λ x. Reads e false (MoreUsing c format values) [] (Stated (PrintUsing c format x None))) (sym (append-nil values)) read_none_used
read_values {e = e} c format [] values (Some t) a = subst (λ x. Reads e false (MoreUsing c format values) (Expression want.Either t ∷ []) (Stated (PrintUsing c format x (Some t)))) (sym (append-nil values)) (read_used a.0 (read_last_value c format values t a))
read_values {e = e} c format (i ∷ more) values last a =
    read_used a.0 (read_front c format values i more last a (λ b. subst (λ x. Reads e false (MoreUsing c format (values ++ i ∷ [])) (using_values more last) (Stated (PrintUsing c format x last))) (append_assoc values (i ∷ []) more) (read_values c format more (values ++ i ∷ []) last b)))

pub read_using : {e : Bool} (c : Option Tree) (format : Tree) (list : List UsingItemTree) (last : Option Tree) → has_value list last ≡ true → ArePieces (text format ∷ sign_piece sign.Comma ∷ using_values list last) → Reads e false (using_form c) (text format ∷ sign_piece sign.Comma ∷ using_values list last) (Stated (PrintUsing c format list last))
read_using c format [] None h a = absurd cc
read_using c format [] (Some t) h a = read_expr a.0 refl (read_sign (read_last_value c format [] t a.1.1))
read_using c format (i ∷ more) last h a = read_expr a.0 refl (read_sign (read_front c format [] i more last a.1.1 (λ b. read_values c format more (i ∷ []) last b)))

-- ---- MAT

pub read_matrix : {e : Bool} (n : Name) (m : MatrixTree) → ArePieces (matrix m) → Reads e false (matrix_form (λ v. says (MatLet n v))) (matrix m) (Stated (MatLet n m))
read_matrix n Zero a = read_if_key read_made
read_matrix n One a = read_not_key refl a (read_if_key read_made)
read_matrix n Identity a = read_not_key refl a (read_not_key refl a (read_if_key read_made))
read_matrix n (Transposed b) a = read_not_key refl a (read_not_key refl a (read_not_key refl a (read_if_key (read_opening (read_name a.1.1.0 (read_closing read_made))))))
read_matrix n (Scaled t b) a = read_not_key refl a (read_not_key refl a (read_not_key refl a (read_not_key refl a (read_if_opening (read_expr a.1.0 refl (read_closing (read_sign (read_name a.1.1.1.1.1.0 read_made))))))))
read_matrix n (Copy b) a = read_not_key refl a (read_not_key refl a (read_not_key refl a (read_not_key refl a (read_not_sign refl a (read_name a.0 (read_not_sign refl tt (read_not_sign refl tt (read_not_sign refl tt read_made))))))))
read_matrix n (Sum b c) a = read_not_key refl a (read_not_key refl a (read_not_key refl a (read_not_key refl a (read_not_sign refl a (read_name a.0 (read_if_sign (read_name a.1.1.0 read_made)))))))
read_matrix n (Difference b c) a = read_not_key refl a (read_not_key refl a (read_not_key refl a (read_not_key refl a (read_not_sign refl a (read_name a.0 (read_not_sign refl a.1 (read_if_sign (read_name a.1.1.0 read_made))))))))
read_matrix n (Product b c) a = read_not_key refl a (read_not_key refl a (read_not_key refl a (read_not_key refl a (read_not_sign refl a (read_name a.0 (read_not_sign refl a.1 (read_not_sign refl a.1 (read_if_sign (read_name a.1.1.0 read_made)))))))))
