-- Every statement except IF, without modifiers: its words lead the machine from the form of its
-- first word to it.
use Rattle.std.proofs.Common.{◌≡◌, false, [], true, List, ◌∷◌, ◌++◌, Some, None, refl, subst, sym, append_assoc, length, ◌+◌}
use Rattle.basic_tree.specs.Trees.{StatementTree, IfThen, IfGoto, Modified, For, Next, FnEnd, Data, Dim, DimFile, Def, Let, Result, Print, Input, InputLine, Read, Restore, Goto, Gosub, Return, OnGoto, OnGosub, OnErrorGoto, Resume, Stop, End, Chain, Sleep, Open, Close, Get, Put, Unlock, Field, Lset, Rset, Kill, Rename, PrintUsing, MatRead, MatPrint, MatLet, Variable, Element}
use Rattle.basic_tree.specs.SpellingStatements.{is_if, closings, pieces_of}
use Rattle.basic_tree.specs.SpellingPieces.{ArePieces, WordPiece, optional, line, target, many, sign_piece, closing}
use Rattle.basic_tree.specs.declared.tokens.Keyword.TheVariants as keyword
use Rattle.basic_tree.specs.SpellingWords.{Key, FnNamed, Punctuation, Named}
use Rattle.basic_tree.specs.SpellingParts.{shape, file_shape, close_channel, field_part, name, value, array}
use Rattle.grammar_machine.specs.MachineStack.{Stated, TargetItem, ShapeItem, FileItem, LineItem, ChannelItem, FieldItem, Targets, Shapes, FileShapes, Lines, Channels, FieldParts, NameItem, Parameters, TakeClosing, Arrays}
use Rattle.grammar_machine.specs.MachineForms.{says, targets_in, shapes_in, files_in, lines_in, channels_in, parts_in, list_form, names_in, value_form}
use Rattle.grammar_machine.proofs.FormReads.{Reads, stopping, absent}
use Rattle.grammar_machine.proofs.FormParts.{read_made, read_key, read_sign, read_if_key, read_if_sign, read_not_key, read_not_sign, read_expr, read_name, read_fn_name, read_literal, read_if_literal, read_no_literal, read_holds, read_closing, read_unquoted, read_item, read_if_opening}
use Rattle.basic_tree.specs.declared.tokens.Sign.TheVariants as sign
use Rattle.basic_tree.specs.declared.kinds.Want.TheVariants as want
use Rattle.basic_tree.specs.declared.parts.Separator.TheVariants as separator
use Rattle.grammar_machine.proofs.PieceLists.{pieces_split}
use Rattle.grammar_machine.proofs.FormLists.{read_last_list, targets_back, shapes_back, files_back, lines_back, channels_back, parts_back, one_target, one_shape, one_line, one_channel, one_field, one_file, read_list, names_back, one_name, one_array}
use Rattle.basic_tree.specs.declared.parts.OpenFor.TheVariants as purpose
use Rattle.grammar_machine.proofs.FormSimple.{begun_as, read_range, Begun}
use Rattle.grammar_machine.proofs.FormStatements.{made_of, read_items, read_printed, no_item_with, print_channelled, read_input, input_prompted}
use Rattle.grammar_machine.proofs.FormAssignments.{read_targets, room_of, at_most, read_definition, no_parameters, read_file}
use Rattle.grammar_machine.proofs.FormMatrices.{read_using, read_matrix}
use Rattle.grammar_machine.proofs.FormChain.{read_no_expr, chain_number}

pub simple_leads : (s : StatementTree) → is_if s ≡ false → closings s ≡ [] → ArePieces (pieces_of s) → Begun s
simple_leads (IfThen condition clause otherwise) other none a = absurd cc
simple_leads (IfGoto condition n otherwise) other none a = absurd cc
simple_leads (Modified s m) other none a = absurd cc
simple_leads (For v start limit step) other none a = begun_as (Key keyword.For) refl refl (refl, refl) (read_key (read_range (λ x s l t. says (For x s l t)) v start limit step a.1 read_made))
simple_leads (Next v) other none a = begun_as (Key keyword.Next) refl refl (refl, refl) (read_key (read_name a.1.0 read_made))
simple_leads FnEnd other none a = begun_as (Key keyword.FnEnd) refl refl (refl, refl) (read_key read_made)
simple_leads (Data []) other none a = absurd cc
simple_leads (Data (i ∷ more)) other none a = begun_as (Key keyword.Data) refl refl (refl, refl) (read_key (read_item (read_items more (i ∷ []))))
simple_leads (Dim []) other none a = absurd cc
simple_leads (Dim (s ∷ ss)) other none a = begun_as (Key keyword.Dim) refl refl (refl, refl) (read_key (read_not_sign refl a.1 (read_last_list Shapes shape ShapeItem (λ ps. true) one_shape (λ ps. refl) (λ x. refl) (s ∷ ss) (λ items. says (Dim (shapes_in items))) a.1 refl (made_of Dim _ _ (shapes_back (s ∷ ss))))))
simple_leads (DimFile c ss) other none a = begun_as (Key keyword.Dim) refl refl (refl, refl) (read_key (read_if_sign (read_literal a.1.1.0 (read_sign (read_last_list FileShapes file_shape FileItem (λ ps. absent (Punctuation sign.Equal) ps) one_file (λ ps. refl) (λ x. refl) ss (λ items. says (DimFile c (files_in items))) a.1.1.1.1 refl (made_of (λ x. DimFile c x) _ _ (files_back ss)))))))
simple_leads (Def f [] v) other none a = begun_as (Key keyword.Def) refl refl (refl, refl) (read_key (read_fn_name (read_holds (read_not_sign (no_parameters f v) a.1.1.1 (read_definition f [] v a.1.1.1)))))
simple_leads (Def f (n ∷ ns) v) other none a =
    let rest : List WordPiece = optional (λ t. value f.text t) v in
    let ends : List WordPiece = sign_piece sign.Closing ∷ closing ∷ [] in
    let same : (many name (n ∷ ns) ++ ends) ++ rest ≡ many name (n ∷ ns) ++ (ends ++ rest) = append_assoc (many name (n ∷ ns)) ends rest in
    let parts : ArePieces (many name (n ∷ ns)) × ArePieces (ends ++ rest) = pieces_split (many name (n ∷ ns)) (ends ++ rest) (subst ArePieces same a.1.1.1.1) in
    begun_as (Key keyword.Def) refl refl (refl, refl)
    (read_key (read_fn_name (read_holds (read_if_opening (subst (λ x. Reads true true (list_form Parameters (λ items. TakeClosing (value_form f (names_in items)))) x (Stated (Def f (n ∷ ns) v))) (sym same)
    (read_list Parameters name NameItem (λ ps. true) 5 one_name (λ ps. refl) room_of (n ∷ ns) (λ items. TakeClosing (value_form f (names_in items))) (ends ++ rest) (at_most (length (n ∷ ns)) a.1.1.0) parts.0 parts.1 refl refl
    (read_closing (subst (λ x. Reads true false (value_form f x) rest (Stated (Def f (n ∷ ns) v))) (sym (names_back (n ∷ ns))) (read_definition f (n ∷ ns) v parts.1.1.1)))))))))
simple_leads (Let true [] v) other none a = absurd cc
simple_leads (Let false [] v) other none a = absurd cc
simple_leads (Let true (t ∷ ts) v) other none a = begun_as (Key keyword.Let) refl refl (refl, refl) (read_key (read_targets true t ts v a.1))
simple_leads (Let false (Variable n ∷ ts) v) other none a = begun_as (Named n) refl refl (refl, refl) (read_targets false (Variable n) ts v a)
simple_leads (Let false (Element n i ∷ ts) v) other none a = begun_as (Named n) refl refl (refl, refl) (read_targets false (Element n i) ts v a)
simple_leads (Let false (t ∷ ts) v) other none a = absurd cc
simple_leads (Result f v) other none a = begun_as (FnNamed f) refl refl (refl, refl) (read_fn_name (read_sign (read_expr a.1.1.0 refl read_made)))
simple_leads (Print None list last) other none a = begun_as (Key keyword.Print) refl refl (refl, refl) (read_key (read_holds (read_not_sign (no_item_with (Punctuation sign.Hash) refl refl refl list last) a.1.1 (read_not_key (no_item_with (Key keyword.Using) refl refl refl list last) a.1.1 (read_printed None list [] last a.1.1)))))
simple_leads (Print (Some c) list last) other none a = print_channelled c c.comma refl list last a
simple_leads (Input (Some c) (Some p) ts) other none a = absurd cc
simple_leads (Input (Some c) None ts) other none a = begun_as (Key keyword.Input) refl refl (refl, refl) (read_key (read_holds (read_not_key refl a.1.1 (read_if_sign (read_expr a.1.1.1.0 refl (read_sign (read_input (Some c) None ts a.1.1.1.1.1)))))))
simple_leads (Input None (Some p) ts) other none a = input_prompted p.text p.separator ts a
simple_leads (Input None None []) other none a = absurd cc
simple_leads (Input None None (t ∷ ts)) other none a = begun_as (Key keyword.Input) refl refl (refl, refl) (read_key (read_holds (read_not_key refl a.1.1 (read_not_sign refl a.1.1 (read_unquoted a.1.1.0 (read_input None None (t ∷ ts) a.1.1))))))
simple_leads (InputLine None x) other none a = begun_as (Key keyword.Input) refl refl (refl, refl) (read_key (read_if_key (read_not_sign refl a.1.1 (read_name a.1.1.0 read_made))))
simple_leads (InputLine (Some c) x) other none a = begun_as (Key keyword.Input) refl refl (refl, refl) (read_key (read_if_key (read_if_sign (read_expr a.1.1.1.0 refl (read_sign (read_name a.1.1.1.1.1.0 read_made))))))
simple_leads (Read ts) other none a = begun_as (Key keyword.Read) refl refl (refl, refl) (read_key (read_last_list (Targets want.Either) (λ t. target want.Either t) TargetItem (λ ps. absent (Punctuation sign.Opening) ps) (one_target want.Either) (λ ps. refl) (λ x. refl) ts (λ items. says (Read (targets_in items))) a.1 refl (made_of Read _ _ (targets_back ts))))
simple_leads Restore other none a = begun_as (Key keyword.Restore) refl refl (refl, refl) (read_key read_made)
simple_leads (Goto true n) other none a = begun_as (Key keyword.Go) refl refl (refl, refl) (read_key (read_if_key (read_literal a.1.1.0 read_made)))
simple_leads (Goto false n) other none a = begun_as (Key keyword.Goto) refl refl (refl, refl) (read_key (read_literal a.1.0 read_made))
simple_leads (Gosub true n) other none a = begun_as (Key keyword.Go) refl refl (refl, refl) (read_key (read_not_key refl a.1 (read_key (read_literal a.1.1.0 read_made))))
simple_leads (Gosub false n) other none a = begun_as (Key keyword.Gosub) refl refl (refl, refl) (read_key (read_literal a.1.0 read_made))
simple_leads Return other none a = begun_as (Key keyword.Return) refl refl (refl, refl) (read_key read_made)
simple_leads (OnGoto t ns) other none a = begun_as (Key keyword.On) refl refl (refl, refl) (read_key (read_not_key refl a.1 (read_expr a.1.0 refl (read_if_key (read_last_list Lines (λ n. line n ∷ []) LineItem (λ ps. true) one_line (λ ps. refl) (λ x. refl) ns (λ items. says (OnGoto t (lines_in items))) a.1.1.1 refl (made_of (λ x. OnGoto t x) _ _ (lines_back ns)))))))
simple_leads (OnGosub t ns) other none a = begun_as (Key keyword.On) refl refl (refl, refl) (read_key (read_not_key refl a.1 (read_expr a.1.0 refl (read_not_key refl a.1.1 (read_key (read_last_list Lines (λ n. line n ∷ []) LineItem (λ ps. true) one_line (λ ps. refl) (λ x. refl) ns (λ items. says (OnGosub t (lines_in items))) a.1.1.1 refl (made_of (λ x. OnGosub t x) _ _ (lines_back ns))))))))
simple_leads (OnErrorGoto None) other none a = begun_as (Key keyword.On) refl refl (refl, refl) (read_key (read_if_key (read_key (read_no_literal read_made))))
simple_leads (OnErrorGoto (Some n)) other none a = begun_as (Key keyword.On) refl refl (refl, refl) (read_key (read_if_key (read_key (read_if_literal a.1.1.1.0 read_made))))
simple_leads (Resume None) other none a = begun_as (Key keyword.Resume) refl refl (refl, refl) (read_key (read_no_literal read_made))
simple_leads (Resume (Some n)) other none a = begun_as (Key keyword.Resume) refl refl (refl, refl) (read_key (read_if_literal a.1.0 read_made))
simple_leads Stop other none a = begun_as (Key keyword.Stop) refl refl (refl, refl) (read_key read_made)
simple_leads End other none a = begun_as (Key keyword.End) refl refl (refl, refl) (read_key read_made)
simple_leads (Chain t None) other none a = begun_as (Key keyword.Chain) refl refl (refl, refl) (read_key (read_expr a.1.0 refl (read_not_key refl tt (read_no_expr t read_made))))
simple_leads (Chain t (Some l)) other none a = chain_number t l.word l.number a
simple_leads (Sleep t) other none a = begun_as (Key keyword.Sleep) refl refl (refl, refl) (read_key (read_expr a.1.0 refl read_made))
simple_leads (Open t purpose.Input hash n r c m) other none a = begun_as (Key keyword.Open) refl refl (refl, refl) (read_key (read_expr a.1.0 refl (read_if_key (read_if_key (read_file t purpose.Input hash n r c m a.1.1.1.1.1.1)))))
simple_leads (Open t purpose.Output hash n r c m) other none a = begun_as (Key keyword.Open) refl refl (refl, refl) (read_key (read_expr a.1.0 refl (read_if_key (read_not_key refl a.1.1.1 (read_key (read_file t purpose.Output hash n r c m a.1.1.1.1.1.1))))))
simple_leads (Open t purpose.Either hash n r c m) other none a = begun_as (Key keyword.Open) refl refl (refl, refl) (read_key (read_expr a.1.0 refl (read_not_key refl a.1.1 (read_file t purpose.Either hash n r c m a.1.1.1.1))))
simple_leads (Close cs) other none a = begun_as (Key keyword.Close) refl refl (refl, refl) (read_key (read_last_list Channels close_channel ChannelItem stopping one_channel (λ ps. refl) (λ x. refl) cs (λ items. says (Close (channels_in items))) a.1 refl (made_of Close _ _ (channels_back cs))))
simple_leads (Get c None) other none a = begun_as (Key keyword.Get) refl refl (refl, refl) (read_key (read_sign (read_expr a.1.1.0 refl (read_not_sign refl tt read_made))))
simple_leads (Get c (Some b)) other none a = begun_as (Key keyword.Get) refl refl (refl, refl) (read_key (read_sign (read_expr a.1.1.0 refl (read_if_sign (read_key (read_expr a.1.1.1.1.1.0 refl read_made))))))
simple_leads (Put c None) other none a = begun_as (Key keyword.Put) refl refl (refl, refl) (read_key (read_sign (read_expr a.1.1.0 refl (read_not_sign refl tt read_made))))
simple_leads (Put c (Some b)) other none a = begun_as (Key keyword.Put) refl refl (refl, refl) (read_key (read_sign (read_expr a.1.1.0 refl (read_if_sign (read_key (read_expr a.1.1.1.1.1.0 refl read_made))))))
simple_leads (Unlock c) other none a = begun_as (Key keyword.Unlock) refl refl (refl, refl) (read_key (read_sign (read_expr a.1.1.0 refl read_made)))
simple_leads (Field c ps) other none a = begun_as (Key keyword.Field) refl refl (refl, refl) (read_key (read_sign (read_expr a.1.1.0 refl (read_sign (read_last_list FieldParts field_part FieldItem (λ x. true) one_field (λ x. refl) (λ x. refl) ps (λ items. says (Field c (parts_in items))) a.1.1.1.1 refl (made_of (λ x. Field c x) _ _ (parts_back ps)))))))
simple_leads (Lset x v) other none a = begun_as (Key keyword.Lset) refl refl (refl, refl) (read_key (read_name a.1.0 (read_sign (read_expr a.1.1.1.0 refl read_made))))
simple_leads (Rset x v) other none a = begun_as (Key keyword.Rset) refl refl (refl, refl) (read_key (read_name a.1.0 (read_sign (read_expr a.1.1.1.0 refl read_made))))
simple_leads (Kill t) other none a = begun_as (Key keyword.Kill) refl refl (refl, refl) (read_key (read_expr a.1.0 refl read_made))
simple_leads (Rename old new) other none a = begun_as (Key keyword.Name) refl refl (refl, refl) (read_key (read_expr a.1.0 refl (read_key (read_expr a.1.1.1.0 refl read_made))))
simple_leads (PrintUsing None format list last) other none a = begun_as (Key keyword.Print) refl refl (refl, refl) (read_key (read_holds (read_not_sign refl a.1.1 (read_if_key (read_using None format list last a.1.0 a.1.1.1)))))
simple_leads (PrintUsing (Some c) format list last) other none a = begun_as (Key keyword.Print) refl refl (refl, refl) (read_key (read_holds (read_if_sign (read_expr a.1.1.1.0 refl (read_if_sign (read_if_key (read_using (Some c) format list last a.1.0 a.1.1.1.1.1.1)))))))
simple_leads (MatRead arrays) other none a = begun_as (Key keyword.Mat) refl refl (refl, refl) (read_key (read_if_key (read_last_list Arrays array NameItem (λ ps. true) one_array (λ ps. refl) (λ x. refl) arrays (λ items. says (MatRead (names_in items))) a.1.1 refl (made_of MatRead _ _ (names_back arrays)))))
simple_leads (MatPrint n None) other none a = begun_as (Key keyword.Mat) refl refl (refl, refl) (read_key (read_not_key refl a.1 (read_if_key (read_name a.1.1.0 (read_not_sign refl tt (read_not_sign refl tt read_made))))))
simple_leads (MatPrint n (Some separator.Comma)) other none a = begun_as (Key keyword.Mat) refl refl (refl, refl) (read_key (read_not_key refl a.1 (read_if_key (read_name a.1.1.0 (read_if_sign read_made)))))
simple_leads (MatPrint n (Some separator.Semicolon)) other none a = begun_as (Key keyword.Mat) refl refl (refl, refl) (read_key (read_not_key refl a.1 (read_if_key (read_name a.1.1.0 (read_not_sign refl (tt, tt) (read_if_sign read_made))))))
simple_leads (MatLet n m) other none a = begun_as (Key keyword.Mat) refl refl (refl, refl) (read_key (read_not_key refl a.1 (read_not_key refl a.1 (read_name a.1.0 (read_sign (read_matrix n m a.1.1.1))))))
