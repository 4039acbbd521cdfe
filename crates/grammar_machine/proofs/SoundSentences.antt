-- What the form of a word reads is the statement, or the modifier, that begins with the word.
use Rattle.std.proofs.Common.{◌≡◌, false, List, Some, subst, true, inl, inr, [], ◌∷◌, Option, None, refl}
use Rattle.basic_tree.specs.declared.tokens.Keyword.{Keyword}
use Rattle.basic_tree.specs.declared.tokens.Keyword.TheVariants as keyword
use Rattle.basic_tree.specs.SpellingWords.{Word, Key, Named, FnNamed, LevelStep, words}
use Rattle.grammar_machine.specs.MachineStack.{Value, Form, Stated, Modifying, TargetItem, LineItem, ChannelItem, FieldItem, NameItem, ShapeItem, FileItem, Shapes, FileShapes, MoreOf}
use Rattle.grammar_machine.specs.MachineForms.{targets_in, lines_in, says, channels_in, parts_in, names_in, size_form, shapes_in, files_in}
use Rattle.grammar_machine.specs.MachineSentences.{Sentence, Simple, key_sentence, sentence_of, key_modifier, modifier_of, Head, Choice}
use Rattle.grammar_machine.proofs.MachineReads.{Reads, data_steps, items_steps}
use Rattle.grammar_machine.proofs.FormLeads.{Says, Modifies}
use Rattle.grammar_machine.proofs.SoundPieces.{Sound, ended, fixed, expression, name_of, literal, holds, only, said, modifying_said, joined, listed, regrouped, one_behind}
use Rattle.basic_tree.specs.declared.kinds.Want.TheVariants as want
use Rattle.basic_tree.specs.Trees.{If, Unless, While, Until, ForModifier, For, Next, FnEnd, Data, Result, Read, Restore, Goto, Gosub, Return, OnGoto, OnGosub, OnErrorGoto, Resume, Stop, End, Sleep, Lset, Rset, Kill, Rename, Open, Close, Get, Put, Unlock, Field, Chain, CloseChannelTree, FieldPartTree, MatRead, MatPrint, MatLet, PromptTree, IfThen, IfGoto, Dim, DimFile, Def, Let, Print, PrintUsing, Input, InputLine}
use Rattle.basic_tree.specs.SpellingPieces.{number, sign_piece, optional, text, after_commas, closing}
use Rattle.basic_tree.specs.SpellingParts.{first_word, shape, file_shape, value, name, element_size}
use Rattle.grammar_machine.proofs.SoundLists.{targets_spelled, lines_spelled, channels_spelled, parts_spelled, arrays_spelled, shapes_spelled, files_spelled, names_spelled, few_names}
use Rattle.basic_tree.specs.declared.tokens.Sign.TheVariants as sign
use Rattle.basic_tree.specs.declared.parts.OpenFor.TheVariants as purpose
use Rattle.basic_tree.specs.SpellingExpressions.{steps_of}
use Rattle.basic_tree.specs.declared.parts.Separator.TheVariants as separator
use Rattle.basic_tree.specs.declared.parts.FileShape.{FileShape}
use Rattle.basic_tree.specs.SpellingStatements.{clause_wants_else, clause_pieces}
use Rattle.grammar_machine.proofs.SoundSimple.{range_read, data_spelled}
use Rattle.grammar_machine.proofs.SoundFiles.{option_read, file_read, passing_follows}
use Rattle.grammar_machine.proofs.SoundMatrices.{matrix_read}
use Rattle.grammar_machine.proofs.SoundChoices.{else_read, targets_read, value_read, comma_parts, using_read, inputs_read, shape_read, size_read}

-- a word begins no statement, or what its form reads is the statement
abbrev SoundSentence : Option Sentence → Type 0
SoundSentence None = Unit {0}
SoundSentence (Some s) = Sound s.class s.form

key_sound : (k : Keyword) → SoundSentence (key_sentence k)
key_sound keyword.If = λ p v h.
    let a = h.2 in
    elim a.5 [
      | inl x ↦
          let c = x.2 in
          let o = else_read (clause_wants_else c.0) (λ o. IfThen a.0 c.0 o) c.1 v c.4 in
          said Choice (IfThen a.0 c.0 o.0) p v o.3 (fixed h.1 (expression a.2 a.3 a.4 (fixed x.1 (joined (clause_pieces c.0) c.2 c.3 (fixed refl (holds o.1 o.2)))))) refl refl
      | inr x ↦
          let n = x.2 in
          let o = else_read false (λ o. IfGoto a.0 n.0 o) n.1 v n.4 in
          said Choice (IfGoto a.0 n.0 o.0) p v o.3 (fixed h.1 (expression a.2 a.3 a.4 (fixed x.1 (literal n.2 n.3 o.2)))) refl refl
    ]
key_sound keyword.For = λ p v h.
    let a = range_read (λ v start limit step. Stated (For v start limit step)) h.0 v h.2 in
    said Head (For a.0 a.1 a.2 a.3) p v a.5 (fixed h.1 a.4) refl (refl, refl)
key_sound keyword.Next = λ p v h. let a = h.2 in said Head (Next a.0) p v a.4.1 (fixed h.1 (name_of a.2 a.3 (ended a.4.0))) refl (refl, refl)
key_sound keyword.FnEnd = λ p v h. said Head FnEnd p v h.2.1 (fixed h.1 (ended h.2.0)) refl (refl, refl)
key_sound keyword.Data = λ p v h.
    let a = h.2 in
    let more = a.3 in
    said Head (Data (a.0 ∷ more.0)) p v more.3.1 (fixed h.1 (fixed a.2 (only (data_steps more.0) more.2 more.3.0 (data_spelled more.0)))) refl (refl, refl)
key_sound keyword.Dim = λ p v h.
    elim h.2 [
      | inl x ↦
          let c = x.2 in
          let s = shape_read (λ s. size_form s.name.text (λ size. MoreOf FileShapes (FileItem (record { shape = s; size = size }) ∷ []) (λ items. says (DimFile c.0 (files_in items))))) c.4.0 v c.4.2 in
          let z = size_read s.is.name s.is.name.text (λ size. MoreOf FileShapes (FileItem (record { shape = s.is; size = size }) ∷ []) (λ items. says (DimFile c.0 (files_in items)))) s.left v refl s.rest in
          let more = z.rest in
          let f : FileShape = record { shape = s.is; size = z.is } in
          let starts = one_behind (shape s.is) (optional (λ size. element_size s.is.name size) z.is) c.4.0 s.left z.left s.starts z.starts in
          said Head (DimFile c.0 (f ∷ files_in more.0)) p v more.4.1
          (fixed h.1 (fixed x.1 (literal c.2 c.3 (fixed c.4.1
          (joined (file_shape f) starts.spelled starts.wanted (only (items_steps more.0) more.2 more.4.0 (files_spelled (FileItem f ∷ []) more.0 more.3)))))))
          refl (refl, refl)
      | inr x ↦
          let s = shape_read (λ s. MoreOf Shapes (ShapeItem s ∷ []) (λ items. says (Dim (shapes_in items)))) h.0 v x in
          let more = s.rest in
          said Head (Dim (s.is ∷ shapes_in more.0)) p v more.4.1
          (fixed h.1 (joined (shape s.is) s.starts.spelled s.starts.wanted (only (items_steps more.0) more.2 more.4.0 (shapes_spelled (ShapeItem s.is ∷ []) more.0 more.3))))
          refl (refl, refl)
    ]
key_sound keyword.Def = λ p v h.
    let f = h.2 in
    elim f.3 [
      | inl x ↦
          let n = x.2 in
          let more = n.4 in
          let closed = more.4 in
          let w = value_read f.0 (n.0 ∷ names_in more.0) closed.0 v closed.2 in
          said Head (Def f.0 (n.0 ∷ names_in more.0) w.0) p v w.2
          (fixed h.1 (fixed f.2 (holds (few_names n.0 more.0 more.3) (fixed x.1 (name_of n.2 tt
          (regrouped (after_commas name (names_in more.0)) (sign_piece sign.Closing ∷ closing ∷ []) (optional (λ t. value f.0.text t) w.0)
          (listed (items_steps more.0) more.2 (names_spelled (NameItem n.0 ∷ []) more.0 more.3) (fixed closed.1 (fixed refl w.1)))))))))
          refl (refl, refl)
      | inr x ↦
          let w = value_read f.0 [] f.1 v x in
          said Head (Def f.0 [] w.0) p v w.2 (fixed h.1 (fixed f.2 (holds refl w.1))) refl (refl, refl)
    ]
key_sound keyword.Let = λ p v h.
    let a = targets_read true h.0 v h.2 in
    said Simple (Let true a.0 a.1) p v a.3 (fixed h.1 a.2) refl (refl, refl)
key_sound keyword.Print = λ p v h.
    elim h.2 [
      | inl x ↦
          let c = x.2 in
          elim c.5 [
            | inl y ↦
                elim y.2 [
                  | inl z ↦
                      let u = using_read (Some c.0) z.0 v z.2 in
                      said Simple (PrintUsing (Some c.0) u.format u.values u.last) p v u.is
                      (fixed h.1 (holds u.some (fixed x.1 (expression c.2 c.3 c.4 (fixed y.1 (fixed z.1 u.spells)))))) refl (refl, refl)
                  | inr m ↦
                      said Simple (Print (Some (record { number = c.0; comma = true })) m.0 m.1) p v m.4
                      (fixed h.1 (holds (comma_parts c.0 m.0 m.1) (fixed x.1 (expression c.2 c.3 c.4 (fixed y.1 (record { wanted = m.3; spelled = m.2 })))))) refl (refl, refl)
                ]
            | inr y ↦
                said Simple (Print (Some (record { number = c.0; comma = false })) [] None) p v y.1
                (fixed h.1 (holds refl (fixed x.1 (expression c.2 c.3 c.4 (ended y.0))))) refl (refl, refl)
          ]
      | inr y ↦
          elim y [
            | inl z ↦
                let u = using_read None z.0 v z.2 in
                said Simple (PrintUsing None u.format u.values u.last) p v u.is (fixed h.1 (holds u.some (fixed z.1 u.spells))) refl (refl, refl)
            | inr m ↦ said Simple (Print None m.0 m.1) p v m.4 (fixed h.1 (holds refl (record { wanted = m.3; spelled = m.2 }))) refl (refl, refl)
          ]
    ]
key_sound keyword.Input = λ p v h.
    elim h.2 [
      | inl x ↦
          elim x.2 [
            | inl y ↦
                let c = y.2 in
                let n = c.5.2 in
                said Simple (InputLine (Some c.0) n.0) p v n.4.1 (fixed h.1 (fixed x.1 (fixed y.1 (expression c.2 c.3 c.4 (fixed c.5.1 (name_of n.2 n.3 (ended n.4.0))))))) refl (refl, refl)
            | inr n ↦ said Simple (InputLine None n.0) p v n.4.1 (fixed h.1 (fixed x.1 (name_of n.2 n.3 (ended n.4.0)))) refl (refl, refl)
          ]
      | inr x ↦
          elim x [
            | inl y ↦
                let c = y.2 in
                let ts = inputs_read (Some c.0) None c.5.0 v c.5.2 in
                said Simple (Input (Some c.0) None ts.0) p v ts.2 (fixed h.1 (holds refl (fixed y.1 (expression c.2 c.3 c.4 (fixed c.5.1 ts.1))))) refl (refl, refl)
            | inr y ↦
                elim y [
                  | inl z ↦
                      elim z.3 [
                        | inl k ↦
                            let o : PromptTree = record { text = z.0; separator = separator.Semicolon } in
                            let ts = inputs_read None (Some o) k.0 v k.2 in
                            said Simple (Input None (Some o) ts.0) p v ts.2 (fixed h.1 (holds refl (fixed z.2 (fixed k.1 ts.1)))) refl (refl, refl)
                        | inr k ↦
                            let o : PromptTree = record { text = z.0; separator = separator.Comma } in
                            let ts = inputs_read None (Some o) k.0 v k.2 in
                            said Simple (Input None (Some o) ts.0) p v ts.2 (fixed h.1 (holds refl (fixed z.2 (fixed k.1 ts.1)))) refl (refl, refl)
                      ]
                  | inr z ↦
                      let ts = inputs_read None None h.0 v z in
                      said Simple (Input None None ts.0) p v ts.2 (fixed h.1 (holds refl ts.1)) refl (refl, refl)
                ]
          ]
    ]
key_sound keyword.Read = λ p v h.
    let t = h.2 in
    let more = t.6 in
    said Simple (Read (t.0 ∷ targets_in more.0)) p v more.4.1
    (fixed h.1 (holds t.5 (expression t.2 t.3 t.4 (only (items_steps more.0) more.2 more.4.0 (targets_spelled want.Either (TargetItem t.0 ∷ []) more.0 more.3))))) refl (refl, refl)
key_sound keyword.Restore = λ p v h. said Simple Restore p v h.2.1 (fixed h.1 (ended h.2.0)) refl (refl, refl)
key_sound keyword.Goto = λ p v h. let a = h.2 in said Simple (Goto false a.0) p v a.4.1 (fixed h.1 (literal a.2 a.3 (ended a.4.0))) refl (refl, refl)
key_sound keyword.Gosub = λ p v h. let a = h.2 in said Simple (Gosub false a.0) p v a.4.1 (fixed h.1 (literal a.2 a.3 (ended a.4.0))) refl (refl, refl)
key_sound keyword.Go = λ p v h.
    elim h.2 [
      | inl x ↦ let a = x.2 in said Simple (Goto true a.0) p v a.4.1 (fixed h.1 (fixed x.1 (literal a.2 a.3 (ended a.4.0)))) refl (refl, refl)
      | inr x ↦ let a = x.2 in said Simple (Gosub true a.0) p v a.4.1 (fixed h.1 (fixed x.1 (literal a.2 a.3 (ended a.4.0)))) refl (refl, refl)
    ]
key_sound keyword.Return = λ p v h. said Simple Return p v h.2.1 (fixed h.1 (ended h.2.0)) refl (refl, refl)
key_sound keyword.On = λ p v h.
    elim h.2 [
      | inl x ↦
          let a = x.2 in
          elim a.2 [
            | inl b ↦ said Simple (OnErrorGoto (Some b.0)) p v b.4.1 (fixed h.1 (fixed x.1 (fixed a.1 (literal b.2 b.3 (ended b.4.0))))) refl (refl, refl)
            | inr b ↦ said Simple (OnErrorGoto None) p v b.1 (fixed h.1 (fixed x.1 (fixed a.1 (ended b.0)))) refl (refl, refl)
          ]
      | inr x ↦
          elim x.5 [
            | inl a ↦ let b = a.2 in said Simple (OnGoto x.0 (b.0 ∷ lines_in b.4.0)) p v b.4.4.1 (fixed h.1 (expression x.2 x.3 x.4 (fixed a.1 (literal b.2 b.3 (only (items_steps b.4.0) b.4.2 b.4.4.0 (lines_spelled (LineItem b.0 ∷ []) b.4.0 b.4.3)))))) refl (refl, refl)
            | inr a ↦ let b = a.2 in said Simple (OnGosub x.0 (b.0 ∷ lines_in b.4.0)) p v b.4.4.1 (fixed h.1 (expression x.2 x.3 x.4 (fixed a.1 (literal b.2 b.3 (only (items_steps b.4.0) b.4.2 b.4.4.0 (lines_spelled (LineItem b.0 ∷ []) b.4.0 b.4.3)))))) refl (refl, refl)
          ]
    ]
key_sound keyword.Resume = λ p v h.
    elim h.2 [
      | inl a ↦ said Simple (Resume (Some a.0)) p v a.4.1 (fixed h.1 (literal a.2 a.3 (ended a.4.0))) refl (refl, refl)
      | inr a ↦ said Simple (Resume None) p v a.1 (fixed h.1 (ended a.0)) refl (refl, refl)
    ]
key_sound keyword.Stop = λ p v h. said Simple Stop p v h.2.1 (fixed h.1 (ended h.2.0)) refl (refl, refl)
key_sound keyword.End = λ p v h. said Simple End p v h.2.1 (fixed h.1 (ended h.2.0)) refl (refl, refl)
key_sound keyword.Chain = λ p v h.
    let t = h.2 in
    elim t.5 [
      | inl x ↦
          let n = x.2 in
          said Simple (Chain t.0 (Some (record { word = true; number = n.0 }))) p v n.5.1 (fixed h.1 (expression t.2 t.3 t.4 (fixed x.1 (holds refl (expression n.2 n.3 n.4 (ended n.5.0)))))) refl (refl, refl)
      | inr x ↦
          elim x [
            | inl n ↦
                said Simple (Chain t.0 (Some (record { word = false; number = n.0 }))) p v n.6.1
                (fixed h.1 (expression t.2 t.3 t.4 (holds (passing_follows t.0 (first_word (words (steps_of n.0))) n.5) (expression n.2 n.3 n.4 (ended n.6.0))))) refl (refl, refl)
            | inr n ↦ said Simple (Chain t.0 None) p v n.1 (fixed h.1 (expression t.2 t.3 t.4 (ended n.0))) refl (refl, refl)
          ]
    ]
key_sound keyword.Sleep = λ p v h. let a = h.2 in said Simple (Sleep a.0) p v a.5.1 (fixed h.1 (expression a.2 a.3 a.4 (ended a.5.0))) refl (refl, refl)
key_sound keyword.Open = λ p v h.
    let a = h.2 in
    elim a.5 [
      | inl x ↦
          elim x.2 [
            | inl y ↦
                let f = file_read a.0 purpose.Input y.0 v y.2 in
                said Simple (Open a.0 purpose.Input f.hash f.channel f.record_size f.cluster_size f.mode) p v f.is (fixed h.1 (expression a.2 a.3 a.4 (fixed x.1 (fixed y.1 f.spells)))) refl (refl, refl)
            | inr y ↦
                let f = file_read a.0 purpose.Output y.0 v y.2 in
                said Simple (Open a.0 purpose.Output f.hash f.channel f.record_size f.cluster_size f.mode) p v f.is (fixed h.1 (expression a.2 a.3 a.4 (fixed x.1 (fixed y.1 f.spells)))) refl (refl, refl)
          ]
      | inr x ↦
          let f = file_read a.0 purpose.Either a.1 v x in
          said Simple (Open a.0 purpose.Either f.hash f.channel f.record_size f.cluster_size f.mode) p v f.is (fixed h.1 (expression a.2 a.3 a.4 f.spells)) refl (refl, refl)
    ]
key_sound keyword.Close = λ p v h.
    elim h.2 [
      | inl x ↦
          let a = x.2 in
          let more = a.5 in
          let c : CloseChannelTree = record { hash = true; number = a.0 } in
          said Simple (Close (c ∷ channels_in more.0)) p v more.4.1
          (fixed h.1 (fixed x.1 (expression a.2 a.3 a.4 (only (items_steps more.0) more.2 more.4.0 (channels_spelled (ChannelItem c ∷ []) more.0 more.3))))) refl (refl, refl)
      | inr a ↦
          let more = a.5 in
          let c : CloseChannelTree = record { hash = false; number = a.0 } in
          said Simple (Close (c ∷ channels_in more.0)) p v more.4.1
          (fixed h.1 (expression a.2 a.3 a.4 (only (items_steps more.0) more.2 more.4.0 (channels_spelled (ChannelItem c ∷ []) more.0 more.3)))) refl (refl, refl)
    ]
key_sound keyword.Get = λ p v h.
    let c = h.2.2 in
    let o = option_read keyword.Record (λ b. Get c.0 b) c.1 v c.5 in
    said Simple (Get c.0 o.0) p v o.2 (fixed h.1 (fixed h.2.1 (expression c.2 c.3 c.4 o.1))) refl (refl, refl)
key_sound keyword.Put = λ p v h.
    let c = h.2.2 in
    let o = option_read keyword.Record (λ b. Put c.0 b) c.1 v c.5 in
    said Simple (Put c.0 o.0) p v o.2 (fixed h.1 (fixed h.2.1 (expression c.2 c.3 c.4 o.1))) refl (refl, refl)
key_sound keyword.Unlock = λ p v h.
    let c = h.2.2 in
    said Simple (Unlock c.0) p v c.5.1 (fixed h.1 (fixed h.2.1 (expression c.2 c.3 c.4 (ended c.5.0)))) refl (refl, refl)
key_sound keyword.Field = λ p v h.
    let c = h.2.2 in
    let width = c.5.2 in
    let name = width.5.2 in
    let more = name.4 in
    let part : FieldPartTree = record { width = width.0; name = name.0 } in
    said Simple (Field c.0 (part ∷ parts_in more.0)) p v more.4.1
    (fixed h.1 (fixed h.2.1 (expression c.2 c.3 c.4 (fixed c.5.1 (expression width.2 width.3 width.4 (fixed width.5.1 (name_of name.2 name.3
    (only (items_steps more.0) more.2 more.4.0 (parts_spelled (FieldItem part ∷ []) more.0 more.3)))))))))
    refl (refl, refl)
key_sound keyword.Lset = λ p v h.
    let x = h.2 in
    let a = x.4.2 in
    said Simple (Lset x.0 a.0) p v a.5.1 (fixed h.1 (name_of x.2 x.3 (fixed x.4.1 (expression a.2 a.3 a.4 (ended a.5.0))))) refl (refl, refl)
key_sound keyword.Rset = λ p v h.
    let x = h.2 in
    let a = x.4.2 in
    said Simple (Rset x.0 a.0) p v a.5.1 (fixed h.1 (name_of x.2 x.3 (fixed x.4.1 (expression a.2 a.3 a.4 (ended a.5.0))))) refl (refl, refl)
key_sound keyword.Kill = λ p v h. let a = h.2 in said Simple (Kill a.0) p v a.5.1 (fixed h.1 (expression a.2 a.3 a.4 (ended a.5.0))) refl (refl, refl)
key_sound keyword.Name = λ p v h.
    let a = h.2 in
    let b = a.5.2 in
    said Simple (Rename a.0 b.0) p v b.5.1 (fixed h.1 (expression a.2 a.3 a.4 (fixed a.5.1 (expression b.2 b.3 b.4 (ended b.5.0))))) refl (refl, refl)
key_sound keyword.Mat = λ p v h.
    elim h.2 [
      | inl x ↦
          let n = x.2 in
          let more = n.4 in
          said Simple (MatRead (n.0 ∷ names_in more.0)) p v more.4.1
          (fixed h.1 (fixed x.1 (name_of n.2 n.3 (only (items_steps more.0) more.2 more.4.0 (arrays_spelled (NameItem n.0 ∷ []) more.0 more.3))))) refl (refl, refl)
      | inr y ↦
          elim y [
            | inl x ↦
                let n = x.2 in
                elim n.4 [
                  | inl z ↦ said Simple (MatPrint n.0 (Some separator.Comma)) p v z.2.1 (fixed h.1 (fixed x.1 (name_of n.2 n.3 (fixed z.1 (ended z.2.0))))) refl (refl, refl)
                  | inr z ↦
                      elim z [
                        | inl w ↦ said Simple (MatPrint n.0 (Some separator.Semicolon)) p v w.2.1 (fixed h.1 (fixed x.1 (name_of n.2 n.3 (fixed w.1 (ended w.2.0))))) refl (refl, refl)
                        | inr w ↦ said Simple (MatPrint n.0 None) p v w.1 (fixed h.1 (fixed x.1 (name_of n.2 n.3 (ended w.0)))) refl (refl, refl)
                      ]
                ]
            | inr n ↦
                let m = matrix_read n.0 n.4.0 v n.4.2 in
                said Simple (MatLet n.0 m.0) p v m.2 (fixed h.1 (name_of n.2 n.3 (fixed n.4.1 m.1))) refl (refl, refl)
          ]
    ]
key_sound other = tt

word_sound : (t : Word) → SoundSentence (sentence_of t)
word_sound (Key k) = key_sound k
word_sound (Named name) = λ p v h.
    let a = targets_read false p v h in
    said Simple (Let false a.0 a.1) p v a.3 a.2 refl (refl, refl)
word_sound (FnNamed name) = λ p v h.
    let a = h.3.2 in
    said Simple (Result h.0 a.0) p v a.5.1 (fixed h.2 (fixed h.3.1 (expression a.2 a.3 a.4 (ended a.5.0)))) refl (refl, refl)
word_sound other = tt

pub sentence_sound : (t : Word) (b : Sentence) → sentence_of t ≡ Some b → (p : List LevelStep) (v : Value) → Reads b.form p v → Says b.class p v
sentence_sound t b e = subst SoundSentence e (word_sound t)

-- ---- modifiers

-- a word begins no modifier, or what its form reads is the modifier
abbrev SoundModifier : Option Form → Type 0
SoundModifier None = Unit {0}
SoundModifier (Some f) = (p : List LevelStep) (v : Value) → Reads f p v → Modifies p v

key_modifier_sound : (k : Keyword) → SoundModifier (key_modifier k)
key_modifier_sound keyword.If = λ p v h. let a = h.2 in modifying_said (If a.0) p v a.5.1 (fixed h.1 (expression a.2 a.3 a.4 (ended a.5.0)))
key_modifier_sound keyword.Unless = λ p v h. let a = h.2 in modifying_said (Unless a.0) p v a.5.1 (fixed h.1 (expression a.2 a.3 a.4 (ended a.5.0)))
key_modifier_sound keyword.While = λ p v h. let a = h.2 in modifying_said (While a.0) p v a.5.1 (fixed h.1 (expression a.2 a.3 a.4 (ended a.5.0)))
key_modifier_sound keyword.Until = λ p v h. let a = h.2 in modifying_said (Until a.0) p v a.5.1 (fixed h.1 (expression a.2 a.3 a.4 (ended a.5.0)))
key_modifier_sound keyword.For = λ p v h.
    let a = range_read (λ v start limit step. Modifying (ForModifier v start limit step)) h.0 v h.2 in
    modifying_said (ForModifier a.0 a.1 a.2 a.3) p v a.5 (fixed h.1 a.4)
key_modifier_sound other = tt

word_modifier_sound : (t : Word) → SoundModifier (modifier_of t)
word_modifier_sound (Key k) = key_modifier_sound k
word_modifier_sound other = tt

pub modifier_sound : (t : Word) (f : Form) → modifier_of t ≡ Some f → (p : List LevelStep) (v : Value) → Reads f p v → Modifies p v
modifier_sound t f e = subst SoundModifier e (word_modifier_sound t)
