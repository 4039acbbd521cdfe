-- Elements of lists: those that a form reads are spelled by the pieces of the grammar's lists.
use Rattle.std.proofs.Common.{◌≡◌, ◌<◌, ◌≤◌, true, List, [], ◌∷◌, ◌++◌, length, refl, arith, ltb-true, lt-ltb, length-append, append_assoc}
use Rattle.std.specs.Prelude.{nat_lt}
use Rattle.basic_tree.specs.declared.names.Name.{Name}
use Rattle.basic_tree.specs.declared.kinds.Want.{Want}
use Rattle.basic_tree.specs.SpellingExpressions.{steps_of}
use Rattle.basic_tree.specs.SpellingPieces.{line, target, after_commas}
use Rattle.basic_tree.specs.SpellingParts.{shape, file_shape, name, array, close_channel, field_part}
use Rattle.grammar_machine.specs.MachineStack.{Item, TargetItem, ShapeItem, FileItem, NameItem, LineItem, ChannelItem, FieldItem, Targets, Shapes, FileShapes, Parameters, Arrays, Lines, Channels, FieldParts}
use Rattle.grammar_machine.specs.MachineForms.{targets_in, shapes_in, files_in, names_in, lines_in, channels_in, parts_in}
use Rattle.grammar_machine.proofs.MachineReads.{AreItems, items_steps}
use Rattle.grammar_machine.proofs.SoundPieces.{Spells, ended, fixed, expression, name_of, holds, joined}

pub targets_spelled : (w : Want) (before more : List Item) → AreItems (Targets w) before more → Spells (after_commas (λ t. target w t) (targets_in more)) (items_steps more)
targets_spelled w before [] h = ended refl
targets_spelled w before (TargetItem t ∷ more) h = fixed refl (holds h.2.0 (expression (append_assoc (steps_of t) [] (items_steps more)) h.2.1.0.0 h.1 (targets_spelled w (before ++ TargetItem t ∷ []) more h.3)))
targets_spelled w before (other ∷ more) h = absurd h.1

pub shapes_spelled : (before more : List Item) → AreItems Shapes before more → Spells (after_commas shape (shapes_in more)) (items_steps more)
shapes_spelled before [] h = ended refl
shapes_spelled before (ShapeItem s ∷ more) h = fixed refl (joined (shape s) refl h.2 (shapes_spelled (before ++ ShapeItem s ∷ []) more h.3))
shapes_spelled before (other ∷ more) h = absurd h.1

pub files_spelled : (before more : List Item) → AreItems FileShapes before more → Spells (after_commas file_shape (files_in more)) (items_steps more)
files_spelled before [] h = ended refl
files_spelled before (FileItem s ∷ more) h = fixed refl (joined (file_shape s) refl h.2 (files_spelled (before ++ FileItem s ∷ []) more h.3))
files_spelled before (other ∷ more) h = absurd h.1

pub names_spelled : (before more : List Item) → AreItems Parameters before more → Spells (after_commas name (names_in more)) (items_steps more)
names_spelled before [] h = ended refl
names_spelled before (NameItem s ∷ more) h = fixed refl (joined (name s) refl h.2 (names_spelled (before ++ NameItem s ∷ []) more h.3))
names_spelled before (other ∷ more) h = absurd h.1

pub arrays_spelled : (before more : List Item) → AreItems Arrays before more → Spells (after_commas array (names_in more)) (items_steps more)
arrays_spelled before [] h = ended refl
arrays_spelled before (NameItem s ∷ more) h = fixed refl (name_of refl h.1 (arrays_spelled (before ++ NameItem s ∷ []) more h.3))
arrays_spelled before (other ∷ more) h = absurd h.1

pub lines_spelled : (before more : List Item) → AreItems Lines before more → Spells (after_commas (λ n. line n ∷ []) (lines_in more)) (items_steps more)
lines_spelled before [] h = ended refl
lines_spelled before (LineItem s ∷ more) h = fixed refl (joined (line s ∷ []) refl h.2 (lines_spelled (before ++ LineItem s ∷ []) more h.3))
lines_spelled before (other ∷ more) h = absurd h.1

pub channels_spelled : (before more : List Item) → AreItems Channels before more → Spells (after_commas close_channel (channels_in more)) (items_steps more)
channels_spelled before [] h = ended refl
channels_spelled before (ChannelItem s ∷ more) h = fixed refl (joined (close_channel s) refl h.2 (channels_spelled (before ++ ChannelItem s ∷ []) more h.3))
channels_spelled before (other ∷ more) h = absurd h.1

pub parts_spelled : (before more : List Item) → AreItems FieldParts before more → Spells (after_commas field_part (parts_in more)) (items_steps more)
parts_spelled before [] h = ended refl
parts_spelled before (FieldItem s ∷ more) h = fixed refl (joined (field_part s) refl h.2 (parts_spelled (before ++ FieldItem s ∷ []) more h.3))
parts_spelled before (other ∷ more) h = absurd h.1

-- ---- parameters are at most five

names_fewer : (items : List Item) → length (names_in items) ≤ length items
names_fewer [] = omega arith
names_fewer (NameItem n ∷ items) = omega (arith, names_fewer items)
names_fewer (other ∷ items) = omega (arith, names_fewer items)

pub few_items : (before more : List Item) → length before < 6 → AreItems Parameters before more → length (before ++ more) < 6
few_items before [] b h = omega (arith, length-append before [])
few_items before (item ∷ more) b h =
    let room : length before < 5 = ltb-true _ _ h.0 in
    let rest = few_items (before ++ item ∷ []) more (omega (arith, length-append before (item ∷ []))) h.3 in
    omega (arith, length-append before (item ∷ more), length-append (before ++ item ∷ []) more, length-append before (item ∷ []))

pub few_names : (n : Name) (more : List Item) → AreItems Parameters (NameItem n ∷ []) more → nat_lt (length (n ∷ names_in more)) 6 ≡ true
few_names n more h =
    let all = few_items (NameItem n ∷ []) more (omega arith) h in
    lt-ltb _ _ (omega (arith, names_fewer more))
