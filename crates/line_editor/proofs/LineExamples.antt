-- The text of a program and its file, computed.
use Rattle.std.proofs.Common.{◌≡◌, ℕ, [], ◌∷◌, map, Some, None, refl}
use Rattle.std.specs.Prelude.{codes}
use Rattle.std.specs.Fmt.{digits}
use Rattle.basic_tree.specs.ProgramLines.{Lines, line, stored, removed, within, without, listing}
use Rattle.basic_tree.specs.FileLines.{file_text, file_lines}
use Rattle.basic_tree.specs.LineNumbers.{digits_of, number_of, rest_of}
use Rattle.line_editor.specs.declared.buffer.Mark.{Mark}
use Rattle.line_editor.specs.Marks.{marks_of, moved}
use Rattle.line_editor.specs.Marked.{line_marked}

abbrev some : Lines
some = stored 5 (codes " STOP") (stored 20 (codes " END") (stored 100 [] []))

in_order : some ≡ (5, codes " STOP") ∷ (20, codes " END") ∷ (100, []) ∷ []
in_order = refl

found : line 20 some ≡ Some (codes " END")
found = refl

not_found : line 21 some ≡ None
not_found = refl

replaced : line 20 (stored 20 (codes "!") some) ≡ Some (codes "!")
replaced = refl

deleted : removed 20 some ≡ (5, codes " STOP") ∷ (100, []) ∷ []
deleted = refl

not_there : removed 6 some ≡ some
not_there = refl

a_range : within 5 20 some ≡ (5, codes " STOP") ∷ (20, codes " END") ∷ []
a_range = refl

others : without 5 20 some ≡ (100, []) ∷ []
others = refl

empty_range : without 20 5 some ≡ some
empty_range = refl

as_listed : listing some ≡ codes "5 STOP\r\n20 END\r\n100\r\n"
unfolding digits
as_listed = refl

-- THE BUFFER

abbrev mark : ℕ → ℕ → ℕ → Mark
mark number begins count = record { number = number; begins = begins; count = count }

-- where the bytes after each number begin, and how many there are
where_they_stand : marks_of 0 some ≡ mark 5 1 5 ∷ mark 20 10 4 ∷ mark 100 19 0 ∷ []
unfolding digits
where_they_stand = refl

as_marked : map (line_marked (codes "5 STOP\r\n20 END\r\n100\r\n")) (mark 5 1 5 ∷ mark 20 10 4 ∷ mark 100 19 0 ∷ []) ≡ some
as_marked = refl

-- 6 bytes were removed and 2 inserted before it
behind_a_change : moved 6 2 (mark 20 10 4) ≡ mark 20 6 4
behind_a_change = refl

-- FILES

without_zeros : file_text ((49 ∷ 0 ∷ 48 ∷ []) ∷ (0 ∷ 33 ∷ []) ∷ []) ≡ codes "10!"
without_zeros = refl

line_by_line : file_lines (codes "10!\r\n20!\n") ≡ codes "10!" ∷ codes "20!" ∷ []
line_by_line = refl

last_without_feed : file_lines (codes "10!\r\n20!\r") ≡ codes "10!" ∷ codes "20!\r" ∷ []
last_without_feed = refl

one_return : file_lines (codes "10!\r\r\n") ≡ codes "10!\r" ∷ []
one_return = refl

empty_line : file_lines (codes "\n\n") ≡ [] ∷ [] ∷ []
empty_line = refl

nothing : file_lines [] ≡ []
nothing = refl

leading_zeros : number_of (codes "0010 END") ≡ 10
leading_zeros = refl

behind_it : rest_of (codes "0010 END") ≡ codes " END"
behind_it = refl

no_number : digits_of (codes " 10") ≡ 0
no_number = refl
