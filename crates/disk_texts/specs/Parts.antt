-- The text of a volume in the parts in which it is written. No promise of the program mentions them.
use Rattle.std.specs.Prelude.{ℕ, Bool, ◌&&◌, nat_lt, List, [], ◌∷◌, ◌++◌, length}
use Rattle.std.specs.Str.Lines.{strip_carriage_return}
use Rattle.monitor_calls.specs.declared.files.FileEntry.{FileEntry}
use Rattle.deck_model.specs.Forms as forms
use Rattle.deck_model.specs.Forms.{line_of}
use Rattle.deck_model.specs.Spelling.{file_texts, file_lines}
use Rattle.deck_model.specs.DiskTexts.{is_text_line, file_with_lines, text_of_lines}

-- the line of a file's name, code and blocks
abbrev pub file_head : FileEntry → List ℕ
file_head entry = line_of (forms.File (file_texts (file_with_lines entry).file))

-- the lines of all files
abbrev pub files_text : List FileEntry → List ℕ
files_text [] = []
files_text (file ∷ files) = text_of_lines (file_lines (file_with_lines file)) ++ files_text files

-- a line of text with a CR at its end
abbrev pub is_ended_text : List ℕ → Bool
is_ended_text line =
    let text = strip_carriage_return line in nat_lt (length text) (length line) && is_text_line text
