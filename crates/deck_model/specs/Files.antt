-- Files of a deck: their content, the lines that give it, and their pages on the disk.
use Rattle.std.specs.Prelude.{ℕ, zero, suc, ◌-◌, ◌*◌, ◌≤◌, List, [], ◌∷◌, ◌++◌, length, take, drop, replicate, codes}
use Rattle.std.specs.List.{flat_map}
use Rattle.basic_values.specs.declared.limits.TheConstants.{BLOCK_BYTES}
use Rattle.monitor_calls.specs.declared.files.FileName.{FileName}
use Rattle.monitor_calls.specs.declared.files.FileEntry.{FileEntry}

-- a file of a deck: its name, its code, how many blocks of 512 bytes it has, and the bytes that its
-- lines give
pub record File : Type 0 where
  pub name : FileName
  pub code : ℕ
  pub blocks : ℕ
  pub content : List ℕ

-- the bytes fit in the file's blocks
abbrev pub FitsBlocks : File → Type 0
FitsBlocks file = length file.content ≤ BLOCK_BYTES * file.blocks

-- the bytes, then zeros up to the end of the file's blocks
abbrev pub contents_of : File → List ℕ
contents_of file = file.content ++ replicate (BLOCK_BYTES * file.blocks - length file.content) 0

-- the first pages of some bytes, as many as the number says
unfoldable pub pages_of : ℕ → List ℕ → List (List ℕ)
pages_of zero bytes = []
pages_of (suc pages) bytes = take BLOCK_BYTES bytes ∷ pages_of pages (drop BLOCK_BYTES bytes)

-- the file as a volume has it
abbrev pub file_entry : File → FileEntry
file_entry file = record {
  name = file.name;
  code = file.code;
  pages = pages_of file.blocks (contents_of file);
}

-- a line of a file's content: a line of text, or the first bytes of one block
pub data ContentLine : Type 0 where
  TextLine : List ℕ → ContentLine
  BlockLine : List ℕ → ContentLine

-- a block that starts with these bytes and goes on with zeros
abbrev pub block_of : List ℕ → List ℕ
block_of bytes = bytes ++ replicate (BLOCK_BYTES - length bytes) 0

-- the bytes that a line gives: a text with CR LF after it, or a whole block
abbrev pub line_bytes : ContentLine → List ℕ
line_bytes (TextLine text) = text ++ codes "\r\n"
line_bytes (BlockLine bytes) = block_of bytes

-- the bytes of all lines, in their order
abbrev pub content_of : List ContentLine → List ℕ
content_of lines = flat_map line_bytes lines
