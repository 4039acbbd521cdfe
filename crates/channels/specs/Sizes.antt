-- The buffer of each channel has the bytes of its records; and what it means that interaction trees
-- keep this.
use Rattle.std.specs.Prelude.{◌≡◌, ℕ, Bool, false, List, length, Option, ℤ}
use Rattle.monitor_calls.specs.declared.files.FileName.{FileName}
use Rattle.monitor_calls.specs.declared.files.OpenKind.{OpenKind}
use Rattle.job_model.specs.Ends.{EndsWhere}
use Rattle.record_fields.specs.declared.buffers.TheConstants.{BUFFER_COUNT}
use Rattle.record_fields.specs.declared.sizes.RecordSize.{RecordSize}
use Rattle.record_fields.specs.declared.sizes.RecordSize.TheVariants.{One}
use Rattle.record_fields.specs.Buffers.{buffer_of, IsChannel}
use Rattle.record_fields.specs.Sizes.{bytes_of}
use Rattle.channels.specs.Files.{Files, FilesAct, state_of}
use Rattle.channels.specs.Openings.{opens_file, closes_file, shuts_file, closes_all}
use Rattle.channels.specs.Records.{gets_record, puts_record, unlocks}
use Rattle.channels.specs.TextIn.{reads_line}
use Rattle.channels.specs.TextOut.{writes_text}
use Rattle.channels.specs.Windows.{opens_window}

-- a channel that is not open has records of one block
pub record AreSized (files : Files) : Type 0 where
  pub channels : length files.channels ≡ BUFFER_COUNT
  pub buffers : length files.buffers ≡ BUFFER_COUNT
  pub whole : (c : ℕ) → IsChannel c → length (buffer_of c files.buffers) ≡ bytes_of (state_of c files).size
  pub closed : (c : ℕ) → IsChannel c → (state_of c files).open_now ≡ false → (state_of c files).size ≡ One

-- buffers that have their sizes have them wherever the tree ends
abbrev pub KeepsSizes : {A : Type 0} → (Files → FilesAct A) → Type 0
KeepsSizes act = (files : Files) → AreSized files → EndsWhere AreSized (act files)

-- Every tree keeps the sizes. An OPEN is on a channel that is not open.
pub record SizesStay : Type 0 where
  pub opening : (c : ℕ) → IsChannel c → (name : FileName) (kind : OpenKind) (update : Bool) (code : Option ℕ)
      (size : RecordSize) (files : Files) → (state_of c files).open_now ≡ false → AreSized files
      → EndsWhere AreSized (opens_file c name kind update code size files)
  pub closing : (channel : ℤ) → KeepsSizes (closes_file channel)
  pub shutting : (c : ℕ) → IsChannel c → KeepsSizes (shuts_file c)
  pub closing_all : KeepsSizes closes_all
  pub getting : (channel block : ℤ) → KeepsSizes (gets_record channel block)
  pub putting : (channel block : ℤ) → KeepsSizes (puts_record channel block)
  pub unlocking : (channel : ℤ) → KeepsSizes (unlocks channel)
  pub text_out : (channel : ℤ) (bytes : List ℕ) → KeepsSizes (writes_text channel bytes)
  pub text_in : (channel : ℤ) → KeepsSizes (reads_line channel)
  pub window : (c block : ℕ) (writing : Bool) → IsChannel c → KeepsSizes (opens_window c block writing)
