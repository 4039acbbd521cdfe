-- The frames of a terminal: how they are written, and the screen that they put together.
use Rattle.std.specs.Prelude.{ℕ, List, [], ◌∷◌, ◌++◌, length, codes}
use Rattle.std.specs.Fmt.{decimal}
use Rattle.screen_frames.specs.declared.frames.Frame.{Frame}
use Rattle.screen_frames.specs.declared.frames.Frame.TheVariants.{Shows, Waits, Ends}

-- the bytes that a frame adds to its terminal's screen
abbrev pub bytes_in : Frame → List ℕ
bytes_in (Shows place bytes) = bytes
bytes_in Waits = []
bytes_in Ends = []

-- the bytes of frames, in order
abbrev pub put_together : List Frame → List ℕ
put_together [] = []
put_together (frame ∷ frames) = bytes_in frame ++ put_together frames

-- How a frame of the terminal of this name is written. A screen frame has the number of its bytes
-- and the place in the history of the job's last answered call
abbrev pub frame_text : List ℕ → Frame → List ℕ
frame_text name (Shows place bytes) =
    codes "SCREEN " ++ name ++ codes " " ++ decimal (length bytes) ++ codes " " ++ decimal place
    ++ codes "\n" ++ bytes ++ codes "\n"
frame_text name Waits = codes "WAITS " ++ name ++ codes "\n"
frame_text name Ends = codes "ENDS " ++ name ++ codes "\n"

-- how an entry of the history is written: its place, from 1, and its line
abbrev pub entry_text : ℕ → List ℕ → List ℕ
entry_text place line = codes "ENTRY " ++ decimal place ++ codes " " ++ line ++ codes "\n"
