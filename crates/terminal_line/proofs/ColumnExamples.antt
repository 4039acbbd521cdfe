-- Columns, and what changes them, computed.
use Rattle.std.proofs.Common.{◌≡◌, [], ◌∷◌, replicate, refl}
use Rattle.std.specs.Prelude.{codes, pos, negsuc}
use Rattle.basic_values.specs.Texts.{space}
use Rattle.terminal_line.specs.Columns.{column_behind, column_of, zone_text, tab_text, fresh_text}

printed : column_of (codes " 1  2 ") ≡ 6
printed = refl

behind_the_end_of_a_line : column_of (codes "HELLO\r\n") ≡ 0
behind_the_end_of_a_line = refl

-- LF alone stays in its column
line_feed_alone : column_of (codes "AB\nC") ≡ 3
line_feed_alone = refl

-- BEL, BS, TAB and DEL do not change the column; bytes from 128 on do
control_bytes : column_of (65 ∷ 7 ∷ 8 ∷ 9 ∷ 127 ∷ 128 ∷ 255 ∷ []) ≡ 3
control_bytes = refl

carriage_return : column_of (codes "ABC\rD") ≡ 1
carriage_return = refl

greatest : column_behind 32766 65 ≡ 32767
greatest = refl

greatest_stays : column_behind 32767 65 ≡ 32767
greatest_stays = refl

first_of_the_next_zone : zone_text 0 ≡ replicate 14 space
first_of_the_next_zone = refl

from_a_zone_to_the_next : zone_text 14 ≡ replicate 14 space
from_a_zone_to_the_next = refl

-- `PRINT 1%,2%` has 11 spaces between its numbers
behind_a_number : zone_text (column_of (codes " 1 ")) ≡ replicate 11 space
behind_a_number = refl

before_the_last_zone : zone_text 55 ≡ space ∷ []
before_the_last_zone = refl

last_zone : zone_text 56 ≡ codes "\r\n"
last_zone = refl

tab_goes_on : tab_text (pos 5) 3 ≡ space ∷ space ∷ []
tab_goes_on = refl

tab_stays : tab_text (pos 3) 5 ≡ []
tab_stays = refl

negative_tab : tab_text (negsuc 4) 0 ≡ []
negative_tab = refl

fresh : fresh_text 0 ≡ []
fresh = refl

not_fresh : fresh_text 1 ≡ codes "\r\n"
not_fresh = refl
