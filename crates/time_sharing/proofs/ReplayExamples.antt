-- Small inputs and disputes, computed.
use Rattle.std.proofs.Common.{◌≡◌, [], ◌∷◌, codes, inl, inr, refl}
use Rattle.monitor_calls.specs.declared.calls.Request.TheVariants.{Logout, Tick}
use Rattle.deck_model.specs.Lines.{whole_lines, cut_line}
use Rattle.program_words.specs.Words.{asked}
use Rattle.program_words.specs.declared.words.Asked.TheVariants.{Replay, Nothing}
use Rattle.time_sharing.specs.Disputes.{DifferAt}
use Rattle.time_sharing.specs.Inputs.{Divided, line_behind}

one_word : asked (codes "replay" ∷ []) ≡ Replay
one_word = refl

no_flag : asked (codes "replay" ∷ codes "--history" ∷ []) ≡ Nothing
no_flag = refl

-- a CR before its LF does not keep a line from being END, and a second END is text
behind_end : Divided (codes "DISK 8\nEND\r\nEND\n") (codes "DISK 8\nEND\r\n") (codes "END\n")
unfolding whole_lines cut_line
behind_end = record { input_is = refl; ends = inl (record { before = codes "DISK 8" ∷ []; lines_are = refl; no_other = (λ e. absurd (cc), tt); all_whole = refl }) }

-- END without its LF is no line
no_end : Divided (codes "DISK 8\nEND") (codes "DISK 8\nEND") []
unfolding whole_lines
no_end = record { input_is = refl; ends = inr ((λ e. absurd (cc), tt), refl) }

third_line : line_behind (codes "DISK 8\nEND\n") ≡ 3
unfolding whole_lines
third_line = refl

-- one request more is asked, and another one
one_more : DifferAt 1 (Tick ∷ Logout ∷ []) (Tick ∷ [])
one_more = record { alike = refl; differ = λ e. absurd (cc) }

another : DifferAt 0 (Tick ∷ []) (Logout ∷ [])
another = record { alike = refl; differ = λ e. absurd (cc) }
