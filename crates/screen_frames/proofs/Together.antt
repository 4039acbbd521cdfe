-- One frame more.
use Rattle.std.proofs.Common.{◌≡◌, ℕ, List, [], ◌∷◌, ◌++◌, length, take, drop, sym, ap, subst, ◌∙◌, append_assoc, append-nil}
use Rattle.std.specs.Prelude.{true, bytes_eq}
use Rattle.std.proofs.lemmas.List.{take-append-drop}
use Rattle.std.proofs.lemmas.Slice.Eq.{bytes_eq-Decides}
use Rattle.screen_frames.specs.declared.frames.Frame.{Frame}
use Rattle.screen_frames.specs.Frames.{bytes_in, put_together}

together_more : (frames : List Frame) (frame : Frame) → put_together (frames ++ frame ∷ []) ≡ put_together frames ++ bytes_in frame
together_more [] frame = append-nil (bytes_in frame)
together_more (first ∷ frames) frame = ap (λ (l : List ℕ). bytes_in first ++ l) (together_more frames frame) ∙ sym (append_assoc (bytes_in first) (put_together frames) (bytes_in frame))

-- what stands before the rest
pub shown_front : (shown needle screen : List ℕ) → needle ≡ shown → bytes_eq needle (take (length needle) screen) ≡ true → shown ++ drop (length shown) screen ≡ screen
shown_front shown needle screen same begins =
    let is : bytes_eq shown (take (length shown) screen) ≡ true = subst (λ (l : List ℕ). bytes_eq l (take (length l) screen) ≡ true) same begins in
    let front : shown ≡ take (length shown) screen = (bytes_eq-Decides shown (take (length shown) screen)).0 is in
    ap (λ (l : List ℕ). l ++ drop (length shown) screen) front ∙ take-append-drop (length shown) screen

pub framed_more : (sent sent' : List Frame) (shown shown' : List ℕ) (frame : Frame) → put_together sent ≡ shown → sent' ≡ sent ++ frame ∷ [] → shown' ≡ shown ++ bytes_in frame → put_together sent' ≡ shown'
framed_more sent sent' shown shown' frame were is now = ap put_together is ∙ together_more sent frame ∙ ap (λ (l : List ℕ). l ++ bytes_in frame) were ∙ sym now

-- a frame without bytes
pub framed_same : (sent sent' : List Frame) (shown : List ℕ) (frame : Frame) → put_together sent ≡ shown → sent' ≡ sent ++ frame ∷ [] → bytes_in frame ≡ [] → put_together sent' ≡ shown
framed_same sent sent' shown frame were is none = framed_more sent sent' shown shown frame were is (sym (ap (λ (l : List ℕ). shown ++ l) none ∙ append-nil shown))
