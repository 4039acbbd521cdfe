use Rattle.std.proofs.Common.{◌≡◌, sym, ap, ◌∙◌, ◌++◌, length, drop, List, ℕ, arith}
use Rattle.std.specs.Vec.{vec_len}
use Rattle.screen_frames.proofs.Together.{shown_front, framed_more}
use Rattle.screen_frames.proofs.frames.ScreenFrames.show.Goals as goal

pub invariant_of-self-2 : goal.invariant_of-self-2
invariant_of-self-2 g c = record { framed = framed_more _ _ c.args.self.now.shown.items _ _ c.args.self.now.framed c.push_waiting.ensures.sent (c.in_ok-extend_from_slice.ensures.items ∙ ap (λ (l : List ℕ). c.args.self.now.shown.items ++ l) (sym (c.from_vec-bytes.ensures ∙ c.in_ok-from_slice.ensures.items))) }

pub returns-clause-shown : goal.returns-clause-shown
returns-clause-shown g c =
    let shown = c.args.self.now.shown.items in
    let screen = c.args.screen.now in
    let count : vec_len c.args.self.now.shown ≡ length shown = omega (arith, c.args.self.now.shown.ok.0) in
    c.in_ok-extend_from_slice.ensures.items ∙ ap (λ (l : List ℕ). shown ++ l) c.after-fresh.ensures ∙ ap (λ (n : ℕ). shown ++ drop n screen) c.len.ensures
    ∙ ap (λ (n : ℕ). shown ++ drop n screen) count
    ∙ shown_front shown _ screen c.as_slice.ensures.value (sym c.if-not-starts_with.ensures.value)
