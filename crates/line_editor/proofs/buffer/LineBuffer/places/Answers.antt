use Rattle.std.proofs.Common.{ℕ, ◌+◌, ◌<◌, ◌≤◌, length, subst}
use Rattle.std.specs.List.{AllWithin}
use Rattle.line_editor.proofs.PlaceLemmas.{placed}
use Rattle.line_editor.proofs.buffer.LineBuffer.places.Goals as goal

pub returns : goal.returns
returns c =
    let lines = c.args.self.now in
    placed c.args.from c.args.to lines c.place_of-first.result c.place_of-behind.result c.max.result c.place_of-first.ensures.within c.place_of-behind.ensures.within
    (subst (λ (n : ℕ). AllWithin (λ line. line.0 < n) lines 0 c.place_of-first.result) c.from.ensures c.place_of-first.ensures.below)
    (subst (λ (n : ℕ). AllWithin (λ line. n ≤ line.0) lines c.place_of-first.result (length lines)) c.from.ensures c.place_of-first.ensures.others)
    (subst (λ (n : ℕ). AllWithin (λ line. line.0 < n + 1) lines 0 c.place_of-behind.result) c.from-2.ensures c.place_of-behind.ensures.below)
    (subst (λ (n : ℕ). AllWithin (λ line. n + 1 ≤ line.0) lines c.place_of-behind.result (length lines)) c.from-2.ensures c.place_of-behind.ensures.others)
    c.max.ensures
