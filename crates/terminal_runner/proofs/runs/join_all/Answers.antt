use Rattle.std.proofs.Common.{◌≡◌, ℕ, [], ◌∷◌, ◌++◌, List, Ok, length, rules, sym, ap, subst, ◌∙◌, append_assoc, arith}
use Rattle.std.specs.Vec.Iter.{into_iter_items}
use Rattle.terminal_runner.specs.Seats.{Answer, Joined}
use Rattle.terminal_runner.proofs.Joins.{joined_none, joined_push}
use Rattle.terminal_runner.proofs.runs.join_all.Goals as goal

pub loop-back-init : goal.loop-back-init
loop-back-init g c = (
  search rules,
  search rules,
  subst (λ (x : List g.row.K.Denot × List (List ℕ)). Joined [] c.args.spare.now c.args.spare.now x.0 x.1) (λ k. (sym c.new-keyboards.ensures.items k, sym c.new-screens.ensures.items k)) (joined_none c.args.spare.now),
)

pub loop-back-preserved : goal.loop-back-preserved
loop-back-preserved g c =
    let at = c.loop-back in
    let i = at.invariant in
    let answer = c.in-Some.back in
    let left = into_iter_items c.next.new.self in
    let seat = c.in_ok-seat.seat in
    let keyboard = c.in_ok-seat.keyboard in
    let screen = c.in_ok-seat.screen in
    let steps : into_iter_items at.back-iterator ≡ answer ∷ left = c.in-Some.ensures.steps.0 in
    let kept : c.push_reserved.new.self.items ≡ at.keyboards.items ++ keyboard ∷ [] = search rules in
    let shown : c.push_reserved-in-loop-back.new.self.items ≡ at.screens.items ++ screen ∷ [] = search rules in
    let is : Ok (seat, (keyboard, screen)) ≡ answer = search rules in (
      append_assoc at.yielded (answer ∷ []) left ∙ rw (← steps) i.0,
      let was = i.1 in
          let gone = c.in-Some.ensures.steps.1 in
          let short = ap length steps in
          omega arith,
      subst (λ (x : Answer g.row.K.Denot × (List g.row.K.Denot × List (List ℕ))). Joined (at.yielded ++ x.0 ∷ []) c.args.spare.now c.join.new.spare x.1.0 x.1.1) (λ k. (is k, (sym kept k, sym shown k)))
          (joined_push at.yielded c.args.spare.now at.spare c.join.new.spare at.keyboards.items at.screens.items (seat, (keyboard, screen)) i.2 c.join.ensures.spare),
    )
