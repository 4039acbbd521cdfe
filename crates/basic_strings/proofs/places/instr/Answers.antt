use Rattle.std.proofs.Common.{◌≡◌, ◌+◌, ◌≤◌, length, drop, pos, sym, subst, ◌∙◌, arith}
use Rattle.std.proofs.lemmas.Int.{ints}
use Rattle.std.proofs.lemmas.List.{take_rest}
use Rattle.memchr.specs.Find.{FindsNeedle}
use Rattle.basic_strings.proofs.PlaceLemmas.{nothing_before_start, no_place, find-behind}
use Rattle.basic_strings.proofs.SearchLemmas.{place_found, no_place_found, found_early}
use Rattle.basic_strings.proofs.places.instr.Goals as goal

pub returns-then-start-a : goal.returns-then-start-a
returns-then-start-a c =
    let text = c.args.a.now in
    let sought = c.args.b.now in
    let start = c.bytes_before-start.result in
    let tried = nothing_before_start c.args.n text sought start c.bytes_before-start.ensures.value in
    c.new.ensures ∙ sym (no_place c.args.n text sought start tried (find-behind _ (start + 1) text (omega (arith, c.if-start-a.true))))

pub returns-in-Some : goal.returns-in-Some
returns-in-Some c =
    let text = c.args.a.now in
    let sought = c.args.b.now in
    let start = c.bytes_before-start.result in
    let before = c.in-Some.before in
    let within : start ≤ length text = omega (arith, c.if-start-a.false) in
    let tried = nothing_before_start c.args.n text sought start c.bytes_before-start.ensures.value in
    let first = subst (λ hay. FindsNeedle hay sought 0 c.find.result) (take_rest text start) c.find.ensures in
    let found = subst (λ r. FindsNeedle (drop start text) sought 0 r) c.in-Some.is first in
    let early : start + before ≤ 32766 = found_early text sought start before c.bytes_before-start.ensures.bound c.requires.text within found.0.before found.1 in
    let here : c.new-in-Some.result ≡ pos (start + before + 1) = omega (arith, ints, early) in
    here ∙ sym (place_found c.args.n text sought start before within tried found.0.high found.0.before found.1)

pub returns-in-None : goal.returns-in-None
returns-in-None c =
    let text = c.args.a.now in
    let sought = c.args.b.now in
    let start = c.bytes_before-start.result in
    let within : start ≤ length text = omega (arith, c.if-start-a.false) in
    let tried = nothing_before_start c.args.n text sought start c.bytes_before-start.ensures.value in
    let first = subst (λ hay. FindsNeedle hay sought 0 c.find.result) (take_rest text start) c.find.ensures in
    let found = subst (λ r. FindsNeedle (drop start text) sought 0 r) c.in-None.is first in
    c.new-in-None.ensures ∙ sym (no_place_found c.args.n text sought start within tried found)
