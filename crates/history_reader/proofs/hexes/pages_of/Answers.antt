use Rattle.std.proofs.Common.{◌≡◌, ℕ, List, ◌+◌, ◌-◌, ◌++◌, ◌∷◌, suc, [], ap, ◌∙◌, arith}
use Rattle.deck_model.specs.Files.{pages_of}
use Rattle.deck_reader.proofs.PageLemmas.{page_taken, pages_done}
use Rattle.history_reader.proofs.hexes.pages_of.Goals as goal

pub loop-init : goal.loop-init
loop-init c =
    let none = c.new-pages.ensures.items in
    let start : c.args.count - 0 ≡ c.args.count = omega arith in
    record { taken = λ i. none i ++ pages_of (start i) c.args.bytes.now; left = omega (arith, c.requires) }

pub split_at-requires : goal.split_at-requires
split_at-requires c =
    let left = c.loop.invariant.left in
    let more = c.loop-test.true in
    omega arith

pub loop-preserved : goal.loop-preserved
loop-preserved c =
    let more = c.loop-test.true in
    let next : c.args.count - c.loop.counter ≡ suc (c.args.count - (c.loop.counter + 1)) = omega arith in
    let left = c.loop.invariant.left in
    let shorter = c.split_at.ensures.back_len in
    let page : List ℕ = c.in_ok-page_of.field-0 in
    record {
      taken = ap (λ (items : List (List ℕ)). items ++ pages_of (c.args.count - (c.loop.counter + 1)) c.split_at.result.1.now) c.in_ok-push.ensures.items
          ∙ ap (λ (rest : List ℕ). (c.loop.pages.items ++ page ∷ []) ++ pages_of (c.args.count - (c.loop.counter + 1)) rest) c.split_at.ensures.back
          ∙ page_taken c.loop.pages.items page c.loop.left.now (c.args.count - c.loop.counter) (c.args.count - (c.loop.counter + 1)) (pages_of c.args.count c.args.bytes.now) next (c.in_ok-page_of.ensures ∙ c.split_at.ensures.front) c.loop.invariant.taken;
      left = omega arith;
    }

pub returns : goal.returns
returns c =
    let ended = c.loop-test.false in
    let none : c.args.count - c.loop.counter ≡ 0 = omega arith in
    c.from_vec.ensures ∙ pages_done c.loop.pages.items c.loop.left.now (c.args.count - c.loop.counter) (pages_of c.args.count c.args.bytes.now) none c.loop.invariant.taken
