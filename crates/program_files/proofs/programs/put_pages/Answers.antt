use Rattle.std.proofs.Common.{length, rules, ◌≡◌, ◌+◌, ◌≤◌, [], Some, List, ℕ, true, sym, ap, arith, add-one}
use Rattle.std.proofs.lemmas.List.{nil_from_length}
use Rattle.std.specs.Vec.Iter.{into_iter_items}
use Rattle.std.proofs.lemmas.Bool.Decides.{nat_tests}
use Rattle.job_model.specs.Asking.{can_be_block}
use Rattle.job_model.proofs.Follows.{follows_to, follows_is}
use Rattle.program_files.specs.Programs.{puts_from}
use Rattle.program_files.proofs.Pages.{put_one, put_stopped}
use Rattle.program_files.proofs.programs.put_pages.Goals as goal

at_most : (block : ℕ) → can_be_block block ≡ true → block ≤ 16384
at_most block e = grind (arith, nat_tests)

pub loop-page-init : goal.loop-page-init
loop-page-init g c = record {
  placed = omega arith;
  counted = (let lengths = ap length c.into_iter-page-iterator.ensures.into_iter_gives.0 in let count = c.into_iter-page-iterator.ensures.into_iter_gives.1 in search rules);
  follows = λ clock. follows_is (ap (puts_from 1) (sym c.into_iter-page-iterator.ensures.into_iter_gives.0));
}

pub returns-in_err-put : goal.returns-in_err-put
returns-in_err-put g c clock =
    put_stopped c.loop-page.block c.in-Some.page (into_iter_items c.loop-page.page-iterator) (into_iter_items c.next.new.self) c.in_err-put.field-0.0 c.from_residual.result c.in-Some.ensures.steps.0 c.from_residual.ensures.1 (c.loop-page.invariant.follows clock) (c.in_err-put.ensures.follows clock)

pub overflow_add-block : goal.overflow_add-block
overflow_add-block g c =
    let most : c.loop-page.block ≤ 16384 = at_most c.loop-page.block c.in_ok-put.ensures.could in
    omega arith

pub loop-page-preserved : goal.loop-page-preserved
loop-page-preserved g c =
    let most : c.loop-page.block ≤ 16384 = at_most c.loop-page.block c.in_ok-put.ensures.could in
    record {
      placed = omega arith;
      counted = (let was = c.loop-page.invariant.counted in let gone = c.in-Some.ensures.steps.1 in let short = ap length c.in-Some.ensures.steps.0 in omega arith);
      follows = λ clock. put_one c.loop-page.block (c.loop-page.block + 1) c.in-Some.page (into_iter_items c.loop-page.page-iterator) (into_iter_items c.next.new.self) c.in-Some.ensures.steps.0 (add-one c.loop-page.block) (c.loop-page.invariant.follows clock) (c.in_ok-put.ensures.follows clock);
    }

pub returns : goal.returns
returns g c clock =
    let none : into_iter_items c.loop-page.page-iterator ≡ [] = nil_from_length (into_iter_items c.loop-page.page-iterator) (let was = c.loop-page.invariant.counted in let gone = c.in-None.ensures.steps.0 in omega arith) in
    follows_to (ap (λ (left : List (List ℕ)). Some (puts_from c.loop-page.block left)) none) (c.loop-page.invariant.follows clock)
