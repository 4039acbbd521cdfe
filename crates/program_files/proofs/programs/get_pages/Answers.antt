use Rattle.std.proofs.Common.{◌≡◌, ◌+◌, ◌-◌, ◌∷◌, ◌++◌, [], Some, List, suc, ℕ, refl, sym, ap, ◌∙◌, arith, add-one, rules}
use Rattle.job_model.specs.Act.{Gives}
use Rattle.job_model.proofs.Follows.{follows_to, follows_is, follows_forget}
use Rattle.program_files.proofs.Pages.{left_to_get, none_got, all_got, got_one, got_stopped}
use Rattle.program_files.proofs.programs.get_pages.Goals as goal

pub loop-index-init : goal.loop-index-init
loop-index-init g c clock =
    let n : c.args.blocks - 0 ≡ c.args.blocks = omega arith in
    follows_is (sym (ap (λ (got : List (List ℕ)). left_to_get got 1 (c.args.blocks - 0)) c.new-pages.ensures.items ∙ ap (left_to_get [] 1) n ∙ none_got 1 c.args.blocks))

pub returns-in_err-page : goal.returns-in_err-page
returns-in_err-page g c clock =
    let i = c.loop-index.index in
    let n : c.args.blocks - i ≡ suc (c.args.blocks - (i + 1)) = omega arith in
    got_stopped c.loop-index.pages.items (i + 1) (c.args.blocks - i) (c.args.blocks - (i + 1)) c.in_err-page.field-0.0 c.from_residual.result n c.from_residual.ensures.1 (c.loop-index.invariant clock) (c.in_err-page.ensures clock)

pub returns-then-is_err : goal.returns-then-is_err
returns-then-is_err g c clock =
    let i = c.loop-index.index in
    let n : c.args.blocks - i ≡ suc (c.args.blocks - (i + 1)) = omega arith in
    follows_forget (got_one c.loop-index.pages.items (i + 1) (c.args.blocks - i) (c.args.blocks - (i + 1)) (suc (i + 1)) c.in_ok-page.page n refl (c.loop-index.invariant clock) (c.in_ok-page.ensures clock))

pub loop-index-preserved : goal.loop-index-preserved
loop-index-preserved g c clock =
    let i = c.loop-index.index in
    let n : c.args.blocks - i ≡ suc (c.args.blocks - (i + 1)) = omega arith in
    let pushed : c.push.new.self.items ≡ c.loop-index.pages.items ++ c.in_ok-page.page ∷ [] = search rules in
    follows_to (ap (λ (got : List (List ℕ)). Some (left_to_get got (i + 1 + 1) (c.args.blocks - (i + 1)))) (sym pushed))
    (got_one c.loop-index.pages.items (i + 1) (c.args.blocks - i) (c.args.blocks - (i + 1)) (i + 1 + 1) c.in_ok-page.page n (add-one (i + 1)) (c.loop-index.invariant clock) (c.in_ok-page.ensures clock))

pub returns : goal.returns
returns g c clock =
    let i = c.loop-index.index in
    let n : c.args.blocks - i ≡ 0 = omega arith in
    follows_to (ap Some (all_got c.loop-index.pages.items (i + 1) (c.args.blocks - i) n) ∙ ap (λ (got : List (List ℕ)). Some (Gives got tt)) (sym c.from_vec.ensures)) (c.loop-index.invariant clock)
