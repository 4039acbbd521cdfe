use Rattle.std.proofs.Common.{◌≡◌, [], List, ℕ, drop, ◌++◌, Some, sym, ap, ◌∙◌, rules}
use Rattle.std.proofs.lemmas.List.{take-append-drop, nil_from_length}
use Rattle.job_model.proofs.Follows.{follows_from, follows_to, follows_on, follows_then, follows_stay, broken}
use Rattle.channels.specs.TextOut.{gathers}
use Rattle.channels.specs.Seen.{files}
use Rattle.channels.proofs.Gathered.{gathers_append}
use Rattle.channels.proofs.channels.Channels.gather.Goals as goal

pub loop-rest-init : goal.loop-rest-init
loop-rest-init g c = record { room = c.requires.room; follows = λ clock. follows_stay }

pub returns-in_err-gather_run : goal.returns-in_err-gather_run
returns-in_err-gather_run g c clock =
    let run : List ℕ = c.split_at.result.0.now in
    let behind : List ℕ = c.split_at.result.1.now in
    let n = c.min.result in
    let cut : c.loop-rest.rest.now ≡ run ++ behind = sym (take-append-drop n c.loop-rest.rest.now) ∙ ap (λ (l : List ℕ). l ++ drop n c.loop-rest.rest.now) (sym c.split_at.ensures.front) ∙ ap (λ (l : List ℕ). run ++ l) (sym c.split_at.ensures.back) in
    let now = files c.loop-rest.self c.loop-rest.buffers in
    follows_on (c.loop-rest.invariant.follows clock) (follows_from (ap (λ (l : List ℕ). gathers c.args.channel l now) cut ∙ gathers_append c.args.channel run behind now)
    (broken c.in_err-gather_run.field-0.0 c.from_residual.result (files c.gather_run.new.self c.gather_run.new.buffers) (λ _. gathers c.args.channel behind) c.from_residual.ensures.1 (c.in_err-gather_run.ensures.follows clock)))

pub loop-rest-preserved : goal.loop-rest-preserved
loop-rest-preserved g c =
    let run : List ℕ = c.split_at.result.0.now in
    let behind : List ℕ = c.split_at.result.1.now in
    let n = c.min.result in
    let cut : c.loop-rest.rest.now ≡ run ++ behind = sym (take-append-drop n c.loop-rest.rest.now) ∙ ap (λ (l : List ℕ). l ++ drop n c.loop-rest.rest.now) (sym c.split_at.ensures.front) ∙ ap (λ (l : List ℕ). run ++ l) (sym c.split_at.ensures.back) in
    let now = files c.loop-rest.self c.loop-rest.buffers in
    record {
      room = c.in_ok-gather_run.ensures.room;
      follows = λ clock. follows_on (c.loop-rest.invariant.follows clock) (follows_from (ap (λ (l : List ℕ). gathers c.args.channel l now) cut ∙ gathers_append c.args.channel run behind now)
          (follows_then (λ _. gathers c.args.channel behind) (c.in_ok-gather_run.ensures.follows clock)));
    }

pub returns : goal.returns
returns g c clock =
    let none : c.loop-rest.rest.now ≡ [] = nil_from_length c.loop-rest.rest.now (search rules) in
    follows_to (ap (λ (l : List ℕ). Some (gathers c.args.channel l (files c.loop-rest.self c.loop-rest.buffers))) none) (c.loop-rest.invariant.follows clock)
