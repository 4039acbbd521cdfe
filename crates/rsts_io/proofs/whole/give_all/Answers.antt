use Rattle.std.proofs.Common.{◌≡◌, ℕ, List, ◌++◌, subst, ◌∙◌}
use Rattle.std.proofs.lemmas.List.{take-append-drop}
use Rattle.std.proofs.lemmas.Result.{err_from_is_err_and, on_err_weaker}
use Rattle.rsts_io.specs.Whole.{BrokeOff}
use Rattle.rsts_io.proofs.WholeLemmas.{broke_off_behind, broke_off_first}
use Rattle.rsts_io.proofs.whole.give_all.Goals as goal

pub returns-in_err-give_piece-clause-front : goal.returns-in_err-give_piece-clause-front
returns-in_err-give_piece-clause-front g c =
    let head : List ℕ = c.split_at.result.0.now in
    let rest : List ℕ = c.split_at.result.1.now in
    let whole : head ++ rest ≡ c.args.bytes.now = (λ i. c.split_at.ensures.front i ++ c.split_at.ensures.back i) ∙ take-append-drop c.line_length.result c.args.bytes.now in
    let p = err_from_is_err_and c.from_residual.result c.from_residual.ensures.1 in
    rw p.1 (subst (λ (t : List ℕ). BrokeOff t (g.K.Sink.state c.args.sink.now) (g.K.Sink.state c.give_piece.new.sink)) whole (broke_off_first head rest (g.K.Sink.state c.args.sink.now) (g.K.Sink.state c.give_piece.new.sink) c.in_err-give_piece.ensures.front))

pub returns-clause-front : goal.returns-clause-front
returns-clause-front g c =
    let head : List ℕ = c.split_at.result.0.now in
    let rest : List ℕ = c.split_at.result.1.now in
    let whole : head ++ rest ≡ c.args.bytes.now = (λ i. c.split_at.ensures.front i ++ c.split_at.ensures.back i) ∙ take-append-drop c.line_length.result c.args.bytes.now in
    on_err_weaker c.give_piece-2.result (λ front. subst (λ (t : List ℕ). BrokeOff t (g.K.Sink.state c.args.sink.now) (g.K.Sink.state c.give_piece-2.new.sink)) whole (broke_off_behind head rest (g.K.Sink.state c.args.sink.now) (g.K.Sink.state c.give_piece.new.sink) (g.K.Sink.state c.give_piece-2.new.sink) c.in_ok-give_piece.ensures.all front)) c.give_piece-2.ensures.front
