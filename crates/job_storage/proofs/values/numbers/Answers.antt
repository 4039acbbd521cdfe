use Rattle.std.proofs.Common.{◌≡◌, ℕ, ◌+◌, ◌<◌, List, [], ◌∷◌, ◌++◌, length, map, take, get_or, ap, sym, ◌∙◌}
use Rattle.std.specs.Prelude.{ℤ}
use Rattle.std.proofs.lemmas.List.{map_more}
use Rattle.program_model.specs.Job.{number}
use Rattle.program_model.specs.declared.values.Value.{Value}
use Rattle.job_storage.proofs.values.numbers.Goals as goal

one_more : (before after : List ℤ) (values : List Value) (place : ℕ) (v : Value) (n : ℤ) → after ≡ before ++ n ∷ [] → before ≡ map number (take place values) → n ≡ number v → v ≡ get_or values place v → place < length values → after ≡ map number (take (place + 1) values)
one_more before after values place v n pushed so_far is there lt =
    pushed
    ∙ ap (λ (ns : List ℤ). ns ++ n ∷ []) so_far
    ∙ ap (λ (n : ℤ). map number (take place values) ++ n ∷ []) (is ∙ ap (λ (v : Value). number v) there)
    ∙ sym (map_more number values place v lt)

pub loop-value-preserved : goal.loop-value-preserved
loop-value-preserved c =
    one_more c.loop-value.numbers.items c.push.new.self.items c.args.values.now c.loop-value.value-index c.value-item.result c.number.result c.in_ok-push.ensures.items c.loop-value.invariant c.number.ensures c.value-item.is c.loop-value-test.true
