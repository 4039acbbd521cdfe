use Rattle.std.proofs.Common.{◌≡◌, ℕ, ◌+◌, ◌<◌, List, length, get_or, drop, Option, Some, true, false, sym, ap, ◌∙◌}
use Rattle.std.specs.Prelude.{if◌then◌else◌}
use Rattle.std.proofs.lemmas.List.{drop_more}
use Rattle.basic_tree.specs.declared.names.Name.{Name}
use Rattle.job_memory.specs.Names.{at_name}
use Rattle.program_soundness.specs.declared.definitions.Definition.{Definition}
use Rattle.program_soundness.specs.Listings.{first_of}
use Rattle.program_soundness.proofs.definitions.first_of.Goals as goal

first_here : (f : Name) (all : List Definition) (i : ℕ) (d : Definition) (whole : Option ℕ) → i < length all → at_name f (get_or all i d).function ≡ true
    → first_of f (drop i all) ≡ whole → Some (get_or all i d).statement ≡ whole
first_here f all i d whole below is so_far =
    sym (ap (first_of f) (drop_more all i d below) ∙ ap (λ b. if b then Some (get_or all i d).statement else first_of f (drop (i + 1) all)) is) ∙ so_far

first_further : (f : Name) (all : List Definition) (i : ℕ) (d : Definition) (whole : Option ℕ) → i < length all → at_name f (get_or all i d).function ≡ false
    → first_of f (drop i all) ≡ whole → first_of f (drop (i + 1) all) ≡ whole
first_further f all i d whole below is so_far =
    sym (ap (first_of f) (drop_more all i d below) ∙ ap (λ b. if b then Some (get_or all i d).statement else first_of f (drop (i + 1) all)) is) ∙ so_far

pub returns-then-same_name : goal.returns-then-same_name
returns-then-same_name c =
    first_here c.args.function c.args.definitions.now c.loop-definition.definition-index _ _ c.loop-definition-test.true (sym c.same_name.ensures ∙ c.if-same_name.true) c.loop-definition.invariant

pub loop-definition-preserved : goal.loop-definition-preserved
loop-definition-preserved c =
    first_further c.args.function c.args.definitions.now c.loop-definition.definition-index _ _ c.loop-definition-test.true (sym c.same_name.ensures ∙ c.if-same_name.false) c.loop-definition.invariant
