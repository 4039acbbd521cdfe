use Rattle.std.proofs.Common.{◌≡◌, ◌+◌, ◌<◌, ℕ, zero, suc, Bool, eqb, Bor, List, [], ◌∷◌, length, false, true, sym, ap, subst, ◌∙◌, arith, length-append}
use Rattle.std.proofs.lemmas.Bool.{eqb-true}
use Rattle.monitor_calls.specs.declared.calls.Entry.{Entry}
use Rattle.history_reader.specs.SoFar.{SoFar}
use Rattle.history_reader.proofs.HistoryLaws.{one_more, still_open, wrong_behind, fails_here, ends_here, whole_text_here, line_shortens}
use Rattle.history_reader.proofs.reading.entries.Goals as goal

some_if : (n : ℕ) (b : Bool) → b ≡ false → b ≡ eqb n 0 → 0 < n
some_if zero b other same = absurd (let both : false ≡ true = sym other ∙ same in cc)
some_if (suc n) b other same = omega arith

none_if : (n : ℕ) (b : Bool) → b ≡ true → b ≡ eqb n 0 → n ≡ 0
none_if n b is same = eqb-true n 0 (sym same ∙ is)

pub returns-then-is_decimal_of : goal.returns-then-is_decimal_of
returns-then-is_decimal_of c whole start =
    let entries = c.loop-rest.entries in
    let counted : c.len-good.result ≡ length entries.items = omega (arith, c.len-good.ensures, entries.ok.0) in
    let some = some_if (length c.loop-rest.rest.now) c.is_empty.result c.loop-rest-test.true c.is_empty.ensures in
    wrong_behind whole c.args.count.now entries.items c.loop-rest.rest.now (c.loop-rest.invariant.told whole start) c.len-good.result counted (sym c.is_decimal_of.ensures ∙ c.if-is_decimal_of.true) some

pub returns-in-Err : goal.returns-in-Err
returns-in-Err c whole start =
    let entries = c.loop-rest.entries in
    let counted : c.len-good.result ≡ length entries.items = omega (arith, c.len-good.ensures, entries.ok.0) in
    rw c.at.ensures
    (fails_here whole c.args.count.now entries.items c.loop-rest.rest.now (c.loop-rest.invariant.told whole start) c.len-good.result counted (λ (x : Entry × Bor (List ℕ)). (x.0, x.1.now)) c.in-Err.error (some_if (length c.loop-rest.rest.now) c.is_empty.result c.loop-rest-test.true c.is_empty.ensures) c.in-Err.ensures)

pub loop-rest-preserved : goal.loop-rest-preserved
loop-rest-preserved c =
    let entries = c.loop-rest.entries in
    let counted : c.len-good.result ≡ length entries.items = omega (arith, c.len-good.ensures, entries.ok.0) in
    let e : Entry = c.in-Ok.found.0 in
    let after : List ℕ = c.in-Ok.found.1.now in
    let shorter = line_shortens e c.loop-rest.rest.now after c.in-Ok.ensures.1 in
    let few = c.loop-rest.invariant.few in
    record {
      told = λ whole start.
          let so_far = c.loop-rest.invariant.told whole start in
          let unmet = still_open whole c.args.count.now entries.items c.loop-rest.rest.now so_far c.len-good.result counted (sym c.is_decimal_of.ensures ∙ c.if-is_decimal_of.false) in
          subst (λ (l : List Entry). SoFar whole c.args.count.now l after) (sym c.in_ok-push.ensures)
          (one_more whole c.args.count.now entries.items c.loop-rest.rest.now so_far e after unmet c.in-Ok.ensures.0 c.in-Ok.ensures.1);
      few = let pushed : length c.push.new.entries.items ≡ length entries.items + 1 = ap length c.in_ok-push.ensures ∙ omega (arith, length-append entries.items (e ∷ [])) in omega arith;
    }

pub returns-then-is_met : goal.returns-then-is_met
returns-then-is_met c whole start =
    let entries = c.loop-rest.entries in
    let counted : c.len-all.result ≡ length entries.items = omega (arith, c.len-all.ensures, entries.ok.0) in
    let ended = none_if (length c.loop-rest.rest.now) c.is_empty.result c.loop-rest-test.false c.is_empty.ensures in
    whole_text_here whole c.args.count.now entries.items c.loop-rest.rest.now (c.loop-rest.invariant.told whole start) c.len-all.result counted (sym c.is_met.ensures ∙ c.if-is_met.true) ended

pub returns-else-is_met : goal.returns-else-is_met
returns-else-is_met c whole start =
    let entries = c.loop-rest.entries in
    let counted : c.len-all.result ≡ length entries.items = omega (arith, c.len-all.ensures, entries.ok.0) in
    let ended = none_if (length c.loop-rest.rest.now) c.is_empty.result c.loop-rest-test.false c.is_empty.ensures in
    ends_here whole c.args.count.now entries.items c.loop-rest.rest.now (c.loop-rest.invariant.told whole start) c.len-all.result counted (sym c.is_met.ensures ∙ c.if-is_met.false) ended
