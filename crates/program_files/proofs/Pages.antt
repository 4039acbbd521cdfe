-- The pages of a file one after another.
use Rattle.std.proofs.Common.{◌≡◌, ℕ, suc, List, [], ◌∷◌, ◌++◌, Some, sym, ap, ◌∙◌, append_assoc, append-nil}
use Rattle.std.specs.Prelude.{Result, Err}
use Rattle.std.specs.Result.{IsErrAnd}
use Rattle.basic_values.specs.declared.failures.Stop.{Stop}
use Rattle.monitor_calls.specs.declared.events.Event.{Event}
use Rattle.job_model.specs.Act.{Gives, ◌then◌}
use Rattle.job_model.specs.Play.{Clock}
use Rattle.job_model.specs.Follow.{Follows, answered_by}
use Rattle.job_model.proofs.Follows.{follows_to, follows_with, follows_on, follows_stay, broken}
use Rattle.program_files.specs.Channels.{FileAct, gets, puts}
use Rattle.program_files.specs.Programs.{gets_from, puts_from}
use Rattle.job_model.proofs.Thens.{then_assoc, then_gives}

-- what is left to read after these pages
abbrev pub left_to_get : List (List ℕ) → ℕ → ℕ → FileAct (List (List ℕ))
left_to_get got block more = gets_from block more then λ pages _. Gives (got ++ pages) tt

pub none_got : (block more : ℕ) → left_to_get [] block more ≡ gets_from block more
none_got block more = then_gives (gets_from block more)

pub all_got : (got : List (List ℕ)) (block more : ℕ) → more ≡ 0 → left_to_get got block more ≡ Gives got tt
all_got got block more is = ap (left_to_get got block) is ∙ ap (λ (pages : List (List ℕ)). Gives pages tt) (append-nil got)

pub one_more : (got : List (List ℕ)) (block more : ℕ) → left_to_get got block (suc more) ≡ gets block then λ page _. left_to_get (got ++ page ∷ []) (suc block) more
one_more got block more =
    then_assoc (gets block) (λ page _. gets_from (suc block) more then λ pages _. Gives (page ∷ pages) tt) (λ pages _. Gives (got ++ pages) tt)
    ∙ ap (λ (next : List ℕ → Unit {0} → FileAct (List (List ℕ))). gets block then next) (λ i page u. behind page i)
  where
    behind : (page : List ℕ) → (gets_from (suc block) more then λ pages _. Gives (page ∷ pages) tt) then (λ pages _. Gives (got ++ pages) tt) ≡ left_to_get (got ++ page ∷ []) (suc block) more
    behind page =
        then_assoc (gets_from (suc block) more) (λ pages _. Gives (page ∷ pages) tt) (λ pages _. Gives (got ++ pages) tt)
        ∙ ap (λ (next : List (List ℕ) → Unit {0} → FileAct (List (List ℕ))). gets_from (suc block) more then next) (λ i pages u. Gives (sym (append_assoc got (page ∷ []) pages) i) tt)

module _ {P W : Type 0} {who : P → W} {log : P → List Event} where
  -- one more page was read
  pub got_one : {start p q : P} {c : Clock} {whole : FileAct (List (List ℕ))} (got : List (List ℕ)) (block n more next : ℕ) (page : List ℕ) → n ≡ suc more → next ≡ suc block
      → Follows who log start p c c whole (Some (left_to_get got block n)) → Follows who log p q c c (gets block) (Some (Gives page tt)) → Follows who log start q c c whole (Some (left_to_get (got ++ page ∷ []) next more))
  got_one got block n more next page is then_next f g =
      follows_to (ap (λ (b : ℕ). Some (left_to_get (got ++ page ∷ []) b more)) (sym then_next))
      (follows_on (follows_to (ap (λ (k : ℕ). Some (left_to_get got block k)) is ∙ ap Some (one_more got block more)) f)
      (follows_with (λ page _. left_to_get (got ++ page ∷ []) (suc block) more) g follows_stay))

  -- reading a page failed
  pub got_stopped : {start p q : P} {c : Clock} {whole : FileAct (List (List ℕ))} (got : List (List ℕ)) (block n more : ℕ) (e : Stop) (result : Result (List (List ℕ)) Stop) → n ≡ suc more → IsErrAnd result (λ x. x ≡ e)
      → Follows who log start p c c whole (Some (left_to_get got block n)) → Follows who log p q c c (gets block) (answered_by (Err e) tt) → Follows who log start q c c whole (answered_by result tt)
  got_stopped got block n more e result is lost f g =
      follows_on (follows_to (ap (λ (k : ℕ). Some (left_to_get got block k)) is ∙ ap Some (one_more got block more)) f)
      (broken e result tt (λ page _. left_to_get (got ++ page ∷ []) (suc block) more) lost g)

  -- one page was written
  pub put_one : {start p q : P} {c : Clock} {whole : FileAct (Unit {0})} (block next : ℕ) (page : List ℕ) (were pages : List (List ℕ)) → were ≡ page ∷ pages → next ≡ suc block
      → Follows who log start p c c whole (Some (puts_from block were)) → Follows who log p q c c (puts block page) (Some (Gives tt tt)) → Follows who log start q c c whole (Some (puts_from next pages))
  put_one block next page were pages is then_next f g =
      follows_to (ap (λ (b : ℕ). Some (puts_from b pages)) (sym then_next))
      (follows_on (follows_to (ap (λ (left : List (List ℕ)). Some (puts_from block left)) is) f) (follows_with (λ _ _. puts_from (suc block) pages) g follows_stay))

  pub put_stopped : {start p q : P} {c : Clock} {whole : FileAct (Unit {0})} (block : ℕ) (page : List ℕ) (were pages : List (List ℕ)) (e : Stop) (result : Result (Unit {0}) Stop) → were ≡ page ∷ pages → IsErrAnd result (λ x. x ≡ e)
      → Follows who log start p c c whole (Some (puts_from block were)) → Follows who log p q c c (puts block page) (answered_by (Err e) tt) → Follows who log start q c c whole (answered_by result tt)
  put_stopped block page were pages e result is lost f g =
      follows_on (follows_to (ap (λ (left : List (List ℕ)). Some (puts_from block left)) is) f) (broken e result tt (λ _ _. puts_from (suc block) pages) lost g)
