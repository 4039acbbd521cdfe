-- The interlock: how many jobs there are, and what their channels hold.
use Rattle.std.specs.Prelude.{◌≡◌, ◌↔◌, ℕ, true, List, Option, Some, IfSome, refl}
use Rattle.std.specs.FinMap.{code}
use Rattle.std.specs.Coded.{Coded, code_by, coded×, coded_ℕ, coded_list}
use Rattle.monitor_calls.specs.declared.names.Account.{Account}
use Rattle.monitor_calls.specs.declared.files.FileName.{FileName}
use Rattle.monitor_model.specs.Holds.{HoldMap, holder}
use Rattle.block_interlock.specs.declared.runs.Run.{Run}
use Rattle.block_interlock.specs.Runs.{IsShort, tells_block}

pub record Interlock : Type 0 where
  pub jobs : ℕ
  pub held : HoldMap

abbrev pub coded_account : Coded Account
coded_account =
    code_by (ℕ × ℕ) (coded× coded_ℕ coded_ℕ)
    (λ a. (a.project, a.programmer)) (λ p. record { project = p.0; programmer = p.1 }) (λ _. refl)

abbrev pub coded_name : Coded FileName
coded_name =
    code_by (Account × (List ℕ × List ℕ))
    (coded× coded_account (coded× (coded_list coded_ℕ) (coded_list coded_ℕ)))
    (λ n. (n.owner, (n.stem, n.extension)))
    (λ p. record { owner = p.0; stem = p.1.0; extension = p.1.1 }) (λ _. refl)

abbrev pub coded_interlock : Coded Interlock
coded_interlock =
    code_by (ℕ × HoldMap)
    (coded× coded_ℕ (code (coded× coded_name coded_ℕ) (coded× coded_ℕ coded_ℕ)))
    (λ i. (i.jobs, i.held)) (λ p. record { jobs = p.0; held = p.1 }) (λ _. refl)

-- the blocks that a channel holds, and no other: one to three of one file, or none
pub record IsHeldBy (held : HoldMap) (job channel : ℕ) (told : Option Run) : Type 0 where
  pub short : IfSome told (λ run. IsShort run.block run.count)
  pub blocks :
      (name : FileName) (block : ℕ) →
      (tells_block told name block ≡ true) ↔ (holder held name block ≡ Some (job, channel))
