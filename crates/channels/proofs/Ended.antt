-- What is left of interaction trees at their ends: an opening, a window, and channels that are
-- closed one after another.
use Rattle.std.proofs.Common.{◌≡◌, ℕ, zero, suc, ◌+◌, ◌-◌, ◌<◌, Bool, true, false, List, [], ◌∷◌, Err, refl, sym, ap, ◌∙◌, add-one, arith}
use Rattle.std.specs.Prelude.{slice_set}
use Rattle.std.specs.Option.{option_map}
use Rattle.basic_values.specs.declared.failures.Stop.{Stop}
use Rattle.basic_values.specs.declared.failures.Stop.TheVariants as stop
use Rattle.job_model.specs.Act.{Breaks, ◌then◌}
use Rattle.job_model.specs.Ends.{at_ends}
use Rattle.job_model.specs.Follow.{answered_by}
use Rattle.record_fields.specs.declared.sizes.RecordSize.{RecordSize}
use Rattle.channels.specs.Files.{Files, FilesAct, changes}
use Rattle.channels.specs.Openings.{with_opened, with_blank, shuts_file, closes_from}
use Rattle.channels.specs.Windows.{with_use}
use Rattle.channels.proofs.Beside.{beside}

pub set_twice : {A : Type 0} (xs : List A) (i : ℕ) (a b : A) → slice_set (slice_set xs i a) i b ≡ slice_set xs i b
set_twice [] i a b = refl
set_twice (x ∷ xs) zero a b = refl
set_twice {A} (x ∷ xs) (suc i) a b = ap (λ (l : List A). x ∷ l) (set_twice xs i a b)

abbrev pub opening : ℕ → Bool → RecordSize → FilesAct ℕ → FilesAct Unit
opening c update size act = at_ends (with_blank c) (λ _. changes (with_opened c update size)) (λ why files. Breaks why (with_blank c files)) act

-- an opening that was refused
pub opening_refused : (c : ℕ) (update : Bool) (size : RecordSize) (e : Stop) (files : Files) → option_map (opening c update size) (answered_by (Err e) files) ≡ answered_by (Err e) (with_blank c files)
opening_refused c update size (stop.Fault number) files = refl
opening_refused c update size (stop.Halt halt) files = refl
opening_refused c update size stop.Expired files = refl
opening_refused c update size stop.NoMemory files = refl

-- one more channel is closed
pub closes_step : (place : ℕ) (files : Files) → place < 12 → closes_from (place + 1) (12 - place) files ≡ shuts_file (place + 1) files then λ _. closes_from (place + 1 + 1) (12 - (place + 1))
closes_step place files less =
    let m : ℕ = 12 - (place + 1) in
    let n : 12 - place ≡ suc m = omega (arith, less) in
    ap (λ (k : ℕ). closes_from (place + 1) k files) n ∙ ap (λ (k : ℕ). shuts_file (place + 1) files then λ _. closes_from k m) (sym (add-one (place + 1)))

pub use_beside : (buffers : List (List ℕ)) (c block : ℕ) (writing : Bool) (files : Files) → beside buffers (with_use c block writing files) ≡ with_use c block writing (beside buffers files)
use_beside buffers c block true files = refl
use_beside buffers c block false files = refl
