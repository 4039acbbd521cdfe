-- The test that the directory makes of names is the test of the definitions.
use Rattle.std.proofs.Common.{◌≡◌, cond, List, [], ◌∷◌, ◌++◌, Some, None, Result, Ok, Err, refl, ◌∙◌}
use Rattle.std.specs.Prelude.{IsOk, OnOk}
use Rattle.std.specs.Map.{lookup, remove_entry, set_value}
use Rattle.indexmap.specs.IndexMap.{IndexMap, insert_entry}
use Rattle.indexmap.proofs.CallerLemmas.{insert_entry-new}
use Rattle.monitor_calls.specs.declared.files.FileName.{FileName}
use Rattle.monitor_calls.specs.FileNames.{same_name}
use Rattle.monitor_calls.proofs.FileNameLemmas.{derived_name, derived_is_same, same_name-turned}
use Rattle.block_files.specs.declared.bodies.FileBody.{FileBody}
use Rattle.block_files.specs.Rows.{Entry, body_at, with_body, without}

key_is_name : (name other : FileName) → derived_name name other ≡ same_name other name
key_is_name name other = derived_is_same name other ∙ same_name-turned name other

pub lookup-key : (name : FileName) (es : List Entry) → lookup (derived_name name) es ≡ body_at es name
lookup-key name [] = refl
lookup-key name (e ∷ es) = (λ i. cond (key_is_name name e.0 i) (Some e.1) (lookup-key name es i))

pub remove_entry-key : (name : FileName) (es : List Entry) → remove_entry (derived_name name) es ≡ without es name
remove_entry-key name [] = refl
remove_entry-key name (e ∷ es) = (λ i. cond (key_is_name name e.0 i) es (e ∷ remove_entry-key name es i))

pub set_value-key : (name : FileName) (body : FileBody) (es : List Entry) → set_value (derived_name name) es body ≡ with_body es name body
set_value-key name body [] = refl
set_value-key name body (e ∷ es) = (λ i. cond (key_is_name name e.0 i) ((e.0, body) ∷ es) (e ∷ set_value-key name body es i))

pub inserted : {S T E : Type 0} (name : FileName) (body : FileBody) (m : IndexMap FileName FileBody S) (new : List Entry) (r : Result T E) → body_at m.entries name ≡ None → IsOk r → OnOk r (new ≡ insert_entry derived_name m.entries name body) → new ≡ m.entries ++ (name, body) ∷ []
inserted name body m new (Ok x) none ok e = e ∙ insert_entry-new derived_name m name body (lookup-key name m.entries ∙ none)
inserted name body m new (Err x) none ok e = absurd (cc)
