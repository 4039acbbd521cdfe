-- The table of arrays in files, filled from the last array to the first: the first of a name is
-- found.
use Rattle.std.proofs.Common.{◌≡◌, ℕ, suc, ◌-◌, ◌+◌, ◌<◌, ◌≤◌, List, [], ◌∷◌, ◌++◌, length, get_or, drop, drop-cons, cond, Some, sym, ap, ◌∙◌, append_assoc, arith}
use Rattle.std.specs.Prelude.{find}
use Rattle.std.specs.BTreeMap.{insert_entry}
use Rattle.std.specs.Map.{lookup}
use Rattle.std.proofs.lemmas.List.{drop_more}
use Rattle.basic_tree.specs.declared.names.Name.{Name}
use Rattle.basic_tree.specs.declared.parts.FileShape.{FileShape}
use Rattle.job_memory.specs.Names.{name_cmp, at_name}
use Rattle.job_memory.proofs.EntryLemmas.{lookup-insert_entry}
use Rattle.job_memory.proofs.NameLemmas.{name_total}
use Rattle.program_model.specs.FileArrays.{array_from, end_of, arrays_from}
use Rattle.virtual_arrays.specs.declared.places.VirtualShape.{VirtualShape}

drop_before : (arrays : List VirtualShape) (n : ℕ) (a : VirtualShape) → a ≡ get_or arrays (n - 1) a → 0 < n → n ≤ length arrays → drop (n - 1) arrays ≡ a ∷ drop n arrays
drop_before arrays n a e low high =
    let same : suc (n - 1) ≡ n = omega arith in
    drop-cons arrays (n - 1) a (omega arith) ∙ ap (λ b. b ∷ drop (suc (n - 1)) arrays) (sym e) ∙ ap (λ k. a ∷ drop k arrays) same

pub found_before : (arrays : List VirtualShape) (n : ℕ) (a : VirtualShape) (entries new : List (Name × VirtualShape)) → a ≡ get_or arrays (n - 1) a → 0 < n → n ≤ length arrays
    → new ≡ insert_entry name_cmp entries a.name a → ((x : Name) → lookup (at_name x) entries ≡ find (λ array. at_name x array.name) (drop n arrays))
    → (x : Name) → lookup (at_name x) new ≡ find (λ array. at_name x array.name) (drop (n - 1) arrays)
found_before arrays n a entries new e low high is before x =
    ap (lookup (at_name x)) is ∙ lookup-insert_entry name_total x a.name a entries ∙ ap (cond (at_name x a.name) (Some a)) (before x)
    ∙ sym (ap (find (λ (array : VirtualShape). at_name x array.name)) (drop_before arrays n a e low high))

-- an array that is added begins where the one before it ends
pub shape_added : (channel behind next : ℕ) (shapes : List FileShape) (i : ℕ) (d : FileShape) (array : VirtualShape) (old new whole : List VirtualShape)
    → i < length shapes → array ≡ array_from channel behind (get_or shapes i d) → next ≡ end_of array → new ≡ old ++ array ∷ []
    → old ++ arrays_from channel behind (drop i shapes) ≡ whole → new ++ arrays_from channel next (drop (i + 1) shapes) ≡ whole
shape_added channel behind next shapes i d array old new whole below is ends more so_far =
    ap (λ (l : List VirtualShape). l ++ arrays_from channel next (drop (i + 1) shapes)) more ∙ append_assoc old (array ∷ []) (arrays_from channel next (drop (i + 1) shapes))
    ∙ ap (λ n. old ++ array ∷ arrays_from channel n (drop (i + 1) shapes)) ends
    ∙ ap (λ (a : VirtualShape). old ++ a ∷ arrays_from channel (end_of a) (drop (i + 1) shapes)) is
    ∙ sym (ap (λ (l : List FileShape). old ++ arrays_from channel behind l) (drop_more shapes i d below)) ∙ so_far
