-- Trees for elements of arrays in files, by the subscripts themselves.
use Rattle.std.proofs.Common.{◌≡◌, List, Option, ap, ◌∙◌}
use Rattle.std.specs.Prelude.{ℤ}
use Rattle.job_model.specs.Act.{Gives, ◌then◌, on}
use Rattle.program_model.specs.declared.values.Value.{Value}
use Rattle.program_model.specs.Elements.{value_of_element, as_element, read_act, write_act}
use Rattle.program_model.specs.Functions.{number_at}
use Rattle.program_model.specs.Storage.{Storage, StorageAct, in_files}
use Rattle.program_model.specs.Variables.{second}
use Rattle.virtual_arrays.specs.declared.places.VirtualShape.{VirtualShape}
use Rattle.virtual_arrays.specs.declared.elements.Element.{Element}
use Rattle.virtual_arrays.specs.Elements.{reads_element, writes_element}

abbrev pub given : Element → StorageAct Value
given e s = Gives (value_of_element e) s

abbrev pub reads : VirtualShape → ℤ → Option ℤ → StorageAct Value
reads array i j s = on in_files (reads_element array i j) s then given

abbrev pub writes : VirtualShape → ℤ → Option ℤ → Value → StorageAct Unit
writes array i j v s = on in_files (writes_element array i j (as_element v)) s

module _ (array : VirtualShape) (subscripts : List Value) (i : ℤ) (j : Option ℤ) (first : number_at 0 subscripts ≡ i) (other : second subscripts ≡ j) where
  pub read_is : {s t : Storage} → s ≡ t → read_act array subscripts s ≡ reads array i j t
  read_is {s} {t} same =
      ap (λ (s : Storage). read_act array subscripts s) same
      ∙ ap (λ (i : ℤ). reads array i (second subscripts) t) first ∙ ap (λ (j : Option ℤ). reads array i j t) other

  pub write_is : {s t : Storage} (v : Value) → s ≡ t → write_act array subscripts v s ≡ writes array i j v t
  write_is {s} {t} v same =
      ap (λ (s : Storage). write_act array subscripts v s) same
      ∙ ap (λ (i : ℤ). writes array i (second subscripts) v t) first ∙ ap (λ (j : Option ℤ). writes array i j v t) other
