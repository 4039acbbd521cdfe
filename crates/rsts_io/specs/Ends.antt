-- What a source and a sink report of themselves, and what each of their answers changes.
use Rattle.std.specs.Prelude.{◌≡◌, ℕ, ◌+◌, ◌-◌, ◌^◌, ◌≤◌, min, List, [], ◌++◌, length, take, Option, Some, None, IfSome}
use Rattle.std.specs.Option.{option_map}
use Rattle.rsts_io.specs.declared.source.Took.{Took}
use Rattle.rsts_io.specs.declared.source.Took.TheVariants as took
use Rattle.rsts_io.specs.declared.sink.Gave.{Gave}
use Rattle.rsts_io.specs.declared.sink.Gave.TheVariants as gave

-- the bytes that a source has left, if it reports them; how many were taken; how often it failed
pub record SourceState : Type 0 where
  pub left : Option (List ℕ)
  pub taken : ℕ
  pub faults : ℕ

-- the bytes that a sink was given, if it reports them; how often it failed
pub record SinkState : Type 0 where
  pub given : Option (List ℕ)
  pub faults : ℕ

-- one more, in 64 bits; the largest number stays as it is
abbrev pub raised : ℕ → ℕ
raised count = min (count + 1) (2 ^ 64 - 1)

-- a count of faults rose by one, or is at its largest number, and can rise no more
abbrev pub Rose : ℕ → ℕ → Type 0
Rose before now = now ≡ raised before

-- these bytes were the next of what was left, if that is reported, and are gone from it
abbrev pub AreNext : List ℕ → Option (List ℕ) → Option (List ℕ) → Type 0
AreNext bytes None after = after ≡ None
AreNext bytes (Some left) after = (rest : List ℕ) × (left ≡ bytes ++ rest) × (after ≡ Some rest)

-- nothing is left, if that is reported
abbrev pub IsAtEnd : Option (List ℕ) → Type 0
IsAtEnd left = IfSome left (λ bytes. bytes ≡ [])

-- What a source's answer says of the buffer that it filled, and of the source before and after. The
-- bytes are at the start of the buffer; at its end nothing changes; a failure is counted, and
-- nothing else changes
abbrev pub IsTaken : Took → List ℕ → SourceState → SourceState → Type 0
IsTaken (took.Bytes n) buffer old new =
    (1 ≤ n) × (n ≤ length buffer) × AreNext (take n buffer) old.left new.left
    × (new.taken ≡ old.taken + n) × (new.faults ≡ old.faults)
IsTaken took.End buffer old new =
    IsAtEnd old.left × (new.left ≡ old.left) × (new.taken ≡ old.taken) × (new.faults ≡ old.faults)
IsTaken took.Failed buffer old new =
    (new.left ≡ old.left) × (new.taken ≡ old.taken) × Rose old.faults new.faults

-- these bytes were added to what was given, if that is reported
abbrev pub Appended : List ℕ → Option (List ℕ) → Option (List ℕ) → Type 0
Appended bytes given given' = given' ≡ option_map (λ old. old ++ bytes) given

-- what a sink's answer says of the piece, and of the sink before and after: it has a prefix of the
-- piece; a failure is counted, and nothing else changes
abbrev pub Accepts : Gave → List ℕ → SinkState → SinkState → Type 0
Accepts (gave.Bytes n) piece old new =
    (1 ≤ n) × (n ≤ length piece) × Appended (take n piece) old.given new.given
    × (new.faults ≡ old.faults)
Accepts gave.Failed piece old new = (new.given ≡ old.given) × Rose old.faults new.faults
