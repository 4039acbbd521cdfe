-- Files with the content that they have so far.
use Rattle.std.proofs.Common.{◌≡◌, ℕ, ◌+◌, ◌-◌, ◌≤◌, false, cond, List, [], ◌∷◌, ◌++◌, length, take, replicate, Option, Some, None, Err, refl, ap, ◌∙◌, append_assoc, arith}
use Rattle.std.specs.Prelude.{◌/◌}
use Rattle.std.proofs.lemmas.List.{length-append, length-replicate, take_all}
use Rattle.deck_model.specs.declared.faults.DeckCause.TheVariants as cause
use Rattle.deck_model.specs.Files.{File, block_of}
use Rattle.deck_model.specs.Hex.{hex_bytes}
use Rattle.deck_model.specs.Deck.{Deck}
use Rattle.deck_model.specs.Forms.{FileTexts}
use Rattle.deck_model.specs.Fronts.{Front, InFile, new_file, with_block, with_text}
use Rattle.deck_model.specs.declared.versions.Version.{Version}
use Rattle.deck_model.specs.Refusals.{is_file_in_range, first_cause, filing_causes, file_causes}
use Rattle.deck_model.specs.Reading.{unless_refused}
use Rattle.basic_values.proofs.CutLaws.{guard_some}
use Rattle.basic_values.proofs.PlaceLemmas.{missed}

-- a vector after it was made longer
pub resized : (text : List ℕ) (count n : ℕ) → count ≡ length text → length text ≤ n → take n text ++ replicate (n - count) 0 ≡ text ++ replicate (n - length text) 0
resized text count n counted fits =
    ap (λ (l : List ℕ). l ++ replicate (n - count) 0) (take_all n text fits) ∙ ap (λ (k : ℕ). text ++ replicate (n - k) 0) counted

-- two digits are one byte
pub length-hex : (digits : List ℕ) → length (hex_bytes digits) ≡ length digits / 2
unfolding hex_bytes
length-hex [] = refl
length-hex (h ∷ []) = refl
length-hex (h ∷ l ∷ digits) = let more = length-hex digits in omega (arith, more)

pub text_bytes : (file : File) (text : List ℕ) → length (with_text file text).content ≡ length file.content + (length text + 2)
text_bytes file text = omega (arith, length-append file.content (text ++ 13 ∷ 10 ∷ []), length-append text (13 ∷ 10 ∷ []))

pub block_bytes : (bytes : List ℕ) → length bytes ≤ 512 → length (block_of bytes) ≡ 512
block_bytes bytes few = omega (arith, few, length-append bytes (replicate (512 - length bytes) 0), length-replicate {A = ℕ} (512 - length bytes) 0)

pub more_bytes : (file : File) (bytes : List ℕ) → length bytes ≤ 512 → length (with_block file bytes).content ≡ length file.content + 512
more_bytes file bytes few = omega (arith, length-append file.content (block_of bytes), block_bytes bytes few)

-- one more block
pub block_put : (done bytes next all : List ℕ) (count whole : ℕ) → length bytes ≤ 512 → next ≡ done ++ bytes → count ≡ length next → whole ≡ length done + 512 → all ≡ take whole next ++ replicate (whole - count) 0 → all ≡ done ++ block_of bytes
block_put done bytes next all count whole few is counted so filled =
    let long : length next ≡ length done + length bytes = ap length is ∙ length-append done bytes in
    let fits : length next ≤ whole = omega (arith, long, few, so) in
    let left : whole - count ≡ 512 - length bytes = omega (arith, counted, long, so) in
    filled
    ∙ (λ i. take_all whole next fits i ++ replicate (left i) 0)
    ∙ ap (λ (l : List ℕ). l ++ replicate (512 - length bytes) 0) is
    ∙ append_assoc done bytes (replicate (512 - length bytes) 0)

-- ---- the causes of a file

abbrev found_file : Version → FileTexts → Option File
found_file version texts = cond (is_file_in_range version texts) (Some (new_file texts)) None

pub out_of_range : (version : Version) (deck : Deck) (texts : FileTexts) (front : Front) → found_file version texts ≡ None → unless_refused front (first_cause (file_causes version deck texts)) ≡ Err cause.Range
out_of_range version deck texts front none =
    let no : is_file_in_range version texts ≡ false = (missed (is_file_in_range version texts) (new_file texts) (new_file texts) none).0 in
    rw no refl

pub in_range : (version : Version) (deck : Deck) (texts : FileTexts) (file : File) → found_file version texts ≡ Some file → unless_refused (InFile version deck (new_file texts)) (first_cause (file_causes version deck texts)) ≡ unless_refused (InFile version deck file) (first_cause (filing_causes deck file))
in_range version deck texts file found =
    let g = guard_some (is_file_in_range version texts) (new_file texts) file found in
    rw g.0 (ap (λ (f : File). unless_refused (InFile version deck f) (first_cause (filing_causes deck f))) g.1)
