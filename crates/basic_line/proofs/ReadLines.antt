-- What reading the bytes of a line returns, given what its tokens are.
use Rattle.std.proofs.Common.{◌≡◌, ◌⊎◌, ℕ, List, Result, Ok, Err, IfErr, inl, inr, refl, sym, ap, subst}
use Rattle.basic_values.specs.declared.failures.Trouble.{Trouble}
use Rattle.basic_values.specs.declared.failures.Trouble.TheVariants.{Refused, NoMemory}
use Rattle.basic_tree.specs.declared.programs.Line.{Line}
use Rattle.basic_tree.specs.declared.tokens.Refusal.{Refusal}
use Rattle.basic_tree.specs.Tokens.{Lexeme, Reading, tokens_of}
use Rattle.basic_tree.specs.Trees.{LineTree}
use Rattle.basic_tree.specs.LineVerdicts.{SpelledBy, Spells, RefusedBy, Refuses}
use Rattle.grammar_machine.proofs.OneAnswer.{one_bytes_answer}
use Rattle.basic_line.specs.Parsing.{Parses, Reads}

-- the answer for the tokens is the answer for the bytes
pub parsed_reads : (bytes : List ℕ) (tokens : List Lexeme) (r : Result Line (Trouble Refusal)) → tokens_of bytes ≡ Ok tokens → Parses tokens r → Reads bytes r
parsed_reads bytes tokens (Ok line) e h = (h.0, subst (λ (x : Reading). SpelledBy x h.0) (sym e) h.1, h.2)
parsed_reads bytes tokens (Err (Refused refusal)) e h = subst (λ (x : Reading). RefusedBy x refusal) (sym e) h
parsed_reads bytes tokens (Err NoMemory) e h = tt

pub refused_reads : (bytes : List ℕ) (refusal : Refusal) → tokens_of bytes ≡ Err refusal → Reads bytes (Err (Refused refusal))
refused_reads bytes refusal e = subst (λ (x : Reading). RefusedBy x refusal) (sym e) refl

-- bytes that spell a line are read, and all others are rejected as the grammar says
pub reads_must_read : (bytes : List ℕ) (r : Result Line (Trouble Refusal)) → Reads bytes r → (l : LineTree) → Spells bytes l → IfErr r (λ e. e ≡ NoMemory)
reads_must_read bytes (Ok line) h l s = tt
reads_must_read bytes (Err (Refused refusal)) h l s = absurd (one_bytes_answer.apart bytes l refusal s h)
reads_must_read bytes (Err NoMemory) h l s = refl

pub reads_must_refuse : (bytes : List ℕ) (r : Result Line (Trouble Refusal)) → Reads bytes r → (refusal : Refusal) → Refuses bytes refusal → (r ≡ Err (Refused refusal)) ⊎ (r ≡ Err NoMemory)
reads_must_refuse bytes (Ok line) h refusal s = absurd (one_bytes_answer.apart bytes h.0 refusal h.1 s)
reads_must_refuse bytes (Err (Refused other)) h refusal s = inl (ap (λ (x : Refusal). Err (Refused x)) (one_bytes_answer.refused bytes other refusal h s))
reads_must_refuse bytes (Err NoMemory) h refusal s = inr refl

pub ruleset reads = (parsed_reads, refused_reads, reads_must_read, reads_must_refuse)
