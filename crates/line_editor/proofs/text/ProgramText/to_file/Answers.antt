use Rattle.std.proofs.Common.{◌≡◌, ◌∙◌, ℕ, List, Result, Ok, Err, ap, subst}
use Rattle.std.specs.Prelude.{IfOk}
use Rattle.basic_tree.specs.ProgramLines.{Lines, listing}
use Rattle.line_editor.specs.Lines.{IsProgram}
use Rattle.line_editor.specs.Files.{IsPaged}
use Rattle.line_editor.proofs.FileLemmas.{read_again, within_all}
use Rattle.line_editor.proofs.text.ProgramText.to_file.Goals as goal

ok_map : {T E : Type 0} {P Q : T → Type 0} (r : Result T E) → ((value : T) → P value → Q value) → IfOk r P → IfOk r Q
ok_map (Ok value) f p = f value p
ok_map (Err e) f p = tt

pub returns-clause-pages : goal.returns-clause-pages
returns-clause-pages c =
    let program : IsProgram c.args.self.now = subst (λ (lines : Lines). IsProgram lines) c.self.view_is c.self.invariant.program in
    let bytes : c.list.result.now ≡ listing c.args.self.now = c.list.ensures ∙ ap listing (within_all c.args.self.now program.each) in
    subst (λ (b : List ℕ). IfOk c.pages_of.result (λ pages. IsPaged b pages.items)) bytes c.pages_of.ensures

pub returns-clause-again : goal.returns-clause-again
returns-clause-again c =
    let program : IsProgram c.args.self.now = subst (λ (lines : Lines). IsProgram lines) c.self.view_is c.self.invariant.program in
    ok_map c.pages_of.result (λ pages paged plain. read_again c.args.self.now pages.items program plain paged) (returns-clause-pages c)
