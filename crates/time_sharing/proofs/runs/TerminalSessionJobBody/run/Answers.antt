use Rattle.std.proofs.Common.{ℕ, List, subst, sym}
use Rattle.session_model.specs.Talk.{IsTalkOf}
use Rattle.time_sharing.proofs.runs.TerminalSessionJobBody.run.Goals as goal

pub returns : goal.returns
returns g c =
    let talk = c.in_ok-screen.ensures.talk in
    let shown = subst (λ (screen : List ℕ). IsTalkOf talk.0 screen) (sym c.close.ensures) talk.2 in
    (talk.0, talk.1, shown)
