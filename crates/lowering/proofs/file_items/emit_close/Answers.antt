use Rattle.std.proofs.Common.{List, [], ◌∷◌, map, refl, sym, ap, ◌∙◌, arith}
use Rattle.basic_tree.specs.declared.parts.CloseChannel.{CloseChannel}
use Rattle.basic_tree.specs.TreeViews.{tree_of, close_channel_of}
use Rattle.polish_code.specs.Code.{file_pieces, close_pieces}
use Rattle.program_model.specs.declared.file_acts.FileAct.TheVariants as file
use Rattle.lowering.specs.Emission.{with_pieces}
use Rattle.lowering.proofs.Steps.{back_step}
use Rattle.lowering.proofs.file_items.emit_close.Goals as goal

pub loop-place-preserved : goal.loop-place-preserved
loop-place-preserved g c =
    let program = g.L.Lookups.program c.args.tables.now in
    let here = c.in_ok-emit_with_one.ensures ∙ ap (λ (d : CloseChannel). with_pieces g.K.Sink.with program (file_pieces file.Close (tree_of d.number ∷ []) []) c.loop-place.code) (sym c.index-channels-place.is) in
    back_step (λ (cs : List CloseChannel). with_pieces g.K.Sink.with program (close_pieces (map close_channel_of cs)) c.args.code.now) (λ d is. with_pieces g.K.Sink.with program (file_pieces file.Close (tree_of d.number ∷ []) []) is) (λ d cs. refl) c.args.channels.now c.loop-place.place _ _ _ c.index-channels-place.is (omega arith) (omega arith) c.loop-place.invariant here
