use Rattle.statement_modifiers.proofs.modifier_list.+modifiers.Given as goal

abbrev pub decreases-modifiers : goal.decreases-modifiers
decreases-modifiers l = l.levels
