-- What the laws of elab_fits ask of pointers and references.
use Rattle.std.proofs.Common.{refl, not, ◌&&◌, ◌||◌}
use Rattle.std.proofs.lemmas.Bool.{and_parts}
use Rattle.elab_rules.specs.tx_ints.declared.kinds.BinOp.TheVariants.{Add}
use Rattle.elab_rules.specs.cpp_tree.Trees.{typ_in, cat_of}
use Rattle.elab_rules.specs.Operators as operators
use Rattle.elab_rules.specs.Operators.{value, value_form, pointed}
use Rattle.elab_sound_types.specs.Types.{target, may_refer, is_sound, IsExpression}
use Rattle.elab_sound_types.specs.Laws.{ReferencesLead, IndirectionsLead, SubscriptsLead}
use Rattle.elab_sound_types.proofs.Heads.{targets_law}
use Rattle.elab_sound_types.proofs.Pointers.{pointers_law}
use Rattle.elab_sound_types.proofs.Operators.{value_sound, sum_of}
use Rattle.elab_sound_types.proofs.Zeros.{on_ok}

pub references_law : ReferencesLead
references_law cs way t c v h = let p = and_parts (may_refer way) (not (c || v) && is_sound cs target t) h in (and_parts (not (c || v)) (is_sound cs target t) p.1).1

pub indirections_law : IndirectionsLead
indirections_law cs a h t e = targets_law cs t (pointers_law cs (typ_in (value a)) t (cat_of (value a)) (value_sound cs a h).head e)

pub subscripts_law : SubscriptsLead
subscripts_law cs c at a b h g e t i j = targets_law cs t (pointers_law cs (typ_in e) t (cat_of e)
    (on_ok (IsExpression cs) (operators.sum_of c Add at (pointed (value_form a)) (pointed (value_form b)) a b) e
    (sum_of cs c Add at (pointed (value_form a)) (pointed (value_form b)) a b refl refl h g) i).head j)
