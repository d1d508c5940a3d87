use Rattle.std.proofs.Common.{◌∙◌, ap}
use Rattle.std.specs.List.{list_any}
use Rattle.cpp_tree.specs.cpp_types.Typ.{shape_form}
use Rattle.cpp_tree.specs.cpp_types.Class.{classes_of}
use Rattle.cpp_tree.specs.cpp_types.Conversion.{chain}
use Rattle.src_frames.specs.Texts.{is_spelled}
use Rattle.src_frames.proofs.Caught.{catches_own, catches_none, catches_base}
use Rattle.symbolic_leaving.proofs.texts.catches_type.Goals as goal

pub returns-then-is_name : goal.returns-then-is_name
returns-then-is_name c = catches_own (classes_of c.args.classes.now) (shape_form c.args.ty.now.shape) (shape_form c.args.thrown.now.shape) c.as_slice-words.result.now c.as_slice-others.result.now (c.as_slice-words.ensures.value ∙ c.in_ok-text.ensures) (c.as_slice-others.ensures.value ∙ c.in_ok-own.ensures) c.if-is_name.ensures

pub returns-in_default : goal.returns-in_default
returns-in_default c = catches_none (classes_of c.args.classes.now) (shape_form c.args.ty.now.shape) (shape_form c.args.thrown.now.shape) c.as_slice-words.result.now c.as_slice-others.result.now (c.as_slice-words.ensures.value ∙ c.in_ok-text.ensures) (c.as_slice-others.ensures.value ∙ c.in_ok-own.ensures) c.if-is_name.ensures c.in_default.ensures

pub returns : goal.returns
returns c = catches_base (classes_of c.args.classes.now) (shape_form c.args.ty.now.shape) (shape_form c.args.thrown.now.shape) c.as_slice-words.result.now c.as_slice-others.result.now c.in-Some.class c.in_ok-found.found (c.as_slice-words.ensures.value ∙ c.in_ok-text.ensures) (c.as_slice-others.ensures.value ∙ c.in_ok-own.ensures) c.if-is_name.ensures c.in-Some.ensures (c.in_ok-found.ensures ∙ ap (λ z. list_any (is_spelled (classes_of c.args.classes.now) c.as_slice-words.result.now) (chain z (classes_of c.args.classes.now) c.in-Some.class)) c.completion-most.ensures)
