use Rattle.std.proofs.Common.{◌∙◌, map, sym}
use Rattle.cpp_tree.specs.Units.{definition_of}
use Rattle.unit_entries.proofs.Steps.{inline_is}
use Rattle.unit_entries.proofs.functions.inline_text.Goals as goal

pub returns-then-is_inline : goal.returns-then-is_inline
returns-then-is_inline c = λ trees. inline_is
    (map definition_of c.args.defs.now) trees c.args.func.now c.in-Some.field-0 c.definition_text.result.now c.in-Some.is
    (sym c.if-is_inline.true ∙ c.is_inline.ensures) (c.definition_text.ensures trees)
