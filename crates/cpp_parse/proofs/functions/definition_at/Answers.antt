use Rattle.cpp_parse.proofs.DefinitionKinds.{definition_by}
use Rattle.cpp_parse.proofs.functions.definition_at.Goals as goal

pub returns : goal.returns
returns c =
    definition_by c.args.text.now c.args.at _ _ c.named_definition.result c.attribute_end-behind.ensures c.inline_end-named.ensures
    c.named_definition.ensures
