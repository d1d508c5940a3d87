use Rattle.std.proofs.Common.{◌∙◌, ◌++◌, ◌+◌, List, map, drop, get_or, ap, sym, append_assoc, append-nil}
use Rattle.elab_entry.specs.cpp_lex.Tokens.{lexemes_of}
use Rattle.elab_entry.specs.cpp_ast.Trees.{Trees}
use Rattle.elab_entry.specs.cpp_tree.Units.{Definition, definition_of}
use Rattle.elab_entry.specs.elab_ctx.Ctx.{Ctx}
use Rattle.elab_entry.specs.elab_ctx.Types.{named_of}
use Rattle.elab_entry.specs.elab_rules.Programs.{definition_in, definitions_in}
use Rattle.elab_entry.specs.elab_types.Syntax.{syntax_of, tree_at, trees_at}
use Rattle.elab_units.proofs.KidSteps.{trees_step, trees_past}
use Rattle.elab_units.proofs.shown.definitions_in.Goals as goal

pub loop-id-preserved : goal.loop-id-preserved
loop-id-preserved c x =
    let s = lexemes_of c.args.tokens.now in
    let d : Ctx = record x { types = map named_of c.args.types.now } in
    let trees = syntax_of c.args.nodes.now in
    let at = c.loop-id in
    let before : List Definition = map definition_of at.list.items in
    ap (λ (z : List Definition). z ++ definitions_in s d (trees_at trees (drop (at.id-index + 1) c.args.ids.now))) (c.in_ok-keep_definition.ensures x)
    ∙ append_assoc before (definition_in s d (tree_at trees (get_or c.args.ids.now at.id-index (record { 0 = 0 }))))
    (definitions_in s d (trees_at trees (drop (at.id-index + 1) c.args.ids.now)))
    ∙ ap (λ (z : Trees). before ++ definitions_in s d z) (sym (trees_step trees c.args.ids.now at.id-index (record { 0 = 0 }) c.loop-id-test.true))
    ∙ at.invariant x

pub returns : goal.returns
returns c x =
    let s = lexemes_of c.args.tokens.now in
    let d : Ctx = record x { types = map named_of c.args.types.now } in
    let trees = syntax_of c.args.nodes.now in
    let at = c.loop-id in
    let before : List Definition = map definition_of at.list.items in
    sym (append-nil before) ∙ ap (λ (z : Trees). before ++ definitions_in s d z) (sym (trees_past trees c.args.ids.now at.id-index c.loop-id-test.false))
    ∙ at.invariant x
