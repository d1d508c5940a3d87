use Rattle.std.proofs.Common.{◌≡◌, ◌∙◌, List, map, ap, sym, refl}
use Rattle.elab_entry.specs.cpp_types.Class.{classes_of}
use Rattle.elab_entry.specs.cpp_lex.Tokens.{lexemes_of}
use Rattle.elab_entry.specs.cpp_tree.Arena.{trees_of}
use Rattle.elab_entry.specs.cpp_tree.Units.{Func as TypedFunc, Definition, global_of, func_of as shown_of, definition_of}
use Rattle.elab_entry.specs.elab_ctx.Ctx.{func_of}
use Rattle.elab_entry.specs.elab_ctx.declared.env.FuncDecl.{FuncDecl}
use Rattle.elab_entry.specs.elab_rules.Programs.{typed_funcs, definitions_in}
use Rattle.elab_entry.specs.elab_types.Syntax.{syntax_of, trees_at}
use Rattle.elab_units.specs.Made.{state_with}
use Rattle.tree_forests.proofs.Forests.{unit_forest}
use Rattle.elab_units.proofs.shown.unit_shown.Goals as goal

pub returns-clause-shown : goal.returns-clause-shown
returns-clause-shown c st =
    let made = c.args.made in
    let s = lexemes_of c.args.tokens.now in
    let decls = trees_at (syntax_of c.args.nodes.now) c.args.ids.now in
    let all = state_with st made (classes_of c.args.classes.now) in
    let globals = map global_of made.globals.items in
    let funcs : map (shown_of (trees_of c.in_ok-joined.joined.nodes.items)) c.in_ok-funcs.funcs.items ≡ typed_funcs all 0 (map func_of made.funcs) =
    c.in_ok-funcs.ensures.shown (trees_of c.in_ok-joined.joined.nodes.items) all refl (sym c.in_ok-joined.ensures.bodies)
    ∙ ap (λ (z : List FuncDecl). typed_funcs all 0 (map func_of z)) c.into_list.ensures in
    let classes : map definition_of c.in_ok-defined.defined.items ≡ definitions_in s all.ctx decls = c.in_ok-defined.ensures all.ctx in
    ap (λ (z : List TypedFunc). record { funcs = z; globals = globals; classes = map definition_of c.in_ok-defined.defined.items }) funcs
    ∙ ap (λ (z : List Definition). record { funcs = typed_funcs all 0 (map func_of made.funcs); globals = globals; classes = z }) classes

pub returns-clause-forest : goal.returns-clause-forest
returns-clause-forest c = unit_forest _ _ c.in_ok-joined.ensures.forest c.in_ok-funcs.ensures.roots
