use Rattle.std.proofs.Common.{◌≡◌, ◌∙◌, ◌++◌, ℕ, List, Option, None, Some, map, ap, sym, append-nil}
use Rattle.elab_entry.specs.cpp_lex.Tokens.{lexemes_of}
use Rattle.elab_entry.specs.cpp_tree.Units.{Definition, definition_of}
use Rattle.elab_entry.specs.elab_ctx.Types.{named_of}
use Rattle.elab_entry.specs.elab_ctx.Steps.{spelling}
use Rattle.elab_entry.specs.elab_rules.Types.{type_named}
use Rattle.elab_entry.specs.elab_rules.Classes.{class_text}
use Rattle.elab_entry.specs.elab_types.Syntax.{syntax_of, trees_at}
use Rattle.elab_units.specs.Made.{class_called, definition_by}
use Rattle.elab_units.proofs.Bodied.{defined_by, ok_more}
use Rattle.elab_units.proofs.shown.keep_named.Goals as goal

pub returns-in-None : goal.returns-in-None
returns-in-None c =
    let s = lexemes_of c.args.tokens.now in
    let kids = trees_at (syntax_of c.args.nodes.now) c.args.kids.now in
    let named = type_named (spelling s c.args.token) (map named_of c.args.types.now) in
    let none : class_called named ≡ None = ap (λ (z : List ℕ). class_called (type_named z (map named_of c.args.types.now))) (sym c.spelling.ensures)
    ∙ sym c.class_named.ensures ∙ c.in-None.is in
    sym (append-nil (map definition_of c.args.list.now.items))
    ∙ ap (λ (z : List Definition). map definition_of c.args.list.now.items ++ z)
    (sym (defined_by s named kids ∙ ap (λ (z : Option ℕ). definition_by z (class_text s kids)) none))

pub returns-in_ok-text-in-Some : goal.returns-in_ok-text-in-Some
returns-in_ok-text-in-Some c =
    let s = lexemes_of c.args.tokens.now in
    let kids = trees_at (syntax_of c.args.nodes.now) c.args.kids.now in
    let named = type_named (spelling s c.args.token) (map named_of c.args.types.now) in
    let found : class_called named ≡ Some c.in-Some.class =
    ap (λ (z : List ℕ). class_called (type_named z (map named_of c.args.types.now))) (sym c.spelling.ensures) ∙ sym c.class_named.ensures ∙ c.in-Some.is in
    ok_more c.keep_class.result _ _ _ c.keep_class.ensures (ap (λ (z : List Definition). map definition_of c.args.list.now.items ++ z)
    (ap (definition_by (Some c.in-Some.class)) c.in_ok-text-in-Some.ensures
    ∙ sym (defined_by s named kids ∙ ap (λ (z : Option ℕ). definition_by z (class_text s kids)) found)))
