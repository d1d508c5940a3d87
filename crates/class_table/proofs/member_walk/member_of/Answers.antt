use Rattle.std.proofs.Common.{◌≡◌, ◌∙◌, rules, refl, sym, ap, subst, map, drop, length, List, Option, Some, None, Ok, Err, true, false, not, option_map, ◌∷◌}
use Rattle.std.proofs.Common.{◌+◌}
use Rattle.elab_expr.specs.cpp_lex.Tokens.{lexemes_of}
use Rattle.elab_expr.specs.cpp_types.Typ.{Typ, typ_of}
use Rattle.elab_expr.specs.elab_ctx.Ctx.{ctx_of, work_of}
use Rattle.elab_expr.specs.elab_ctx.Says.{Faults}
use Rattle.elab_expr.specs.elab_ctx.Steps.{and_then, check, each_of, at_of}
use Rattle.elab_expr.specs.elab_types.Syntax.{syntax_of, tree_at, trees_at}
use Rattle.class_members.specs.Shown.{home_of, reading, storage_of, header_of, marks_of, definition_of}
use Rattle.class_table.proofs.Walking.{refused, answers_same, faults_then}
use Rattle.elab_expr.specs.cpp_tree.declared.program.FuncKind.TheVariants.{Plain, Constructor, Destructor}
use Rattle.elab_expr.specs.elab_rules.Functions.{no_storage}
use Rattle.elab_expr.specs.elab_rules.Classes.{member_of, member_declaration, started_from, declared_method}
use Rattle.class_table.specs.Written.{defined_method}
use Rattle.class_table.proofs.Walking.{declaration_member, constructor_member, destructor_member, function_defined, constructor_defined, destructor_defined}
use Rattle.elab_expr.specs.cpp_ast.Orders.{are_below}
use Rattle.elab_expr.proofs.elab_types.KidLists.{wider}
use Rattle.elab_expr.specs.cpp_ast.declared.arena.NodeId.{NodeId}
use Rattle.class_table.proofs.member_walk.member_of.Goals as goal

pub member_declaration-requires : goal.member_declaration-requires
member_declaration-requires c = subst (λ (z : List NodeId). are_below (length c.args.nodes.now) z ≡ true) (sym c.as_slice-kids.ensures.value)
    (wider c.args.id.0 (length c.args.nodes.now) c.node_at-node.result.now.kids.items c.requires c.node_at-node.ensures.lower)

pub defined_method-requires : goal.defined_method-requires
defined_method-requires c = subst (λ (z : List NodeId). are_below (length c.args.nodes.now) z ≡ true) (sym c.as_slice-kids.ensures.value)
    (wider c.args.id.0 (length c.args.nodes.now) c.node_at-node.result.now.kids.items c.requires c.node_at-node.ensures.lower)

pub declared_method-requires : goal.declared_method-requires
declared_method-requires c = subst (λ (z : List NodeId). are_below (length c.args.nodes.now) z ≡ true) (sym c.as_slice-kids.ensures.value)
    (wider c.args.id.0 (length c.args.nodes.now) c.node_at-node.result.now.kids.items c.requires c.node_at-node.ensures.lower)

pub defined_method-requires-in-ConstructorDefinition : goal.defined_method-requires-in-ConstructorDefinition
defined_method-requires-in-ConstructorDefinition c = subst (λ (z : List NodeId). are_below (length c.args.nodes.now) z ≡ true)
    (sym c.as_slice-kids.ensures.value) (wider c.args.id.0
    (length c.args.nodes.now) c.node_at-node.result.now.kids.items c.requires c.node_at-node.ensures.lower)

pub declared_method-requires-in-DestructorDeclaration : goal.declared_method-requires-in-DestructorDeclaration
declared_method-requires-in-DestructorDeclaration c =
    subst (λ (z : List NodeId). are_below (length c.args.nodes.now) z ≡ true) (sym c.as_slice-kids.ensures.value)
    (wider c.args.id.0 (length c.args.nodes.now) c.node_at-node.result.now.kids.items c.requires c.node_at-node.ensures.lower)

pub defined_method-requires-in-DestructorDefinition : goal.defined_method-requires-in-DestructorDefinition
defined_method-requires-in-DestructorDefinition c = subst (λ (z : List NodeId). are_below (length c.args.nodes.now) z ≡ true)
    (sym c.as_slice-kids.ensures.value) (wider c.args.id.0
    (length c.args.nodes.now) c.node_at-node.result.now.kids.items c.requires c.node_at-node.ensures.lower)

pub returns-in-MemberDeclaration-clause-members : goal.returns-in-MemberDeclaration-clause-members
returns-in-MemberDeclaration-clause-members c bodies =
    answers_same (reading (ctx_of c.member_declaration.new.env) (work_of c.args.work.now) bodies c.member_declaration.new.members) c.member_declaration.result
    (member_declaration (lexemes_of c.args.tokens.now) (home_of c.args.home.now)
    (reading (ctx_of c.args.env.now) (work_of c.args.work.now) bodies c.args.members.now) c.place-at.result
    (started_from (lexemes_of c.args.tokens.now) no_storage (trees_at (syntax_of c.args.nodes.now) c.as_slice-kids.result.now)))
    (member_of (lexemes_of c.args.tokens.now) (home_of c.args.home.now)
    (reading (ctx_of c.args.env.now) (work_of c.args.work.now) bodies c.args.members.now) (tree_at (syntax_of c.args.nodes.now) c.args.id))
    (declaration_member (lexemes_of c.args.tokens.now) (home_of c.args.home.now)
    (reading (ctx_of c.args.env.now) (work_of c.args.work.now) bodies c.args.members.now) (tree_at (syntax_of c.args.nodes.now) c.args.id)
    (syntax_of c.args.nodes.now) c.node_at-node.result.now.kind c.node_at-node.result.now.at c.node_at-node.result.now.token
    c.node_at-node.result.now.kids.items c.as_slice-kids.result.now c.place-at.result c.node_at-node.ensures.node c.place-at.ensures
    c.as_slice-kids.ensures.value c.in-MemberDeclaration.is) (c.member_declaration.ensures.members bodies)

pub returns-in-FunctionDefinition-clause-members : goal.returns-in-FunctionDefinition-clause-members
returns-in-FunctionDefinition-clause-members c bodies =
    answers_same (reading (ctx_of c.defined_method.new.env) (work_of c.args.work.now) bodies c.args.members.now) c.defined_method.result
    (defined_method (lexemes_of c.args.tokens.now) (home_of c.args.home.now)
    (reading (ctx_of c.args.env.now) (work_of c.args.work.now) bodies c.args.members.now) Plain c.place-at.result c.node_at-node.result.now.token
    (trees_at (syntax_of c.args.nodes.now) c.as_slice-kids.result.now))
    (member_of (lexemes_of c.args.tokens.now) (home_of c.args.home.now)
    (reading (ctx_of c.args.env.now) (work_of c.args.work.now) bodies c.args.members.now) (tree_at (syntax_of c.args.nodes.now) c.args.id))
    (function_defined (lexemes_of c.args.tokens.now) (home_of c.args.home.now)
    (reading (ctx_of c.args.env.now) (work_of c.args.work.now) bodies c.args.members.now) (tree_at (syntax_of c.args.nodes.now) c.args.id)
    (syntax_of c.args.nodes.now) c.node_at-node.result.now.kind c.node_at-node.result.now.at c.node_at-node.result.now.token
    c.node_at-node.result.now.kids.items c.as_slice-kids.result.now c.place-at.result c.node_at-node.ensures.node c.place-at.ensures
    c.as_slice-kids.ensures.value c.in-FunctionDefinition.is) (c.defined_method.ensures.members bodies)

pub returns-in-ConstructorDeclaration-clause-members : goal.returns-in-ConstructorDeclaration-clause-members
returns-in-ConstructorDeclaration-clause-members c bodies =
    answers_same (reading (ctx_of c.declared_method.new.env) (work_of c.args.work.now) bodies c.args.members.now) c.declared_method.result
    (declared_method (lexemes_of c.args.tokens.now) (home_of c.args.home.now)
    (reading (ctx_of c.args.env.now) (work_of c.args.work.now) bodies c.args.members.now) Constructor c.place-at.result None
    (trees_at (syntax_of c.args.nodes.now) c.as_slice-kids.result.now))
    (member_of (lexemes_of c.args.tokens.now) (home_of c.args.home.now)
    (reading (ctx_of c.args.env.now) (work_of c.args.work.now) bodies c.args.members.now) (tree_at (syntax_of c.args.nodes.now) c.args.id))
    (constructor_member (lexemes_of c.args.tokens.now) (home_of c.args.home.now)
    (reading (ctx_of c.args.env.now) (work_of c.args.work.now) bodies c.args.members.now) (tree_at (syntax_of c.args.nodes.now) c.args.id)
    (syntax_of c.args.nodes.now) c.node_at-node.result.now.kind c.node_at-node.result.now.at c.node_at-node.result.now.token
    c.node_at-node.result.now.kids.items c.as_slice-kids.result.now c.place-at.result c.node_at-node.ensures.node c.place-at.ensures
    c.as_slice-kids.ensures.value c.in-ConstructorDeclaration.is) (c.declared_method.ensures.members bodies)

pub returns-in-ConstructorDefinition-clause-members : goal.returns-in-ConstructorDefinition-clause-members
returns-in-ConstructorDefinition-clause-members c bodies =
    answers_same (reading (ctx_of c.defined_method-in-ConstructorDefinition.new.env)
    (work_of c.args.work.now) bodies c.args.members.now) c.defined_method-in-ConstructorDefinition.result
    (defined_method (lexemes_of c.args.tokens.now) (home_of c.args.home.now)
    (reading (ctx_of c.args.env.now) (work_of c.args.work.now) bodies c.args.members.now) Constructor c.place-at.result c.node_at-node.result.now.token
    (trees_at (syntax_of c.args.nodes.now) c.as_slice-kids.result.now))
    (member_of (lexemes_of c.args.tokens.now) (home_of c.args.home.now)
    (reading (ctx_of c.args.env.now) (work_of c.args.work.now) bodies c.args.members.now) (tree_at (syntax_of c.args.nodes.now) c.args.id))
    (constructor_defined (lexemes_of c.args.tokens.now) (home_of c.args.home.now)
    (reading (ctx_of c.args.env.now) (work_of c.args.work.now) bodies c.args.members.now) (tree_at (syntax_of c.args.nodes.now) c.args.id)
    (syntax_of c.args.nodes.now) c.node_at-node.result.now.kind c.node_at-node.result.now.at c.node_at-node.result.now.token
    c.node_at-node.result.now.kids.items c.as_slice-kids.result.now c.place-at.result c.node_at-node.ensures.node c.place-at.ensures
    c.as_slice-kids.ensures.value c.in-ConstructorDefinition.is) (c.defined_method-in-ConstructorDefinition.ensures.members bodies)

pub returns-in-DestructorDeclaration-clause-members : goal.returns-in-DestructorDeclaration-clause-members
returns-in-DestructorDeclaration-clause-members c bodies =
    answers_same (reading (ctx_of c.declared_method-in-DestructorDeclaration.new.env)
    (work_of c.args.work.now) bodies c.args.members.now) c.declared_method-in-DestructorDeclaration.result
    (declared_method (lexemes_of c.args.tokens.now) (home_of c.args.home.now)
    (reading (ctx_of c.args.env.now) (work_of c.args.work.now) bodies c.args.members.now) Destructor c.place-at.result None
    (trees_at (syntax_of c.args.nodes.now) c.as_slice-kids.result.now))
    (member_of (lexemes_of c.args.tokens.now) (home_of c.args.home.now)
    (reading (ctx_of c.args.env.now) (work_of c.args.work.now) bodies c.args.members.now) (tree_at (syntax_of c.args.nodes.now) c.args.id))
    (destructor_member (lexemes_of c.args.tokens.now) (home_of c.args.home.now)
    (reading (ctx_of c.args.env.now) (work_of c.args.work.now) bodies c.args.members.now) (tree_at (syntax_of c.args.nodes.now) c.args.id)
    (syntax_of c.args.nodes.now) c.node_at-node.result.now.kind c.node_at-node.result.now.at c.node_at-node.result.now.token
    c.node_at-node.result.now.kids.items c.as_slice-kids.result.now c.place-at.result c.node_at-node.ensures.node c.place-at.ensures
    c.as_slice-kids.ensures.value c.in-DestructorDeclaration.is) (c.declared_method-in-DestructorDeclaration.ensures.members bodies)

pub returns-in-DestructorDefinition-clause-members : goal.returns-in-DestructorDefinition-clause-members
returns-in-DestructorDefinition-clause-members c bodies =
    answers_same (reading (ctx_of c.defined_method-in-DestructorDefinition.new.env)
    (work_of c.args.work.now) bodies c.args.members.now) c.defined_method-in-DestructorDefinition.result
    (defined_method (lexemes_of c.args.tokens.now) (home_of c.args.home.now)
    (reading (ctx_of c.args.env.now) (work_of c.args.work.now) bodies c.args.members.now) Destructor c.place-at.result c.node_at-node.result.now.token
    (trees_at (syntax_of c.args.nodes.now) c.as_slice-kids.result.now))
    (member_of (lexemes_of c.args.tokens.now) (home_of c.args.home.now)
    (reading (ctx_of c.args.env.now) (work_of c.args.work.now) bodies c.args.members.now) (tree_at (syntax_of c.args.nodes.now) c.args.id))
    (destructor_defined (lexemes_of c.args.tokens.now) (home_of c.args.home.now)
    (reading (ctx_of c.args.env.now) (work_of c.args.work.now) bodies c.args.members.now) (tree_at (syntax_of c.args.nodes.now) c.args.id)
    (syntax_of c.args.nodes.now) c.node_at-node.result.now.kind c.node_at-node.result.now.at c.node_at-node.result.now.token
    c.node_at-node.result.now.kids.items c.as_slice-kids.result.now c.place-at.result c.node_at-node.ensures.node c.place-at.ensures
    c.as_slice-kids.ensures.value c.in-DestructorDefinition.is) (c.defined_method-in-DestructorDefinition.ensures.members bodies)

pub returns-in-AccessLabel-clause-kept : goal.returns-in-AccessLabel-clause-kept
returns-in-AccessLabel-clause-kept c = record { work = refl; nodes = refl }
