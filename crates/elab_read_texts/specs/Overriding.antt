-- Of the members that a text declares, what overrides is a plain function, a constructor or a destructor, each by its name. A constructor that overrides a
-- function of the base has the name of its class, which no plain function has.
use Rattle.std.specs.Prelude.{◌≡◌, true, List, []}
use Rattle.cpp_lex.specs.Tokens.{Lexeme}
use Rattle.cpp_ast.specs.Trees as syntax
use Rattle.elab_rules.specs.cpp_types.Typ.{Typ}
use Rattle.elab_rules.specs.cpp_types.declared.classes.At.{At}
use Rattle.elab_rules.specs.elab_ctx.Ctx.{Ctx, Work}
use Rattle.elab_rules.specs.Types.{Declared}
use Rattle.elab_rules.specs.Expressions.{declared_by}
use Rattle.elab_rules.specs.Statements.{State}
use Rattle.elab_rules.specs.Classes.{Home, Members, members_of}
use Rattle.elab_rules.specs.Members.{members_among}
use Rattle.elab_fits.specs.Standing.{On}
use Rattle.elab_contexts.specs.Overriders.{HasOverridersBy}
use Rattle.elab_read_texts.specs.Names.{is_class_name, is_plain_token, declares_plainly, are_named}

-- Laws

-- what a declarator declares has a name of no type
abbrev pub DeclaratorsNamed : Type 0
DeclaratorsNamed = (s : List Lexeme) (c : Ctx) (w : Work) (at : At) (t : Typ) (d : syntax.Tree) → declares_plainly s d ≡ true
    → On (λ (r : Declared). is_plain_token s r.name ≡ true) (declared_by s c w at t d)

-- members in the order of the text
abbrev pub MembersOverride : Type 0
MembersOverride = (s : List Lexeme) (home : Home) (r : Members) (ts : syntax.Trees) → are_named s ts ≡ true → is_class_name s home.name ≡ true
    → HasOverridersBy (is_class_name s) r.state.ctx.funcs → On (λ (y : Members). HasOverridersBy (is_class_name s) y.state.ctx.funcs) (members_of s home r ts)

-- and those of a class whose name and members are among these trees
abbrev pub ClassMembersOverride : Type 0
ClassMembersOverride = (s : List Lexeme) (home : Home) (st : State) (kids : syntax.Trees) → are_named s kids ≡ true → is_class_name s home.name ≡ true
    → HasOverridersBy (is_class_name s) st.ctx.funcs → On (λ (y : Members). HasOverridersBy (is_class_name s) y.state.ctx.funcs)
    (members_of s home (record { state = st; members = []; initialised = [] }) (members_among kids))
