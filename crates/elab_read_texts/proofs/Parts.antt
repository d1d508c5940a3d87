-- The parts of trees that are named well are so too.
use Rattle.std.proofs.Common.{◌≡◌, refl, ℕ, true, List, [], Option, Some}
use Rattle.std.proofs.lemmas.Bool.{and_parts}
use Rattle.cpp_lex.specs.Tokens.{Lexeme}
use Rattle.cpp_ast.specs.declared.arena.At.{At as SyntaxAt}
use Rattle.cpp_ast.specs.declared.kinds.NodeKind.{NodeKind}
use Rattle.cpp_ast.specs.declared.kinds.NodeKind.TheVariants as k
use Rattle.cpp_ast.specs.Trees as syntax
use Rattle.elab_rules.specs.elab_ctx.Steps.{spelling}
use Rattle.elab_rules.specs.Members.{members_among}
use Rattle.elab_read_texts.specs.Names.{is_class_name, is_node_named, is_named, are_named}
use Rattle.elab_read_texts.specs.Overriding.{ClassMembersOverride}
use Rattle.elab_read_texts.proofs.ReadMembers.{members_override}

pub kids_named : (s : List Lexeme) (kind : NodeKind) (p : SyntaxAt) (token : Option ℕ) (kids : syntax.Trees) → is_named s (syntax.node kind p token kids) ≡ true
    → are_named s kids ≡ true
kids_named s kind p token kids h = (and_parts (is_node_named s kind token kids) (are_named s kids) h).1

pub first_named : (s : List Lexeme) (t : syntax.Tree) (ts : syntax.Trees) → are_named s (syntax.more t ts) ≡ true → is_named s t ≡ true
first_named s t ts h = (and_parts (is_named s t) (are_named s ts) h).0

pub rest_named : (s : List Lexeme) (t : syntax.Tree) (ts : syntax.Trees) → are_named s (syntax.more t ts) ≡ true → are_named s ts ≡ true
rest_named s t ts h = (and_parts (is_named s t) (are_named s ts) h).1

-- the name of a class
pub class_is_named : (s : List Lexeme) (p : SyntaxAt) (t : ℕ) (kids : syntax.Trees) → is_named s (syntax.node k.ClassSpecifier p (Some t) kids) ≡ true
    → is_class_name s (spelling s t) ≡ true
class_is_named s p t kids h = (and_parts (is_class_name s (spelling s t)) (are_named s kids) h).0

-- and its members
pub members_among_named : (s : List Lexeme) (ts : syntax.Trees) → are_named s ts ≡ true → are_named s (members_among ts) ≡ true
members_among_named s syntax.none h = refl
members_among_named s (syntax.more (syntax.node k.MemberSpecification p token members) ts) h =
    kids_named s k.MemberSpecification p token members (first_named s (syntax.node k.MemberSpecification p token members) ts h)
members_among_named s (syntax.more t ts) h = members_among_named s ts (rest_named s t ts h)

pub class_members : ClassMembersOverride
class_members s home st kids h n g =
    members_override s home (record { state = st; members = []; initialised = [] }) (members_among kids) (members_among_named s kids h) n g
