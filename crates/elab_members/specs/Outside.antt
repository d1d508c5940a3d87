-- Members that are defined outside their class, step by step.
use Rattle.std.specs.Prelude.{ℕ, List, Option, Some, None, Result, Ok, Err, slice_get}
use Rattle.elab_entry.specs.cpp_types.Typ.{Typ, void}
use Rattle.elab_entry.specs.cpp_types.declared.classes.At.{At}
use Rattle.elab_entry.specs.cpp_lex.Tokens.{Lexeme}
use Rattle.elab_entry.specs.cpp_ast.Trees as syntax
use Rattle.elab_entry.specs.cpp_tree.Notation.{plain}
use Rattle.elab_entry.specs.cpp_tree.Typing.{form_in}
use Rattle.elab_entry.specs.cpp_tree.declared.program.FuncKind.{FuncKind}
use Rattle.elab_entry.specs.cpp_tree.declared.program.FuncKind.TheVariants.{Plain}
use Rattle.elab_entry.specs.cpp_tree.declared.program.Linkage.TheVariants.{Inline}
use Rattle.elab_entry.specs.cpp_tree.declared.faults.ElabFault.{ElabFault}
use Rattle.elab_entry.specs.cpp_tree.declared.faults.ElabFault.TheVariants.{Ill}
use Rattle.elab_entry.specs.cpp_tree.declared.faults.IllRule.TheVariants.{TypeDiffers, BadDeclaration, NoMember}
use Rattle.elab_entry.specs.elab_ctx.Ctx.{Ctx, Work, Func}
use Rattle.elab_entry.specs.elab_ctx.Steps.{and_then, expect, check}
use Rattle.elab_entry.specs.elab_rules.Initialising.{func_at}
use Rattle.elab_entry.specs.elab_rules.Types.{Declared}
use Rattle.elab_entry.specs.elab_rules.Expressions.{type_of_specifiers, declared_by}
use Rattle.elab_entry.specs.elab_rules.Statements.{State, Lambdas, name_of}
use Rattle.elab_entry.specs.elab_rules.Functions.{Storage, Header, Placed, first_from, is_same_function, text_sized}
use Rattle.elab_entry.specs.elab_rules.Classes.{Method, Started, has_function, header_in, special_header, body_in, last_token, started_from}
use Rattle.elab_entry.specs.elab_rules.Members.{owner_named, name_of_class, outside_words, outside_agrees, outside_text, outside_defined, outside_method}
use Rattle.elab_members.specs.Bodies.{method_body}

-- The header

-- of a function that is no constructor and no destructor
abbrev pub outside_plain : List Lexeme → Ctx → Work → At → Storage → syntax.Tree → syntax.Tree → Result Header ElabFault
outside_plain s c w at x base d = and_then (type_of_specifiers s c w base)
    (λ (t : Typ). and_then (declared_by s c w at t d)
    (λ (r : Declared). and_then (owner_named s c at r.owner) (λ n. header_in n x Plain at (name_of s r.name) r (form_in r.typ))))

-- of a constructor or a destructor
abbrev pub outside_special : List Lexeme → Ctx → Work → At → Storage → FuncKind → syntax.Tree → Result Header ElabFault
outside_special s c w at x kind d = and_then (declared_by s c w at (plain void) d)
    (λ (r : Declared). and_then (owner_named s c at r.owner) (λ n. special_header n (name_of_class (slice_get c.classes n)) at x kind r (name_of s r.name)))

-- The function of the class that is defined; its declaration agrees

abbrev pub outside_found : Ctx → Header → ℕ → Result ℕ ElabFault
outside_found c h place = and_then (outside_agrees h (func_at c.funcs place)) (λ y. Ok place)

abbrev pub outside_place : Ctx → ℕ → Header → Result ℕ ElabFault
outside_place c n h = and_then (outside_words h) (λ w. and_then (check h.at NoMember (has_function n h.name c.funcs))
    (λ x. and_then (expect h.at TypeDiffers (first_from (is_same_function h) 0 c.funcs)) (λ place. outside_found c h place)))

-- a function that is inline
abbrev pub inline_at : List Func → ℕ → Func
inline_at fs i = record (func_at fs i) { linkage = Inline }

-- it is defined, with its text where it is inline
abbrev pub outside_declared : List Lexeme → Ctx → ℕ → ℕ → ℕ → Header → Result Placed ElabFault
outside_declared s c n first last h = and_then (text_sized h.at (outside_text s h.storage first last))
    (λ v. and_then (outside_place c n h) (λ place. Ok (record { ctx = outside_defined s c place h first last; place = place })))

-- a member with its body
abbrev pub outside_body : Lambdas → List Lexeme → State → ℕ → FuncKind → ℕ → ℕ → Header → syntax.Trees → syntax.Tree → Result State ElabFault
outside_body lams s st n kind first last h rest body =
    and_then (outside_declared s st.ctx n first last h) (λ (p : Placed). method_body lams s (record st { ctx = p.ctx }) n p.place kind h rest body)

abbrev pub outside_with : Lambdas → List Lexeme → State → At → FuncKind → ℕ → Method → Option syntax.Tree → Result State ElabFault
outside_with lams s st at kind first m (Some body) = and_then (expect at BadDeclaration m.header.class)
    (λ n. outside_body lams s st n kind first (last_token (Some body)) m.header m.rest body)
outside_with lams s st at kind first m None = Err (Ill at BadDeclaration)

abbrev pub outside_started : Lambdas → List Lexeme → State → At → FuncKind → ℕ → Option syntax.Tree → Started → Result State ElabFault
outside_started lams s st at kind first body x = and_then (outside_method s st at x.storage kind x.rest)
    (λ (m : Method). outside_with lams s st at kind first m body)

-- a member that is defined outside its class
abbrev pub member_defined : Lambdas → List Lexeme → Storage → State → At → FuncKind → ℕ → syntax.Trees → Result State ElabFault
member_defined lams s x st at kind first kids = outside_started lams s st at kind first (body_in kids) (started_from s x kids)
