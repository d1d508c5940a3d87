-- One more specifier, one more qualifier of a pointer, and a parameter: the steps of which type-ids and declarators are made.
use Rattle.std.specs.Prelude.{ℕ, List, [], ◌∷◌, ◌++◌, true, false, Some, Result, Ok, if◌then◌else◌, codes}
use Rattle.std.specs.Str.{bytes_eq}
use Rattle.cpp_types.specs.Typ.{Typ, tx_ex}
use Rattle.cpp_types.specs.declared.classes.At.{At}
use Rattle.elab_conv.specs.cpp_tree.declared.faults.ElabFault.{ElabFault}
use Rattle.elab_conv.specs.cpp_tree.declared.faults.IllRule.TheVariants.{UnknownName, NotTriviallyCopyable}
use Rattle.elab_conv.specs.cpp_tree.Notation.{plain}
use Rattle.elab_conv.specs.elab_ctx.Ctx.{Ctx}
use Rattle.elab_conv.specs.elab_ctx.Steps.{and_then, expect, check}
use Rattle.elab_conv.specs.elab_rules.Types.{Specifiers, type_named, may_be_thrown, with_qualifiers, Parameter, Declared, parameter_type}

-- `const` or `volatile`
abbrev pub with_qualifier_word : List ℕ → Specifiers → Specifiers
with_qualifier_word word d = if bytes_eq word (codes "const") then record d { is_const = true } else record d { is_volatile = true }

-- a word of an integer type, `void`, `bool` or `auto`
abbrev pub with_word : List ℕ → Specifiers → Specifiers
with_word word d = record d { words = d.words ++ word ∷ [] }

abbrev pub with_named : Typ → Specifiers → Specifiers
with_named t d = record d { named = Some t }

-- the name of a type
abbrev pub named_by : Ctx → At → List ℕ → Specifiers → Result Specifiers ElabFault
named_by c at word d = and_then (expect at UnknownName (type_named word c.types)) (λ (u : Typ). Ok (with_named u d))

-- `std::tx_exception` of a type
abbrev pub with_exception : Ctx → At → Typ → Specifiers → Result Specifiers ElabFault
with_exception c at u d = and_then (check at NotTriviallyCopyable (may_be_thrown c u)) (λ y. Ok (with_named (plain (tx_ex u)) d))

-- a qualifier of a pointer
abbrev pub pointer_qualified : List ℕ → Typ → Typ
pointer_qualified word t = if bytes_eq word (codes "const") then with_qualifiers true false t else with_qualifiers false true t

-- the parameter that a declarator declares
abbrev pub parameter_declared : Ctx → At → Declared → Result Parameter ElabFault
parameter_declared c at r = and_then (parameter_type c at r.typ) (λ (u : Typ). Ok (record { name = r.name; at = at; typ = u }))
