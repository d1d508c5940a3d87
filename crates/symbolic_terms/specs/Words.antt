-- The terms and exceptions that data show, at the types that numbers of types mean.
use Rattle.std.specs.Prelude.{ℕ, List, Option, Some, None, slice_get, false}
use Rattle.cpp_types.specs.declared.types.Ty.{Ty}
use Rattle.cpp_tree.specs.cpp_types.Typ.{Typ, typ, void, class as of_class, typ_of}
use Rattle.symbolic_source.specs.Terms as symbolic
use Rattle.symbolic_terms.specs.declared.terms.Term.{Term}
use Rattle.symbolic_terms.specs.declared.terms.Term.TheVariants.{Number, Variable, Local, Global, Function, Table, SlotFunction', Sum', Product', Before', LowByte', Converted', Applied', Field'}
use Rattle.symbolic_terms.specs.declared.terms.Exception.{Exception}
use Rattle.symbolic_terms.specs.declared.terms.Exception.TheVariants.{Unknown, Made}
use Rattle.symbolic_terms.specs.declared.terms.Puts.{Puts}
use Rattle.symbolic_terms.specs.declared.terms.Puts.TheVariants.{Untouched, Put'}

abbrev pub type_or_void : Option Ty → Typ
type_or_void None = typ void false false
type_or_void (Some t) = typ_of t

-- the type with this number in a list of types
abbrev pub type_in : List Ty → ℕ → Typ
type_in types n = type_or_void (slice_get types n)

-- each number means another type
abbrev pub numbered : ℕ → Typ
numbered n = typ (of_class n) false false

module _ (types : ℕ → Typ) where
  abbrev mutual
    pub term_of : Term → symbolic.Term
    term_of (Number n) = symbolic.number n
    term_of (Variable n) = symbolic.variable n
    term_of (Local offset) = symbolic.local offset
    term_of (Global n) = symbolic.global n
    term_of (Function n) = symbolic.function n
    term_of (Table c) = symbolic.table c
    term_of (SlotFunction' class slot p a) = symbolic.slot_function class slot (term_of a)
    term_of (Sum' p a q b) = symbolic.sum (term_of a) (term_of b)
    term_of (Product' p a q b) = symbolic.product (term_of a) (term_of b)
    term_of (Before' p a) = symbolic.before (term_of a)
    term_of (LowByte' p a) = symbolic.low_byte (term_of a)
    term_of (Converted' kind p a) = symbolic.converted_to kind (term_of a)
    term_of (Applied' op kind p a q b) = symbolic.result op kind (term_of a) (term_of b)
    term_of (Field' p e offset size) = symbolic.field (exception_of e) offset size

    pub exception_of : Exception → symbolic.Exception
    exception_of (Unknown n) = symbolic.unknown n
    exception_of (Made n puts) = symbolic.made (types n) (puts_of puts)

    pub puts_of : Puts → symbolic.Puts
    puts_of Untouched = symbolic.untouched
    puts_of (Put' offset size p w q others) = symbolic.put offset size (term_of w) (puts_of others)
