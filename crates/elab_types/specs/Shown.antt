-- What the records of the code show, and what answers with them say.
use Rattle.std.specs.Prelude.{◌≡◌, List, map, option_map, Result, Ok, Err}
use Rattle.elab_conv.specs.cpp_lex.Tokens.{Lexeme}
use Rattle.cpp_types.specs.Typ.{Form, void, int, typ_of}
use Rattle.elab_conv.specs.cpp_tree.declared.faults.ElabFault.{ElabFault}
use Rattle.elab_conv.specs.elab_ctx.Steps.{spelling}
use Rattle.elab_conv.specs.elab_ctx.Says.{Faults}
use Rattle.elab_conv.specs.elab_rules.Types.{Specifiers, Parameter, Qualifiers, Declared, auto_form, Words}
use Rattle.elab_types.specs.declared.records.Base.{Base}
use Rattle.elab_types.specs.declared.records.Base.TheVariants as bases
use Rattle.elab_types.specs.declared.records.WordCounts.{WordCounts}
use Rattle.elab_types.specs.declared.records.Specifiers.{Specifiers as SpecifiersRec}
use Rattle.elab_types.specs.declared.records.Parameter.{Parameter as ParameterRec}
use Rattle.elab_types.specs.declared.records.Qualifiers.{Qualifiers as QualifiersRec}
use Rattle.elab_types.specs.declared.records.Declared.{Declared as DeclaredRec}

-- a value that shows so is what is to be answered
abbrev pub Says : {A B : Type 0} → (A → B) → Result A ElabFault → Result B ElabFault → Type 0
Says show (Ok a) x = x ≡ Ok (show a)
Says show (Err e) x = Faults e x

abbrev pub base_form : Base → Form
base_form bases.Void = void
base_form bases.Auto = auto_form
base_form (bases.Integer k) = int k

abbrev pub counts_of : WordCounts → Words
counts_of w = record { all = w.all; signs = w.signs; unsigned = w.unsigned; shorts = w.shorts; longs = w.longs; chars = w.chars; ints = w.ints }

-- the words of specifiers are kept by their tokens
abbrev pub specifiers_of : List Lexeme → SpecifiersRec → Specifiers
specifiers_of s d = record { is_const = d.is_const; is_volatile = d.is_volatile; words = map (spelling s) d.words.items; named = option_map typ_of d.named }

abbrev pub parameter_of : ParameterRec → Parameter
parameter_of p = record { name = p.name; at = p.at; typ = typ_of p.ty }

abbrev pub qualifiers_of : QualifiersRec → Qualifiers
qualifiers_of q = record { is_const = q.is_const; is_safe = q.is_safe; is_dynamic = q.is_dynamic; no_except = q.no_except }

abbrev pub declared_of : DeclaredRec → Declared
declared_of d = record {
  name = d.name;
  owner = d.owner;
  is_destructor = d.is_destructor;
  typ = typ_of d.ty;
  params = map parameter_of d.params.items;
  qualifiers = qualifiers_of d.qualifiers;
}
