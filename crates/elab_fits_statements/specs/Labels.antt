-- Labels of `switch` (C++14 6.4.2, 6.7 p3).
use Rattle.std.specs.Prelude.{◌≡◌, ℕ, true, false, List, Some, Ok}
use Rattle.elab_rules.specs.tx_ints.declared.kinds.IntKind.{IntKind}
use Rattle.elab_rules.specs.cpp_types.Typ.{Typ}
use Rattle.elab_rules.specs.cpp_types.declared.classes.At.{At}
use Rattle.elab_rules.specs.cpp_ast.Trees as syntax
use Rattle.elab_rules.specs.cpp_tree.declared.roles.Role.TheVariants.{Value}
use Rattle.elab_rules.specs.cpp_tree.Trees.{Tree, typ_in, cat_of}
use Rattle.elab_rules.specs.cpp_tree.Units.{Global}
use Rattle.elab_rules.specs.cpp_tree.Typing.{word_kind, is_word_of}
use Rattle.elab_rules.specs.cpp_tree.Rows.{Setting}
use Rattle.elab_rules.specs.cpp_tree.WellFormed.{skips}
use Rattle.elab_rules.specs.Constants.{constant}
use Rattle.elab_rules.specs.Statements.{State, init_node, default_object, may_be_skipped}
use Rattle.elab_fits.specs.Standing.{FitsAs}

-- the word of a constant expression is one of the expression's kind
abbrev pub ConstantsInKind : Type 0
ConstantsInKind = (s : Setting) (gs : List Global) (k : IntKind) (w : ℕ) (e : Tree) → FitsAs s Value e → word_kind (typ_in e) (cat_of e) ≡ Some k
    → constant gs e ≡ Some w → is_word_of k w ≡ true

-- a label may stand behind a declaration that may be jumped past
abbrev pub SkippedFit : Type 0
SkippedFit = (st : State) (t : Typ) (at : At) (variable e : Tree) → may_be_skipped st.ctx t syntax.none ≡ true → default_object st.ctx t at ≡ Ok e
    → skips (init_node st t at at variable e) ≡ false
