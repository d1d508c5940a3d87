-- What a node that holds in a role says of itself.
use Rattle.std.proofs.Common.{◌≡◌, Bool, true, false, not, ◌&&◌, List, refl, sym, ap, ◌∙◌, subst}
use Rattle.std.proofs.lemmas.Bool.{and_parts}
use Rattle.cpp_tree.specs.cpp_types.Typ.{Typ, typ, Form, void, int, enum, null, ptr, ref, array, func, class, closure, tx_ex}
use Rattle.cpp_tree.specs.cpp_types.Equal.{typ_eq, form_eq, flag_eq}
use Rattle.cpp_tree.specs.cpp_types.declared.ranks.Cat.{Cat}
use Rattle.cpp_tree.specs.cpp_types.declared.ranks.Cat.TheVariants.{Lvalue, Prvalue}
use Rattle.cpp_tree.specs.declared.arena.TNodeId.{TNodeId}
use Rattle.cpp_tree.specs.declared.kinds.TKind.{TKind}
use Rattle.cpp_tree.specs.declared.roles.Position.{Position}
use Rattle.cpp_tree.specs.declared.roles.Role.{Role}
use Rattle.cpp_tree.specs.Typing.{Head}
use Rattle.cpp_tree.specs.Typing as typing
use Rattle.cpp_tree.specs.Rows.{row_fits}
use Rattle.cpp_tree.specs.WellFormed.{setting_of}
use Rattle.low_code.specs.Types.{is_void, is_void_form}
use Rattle.unwind_lower.specs.Settings.{Setting, node_in}
use Rattle.lowered_trees.specs.Shapes.{Stands, is_load}
use Rattle.lowered_trees.specs.Suiting.{kids_suit}
use Rattle.lowered_trees.specs.Words.{gives_word, is_valued}
use Rattle.lowered_trees.specs.Words.{words_suit}
use Rattle.lowered_trees.proofs.Known.{Holds}
use Rattle.lowered_trees.proofs.Tests.{untold}

-- a node of such a kind gives a word
pub worded : (a : Bool) (kind : TKind) (cat : Cat) → is_load kind ≡ false → is_valued kind ≡ true → gives_word a kind cat ≡ true
worded a kind Lvalue l v = refl
worded true kind Prvalue l v = ap (λ b. not b && is_valued kind) l ∙ v
worded false kind Prvalue l v = v

-- types that are equal are both `void` or neither is
pub void_alike : (s t : Typ) → typ_eq s t ≡ true → is_void t ≡ is_void s
void_alike (typ f c v) (typ g d w) e = forms f g (and_parts (flag_eq c d && flag_eq v w) (form_eq f g) e).1 where
  forms : (f g : Form) → form_eq f g ≡ true → is_void_form g ≡ is_void_form f
  forms void void e = refl
  forms void (int k) e = absurd cc
  forms void (enum n s) e = absurd cc
  forms void null e = absurd cc
  forms void (ptr t) e = absurd cc
  forms void (ref t) e = absurd cc
  forms void (array t n) e = absurd cc
  forms void (func s) e = absurd cc
  forms void (class n) e = absurd cc
  forms void (closure n) e = absurd cc
  forms void (tx_ex t) e = absurd cc
  forms f void e = absurd cc
  forms f g e = refl

void_same : (u : Typ) → typ_eq u (typ void false false) ≡ true → is_void u ≡ true
void_same u e = sym (void_alike u (typ void false false) e)

module _ (g : Setting) {p : Position} {role : Role} {a : Bool} {id : TNodeId} {t : Typ} {cat : Cat} {ids : List TNodeId} {hs : List Head} where
  pub stands_as : {kind : TKind} (js : List TNodeId) → Holds g p role a id kind t cat ids hs → ids ≡ js → Stands g id kind js
  stands_as js h e = record { kind_is = h.kind_is; kids_are = h.kids_are ∙ e }

  pub not_void : (kind : TKind) → Holds g p role a id kind t cat ids hs → gives_word a kind cat ≡ true → is_void (node_in g id).typ ≡ false
  not_void kind h v = ap is_void h.typ_is ∙ untold (gives_word a kind cat) (is_void t) v h.tells

  pub words_as : (kind : TKind) (js : List Head) → Holds g p role a id kind t cat ids hs → hs ≡ js → words_suit kind t js ≡ true
  words_as kind js h e = subst (λ xs. words_suit kind t xs ≡ true) e h.words

  pub row_as : (kind : TKind) (js : List Head) → Holds g p role a id kind t cat ids hs → hs ≡ js
      → row_fits (setting_of g.program g.unit g.func) kind t cat js ≡ true
  row_as kind js h e = subst (λ xs. row_fits (setting_of g.program g.unit g.func) kind t cat xs ≡ true) e h.fit.row

  pub suit_as : (kind : TKind) (js : List Head) → Holds g p role a id kind t cat ids hs → hs ≡ js → kids_suit kind js ≡ true
  suit_as kind js h e = subst (λ xs. kids_suit kind xs ≡ true) e h.suit

  -- a statement has no type
  pub no_typ : (kind : TKind) → Holds g p role a id kind t cat ids hs → typing.is_statement_typ t cat ≡ true → is_void (node_in g id).typ ≡ true
  no_typ kind h e = ap is_void h.typ_is ∙ by_cat t cat e where
    by_cat : (u : Typ) (c : Cat) → typing.is_statement_typ u c ≡ true → is_void u ≡ true
    by_cat u Lvalue f = absurd cc
    by_cat u Prvalue f = void_same u f
