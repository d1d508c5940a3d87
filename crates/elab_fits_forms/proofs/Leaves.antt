-- Literals, names and `this` as forms without operands.
use Rattle.std.proofs.Common.{◌≡◌, refl, ap, ℕ, ◌==◌, true, false, List, [], ◌∷◌, ◌++◌, length, slice_get, Some, Result, Ok, Err}
use Rattle.std.proofs.Common.{eqb-true}
use Rattle.elab_rules.specs.tx_ints.declared.kinds.IntKind.{IntKind}
use Rattle.elab_rules.specs.tx_ints.declared.kinds.IntKind.TheVariants.{Char, Bool as BoolKind, ULong}
use Rattle.elab_rules.specs.cpp_types.declared.ranks.Cat.TheVariants.{Prvalue}
use Rattle.elab_rules.specs.cpp_tree.Typing.{is_word_of}
use Rattle.elab_fits.proofs.Numbers.{zero_word}
use Rattle.elab_rules.specs.cpp_types.Typ.{int, null}
use Rattle.elab_rules.specs.cpp_types.declared.classes.At.{At}
use Rattle.elab_rules.specs.cpp_lex.Tokens.{Lexeme}
use Rattle.elab_rules.specs.cpp_lex.Ints.{int_type_of}
use Rattle.elab_rules.specs.cpp_ast.declared.kinds.NodeKind.{NodeKind}
use Rattle.elab_rules.specs.cpp_ast.declared.kinds.NodeKind.TheVariants as k
use Rattle.elab_rules.specs.cpp_tree.declared.faults.ElabFault.{ElabFault}
use Rattle.elab_rules.specs.cpp_tree.declared.faults.IllRule.TheVariants.{OutOfProfile}
use Rattle.elab_rules.specs.cpp_tree.declared.kinds.TKind.TheVariants.{Literal}
use Rattle.elab_rules.specs.cpp_tree.declared.faults.ElabFault.{ElabFault}
use Rattle.elab_rules.specs.cpp_tree.Trees.{Tree, node, none}
use Rattle.elab_rules.specs.cpp_tree.Units.{Global}
use Rattle.elab_rules.specs.cpp_tree.Notation.{plain}
use Rattle.elab_rules.specs.cpp_tree.Rows.{Setting}
use Rattle.elab_rules.specs.elab_ctx.Ctx.{Ctx, Work}
use Rattle.elab_rules.specs.elab_ctx.Steps.{spelling, value_at}
use Rattle.elab_rules.specs.Constants.{word_in}
use Rattle.elab_rules.specs.Names.{named, this_tree}
use Rattle.elab_rules.specs.Casts.{string_made, string_global}
use Rattle.elab_rules.specs.Strings.{string_bytes}
use Rattle.elab_rules.specs.Expressions.{a_tree, integer_literal, literal_of, truth_word, leaf_of}
use Rattle.elab_fits.specs.Standing.{Reaches, On}
use Rattle.elab_fits.specs.Scalars.{IsZero}
use Rattle.elab_fits.proofs.Steps.{expected}
use Rattle.elab_fits_forms.specs.Types.{is_empty}
use Rattle.elab_fits_forms.specs.Meaning.{Proper, Means, MeansOperand}
use Rattle.elab_fits_forms.specs.Context.{Holds}
use Rattle.elab_fits_forms.specs.Names.{TypedMeans}
use Rattle.elab_fits_forms.proofs.Words.{word_in_kind, literal_word}
use Rattle.elab_fits_forms.proofs.Proper.{proper_value}
use Rattle.elab_fits_forms.proofs.Variables.{IsThisTree, this_tree_is}
use Rattle.elab_fits_forms.proofs.Names.{word_gives, global_proper, names_mean}

-- an operand that is no literal 0
pub plain_operand : (s : Setting) (c : Ctx) (at : At) (e : Tree) → Means s c e → MeansOperand s c (record { tree = e; at = at; zero = false })
plain_operand s c at e m = record { means = m; zero = λ h. absurd cc }

pub tree_means : (s : Setting) (c : Ctx) (at : At) (w : Work) (r : Result Tree ElabFault) → (Reaches s w → On (Means s c) r)
    → On (TypedMeans s c) (a_tree at w r)
tree_means s c at w (Ok e) h = λ r. plain_operand s c at e (h r)
tree_means s c at w (Err e) h = tt

number_proper : (s : Setting) (c : Ctx) (k : IntKind) (n : ℕ) (at : At) → is_word_of k n ≡ true → Proper s c (node (Literal n) (plain (int k)) Prvalue at none)
number_proper s c k n at h = proper_value s c (int k) (node (Literal n) (plain (int k)) Prvalue at none) (word_gives s (int k) n at refl h) refl

zero_is : (k : IntKind) (n : ℕ) (at : At) → (n == 0) ≡ true → IsZero (node (Literal n) (plain (int k)) Prvalue at none)
zero_is k n at h = record { kind = k; place = at; is = ap (λ (w : ℕ). node (Literal w) (plain (int k)) Prvalue at none) (eqb-true n 0 h) }

integer_means : (s : Setting) (c : Ctx) (w : Work) (at : At) (bytes : List ℕ) (n : ℕ) → On (TypedMeans s c) (integer_literal at bytes n w)
integer_means s c w at bytes n = expected (TypedMeans s c) at OutOfProfile (int_type_of bytes n) _ (λ kind e. λ r. record {
  means = Means.standing (number_proper s c kind n at (literal_word bytes n kind e));
  zero = zero_is kind n at;
})

word_means : (s : Setting) (c : Ctx) (w : Work) (at : At) (kind : IntKind) (n : ℕ) → On (TypedMeans s c) (literal_of at kind n w)
word_means s c w at kind n = λ r. plain_operand s c at (node (Literal (word_in kind n)) (plain (int kind)) Prvalue at none)
    (Means.standing (number_proper s c kind (word_in kind n) at (word_in_kind kind n)))

null_means : (s : Setting) (c : Ctx) (at : At) → MeansOperand s c (record { tree = node (Literal 0) (plain null) Prvalue at none; at = at; zero = false })
null_means s c at = plain_operand s c at (node (Literal 0) (plain null) Prvalue at none)
    (Means.standing (proper_value s c null (node (Literal 0) (plain null) Prvalue at none) (word_gives s null 0 at refl (zero_word ULong)) refl))

-- A string is the last of the globals

last_global : (gs : List Global) (g : Global) → slice_get (gs ++ g ∷ []) (length gs) ≡ Some g
last_global [] g = refl
last_global (x ∷ gs) g = last_global gs g

string_means : (s : Setting) (c : Ctx) (w : Work) (at : At) (bytes : List ℕ)
    → Reaches s (string_made w at bytes).work → Means s c (string_made w at bytes).tree
string_means s c w at bytes r = Means.standing (global_proper s c (string_made w at bytes).work at (length w.globals) (string_global at bytes) r
    (last_global w.globals (string_global at bytes)) refl)

pub this_stands : (s : Setting) (c : Ctx) (w : Work) (at : At) → Holds s c w → Reaches s w → On (Proper s c) (this_tree c at)
this_stands s c w at h r = by (this_tree c at) (this_tree_is s c w at h r)
  where
    by : (x : Result Tree ElabFault) → On (IsThisTree s c) x → On (Proper s c) x
    by (Ok e) g = g.proper
    by (Err e) g = tt

this_means : (s : Setting) (c : Ctx) (w : Work) (at : At) → Holds s c w → Reaches s w → On (Means s c) (this_tree c at)
this_means s c w at h r = by (this_tree c at) (this_tree_is s c w at h r)
  where
    by : (x : Result Tree ElabFault) → On (IsThisTree s c) x → On (Means s c) x
    by (Ok e) g = Means.standing g.proper
    by (Err e) g = tt

pub leaves_mean : (lexemes : List Lexeme) (s : Setting) (c : Ctx) (w : Work) (kind : NodeKind) (at : At) (t : ℕ) → Holds s c w
    → is_empty (spelling lexemes t) ≡ false → On (TypedMeans s c) (leaf_of lexemes c w kind at t)
leaves_mean l s c w k.IntegerLiteral at t h n = integer_means s c w at (spelling l t) (value_at l t)
leaves_mean l s c w k.CharacterLiteral at t h n = word_means s c w at Char (value_at l t)
leaves_mean l s c w k.BooleanLiteral at t h n = word_means s c w at BoolKind (truth_word (spelling l t))
leaves_mean l s c w k.PointerLiteral at t h n = λ r. null_means s c at
leaves_mean l s c w k.StringLiteral at t h n = λ r. plain_operand s c at (string_made w at (string_bytes (spelling l t))).tree
    (string_means s c w at (string_bytes (spelling l t)) r)
leaves_mean l s c w k.This at t h n = tree_means s c at w (this_tree c at) (λ r. this_means s c w at h r)
leaves_mean l s c w k.UnqualifiedId at t h n = tree_means s c at w (named c w at (spelling l t)) (λ r. names_mean s c w at (spelling l t) h r n)
leaves_mean l s c w k.StdAbort at t h n = λ r. plain_operand s c at _ (Means.aborting at)
leaves_mean l s c w kind at t h n = tt
