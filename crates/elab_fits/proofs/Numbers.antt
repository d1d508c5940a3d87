-- Kinds of numbers and their words, and operators.
use Rattle.std.proofs.Common.{◌≡◌, refl, true, false}
use Rattle.elab_rules.specs.tx_ints.declared.kinds.IntKind.{IntKind}
use Rattle.elab_rules.specs.tx_ints.declared.kinds.IntKind.TheVariants.{Bool as BoolKind, Char, SChar, UChar, Short, UShort, Int, UInt, Long, ULong, LLong}
use Rattle.elab_rules.specs.tx_ints.declared.kinds.IntKind.TheVariants.{ULLong}
use Rattle.elab_rules.specs.tx_ints.declared.kinds.BinOp.{BinOp}
use Rattle.elab_rules.specs.tx_ints.declared.kinds.BinOp.TheVariants.{Lt, Gt, Le, Ge, Eq, Ne}
use Rattle.elab_rules.specs.tx_ints.Integers.{usual_of, common_of, promote_of, is_shift, reduced}
use Rattle.elab_rules.specs.tx_ints.Words.{word_of}
use Rattle.elab_rules.specs.cpp_tree.Typing.{is_promoted, is_word_of}
use Rattle.elab_rules.specs.cpp_tree.Rows.{is_comparison}
use Rattle.elab_rules.specs.Operators.{ones}
use Rattle.elab_rules.specs.Operators

pub promoted_kind : (k : IntKind) → is_promoted (promote_of k) ≡ true
promoted_kind BoolKind = refl
promoted_kind Char = refl
promoted_kind SChar = refl
promoted_kind UChar = refl
promoted_kind Short = refl
promoted_kind UShort = refl
promoted_kind Int = refl
promoted_kind UInt = refl
promoted_kind Long = refl
promoted_kind ULong = refl
promoted_kind LLong = refl
promoted_kind ULLong = refl

-- what holds at each promoted kind holds at what each kind is promoted to
by_promoted : (P : IntKind → Type 0) → P Int → P UInt → P Long → P ULong → P LLong → P ULLong → (k : IntKind) → P (promote_of k)
by_promoted P i ui l ul ll ull BoolKind = i
by_promoted P i ui l ul ll ull Char = i
by_promoted P i ui l ul ll ull SChar = i
by_promoted P i ui l ul ll ull UChar = i
by_promoted P i ui l ul ll ull Short = i
by_promoted P i ui l ul ll ull UShort = i
by_promoted P i ui l ul ll ull Int = i
by_promoted P i ui l ul ll ull UInt = ui
by_promoted P i ui l ul ll ull Long = l
by_promoted P i ui l ul ll ull ULong = ul
by_promoted P i ui l ul ll ull LLong = ll
by_promoted P i ui l ul ll ull ULLong = ull

beside : (i k : IntKind) → is_promoted (common_of i Int) ≡ true → is_promoted (common_of i UInt) ≡ true → is_promoted (common_of i Long) ≡ true
    → is_promoted (common_of i ULong) ≡ true → is_promoted (common_of i LLong) ≡ true → is_promoted (common_of i ULLong) ≡ true
    → is_promoted (common_of i (promote_of k)) ≡ true
beside i k a b c d e f = by_promoted (λ (j : IntKind). is_promoted (common_of i j) ≡ true) a b c d e f k

pub usual_kind : (j k : IntKind) → is_promoted (usual_of j k) ≡ true
usual_kind j k = by_promoted (λ (i : IntKind). is_promoted (common_of i (promote_of k)) ≡ true)
    (beside Int k refl refl refl refl refl refl) (beside UInt k refl refl refl refl refl refl)
    (beside Long k refl refl refl refl refl refl) (beside ULong k refl refl refl refl refl refl)
    (beside LLong k refl refl refl refl refl refl) (beside ULLong k refl refl refl refl refl refl) j

pub zero_word : (k : IntKind) → is_word_of k 0 ≡ true
unfolding word_of reduced
zero_word BoolKind = refl
zero_word Char = refl
zero_word SChar = refl
zero_word UChar = refl
zero_word Short = refl
zero_word UShort = refl
zero_word Int = refl
zero_word UInt = refl
zero_word Long = refl
zero_word ULong = refl
zero_word LLong = refl
zero_word ULLong = refl

pub one_word : (k : IntKind) → is_word_of k 1 ≡ true
unfolding word_of reduced
one_word BoolKind = refl
one_word Char = refl
one_word SChar = refl
one_word UChar = refl
one_word Short = refl
one_word UShort = refl
one_word Int = refl
one_word UInt = refl
one_word Long = refl
one_word ULong = refl
one_word LLong = refl
one_word ULLong = refl

pub ones_word : (k : IntKind) → is_word_of k (ones k) ≡ true
unfolding word_of reduced
ones_word BoolKind = refl
ones_word Char = refl
ones_word SChar = refl
ones_word UChar = refl
ones_word Short = refl
ones_word UShort = refl
ones_word Int = refl
ones_word UInt = refl
ones_word Long = refl
ones_word ULong = refl
ones_word LLong = refl
ones_word ULLong = refl

-- the two tests of comparisons are one, and no comparison is a shift
pub comparison_is : (op : BinOp) → Operators.is_comparison op ≡ is_comparison op
comparison_is Lt = refl
comparison_is Gt = refl
comparison_is Le = refl
comparison_is Ge = refl
comparison_is Eq = refl
comparison_is Ne = refl
comparison_is op = refl

pub no_shift : (op : BinOp) → is_comparison op ≡ true → is_shift op ≡ false
no_shift Lt h = refl
no_shift Gt h = refl
no_shift Le h = refl
no_shift Ge h = refl
no_shift Eq h = refl
no_shift Ne h = refl
no_shift op h = absurd cc
