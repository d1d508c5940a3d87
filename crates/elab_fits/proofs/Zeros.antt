-- Zeros build objects.
use Rattle.std.proofs.Common.{◌≡◌, refl, sym, Bool, true, false}
use Rattle.elab_rules.specs.tx_ints.declared.kinds.IntKind.{IntKind}
use Rattle.elab_rules.specs.tx_ints.declared.kinds.IntKind.TheVariants.{Bool as BoolKind, Char, SChar, UChar, Short, UShort, Int, UInt, Long, ULong, LLong}
use Rattle.elab_rules.specs.tx_ints.declared.kinds.IntKind.TheVariants.{ULLong}
use Rattle.elab_rules.specs.tx_ints.Integers.{reduced}
use Rattle.elab_rules.specs.tx_ints.Words.{word_of}
use Rattle.elab_rules.specs.cpp_types.Typ.{typ, Form, void, int, enum, null, ptr, ref, array, func, class, closure, tx_ex}
use Rattle.elab_rules.specs.cpp_types.Equal.{flag_eq, kind_eq}
use Rattle.elab_rules.specs.cpp_types.declared.classes.At.{At}
use Rattle.elab_rules.specs.cpp_tree.Typing.{is_word_of}
use Rattle.elab_rules.specs.cpp_tree.Rows.{Setting}
use Rattle.elab_rules.specs.Objects.{zero_leaf}
use Rattle.elab_rules.proofs.cpp_types.EqualTests.{kind_eq_is}
use Rattle.elab_fits.specs.Objects.{ZerosBuild}
use Rattle.elab_fits.proofs.Pieces.{IsExact, typ_refl}
use Rattle.elab_fits.proofs.Wholes.{is_leaf, fit_in}

pub kind_refl : (k : IntKind) → kind_eq k k ≡ true
kind_refl k = sym (kind_eq_is true k k ((λ h. refl), (λ h. refl)))

pub flag_refl : (b : Bool) → flag_eq b b ≡ true
flag_refl true = refl
flag_refl false = refl

zero_word : (k : IntKind) → is_word_of k 0 ≡ true
unfolding word_of reduced
zero_word BoolKind = refl
zero_word Char = refl
zero_word SChar = refl
zero_word UChar = refl
zero_word Short = refl
zero_word UShort = refl
zero_word Int = refl
zero_word UInt = refl
zero_word Long = refl
zero_word ULong = refl
zero_word LLong = refl
zero_word ULLong = refl

zero_leaf_fits : (s : Setting) (at : At) (f : Form) (c v : Bool) → is_leaf false f ≡ true → IsExact s false (typ f c v) (zero_leaf (typ f c v) at)
zero_leaf_fits s at void c v h = absurd cc
zero_leaf_fits s at (int k) c v h = record {
  fits = λ p. let a = kind_refl k in let b = flag_refl v in let e = zero_word k in rw (a, b, e) refl;
  value = refl;
  typed = typ_refl (typ (int k) c v);
  kid = refl;
}
zero_leaf_fits s at (enum n w) c v h = record {
  fits = λ p. let b = flag_refl v in let d = typ_refl (typ (enum n w) false false) in let e = zero_word Int in rw (b, d, e) refl;
  value = refl;
  typed = typ_refl (typ (enum n w) c v);
  kid = refl;
}
zero_leaf_fits s at null c v h = record {
  fits = λ p. let b = flag_refl v in let e = zero_word ULong in rw (b, e) refl;
  value = refl;
  typed = typ_refl (typ null c v);
  kid = refl;
}
zero_leaf_fits s at (ptr t) c v h = record {
  fits = λ p. let b = flag_refl v in let d = typ_refl t in let e = zero_word ULong in rw (b, d, e) refl;
  value = refl;
  typed = typ_refl (typ (ptr t) c v);
  kid = refl;
}
zero_leaf_fits s at (ref t) c v h = absurd cc
zero_leaf_fits s at (array t n) c v h = absurd cc
zero_leaf_fits s at (func g) c v h = absurd cc
zero_leaf_fits s at (class n) c v h = absurd cc
zero_leaf_fits s at (closure n) c v h = absurd cc
zero_leaf_fits s at (tx_ex t) c v h = absurd cc

pub zeros_law : ZerosBuild
zeros_law s c at t i z r =
    let h = fit_in s c i false false zero_leaf at (zero_leaf_fits s at) t z r in
    record { fits = λ p full. h.fits p; builds = h.builds }
