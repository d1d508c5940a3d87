-- What is made of nothing has no temporary in it.
use Rattle.std.proofs.Common.{◌≡◌, refl, ℕ, Bool, true, false, ◌||◌, List, [], ◌∷◌}
use Rattle.std.specs.Prelude.{if◌then◌else◌}
use Rattle.std.proofs.lemmas.Bool.{and_parts}
use Rattle.elab_rules.specs.cpp_types.Typ.{Typ, Form, void, int, enum, null, ptr, ref, array, func, class, closure, tx_ex}
use Rattle.elab_rules.specs.cpp_types.declared.classes.At.{At}
use Rattle.elab_rules.specs.cpp_tree.declared.kinds.TKind.{TKind}
use Rattle.elab_rules.specs.cpp_tree.declared.kinds.TKind.TheVariants.{Materialize}
use Rattle.elab_rules.specs.cpp_tree.Trees.{Tree, node, Trees, none, more}
use Rattle.elab_rules.specs.cpp_tree.Typing.{form_in}
use Rattle.elab_rules.specs.cpp_tree.WellFormed.{is_zeroing, is_zero, are_zero}
use Rattle.elab_rules.specs.elab_ctx.Ctx.{Ctx, Special, absent, trivial, function}
use Rattle.elab_rules.specs.Objects.{Part, followed_by, zeros, destroyed, destroys_in, destroys_at, backwards, destroys_of, destroys, element_of, count_in}
use Rattle.elab_rules.specs.Objects.{stride_of, parts_of, traits_at, is_array}
use Rattle.elab_rules.specs.Initialising.{makeable, default_by, default_in, from_nothing}
use Rattle.elab_rules.specs.Statements.{is_temporary_with, holds_temporary, hold_temporary}
use Rattle.elab_fits.specs.Standing.{On}
use Rattle.elab_fits.proofs.AreZeros.{are_zero_law}
use Rattle.elab_fits.proofs.Steps.{skip}
use Rattle.elab_fits_statements.proofs.Anywhere.{neither}

pub none_of : (a b : Bool) → a ≡ false → b ≡ false → (a || b) ≡ false
none_of true b h g = absurd cc
none_of false b h g = g

pub plain_if : (b : Bool) (x y : Tree) → holds_temporary x ≡ false → holds_temporary y ≡ false → holds_temporary (if b then x else y) ≡ false
plain_if true x y h g = h
plain_if false x y h g = g

-- Zeros

zeroing_plain : (kind : TKind) (kids : Trees) → is_zeroing kind ≡ true → is_temporary_with kind kids ≡ false
zeroing_plain (Materialize place true) kids h = absurd cc
zeroing_plain (Materialize place false) kids h = absurd cc
zeroing_plain kind kids h = refl

mutual
  zero_plain : (e : Tree) → is_zero e ≡ true → holds_temporary e ≡ false
  zero_plain (node kind t cat at kids) h =
      let a = and_parts (is_zeroing kind) (are_zero kids) h in
      none_of (is_temporary_with kind kids) (hold_temporary kids) (zeroing_plain kind kids a.0) (zeros_plain kids a.1)

  zeros_plain : (ts : Trees) → are_zero ts ≡ true → hold_temporary ts ≡ false
  zeros_plain none h = refl
  zeros_plain (more t ts) h =
      let a = and_parts (is_zero t) (are_zero ts) h in none_of (holds_temporary t) (hold_temporary ts) (zero_plain t a.0) (zeros_plain ts a.1)

-- Destructions

pub followed_plain : (ts us : Trees) → hold_temporary ts ≡ false → hold_temporary us ≡ false → hold_temporary (followed_by ts us) ≡ false
followed_plain none us h g = g
followed_plain (more t ts) us h g =
    let a = neither (holds_temporary t) (hold_temporary ts) h in
    none_of (holds_temporary t) (hold_temporary (followed_by ts us)) a.0 (followed_plain ts us a.1 g)

destroyed_plain : (x : Special) (offset count stride : ℕ) (at : At) → hold_temporary (destroyed x offset count stride at) ≡ false
destroyed_plain (function k) offset count stride at = refl
destroyed_plain absent offset count stride at = refl
destroyed_plain trivial offset count stride at = refl

in_plain : (c : Ctx) (offset : ℕ) (at : At) (t : Typ) (f : Form) → hold_temporary (destroys_in c offset at t f) ≡ false
in_plain c offset at t (class n) = destroyed_plain (traits_at c n).destructor offset (count_in t) (stride_of c.classes t) at
in_plain c offset at t (tx_ex u) = refl
in_plain c offset at t void = refl
in_plain c offset at t (int k) = refl
in_plain c offset at t (enum n s) = refl
in_plain c offset at t null = refl
in_plain c offset at t (ptr u) = refl
in_plain c offset at t (ref u) = refl
in_plain c offset at t (array u n) = refl
in_plain c offset at t (func s) = refl
in_plain c offset at t (closure n) = refl

parts_plain : (c : Ctx) (at : At) (ps : List Part) → hold_temporary (backwards (destroys_at c at) ps) ≡ false
parts_plain c at [] = refl
parts_plain c at (p ∷ ps) = followed_plain (backwards (destroys_at c at) ps) (destroys_at c at p) (parts_plain c at ps)
    (in_plain c p.offset at p.typ (form_in (element_of p.typ)))

of_plain : (c : Ctx) (at : At) (t : Typ) (f : Form) → hold_temporary (destroys_of c at t f) ≡ false
of_plain c at t (closure n) = parts_plain c at (parts_of c.classes n)
of_plain c at t (class n) = in_plain c 0 at t (class n)
of_plain c at t (tx_ex u) = refl
of_plain c at t void = refl
of_plain c at t (int k) = refl
of_plain c at t (enum n s) = refl
of_plain c at t null = refl
of_plain c at t (ptr u) = refl
of_plain c at t (ref u) = refl
of_plain c at t (array u n) = refl
of_plain c at t (func s) = refl

pub destroys_plain : (c : Ctx) (at : At) (t : Typ) → hold_temporary (destroys c at t) ≡ false
destroys_plain c at t = of_plain c at t (form_in (element_of t))

-- Nothing

abbrev pub IsPlain : Tree → Type 0
IsPlain e = holds_temporary e ≡ false

no_value_plain : (c : Ctx) (at : At) (t : Typ) → IsPlain (zeros c.classes at t)
no_value_plain c at t = zero_plain (zeros c.classes at t) (are_zero_law c.classes at t)

default_plain : (c : Ctx) (t : Typ) (at : At) (x : Special) → On IsPlain (default_by c t at x)
default_plain c t at absent = tt
default_plain c t at trivial = no_value_plain c at t
default_plain c t at (function k) = plain_if (is_array t) _ _ (destroys_plain c at (element_of t)) refl

form_plain : (c : Ctx) (t : Typ) (at : At) (f : Form) → On IsPlain (default_in c t at f)
form_plain c t at (class n) = skip IsPlain (makeable c at n) _ (λ k. default_plain c t at (traits_at c n).default)
form_plain c t at (tx_ex u) = tt
form_plain c t at (closure n) = tt
form_plain c t at (ref u) = tt
form_plain c t at void = tt
form_plain c t at (func s) = tt
form_plain c t at (int k) = no_value_plain c at t
form_plain c t at (enum n s) = no_value_plain c at t
form_plain c t at null = no_value_plain c at t
form_plain c t at (ptr u) = no_value_plain c at t
form_plain c t at (array u n) = no_value_plain c at t

pub nothing_plain : (c : Ctx) (t : Typ) (at : At) → On IsPlain (from_nothing c t at)
nothing_plain c t at = form_plain c t at (form_in (element_of t))
