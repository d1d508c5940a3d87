-- Literals, parentheses, `this` and lambdas.
use Rattle.std.proofs.Common.{◌≡◌, refl, sym, subst, Option, Some, None}
use Rattle.elab_rules.specs.cpp_types.declared.classes.At.{At}
use Rattle.elab_rules.specs.cpp_lex.Ints.{int_type_of}
use Rattle.elab_rules.specs.cpp_tree.declared.faults.IllRule.TheVariants.{OutOfProfile, UnknownName, Capture as CaptureRule}
use Rattle.elab_rules.specs.elab_ctx.Ctx.{Ctx, Work, Lambda}
use Rattle.elab_rules.specs.elab_ctx.Steps.{Made, Typed, at_of, spelling, value_at}
use Rattle.elab_rules.specs.Objects.{parts_of}
use Rattle.elab_rules.specs.cpp_types.Typ.{Typ, ptr}
use Rattle.elab_rules.specs.cpp_tree.Notation.{plain}
use Rattle.elab_rules.specs.Values.{valued}
use Rattle.elab_rules.specs.Names.{this_in, this_tree, captured_from, in_capture}
use Rattle.elab_rules.specs.Expressions.{expression_of, closure_at, captured_pieces, closure_object}
use Rattle.elab_laws.specs.Reading.{On, IsPrvalue}
use Rattle.elab_laws.specs.Primary.{CapturedPointer, CapturedThises, Integer, Parenthesized, ThisPointer, OfClosure, Integers, Characters, Booleans, Pointers}
use Rattle.elab_laws.specs.Primary.{Texts, Parentheses, Thises, Lambdas}
use Rattle.elab_laws.proofs.Reading.{skip, expected, after, tree_in, made_in}

pub integers_law : Integers
integers_law s c w p t = expected (λ (r : Typed). Integer s c t r.operand.tree) (at_of p) OutOfProfile (int_type_of (spelling s t) (value_at s t)) _
    (λ kind h. record { kind = kind; fits = h; result = record { has_type = refl; category = refl }; value = refl })

pub characters_law : Characters
characters_law s c w p t = record { has_type = refl; category = refl }

pub booleans_law : Booleans
booleans_law s c w p t = record { has_type = refl; category = refl }

pub pointers_law : Pointers
pointers_law s c w p t = record { has_type = refl; category = refl }

pub texts_law : Texts
texts_law s c w p t = record { has_type = refl; category = refl }

pub parentheses_law : Parentheses
parentheses_law s c w p t e = after (Parenthesized s c w e) (expression_of s c w e) _ (λ x h. record { inner = x; inner_is = h; same = refl })

this_law : (c : Ctx) (at : At) (l : Option Lambda) → l ≡ None → On (ThisPointer c) (this_in c at l)
this_law c at None h = expected (ThisPointer c) at UnknownName c.this _
    (λ y i. record { this = y; is_there = i; result = record { has_type = refl; category = refl } })
this_law c at (Some l) h = absurd cc

pub this_pointer_law : Thises
this_pointer_law s c w p t h = tree_in (ThisPointer c) (at_of p) w (this_tree c (at_of p)) (this_law c (at_of p) c.lambda h)

captured_this_in : (c : Ctx) (at : At) (l : Lambda) (o : Option Lambda) → o ≡ Some l → On (CapturedPointer l) (this_in c at o)
captured_this_in c at l None h = absurd cc
captured_this_in c at l (Some m) h = let e : m ≡ l = cc in
    rw e (expected (CapturedPointer l) at CaptureRule (captured_from 0 None l.captures) _
    (λ x f. expected (CapturedPointer l) at UnknownName c.this _
    (λ y g. record {
      captured = x;
      is_there = f;
      result = λ t d v i. subst (λ (u : Typ). IsPrvalue (plain (ptr t)) (valued at (in_capture c at y l x.index u)))
          (sym i) (record { has_type = refl; category = refl });
    })))

pub captured_this_law : CapturedThises
captured_this_law s c w p t l h = tree_in (CapturedPointer l) (at_of p) w (this_tree c (at_of p)) (captured_this_in c (at_of p) l c.lambda h)

closure_law : (c : Ctx) (w : Work) (at : At) → On (λ (m : Made). OfClosure c at m.tree) (closure_object c c.closures w at)
closure_law c w at = expected (λ (m : Made). OfClosure c at m.tree) at OutOfProfile (closure_at at c.closures) _
    (λ x h. skip (λ (m : Made). OfClosure c at m.tree) (captured_pieces c w (parts_of c.classes x.class) x.captures) _
    (λ m. record { made = x; is_there = h; result = record { has_type = refl; category = refl } }))

pub lambdas_law : Lambdas
lambdas_law s c w p t kids = made_in (OfClosure c (at_of p)) (at_of p) (closure_object c c.closures w (at_of p)) (closure_law c w (at_of p))
