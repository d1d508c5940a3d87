use Rattle.std.proofs.Common.{◌∙◌, ◌++◌, List, ℕ, ap, sym, take, false, ltb}
use Rattle.std.specs.Prelude.{codes}
use Rattle.cpp_types.specs.Typ.{typ_of, typs_of}
use Rattle.cpp_types.specs.Class.{classes_of}
use Rattle.cpp_types.specs.Spelling.{where_set, spelling, listed}
use Rattle.cpp_types.proofs.Lists.{ok_same, after_three, after_six, listed_more, function_view, pointer_func, pointer_plain}
use Rattle.cpp_types.proofs.spelling.+spell.Goals as goal

pub write_function-returns : goal.write_function-returns
write_function-returns t c =
    ok_same c.write_if.result _ _ _
    (after_six c.args.out.now.items _ c.args.before.now (codes "(") _
    (codes ")") _ _ _ _ _ _ c.in_ok-write_type.ensures c.in_ok-extend_from_slice.ensures.items c.in_ok-extend_from_slice-2.ensures.items
    (c.in_ok-write_list.ensures ∙ ap (λ z. c.extend_from_slice-2.new.self.items ++ listed (classes_of c.args.classes.now) false
    (typs_of z)) c.deref.ensures.value) c.in_ok-extend_from_slice-3.ensures.items
    ∙ ap (λ (z : List ℕ). c.args.out.now.items ++ z) (sym (function_view (classes_of c.args.classes.now) c.args.function.now c.args.before.now)))
    c.write_if.ensures

pub write_list-loop-i-preserved : goal.write_list-loop-i-preserved
write_list-loop-i-preserved t c =
    after_three c.args.out.now.items (listed (classes_of c.args.classes.now) false (typs_of (take c.loop-i.i c.args.types.now)))
    (where_set (ltb 0 c.loop-i.i) (codes ",")) (spelling (classes_of c.args.classes.now) (typ_of c.index-types-i.result)) c.loop-i.out.items
    c.write_if.new.out.items c.write_type.new.out.items c.loop-i.invariant c.in_ok-write_if.ensures c.in_ok-write_type.ensures
    ∙ ap (λ (z : List ℕ). c.args.out.now.items ++ z) (sym
    (listed_more (classes_of c.args.classes.now) c.args.types.now c.loop-i.i c.index-types-i.result c.loop-i-test.true c.index-types-i.is))

pub write_pointer-returns-in-Func : goal.write_pointer-returns-in-Func
write_pointer-returns-in-Func t c =
    ok_same c.write_function_pointer.result _ _ _ (ap (λ (z : List ℕ). c.args.out.now.items ++ z)
    (pointer_func (classes_of c.args.classes.now) c.args.target.now.shape c.in-Func.function c.deref.result.now c.args.is_const c.args.is_volatile
    c.args.target.now.is_const c.args.target.now.is_volatile c.deref.ensures c.in-Func.is)) c.write_function_pointer.ensures

pub write_pointer-returns-in_default : goal.write_pointer-returns-in_default
write_pointer-returns-in_default t c =
    ok_same c.write_plain_pointer.result _ _ _ (ap (λ (z : List ℕ). c.args.out.now.items ++ z)
    (pointer_plain (classes_of c.args.classes.now) c.args.target.now.shape c.args.is_const c.args.is_volatile c.args.target.now.is_const
    c.args.target.now.is_volatile c.in_default.not-Func)) c.write_plain_pointer.ensures
