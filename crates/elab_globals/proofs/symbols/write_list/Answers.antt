use Rattle.std.proofs.Common.{◌∙◌, ◌++◌, List, ℕ, ap, sym, take, false, ltb}
use Rattle.std.specs.Prelude.{codes}
use Rattle.cpp_types.specs.Typ.{typ_of, typs_of}
use Rattle.cpp_types.specs.Class.{classes_of}
use Rattle.cpp_types.specs.Spelling.{where_set, spelling, listed}
use Rattle.cpp_types.proofs.Lists.{after_three, listed_more}
use Rattle.elab_globals.proofs.symbols.write_list.Goals as goal

pub loop-i-preserved : goal.loop-i-preserved
loop-i-preserved c =
    after_three c.args.out.now.items (listed (classes_of c.args.classes.now) false (typs_of (take c.loop-i.i c.args.types.now)))
    (where_set (ltb 0 c.loop-i.i) (codes ",")) (spelling (classes_of c.args.classes.now) (typ_of c.index-types-i.result)) c.loop-i.out.items
    c.write_if.new.out.items c.write_type.new.out.items c.loop-i.invariant c.in_ok-write_if.ensures c.in_ok-write_type.ensures
    ∙ ap (λ (z : List ℕ). c.args.out.now.items ++ z) (sym
    (listed_more (classes_of c.args.classes.now) c.args.types.now c.loop-i.i c.index-types-i.result c.loop-i-test.true c.index-types-i.is))
