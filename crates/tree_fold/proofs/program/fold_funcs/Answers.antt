use Rattle.std.proofs.Common.{◌≡◌, ◌<◌, List, length, slice_get, arith, refl, ap, ◌∙◌}
use Rattle.cpp_tree.specs.Arena.{trees_of}
use Rattle.cpp_tree.specs.declared.program.TFunc.{TFunc}
use Rattle.tree_fold.proofs.ProgramParts.{found, no_funcs_yet, all_funcs, body_is_within, next_roots, set_long, next_func_at}
use Rattle.tree_forests.proofs.Behind.{forest_none}
use Rattle.tree_fold.proofs.Forests.{next_root, all_roots}
use Rattle.tree_fold.proofs.program.fold_funcs.Goals as goal

pub loop-i-init : goal.loop-i-init
loop-i-init c = record { long = refl; roots = c.requires.roots; folded = λ v s. no_funcs_yet v _ _ _; own = forest_none c.args.nodes.now.items }

pub fold_body-requires : goal.fold_body-requires
fold_body-requires c =
    let n : c.len-i-end.result ≡ length c.args.funcs.now.items = c.len-i-end.ensures ∙ c.args.funcs.now.ok.0 in
    let h : c.loop-i.i < length c.loop-i.funcs.items = omega (arith, c.loop-i-test.true, n, c.loop-i.invariant.long) in
    let f = found c.loop-i.funcs.items c.loop-i.i h in
    record {
      ordered = c.requires.ordered;
      many = c.requires.many;
      within = body_is_within c.args.from.now c.loop-i.funcs.items c.loop-i.i f.0 c.body_at-old.result c.loop-i.invariant.roots f.1
          (c.body_at-old.ensures f.0 (ap (λ (z : List TFunc). slice_get z c.loop-i.i) c.as_slice.ensures.value ∙ f.1));
    }

pub loop-i-preserved : goal.loop-i-preserved
loop-i-preserved c =
    let n : c.len-i-end.result ≡ length c.args.funcs.now.items = c.len-i-end.ensures ∙ c.args.funcs.now.ok.0 in
    let h : c.loop-i.i < length c.loop-i.funcs.items = omega (arith, c.loop-i-test.true, n, c.loop-i.invariant.long) in
    let f = found c.loop-i.funcs.items c.loop-i.i h in
    let old = c.body_at-old.ensures f.0 (ap (λ (z : List TFunc). slice_get z c.loop-i.i) c.as_slice.ensures.value ∙ f.1) in
    let e = c.set_body.ensures f.0 f.1 in
    record {
      long = set_long c.loop-i.funcs.items c.set_body.new.funcs.items c.loop-i.i (length c.args.funcs.now.items) _ c.loop-i.invariant.long e;
      roots = next_roots c.args.from.now c.loop-i.funcs.items c.set_body.new.funcs.items c.loop-i.i _ c.loop-i.invariant.roots e;
      folded = λ v s. next_func_at v (trees_of c.args.from.now) (trees_of c.loop-i.nodes.items)
          (trees_of c.fold_body.new.nodes.items) c.loop-i.i c.args.funcs.now.items c.loop-i.funcs.items c.set_body.new.funcs.items f.0 c.body_at-old.result
          c.in_ok-body.body
          (c.loop-i.invariant.folded v s) h f.1 old (c.in_ok-body.ensures.body v s) e;
      own = next_root c.args.nodes.now.items c.loop-i.nodes.items c.fold_body.new.nodes.items c.loop-i.i c.loop-i.funcs.items c.set_body.new.funcs.items f.0
          c.in_ok-body.body c.loop-i.invariant.own h c.in_ok-body.ensures.own e;
    }

pub returns-clause-funcs : goal.returns-clause-funcs
returns-clause-funcs c =
    let n : c.len-i-end.result ≡ length c.args.funcs.now.items = c.len-i-end.ensures ∙ c.args.funcs.now.ok.0 in
    λ v s. all_funcs v (trees_of c.args.from.now) (trees_of c.loop-i.nodes.items) c.loop-i.i c.args.funcs.now.items c.loop-i.funcs.items
    (c.loop-i.invariant.folded v s) (omega (arith, c.loop-i-test.false, n, c.loop-i.invariant.long))

pub returns-clause-own : goal.returns-clause-own
returns-clause-own c =
    let n : c.len-i-end.result ≡ length c.args.funcs.now.items = c.len-i-end.ensures ∙ c.args.funcs.now.ok.0 in
    all_roots c.args.nodes.now.items c.loop-i.nodes.items c.loop-i.i c.loop-i.funcs.items c.loop-i.invariant.own
    (omega (arith, c.loop-i-test.false, n, c.loop-i.invariant.long))
