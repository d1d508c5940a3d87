use Rattle.std.proofs.Common.{rules, ◌<◌, List, [], length, map, true, refl, ap}
use Rattle.elab_expr.specs.cpp_tree.Units.{Global, cell_of, global_of}
use Rattle.elab_expr.specs.elab_ctx.Ctx.{work_of}
use Rattle.elab_expr.specs.elab_rules.Globals.{new_global, no_global_storage}
use Rattle.elab_decls.proofs.Lists.{changed_at}
use Rattle.elab_decls.proofs.declarations.define_global.Goals as goal

pub returns-in-Some : goal.returns-in-Some
returns-in-Some c t =
    let within : c.args.place < length c.args.work.now.globals.items = search rules in
    ap (λ (z : List Global). record (work_of c.args.work.now) { globals = z })
    (changed_at global_of (λ (z : Global). record z {
      init = map cell_of c.args.cells.items;
      defined =
          true;
    }) c.args.work.now.globals.items c.args.place c.in-Some.global.now
    (record {
      symbol = c.in-Some.global.now.symbol;
      ty = c.in-Some.global.now.ty;
      linkage = c.in-Some.global.now.linkage;
      init = c.args.cells;
      defined =
          true;
    }) (new_global [] no_global_storage t) within c.in-Some.ensures.value refl)
