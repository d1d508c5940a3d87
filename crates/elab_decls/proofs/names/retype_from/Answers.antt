use Rattle.std.proofs.Common.{◌≤◌, ◌∙◌, ◌+◌, List, length, map, add-one, ap, sym, rules, arith}
use Rattle.std.proofs.lemmas.List.{length-map}
use Rattle.cpp_types.specs.Typ.{typ_of}
use Rattle.elab_expr.specs.elab_ctx.Ctx.{Enumerator, enumerator_of}
use Rattle.elab_expr.specs.elab_rules.Globals.{typed_from}
use Rattle.elab_decls.proofs.Lists.{one_typed, all_typed, as_many}
use Rattle.elab_decls.proofs.names.retype_from.Goals as goal

pub loop-i-preserved : goal.loop-i-preserved
loop-i-preserved c = (
  ap (typed_from (c.loop-i.i + 1) (typ_of c.args.ty.now)) c.in_ok-retype.ensures
      ∙ rw add-one (one_typed c.loop-i.i (typ_of c.args.ty.now) (map enumerator_of c.loop-i.list.items)) ∙ c.loop-i.invariant.0,
  ap (λ (z : List Enumerator). length z) c.in_ok-retype.ensures ∙ as_many (map enumerator_of c.loop-i.list.items) c.loop-i.i (typ_of c.args.ty.now)
      ∙ c.loop-i.invariant.1,
)

pub returns : goal.returns
returns c =
    let all : length c.args.list.now.items ≤ c.loop-i.i = search (rules, arith) in
    let many : length (map enumerator_of c.loop-i.list.items) ≤ c.loop-i.i =
    omega (arith, c.loop-i.invariant.1, length-map c.args.list.now.items enumerator_of) in
    sym (all_typed c.loop-i.i (typ_of c.args.ty.now) (map enumerator_of c.loop-i.list.items) many) ∙ c.loop-i.invariant.0
