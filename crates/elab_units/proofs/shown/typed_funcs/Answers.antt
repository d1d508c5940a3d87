use Rattle.std.proofs.Common.{◌≡◌, ◌∙◌, [], ◌∷◌, ◌++◌, List, None, length, map, ap, sym, append_assoc, append-nil, arith, refl, rules}
use Rattle.std.specs.Vec.Iter.{into_iter_items}
use Rattle.elab_entry.specs.cpp_types.Class.{classes_of}
use Rattle.elab_entry.specs.cpp_tree.Units.{Func as TypedFunc, func_of as shown_of}
use Rattle.elab_entry.specs.elab_ctx.Ctx.{func_of}
use Rattle.elab_entry.specs.elab_ctx.declared.env.FuncDecl.{FuncDecl}
use Rattle.elab_entry.specs.elab_rules.Programs.{typed_func}
use Rattle.elab_units.proofs.Joins.{map_more, nothing_left}
use Rattle.tree_forests.proofs.Forests.{none_gets, bare_behind}
use Rattle.elab_units.proofs.shown.typed_funcs.Goals as goal

pub loop-found-init : goal.loop-found-init
loop-found-init c =
    let none : c.new-list.result.items ≡ [] = search rules in
    record { shown = λ trees. rw none refl; bare = none_gets _ none; count = search rules }

pub loop-found-preserved : goal.loop-found-preserved
loop-found-preserved c =
    let at = c.loop-found in
    let bare : FuncDecl → TypedFunc = λ (f : FuncDecl). typed_func (classes_of c.args.classes.now) (func_of f) None in
    let steps : into_iter_items at.found-iterator ≡ c.in-Some.found ∷ into_iter_items c.next.new.self = c.in-Some.ensures.steps.0 in
    record {
      shown = λ trees. ap (λ (z : List TypedFunc). z ++ map bare (into_iter_items c.next.new.self))
          (ap (map (shown_of trees)) c.in_ok-push.ensures.items ∙ map_more (shown_of trees) at.list.items c.in_ok-made.made
          ∙ ap (λ (z : TypedFunc). map (shown_of trees) at.list.items ++ z ∷ []) (c.in_ok-made.ensures.shown trees))
          ∙ append_assoc (map (shown_of trees) at.list.items) (bare c.in-Some.found ∷ []) (map bare (into_iter_items c.next.new.self))
          ∙ ap (λ (z : List FuncDecl). map (shown_of trees) at.list.items ++ map bare z) (sym steps) ∙ at.invariant.shown trees;
      bare = bare_behind _ _ c.in_ok-made.made at.invariant.bare c.in_ok-made.ensures.bare c.in_ok-push.ensures.items;
      count = let was = at.invariant.count in let gone = c.in-Some.ensures.steps.1 in let short = ap length steps in omega arith;
    }

pub returns-clause-shown : goal.returns-clause-shown
returns-clause-shown c trees =
    let at = c.loop-found in
    let bare : FuncDecl → TypedFunc = λ (f : FuncDecl). typed_func (classes_of c.args.classes.now) (func_of f) None in
    let none = c.in-None.ensures.steps in
    let empty : into_iter_items at.found-iterator ≡ [] = nothing_left _ (sym at.invariant.count ∙ none.0) in
    sym (append-nil (map (shown_of trees) at.list.items)) ∙ ap (λ (z : List FuncDecl). map (shown_of trees) at.list.items ++ map bare z) (sym empty)
    ∙ at.invariant.shown trees ∙ ap (map bare) c.into_iter-found-iterator.ensures.into_iter_gives.0
