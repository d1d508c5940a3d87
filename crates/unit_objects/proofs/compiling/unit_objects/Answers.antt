use Rattle.std.proofs.Common.{◌≡◌, ◌∙◌, ℕ, Some, [], ◌∷◌, ◌++◌, List, ap, subst, sym, rules, length, map, slice_get, arith}
use Rattle.std.specs.List.{All}
use Rattle.std.proofs.lemmas.List.Elements.{All-append, All-cons, All-nil}
use Rattle.std.specs.Prelude.{string_bytes}
use Rattle.std.proofs.lemmas.Option.{slice_get-get_or}
use Rattle.tx_code.specs.declared.object.Object.{Object}
use Rattle.tx_code.specs.Objects.{ObjectView, object_view}
use Rattle.tx_code.specs.WellFormed.{IsObject}
use Rattle.cpp_tree.specs.Units.{program_of}
use Rattle.tx_safety.specs.Answers.{checked_in}
use Rattle.unit_objects.specs.Units.{IsNamedObject}
use Rattle.unit_objects.proofs.Pushed.{each_too, name_at, views_too, one_more}
use Rattle.unit_objects.proofs.compiling.unit_objects.Goals as goal

pub texts-preserved : goal.texts-preserved
texts-preserved c =
    let objects = c.texts.objects.items in
    let object = c.in_ok-object_at.field-0 in
    let p = program_of (checked_in c.args.safe.now) in
    let names = map string_bytes c.args.names.now in
    let pushed : c.push.new.self.items ≡ objects ++ object ∷ [] = search rules in
    let views : map object_view c.push.new.self.items ≡ map object_view objects ++ object_view object ∷ [] =
    ap (λ (os : List Object). map object_view os) pushed ∙ views_too objects object in
    let found = c.in-Some.ensures.lookup in
    let named : slice_get names c.texts.index ≡ Some c.as_bytes.result.now =
    name_at c.args.names.now c.texts.index c.in-Some.name.now
    (slice_get-get_or c.args.names.now c.texts.index c.in-Some.name.now found.3.0 ∙ ap Some (sym found.1)) ∙ ap Some (sym c.as_bytes.ensures.value) in
    let at : length (map object_view objects) ≡ c.texts.index = c.texts.invariant.many in
    record {
      objects = subst (All (λ (o : Object). IsObject (object_view o))) (sym pushed)
          (All-append (λ (o : Object). IsObject (object_view o)) objects (object ∷ []) c.texts.invariant.objects
          (All-cons (λ (o : Object). IsObject (object_view o)) object [] c.in_ok-object_at.ensures.object
          (All-nil (λ (o : Object). IsObject (object_view o)))));
      many = ap (λ (os : List ObjectView). length os) views ∙ one_more (map object_view objects) (object_view object) c.texts.index at;
      each = subst (λ (os : List ObjectView). (i : ℕ) (o : ObjectView) → slice_get os i ≡ Some o → IsNamedObject p names i o) (sym views)
          (each_too (IsNamedObject p names) (map object_view objects) (object_view object) c.texts.invariant.each
          (subst (λ (i : ℕ). IsNamedObject p names i (object_view object)) (sym at)
          (record { name = c.as_bytes.result.now; named = named; is = c.in_ok-object_at.ensures.unit })));
    }
