use Rattle.std.proofs.Common.{◌≡◌, drop, slice_get}
use Rattle.cpp_types.specs.Class.{classes_of}
use Rattle.cpp_types.specs.Typ.{typ_of}
use Rattle.elab_entry.specs.elab_rules.Names.{members_in}
use Rattle.elab_entry.specs.elab_rules.Implicit.{members_copied, source_object, source_const}
use Rattle.elab_entry.specs.elab_scopes.States.{state_of}
use Rattle.elab_entry.proofs.elab_scopes.Behind.{SoFar}
use Rattle.elab_implicit.proofs.copying.members_copied.Given as goal

abbrev pub invariant-loop-member : goal.invariant-loop-member
invariant-loop-member l = record {
  so_far : SoFar l.fn.st l.st l.fn.list.items l.list.items
      (members_copied l.at l.class (source_object l.class (typ_of l.param) l.at) (source_const (typ_of l.param)) (state_of l.st) l.member
      (drop l.member (members_in (slice_get (classes_of l.fn.st.env.classes.items) l.class))))
      (members_copied l.at l.class (source_object l.class (typ_of l.param) l.at) (source_const (typ_of l.param)) (state_of l.fn.st) 0
      (members_in (slice_get (classes_of l.fn.st.env.classes.items) l.class)));
  classes : classes_of l.st.env.classes.items ≡ classes_of l.fn.st.env.classes.items;
}
