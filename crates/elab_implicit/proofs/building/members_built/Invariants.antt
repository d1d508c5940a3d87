use Rattle.std.proofs.Common.{◌≡◌, drop, map, slice_get}
use Rattle.cpp_types.specs.Class.{classes_of}
use Rattle.elab_entry.specs.elab_rules.Names.{members_in}
use Rattle.elab_entry.specs.elab_rules.Members.{members_built}
use Rattle.elab_entry.specs.elab_scopes.States.{state_of, made}
use Rattle.elab_entry.proofs.elab_scopes.Behind.{SoFar}
use Rattle.elab_implicit.specs.Written.{given_in}
use Rattle.elab_implicit.proofs.building.members_built.Given as goal

abbrev pub invariant-loop-member : goal.invariant-loop-member
invariant-loop-member l = record {
  so_far : SoFar l.fn.st l.st l.fn.list.items l.list.items
      (members_built l.at l.class (map (given_in (made l.fn.st)) l.given) (state_of l.st) l.member
      (drop l.member (members_in (slice_get (classes_of l.fn.st.env.classes.items) l.class))))
      (members_built l.at l.class (map (given_in (made l.fn.st)) l.given) (state_of l.fn.st) 0
      (members_in (slice_get (classes_of l.fn.st.env.classes.items) l.class)));
  classes : classes_of l.st.env.classes.items ≡ classes_of l.fn.st.env.classes.items;
}
