-- What the records of the code show, and what answers with them say.
use Rattle.std.specs.Prelude.{◌≡◌, ℕ, List, map, Result, Ok, Err}
use Rattle.cpp_types.specs.Typ.{signature_of}
use Rattle.cpp_types.specs.Class.{member_of}
use Rattle.elab_init.specs.cpp_tree.declared.faults.ElabFault.{ElabFault}
use Rattle.elab_init.specs.elab_ctx.Ctx.{Ctx, Work}
use Rattle.elab_init.specs.elab_ctx.Says.{Faults}
use Rattle.elab_init.specs.elab_rules.Statements.{Body}
use Rattle.elab_init.specs.elab_rules.Functions.{Storage, Header}
use Rattle.elab_init.specs.elab_rules.Classes.{Begun, Home, Members, Marks, Definition}
use Rattle.elab_types.specs.Shown.{parameter_of, qualifiers_of}
use Rattle.class_members.specs.declared.records.Storage.{Storage as StorageRec}
use Rattle.class_members.specs.declared.records.Header.{Header as HeaderRec}
use Rattle.class_members.specs.declared.records.Marks.{Marks as MarksRec}
use Rattle.class_members.specs.declared.records.Definition.{Definition as DefinitionRec}
use Rattle.class_members.specs.declared.records.Home.{Home as HomeRec}
use Rattle.class_members.specs.declared.records.Members.{Members as MembersRec}

abbrev pub storage_of : StorageRec → Storage
storage_of x = record { is_static = x.is_static; is_extern = x.is_extern; is_inline = x.is_inline; is_virtual = x.is_virtual; is_c = x.is_c }

abbrev pub header_of : HeaderRec → Header
header_of h = record {
  name = h.name.items;
  at = h.at;
  signature = signature_of h.ty;
  params = map parameter_of h.params.items;
  qualifiers =
      qualifiers_of h.qualifiers;
  storage = storage_of h.storage;
  kind = h.kind;
  class = h.class;
}

abbrev pub marks_of : MarksRec → Marks
marks_of m = record { is_override = m.is_override; is_final = m.is_final; is_pure = m.is_pure }

abbrev pub definition_of : DefinitionRec → Definition
definition_of d = record { text = d.text.items; closed_at = d.closed_at }

abbrev pub home_of : HomeRec → Home
home_of h = record { number = h.number; name = h.name.items; base = h.base; is_final = h.is_final }

-- a class while its members are read
abbrev pub reading : Ctx → Work → List Body → MembersRec → Members
reading c w bodies m = record {
  state = record { ctx = c; work = w; bodies = bodies };
  members = map member_of m.members.items;
  initialised =
      m.initialised.items;
}

-- what is to be answered is this, or its fault is answered
abbrev pub Answers : {A B : Type 0} → B → Result A ElabFault → Result B ElabFault → Type 0
Answers b (Ok a) x = x ≡ Ok b
Answers b (Err e) x = Faults e x

-- a class that was begun has the number that is answered
abbrev pub Begins : Ctx → Result ℕ ElabFault → Result Begun ElabFault → Type 0
Begins c (Ok n) x = x ≡ Ok (record { ctx = c; number = n })
Begins c (Err e) x = Faults e x
