use Rattle.std.proofs.Common.{◌≡◌, Err, rules}
use Rattle.cpp_types.specs.Typ.{typ_of}
use Rattle.elab_entry.specs.elab_rules.Implicit.{source_object, source_const}
use Rattle.elab_implicit.proofs.CopyLists.{parts_done, parts_fail, parts_refused}
use Rattle.elab_implicit.proofs.PartLists.{lists_fail}
use Rattle.elab_implicit.proofs.copying.parts_from.Goals as goal

pub returns : goal.returns
returns c = parts_done c.args.st.now _ _ c.args.at c.args.class (source_object c.args.class (typ_of c.args.param.now) c.args.at)
    (source_const (typ_of c.args.param.now)) _ _ c.in_ok-list.ensures.is c.in_ok-list.ensures.classes c.in_ok-members_copied.ensures

pub returns-in_err-list : goal.returns-in_err-list
returns-in_err-list c =
    let is_error : c.from_residual.result ≡ Err c.in_err-list.field-0.0 = search rules in
    lists_fail _ _ _ _ _ is_error (parts_refused c.args.st.now c.args.at c.args.class (source_object c.args.class (typ_of c.args.param.now) c.args.at)
    (source_const (typ_of c.args.param.now)) _ c.in_err-list.ensures.is)

pub returns-in_err-members_copied : goal.returns-in_err-members_copied
returns-in_err-members_copied c =
    let is_error : c.from_residual-in_err-members_copied.result ≡ Err c.in_err-members_copied.field-0.0 = search rules in
    lists_fail _ _ _ _ _ is_error (parts_fail c.args.st.now _ c.args.at c.args.class (source_object c.args.class (typ_of c.args.param.now) c.args.at)
    (source_const (typ_of c.args.param.now)) _ _ c.in_ok-list.ensures.is c.in_ok-list.ensures.classes c.in_err-members_copied.ensures)
