use Rattle.std.proofs.Common.{◌++◌, ◌∙◌, ap, refl}
use Rattle.cpp_types.specs.Class.{classes_of}
use Rattle.elab_implicit.proofs.PartLists.{listed_more, more_same}
use Rattle.elab_implicit.proofs.copying.first_copied.Goals as goal

pub returns-clause-is : goal.returns-clause-is
returns-clause-is c = listed_more c.args.st.now _ _ _ _ _ _ _ c.in_ok-list.ensures.is
    (more_same _ _ _ c.args.at c.args.class _ (classes_of c.args.st.now.env.classes.items) c.in_ok-list.ensures.classes c.in_ok-more.ensures)
    (c.in_ok-keep_all.ensures ∙ ap (λ z. c.in_ok-list.list.items ++ z) c.deref.ensures.value) refl
