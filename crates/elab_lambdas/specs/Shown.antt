-- What the records of the code show.
use Rattle.elab_entry.specs.cpp_types.Typ.{Signature}
use Rattle.elab_entry.specs.cpp_types.Class.{Function}
use Rattle.elab_entry.specs.elab_rules.Lambdas.{call_record}
use Rattle.elab_entry.specs.elab_types.Shown.{qualifiers_of}
use Rattle.elab_lambdas.specs.declared.closures.CallWords.{CallWords}

-- The call of a lambda
abbrev pub call_of : CallWords → Signature → Function
call_of x sig = call_record x.at sig (qualifiers_of x.qualifiers) x.is_mutable
