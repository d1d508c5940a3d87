-- Which of several unsafe nodes comes first in the text.
use Rattle.std.specs.Prelude.{nat_lt, ◌==◌, Bool, ◌&&◌, ◌||◌, Option, Some, None, cond}
use Rattle.cpp_types.specs.declared.classes.At.{At}
use Rattle.tx_unsafe.specs.declared.finding.Finding.{Finding}

abbrev pub is_before : At → At → Bool
is_before a b = nat_lt a.source b.source || ((a.source == b.source) && nat_lt a.offset b.offset)

-- the one found before, or this one where it stands before that one
abbrev pub sooner : Option Finding → Finding → Option Finding
sooner None x = Some x
sooner (Some y) x = cond (is_before x.at y.at) (Some x) (Some y)
