use Rattle.std.proofs.Common.{◌≡◌, ◌++◌, ◌-◌, drop, map}
use Rattle.cpp_tree.specs.cpp_types.Typ.{typ_of}
use Rattle.src_mean.specs.Links.{word_places}
use Rattle.src_bind.specs.Infos.{word_of}
use Rattle.src_bind.proofs.infos.words_of.Given as goal

abbrev pub invariant-loop-i : goal.invariant-loop-i
invariant-loop-i l = map word_of l.words.items ++ word_places (l.count - l.i) (drop l.i l.offsets) (map typ_of (drop l.i l.items))
    ≡ word_places l.count l.offsets (map typ_of l.items)
