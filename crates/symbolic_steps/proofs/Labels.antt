-- Labels among the items of a switch.
use Rattle.std.proofs.Common.{◌≡◌, ◌<◌, refl, arith}
use Rattle.std.specs.Prelude.{Bool, true, false}
use Rattle.cpp_tree.specs.declared.kinds.TKind.{TKind}
use Rattle.cpp_tree.specs.Trees.{Trees, none, more, kind_of, first, rest}
use Rattle.src_mean.specs.Source.{from_label}
use Rattle.src_frames.specs.Trees.{are_none, count_of}

pub fewer : (ks : Trees) → are_none ks ≡ false → count_of (rest ks) < count_of ks
fewer none e = absurd cc
fewer (more t ts) e = omega arith

pub label_next : (test : TKind → Bool) (ks : Trees) → are_none ks ≡ false → test (kind_of (first ks)) ≡ false → from_label test ks ≡ from_label test (rest ks)
label_next test none e n = absurd cc
label_next test (more t ts) e n = rw n

pub label_here : (test : TKind → Bool) (ks : Trees) → are_none ks ≡ false → test (kind_of (first ks)) ≡ true → from_label test ks ≡ ks
label_here test none e n = absurd cc
label_here test (more t ts) e n = rw n

pub label_none : (test : TKind → Bool) (ks : Trees) → are_none ks ≡ true → from_label test ks ≡ ks
label_none test none e = refl
label_none test (more t ts) e = absurd cc
