-- How many frames there are.
use Rattle.std.specs.Prelude.{ℕ, suc}
use Rattle.symbolic_terms.specs.declared.frames.Frames.{Frames}
use Rattle.symbolic_terms.specs.declared.frames.Frames.TheVariants.{Empty, More'}

abbrev pub depth : Frames → ℕ
depth Empty = 0
depth (More' g p k) = suc (depth k)
