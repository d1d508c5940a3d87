use Rattle.std.proofs.Common.{map}
use Rattle.tx_code.specs.Objects.{bytes_of}
use Rattle.link_parts.specs.Told.{TellNames}
use Rattle.tx_linker.specs.Kept.{objects_of}
use Rattle.tx_linker.proofs.image.parts_of.Goals as goal

pub returns : goal.returns
returns c =
    let types = map bytes_of c.in_ok-types.types.items in
    let told : TellNames (objects_of c.args.kept.now) types c.in_ok-numbers.numbers = rw c.deref.ensures.value at c.in_ok-numbers.ensures in
    record {
      types_ascend = c.in_ok-types.ensures.types.ascend;
      types = c.in_ok-types.ensures.types.same;
      funcs = c.in_ok-funcs.ensures types told;
      classes = c.in_ok-classes.ensures types told;
      globals = c.in_ok-globals.ensures types told;
      size = c.image_size.ensures;
      main = c.main_in.ensures;
    }
