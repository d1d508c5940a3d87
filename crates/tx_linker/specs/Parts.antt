-- What the parts of an image show.
use Rattle.std.specs.Prelude.{map}
use Rattle.tx_code.specs.Objects.{bytes_of}
use Rattle.tx_code.specs.Images.{ImageView, image_func_view, image_class_view}
use Rattle.tx_linker.specs.declared.image.Parts.{Parts}

abbrev pub parts_view : Parts → ImageView
parts_view p = record {
  types = map bytes_of p.types.items;
  funcs = map image_func_view p.funcs.items;
  classes = map image_class_view p.classes.items;
  globals =
      p.globals.items;
  size = p.size;
  main = p.main;
}
