-- What an image shows.
use Rattle.std.specs.Prelude.{map}
use Rattle.tx_code.specs.declared.image.Image.{Image}
use Rattle.tx_code.specs.Objects.{bytes_of}
use Rattle.tx_code.specs.Images.{ImageView, image_func_view, image_class_view}

abbrev pub image_view : Image → ImageView
image_view i = record {
  types = map bytes_of i.types.items;
  funcs = map image_func_view i.funcs.items;
  classes = map image_class_view i.classes.items;
  globals =
      i.globals.items;
  size = i.size;
  main = i.main;
}
