-- An image that is shown to be the code of a program.
use Rattle.tx_code.specs.Images.{ImageView}
use Rattle.src_bind.specs.Tables.{Given}
use Rattle.linked_images.specs.LinkedImages.{IsLinkedBy}
use Rattle.note_landing.specs.Books.{bounds}

-- It is linked from the program with a book of notes within the bounds of the search: ranks to 63, so that at most 64 instructions come of a step of the source.
abbrev pub IsShown : Given → ImageView → Type 0
IsShown g i = IsLinkedBy g i bounds
