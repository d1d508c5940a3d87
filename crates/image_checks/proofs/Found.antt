-- Notes that are found for a body are notes of it.
use Rattle.tx_code.specs.Images.{ImageView}
use Rattle.src_bind.specs.Tables.{Given}
use Rattle.note_landing.specs.Books.{bounds}
use Rattle.image_notes.specs.Noted.{AllHaveNotes}
use Rattle.linked_images.specs.LinkedImages.{AllNoted}

pub all_noted : (g : Given) (i : ImageView) → AllHaveNotes i g → AllNoted g i bounds
all_noted g i all n safe body e =
    let h = all n safe body e in
    record { notes = h.notes; typs = h.typs; checked = λ others types. h.checked others types }
