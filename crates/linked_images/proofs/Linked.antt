-- Where an image and a bound program agree and the bodies are checked, the image is linked from the program.
use Rattle.std.proofs.Common.{ℕ, ◌≡◌, ◌==◌, ◌+◌, ◌*◌, ◌≤◌, true, false, refl, sym, subst, List, [], ◌∷◌, length, arith}
use Rattle.std.specs.Prelude.{◌&&◌, nat_lt}
use Rattle.std.proofs.lemmas.Bool.{and_parts, eqb-true, ltb-false}
use Rattle.tx_events.specs.Memory.{stacks_start, stack_stride, stack_size}
use Rattle.tx_code.specs.Images.{ImageView}
use Rattle.tx_code.specs.Meaning.{Names}
use Rattle.tx_code.specs.Program.{names_of}
use Rattle.src_mean.specs.Linked.{Program}
use Rattle.src_bind.specs.Tables.{Given, CanBind, typed, linked_of}
use Rattle.body_check.specs.Notes.{Bounds}
use Rattle.body_check.specs.Calls.{Book, Links, Begins}
use Rattle.checked_runs.specs.Beginnings.{CanBegin}
use Rattle.checked_runs.proofs.ImageCode.{same_cells}
use Rattle.image_links.specs.Books.{func_takes, func_gives}
use Rattle.image_links.specs.Agreeing.{counts_agree, same_funcs, units_agree, threads_agree, main_agrees, agrees, linked_book}
use Rattle.image_links.proofs.Agreed.{linked_where_agreed}
use Rattle.image_links.proofs.Small.{small_where_agreed}
use Rattle.linked_images.specs.LinkedImages.{Agree, IsLinkedWhereChecked}

main_is : (i : ImageView) (g : Given) → agrees i g ≡ true → i.main ≡ (linked_of g).main
main_is i g h =
    let a = and_parts (counts_agree i g) (same_funcs (linked_of g) 0 i.funcs &&
    (units_agree i g (typed g).units && (threads_agree i g && main_agrees i g))) h in
    let b = and_parts (same_funcs (linked_of g) 0 i.funcs) (units_agree i g (typed g).units && (threads_agree i g && main_agrees i g)) a.1 in
    let c = and_parts (units_agree i g (typed g).units) (threads_agree i g && main_agrees i g) b.1 in
    let d = and_parts (threads_agree i g) (main_agrees i g) c.1 in
    eqb-true i.main (linked_of g).main (and_parts (i.main == (linked_of g).main) ((func_takes (linked_of g) i.main == 0) && func_gives i i.main) d.1).0

frame_fits : (start size : ℕ) → nat_lt (start + 65536) (start + size) ≡ false → size ≤ 65536
frame_fits start size e = let l = ltb-false (start + 65536) (start + size) e in omega (arith, l)

module _ (p : Program) (names : Names) (b : Bounds) (book : Book) (links : Links p names b book) where
  can_begin : (id n : ℕ) (words : List ℕ) → Begins p names book id n words → CanBegin names book n (id == 0) (length words)
  can_begin id n words h = record {
    body = h.body;
    there = h.there;
    gives_so = h.gives;
    takes_so = h.takes;
    room = subst (λ z. z ≤ stack_size) (sym (links.frames n false)) (frame_fits (stacks_start + stack_stride * id) (book.held n false).func.size h.room);
  }

pub linked_where_checked : (g : Given) (i : ImageView) → Agree g i → CanBind (typed g) → IsLinkedWhereChecked g i
linked_where_checked g i h can b notes typs checked =
    let l = linked_where_agreed i g h.tables b notes typs checked in
    record {
      code = record {
        links = l.links;
        small = small_where_agreed i g h.tables can;
        main_is = main_is i g h.tables;
        main = can_begin (linked_of g) (names_of i) b (linked_book i g notes typs) l.links 0 (linked_of g).main [] l.main;
        started = λ address n found. can_begin (linked_of g) (names_of i) b (linked_book i g notes typs) l.links 1 n (0 ∷ [])
            (l.threads 1 address n 0 refl found);
      };
      globals = same_cells (typed g) (linked_of g) i h.globals.size h.globals.cells;
    }
