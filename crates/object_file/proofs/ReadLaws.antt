-- What a reader answers, from what is read of its bytes.
use Rattle.std.proofs.Common.{◌≡◌, ℕ, ◌^◌, ◌<◌, arith, List, ◌++◌, length, Result, Ok, Err, refl, sym, ap, subst, ◌∙◌}
use Rattle.std.specs.Prelude.{IfOk}
use Rattle.std.proofs.lemmas.List.{append-nil, nil_from_length}
use Rattle.tx_code.specs.declared.object.Object.{Object}
use Rattle.tx_code.specs.Objects.{ObjectView, object_view}
use Rattle.object_file.specs.declared.fault.ObjectFault.{ObjectFault}
use Rattle.object_file.specs.declared.fault.ObjectFault.TheVariants.{BadObject, Memory}
use Rattle.object_bytes.specs.Spelling.{Spells, object_bytes}
use Rattle.object_bytes.specs.Objects.{object, unless_wrong, wrong_as_a_whole, to_the_end, decoded}
use Rattle.object_file.specs.Answers.{IsAnswer, IsObjectOrMemory, IsFirstWrong, IsSmall}
use Rattle.object_bytes.proofs.Codec.{IsBytes}
use Rattle.object_bytes.proofs.ObjectLaws.{object_reads}
use Rattle.object_bytes.proofs.WholeLaws.{decoded_spells, decoded_again}

pub small_object : (bytes : List ℕ) (o : ObjectView) (rest : List ℕ) → IsBytes bytes → object bytes ≡ Ok (o, rest) → length rest ≡ 0 → length bytes < 2 ^ 63
    → IsSmall o
small_object bytes o rest fits e none small =
    let t = object_reads.took bytes o rest fits e in
    let bytes-are : bytes ≡ object_bytes o = t.parts ∙ ap (λ (z : List ℕ). t.part ++ z) (nil_from_length rest none) ∙ append-nil t.part ∙ t.holds.spelled in
    let size : length bytes ≡ length (object_bytes o) = ap length bytes-are in
    record { ascend = t.holds.fits.classes_ascend; few = omega arith }

pub read_whole : (bytes : List ℕ) (o : ObjectView) (rest : List ℕ) → object bytes ≡ Ok (o, rest) → length rest ≡ 0
    → decoded bytes ≡ unless_wrong o (wrong_as_a_whole o)
unfolding decoded
read_whole bytes o rest e none = ap (to_the_end (length bytes)) e ∙ rw none refl

pub answered : (bytes : List ℕ) (read : Result ObjectView ℕ) (result : Result Object ObjectFault) → decoded bytes ≡ read → IsAnswer result read
    → IsAnswer result (decoded bytes)
answered bytes read result e h = subst (IsAnswer result) (sym e) h

pub is_spelled : (bytes : List ℕ) (result : Result Object ObjectFault) → IsBytes bytes → IsAnswer result (decoded bytes)
    → IfOk result (λ o. Spells (object_view o) bytes)
is_spelled bytes (Ok o) fits h = decoded_spells bytes (object_view o) fits h
is_spelled bytes (Err (BadObject at)) fits h = tt
is_spelled bytes (Err Memory) fits h = tt

ok_is : (x y : ObjectView) → Path (Result ObjectView ℕ) (Ok x) (Ok y) → x ≡ y
ok_is x y e = cc

no_ok : (x : ObjectView) (at : ℕ) → Path (Result ObjectView ℕ) (Err at) (Ok x) → ⊥
no_ok x at e = absurd cc

pub is_read : (bytes : List ℕ) (result : Result Object ObjectFault) (o : ObjectView) → IsAnswer result (decoded bytes) → Spells o bytes
    → IsObjectOrMemory result o
is_read bytes (Ok read) o h s = ok_is (object_view read) o (sym h ∙ decoded_again bytes o s)
is_read bytes (Err (BadObject at)) o h s = no_ok o at (sym h ∙ decoded_again bytes o s)
is_read bytes (Err Memory) o h s = tt

pub is_first : (bytes : List ℕ) (result : Result Object ObjectFault) → IsAnswer result (decoded bytes) → IsFirstWrong result bytes
is_first bytes (Ok read) h = tt
is_first bytes (Err (BadObject at)) h = (h, λ o s. no_ok o at (sym h ∙ decoded_again bytes o s))
is_first bytes (Err Memory) h = tt
