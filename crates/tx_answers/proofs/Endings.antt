-- How a command ends, from its steps.
use Rattle.std.proofs.Common.{◌≡◌, ℕ, zero, suc, ◌+◌, String, Global, string_bytes, arith, List, [], ◌∷◌, ◌++◌, length, Some, refl, ap, sym, ◌∙◌, subst, inl}
use Rattle.std.proofs.Common.{inr, append-nil, map, Result, Ok, Err}
use Rattle.std.specs.Prelude.{IfOk, IfSome, slice_get}
use Rattle.std.specs.declared.alloc.AllocError.{AllocError}
use Rattle.std.specs.Option.{option_map}
use Rattle.std.proofs.lemmas.Option.{slice_get-map}
use Rattle.tx_host.specs.Told.{HostState}
use Rattle.command_io.specs.declared.files.Unread.{Unread}
use Rattle.command_io.specs.declared.files.Unread.TheVariants.{TooLong, Failed as ReadFailed, Memory as ReadMemory}
use Rattle.command_io.specs.Reads.{Wanted, ReadsWithin, ReadsSome, PassesLimit, FailsToRead, StopsReading, behind, wanted, wanted_each}
use Rattle.command_io.specs.declared.files.FileKind.{FileKind}
use Rattle.command_io.proofs.Steps.{stops_before, stops_behind}
use Rattle.command_io.specs.Writes.{Written, written_of}
use Rattle.command_io.specs.Course.{Comes}
use Rattle.tx_answers.specs.declared.answer.Answer.{Answer}
use Rattle.tx_answers.specs.declared.answer.Status.TheVariants.{HostFault, Memory}
use Rattle.tx_answers.specs.declared.ends.Decision.{Decision}
use Rattle.tx_answers.specs.Ends.{Ends, answers, fails, runs_out, Finishes, made, failed, out_of_memory, IsLimited, bare, Settles, AtLimit, refuses, no_line}
use Rattle.tx_answers.specs.Ends.{Halts, HaltsAmong}

module _ (wants : List Wanted) (Decides : List (List ℕ) → Answer → List Written → Type 0) where
  comes_ends : (old mid new : HostState) (a : Answer) (writes : List Written) (result : Answer) → Comes wants Decides IsLimited old a writes mid
      → Finishes mid new a writes result → Ends wants Decides old new result
  comes_ends old mid new a writes result comes (made e written) =
      answers (record { writes = writes; between = mid; comes = subst (λ r. Comes wants Decides IsLimited old r writes mid) (sym e) comes; written = written })
  comes_ends old mid new a writes result comes (failed e stops) = fails e (inr (record { a = a; writes = writes; between = mid; comes = comes; stops = stops }))
  comes_ends old mid new a writes result comes (out_of_memory e stops) =
      runs_out e (inr (inr (record { a = a; writes = writes; between = mid; comes = comes; stops = stops })))

  -- all files were read, and the decision is written
  pub ends_decided : (old mid new : HostState) (texts : List (List ℕ)) (a : Answer) (writes : List Written) (result : Answer) → ReadsWithin old wants texts mid
      → Decides texts a writes → Finishes mid new a writes result → Ends wants Decides old new result
  ends_decided old mid new texts a writes result reads decides f =
      comes_ends old mid new a writes result (inl (record { texts = texts; reads = reads; decides = decides })) f

  -- a file passed its limit, and the refusal is written
  pub ends_limited : (old mid new : HostState) (index : ℕ) (w : Wanted) (a : Answer) (writes : List Written) (result : Answer)
      → PassesLimit old wants index w mid → IsLimited w a writes → Finishes mid new a writes result → Ends wants Decides old new result
  ends_limited old mid new index w a writes result passes limits f =
      comes_ends old mid new a writes result (inr (record { index = index; w = w; passes = passes; limits = limits })) f

  -- a read failed
  pub ends_unread : (old new : HostState) (result : Answer) → result ≡ bare HostFault → FailsToRead old wants new → Ends wants Decides old new result
  ends_unread old new result e h = fails e (inl h)

  -- memory ran out: at a read, behind all reads, or where a file had passed its limit
  pub ends_some : (old new : HostState) (result : Answer) → result ≡ bare Memory → ReadsSome old wants new → Ends wants Decides old new result
  ends_some old new result e h = runs_out e (inl h)

  pub ends_all : (old new : HostState) (texts : List (List ℕ)) (result : Answer) → result ≡ bare Memory → ReadsWithin old wants texts new
      → Ends wants Decides old new result
  ends_all old new texts result e h = ends_some old new result e
      (record { before = wants; after = []; texts = texts; front = record { cut = sym (append-nil wants); reads = h } })

  pub ends_at_limit : (old new : HostState) (index : ℕ) (w : Wanted) (result : Answer) → result ≡ bare Memory → PassesLimit old wants index w new
      → Ends wants Decides old new result
  ends_at_limit old new index w result e h = runs_out e (inr (inl (record { index = index; w = w; passes = h })))

  -- all files were read, and what is decided on their texts is written
  pub ends_settled : (old mid new : HostState) (texts : List (List ℕ)) (d : Result Decision AllocError) (result : Answer) → ReadsWithin old wants texts mid
      → IfOk d (λ x. Decides texts x.answer (map written_of x.writes.items)) → Settles mid new d result
      → Ends wants Decides old new result
  ends_settled old mid new texts (Ok x) result reads decides f = ends_decided old mid new texts x.answer (map written_of x.writes.items) result reads decides f
  ends_settled old mid new texts (Err e) result reads decides (none, same) =
      ends_all old new texts result none (subst (λ s. ReadsWithin old wants texts s) (sym same) reads)

  ends_past : (old mid new : HostState) (index : ℕ) (w : Wanted) (result : Answer) → PassesLimit old wants index w mid → AtLimit w mid new result
      → Ends wants Decides old new result
  ends_past old mid new index w result p (refuses decided writes limited f) = ends_limited old mid new index w decided writes result p limited f
  ends_past old mid new index w result p (no_line none same) =
      ends_at_limit old new index w result none (subst (λ s. PassesLimit old wants index w s) (sym same) p)

  -- the files were not read to the last; where one passed its limit, it is this one
  pub ends_halted : (old mid new : HostState) (w : Wanted) (u : Unread) (result : Answer)
      → ((index : ℕ) (v : Wanted) → PassesLimit old wants index v mid → PassesLimit old wants index w mid) → StopsReading old wants mid u
      → Halts w u mid new result
      → Ends wants Decides old new result
  ends_halted old mid new w (TooLong index) result named (v, p) h = ends_past old mid new index w result (named index v p) h
  ends_halted old mid new w ReadFailed result named p (none, same) = ends_unread old new result none (subst (λ s. FailsToRead old wants s) (sym same) p)
  ends_halted old mid new w ReadMemory result named p (none, same) = ends_some old new result none (subst (λ s. ReadsSome old wants s) (sym same) p)

-- Reading stopped where the host was `mid`, and this was answered and written.
abbrev pub Halted : (old : HostState) → List Wanted → (mid new : HostState) → Answer → Unread → Type 0
Halted old wants mid new a u = StopsReading old wants mid u × HaltsAmong wants u mid new a

get_behind : (before after : List Wanted) (w : Wanted) → slice_get (before ++ w ∷ after) (length before) ≡ Some w
get_behind [] after w = refl
get_behind (x ∷ before) after w = get_behind before after w

get_front : (ws vs : List Wanted) (i : ℕ) (w : Wanted) → slice_get ws i ≡ Some w → slice_get (ws ++ vs) i ≡ Some w
get_front [] vs zero w e = absurd (cc)
get_front [] vs (suc i) w e = absurd (cc)
get_front (x ∷ ws) vs zero w e = e
get_front (x ∷ ws) vs (suc i) w e = get_front ws vs i w e

get_past : (ws vs : List Wanted) (i : ℕ) → slice_get (ws ++ vs) (length ws + i) ≡ slice_get vs i
get_past [] vs i = ap (slice_get vs) (omega arith)
get_past (x ∷ ws) vs i = ap (slice_get (x ∷ (ws ++ vs))) (next (length ws) i) ∙ get_past ws vs i
  where
    next : (n i : ℕ) → suc n + i ≡ suc (n + i)
    next n i = omega arith

-- the file that passed its limit stands at its index
passed_at : (old mid : HostState) (wants : List Wanted) (index : ℕ) (w : Wanted) → PassesLimit old wants index w mid → slice_get wants index ≡ Some w
passed_at old mid wants index w p = ap (λ l. slice_get l index) p.front.cut
    ∙ (ap (λ n. slice_get (p.before ++ w ∷ p.after) n) p.at ∙ get_behind p.before p.after w)

-- other files were to be read behind these
pub halted_before : (old mid new : HostState) (ws vs : List Wanted) (u : Unread) (a : Answer) → Halted old ws mid new a u → Halted old (ws ++ vs) mid new a u
halted_before old mid new ws vs (TooLong index) a ((w, p), h) =
    let at = passed_at old mid ws index w p in
    let here : AtLimit w mid new a = subst (λ o. IfSome o (λ v. AtLimit v mid new a)) at h in
    (stops_before old mid ws vs (TooLong index) (w, p), subst (λ o. IfSome o (λ v. AtLimit v mid new a)) (sym (get_front ws vs index w at)) here)
halted_before old mid new ws vs ReadFailed a (p, h) = (stops_before old mid ws vs ReadFailed p, h)
halted_before old mid new ws vs ReadMemory a (p, h) = (stops_before old mid ws vs ReadMemory p, h)

-- other files were read before these
pub halted_behind : (old first mid new : HostState) (ws vs : List Wanted) (xs : List (List ℕ)) (u : Unread) (a : Answer) → ReadsWithin old ws xs first
    → Halted first vs mid new a u → Halted old (ws ++ vs) mid new a (behind (length ws) u)
halted_behind old first mid new ws vs xs (TooLong index) a reads (s, h) =
    (stops_behind old first mid ws vs xs (TooLong index) reads s, subst (λ o. IfSome o (λ v. AtLimit v mid new a)) (sym (get_past ws vs index)) h)
halted_behind old first mid new ws vs xs ReadFailed a reads (p, h) = (stops_behind old first mid ws vs xs ReadFailed reads p, h)
halted_behind old first mid new ws vs xs ReadMemory a reads (p, h) = (stops_behind old first mid ws vs xs ReadMemory reads p, h)

-- a command whose reading stopped
pub halted_ends : (wants : List Wanted) (Decides : List (List ℕ) → Answer → List Written → Type 0) (old mid new : HostState) (u : Unread) (result : Answer)
    → Halted old wants mid new result u → Ends wants Decides old new result
halted_ends wants Decides old mid new (TooLong index) result ((w, p), h) =
    ends_past wants Decides old mid new index w result p (subst (λ o. IfSome o (λ v. AtLimit v mid new result)) (passed_at old mid wants index w p) h)
halted_ends wants Decides old mid new ReadFailed result (p, (none, same)) =
    ends_unread wants Decides old new result none (subst (λ s. FailsToRead old wants s) (sym same) p)
halted_ends wants Decides old mid new ReadMemory result (p, (none, same)) =
    ends_some wants Decides old new result none (subst (λ s. ReadsSome old wants s) (sym same) p)

-- the only file is the one that passed its limit
no_front : (w v x : Wanted) (before after : List Wanted) → w ∷ [] ≡ (x ∷ before) ++ v ∷ after → ⊥
no_front w v x [] after e = absurd (cc)
no_front w v x (y ∷ before) after e = absurd (cc)

only_by : (w v : Wanted) (before after : List Wanted) → w ∷ [] ≡ before ++ v ∷ after → v ≡ w
only_by w v [] after e = cc
only_by w v (x ∷ before) after e = absurd (no_front w v x before after e)

pub only_passes : (old mid : HostState) (index : ℕ) (w v : Wanted) → PassesLimit old (w ∷ []) index v mid → PassesLimit old (w ∷ []) index w mid
only_passes old mid index w v p = subst (λ u. PassesLimit old (w ∷ []) index u mid) (only_by w v p.before p.after p.front.cut) p

-- a command of one file
pub one_halted : (w : Wanted) (Decides : List (List ℕ) → Answer → List Written → Type 0) (old mid new : HostState) (u : Unread) (result : Answer)
    → StopsReading old (w ∷ []) mid u → Halts w u mid new result → Ends (w ∷ []) Decides old new result
one_halted w Decides old mid new u result p h = ends_halted (w ∷ []) Decides old mid new w u result (λ index v. only_passes old mid index w v) p h

-- a file passed its limit, and its refusal is written
pub at_limit : (w : Wanted) (old new : HostState) (d : Result Decision AllocError) (a : Answer)
    → IfOk d (λ x. IsLimited w x.answer (map written_of x.writes.items)) → Settles old new d a → AtLimit w old new a
at_limit w old new (Ok x) a limited f = refuses x.answer (map written_of x.writes.items) limited f
at_limit w old new (Err e) a limited (none, same) = no_line none same

-- the same, of the file with this index of a list
pub at_limit_among : (kind : FileKind) (names : List (String Global)) (index : ℕ) (name : String Global) (old new : HostState) (d : Result Decision AllocError)
    (a : Answer) → slice_get names index ≡ Some name
    → IfOk d (λ x. IsLimited (wanted kind (string_bytes name)) x.answer (map written_of x.writes.items)) → Settles old new d a
    → HaltsAmong (wanted_each kind (map string_bytes names)) (TooLong index) old new a
at_limit_among kind names index name old new d a e limited f =
    let at : slice_get (wanted_each kind (map string_bytes names)) index ≡ Some (wanted kind (string_bytes name)) =
    slice_get-map (wanted kind) (map string_bytes names) index
    ∙ ap (option_map (wanted kind)) (slice_get-map string_bytes names index ∙ ap (option_map string_bytes) e) in
    subst (λ o. IfSome o (λ v. AtLimit v old new a)) (sym at) (at_limit (wanted kind (string_bytes name)) old new d a limited f)
