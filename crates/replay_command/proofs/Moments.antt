-- Where the reading of the files stopped, or that all were read.
use Rattle.std.proofs.Common.{◌≡◌, ℕ, suc, List, [], ◌∷◌, ◌++◌, length, map, refl, ap, ◌∙◌, Option, None, Result}
use Rattle.std.specs.Prelude.{IfOk}
use Rattle.std.specs.declared.alloc.AllocError.{AllocError}
use Rattle.std.proofs.lemmas.List.{length-map}
use Rattle.std.proofs.lemmas.Result.{IfOk-weaker}
use Rattle.command_io.specs.Reads.{Wanted, ReadsWithin, StopsReading, wanted, wanted_each, wanted_given, bytes_of, behind}
use Rattle.command_io.specs.Writes.{written_of}
use Rattle.command_io.specs.declared.files.FileKind.TheVariants.{Source, Input, Schedule}
use Rattle.command_io.specs.declared.files.Unread.{Unread}
use Rattle.command_io.proofs.Steps.{reads_append}
use Rattle.tx_answers.specs.Ends.{Ends, HaltsAmong, Settles}
use Rattle.tx_answers.specs.declared.answer.Answer.{Answer}
use Rattle.tx_answers.specs.declared.ends.Decision.{Decision}
use Rattle.tx_answers.proofs.Endings.{ends_settled, halted_before, halted_behind, halted_ends}
use Rattle.tx_host.specs.Told.{HostState}
use Rattle.tx_words.specs.declared.command.Replay.{Replay}
use Rattle.replay_command.specs.Replays.{AreTexts, Decides, DecidesOn, source_files, input_file, order_file, wants_of}

-- as many texts were read as files were wanted
as_many : (old new : HostState) (ws : List Wanted) (texts : List (List ℕ)) → ReadsWithin old ws texts new → length texts ≡ length ws
as_many old new [] [] h = refl
as_many old new [] (t ∷ texts) h = elim h [ ]
as_many old new (w ∷ ws) [] h = elim h [ ]
as_many old new (w ∷ ws) (t ∷ texts) (front, few, rest) = ap suc (as_many _ new ws texts rest)

module _ (e : Replay) where
  abbrev sources_wanted : List Wanted
  sources_wanted = wanted_each Source (source_files e)

  abbrev input_wanted : List Wanted
  input_wanted = wanted_given Input (input_file e)

  abbrev order_wanted : List Wanted
  order_wanted = wanted Schedule (order_file e) ∷ []

  -- not all sources were read
  pub ends_at_sources : (old mid new : HostState) (u : Unread) (a : Answer) → StopsReading old sources_wanted mid u → HaltsAmong sources_wanted u mid new a
      → Ends (wants_of e) (DecidesOn e) old new a
  ends_at_sources old mid new u a s h = halted_ends (wants_of e) (DecidesOn e) old mid new u a
      (halted_before old mid new sources_wanted (input_wanted ++ order_wanted) u a (s, h))

  -- the input was not read
  pub ends_at_input : (old first mid new : HostState) (sources : List (List ℕ)) (u : Unread) (a : Answer) → ReadsWithin old sources_wanted sources first
      → StopsReading first input_wanted mid u → HaltsAmong input_wanted u mid new a
      → Ends (wants_of e) (DecidesOn e) old new a
  ends_at_input old first mid new sources u a reads s h =
      halted_ends (wants_of e) (DecidesOn e) old mid new (behind (length sources_wanted) u) a
      (halted_behind old first mid new sources_wanted (input_wanted ++ order_wanted) sources u a reads
      (halted_before first mid new input_wanted order_wanted u a (s, h)))

  -- the order was not read
  pub ends_at_order : (old first second mid new : HostState) (sources inputs : List (List ℕ)) (u : Unread) (a : Answer)
      → ReadsWithin old sources_wanted sources first → ReadsWithin first input_wanted inputs second
      → StopsReading second order_wanted mid u → HaltsAmong order_wanted u mid new a → Ends (wants_of e) (DecidesOn e) old new a
  ends_at_order old first second mid new sources inputs u a reads also s h =
      halted_ends (wants_of e) (DecidesOn e) old mid new (behind (length sources_wanted) (behind (length input_wanted) u)) a
      (halted_behind old first mid new sources_wanted (input_wanted ++ order_wanted) sources (behind (length input_wanted) u) a reads
      (halted_behind first second mid new input_wanted order_wanted inputs u a also (s, h)))

  -- the texts that were read in three parts
  whole : (old first : HostState) (sources : List (List ℕ)) (input order : List ℕ) → ReadsWithin old sources_wanted sources first
      → (input_file e ≡ None → input ≡ [])
      → AreTexts e (sources ++ (bytes_of (input_file e) input ++ order ∷ [])) sources input order
  whole old first sources input order reads no_input = record {
    texts_are = refl;
    many = as_many old first sources_wanted sources reads ∙ length-map (source_files e) (wanted Source);
    no_input = no_input;
  }

  -- all files were read, and what is decided on their texts is written
  pub ends_read : (old first second mid new : HostState) (sources : List (List ℕ)) (input order : List ℕ) (d : Result Decision AllocError) (a : Answer)
      → ReadsWithin old sources_wanted sources first
      → ReadsWithin first input_wanted (bytes_of (input_file e) input) second → ReadsWithin second order_wanted (order ∷ []) mid
      → (input_file e ≡ None → input ≡ [])
      → IfOk d (λ x. Decides e sources input order x.answer (map written_of x.writes.items)) → Settles mid new d a → Ends (wants_of e) (DecidesOn e) old new a
  ends_read old first second mid new sources input order d a reads also last no_input decides settles =
      let inputs = bytes_of (input_file e) input in
      let orders = order ∷ [] in
      let texts_are = whole old first sources input order reads no_input in
      ends_settled (wants_of e) (DecidesOn e) old mid new (sources ++ (inputs ++ orders)) d a
      (reads_append old first mid sources_wanted (input_wanted ++ order_wanted) sources (inputs ++ orders) reads
      (reads_append first second mid input_wanted order_wanted inputs orders also last))
      (IfOk-weaker d (λ x. Decides e sources input order x.answer (map written_of x.writes.items))
      (λ x. DecidesOn e (sources ++ (inputs ++ orders)) x.answer (map written_of x.writes.items))
      (λ x h. record { sources = sources; input = input; order = order; texts_are = texts_are; decides = h }) decides) settles
