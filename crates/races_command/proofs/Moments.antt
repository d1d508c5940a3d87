-- Where the reading of the files stopped, or that all were read.
use Rattle.std.proofs.Common.{◌≡◌, ℕ, suc, List, [], ◌∷◌, ◌++◌, length, map, refl, ap, ◌∙◌, None, Result}
use Rattle.std.specs.Prelude.{IfOk}
use Rattle.std.specs.declared.alloc.AllocError.{AllocError}
use Rattle.std.proofs.lemmas.List.{length-map}
use Rattle.std.proofs.lemmas.Result.{IfOk-weaker}
use Rattle.run_command.specs.command_io.Reads.{Wanted, ReadsWithin, StopsReading, wanted, wanted_each, wanted_given, bytes_of, behind}
use Rattle.run_command.specs.command_io.Writes.{written_of}
use Rattle.run_command.specs.command_io.declared.files.FileKind.TheVariants.{Source, Input, Schedule}
use Rattle.run_command.specs.command_io.declared.files.Unread.{Unread}
use Rattle.run_command.proofs.command_io.Steps.{reads_append}
use Rattle.run_command.specs.tx_answers.Ends.{Ends, HaltsAmong, Settles}
use Rattle.run_command.specs.tx_answers.declared.answer.Answer.{Answer}
use Rattle.run_command.specs.tx_answers.declared.ends.Decision.{Decision}
use Rattle.run_command.proofs.tx_answers.Endings.{ends_settled, halted_before, halted_behind, halted_ends}
use Rattle.run_command.specs.tx_host.Told.{HostState}
use Rattle.run_command.specs.tx_words.declared.command.Races.{Races}
use Rattle.run_command.specs.tx_words.declared.command.Run.{Run}
use Rattle.races_command.specs.Commands.{Decides, DecidesOn}
use Rattle.run_command.specs.exec_command.Files.{schedule_file}
use Rattle.run_command.specs.Commands.{AreTexts, source_files, input_file, wants_of}

-- as many texts were read as files were wanted
as_many : (old new : HostState) (ws : List Wanted) (texts : List (List ℕ)) → ReadsWithin old ws texts new → length texts ≡ length ws
as_many old new [] [] h = refl
as_many old new [] (t ∷ texts) h = elim h [ ]
as_many old new (w ∷ ws) [] h = elim h [ ]
as_many old new (w ∷ ws) (t ∷ texts) (front, few, rest) = ap suc (as_many _ new ws texts rest)

module _ (r : Races) where
  abbrev e : Run
  e = r.run

  abbrev sources_wanted : List Wanted
  sources_wanted = wanted_each Source (source_files e)

  abbrev input_wanted : List Wanted
  input_wanted = wanted_given Input (input_file e)

  abbrev schedule_wanted : List Wanted
  schedule_wanted = wanted_given Schedule (schedule_file e.options.picker)

  -- not all sources were read
  pub ends_at_sources : (old mid new : HostState) (u : Unread) (a : Answer) → StopsReading old sources_wanted mid u → HaltsAmong sources_wanted u mid new a
      → Ends (wants_of e) (DecidesOn r) old new a
  ends_at_sources old mid new u a s h = halted_ends (wants_of e) (DecidesOn r) old mid new u a
      (halted_before old mid new sources_wanted (input_wanted ++ schedule_wanted) u a (s, h))

  -- the input was not read
  pub ends_at_input : (old first mid new : HostState) (sources : List (List ℕ)) (u : Unread) (a : Answer) → ReadsWithin old sources_wanted sources first
      → StopsReading first input_wanted mid u → HaltsAmong input_wanted u mid new a
      → Ends (wants_of e) (DecidesOn r) old new a
  ends_at_input old first mid new sources u a reads s h =
      halted_ends (wants_of e) (DecidesOn r) old mid new (behind (length sources_wanted) u) a
      (halted_behind old first mid new sources_wanted (input_wanted ++ schedule_wanted) sources u a reads
      (halted_before first mid new input_wanted schedule_wanted u a (s, h)))

  -- the schedule was not read
  pub ends_at_schedule : (old first second mid new : HostState) (sources inputs : List (List ℕ)) (u : Unread) (a : Answer)
      → ReadsWithin old sources_wanted sources first → ReadsWithin first input_wanted inputs second
      → StopsReading second schedule_wanted mid u → HaltsAmong schedule_wanted u mid new a → Ends (wants_of e) (DecidesOn r) old new a
  ends_at_schedule old first second mid new sources inputs u a reads also s h =
      halted_ends (wants_of e) (DecidesOn r) old mid new (behind (length sources_wanted) (behind (length input_wanted) u)) a
      (halted_behind old first mid new sources_wanted (input_wanted ++ schedule_wanted) sources (behind (length input_wanted) u) a reads
      (halted_behind first second mid new input_wanted schedule_wanted inputs u a also (s, h)))

  -- the texts that were read in three parts
  whole : (old first : HostState) (sources : List (List ℕ)) (input schedule : List ℕ) → ReadsWithin old sources_wanted sources first
      → (input_file e ≡ None → input ≡ []) → (schedule_file e.options.picker ≡ None → schedule ≡ [])
      → AreTexts e (sources ++ (bytes_of (input_file e) input ++ bytes_of (schedule_file e.options.picker) schedule)) sources input schedule
  whole old first sources input schedule reads no_input no_schedule = record {
    texts_are = refl;
    many = as_many old first sources_wanted sources reads ∙ length-map (source_files e) (wanted Source);
    no_input = no_input;
    no_schedule = no_schedule;
  }

  -- all files were read, and what is decided on their texts is written
  pub ends_read : (old first second mid new : HostState) (sources : List (List ℕ)) (input schedule : List ℕ) (d : Result Decision AllocError) (a : Answer)
      → ReadsWithin old sources_wanted sources first
      → ReadsWithin first input_wanted (bytes_of (input_file e) input) second
      → ReadsWithin second schedule_wanted (bytes_of (schedule_file e.options.picker) schedule) mid → (input_file e ≡ None → input ≡ [])
      → (schedule_file e.options.picker ≡ None → schedule ≡ []) → IfOk d (λ x. Decides r sources input schedule x.answer (map written_of x.writes.items))
      → Settles mid new d a → Ends (wants_of e) (DecidesOn r) old new a
  ends_read old first second mid new sources input schedule d a reads also last no_input no_schedule decides settles =
      let inputs = bytes_of (input_file e) input in
      let schedules = bytes_of (schedule_file e.options.picker) schedule in
      let texts_are = whole old first sources input schedule reads no_input no_schedule in
      ends_settled (wants_of e) (DecidesOn r) old mid new (sources ++ (inputs ++ schedules)) d a
      (reads_append old first mid sources_wanted (input_wanted ++ schedule_wanted) sources (inputs ++ schedules) reads
      (reads_append first second mid input_wanted schedule_wanted inputs schedules also last))
      (IfOk-weaker d (λ x. Decides r sources input schedule x.answer (map written_of x.writes.items))
      (λ x. DecidesOn r (sources ++ (inputs ++ schedules)) x.answer (map written_of x.writes.items))
      (λ x h. record { sources = sources; input = input; schedule = schedule; texts_are = texts_are; decides = h }) decides) settles
