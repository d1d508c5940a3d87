-- Where the reading of the files stopped, or that all were read.
use Rattle.std.proofs.Common.{◌≡◌, ℕ, suc, List, [], ◌∷◌, ◌++◌, length, map, refl, ap, ◌∙◌, Option, None, Result}
use Rattle.std.specs.Prelude.{IfOk}
use Rattle.std.specs.declared.alloc.AllocError.{AllocError}
use Rattle.std.proofs.lemmas.List.{length-map}
use Rattle.std.proofs.lemmas.Result.{IfOk-weaker}
use Rattle.command_io.specs.Reads.{Wanted, ReadsWithin, StopsReading, wanted, wanted_each, wanted_given, bytes_of, behind}
use Rattle.command_io.specs.Writes.{written_of}
use Rattle.command_io.specs.declared.files.FileKind.TheVariants.{Object, Input, Schedule}
use Rattle.command_io.specs.declared.files.Unread.{Unread}
use Rattle.command_io.proofs.Steps.{reads_append}
use Rattle.tx_answers.specs.Ends.{Ends, HaltsAmong, Settles}
use Rattle.tx_answers.specs.declared.answer.Answer.{Answer}
use Rattle.tx_answers.specs.declared.ends.Decision.{Decision}
use Rattle.tx_answers.proofs.Endings.{ends_settled, halted_before, halted_behind, halted_ends}
use Rattle.tx_host.specs.Told.{HostState}
use Rattle.tx_words.specs.declared.command.Exec.{Exec}
use Rattle.exec_command.specs.Exec.{Decides, DecidesOn}
use Rattle.exec_command.specs.Files.{AreTexts, object_files, input_file, schedule_file, wants_of}

-- as many texts were read as files were wanted
as_many : (old new : HostState) (ws : List Wanted) (texts : List (List ℕ)) → ReadsWithin old ws texts new → length texts ≡ length ws
as_many old new [] [] h = refl
as_many old new [] (t ∷ texts) h = elim h [ ]
as_many old new (w ∷ ws) [] h = elim h [ ]
as_many old new (w ∷ ws) (t ∷ texts) (front, few, rest) = ap suc (as_many _ new ws texts rest)

module _ (e : Exec) where
  abbrev objects_wanted : List Wanted
  objects_wanted = wanted_each Object (object_files e)

  abbrev input_wanted : List Wanted
  input_wanted = wanted_given Input (input_file e)

  abbrev schedule_wanted : List Wanted
  schedule_wanted = wanted_given Schedule (schedule_file e.options.picker)

  -- not all objects were read
  pub ends_at_objects : (old mid new : HostState) (u : Unread) (a : Answer) → StopsReading old objects_wanted mid u → HaltsAmong objects_wanted u mid new a
      → Ends (wants_of e) (DecidesOn e) old new a
  ends_at_objects old mid new u a s h = halted_ends (wants_of e) (DecidesOn e) old mid new u a
      (halted_before old mid new objects_wanted (input_wanted ++ schedule_wanted) u a (s, h))

  -- the input was not read
  pub ends_at_input : (old first mid new : HostState) (objects : List (List ℕ)) (u : Unread) (a : Answer) → ReadsWithin old objects_wanted objects first
      → StopsReading first input_wanted mid u → HaltsAmong input_wanted u mid new a
      → Ends (wants_of e) (DecidesOn e) old new a
  ends_at_input old first mid new objects u a reads s h =
      halted_ends (wants_of e) (DecidesOn e) old mid new (behind (length objects_wanted) u) a
      (halted_behind old first mid new objects_wanted (input_wanted ++ schedule_wanted) objects u a reads
      (halted_before first mid new input_wanted schedule_wanted u a (s, h)))

  -- the schedule was not read
  pub ends_at_schedule : (old first second mid new : HostState) (objects inputs : List (List ℕ)) (u : Unread) (a : Answer)
      → ReadsWithin old objects_wanted objects first → ReadsWithin first input_wanted inputs second
      → StopsReading second schedule_wanted mid u → HaltsAmong schedule_wanted u mid new a → Ends (wants_of e) (DecidesOn e) old new a
  ends_at_schedule old first second mid new objects inputs u a reads also s h =
      halted_ends (wants_of e) (DecidesOn e) old mid new (behind (length objects_wanted) (behind (length input_wanted) u)) a
      (halted_behind old first mid new objects_wanted (input_wanted ++ schedule_wanted) objects (behind (length input_wanted) u) a reads
      (halted_behind first second mid new input_wanted schedule_wanted inputs u a also (s, h)))

  -- the texts that were read in three parts
  whole : (old first : HostState) (objects : List (List ℕ)) (input schedule : List ℕ) → ReadsWithin old objects_wanted objects first
      → (input_file e ≡ None → input ≡ []) → (schedule_file e.options.picker ≡ None → schedule ≡ [])
      → AreTexts e (objects ++ (bytes_of (input_file e) input ++ bytes_of (schedule_file e.options.picker) schedule)) objects input schedule
  whole old first objects input schedule reads no_input no_schedule = record {
    texts_are = refl;
    many = as_many old first objects_wanted objects reads ∙ length-map (object_files e) (wanted Object);
    no_input = no_input;
    no_schedule = no_schedule;
  }

  -- all files were read, and what is decided on their texts is written
  pub ends_read : (old first second mid new : HostState) (objects : List (List ℕ)) (input schedule : List ℕ) (d : Result Decision AllocError) (a : Answer)
      → ReadsWithin old objects_wanted objects first
      → ReadsWithin first input_wanted (bytes_of (input_file e) input) second
      → ReadsWithin second schedule_wanted (bytes_of (schedule_file e.options.picker) schedule) mid → (input_file e ≡ None → input ≡ [])
      → (schedule_file e.options.picker ≡ None → schedule ≡ []) → IfOk d (λ x. Decides e objects input schedule x.answer (map written_of x.writes.items))
      → Settles mid new d a → Ends (wants_of e) (DecidesOn e) old new a
  ends_read old first second mid new objects input schedule d a reads also last no_input no_schedule decides settles =
      let inputs = bytes_of (input_file e) input in
      let schedules = bytes_of (schedule_file e.options.picker) schedule in
      let texts_are = whole old first objects input schedule reads no_input no_schedule in
      ends_settled (wants_of e) (DecidesOn e) old mid new (objects ++ (inputs ++ schedules)) d a
      (reads_append old first mid objects_wanted (input_wanted ++ schedule_wanted) objects (inputs ++ schedules) reads
      (reads_append first second mid input_wanted schedule_wanted inputs schedules also last))
      (IfOk-weaker d (λ x. Decides e objects input schedule x.answer (map written_of x.writes.items))
      (λ x. DecidesOn e (objects ++ (inputs ++ schedules)) x.answer (map written_of x.writes.items))
      (λ x h. record { objects = objects; input = input; schedule = schedule; texts_are = texts_are; decides = h }) decides) settles
