use Rattle.std.proofs.Common.{◌≡◌, ◌⊎◌, ℕ, List, map, string_bytes}
use Rattle.std.specs.Prelude.{IfSome}
use Rattle.pcm_base.specs.Causes.{Rose}
use Rattle.pcm_text.specs.declared.status.Status.TheVariants as status
use Rattle.pcm_top.specs.declared.request.Request.TheVariants as request
use Rattle.pcm_top.specs.Gen.{GenEnds}
use Rattle.pcm_top.specs.Output.{IsFrontRun, IsOutput}
use Rattle.pcm_top.specs.Request.{asked}
use Rattle.pcm_top.specs.Script.{IsScript}
use Rattle.pcm_top.specs.Sound.{IsReady, JobEnds, capturing, playing}
use Rattle.pcm_top.proofs.MainLemmas.{asks-as, no-script, same-capture, script-asked, same-gen, same-play}
use Rattle.pcm_top.proofs.OutputLemmas.{if-some}
use Rattle.pcm_top.proofs.SoundLemmas.{job-ready}
use Rattle.pcm_top.proofs.top.pcm_main.Goals as goal

-- ---- nothing is asked for

pub returns-in-None-clause-output : goal.returns-in-None-clause-output
returns-in-None-clause-output g c = λ uncut.
    let files = g.F.Shelf.files c.args.shelf.now in
    let written = g.K.Sink.written c.args.out.now in
    no-script (map string_bytes c.args.words.now) (λ command. IfSome (g.S.Source.left c.args.source.now) (λ script. IsOutput command script files files written written status.Usage)) c.in-None.ensures.none

pub returns-in-None-clause-front : goal.returns-in-None-clause-front
returns-in-None-clause-front g c =
    let files = g.F.Shelf.files c.args.shelf.now in
    let faults = g.F.Shelf.faults c.args.shelf.now in
    let written = g.K.Sink.written c.args.out.now in
    no-script (map string_bytes c.args.words.now) (λ command. IfSome (g.S.Source.left c.args.source.now) (λ script. IsFrontRun command script files files faults faults written written)) c.in-None.ensures.none

pub returns-in-None-clause-complete : goal.returns-in-None-clause-complete
returns-in-None-clause-complete g c =
    let source = g.S.Source.faults c.args.source.now in
    let sink = g.K.Sink.faults c.args.out.now in
    let shelf = g.F.Shelf.faults c.args.shelf.now in
    no-script (map string_bytes c.args.words.now)
    (λ command. IfSome (g.S.Source.left c.args.source.now) (λ script. IsScript command script (g.F.Shelf.files c.args.shelf.now) → (¬ Rose source source) → (¬ Rose sink sink) → (¬ Rose shelf shelf) → (status.Usage ≡ status.Ok) ⊎ (status.Usage ≡ status.Memory)))
    c.in-None.ensures.none

pub returns-in-None-clause-played : goal.returns-in-None-clause-played
returns-in-None-clause-played g c = λ from to period periods asks. absurd (c.in-None.ensures.none (request.Play from to period periods) asks)

pub returns-in-None-clause-captured : goal.returns-in-None-clause-captured
returns-in-None-clause-captured g c = λ from to frames asks. absurd (c.in-None.ensures.none (request.Capture from to frames) asks)

pub returns-in-None-clause-ready_to_play : goal.returns-in-None-clause-ready_to_play
returns-in-None-clause-ready_to_play g c = λ from to period periods asks. absurd (c.in-None.ensures.none (request.Play from to period periods) asks)

pub returns-in-None-clause-ready_to_capture : goal.returns-in-None-clause-ready_to_capture
returns-in-None-clause-ready_to_capture g c = λ from to frames asks. absurd (c.in-None.ensures.none (request.Capture from to frames) asks)

pub returns-in-None-clause-generated : goal.returns-in-None-clause-generated
returns-in-None-clause-generated g c = λ n asks. absurd (c.in-None.ensures.none (request.Gen n) asks)

-- ---- a script

pub returns-in-Some-Script-clause-output : goal.returns-in-Some-Script-clause-output
returns-in-Some-Script-clause-output g c = λ uncut.
    let words : List (List ℕ) = map string_bytes c.args.words.now in
    if-some _ (asked words) c.in-Some-Script.command (script-asked words _ c.in-Some-Script.command c.in-Some-Script.field-0-is c.in-Some-Script.ensures.some) (c.run_script.ensures.output uncut)

pub returns-in-Some-Script-clause-front : goal.returns-in-Some-Script-clause-front
returns-in-Some-Script-clause-front g c =
    let words : List (List ℕ) = map string_bytes c.args.words.now in
    if-some _ (asked words) c.in-Some-Script.command (script-asked words _ c.in-Some-Script.command c.in-Some-Script.field-0-is c.in-Some-Script.ensures.some) c.run_script.ensures.front

pub returns-in-Some-Script-clause-faulted : goal.returns-in-Some-Script-clause-faulted
returns-in-Some-Script-clause-faulted g c = λ is.
    let words : List (List ℕ) = map string_bytes c.args.words.now in
    if-some _ (asked words) c.in-Some-Script.command (script-asked words _ c.in-Some-Script.command c.in-Some-Script.field-0-is c.in-Some-Script.ensures.some) (c.run_script.ensures.faulted is)

pub returns-in-Some-Script-clause-complete : goal.returns-in-Some-Script-clause-complete
returns-in-Some-Script-clause-complete g c =
    let words : List (List ℕ) = map string_bytes c.args.words.now in
    if-some _ (asked words) c.in-Some-Script.command (script-asked words _ c.in-Some-Script.command c.in-Some-Script.field-0-is c.in-Some-Script.ensures.some) c.run_script.ensures.complete

-- ---- a sound that is played

pub returns-in-Some-Play-clause-played : goal.returns-in-Some-Play-clause-played
returns-in-Some-Play-clause-played g c =
    let play = c.in-Some-Play in
    let words : List (List ℕ) = map string_bytes c.args.words.now in
    let shelf = g.F.Shelf.files in
    let sink = g.K.Sink.written in
    same-play words (λ from to period periods. JobEnds (playing period periods) from to (shelf c.args.shelf.now) (shelf c.play_file.new.shelf) (sink c.args.out.now) (sink c.play_file.new.out) c.play_file.result)
    play.from play.to play.period play.periods (asks-as words _ _ play.field-0-is play.ensures.some) c.play_file.ensures.ends

pub returns-in-Some-Play-clause-taken : goal.returns-in-Some-Play-clause-taken
returns-in-Some-Play-clause-taken g c =
    let play = c.in-Some-Play in
    let words : List (List ℕ) = map string_bytes c.args.words.now in
    same-play words _ play.from play.to play.period play.periods (asks-as words _ _ play.field-0-is play.ensures.some) c.play_file.ensures.taken

pub returns-in-Some-Play-clause-ready_to_play : goal.returns-in-Some-Play-clause-ready_to_play
returns-in-Some-Play-clause-ready_to_play g c =
    let play = c.in-Some-Play in
    let words : List (List ℕ) = map string_bytes c.args.words.now in
    let files = g.F.Shelf.files in
    let faults = g.F.Shelf.faults in
    let errors = g.K.Sink.faults in
    let ended = c.play_file.result in
    same-play words (λ from to period periods. IsReady (playing period periods) (files c.args.shelf.now) from → (¬ Rose (errors c.args.out.now) (errors c.play_file.new.out)) → (¬ Rose (faults c.args.shelf.now) (faults c.play_file.new.shelf)) → (ended ≡ status.Ok) ⊎ (ended ≡ status.Memory))
    play.from play.to play.period play.periods (asks-as words _ _ play.field-0-is play.ensures.some)
    (λ ready sink shelf. job-ready (playing play.period play.periods) play.from play.to _ _ _ _ ended c.play_file.ensures.ends ready (λ e. sink (c.play_file.ensures.write e)) (λ e. shelf (c.play_file.ensures.store e)))

-- ---- a sound that is recorded

pub returns-in-Some-Capture-clause-captured : goal.returns-in-Some-Capture-clause-captured
returns-in-Some-Capture-clause-captured g c =
    let capture = c.in-Some-Capture in
    let words : List (List ℕ) = map string_bytes c.args.words.now in
    let shelf = g.F.Shelf.files in
    let sink = g.K.Sink.written in
    same-capture words (λ from to frames. JobEnds (capturing frames) from to (shelf c.args.shelf.now) (shelf c.capture_file.new.shelf) (sink c.args.out.now) (sink c.capture_file.new.out) c.capture_file.result)
    capture.from capture.to capture.frames (asks-as words _ _ capture.field-0-is capture.ensures.some) c.capture_file.ensures.ends

pub returns-in-Some-Capture-clause-moved : goal.returns-in-Some-Capture-clause-moved
returns-in-Some-Capture-clause-moved g c =
    let capture = c.in-Some-Capture in
    let words : List (List ℕ) = map string_bytes c.args.words.now in
    same-capture words _ capture.from capture.to capture.frames (asks-as words _ _ capture.field-0-is capture.ensures.some) c.capture_file.ensures.moved

pub returns-in-Some-Capture-clause-ready_to_capture : goal.returns-in-Some-Capture-clause-ready_to_capture
returns-in-Some-Capture-clause-ready_to_capture g c =
    let capture = c.in-Some-Capture in
    let words : List (List ℕ) = map string_bytes c.args.words.now in
    let files = g.F.Shelf.files in
    let faults = g.F.Shelf.faults in
    let errors = g.K.Sink.faults in
    let ended = c.capture_file.result in
    same-capture words (λ from to frames. IsReady (capturing frames) (files c.args.shelf.now) from → (¬ Rose (errors c.args.out.now) (errors c.capture_file.new.out)) → (¬ Rose (faults c.args.shelf.now) (faults c.capture_file.new.shelf)) → (ended ≡ status.Ok) ⊎ (ended ≡ status.Memory))
    capture.from capture.to capture.frames (asks-as words _ _ capture.field-0-is capture.ensures.some)
    (λ ready sink shelf. job-ready (capturing capture.frames) capture.from capture.to _ _ _ _ ended c.capture_file.ensures.ends ready (λ e. sink (c.capture_file.ensures.write e)) (λ e. shelf (c.capture_file.ensures.store e)))

-- ---- a generated script

pub returns-in-Some-Gen-clause-generated : goal.returns-in-Some-Gen-clause-generated
returns-in-Some-Gen-clause-generated g c =
    let words : List (List ℕ) = map string_bytes c.args.words.now in
    let sink = g.K.Sink.written in
    same-gen words (λ n. GenEnds n (sink c.args.out.now) (sink c.run_generated.new.out) c.run_generated.result) c.in-Some-Gen.number (asks-as words _ _ c.in-Some-Gen.field-0-is c.in-Some-Gen.ensures.some) c.run_generated.ensures.ends

-- ---- the device of the sound

pub returns-in-Some-Play-clause-player : goal.returns-in-Some-Play-clause-player
returns-in-Some-Play-clause-player g c = λ never.
    let play = c.in-Some-Play in
    let words : List (List ℕ) = map string_bytes c.args.words.now in
    absurd (never play.from play.to play.period play.periods (asks-as words _ _ play.field-0-is play.ensures.some))

pub returns-in-Some-Capture-clause-recorder : goal.returns-in-Some-Capture-clause-recorder
returns-in-Some-Capture-clause-recorder g c = λ never.
    let capture = c.in-Some-Capture in
    let words : List (List ℕ) = map string_bytes c.args.words.now in
    absurd (never capture.from capture.to capture.frames (asks-as words _ _ capture.field-0-is capture.ensures.some))
