-- What of a run the program's call tells: what is written and stored for words that ask for a command.
use Rattle.std.proofs.Common.{◌≡◌, ℕ, List, ◌++◌, length, take, None, Some, refl, sym, ◌∙◌, ap, subst, inl, inr, arith}
use Rattle.std.specs.Prelude.{IfSome, ◌⊎◌}
use Rattle.std.specs.declared.option.Option.{Option}
use Rattle.std.specs.Io.KnownBytes.{Appends}
use Rattle.std.proofs.lemmas.List.{take_all}
use Rattle.pcm_base.specs.Causes.{Rose}
use Rattle.pcm_io.specs.Shelf.{Files}
use Rattle.pcm_io.proofs.Taken.{appends_more}
use Rattle.pcm_top.specs.declared.command.Command.{Command}
use Rattle.pcm_top.specs.declared.end.End.{End}
use Rattle.pcm_top.specs.declared.end.End.TheVariants.{Whole, BadLine, ScriptLines, ScriptBytes, ShelfFault, Missing, WavBytes, BadWav}
use Rattle.pcm_top.specs.CodeSession.{IsRan, IsRanToFault, IsRanShort}
use Rattle.pcm_top.specs.Output.{IsFrontRun, IsOutput, IsUpToFault, IsReached, IsPart, status_of}
use Rattle.pcm_text.specs.declared.status.Status.{Status}
use Rattle.pcm_text.specs.declared.status.Status.TheVariants as status
use Rattle.pcm_top.specs.Script.{IsScript, whole_text}
use Rattle.pcm_top.proofs.FrontLemmas.{front-of-reached, front-of-part, script-complete}
use Rattle.pcm_top.proofs.StreamLemmas.{front-sent}

pub if-some : {A : Type 0} (P : A → Type 0) (o : Option A) (a : A) → o ≡ Some a → P a → IfSome o P
if-some P o a e h = subst (λ (x : Option _). IfSome x P) (sym e) h

pub if-some-map : {A : Type 0} (P Q : A → Type 0) (o : Option A) → ((a : A) → P a → Q a) → IfSome o P → IfSome o Q
if-some-map P Q None f h = tt
if-some-map P Q (Some a) f h = f a h

-- all of the text was written
pub ran-output : (c : Command) (script : List ℕ) (files files_now : Option Files) (before now after : Option (List ℕ)) (text : List ℕ) (ended : End) → IsRan c script files files_now before now text ended
    → Appends now after text → IsOutput c script files files_now before after (status_of ended)
ran-output c script files files_now before now after text ended ran written = record {
  last = ran.last;
  ended = ended;
  gives = ran.gives;
  status = refl;
  stored = ran.shelf;
  written = subst (λ (x : List ℕ). Appends before after x) (sym ran.whole) (appends_more before now after ran.sent text ran.written written);
}

-- the first n bytes of what was gathered were written
pub ran-front : (c : Command) (script : List ℕ) (files files_now : Option Files) (faults faults_now : ℕ) (before now after : Option (List ℕ)) (text : List ℕ) (ended : End) (n : ℕ) → IsRan c script files files_now before now text ended
    → (ended ≡ ShelfFault → Rose faults faults_now) → Appends now after (take n text) → IsFrontRun c script files files_now faults faults_now before after
ran-front c script files files_now faults faults_now before now after text ended n ran failed written =
    let part : IsPart c script files files_now faults faults_now (ran.sent ++ take n text) = record {
      last = ran.last;
      ended = ended;
      gives = ran.gives;
      stored = ran.shelf;
      failed = failed;
      front = front-sent ran.sent text (whole_text c ended ran.last) n ran.whole;
    } in
    record {
      text = ran.sent ++ take n text;
      written = appends_more before now after ran.sent (take n text) ran.written written;
      front = front-of-part c script files files_now faults faults_now (ran.sent ++ take n text) part;
      executed = inr part;
    }

pub fault-told : (c : Command) (script : List ℕ) (left : Option (List ℕ)) (files files_now : Option Files) (before now after : Option (List ℕ)) (text : List ℕ) → IsRanToFault c script left files files_now before now text
    → Appends now after text → IsUpToFault c script left files files_now before after
fault-told c script left files files_now before now after text ran written = record {
  read = ran.read;
  consumed = ran.consumed;
  last = ran.last;
  answered = ran.answered;
  reaches = ran.reaches;
  stored = ran.shelf;
  written = subst (λ (x : List ℕ). Appends before after x) (sym ran.whole) (appends_more before now after ran.sent text ran.written written);
}

-- some of the lines were executed, and no store failed
pub reached-run : (c : Command) (script : List ℕ) (files files_now : Option Files) (faults faults_now : ℕ) (before now : Option (List ℕ)) (text : List ℕ) → IsReached c script files files_now text
    → Appends before now text → IsFrontRun c script files files_now faults faults_now before now
reached-run c script files files_now faults faults_now before now text reached written = record {
  text = text;
  written = written;
  front = front-of-reached c script files files_now text reached;
  executed = inl reached;
}

pub fault-front : (c : Command) (script : List ℕ) (left : Option (List ℕ)) (files files_now : Option Files) (faults faults_now : ℕ) (before now after : Option (List ℕ)) (text : List ℕ) (n : ℕ)
    → IsRanToFault c script left files files_now before now text → Appends now after (take n text) → IsFrontRun c script files files_now faults faults_now before after
fault-front c script left files files_now faults faults_now before now after text n ran written =
    let reached : IsReached c script files files_now (ran.sent ++ take n text) = record {
      last = ran.last;
      reaches = ran.reaches;
      stored = ran.shelf;
      front = front-sent ran.sent text ran.last.text n ran.whole;
    } in
    reached-run c script files files_now faults faults_now before after (ran.sent ++ take n text) reached (appends_more before now after ran.sent (take n text) ran.written written)

pub short-front : (c : Command) (script : List ℕ) (files files_now : Option Files) (faults faults_now : ℕ) (before now : Option (List ℕ)) → IsRanShort c script files files_now before now
    → IsFrontRun c script files files_now faults faults_now before now
short-front c script files files_now faults faults_now before now ran = reached-run c script files files_now faults faults_now before now ran.text ran.reached ran.written

pub whole-front : (before now : Option (List ℕ)) (text : List ℕ) → Appends before now text → Appends before now (take (length text) text)
whole-front before now text h = subst (λ (x : List ℕ). Appends before now x) (sym (take_all (length text) text (omega arith))) h

pub shelf-status : (e : End) → status_of e ≡ status.ShelfFault → e ≡ ShelfFault
shelf-status ShelfFault h = refl
shelf-status Whole h = cc
shelf-status (BadLine line fault) h = cc
shelf-status ScriptLines h = cc
shelf-status ScriptBytes h = cc
shelf-status (Missing name) h = cc
shelf-status WavBytes h = cc
shelf-status (BadWav name fault) h = cc

-- a script of lines of the command, whose stores go well, is executed whole
pub output-complete : (c : Command) (script : List ℕ) (files files_now : Option Files) (before now : Option (List ℕ)) (ended : End) (result : Status) → result ≡ status_of ended
    → IsOutput c script files files_now before now (status_of ended) → IsScript c script files → (ended ≡ ShelfFault → ⊥) → (result ≡ status.Ok) ⊎ (result ≡ status.Memory)
output-complete c script files files_now before now ended result e out is calm = elim (script-complete c script files out.last out.ended is out.gives) [
  | inl whole ↦ inl (e ∙ out.status ∙ ap status_of whole)
  | inr lost ↦ absurd (calm (shelf-status ended (out.status ∙ ap status_of lost)))
]
