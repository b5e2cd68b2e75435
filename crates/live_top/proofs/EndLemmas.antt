-- How a run ends, from what its parts tell.
use Rattle.std.proofs.Common.{◌≡◌, ℕ, Bool, true, false, List, [], ◌∷◌, ◌++◌, length, take, drop, Some, None, inl, inr, refl, sym, ap, ◌∙◌, subst, append_assoc}
use Rattle.std.specs.Prelude.{Err, IfSome, Ok}
use Rattle.std.specs.declared.option.Option.{Option}
use Rattle.std.specs.Io.KnownBytes.{Appends}
use Rattle.pcm_io.specs.Shelf.{Files, Stay}
use Rattle.pcm_base.specs.model.Stream.{Stream}
use Rattle.pcm_line.specs.declared.line.Line.{Line}
use Rattle.pcm_line.specs.declared.line.Line.TheVariants as line_is
use Rattle.pcm_text.specs.declared.status.Status.{Status}
use Rattle.pcm_text.specs.declared.status.Status.TheVariants as status
use Rattle.pcm_text.specs.declared.status.Which.TheVariants as which
use Rattle.live_log.specs.Written.{IsFrontWritten}
use Rattle.live_gather.specs.declared.gathered.Gathered.{Gathered}
use Rattle.live_plan.specs.declared.error.PlanError.{PlanError}
use Rattle.live_plan.specs.declared.error.PlanError.TheVariants as error
use Rattle.live_plan.specs.declared.plan.Plan.{Plan}
use Rattle.live_plan.specs.Plan.{Answer, Bad, Gives, Over, Whole}
use Rattle.live_top.specs.Ends.{IsFirstFull, IsReportEnd, ends_text, texts, whole_text}
use Rattle.live_top.specs.Files.{AreLeft, IsFileEnd, IsSaveEnd, IsSavedUpTo, file_of, saved, with_file}
use Rattle.live_top.specs.Outcome.{IsWhole, card_count, entries_by, streams_by}
use Rattle.live_top.specs.Played.{IsGatheredRun}
use Rattle.live_top.specs.Filling.{can_fill_logs}
use Rattle.live_top.specs.RunEnds.{Ends, IsCutBehind, IsCutShort, IsFilled, IsRunEnd, Untouched, status_of}
use Rattle.live_top.specs.Setup.{IsFeedFault}
use Rattle.live_top.proofs.RunLemmas.{run_start}

-- files that stayed, and then stayed again
pub stay_then : (a b c : Option Files) → Stay a b → Stay b c → Stay a c
stay_then None b c x y = tt
stay_then (Some f) None c x y = absurd x
stay_then (Some f) (Some g) None x y = absurd y
stay_then (Some f) (Some g) (Some h) x y = y ∙ x

pub stay_same : (a : Option Files) → Stay a a
stay_same None = tt
stay_same (Some f) = refl

-- how a run ends by a file that it finds

abbrev is_of_file : Status → Bool
is_of_file (status.Missing name) = true
is_of_file (status.BadWav name fault) = true
is_of_file (status.Limit which.WavBytes value) = true
is_of_file _ = false

impossible : (name : List ℕ) (found : Option (List ℕ)) (s : Status) → is_of_file s ≡ false → IsFileEnd name found s → ⊥
impossible name None (status.Missing named) e h = absurd (cc)
impossible name (Some bytes) (status.Limit which.WavBytes value) e h = absurd (cc)
impossible name (Some bytes) (status.BadWav named fault) e h = absurd (cc)
impossible name None s e h = h
impossible name (Some bytes) s e h = h

-- a run whose setup a file of a feed ended
pub feed_end : (plan : Plan) (files files_now : Option Files) (before now : Option (List ℕ)) (s : Status) → IsFeedFault files plan.setup.items s → Untouched files files_now before now → IsRunEnd plan files files_now before now s
feed_end plan files files_now before now status.ShelfFault f u = inl u
feed_end plan files files_now before now status.Memory f u = inl u
feed_end plan files files_now before now (status.Missing name) f u = (f, u)
feed_end plan files files_now before now (status.BadWav name fault) f u = (f, u)
feed_end plan files files_now before now (status.Limit which.WavBytes value) f u = (f, u)
feed_end plan files files_now before now s f u = absurd (impossible f.name f.ended.0 s refl f.ended.2)

-- a front of a text is one of the text with more behind it
front_of : (before now : Option (List ℕ)) (xs ys : List ℕ) → IsFrontWritten before now xs → IsFrontWritten before now (xs ++ ys)
front_of before now xs ys f = record {
  rest = f.rest ++ ys;
  front = record {
    front = f.front.front;
    written = f.front.written;
    cut = ap (λ (l : List ℕ). l ++ ys) f.front.cut ∙ append_assoc f.front.front f.rest ys;
  };
}

-- files that are not told are not told after saves

with_none : (name : List ℕ) (file : Option (List ℕ)) → with_file name file None ≡ None
with_none name None = refl
with_none name (Some file) = refl

saved_none : (streams : ℕ → Stream) (lines : List Line) → saved streams lines None ≡ None
saved_none streams [] = refl
saved_none streams (line_is.Save k name ∷ lines) = ap (λ f. saved streams lines f) (with_none name (file_of (streams k.0))) ∙ saved_none streams lines
saved_none streams (line ∷ lines) = saved_none streams lines

-- what holds of the files as they are holds of those from which they stayed

from_told : (P : Option Files → Type 0) (a b : Option Files) → Stay a b → P None → P b → P a
from_told P None b stay none h = none
from_told P (Some f) None stay none h = absurd stay
from_told P (Some f) (Some g) stay none h = subst (λ (x : Files). P (Some x)) stay h

saved_from : (streams : ℕ → Stream) (lines : List Line) (a b c : Option Files) → Stay a b → Stay (saved streams lines b) c → Stay (saved streams lines a) c
saved_from streams lines a b c stay h = from_told (λ x. Stay (saved streams lines x) c) a b stay (subst (λ x. Stay x c) (sym (saved_none streams lines)) tt) h

left_none : (lines : List Line) (s : Status) (now : Option Files) → AreLeft lines s None now
left_none (line_is.Save k name ∷ lines) status.ShelfFault now = tt
left_none lines s now = tt

saved_up_to : (streams : ℕ → Stream) (lines : List Line) (a b c : Option Files) (s : Status) → Stay a b → IsSavedUpTo streams lines b c s → IsSavedUpTo streams lines a c s
saved_up_to streams lines a b c s stay h = record {
  count = h.count;
  within = h.within;
  left = from_told (λ x. AreLeft (drop h.count lines) s (saved streams (take h.count lines) x) c) a b stay
      (subst (λ x. AreLeft (drop h.count lines) s x c) (sym (saved_none streams (take h.count lines))) (left_none (drop h.count lines) s c)) h.left;
}

module _ (plan : Plan) (files files_now : Option Files) (gs : List Gathered) (before now : Option (List ℕ)) where
  -- a run that a full log stopped

  pub stopped_end : (value : ℕ) → can_fill_logs plan ≡ true → Stay files files_now → (r : IsGatheredRun false plan files gs) → IsFirstFull (length gs) (entries_by r.played.logs) value
      → Appends before now (texts (length gs) (streams_by r.played.ends) (entries_by r.played.logs)) → IsFilled plan files files_now before now value
  stopped_end value can stay r full written = record {
    can = can;
    stopped = record {
      played = r.played;
      run = r.run;
      full = subst (λ n. IsFirstFull n (entries_by r.played.logs) value) r.size full;
      written = subst (λ n. Appends before now (texts n (streams_by r.played.ends) (entries_by r.played.logs))) r.size written;
      stored = stay;
    };
  }

  cut_end : (s : Status) → IsReportEnd s → IsCutShort plan files files_now before now → IsRunEnd plan files files_now before now s
  cut_end s (inl is) cut = subst (λ (x : Status). IsRunEnd plan files files_now before now x) (sym is) cut
  cut_end s (inr is) cut = subst (λ (x : Status). IsRunEnd plan files files_now before now x) (sym is) (inr (inl cut))

  pub stopped_short : (s : Status) → Stay files files_now → (r : IsGatheredRun false plan files gs) → IsReportEnd s
      → IsFrontWritten before now (texts (length gs) (streams_by r.played.ends) (entries_by r.played.logs)) → IsRunEnd plan files files_now before now s
  stopped_short s stay r ended front = cut_end s ended (record {
    played = r.played;
    run = r.run;
    front = front_of before now (texts (card_count plan) (streams_by r.played.ends) (entries_by r.played.logs)) (ends_text (card_count plan) (streams_by r.played.ends))
        (subst (λ n. IsFrontWritten before now (texts n (streams_by r.played.ends) (entries_by r.played.logs))) r.size front);
    stored = stay;
  })

  -- a run that came to its end

  pub whole_short : (s : Status) → Stay files files_now → (r : IsGatheredRun true plan files gs) → IsReportEnd s
      → IsFrontWritten before now (whole_text (length gs) (streams_by r.played.ends) (entries_by r.played.logs)) → IsRunEnd plan files files_now before now s
  whole_short s stay r ended front = cut_end s ended (record {
    played = r.played;
    run = run_start plan files r.played.logs r.run;
    front = subst (λ n. IsFrontWritten before now (whole_text n (streams_by r.played.ends) (entries_by r.played.logs))) r.size front;
    stored = stay;
  })

  pub whole_end : (mid : Option Files) → Stay files mid → (r : IsGatheredRun true plan files gs) → Appends before now (whole_text (length gs) (streams_by r.played.ends) (entries_by r.played.logs))
      → Stay (saved (streams_by r.played.ends) plan.saves.items mid) files_now → IsWhole plan files files_now before now
  whole_end mid stay r written stored = record {
    played = r.played;
    run = r.run;
    written = subst (λ n. Appends before now (whole_text n (streams_by r.played.ends) (entries_by r.played.logs))) r.size written;
    stored = saved_from (streams_by r.played.ends) plan.saves.items files mid files_now stay stored;
  }

  behind : (s : Status) (mid : Option Files) → Stay files mid → (r : IsGatheredRun true plan files gs) → Appends before now (whole_text (length gs) (streams_by r.played.ends) (entries_by r.played.logs))
      → IsSavedUpTo (streams_by r.played.ends) plan.saves.items mid files_now s → IsCutBehind plan files files_now before now s
  behind s mid stay r written up_to = record {
    played = r.played;
    run = r.run;
    written = subst (λ n. Appends before now (whole_text n (streams_by r.played.ends) (entries_by r.played.logs))) r.size written;
    stored = saved_up_to (streams_by r.played.ends) plan.saves.items files mid files_now s stay up_to;
  }

  pub behind_end : (s : Status) (mid : Option Files) → IsSaveEnd s → Stay files mid → (r : IsGatheredRun true plan files gs) → Appends before now (whole_text (length gs) (streams_by r.played.ends) (entries_by r.played.logs))
      → IsSavedUpTo (streams_by r.played.ends) plan.saves.items mid files_now s → IsRunEnd plan files files_now before now s
  behind_end s mid (inl is) stay r written up_to =
      subst (λ (x : Status). IsRunEnd plan files files_now before now x) (sym is) (inr (subst (λ (x : Status). IsCutBehind plan files files_now before now x) is (behind s mid stay r written up_to)))
  behind_end s mid (inr is) stay r written up_to =
      subst (λ (x : Status). IsRunEnd plan files files_now before now x) (sym is) (inr (inr (subst (λ (x : Status). IsCutBehind plan files files_now before now x) is (behind s mid stay r written up_to))))

-- how a run ends by what the bytes of its plan come to

pub if_some : {A : Type 0} (P Q : A → Type 0) (o : Option A) → ((x : A) → P x → Q x) → IfSome o P → IfSome o Q
if_some P Q None f h = h
if_some P Q (Some x) f h = f x h

module _ (files files_now : Option Files) (before now : Option (List ℕ)) where
  pub refused_ends : (answer : Answer) (fault : PlanError) → Gives (Err fault) answer → Untouched files files_now before now → Ends answer files files_now before now (status_of fault)
  refused_ends (Bad n f) (error.BadLine number fault) g u = (u, inl (λ i. status.BadLine (g.0 i) (g.1 i)))
  refused_ends (Over w v) (error.Limit which value) g u = (u, inl (λ i. status.Limit (g.0 i) (g.1 i)))
  refused_ends (Whole said) error.Read g u = inl (tt, u)
  refused_ends (Whole said) error.Memory g u = inl (tt, u)
  refused_ends (Bad n f) error.Read g u = (u, inr tt)
  refused_ends (Bad n f) error.Memory g u = (u, inr tt)
  refused_ends (Over w v) error.Read g u = (u, inr tt)
  refused_ends (Over w v) error.Memory g u = (u, inr tt)
  refused_ends (Whole said) (error.BadLine number fault) g u = absurd g
  refused_ends (Whole said) (error.Limit which value) g u = absurd g
  refused_ends (Bad n f) (error.Limit which value) g u = absurd g
  refused_ends (Over w v) (error.BadLine number fault) g u = absurd g

  pub run_ends : (answer : Answer) (plan : Plan) (result : Status) → Gives (Ok plan) answer → IsRunEnd plan files files_now before now result → Ends answer files files_now before now result
  run_ends (Whole said) plan result g h = inr (plan, g, h)
  run_ends (Bad n f) plan result g h = absurd g
  run_ends (Over w v) plan result g h = absurd g
