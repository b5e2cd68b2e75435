-- The text of a run, and what is gathered of it. This project's own.
use Rattle.std.specs.Prelude.{◌≡◌, ◌⊎◌, ◌<◌, ◌≤◌, ◌-◌, ◌^◌, ℕ, List, ◌++◌, length, min, slice_get}
use Rattle.std.specs.List.{flat_map, range_with_len}
use Rattle.std.specs.declared.option.Option.TheVariants.{Some}
use Rattle.pcm_base.specs.declared.ids.SubId.{SubId}
use Rattle.pcm_base.specs.model.Events.{page}
use Rattle.pcm_base.specs.model.Stream.{Stream}
use Rattle.pcm_stream.specs.StandsFor.{StandsFor}
use Rattle.pcm_text.specs.End.{end_line}
use Rattle.pcm_text.specs.declared.status.Status.{Status}
use Rattle.pcm_text.specs.declared.status.Status.TheVariants as status
use Rattle.floor_rule.specs.declared.entry.Entry.{Entry}
use Rattle.live_gather.specs.declared.gathered.Gathered.{Gathered}
use Rattle.live_log.specs.Log.{lines_from}
use Rattle.live_log.specs.declared.log.LogError.{LogError}
use Rattle.live_log.specs.declared.log.LogError.TheVariants as log_error

abbrev pub sub_at : ℕ → SubId
sub_at j = record { 0 = j }

-- substream j has the log of these entries, and stands for this stream
pub record IsOf (j : ℕ) (entries : List Entry) (s : Stream) (g : Gathered) : Type 0 where
  pub sub : g.log.sub ≡ sub_at j
  pub entries_are : g.log.entries.items ≡ entries
  pub stands : StandsFor g.stream s

-- these are the substreams by rising number, each of its log and its stream
pub record AreOf (logs : ℕ → List Entry) (streams : ℕ → Stream) (gs : List Gathered) : Type 0 where
  pub each : (j : ℕ) (g : Gathered) → slice_get gs j ≡ Some g → IsOf j (logs j) (streams j) g

-- the lines of the log of substream j
abbrev pub text_at : (ℕ → Stream) → (ℕ → List Entry) → ℕ → List ℕ
text_at streams logs j = lines_from (streams j).dir (sub_at j) 0 (logs j)

-- the logs of the first substreams, one behind the other
abbrev pub texts : ℕ → (ℕ → Stream) → (ℕ → List Entry) → List ℕ
texts count streams logs = flat_map (λ j. text_at streams logs j) (range_with_len 0 count)

-- the `end` line of a substream
abbrev pub end_of : SubId → Stream → List ℕ
end_of k s = end_line k (page s) (min s.moved (2 ^ 64 - 1))

-- those of the first substreams
abbrev pub ends_text : ℕ → (ℕ → Stream) → List ℕ
ends_text count streams = flat_map (λ j. end_of (sub_at j) (streams j)) (range_with_len 0 count)

-- all that is written of a run that came to its end
abbrev pub whole_text : ℕ → (ℕ → Stream) → (ℕ → List Entry) → List ℕ
whole_text count streams logs = texts count streams logs ++ ends_text count streams

-- how a run ends whose logs were not written, or not whole
abbrev pub status_of : LogError → Status
status_of log_error.Failed = status.WriteFault
status_of log_error.Memory = status.Memory

abbrev pub IsReportEnd : Status → Type 0
IsReportEnd s = (s ≡ status.WriteFault) ⊎ (s ≡ status.Memory)

-- the count of entries above which a log takes no more
abbrev pub log_limit : ℕ
log_limit = 16777212

-- The first of so many logs with more entries than the limit has so many.
pub record IsFirstFull (count : ℕ) (logs : ℕ → List Entry) (value : ℕ) : Type 0 where
  pub place : ℕ
  pub within : place < count
  pub value_is : value ≡ length (logs place)
  pub full : log_limit < value
  pub none_before : (j : ℕ) → j < place → length (logs j) ≤ log_limit

-- none of so many logs has more entries than the limit
abbrev pub IsNoneFull : ℕ → (ℕ → List Entry) → Type 0
IsNoneFull count logs = (j : ℕ) → j < count → length (logs j) ≤ log_limit
