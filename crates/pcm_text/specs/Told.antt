-- One line of the transcript. This project's own.
use Rattle.std.specs.Prelude.{ℕ, List, [], ◌++◌, codes, decimal}
use Rattle.std.specs.Fmt.{signed_decimal}
use Rattle.std.specs.declared.option.Option.{Option}
use Rattle.std.specs.declared.option.Option.TheVariants.{Some, None}
use Rattle.pcm_base.specs.Numbers.{errno_number}
use Rattle.pcm_base.specs.declared.reply.Page.{Page}
use Rattle.pcm_base.specs.declared.reply.Ready.{Ready}
use Rattle.pcm_base.specs.declared.reply.Ready.TheVariants as ready
use Rattle.pcm_base.specs.declared.reply.Reply.{Reply}
use Rattle.pcm_base.specs.declared.reply.Reply.TheVariants as reply
use Rattle.pcm_base.specs.declared.reply.Told.{Told}
use Rattle.pcm_base.specs.declared.state.Errno.{Errno}
use Rattle.pcm_text.specs.Hex.{hex_text}
use Rattle.pcm_text.specs.Names.{errno_name, shown_state}
use Rattle.pcm_text.specs.Woken.{wake_text}

abbrev pub ready_name : Ready → List ℕ
ready_name ready.No = codes "none"
ready_name ready.Yes = codes "ready"
ready_name ready.Error = codes "error"

abbrev pub pointers_text : Page → List ℕ
pointers_text p = codes "hw " ++ decimal p.hw ++ codes " appl " ++ decimal p.appl

abbrev pub errno_text : Errno → List ℕ
errno_text e = codes "err " ++ errno_name e ++ codes " " ++ decimal (errno_number e)

-- an answer without bytes; want of memory is never printed
abbrev pub reply_text : Reply → List ℕ
reply_text reply.Ok = codes "ok"
reply_text (reply.Frames n) = codes "frames " ++ decimal n
reply_text (reply.Moved n) = codes "moved " ++ decimal n
reply_text (reply.Delay n) = codes "delay " ++ signed_decimal n
reply_text (reply.Ptrs p) = codes "ptrs " ++ pointers_text p ++ codes " avail " ++ decimal p.avail
reply_text (reply.Poll r) = codes "poll " ++ ready_name r
reply_text reply.Asleep = codes "asleep"
reply_text (reply.Err e) = errno_text e
reply_text (reply.Late room) = codes "late " ++ decimal room
reply_text reply.Idle = codes "idle"
reply_text (reply.Limit total) = codes "limit " ++ decimal total
reply_text (reply.Busy c) = codes "busy c" ++ decimal c.0
reply_text reply.Memory = []

-- the bytes that were read, or that a playback card took, where there are such
abbrev pub shown_bytes : Option (List ℕ) → List ℕ
shown_bytes (Some bytes) = codes " " ++ hex_text bytes
shown_bytes None = []

-- what an answer shows beside its own text
abbrev pub bytes_text : Reply → Option (List ℕ) → List ℕ
bytes_text (reply.Frames n) bytes = shown_bytes bytes
bytes_text (reply.Moved n) bytes = shown_bytes bytes
bytes_text r _ = []

-- bytes stand behind a count of frames alone
abbrev pub answer_text : Reply → Option (List ℕ) → List ℕ
answer_text (reply.Frames n) bytes = reply_text (reply.Frames n) ++ shown_bytes bytes
answer_text (reply.Moved n) bytes = reply_text (reply.Moved n) ++ shown_bytes bytes
answer_text r _ = reply_text r

-- the line's number, the answer, the state after the step, and who was marked awake
abbrev pub told_line : ℕ → Told → Option (List ℕ) → List ℕ
told_line number told bytes =
    decimal number ++ codes " " ++ answer_text told.reply bytes ++ codes " " ++ shown_state told.state
    ++ wake_text told.woken ++ codes "\n"
