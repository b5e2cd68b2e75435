-- What an event does to its own stream, as a program: it ends with an answer, or it makes an act over its group and goes on with the act's outcome and its own stream after it.
use Rattle.std.specs.Prelude.{ℕ, List, []}
use Rattle.std.specs.declared.option.Option.{Option}
use Rattle.std.specs.declared.option.Option.TheVariants.{Some, None}
use Rattle.pcm_base.specs.declared.act.Act.{Act}
use Rattle.pcm_base.specs.declared.act.Act.TheVariants as act
use Rattle.pcm_base.specs.declared.act.Outcome.{Outcome}
use Rattle.pcm_base.specs.declared.act.Outcome.TheVariants as outcome
use Rattle.pcm_base.specs.declared.act.Updated.{Updated}
use Rattle.pcm_base.specs.declared.act.Updated.TheVariants as updated
use Rattle.pcm_base.specs.declared.reply.Reply.{Reply}
use Rattle.pcm_base.specs.declared.reply.Reply.TheVariants as reply
use Rattle.pcm_base.specs.declared.state.Errno.{Errno}
use Rattle.pcm_base.specs.declared.state.Errno.TheVariants as errno
use Rattle.pcm_base.specs.declared.state.State.TheVariants as state
use Rattle.pcm_base.specs.model.Frame.{Frame}
use Rattle.pcm_base.specs.model.Stream.{Stream}
use Rattle.pcm_base.specs.model.Update.{update}

-- The reply, and the frames that this step moved: those of the call from first on, or those that the card took.
pub record Answer : Type 0 where
  pub reply : Reply
  pub first : ℕ
  pub frames : List Frame

-- Ends has the answer and the stream afterwards; Makes the act, the stream before it, and what follows.
pub data Program : Type 0 where
  Ends : Answer → Stream → Program
  Makes : Act → Stream → (Outcome → Stream → Program) → Program

-- an answer that moved no frames
abbrev pub says : Reply → Stream → Program
says r s = Ends (record { reply = r; first = 0; frames = [] }) s

abbrev pub fails : Errno → Stream → Program
fails e s = says (reply.Err e) s

-- the refusal, or else p
abbrev pub unless : Option Errno → Stream → Program → Program
unless (Some e) s p = fails e s
unless None s p = p

-- goes on where the act is done; else its error is the answer
abbrev pub going_on : (Stream → Program) → Outcome → Stream → Program
going_on f outcome.Done t = f t
going_on f (outcome.Refused j e) t = fails e t
going_on f (outcome.Failed j) t = fails errno.Eio t

abbrev pub making : Act → Stream → (Stream → Program) → Program
making a s f = Makes a s (going_on f)

-- an act alone
abbrev pub act_alone : Act → Stream → Program
act_alone a s = making a s (says reply.Ok)

-- an update, the stop of the group that it may ask for, and what follows
abbrev pub after_found : (Updated → Stream → Program) → Updated → Stream → Program
after_found f updated.Nothing s = f updated.Nothing s
after_found f updated.DrainDone s = f updated.DrainDone s
after_found f updated.StopXrun s = Makes (act.Stop state.Xrun) s (λ o. f updated.StopXrun)

abbrev pub updating : Stream → (Updated → Stream → Program) → Program
updating s f = let u = update s in after_found f u.found u.stream

-- the client whose update ended a drain or stopped the group gets EPIPE
abbrev pub or_epipe : (Stream → Program) → Updated → Stream → Program
or_epipe f updated.Nothing s = f s
or_epipe f updated.DrainDone s = fails errno.Epipe s
or_epipe f updated.StopXrun s = fails errno.Epipe s

abbrev pub updated_or_epipe : Stream → (Stream → Program) → Program
updated_or_epipe s f = updating s (or_epipe f)
