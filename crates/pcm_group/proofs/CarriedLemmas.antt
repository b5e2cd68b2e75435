-- What an event carries of its call.
use Rattle.std.proofs.Common.{◌≡◌, ℕ, false, List, refl}
use Rattle.pcm_base.specs.declared.call.Call.{Call}
use Rattle.pcm_base.specs.declared.call.Call.TheVariants as call
use Rattle.pcm_base.specs.declared.reply.Reply.{Reply}
use Rattle.pcm_base.specs.declared.reply.Reply.TheVariants as reply
use Rattle.pcm_base.specs.declared.state.Errno.{Errno}
use Rattle.pcm_base.specs.model.Stream.{Stream}
use Rattle.pcm_group.specs.Lent.{Loads, is_lent_call}

-- a refusal leaves the bytes, and so does an event that is lent none
pub refusal_leaves : (e : Call) (s : Stream) (d : Errno) (io : List ℕ) → Loads e s (reply.Err d) io io
refusal_leaves (call.Load o n) s d io = refl
refusal_leaves _ s d io = tt

pub unlent_leaves : (e : Call) (s : Stream) (r : Reply) (io : List ℕ) → is_lent_call e ≡ false → Loads e s r io io
unlent_leaves (call.Load o n) s r io h = absurd (let no : ⊥ = cc in no)
unlent_leaves _ s r io h = tt
