-- What the step of a transfer answers.
use Rattle.std.proofs.Common.{◌≡◌, ℕ, ◌-◌, Bool, cond, nat_eq, List, [], length, refl, sym, ap, ◌∙◌, subst, arith}
use Rattle.std.proofs.lemmas.List.{append-nil}
use Rattle.pcm_base.specs.declared.card.Card.{Ghosts}
use Rattle.pcm_base.specs.declared.ids.ClientId.{ClientId}
use Rattle.pcm_base.specs.declared.ids.SubId.{SubId}
use Rattle.pcm_base.specs.declared.reply.Reply.{Reply}
use Rattle.pcm_base.specs.declared.reply.Reply.TheVariants as reply
use Rattle.pcm_base.specs.declared.sleeper.Xfer.{Xfer}
use Rattle.pcm_base.specs.declared.votes.Acted.{Acted}
use Rattle.pcm_base.specs.model.Frame.{Frame}
use Rattle.pcm_base.specs.model.Group.{mark, put_stream, stream_of}
use Rattle.pcm_base.specs.model.Program.{Program}
use Rattle.pcm_base.specs.model.Stream.{Stream, Member as ModelMember}
use Rattle.pcm_base.specs.model.Transfer.{tells as telling}
use Rattle.pcm_laws.proofs.Marks.{put_stream-own}
use Rattle.pcm_stream.specs.declared.members.Member.{Member}
use Rattle.pcm_stream.specs.MembersStand.{AllStandFor}
use Rattle.xfer_loop.specs.Loop.{IsOnTheWay}
use Rattle.pcm_group.specs.Ended.{IsAt, IsEnded, IsEndedBy}

-- the frames of this step, by those of the call
pub frames_now : (x z : Xfer) (fs : List Frame) (before : ℕ) → IsOnTheWay x z fs → x.moved ≡ before → z.moved - before ≡ length fs
frames_now x z fs before h e = omega (arith, h.moved, e)

pub first_now : (x z : Xfer) (fs : List Frame) (before : ℕ) → IsOnTheWay x z fs → x.moved ≡ before → cond (nat_eq (z.moved - before) 0) 0 before ≡ cond (nat_eq (length fs) 0) 0 x.moved
first_now x z fs before h e = ap (λ (n : ℕ). cond (nat_eq n 0) 0 before) (frames_now x z fs before h e) ∙ sym (ap (λ (n : ℕ). cond (nat_eq (length fs) 0) 0 n) e)

pub IsEnded-telling : {C : Type 0} {g : Ghosts C} (tells : List Bool) (k : SubId) (xs : List ModelMember) (old : List Acted) (r : Reply) (x : Xfer) (fs : List Frame) (ms : List (Member C g)) (i : ℕ)
    → IsAt ms i k tells xs → IsEnded tells (telling r x fs (stream_of k xs)) k xs old old r (cond (nat_eq (length fs) 0) 0 x.moved) (length fs) ms
IsEnded-telling tells k xs old r x fs ms i at = record {
  made = [];
  answer = record { reply = r; first = cond (nat_eq (length fs) 0) 0 x.moved; frames = fs };
  left = xs;
  acts = sym (append-nil old);
  runs = (refl, sym (put_stream-own k xs at.distinct));
  reply = refl;
  first = refl;
  moved = refl;
  stands = at.stands;
}

pub IsEndedBy-telling_asleep : {C : Type 0} {g : Ghosts C} (c : ClientId) (tells : List Bool) (t : Stream) (k : SubId) (xs : List ModelMember) (old : List Acted) (x : Xfer) (fs : List Frame) (ms : List (Member C g))
    → AllStandFor ms (mark k reply.Asleep c (put_stream k t xs)) → IsEndedBy c tells (telling reply.Asleep x fs t) k xs old old reply.Asleep (cond (nat_eq (length fs) 0) 0 x.moved) (length fs) ms
IsEndedBy-telling_asleep c tells t k xs old x fs ms h = record {
  made = [];
  answer = record { reply = reply.Asleep; first = cond (nat_eq (length fs) 0) 0 x.moved; frames = fs };
  left = put_stream k t xs;
  acts = sym (append-nil old);
  runs = (refl, refl);
  reply = refl;
  first = refl;
  moved = refl;
  stands = h;
}

-- the answer by its parts
pub IsEndedBy-told : {C : Type 0} {g : Ghosts C} (c : ClientId) (tells : List Bool) (p q : Program) (k : SubId) (xs : List ModelMember) (old new : List Acted) (r s : Reply) (f e n m : ℕ) (ms : List (Member C g))
    → p ≡ q → r ≡ s → f ≡ e → n ≡ m → IsEndedBy c tells q k xs old new s e m ms → IsEndedBy c tells p k xs old new r f n ms
IsEndedBy-told c tells p q k xs old new r s f e n m ms a b d i h =
    subst (λ (y : Program). IsEndedBy c tells y k xs old new r f n ms) (sym a)
    (subst (λ (y : Reply). IsEndedBy c tells q k xs old new y f n ms) (sym b)
    (subst (λ (y : ℕ). IsEndedBy c tells q k xs old new s y n ms) (sym d)
    (subst (λ (y : ℕ). IsEndedBy c tells q k xs old new s e y ms) (sym i) h)))
