-- What programs that make no act end with.
use Rattle.std.proofs.Common.{◌≡◌, Bool, true, false, nat_lt, List, [], ◌∷◌, length, Option, None, Some, Result, Ok, Err, MatchResult, OnOk, IfErr, refl, sym, ap, ◌∙◌, subst, arith}
use Rattle.std.proofs.lemmas.Bool.Decides.{nat_tests}
use Rattle.pcm_base.specs.declared.call.CallKind.{CallKind}
use Rattle.pcm_base.specs.declared.card.Card.{Ghosts}
use Rattle.pcm_base.specs.declared.reply.Reply.{Reply}
use Rattle.pcm_base.specs.declared.reply.Reply.TheVariants as reply
use Rattle.pcm_base.specs.declared.state.Errno.{Errno}
use Rattle.pcm_base.specs.declared.state.Errno.TheVariants as errno
use Rattle.pcm_base.specs.model.Acts.{table}
use Rattle.pcm_base.specs.model.Events.{if_held, is_busy}
use Rattle.pcm_base.specs.model.Program.{fails, says, unless}
use Rattle.pcm_base.specs.model.Stream.{Stream, Waiting}
use Rattle.pcm_base.specs.model.Words.{when, ◌then◌}
use Rattle.pcm_stream.specs.declared.substream.Substream.{Substream}
use Rattle.pcm_stream.specs.MembersStand.{CallsFit}
use Rattle.pcm_stream.specs.SetUp.{change_refusal}
use Rattle.pcm_stream.specs.StandsFor.{StandsFor}
use Rattle.pcm_group.specs.Ended.{IsOwnEnd, KeepsCalls}
use Rattle.pcm_group.proofs.EndedLemmas.{IsOwnEnd-at, allowed-is, keeps-itself, refused-is}

-- an answer, and the stream that it leaves
pub Own-says : {C : Type 0} {g : Ghosts C} (s t : Stream) (q r : Reply) (sub : Substream C g) → r ≡ q → KeepsCalls s t → StandsFor sub t → IsOwnEnd s (says q t) r 0 0 sub
Own-says s t q r sub e keeps stands = (e, refl, refl, keeps, stands)

-- a call that is refused, or leaves the stream as t
pub Own-unless : {C : Type 0} {g : Ghosts C} (refusal : Option Errno) (s t : Stream) (r : Result (Unit {0}) Errno) (q : Reply) (sub : Substream C g) → (refusal ≡ None → KeepsCalls s t)
    → OnOk r ((refusal ≡ None) × StandsFor sub t) → IfErr r (λ e. (refusal ≡ Some e) × StandsFor sub s) → MatchResult r (λ _. q ≡ reply.Ok) (λ e. q ≡ reply.Err e)
    → IsOwnEnd s (unless refusal s (says reply.Ok t)) q 0 0 sub
Own-unless refusal s t (Ok u) q sub keeps ok refused k =
    IsOwnEnd-at s (unless refusal s (says reply.Ok t)) (says reply.Ok t) q 0 0 sub (allowed-is refusal s (says reply.Ok t) ok.0) (Own-says s t reply.Ok q sub k (keeps ok.0) ok.1)
Own-unless refusal s t (Err e) q sub keeps ok refused k =
    IsOwnEnd-at s (unless refusal s (says reply.Ok t)) (fails e s) q 0 0 sub (refused-is refusal s (says reply.Ok t) e refused.0) (Own-says s s (reply.Err e) q sub k (keeps-itself s) refused.1)

-- ---- where no call is in progress

held_none : (o : Option Errno) (m b : Bool) → (o then (when m errno.Ebadfd then when b errno.Ebusy)) ≡ None → b ≡ false
held_none (Some e) m b h = absurd (let no : ⊥ = cc in no)
held_none None true b h = absurd (let no : ⊥ = cc in no)
held_none None false true h = absurd (let no : ⊥ = cc in no)
held_none None false false h = refl

pub change_free : (k : CallKind) (b : Bool) (s : Stream) → change_refusal k b s ≡ None → b ≡ false
change_free k b s h = held_none (table k s) (nat_lt 0 s.mappings) b h

pub no_calls : (ps : List Waiting) → nat_lt 0 (length ps) ≡ false → ps ≡ []
no_calls [] h = refl
no_calls (p ∷ ps) h = absurd (let no : ⊥ = grind (arith, nat_tests, h) in no)

pub keeps-none : (s t : Stream) → t.sleepers ≡ s.sleepers → is_busy s ≡ false → KeepsCalls s t
keeps-none s t same free =
    let none : t.sleepers ≡ [] = same ∙ no_calls s.sleepers free in
    record { same = same; fit = λ h. subst (λ (ps : List Waiting). CallsFit t ps) (sym none) tt }

-- the refusal of a held stream, where the code says whether it is busy
pub held-is : (k : CallKind) (s : Stream) (b : Bool) → b ≡ is_busy s → (table k s then if_held s) ≡ change_refusal k b s
held-is k s b e = ap (λ (x : Bool). table k s then (when (nat_lt 0 s.mappings) errno.Ebadfd then when x errno.Ebusy)) (sym e)
