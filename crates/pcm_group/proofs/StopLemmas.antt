-- A stop that is done leaves no card of the group running.
use Rattle.std.proofs.Common.{◌≡◌, Bool, true, false, cond, nat_eq, List, [], ◌∷◌, None, refl, sym, ◌∙◌, subst}
use Rattle.pcm_base.specs.declared.act.Act.{Act}
use Rattle.pcm_base.specs.declared.act.Act.TheVariants as act
use Rattle.pcm_base.specs.declared.act.Outcome.{Outcome}
use Rattle.pcm_base.specs.declared.act.Outcome.TheVariants as outcome
use Rattle.pcm_base.specs.declared.act.Vote.{Vote}
use Rattle.pcm_base.specs.declared.act.Vote.TheVariants as vote
use Rattle.pcm_base.specs.declared.card.Card.{Ghosts}
use Rattle.pcm_base.specs.declared.ids.SubId.{SubId}
use Rattle.pcm_base.specs.declared.state.State.{State}
use Rattle.pcm_base.specs.declared.votes.Acted.{Acted}
use Rattle.pcm_base.specs.model.Acts.{after_all, decide, is_refused, members_after, stopped, subs}
use Rattle.pcm_base.specs.model.Group.{stream_of}
use Rattle.pcm_base.specs.model.Stream.{Member as ModelMember}
use Rattle.pcm_laws.proofs.KeptByEvents.{stands-stopped}
use Rattle.pcm_stream.specs.declared.members.Member.{Member}
use Rattle.pcm_stream.specs.MembersStand.{AllStandFor}
use Rattle.group_trigger.specs.Votes.{IsActed, TriedBy, VotedBy}
use Rattle.pcm_group.specs.Ended.{error_of}

pub none_refuses : (u : State) (xs : List ModelMember) → is_refused (act.Stop u) xs ≡ false
none_refuses u [] = refl
none_refuses u (x ∷ xs) = none_refuses u xs

pub tried_stand : {C : Type 0} {g : Ghosts C} (tells : List Bool) (u : State) (ms : List (Member C g)) (xs : List ModelMember) (vs : List Vote) (k : SubId) → AllStandFor ms xs → TriedBy tells (act.Stop u) xs vs → decide (subs xs) vs ≡ outcome.Done
    → (stream_of k (after_all (act.Stop u) outcome.Done vs xs)).card.runs ≡ false
tried_stand tells u ms [] [] k h t d = refl
tried_stand tells u ms [] (v ∷ vs) k h t d = refl
tried_stand [] u ms (x ∷ xs) [] k h t d = absurd t
tried_stand [] u ms (x ∷ xs) (v ∷ vs) k h t d = absurd t
tried_stand (b ∷ bs) u ms (x ∷ xs) [] k h t d = absurd t
tried_stand (b ∷ bs) u [] (x ∷ xs) (v ∷ vs) k h t d = absurd h
tried_stand (b ∷ bs) u (m ∷ ms) (x ∷ xs) (vote.Yes ∷ vs) k h t d = by (nat_eq x.sub.0 k.0) (tried_stand bs u ms xs vs k h.1 t.1 d)
  where
    by : (c : Bool) → (stream_of k (after_all (act.Stop u) outcome.Done vs xs)).card.runs ≡ false → (cond c (stopped u x.stream) (stream_of k (after_all (act.Stop u) outcome.Done vs xs))).card.runs ≡ false
    by true rest = stands-stopped u x.stream h.0.stream.sound
    by false rest = rest
tried_stand (b ∷ bs) u (m ∷ ms) (x ∷ xs) (vote.Fail ∷ vs) k h t d = absurd (let no : ⊥ = cc in no)
tried_stand (b ∷ bs) u (m ∷ ms) (x ∷ xs) (vote.Refuse e ∷ vs) k h t d = absurd t
tried_stand (b ∷ bs) u (m ∷ ms) (x ∷ xs) (vote.Unasked ∷ vs) k h t d = absurd t

pub is_done : (o : Outcome) → error_of o ≡ None → o ≡ outcome.Done
is_done outcome.Done h = refl
is_done (outcome.Refused j e) h = absurd (let no : ⊥ = cc in no)
is_done (outcome.Failed j) h = absurd (let no : ⊥ = cc in no)

pub made_stand : {C : Type 0} {g : Ghosts C} (tells : List Bool) (u : State) (ms : List (Member C g)) (xs : List ModelMember) (d : Acted) (k : SubId) → AllStandFor ms xs → IsActed tells (act.Stop u) xs d → error_of d.outcome ≡ None
    → (stream_of k (members_after d xs)).card.runs ≡ false
made_stand tells u ms xs d k h acted none =
    let done : d.outcome ≡ outcome.Done = is_done d.outcome none in
    let tried : TriedBy tells (act.Stop u) xs d.votes = subst (λ (b : Bool). VotedBy b tells (act.Stop u) xs d.votes) (none_refuses u xs) acted.votes in
    subst (λ (a : Act). (stream_of k (after_all a d.outcome d.votes xs)).card.runs ≡ false) (sym acted.act)
    (subst (λ (o : Outcome). (stream_of k (after_all (act.Stop u) o d.votes xs)).card.runs ≡ false) (sym done)
    (tried_stand tells u ms xs d.votes k h tried (sym acted.outcome ∙ done)))
