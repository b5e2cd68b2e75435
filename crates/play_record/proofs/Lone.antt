-- A step of a group of one member.
use Rattle.std.proofs.Common.{ℕ, ◌≡◌, Bool, true, false, cond, nat_eq, List, [], ◌∷◌, refl, sym, ap, ◌∙◌, subst, arith}
use Rattle.std.proofs.lemmas.Bool.Decides.{nat_tests}
use Rattle.std.specs.declared.option.Option.{Option}
use Rattle.std.specs.declared.option.Option.TheVariants.{Some, None}
use Rattle.pcm_base.specs.declared.act.Act.{Act}
use Rattle.pcm_base.specs.declared.act.Outcome.{Outcome}
use Rattle.pcm_base.specs.declared.act.Outcome.TheVariants as outcome
use Rattle.pcm_base.specs.declared.act.Vote.{Vote}
use Rattle.pcm_base.specs.declared.act.Vote.TheVariants as vote
use Rattle.pcm_base.specs.declared.call.Call.{Call}
use Rattle.pcm_base.specs.declared.ids.ClientId.{ClientId}
use Rattle.pcm_base.specs.declared.ids.SubId.{SubId}
use Rattle.pcm_base.specs.declared.reply.Reply.{Reply}
use Rattle.pcm_base.specs.declared.state.Errno.{Errno}
use Rattle.pcm_base.specs.declared.votes.Acted.{Acted}
use Rattle.pcm_base.specs.model.Acts.{acted, asked, decide, done, members_after, pre, trips, trying, refusing, is_refused}
use Rattle.pcm_base.specs.model.Events.{program}
use Rattle.pcm_base.specs.model.Group.{Run, behind, group_step, mark, marked, put_stream, run, run_event, stream_of}
use Rattle.pcm_base.specs.model.Program.{Answer, Program, Ends, Makes}
use Rattle.pcm_base.specs.model.Sleep.{group_drains, sleepers_that, wake}
use Rattle.pcm_base.specs.model.Stream.{Stream, Waiting, Member as ModelMember, no_stream}
use Rattle.play_record.specs.Stages.{lone}
use Rattle.play_record.specs.Steps.{GoesTo}

same : (n : ℕ) → nat_eq n n ≡ true
same n = grind (arith, nat_tests)

pub stream-lone : (k : SubId) (s : Stream) → stream_of k (lone k s ∷ []) ≡ s
stream-lone k s = ap (λ b. cond b s no_stream) (same k.0)

put-lone : (k : SubId) (s t : Stream) → put_stream k t (lone k s ∷ []) ≡ lone k t ∷ []
put-lone k s t = ap (λ b. lone k (cond b t s) ∷ []) (same k.0)

-- one member alone decides an act
abbrev done_by : Act → Acted
done_by a = record { act = a; outcome = outcome.Done; votes = vote.Yes ∷ [] }

votes_yes : (a : Act) (k : SubId) (s : Stream) (p : Option Errno) (b : Bool) → p ≡ None → b ≡ false
    → cond (elim p as (λ _. Bool) [ Some e ↦ true | None ↦ false ]) (elim p as (λ _. List Vote) [ Some e ↦ vote.Refuse e ∷ [] | None ↦ vote.Yes ∷ [] ]) (cond b (vote.Fail ∷ []) (vote.Yes ∷ [])) ≡ vote.Yes ∷ []
votes_yes a k s (Some e) b h g = absurd (cc)
votes_yes a k s None true h g = absurd (cc)
votes_yes a k s None false h g = refl

acted-lone : (a : Act) (k : SubId) (s : Stream) → pre s a ≡ None → trips s a ≡ false → acted a (lone k s ∷ []) ≡ done_by a
acted-lone a k s p b = ap (λ vs. record { act = a; outcome = decide (k ∷ []) vs; votes = vs }) (votes_yes a k s (pre s a) (trips s a) p b)

-- the run came to this answer and this stream
abbrev Comes : SubId → Answer → Stream → Run → Type 0
Comes k r t x = (x.answer ≡ r) × (x.members ≡ lone k t ∷ [])

abbrev acted_on : SubId → (Outcome → Stream → Program) → List ModelMember → Acted → Run
acted_on k f ms d = behind d (run (f d.outcome (stream_of k (members_after d ms))) k (members_after d ms))

run-lone : (p : Program) (k : SubId) (s : Stream) (r : Answer) (t : Stream) → GoesTo p r t → Comes k r t (run p k (lone k s ∷ []))
run-lone (Ends a u) k s r t h = (h.0, put-lone k s u ∙ ap (λ v. lone k v ∷ []) h.1)
run-lone (Makes a u f) k s r t h =
    let v : Stream = done a (asked u a) in
    let next : Comes k r t (run (f outcome.Done v) k (lone k v ∷ [])) = run-lone (f outcome.Done v) k v r t h.2 in
    let there : Comes k r t (acted_on k f (lone k u ∷ []) (done_by a)) = subst (λ w. Comes k r t (behind (done_by a) (run (f outcome.Done w) k (lone k v ∷ [])))) (sym (stream-lone k v)) next in
    let decided : Comes k r t (acted_on k f (lone k u ∷ []) (acted a (lone k u ∷ []))) = subst (λ d. Comes k r t (acted_on k f (lone k u ∷ []) d)) (sym (acted-lone a k u h.0 h.1)) there in
    subst (λ ms. Comes k r t (acted_on k f ms (acted a ms))) (sym (put-lone k s u)) decided

woken-lone : (k : SubId) (r : Reply) (c : ClientId) (t : Stream) → t.sleepers ≡ [] → wake (mark k r c (lone k t ∷ [])) ≡ lone k t ∷ []
woken-lone k r c t h =
    ap (λ ps. record { sub = k; stream = t; asleep = sleepers_that true (group_drains (mark k r c (lone k t ∷ []))) t (cond (nat_eq k.0 k.0) (marked r c []) []) ps } ∷ []) h

-- A step whose program comes to this answer and this stream.
pub step-lone : (e : Call) (c : ClientId) (k : SubId) (io : List ℕ) (s : Stream) (r : Answer) (t : Stream) → GoesTo (program e c false io s) r t → t.sleepers ≡ []
    → ((group_step e c k io (lone k s ∷ [])).answer ≡ r) × ((group_step e c k io (lone k s ∷ [])).members ≡ lone k t ∷ [])
step-lone e c k io s r t h calls =
    let runs : Comes k r t (run (program e c false io (stream_of k (lone k s ∷ []))) k (lone k s ∷ [])) =
    subst (λ w. Comes k r t (run (program e c false io w) k (lone k s ∷ []))) (sym (stream-lone k s)) (run-lone (program e c false io s) k s r t h) in
    let x : Run = run_event e c k io (lone k s ∷ []) in
    (runs.0, ap (λ ms. wake (mark k x.answer.reply c ms)) runs.1 ∙ woken-lone k x.answer.reply c t calls)
