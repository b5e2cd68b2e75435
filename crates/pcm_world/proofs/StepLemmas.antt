-- A step of a group, by its members' own parts.
use Rattle.std.proofs.Common.{◌≡◌, ℕ, Bool, true, false, cond, nat_eq, nat_lt, ◌||◌, List, [], ◌∷◌, length, refl, sym, ap, ◌∙◌, subst}
use Rattle.pcm_base.specs.declared.call.Call.{Call}
use Rattle.pcm_base.specs.declared.ids.ClientId.{ClientId}
use Rattle.pcm_base.specs.declared.ids.SubId.{SubId}
use Rattle.pcm_base.specs.model.Acts.{after, subs}
use Rattle.pcm_base.specs.model.Events.{program}
use Rattle.pcm_base.specs.model.Group.{Run, group_step, run_event, stream_of}
use Rattle.pcm_base.specs.model.Program.{Answer, Ends, Makes, Program}
use Rattle.pcm_base.specs.model.Replay.{Decomposes, Distinct, Joins, Part, Plays, is_member, joined, parts_of}
use Rattle.pcm_base.specs.model.Stream.{Stream, Member, no_stream}
use Rattle.pcm_laws.proofs.Leaves.{IsSameBesideActs-after}
use Rattle.pcm_laws.proofs.Steps.{Joins-group_step, subs-group_step}
use Rattle.pcm_laws.specs.Steps.{IsSameBesideActs}
use Rattle.pcm_laws.proofs.Decomposition.{Decomposes-run}
use Rattle.pcm_laws.proofs.Marks.{stream_of-group_step}
use Rattle.pcm_world.specs.Laws.{NamedStreamIsStepped}
use Rattle.pcm_world.specs.Waiting.{IsStepped}
use Rattle.pcm_world.proofs.EventWalk.{steps-program}
use Rattle.pcm_world.proofs.TransferWalk.{Keeps}

-- what each end of a program has, the end that is played has
pub plays-kept : (P : Answer → Stream → Type 0) (k : SubId) (p : Program) (ps : List Part) (b : Answer) (t : Stream) → Plays k p ps b t → Keeps P p → P b t
plays-kept P k (Ends a s) [] b t h g = subst (λ (x : Answer). P x t) (sym h.0) (subst (λ (x : Stream). P a x) (sym h.1) g)
plays-kept P k (Ends a s) (q ∷ ps) b t h g = absurd h
plays-kept P k (Makes a s f) [] b t h g = absurd h
plays-kept P k (Makes a s f) (q ∷ ps) b t h g =
    plays-kept P k (f q.outcome (joined q s)) ps b t h.2 (subst (λ x. Keeps P (f q.outcome (after x q.vote q.outcome s))) (sym h.0) (g q.vote q.outcome))

-- joints leave the set-up and the calls in progress
pub record IsJoined (s t : Stream) : Type 0 where
  pub setup : t.setup ≡ s.setup
  pub sleepers : t.sleepers ≡ s.sleepers

pub joins-left : (k : SubId) (s : Stream) (ps : List Part) (t : Stream) → Joins k s ps t → IsJoined s t
joins-left k s [] t h = record { setup = ap (λ (x : Stream). x.setup) h; sleepers = ap (λ (x : Stream). x.sleepers) h }
joins-left k s (p ∷ ps) t h =
    let rest : IsJoined (joined p s) t = joins-left k (joined p s) ps t h.1 in
    let same : IsSameBesideActs s (joined p s) = IsSameBesideActs-after p.act p.vote p.outcome s in
    record { setup = rest.setup ∙ same.setup; sleepers = rest.sleepers ∙ same.sleepers }

-- what stands for a stream that is no member
pub stream-absent : (k : SubId) (ms : List Member) → is_member k (subs ms) ≡ false → stream_of k ms ≡ no_stream
stream-absent k [] h = refl
stream-absent k (m ∷ ms) h = by (nat_eq m.sub.0 k.0) h (stream-absent k ms)
  where
    by : (b : Bool) → (b || is_member k (subs ms)) ≡ false → (is_member k (subs ms) ≡ false → stream_of k ms ≡ no_stream) → cond b m.stream (stream_of k ms) ≡ no_stream
    by true f r = absurd (let no : ⊥ = cc in no)
    by false f r = r f

pub calls-elsewhere : (e : Call) (c : ClientId) (k : SubId) (io : List ℕ) (ms : List Member) → Distinct (subs ms) → is_member k (subs ms) ≡ true → (j : SubId) → nat_eq j.0 k.0 ≡ false
    → ((stream_of j (group_step e c k io ms).members).setup ≡ (stream_of j ms).setup) × ((stream_of j (group_step e c k io ms).members).sleepers ≡ (stream_of j ms).sleepers)
calls-elsewhere e c k io ms distinct here j other = by (is_member j (subs ms)) refl
  where
    by : (b : Bool) → is_member j (subs ms) ≡ b → ((stream_of j (group_step e c k io ms).members).setup ≡ (stream_of j ms).setup) × ((stream_of j (group_step e c k io ms).members).sleepers ≡ (stream_of j ms).sleepers)
    by true is =
        let h : IsJoined (stream_of j ms) (stream_of j (group_step e c k io ms).members) =
        joins-left j (stream_of j ms) (parts_of j (subs ms) (group_step e c k io ms).acts) (stream_of j (group_step e c k io ms).members) (Joins-group_step e c k io ms distinct here j other is) in
        (h.setup, h.sleepers)
    by false is =
        let absent : is_member j (subs (group_step e c k io ms).members) ≡ false = ap (is_member j) (subs-group_step e c k io ms) ∙ is in
        let same : stream_of j (group_step e c k io ms).members ≡ stream_of j ms = stream-absent j (group_step e c k io ms).members absent ∙ sym (stream-absent j ms is) in
        (ap (λ (t : Stream). t.setup) same, ap (λ (t : Stream). t.sleepers) same)

-- the law of the named stream
pub step-named : NamedStreamIsStepped
step-named e d k io ms distinct here h =
    let s : Stream = stream_of k ms in
    let linked : Bool = nat_lt 1 (length ms) in
    let r : Run = run_event e d k io ms in
    let own : Decomposes (program e d linked io s) k ms r = Decomposes-run (program e d linked io s) k ms distinct here in
    subst (λ (t : Stream). IsStepped e d io s r.answer t) (sym (stream_of-group_step e d k io k ms))
    (plays-kept (IsStepped e d io s) k (program e d linked io s) (parts_of k (subs ms) r.acts) r.answer (stream_of k r.members) own.own (steps-program e d linked io s h))
