-- Transfers in progress that go the stream's way, as all do.
use Rattle.std.proofs.Common.{ℕ, ◌≡◌, Bool, true, false, cond, nat_eq, List, [], ◌∷◌, ◌++◌, subst}
use Rattle.std.specs.declared.option.Option.TheVariants.{Some}
use Rattle.pcm_base.specs.declared.ids.ClientId.{ClientId}
use Rattle.pcm_base.specs.declared.sleeper.Task.{Task}
use Rattle.pcm_base.specs.declared.sleeper.Task.TheVariants as task
use Rattle.pcm_base.specs.declared.sleeper.Xfer.{Xfer}
use Rattle.pcm_base.specs.declared.state.Dir.{Dir}
use Rattle.pcm_base.specs.model.Events.{others_than, waiting_of}
use Rattle.pcm_base.specs.model.Stream.{Waiting}
use Rattle.pcm_base.specs.model.Words.{is_playback}

-- each transfer in progress goes the stream's way
abbrev pub TaskFits : Dir → Task → Type 0
TaskFits d (task.Transfer x wanted) = x.writing ≡ is_playback d
TaskFits d task.Drain = Unit {0}

abbrev pub AllFit : Dir → List Waiting → Type 0
AllFit d [] = Unit {0}
AllFit d (p ∷ ps) = TaskFits d p.task × AllFit d ps

pub fit-of : (d : Dir) (c : ClientId) (ps : List Waiting) (x : Xfer) (wanted : ℕ) → AllFit d ps → waiting_of c ps ≡ Some (task.Transfer x wanted) → x.writing ≡ is_playback d
fit-of d c [] x wanted h e = absurd (cc)
fit-of d c (p ∷ ps) x wanted h e = by (nat_eq p.client.0 c.0) e (λ g. fit-of d c ps x wanted h.1 g)
  where
    own : (q : Task) → TaskFits d q → Some q ≡ Some (task.Transfer x wanted) → x.writing ≡ is_playback d
    own q f g = let k : q ≡ task.Transfer x wanted = cc in subst (TaskFits d) k f

    by : (b : Bool) → cond b (Some p.task) (waiting_of c ps) ≡ Some (task.Transfer x wanted) → (waiting_of c ps ≡ Some (task.Transfer x wanted) → x.writing ≡ is_playback d) → x.writing ≡ is_playback d
    by true g f = own p.task h.0 g
    by false g f = f g

pub fit-others : (d : Dir) (c : ClientId) (ps : List Waiting) → AllFit d ps → AllFit d (others_than c ps)
fit-others d c [] h = tt
fit-others d c (p ∷ ps) h = by (nat_eq p.client.0 c.0) (fit-others d c ps h.1)
  where
    by : (b : Bool) → AllFit d (others_than c ps) → AllFit d (cond b ps (p ∷ others_than c ps))
    by true g = h.1
    by false g = (h.0, g)

pub fit-more : (d : Dir) (p : Waiting) (ps : List Waiting) → AllFit d ps → TaskFits d p.task → AllFit d (ps ++ p ∷ [])
fit-more d p [] h f = (f, tt)
fit-more d p (q ∷ ps) h f = (h.0, fit-more d p ps h.1 f)
