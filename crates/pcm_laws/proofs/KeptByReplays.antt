-- The replay of a stream's part in a step keeps it sound.
use Rattle.std.proofs.Common.{ℕ, Bool, List, [], ◌∷◌, sym, ap, ◌∙◌, subst}
use Rattle.pcm_base.specs.declared.call.Call.{Call}
use Rattle.pcm_base.specs.declared.ids.ClientId.{ClientId}
use Rattle.pcm_base.specs.declared.ids.SubId.{SubId}
use Rattle.pcm_base.specs.declared.reply.Reply.{Reply}
use Rattle.pcm_base.specs.declared.votes.Acted.{Acted}
use Rattle.pcm_base.specs.model.Events.{program}
use Rattle.pcm_base.specs.model.Program.{Answer, Ends, Makes, Program}
use Rattle.pcm_base.specs.model.Replay.{Fits, Joins, Part, Plays, PlaysOwn, joined, parts_of}
use Rattle.pcm_base.specs.model.Sound.{KeepsSound, Sound, is_stop}
use Rattle.pcm_base.specs.model.Stream.{Stream}
use Rattle.pcm_laws.proofs.KeptByEvents.{KeepsSound-program}
use Rattle.pcm_laws.proofs.KeptByVotes.{Sound-after}
use Rattle.pcm_laws.specs.Soundness.{AllStop}

-- a program that keeps streams sound, with any joints that fit
pub Plays-sound : (k : SubId) (p : Program) (ps : List Part) (b : Answer) (t : Stream) → Plays k p ps b t → KeepsSound k p → Sound t × AllStop ps
Plays-sound k (Ends a s) [] b t h g = (subst Sound (sym h.1) g, tt)
Plays-sound k (Ends a s) (q ∷ ps) b t h g = absurd h
Plays-sound k (Makes a s f) [] b t h g = absurd h
Plays-sound k (Makes a s f) (q ∷ ps) b t h g =
    let fit : Fits k s a q.vote q.outcome = subst (λ x. Fits k s x q.vote q.outcome) h.0 h.1 in
    let next : KeepsSound k (f q.outcome (joined q s)) = subst (λ x. KeepsSound k (f q.outcome (joined (record { act = x; vote = q.vote; outcome = q.outcome }) s))) (sym h.0) (g.2 q.vote q.outcome fit) in
    let rest : Sound t × AllStop ps = Plays-sound k (f q.outcome (joined q s)) ps b t h.2 next in
    (rest.0, (ap is_stop h.0 ∙ g.1, rest.1))

-- the joints alone
pub Joins-sound : (k : SubId) (s : Stream) (ps : List Part) (t : Stream) → Joins k s ps t → AllStop ps → Sound s → Sound t
Joins-sound k s [] t h a g = subst Sound (sym h) g
Joins-sound k s (q ∷ ps) t h a g = Joins-sound k (joined q s) ps t h.1 a.1 (Sound-after k q.act q.vote q.outcome s a.0 h.0 g)

-- the acts are the same for every member
pub AllStop-parts_of : (k j : SubId) (ks : List SubId) (ds : List Acted) → AllStop (parts_of k ks ds) → AllStop (parts_of j ks ds)
AllStop-parts_of k j ks [] a = tt
AllStop-parts_of k j ks (d ∷ ds) a = (a.0, AllStop-parts_of k j ks ds a.1)

-- an entry of its own
pub PlaysOwn-sound : (k : SubId) (e : Call) (c : ClientId) (linked : Bool) (count : ℕ) (bytes : List ℕ) (ps : List Part) (r : Reply) (s t : Stream) → PlaysOwn k e c linked count bytes ps r s t → Sound s → Sound t × AllStop ps
PlaysOwn-sound k e c linked count bytes ps r s t h g = Plays-sound k (program e c linked h.io s) ps h.answer t h.plays (KeepsSound-program k e c linked h.io s g)
