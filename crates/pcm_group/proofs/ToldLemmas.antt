-- Where every card tells its fault plan, acts and runs are those of the model.
use Rattle.std.proofs.Common.{◌≡◌, Bool, true, false, cond, ◌&&◌, List, [], ◌∷◌, length, replicate, refl, sym, ap, ◌∙◌}
use Rattle.pcm_base.specs.declared.act.Act.{Act}
use Rattle.pcm_base.specs.declared.act.Vote.{Vote}
use Rattle.pcm_base.specs.declared.act.Vote.TheVariants as vote
use Rattle.pcm_base.specs.declared.ids.SubId.{SubId}
use Rattle.pcm_base.specs.declared.votes.Acted.{Acted}
use Rattle.pcm_base.specs.model.Acts.{acted, decide, is_refused, members_after, refusing, subs, trying, votes}
use Rattle.pcm_base.specs.model.Group.{Run, behind, put_stream, run, stream_of}
use Rattle.pcm_base.specs.model.Program.{Answer, Ends, Makes, Program}
use Rattle.pcm_base.specs.model.Stream.{Member as ModelMember}
use Rattle.group_trigger.specs.Votes.{IsActed, TriedBy, VotedBy}
use Rattle.pcm_group.specs.Ended.{RunsTo}
use Rattle.pcm_group.specs.Stepped.{all_true}

both : (a b : Bool) → (a && b) ≡ true → (a ≡ true) × (b ≡ true)
both true b h = (refl, h)
both false b h = absurd (let no : ⊥ = cc in no)

tried_told : (ts : List Bool) (a : Act) (ms : List ModelMember) (vs : List Vote) → all_true ts ≡ true → TriedBy ts a ms vs → vs ≡ trying a ms
tried_told [] a [] [] t h = refl
tried_told [] a [] (v ∷ vs) t h = absurd h
tried_told [] a (m ∷ ms) vs t h = absurd h
tried_told (b ∷ ts) a [] vs t h = absurd h
tried_told (b ∷ ts) a (m ∷ ms) [] t h = absurd h
tried_told (b ∷ ts) a (m ∷ ms) (vote.Yes ∷ vs) t h =
    let p = both b (all_true ts) t in
    ap (λ (l : List Vote). vote.Yes ∷ l) (tried_told ts a ms vs p.1 h.1) ∙ sym (ap (λ (c : Bool). cond c (vote.Fail ∷ replicate (length ms) vote.Unasked) (vote.Yes ∷ trying a ms)) (h.0 p.0))
tried_told (b ∷ ts) a (m ∷ ms) (vote.Fail ∷ vs) t h =
    let p = both b (all_true ts) t in
    ap (λ (l : List Vote). vote.Fail ∷ l) h.2 ∙ sym (ap (λ (c : Bool). cond c (vote.Fail ∷ replicate (length ms) vote.Unasked) (vote.Yes ∷ trying a ms)) (h.1 p.0))
tried_told (b ∷ ts) a (m ∷ ms) (vote.Unasked ∷ vs) t h = absurd h
tried_told (b ∷ ts) a (m ∷ ms) (vote.Refuse e ∷ vs) t h = absurd h

voted_told : (r : Bool) (ts : List Bool) (a : Act) (ms : List ModelMember) (vs : List Vote) → all_true ts ≡ true → VotedBy r ts a ms vs → vs ≡ cond r (refusing a ms) (trying a ms)
voted_told true ts a ms vs t h = h
voted_told false ts a ms vs t h = tried_told ts a ms vs t h

pub acted_told : (ts : List Bool) (a : Act) (ms : List ModelMember) (d : Acted) → all_true ts ≡ true → IsActed ts a ms d → d ≡ acted a ms
acted_told ts a ms d t h =
    let vs : d.votes ≡ votes a ms = voted_told (is_refused a ms) ts a ms d.votes t h.votes in
    let o : d.outcome ≡ decide (subs ms) (votes a ms) = h.outcome ∙ ap (λ (l : List Vote). decide (subs ms) l) vs in
    λ i. record { act = h.act i; outcome = o i; votes = vs i }

abbrev pub ran : Answer → List Acted → List ModelMember → Run
ran b ds ys = record { answer = b; acts = ds; members = ys }

pub run_told : (ts : List Bool) (p : Program) (k : SubId) (xs : List ModelMember) (ds : List Acted) (b : Answer) (ys : List ModelMember) → all_true ts ≡ true → RunsTo ts p k xs ds b ys → ran b ds ys ≡ run p k xs
run_told ts (Ends a s) k xs [] b ys t h = λ i. ran (h.0 i) [] (h.1 i)
run_told ts (Ends a s) k xs (d ∷ ds) b ys t h = absurd h
run_told ts (Makes a s f) k xs [] b ys t h = absurd h
run_told ts (Makes a s f) k xs (d ∷ ds) b ys t h =
    let now = put_stream k s xs in
    let is : d ≡ acted a now = acted_told ts a now d t h.0 in
    ap (behind d) (run_told ts (f d.outcome (stream_of k (members_after d now))) k (members_after d now) ds b ys t h.1)
    ∙ ap (λ (e : Acted). behind e (run (f e.outcome (stream_of k (members_after e now))) k (members_after e now))) is
