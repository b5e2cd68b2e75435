-- The votes of a group on an act that one member decides, or none.
use Rattle.std.proofs.Common.{◌≡◌, ℕ, zero, suc, ◌+◌, ◌-◌, ◌<◌, ◌≤◌, Bool, true, false, cond, ◌&&◌, List, [], ◌∷◌, ◌++◌, length, map, replicate, Option, Some, None, refl, sym, ap, ◌∙◌, subst, arith}
use Rattle.std.specs.List.{slice_get}
use Rattle.pcm_base.specs.declared.act.Act.{Act}
use Rattle.pcm_base.specs.declared.act.Outcome.{Outcome}
use Rattle.pcm_base.specs.declared.act.Outcome.TheVariants as outcome
use Rattle.pcm_base.specs.declared.act.Vote.{Vote}
use Rattle.pcm_base.specs.declared.act.Vote.TheVariants as vote
use Rattle.pcm_base.specs.declared.card.Card.{Ghosts}
use Rattle.pcm_base.specs.declared.ids.SubId.{SubId}
use Rattle.pcm_base.specs.declared.state.Errno.{Errno}
use Rattle.pcm_base.specs.declared.votes.Acted.{Acted}
use Rattle.pcm_base.specs.model.Acts.{acted, decide, is_refused, pre, refusing, subs, trips, trying, votes}
use Rattle.pcm_base.specs.model.Stream.{Member as ModelMember}
use Rattle.pcm_stream.specs.declared.members.Member.{Member}
use Rattle.pcm_stream.specs.MembersStand.{AllStandFor}
use Rattle.group_trigger.specs.Phases.{AllBefore, Allows, Fails, HoldsAt, Makes, Refuses, RoseAt}
use Rattle.group_trigger.specs.Votes.{FaultsBy, IsActed, TriedBy, VotedBy, all_tell, all_true, votes_at}
use Rattle.group_trigger.proofs.ListLemmas.{AllBefore-rest}

-- votes on one member more
votes_at-first : (n m : ℕ) (v : Vote) → n ≡ m → votes_at (suc n) zero v ≡ v ∷ replicate m vote.Unasked
votes_at-first n m v e = let k : suc n - 0 - 1 ≡ m = omega (arith, e) in ap (λ (j : ℕ). v ∷ replicate j vote.Unasked) k

votes_at-next : (n k : ℕ) (v : Vote) → votes_at (suc n) (suc k) v ≡ vote.Yes ∷ votes_at n k v
votes_at-next n k v = let e : suc n - suc k - 1 ≡ n - k - 1 = omega arith in ap (λ (j : ℕ). vote.Yes ∷ (replicate k vote.Yes ++ v ∷ replicate j vote.Unasked)) e

pub AllStandFor-length : {C : Type 0} {g : Ghosts C} (ms : List (Member C g)) (xs : List ModelMember) → AllStandFor ms xs → length ms ≡ length xs
AllStandFor-length [] [] h = refl
AllStandFor-length [] (x ∷ xs) h = absurd h
AllStandFor-length (m ∷ ms) [] h = absurd h
AllStandFor-length (m ∷ ms) (x ∷ xs) h = ap suc (AllStandFor-length ms xs h.1)

-- what the first member's refusal makes of the votes
abbrev refused_first : Option Errno → Bool → Bool
refused_first o b = elim o as (λ _. Bool) [ Some e ↦ true | None ↦ b ]

abbrev refusing_first : Option Errno → ℕ → List Vote → List Vote
refusing_first o n vs = elim o as (λ _. List Vote) [ Some e ↦ vote.Refuse e ∷ replicate n vote.Unasked | None ↦ vote.Yes ∷ vs ]

-- ---- a refusal

pub record IsRefusedBy (a : Act) (k : ℕ) (n : ℕ) (e : Errno) (sub : SubId) (xs : List ModelMember) : Type 0 where
  pub refused : is_refused a xs ≡ true
  pub votes : votes_at n k (vote.Refuse e) ≡ refusing a xs
  pub outcome : outcome.Refused sub e ≡ decide (subs xs) (votes_at n k (vote.Refuse e))

pub refused_by : {C : Type 0} {g : Ghosts C} (a : Act) (k : ℕ) (e : Errno) (m : Member C g) (ms : List (Member C g)) (xs : List ModelMember) → AllStandFor ms xs
    → AllBefore (Allows a) k ms → slice_get ms k ≡ Some m → HoldsAt (Refuses a e) k ms → IsRefusedBy a k (length ms) e m.sub xs
refused_by a k e m [] xs h before at refuses = absurd (let no : ⊥ = cc in no)
refused_by a k e m (y ∷ ms) [] h before at refuses = absurd h
refused_by {C = C} {g = g} a zero e m (y ∷ ms) (x ∷ xs) h before at refuses =
    let same : y ≡ m = cc in
    let r : pre x.stream a ≡ Some e = refuses y refl x.stream h.0.stream in
    let vs = votes_at-first (length ms) (length xs) (vote.Refuse e) (AllStandFor-length ms xs h.1) in
    record {
      refused = ap (λ (o : Option Errno). refused_first o (is_refused a xs)) r;
      votes = vs ∙ sym (ap (λ (o : Option Errno). refusing_first o (length xs) (refusing a xs)) r);
      outcome = ap (λ (s : SubId). outcome.Refused s e) (ap (λ (z : Member C g). z.sub) (sym same) ∙ h.0.member.number)
          ∙ sym (ap (λ (ws : List Vote). decide (x.sub ∷ subs xs) ws) vs);
    }
refused_by a (suc k) e m (y ∷ ms) (x ∷ xs) h before at refuses =
    let r : pre x.stream a ≡ None = before 0 y (omega arith) refl x.stream h.0.stream in
    let vs = votes_at-next (length ms) k (vote.Refuse e) in
    let more = refused_by a k e m ms xs h.1 (AllBefore-rest (Allows a) k y ms before) at (λ n is. refuses n is) in
    record {
      refused = ap (λ (o : Option Errno). refused_first o (is_refused a xs)) r ∙ more.refused;
      votes = vs ∙ ap (λ (ws : List Vote). vote.Yes ∷ ws) more.votes ∙ sym (ap (λ (o : Option Errno). refusing_first o (length xs) (refusing a xs)) r);
      outcome = more.outcome ∙ sym (ap (λ (ws : List Vote). decide (x.sub ∷ subs xs) ws) vs);
    }

-- nobody refuses
pub allowed_by : {C : Type 0} {g : Ghosts C} (a : Act) (ms : List (Member C g)) (xs : List ModelMember) → AllStandFor ms xs → AllBefore (Allows a) (length ms) ms → is_refused a xs ≡ false
allowed_by a [] [] h before = refl
allowed_by a [] (x ∷ xs) h before = absurd h
allowed_by a (m ∷ ms) [] h before = absurd h
allowed_by a (m ∷ ms) (x ∷ xs) h before =
    ap (λ (o : Option Errno). refused_first o (is_refused a xs)) (before 0 m (omega arith) refl x.stream h.0.stream)
    ∙ allowed_by a ms xs h.1 (AllBefore-rest (Allows a) (length ms) m ms before)

-- ---- a failure

pub record IsTried (tells : List Bool) (a : Act) (vs : List Vote) (o : Outcome) (xs : List ModelMember) : Type 0 where
  pub votes : TriedBy tells a xs vs
  pub outcome : o ≡ decide (subs xs) vs

pub failed_by : {C : Type 0} {g : Ghosts C} (a : Act) (k : ℕ) (m : Member C g) (ms : List (Member C g)) (xs : List ModelMember) → AllStandFor ms xs
    → AllBefore (Makes a) k ms → slice_get ms k ≡ Some m → HoldsAt (Fails a) k ms → IsTried (all_tell ms) a (votes_at (length ms) k vote.Fail) (outcome.Failed m.sub) xs
failed_by a k m [] xs h before at fails = absurd (let no : ⊥ = cc in no)
failed_by a k m (y ∷ ms) [] h before at fails = absurd h
failed_by {C = C} {g = g} a zero m (y ∷ ms) (x ∷ xs) h before at fails =
    let same : y ≡ m = cc in
    let f = fails y refl x.stream h.0.stream in
    let vs = votes_at-first (length ms) (length xs) vote.Fail (AllStandFor-length ms xs h.1) in
    record {
      votes = subst (λ (ws : List Vote). TriedBy (all_tell (y ∷ ms)) a (x ∷ xs) ws) (sym vs) (f.0, f.1, refl);
      outcome = ap (λ (s : SubId). outcome.Failed s) (ap (λ (z : Member C g). z.sub) (sym same) ∙ h.0.member.number)
          ∙ sym (ap (λ (ws : List Vote). decide (x.sub ∷ subs xs) ws) vs);
    }
failed_by a (suc k) m (y ∷ ms) (x ∷ xs) h before at fails =
    let vs = votes_at-next (length ms) k vote.Fail in
    let more = failed_by a k m ms xs h.1 (AllBefore-rest (Makes a) k y ms before) at (λ n is. fails n is) in
    record {
      votes = subst (λ (ws : List Vote). TriedBy (all_tell (y ∷ ms)) a (x ∷ xs) ws) (sym vs) (before 0 y (omega arith) refl x.stream h.0.stream, more.votes);
      outcome = more.outcome ∙ sym (ap (λ (ws : List Vote). decide (x.sub ∷ subs xs) ws) vs);
    }

-- every card does its part
pub made_by : {C : Type 0} {g : Ghosts C} (a : Act) (ms : List (Member C g)) (xs : List ModelMember) → AllStandFor ms xs → AllBefore (Makes a) (length ms) ms
    → IsTried (all_tell ms) a (replicate (length ms) vote.Yes) outcome.Done xs
made_by a [] [] h before = record { votes = tt; outcome = refl }
made_by a [] (x ∷ xs) h before = absurd h
made_by a (m ∷ ms) [] h before = absurd h
made_by a (m ∷ ms) (x ∷ xs) h before =
    let more = made_by a ms xs h.1 (AllBefore-rest (Makes a) (length ms) m ms before) in
    record {
      votes = (before 0 m (omega arith) refl x.stream h.0.stream, more.votes);
      outcome = more.outcome;
    }

-- ---- an act as its members decide it

pub IsActed-refused : (tells : List Bool) (a : Act) (n k : ℕ) (e : Errno) (sub : SubId) (xs : List ModelMember) (d : Acted) → d.act ≡ a → d.votes ≡ votes_at n k (vote.Refuse e) → d.outcome ≡ outcome.Refused sub e
    → IsRefusedBy a k n e sub xs → IsActed tells a xs d
IsActed-refused tells a n k e sub xs d act votes outcome h = record {
  act = act;
  votes = subst (λ (b : Bool). VotedBy b tells a xs d.votes) (sym h.refused) (votes ∙ h.votes);
  outcome = outcome ∙ h.outcome ∙ ap (λ (vs : List Vote). decide (subs xs) vs) (sym votes);
}

pub IsActed-tried : (tells : List Bool) (a : Act) (vs : List Vote) (o : Outcome) (xs : List ModelMember) (d : Acted) → d.act ≡ a → d.votes ≡ vs → d.outcome ≡ o
    → is_refused a xs ≡ false → IsTried tells a vs o xs → IsActed tells a xs d
IsActed-tried tells a vs o xs d act votes outcome allowed h = record {
  act = act;
  votes = subst (λ (b : Bool). VotedBy b tells a xs d.votes) (sym allowed) (subst (λ (ws : List Vote). TriedBy tells a xs ws) (sym votes) h.votes);
  outcome = outcome ∙ h.outcome ∙ ap (λ (ws : List Vote). decide (subs xs) ws) (sym votes);
}

-- ---- counts of faults

unasked_faults : (n : ℕ) (bs : List ℕ) → n ≡ length bs → FaultsBy (replicate n vote.Unasked) bs bs
unasked_faults zero [] e = tt
unasked_faults zero (b ∷ bs) e = absurd (let no : ⊥ = omega (arith, e) in no)
unasked_faults (suc n) [] e = absurd (let no : ⊥ = omega (arith, e) in no)
unasked_faults (suc n) (b ∷ bs) e = (refl, unasked_faults n bs (omega (arith, e)))

pub yes_faults : (n : ℕ) (bs : List ℕ) → n ≡ length bs → FaultsBy (replicate n vote.Yes) bs bs
yes_faults zero [] e = tt
yes_faults zero (b ∷ bs) e = absurd (let no : ⊥ = omega (arith, e) in no)
yes_faults (suc n) [] e = absurd (let no : ⊥ = omega (arith, e) in no)
yes_faults (suc n) (b ∷ bs) e = (refl, yes_faults n bs (omega (arith, e)))

pub refused_faults : (n k : ℕ) (e : Errno) (bs : List ℕ) → n ≡ length bs → k < n → FaultsBy (votes_at n k (vote.Refuse e)) bs bs
refused_faults n zero e [] is lt = absurd (let no : ⊥ = omega (arith, is) in no)
refused_faults n (suc k) e [] is lt = absurd (let no : ⊥ = omega (arith, is) in no)
refused_faults n zero e (b ∷ bs) is lt = (refl, unasked_faults (n - 0 - 1) bs (omega (arith, is)))
refused_faults zero (suc k) e (b ∷ bs) is lt = absurd (let no : ⊥ = omega (arith, is) in no)
refused_faults (suc n) (suc k) e (b ∷ bs) is lt = subst (λ (vs : List Vote). FaultsBy vs (b ∷ bs) (b ∷ bs)) (sym (votes_at-next n k (vote.Refuse e))) (refl, refused_faults n k e bs (omega (arith, is)) (omega (arith, lt)))

pub failed_faults : (n k : ℕ) (bs ns : List ℕ) → n ≡ length bs → k < n → RoseAt k bs ns → FaultsBy (votes_at n k vote.Fail) bs ns
failed_faults n k [] ns is lt h = absurd (let no : ⊥ = omega (arith, is) in no)
failed_faults n zero (b ∷ bs) [] is lt h = absurd h
failed_faults n (suc k) (b ∷ bs) [] is lt h = absurd h
failed_faults n zero (b ∷ bs) (m ∷ ns) is lt h =
    (h.0, h.1, subst (λ (ms : List ℕ). FaultsBy (replicate (n - 0 - 1) vote.Unasked) bs ms) (sym h.2) (unasked_faults (n - 0 - 1) bs (omega (arith, is))))
failed_faults zero (suc k) (b ∷ bs) (m ∷ ns) is lt h = absurd (let no : ⊥ = omega (arith, is) in no)
failed_faults (suc n) (suc k) (b ∷ bs) (m ∷ ns) is lt h =
    subst (λ (vs : List Vote). FaultsBy vs (b ∷ bs) (m ∷ ns)) (sym (votes_at-next n k vote.Fail)) (h.0, failed_faults n k bs ns (omega (arith, is)) (omega (arith, lt)) h.1)

-- ---- where every card tells its fault plan, the act is the model's

both : (a b : Bool) → (a && b) ≡ true → (a ≡ true) × (b ≡ true)
both true b h = (refl, h)
both false b h = absurd (let no : ⊥ = cc in no)

tried_told : (ts : List Bool) (a : Act) (ms : List ModelMember) (vs : List Vote) → all_true ts ≡ true → TriedBy ts a ms vs → vs ≡ trying a ms
tried_told [] a [] [] t h = refl
tried_told [] a [] (v ∷ vs) t h = absurd h
tried_told [] a (m ∷ ms) vs t h = absurd h
tried_told (b ∷ ts) a [] vs t h = absurd h
tried_told (b ∷ ts) a (m ∷ ms) [] t h = absurd h
tried_told (b ∷ ts) a (m ∷ ms) (vote.Yes ∷ vs) t h =
    let p = both b (all_true ts) t in
    ap (λ (l : List Vote). vote.Yes ∷ l) (tried_told ts a ms vs p.1 h.1) ∙ sym (ap (λ (c : Bool). cond c (vote.Fail ∷ replicate (length ms) vote.Unasked) (vote.Yes ∷ trying a ms)) (h.0 p.0))
tried_told (b ∷ ts) a (m ∷ ms) (vote.Fail ∷ vs) t h =
    let p = both b (all_true ts) t in
    ap (λ (l : List Vote). vote.Fail ∷ l) h.2 ∙ sym (ap (λ (c : Bool). cond c (vote.Fail ∷ replicate (length ms) vote.Unasked) (vote.Yes ∷ trying a ms)) (h.1 p.0))
tried_told (b ∷ ts) a (m ∷ ms) (vote.Unasked ∷ vs) t h = absurd h
tried_told (b ∷ ts) a (m ∷ ms) (vote.Refuse e ∷ vs) t h = absurd h

voted_told : (r : Bool) (ts : List Bool) (a : Act) (ms : List ModelMember) (vs : List Vote) → all_true ts ≡ true → VotedBy r ts a ms vs → vs ≡ cond r (refusing a ms) (trying a ms)
voted_told true ts a ms vs t h = h
voted_told false ts a ms vs t h = tried_told ts a ms vs t h

pub acted_told : (ts : List Bool) (a : Act) (ms : List ModelMember) (d : Acted) → all_true ts ≡ true → IsActed ts a ms d → d ≡ acted a ms
acted_told ts a ms d t h =
    let vs : d.votes ≡ votes a ms = voted_told (is_refused a ms) ts a ms d.votes t h.votes in
    let o : d.outcome ≡ decide (subs ms) (votes a ms) = h.outcome ∙ ap (λ (l : List Vote). decide (subs ms) l) vs in
    λ i. record { act = h.act i; outcome = o i; votes = vs i }
