-- The counts of faults, and who tells a plan, through what an event does.
use Rattle.std.proofs.Common.{◌≡◌, ℕ, zero, suc, List, [], ◌∷◌, ◌++◌, map, set, Some, refl, sym, ap, ◌∙◌, subst}
use Rattle.std.specs.List.{slice_get}
use Rattle.pcm_base.specs.declared.card.Card.{Ghosts}
use Rattle.pcm_base.specs.declared.votes.Acted.{Acted}
use Rattle.pcm_stream.specs.declared.members.Member.{Member}
use Rattle.pcm_stream.specs.Members.{all_faults}
use Rattle.pcm_stream.specs.StandsFor.{faults_of, tells_plan}
use Rattle.group_trigger.specs.Votes.{FaultsBy, all_tell}
use Rattle.pcm_group.specs.Faults.{FaultsOver, KeepsCards}

-- an element that is set and has what the old one had
pub map-at : {A B : Type 0} (f : A → B) (xs : List A) (i : ℕ) (x y : A) → slice_get xs i ≡ Some x → f y ≡ f x → map f (set xs i y) ≡ map f xs
map-at f [] i x y at same = refl
map-at f (z ∷ xs) zero x y at same =
    let e : z ≡ x = cc in
    ap (λ w. w ∷ map f xs) (same ∙ ap f (sym e))
map-at f (z ∷ xs) (suc i) x y at same = ap (λ ws. f z ∷ ws) (map-at f xs i x y at same)

-- one act more
faults-behind : (ds : List Acted) (d : Acted) (before between now : List ℕ) → FaultsOver ds before between → FaultsBy d.votes between now → FaultsOver (ds ++ d ∷ []) before now
faults-behind [] d before between now h k = record { between = now; act = subst (λ (l : List ℕ). FaultsBy d.votes l now) h k; rest = refl }
faults-behind (e ∷ ds) d before between now h k = record { between = h.between; act = h.act; rest = faults-behind ds d h.between between now h.rest k }

-- nothing is done
pub KeepsCards-same : {C : Type 0} {g : Ghosts C} (acts : List Acted) (ms : List (Member C g)) → KeepsCards acts ms acts ms
KeepsCards-same acts ms = record { tells = refl; faults = λ before h. h }

-- one thing after another
pub KeepsCards-then : {C : Type 0} {g : Ghosts C} (old mid new : List Acted) (ms ns ps : List (Member C g)) → KeepsCards old ms mid ns → KeepsCards mid ns new ps → KeepsCards old ms new ps
KeepsCards-then old mid new ms ns ps h k = record { tells = k.tells ∙ h.tells; faults = λ before f. k.faults before (h.faults before f) }

-- a member changes, and its card has no fault
pub KeepsCards-set : {C : Type 0} {g : Ghosts C} (acts : List Acted) (ms : List (Member C g)) (i : ℕ) (m n : Member C g) → slice_get ms i ≡ Some m → tells_plan n.stream ≡ tells_plan m.stream → faults_of n.stream ≡ faults_of m.stream
    → KeepsCards acts ms acts (set ms i n)
KeepsCards-set {C = C} {g = g} acts ms i m n at tells faults = record {
  tells = map-at (λ (x : Member C g). tells_plan x.stream) ms i m n at tells;
  faults = λ before h. subst (λ (l : List ℕ). FaultsOver acts before l) (sym (map-at (λ (x : Member C g). faults_of x.stream) ms i m n at faults)) h;
}

-- an act is made
pub KeepsCards-act : {C : Type 0} {g : Ghosts C} (old new : List Acted) (d : Acted) (ms ns : List (Member C g)) → new ≡ old ++ d ∷ [] → FaultsBy d.votes (all_faults ms) (all_faults ns) → all_tell ns ≡ all_tell ms → KeepsCards old ms new ns
KeepsCards-act old new d ms ns is by tells = record {
  tells = tells;
  faults = λ before h. subst (λ (ds : List Acted). FaultsOver ds before (all_faults ns)) (sym is) (faults-behind old d before (all_faults ms) (all_faults ns) h by);
}
