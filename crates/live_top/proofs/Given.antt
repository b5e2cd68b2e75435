-- What a call for each of some jobs gives, in order.
use Rattle.std.proofs.Common.{◌≡◌, ◌<◌, ℕ, suc, List, [], ◌∷◌, length, slice_index_or, vec_len, sym, ◌∙◌, subst, arith}
use Rattle.std.specs.Prelude.{IfOk, Vec}
use Rattle.std.specs.Global.{Global}
use Rattle.std.specs.Fn.{FnReturns}
use Rattle.std.specs.Fork.{GivesJob, GivesJobs}
use Rattle.std.specs.List.{AllZip}
use Rattle.std.specs.declared.result.Result.{Result}
use Rattle.std.specs.declared.result.Result.TheVariants.{Ok, Err}
use denote.Param.Members.{Shared}

from_places : {A B : Type 0} (S : A → B → Type 0) (xs : List A) (ys : List B) → length ys ≡ length xs → ((i : ℕ) (d : A) (e : B) → i < length xs → S (slice_index_or xs i d) (slice_index_or ys i e)) → AllZip S xs ys
from_places S [] [] many f = tt
from_places S [] (y ∷ ys) many f = absurd (omega (arith, many))
from_places S (x ∷ xs) [] many f = absurd (omega (arith, many))
from_places S (x ∷ xs) (y ∷ ys) many f = (f 0 x y (omega arith), from_places S xs ys (omega (arith, many)) (λ i d e lt. f (suc i) d e (omega arith)))

module _ {F J X : Type 0} (g : Shared F (J × Unit {0}) X) (f : F) (S : J → X → Type 0) (step : (x : J) (r : X) → FnReturns g f (x, tt) r → S x r) where
  job_gives : (js : List J) (i : ℕ) (d : J) (r : X) → GivesJob g f js i r → S (slice_index_or js i d) r
  job_gives js i d r h = subst (λ (x : J). S x r) (sym (h.job_is d)) (step h.job r h.call)

  pub all_given : {E : Type 0} (jobs : Vec J Global) (r : Result (Vec X Global) E) → IfOk r (λ v. vec_len v ≡ vec_len jobs) → IfOk r (λ v. GivesJobs g f jobs.items v.items) → IfOk r (λ v. AllZip S jobs.items v.items)
  all_given jobs (Ok v) many each =
      from_places S jobs.items v.items (sym v.ok.0 ∙ many ∙ jobs.ok.0) (λ i d e lt. job_gives jobs.items i d (slice_index_or v.items i e) (each i e lt).1)
  all_given jobs (Err e) many each = tt
