-- What a plan comes to where all its lines were taken.
use Rattle.std.proofs.Common.{◌≡◌, ◌≤◌, ℕ, List, None, Some, Ok, Err, refl, subst}
use Rattle.std.specs.Prelude.{IfOk, IfErr, IfSome, Result}
use Rattle.std.specs.declared.option.Option.{Option}
use Rattle.live_plan.specs.declared.error.PlanError.{PlanError}
use Rattle.live_plan.specs.declared.error.PlanError.TheVariants as error
use Rattle.live_plan.specs.declared.part.Part.TheVariants.{End}
use Rattle.live_plan.specs.declared.plan.Plan.{Plan}
use Rattle.live_plan.specs.Draft.{IsUnfinished}
use Rattle.live_plan.specs.Lines.{beat_limit}
use Rattle.live_plan.specs.Plan.{Answer, Whole, Bad, Over, ComesTo, Gives, HasAll, IsPlan, IsRefused, IsSaid}
use Rattle.live_plan.specs.Said.{Said, part_of, beat_sum}
use Rattle.live_plan.specs.Sound.{IsSound}
use Rattle.live_plan.proofs.LawLemmas.{comes_to_one}
use Rattle.live_plan.proofs.PlanLemmas.{if_some_map, refused_end}
use Rattle.live_plan.proofs.SoundLemmas.{AreSound, sound_plan}

-- the plan that was finished has all that its lines say, in all parts, and not too many beats
abbrev pub IsFinished : Said → Plan → Type 0
IsFinished said plan = HasAll plan said × (part_of said ≡ End) × (beat_sum said ≤ beat_limit)

pub finish_plan : (r : Result Plan PlanError) (o : Option (List ℕ)) (said : Said) → IfOk r (IsFinished said) → IfSome o (λ bytes. IsSaid bytes said) → IfOk r (λ plan. IfSome o (λ bytes. IsPlan bytes plan))
finish_plan (Ok plan) o said h all =
    if_some_map (λ bytes. IsSaid bytes said) (λ bytes. IsPlan bytes plan) o (λ bytes lines. record { said = said; whole = record { lines = lines; parts = h.1; beats = h.2 }; has = h.0 }) all
finish_plan (Err e) o said h all = tt

pub finish_refused : (r : Result Plan PlanError) (o : Option (List ℕ)) (said : Said) → IfErr r (λ e. IsUnfinished said e) → IfSome o (λ bytes. IsSaid bytes said) → IfErr r (λ e. IfSome o (λ bytes. IsRefused bytes e))
finish_refused (Ok plan) o said h all = tt
finish_refused (Err e) o said h all = if_some_map (λ bytes. IsSaid bytes said) (λ bytes. IsRefused bytes e) o (λ bytes lines. refused_end bytes said e lines h) all

pub finish_sound : (r : Result Plan PlanError) (said : Said) → IfOk r (IsFinished said) → AreSound said → IfOk r (λ plan. IsSound plan)
finish_sound (Ok plan) said h are = sound_plan plan said h.0 are h.1 h.2
finish_sound (Err e) said h are = tt

exact_error : (bytes : List ℕ) (e : PlanError) (a : Answer) → IsRefused bytes e → ComesTo bytes a → Gives (Err e) a
exact_error bytes (error.BadLine number fault) a why comes = subst (λ (x : Answer). Gives (Err (error.BadLine number fault)) x) (comes_to_one bytes (Bad number fault) a why comes) (refl, refl)
exact_error bytes (error.Limit which value) a why comes = subst (λ (x : Answer). Gives (Err (error.Limit which value)) x) (comes_to_one bytes (Over which value) a why comes) (refl, refl)
exact_error bytes error.Read a why comes = tt
exact_error bytes error.Memory a why comes = tt

pub exact_error_told : (o : Option (List ℕ)) (e : PlanError) → IfSome o (λ bytes. IsRefused bytes e) → IfSome o (λ bytes. (a : Answer) → ComesTo bytes a → Gives (Err e) a)
exact_error_told None e why = tt
exact_error_told (Some bytes) e why = λ a comes. exact_error bytes e a why comes

pub exact_answer : (r : Result Plan PlanError) (o : Option (List ℕ)) → IfOk r (λ plan. IfSome o (λ bytes. IsPlan bytes plan)) → IfErr r (λ e. IfSome o (λ bytes. IsRefused bytes e))
    → IfSome o (λ bytes. (a : Answer) → ComesTo bytes a → Gives r a)
exact_answer (Ok plan) None is why = tt
exact_answer (Ok plan) (Some bytes) is why = λ a comes. subst (λ (x : Answer). Gives (Ok plan) x) (comes_to_one bytes (Whole is.said) a is.whole comes) is.has
exact_answer (Err e) o is why = exact_error_told o e why
