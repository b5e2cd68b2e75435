-- Words in tables: each is found, and what is found is spelled so.
use Rattle.std.specs.Prelude.{Option, Some}
use Rattle.std.specs.Str.{bytes_eq}
use Rattle.std.proofs.lemmas.Slice.Eq.{bytes_eq-Decides}
use Rattle.std.proofs.Common.{◌≡◌, Bool, true, false, cond, ℕ, List, [], ◌∷◌, refl, ◌∙◌, ap, rules}
use Rattle.pcm_base.specs.declared.call.Mode.{Mode}
use Rattle.pcm_base.specs.declared.call.Mode.TheVariants.{Block, NonBlock}
use Rattle.pcm_base.specs.declared.state.Dir.{Dir}
use Rattle.pcm_base.specs.declared.state.Dir.TheVariants.{Playback, Capture}
use Rattle.pcm_base.specs.declared.config.Model.{Model}
use Rattle.pcm_base.specs.declared.config.Model.TheVariants.{Basic, Duplex, Studio, NoPause, NoResume, Indirect}
use Rattle.pcm_base.specs.declared.format.Access.{Access}
use Rattle.pcm_base.specs.declared.format.Access.TheVariants.{MmapInterleaved, MmapNoninterleaved, RwInterleaved, RwNoninterleaved}
use Rattle.pcm_base.specs.declared.format.Format.{Format}
use Rattle.pcm_base.specs.declared.format.Format.TheVariants.{S8, U8, S16Le, S16Be, S24Le, S32Le, S32Be, S24Le3}
use Rattle.pcm_line.specs.Kinds.{mode_text, dir_text, model_text, access_text, format_text}
use Rattle.pcm_line.specs.Tables.{entry_for, modes, dirs, models, accesses, formats}
use Rattle.pcm_line.proofs.Cutting.{no_space}

pub same-bytes : (xs ys : List ℕ) → bytes_eq xs ys ≡ true → xs ≡ ys
same-bytes xs ys e = search (rules, bytes_eq-Decides xs ys)

abbrev pub Spells : {A : Type 0} → (A → List ℕ) → List (List ℕ × A) → Type 0
Spells word [] = Unit {0}
Spells word (entry ∷ others) = (entry.0 ≡ word entry.1) × Spells word others

entry-is : {A : Type 0} (word : A → List ℕ) (p w : List ℕ) (a v : A) (others : Option A) (t : Bool) → bytes_eq p w ≡ t → w ≡ word a → (others ≡ Some v → p ≡ word v) → cond t (Some a) others ≡ Some v → p ≡ word v
entry-is word p w a v others true e s rest f =
    let same : a ≡ v = cc in
    same-bytes p w e ∙ s ∙ ap word same
entry-is word p w a v others false e s rest f = rest f

pub entry_for-is : {A : Type 0} (word : A → List ℕ) (p : List ℕ) (v : A) (table : List (List ℕ × A)) → Spells word table → entry_for p table ≡ Some v → p ≡ word v
entry_for-is word p v [] s e = absurd cc
entry_for-is word p v (entry ∷ others) s e = entry-is word p entry.0 entry.1 v (entry_for p others) (bytes_eq p entry.0) refl s.0 (entry_for-is word p v others s.1) e

pub mode-again : (m : Mode) → (entry_for (mode_text m) modes ≡ Some m) × (no_space (mode_text m) ≡ true)
mode-again Block = (refl, refl)
mode-again NonBlock = (refl, refl)

pub dir-again : (d : Dir) → (entry_for (dir_text d) dirs ≡ Some d) × (no_space (dir_text d) ≡ true)
dir-again Playback = (refl, refl)
dir-again Capture = (refl, refl)

pub model-again : (m : Model) → (entry_for (model_text m) models ≡ Some m) × (no_space (model_text m) ≡ true)
model-again Basic = (refl, refl)
model-again Duplex = (refl, refl)
model-again Studio = (refl, refl)
model-again NoPause = (refl, refl)
model-again NoResume = (refl, refl)
model-again Indirect = (refl, refl)

pub access-again : (a : Access) → (entry_for (access_text a) accesses ≡ Some a) × (no_space (access_text a) ≡ true)
access-again MmapInterleaved = (refl, refl)
access-again MmapNoninterleaved = (refl, refl)
access-again RwInterleaved = (refl, refl)
access-again RwNoninterleaved = (refl, refl)

pub format-again : (f : Format) → (entry_for (format_text f) formats ≡ Some f) × (no_space (format_text f) ≡ true)
format-again S8 = (refl, refl)
format-again U8 = (refl, refl)
format-again S16Le = (refl, refl)
format-again S16Be = (refl, refl)
format-again S24Le = (refl, refl)
format-again S32Le = (refl, refl)
format-again S32Be = (refl, refl)
format-again S24Le3 = (refl, refl)
