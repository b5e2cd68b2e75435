-- What a load gives of the file of a name.
use Rattle.std.proofs.Common.{◌≡◌, ℕ, ◌≤◌, ◌<◌, ◌+◌, List, length, take, min, None, Some, Ok, Err, Result, refl, sym, ◌∙◌, ap, subst, arith}
use Rattle.std.specs.Prelude.{IfOk, IfErr, IfSome, OnOk}
use Rattle.std.specs.FinMap.{get}
use Rattle.std.specs.Option.{option_map}
use Rattle.std.specs.declared.option.Option.{Option}
use Rattle.std.proofs.lemmas.List.{length-take, take_all}
use Rattle.pcm_io.specs.Shelf.{Files, first_bytes}
use Rattle.pcm_text.specs.declared.status.Status.{Status}
use Rattle.pcm_text.specs.declared.status.Status.TheVariants as status
use Rattle.pcm_text.specs.declared.status.Which.TheVariants as which
use Rattle.wav_file.specs.Grammar.{IsWav}
use Rattle.wav_file.specs.Recordings.{recording}
use Rattle.wav_file.specs.declared.wav.Wav.{Wav}
use Rattle.live_top.specs.Files.{Finds, IsBytesEnd, IsLoadEnd, IsLoaded, wav_limit}

-- a load gave this
abbrev pub Gave : Option Files → List ℕ → List ℕ → Type 0
Gave files name bytes = IfSome files (λ f. Some bytes ≡ option_map first_bytes (get f name))

whole_file : (bytes file : List ℕ) → bytes ≡ take 68157441 file → length bytes ≤ wav_limit → bytes ≡ file
whole_file bytes file e few =
    let size : length bytes ≡ min 68157441 (length file) = ap (λ (l : List ℕ). length l) e ∙ length-take 68157441 file in
    e ∙ take_all 68157441 file (omega (arith, size, few))

long_file : (bytes file : List ℕ) → bytes ≡ take 68157441 file → wav_limit < length bytes → wav_limit < length file
long_file bytes file e long =
    let size : length bytes ≡ min 68157441 (length file) = ap (λ (l : List ℕ). length l) e ∙ length-take 68157441 file in
    omega (arith, size, long)

gave_file : (bytes : List ℕ) (o : Option (List ℕ)) → Some bytes ≡ option_map first_bytes o → (file : List ℕ) × (o ≡ Some file) × (bytes ≡ take 68157441 file)
unfolding first_bytes
gave_file bytes None e = cc
gave_file bytes (Some file) e = (file, refl, (let h : Some bytes ≡ Some (take 68157441 file) = e in cc))

found_whole : (files : Option Files) (name bytes : List ℕ) → Gave files name bytes → length bytes ≤ wav_limit → Finds files name (Some bytes)
found_whole None name bytes gave few = tt
found_whole (Some files) name bytes gave few =
    let f = gave_file bytes (get files name) gave in
    ap (λ (l : List ℕ). Some l) (whole_file bytes f.0 f.2 few) ∙ sym f.1

found_long : (files : Option Files) (name bytes : List ℕ) (value : ℕ) → Gave files name bytes → wav_limit < length bytes → value ≡ wav_limit + 1 → IsLoadEnd files name (status.Limit which.WavBytes value)
found_long None name bytes value gave long is = (Some bytes, tt, (long, is))
found_long (Some files) name bytes value gave long is =
    let f = gave_file bytes (get files name) gave in
    (Some f.0, sym f.1, (long_file bytes f.0 f.2 long, is))

end_of : (files : Option Files) (name bytes : List ℕ) (s : Status) → Gave files name bytes → IsBytesEnd name bytes s → IsLoadEnd files name s
end_of files name bytes (status.Limit which.WavBytes value) gave h = found_long files name bytes value gave h.0 h.1
end_of files name bytes (status.BadWav named fault) gave h = (Some bytes, found_whole files name bytes gave h.1, h)
end_of files name bytes status.Memory gave h = tt
end_of files name bytes _ gave h = absurd h

pub load_ends : (r : Result Wav Status) (files : Option Files) (name bytes here : List ℕ) → here ≡ bytes → Gave files name bytes → IfErr r (λ s. IsBytesEnd name here s) → IfErr r (λ s. IsLoadEnd files name s)
load_ends (Ok wav) files name bytes here same gave h = tt
load_ends (Err s) files name bytes here same gave h = end_of files name bytes s gave (subst (λ (l : List ℕ). IsBytesEnd name l s) same h)

pub load_found : (r : Result Wav Status) (files : Option Files) (name bytes here : List ℕ) → here ≡ bytes → Gave files name bytes → OnOk r (length here ≤ wav_limit) → IfOk r (λ wav. IsWav here (recording wav)) → IfOk r (λ wav. IsLoaded files name (recording wav))
load_found (Err s) files name bytes here same gave few says = tt
load_found (Ok wav) files name bytes here same gave few says = record {
  bytes = bytes;
  found = found_whole files name bytes gave (subst (λ (l : List ℕ). length l ≤ wav_limit) same few);
  few = subst (λ (l : List ℕ). length l ≤ wav_limit) same few;
  says = subst (λ (l : List ℕ). IsWav l (recording wav)) same says;
}
