-- What playing and recording a file comes to.
use Rattle.std.proofs.Common.{◌≡◌, ◌≢◌, ℕ, ◌+◌, ◌-◌, ◌*◌, ◌/◌, ◌%◌, ◌≤◌, ◌<◌, Bool, true, false, ◌&&◌, List, [], ◌∷◌, ◌++◌, length, take, drop, replicate, None, Some, Ok, Err, Result, refl, sym, ◌∙◌, ap, subst, inl, inr, arith}
use Rattle.std.specs.Prelude.{◌⊎◌, ◌↔◌, ◌||◌, codes, decimal, nat_le}
use Rattle.std.specs.FinMap.{get, insert}
use Rattle.std.specs.Io.KnownBytes.{Appends}
use Rattle.std.specs.declared.option.Option.{Option}
use Rattle.std.proofs.lemmas.Bool.{and_parts, leb-true, cases_lt}
use Rattle.std.proofs.lemmas.List.{length-append, length-replicate, length-take, take-append-drop}
use Rattle.std.proofs.lemmas.Nat.{mul-le}
use Rattle.std.proofs.lemmas.Nat.Gcd.{dvd_of_mod-eq-zero}
use Rattle.std.proofs.Math.Nat.{div-mul_cancel, lt-div-mul-add, mul-div_cancel, mul-mod_left}
use Rattle.pcm_base.specs.declared.format.Format.{Format}
use Rattle.pcm_base.specs.declared.format.Format.TheVariants as format
use Rattle.pcm_base.specs.declared.state.Errno.{Errno}
use Rattle.pcm_base.specs.declared.state.Errno.TheVariants as errno
use Rattle.pcm_base.specs.declared.config.CardModel.{CardModel}
use Rattle.pcm_base.specs.declared.config.Config.{Config}
use Rattle.pcm_base.specs.model.Allowed.{buffer_of, frame_bytes_of, has_bit, is_in}
use Rattle.pcm_base.specs.Numbers.{access_number, format_number, sample_bytes}
use Rattle.card_emul.specs.Limits.{duplex}
use Rattle.pcm_io.specs.Shelf.{Files, Stay, Stores, OthersStay}
use Rattle.pcm_text.specs.declared.status.Status.{Status}
use Rattle.pcm_text.specs.declared.status.Status.TheVariants as status
use Rattle.pcm_text.specs.declared.status.Which.{Which}
use Rattle.wav_file.specs.Grammar.{CanWrite, IsWav, wav_bytes}
use Rattle.wav_file.specs.Recordings.{Recording, frame_bytes}
use Rattle.wav_file.proofs.Files.{not_both, one_recording}
use Rattle.play_record.specs.declared.error.PlayError.{PlayError}
use Rattle.play_record.specs.declared.error.PlayError.TheVariants as play_error
use Rattle.play_record.specs.Sounds.{bytes_of_frames, config_for, frame_count, is_accepted, most_bytes, silent_byte, played, played_bytes, recorded, whole_periods}
use Rattle.pcm_top.specs.CodeSound.{IsStored, StoreEnds, status_unloaded, status_unmade}
use Rattle.pcm_top.specs.declared.end.End.{End}
use Rattle.pcm_top.specs.declared.end.End.TheVariants as end
use Rattle.pcm_top.specs.declared.end.Unanswered.{Unanswered}
use Rattle.pcm_top.specs.declared.end.Unanswered.TheVariants as unanswered
use Rattle.pcm_top.specs.Output.{IsFront, status_of}
use Rattle.pcm_top.specs.Run.{Finds, IsLoaded, stored}
use Rattle.pcm_top.specs.Script.{IsFeedEnd, IsFileEnd}
use Rattle.pcm_top.specs.Sound.{IsFor, IsOver, IsReady, IsTaken, IsUntouched, Job, JobEnds, capturing, playing}
use Rattle.pcm_top.proofs.OutputLemmas.{shelf-status}
use Rattle.pcm_top.proofs.SessionLemmas.{stays-along, others-along}
use Rattle.pcm_top.proofs.StreamLemmas.{appends-nothing}

-- ---- the frames that are made

frame_some : (f : Format) (channels : ℕ) → 1 ≤ channels → 1 ≤ frame_bytes f channels
frame_some f channels least = mul-le 1 1 channels (sample_bytes f) least (sample_some f)
  where
    sample_some : (f : Format) → 1 ≤ sample_bytes f
    sample_some format.S8 = omega arith
    sample_some format.U8 = omega arith
    sample_some format.S16Le = omega arith
    sample_some format.S16Be = omega arith
    sample_some format.S24Le = omega arith
    sample_some format.S32Le = omega arith
    sample_some format.S32Be = omega arith
    sample_some format.S24Le3 = omega arith

pub frame_small : (f : Format) (channels : ℕ) → channels ≤ 8 → channels * sample_bytes f ≤ 32
frame_small f channels most = mul-le channels (sample_bytes f) 8 4 most (sample_small f)
  where
    sample_small : (f : Format) → sample_bytes f ≤ 4
    sample_small format.S8 = omega arith
    sample_small format.U8 = omega arith
    sample_small format.S16Le = omega arith
    sample_small format.S16Be = omega arith
    sample_small format.S24Le = omega arith
    sample_small format.S32Le = omega arith
    sample_small format.S32Be = omega arith
    sample_small format.S24Le3 = omega arith

fifth : (a b c d p f g : Bool) → ((a && (b && (c && (d && (p && f))))) && g) ≡ true → p ≡ true
fifth true true true true true f g e = refl
fifth true true true true false f g e = cc
fifth true true true false p f g e = cc
fifth true true false d p f g e = cc
fifth true false c d p f g e = cc
fifth false b c d p f g e = cc

-- the buffer of a configuration that a model allows
abbrev has_buffer : CardModel → Config → Bool
has_buffer m c =
    is_in (record { least = 2; most = 32 }) c.periods
    && (is_in (record { least = 4; most = 65536 }) (buffer_of c) && (nat_le (buffer_of c * frame_bytes_of c) m.buffer_bytes && (nat_le c.rate m.wide_rate || nat_le c.channels 2)))

-- a configuration that the device has is one of some frames a period
pub accepted-period : (r : Recording) (period periods : ℕ) → is_accepted r period periods ≡ true → 1 ≤ period
accepted-period r period periods e =
    let c = config_for r period periods in
    let within : (nat_le 1 period && nat_le period duplex.period.most) ≡ true =
    fifth (has_bit duplex.accesses (access_number c.access)) (has_bit duplex.formats (format_number c.format)) (is_in duplex.channels c.channels) (is_in duplex.rate c.rate) (is_in duplex.period c.period)
    (has_buffer duplex c) (nat_le (4 * buffer_of c) 2147483647) e in
    leb-true 1 period (and_parts (nat_le 1 period) (nat_le period duplex.period.most) within).0

-- whole periods hold them all
whole-least : (period n : ℕ) → 1 ≤ period → n ≤ whole_periods period n
whole-least period n some = omega (arith, lt-div-mul-add {a = n + (period - 1)} {b = period} some)

frames-whole : (size n : ℕ) → n % size ≡ 0 → n / size * size ≡ n
frames-whole size n whole = div-mul_cancel size (dvd_of_mod-eq-zero size whole)

played-most : (period : ℕ) (r : Recording) → CanWrite r → 1 ≤ period → length r.frames ≤ played_bytes period r
played-most period r can some =
    let size = frame_bytes r.format r.channels in
    let n = frame_count r in
    let more : n * size ≤ whole_periods period n * size = mul-le n size (whole_periods period n) size (whole-least period n some) (omega arith) in
    omega (arith, more, frames-whole size (length r.frames) can.whole)

pub played-length : (period : ℕ) (r : Recording) → CanWrite r → 1 ≤ period → length (played period r).frames ≡ played_bytes period r
played-length period r can some =
    let rest = played_bytes period r - length r.frames in
    let silence : List ℕ = replicate rest (silent_byte r.format) in
    let size : length silence ≡ rest = length-replicate rest (silent_byte r.format) in
    length-append r.frames silence ∙ (omega (arith, played-most period r can some, size))

pub played-can : (period : ℕ) (r : Recording) → CanWrite r → 1 ≤ period → CanWrite (played period r)
played-can period r can some =
    let size = frame_bytes r.format r.channels in
    record {
      format = can.format;
      least = can.least;
      most = can.most;
      some_rate = can.some_rate;
      rate = can.rate;
      whole = ap (λ (n : ℕ). n % size) (played-length period r can some) ∙ mul-mod_left (whole_periods period (frame_count r)) size;
    }

pub played-count : (period : ℕ) (r : Recording) → CanWrite r → 1 ≤ period → frame_count (played period r) ≡ whole_periods period (frame_count r)
played-count period r can some =
    let size = frame_bytes r.format r.channels in
    ap (λ (n : ℕ). n / size) (played-length period r can some) ∙ mul-div_cancel (whole_periods period (frame_count r)) (frame_some r.format r.channels can.least)

pub recorded-length : (n : ℕ) (r : Recording) → length (recorded n r).frames ≡ bytes_of_frames n r
recorded-length n r =
    let bytes = bytes_of_frames n r in
    let rest = bytes - length r.frames in
    let zeros : List ℕ = replicate rest 0 in
    let size : length zeros ≡ rest = length-replicate {A = ℕ} rest 0 in
    length-append (take bytes r.frames) zeros ∙ (omega (arith, length-take bytes r.frames, size))

pub recorded-can : (n : ℕ) (r : Recording) → CanWrite r → CanWrite (recorded n r)
recorded-can n r can =
    let size = frame_bytes r.format r.channels in
    record {
      format = can.format;
      least = can.least;
      most = can.most;
      some_rate = can.some_rate;
      rate = can.rate;
      whole = ap (λ (k : ℕ). k % size) (recorded-length n r) ∙ mul-mod_left n size;
    }

-- ---- files

pub stays : (files : Option Files) → Stay files files
stays None = tt
stays (Some files) = refl

pub stores-stay : (files now : Option Files) (name bytes : List ℕ) → Stores files now name bytes → Stay (stored name bytes files) now
stores-stay None now name bytes h = tt
stores-stay (Some files) None name bytes h = absurd h
stores-stay (Some files) (Some next) name bytes h = h

stored-along : (files before now : Option Files) (name bytes : List ℕ) → Stay files before → Stay (stored name bytes before) now → Stay (stored name bytes files) now
stored-along None before now name bytes a b = tt
stored-along (Some files) None now name bytes a b = absurd a
stored-along (Some files) (Some next) None name bytes a b = absurd b
stored-along (Some files) (Some next) (Some last) name bytes a b = b ∙ ap (λ (x : Files). insert x name bytes) a

pub others-stay : (files now : Option Files) (name : List ℕ) → Stay files now → OthersStay files now name
others-stay None now name a = tt
others-stay (Some files) None name a = absurd a
others-stay (Some files) (Some next) name a = λ other ne. ap (λ (x : Files). get x other) a

pub front-taken : (n : ℕ) (text : List ℕ) → IsFront (take n text) text
front-taken n text = (drop n text, sym (take-append-drop n text))

-- ---- no sound is loaded

pub ends-untouched : (files now : Option Files) (written : Option (List ℕ)) → Stay files now → IsUntouched files now written written
ends-untouched files now written stay = record { stay = stay; unwritten = appends-nothing written }

by-file : (job : Job) (from to : List ℕ) (files now : Option Files) (written : Option (List ℕ)) (found : Option (List ℕ)) (e : End) → Finds files from found → IsFileEnd from found e → Stay files now
    → JobEnds job from to files now written written (status_of e)
by-file job from to files now written None e finds h stay =
    subst (λ (x : End). JobEnds job from to files now written written (status_of x)) (sym h) (ends-untouched files now written stay, refl, finds)
by-file job from to files now written (Some bytes) e finds (inl h) stay =
    subst (λ (x : End). JobEnds job from to files now written written (status_of x)) (sym h.1)
    (ends-untouched files now written stay, inl (refl, record { bytes = bytes; found = finds; long = h.0; one_more = refl }))
by-file job from to files now written (Some bytes) e finds (inr h) stay =
    subst (λ (x : End). JobEnds job from to files now written written (status_of x)) (sym h.3)
    (ends-untouched files now written stay, (refl, bytes, finds, h.0, h.2))

by-end : (job : Job) (from to : List ℕ) (files now : Option Files) (written : Option (List ℕ)) (e : End) → IsFeedEnd files from e → Stay files now → JobEnds job from to files now written written (status_of e)
by-end job from to files now written e (inl h) stay =
    subst (λ (x : End). JobEnds job from to files now written written (status_of x)) (sym h) (others-stay files now to stay, appends-nothing written)
by-end job from to files now written e (inr h) stay = by-file job from to files now written h.0 e h.1 h.2 stay

pub unloaded-ends : (job : Job) (from to : List ℕ) (files now : Option Files) (written : Option (List ℕ)) (why : Unanswered) → ((e : End) → why ≡ unanswered.Ended e → IsFeedEnd files from e) → Stay files now
    → JobEnds job from to files now written written (status_unloaded why)
unloaded-ends job from to files now written (unanswered.Ended e) ends stay = by-end job from to files now written e (ends e refl) stay
unloaded-ends job from to files now written unanswered.Memory ends stay = ends-untouched files now written stay

-- ---- no sound is made

-- what a refusal tells of the sound
abbrev pub IsRefusedBy : {A : Type 0} → Result A PlayError → Bool → Type 0
IsRefusedBy result accepted = (e : Errno) → (result ≡ Err (play_error.Refused e)) ↔ ((accepted ≡ false) × (e ≡ errno.Einval))

abbrev pub IsTooMuchBy : {A : Type 0} → Result A PlayError → Bool → ℕ → ℕ → Type 0
IsTooMuchBy result accepted bytes shown = (n : ℕ) → (result ≡ Err (play_error.TooMuch n)) ↔ ((accepted ≡ true) × (most_bytes < bytes) × (n ≡ shown))

pub unmade-ends : {A : Type 0} (job : Job) (from to : List ℕ) (files now : Option Files) (written : Option (List ℕ)) (r : Recording) (result : Result A PlayError) (error : PlayError) → result ≡ Err error → IsLoaded files from r
    → IsRefusedBy result (job.accepted r) → IsTooMuchBy result (job.accepted r) (job.bytes r) (job.shown (job.bytes r)) → Stay files now → JobEnds job from to files now written written (status_unmade job.which error)
unmade-ends job from to files now written r result (play_error.Refused e) is loaded refused much stay = let why = (refused e).0 is in (ends-untouched files now written stay, (r, loaded, why.0, why.1))
unmade-ends job from to files now written r result (play_error.TooMuch n) is loaded refused much stay =
    let why = (much n).0 is in (ends-untouched files now written stay, inr (refl, r, loaded, why.0, why.1, why.2))
unmade-ends job from to files now written r result play_error.Memory is loaded refused much stay = ends-untouched files now written stay

-- ---- a sound is made

ok-accepted : {A : Type 0} (result : Result A PlayError) (x : A) (accepted : Bool) → result ≡ Ok x → IsRefusedBy result accepted → accepted ≡ true
ok-accepted result x true is refused = refl
ok-accepted result x false is refused = let no : result ≡ Err (play_error.Refused errno.Einval) = (refused errno.Einval).1 (refl, refl) in absurd cc

pub made-for : {A : Type 0} (job : Job) (from : List ℕ) (files : Option Files) (r : Recording) (result : Result A PlayError) (x : A) (shown : ℕ) → result ≡ Ok x → IsLoaded files from r
    → IsRefusedBy result (job.accepted r) → IsTooMuchBy result (job.accepted r) (job.bytes r) shown → IsFor job files from r
made-for job from files r result x shown is loaded refused much =
    let accepted = ok-accepted result x (job.accepted r) is refused in
    record {
      loaded = loaded;
      accepted = accepted;
      few = elim (cases_lt most_bytes (job.bytes r)) [
        | inl more ↦ let no : result ≡ Err (play_error.TooMuch shown) = (much shown).1 (accepted, more, refl) in absurd (cc)
        | inr few ↦ few
      ];
    }

pub stored-file : (r : Recording) (to bytes file : List ℕ) (files now : Option Files) → bytes ≡ file → file ≡ wav_bytes r → Stores files now to bytes → IsStored r to files now
stored-file r to bytes file files now same is stores = record { stays = subst (λ (x : List ℕ). Stay (stored to x files) now) (same ∙ is) (stores-stay files now to bytes stores) }

kept : (q r : Recording) (to : List ℕ) (files mid now : Option Files) → Stay files mid → q ≡ r → IsStored q to mid now → Stay (stored to (wav_bytes r) files) now
kept q r to files mid now stay same h = subst (λ (x : Recording). Stay (stored to (wav_bytes x) files) now) same (stored-along files mid now to (wav_bytes q) stay h.stays)

pub stored-ends : (job : Job) (from to : List ℕ) (files mid now : Option Files) (before after : Option (List ℕ)) (r q : Recording) (line : List ℕ) (ended : Status) → IsFor job files from r → Stay files mid → q ≡ job.sound r → line ≡ job.line r
    → StoreEnds q to line mid now before after ended → JobEnds job from to files now before after ended
stored-ends job from to files mid now before after r q line status.Ok fits stay sound text h =
    (r, record { fits = fits; stored = kept q (job.sound r) to files mid now stay sound h.0; written = subst (λ (x : List ℕ). Appends before after x) text h.1 })
stored-ends job from to files mid now before after r q line status.ShelfFault fits stay sound text h = (others-along files mid now to stay h.0, h.1)
stored-ends job from to files mid now before after r q line status.Memory fits stay sound text h = record { stay = stays-along files mid now stay h.0; unwritten = h.1 }
stored-ends job from to files mid now before after r q line status.WriteFault fits stay sound text h =
    (r, record { fits = fits; stored = kept q (job.sound r) to files mid now stay sound h.0; text = h.1; written = h.2; front = subst (λ (x : List ℕ). IsFront h.1 x) text h.3 })
stored-ends job from to files mid now before after r q line status.Usage fits stay sound text h = absurd h
stored-ends job from to files mid now before after r q line (status.BadLine n fault) fits stay sound text h = absurd h
stored-ends job from to files mid now before after r q line status.ReadFault fits stay sound text h = absurd h
stored-ends job from to files mid now before after r q line (status.Missing name) fits stay sound text h = absurd h
stored-ends job from to files mid now before after r q line (status.BadWav name e) fits stay sound text h = absurd h
stored-ends job from to files mid now before after r q line (status.Limit w n) fits stay sound text h = absurd h
stored-ends job from to files mid now before after r q line (status.Refused e) fits stay sound text h = absurd h

pub stored-taken : (job : Job) (from to : List ℕ) (files mid now : Option Files) (before after : Option (List ℕ)) (r q : Recording) (line : List ℕ) (ended : Status) (taken : List (List ℕ)) → IsFor job files from r → Stay files mid → q ≡ job.sound r
    → StoreEnds q to line mid now before after ended → taken ≡ q.frames ∷ [] → ended ≡ status.Ok → IsTaken job from to files now taken
stored-taken job from to files mid now before after r q line ended taken fits stay sound h took is =
    let ok : StoreEnds q to line mid now before after status.Ok = subst (λ (x : Status). StoreEnds q to line mid now before after x) is h in
    record {
      sound = r;
      fits = fits;
      stored = kept q (job.sound r) to files mid now stay sound ok.0;
      frames = took ∙ ap (λ (x : Recording). x.frames ∷ []) sound;
    }

-- what is known of a sound that was made
pub record IsSound (q : Recording) (count : ℕ) : Type 0 where
  pub can : CanWrite q
  pub few : length q.frames ≤ most_bytes
  pub frames : frame_count q ≡ count

pub played-sound : (from : List ℕ) (files : Option Files) (r q : Recording) (period periods : ℕ) → IsFor (playing period periods) files from r → CanWrite r → q ≡ played period r → IsSound q (whole_periods period (frame_count r))
played-sound from files r q period periods fits can sound =
    let some = accepted-period r period periods fits.accepted in
    let are : IsSound (played period r) (whole_periods period (frame_count r)) = record {
      can = played-can period r can some;
      few = omega (arith, played-length period r can some, fits.few);
      frames = played-count period r can some;
    } in
    subst (λ (x : Recording). IsSound x (whole_periods period (frame_count r))) (sym sound) are

pub recorded-sound : (from : List ℕ) (files : Option Files) (r q : Recording) (n : ℕ) → IsFor (capturing n) files from r → CanWrite r → q ≡ recorded n r → (CanWrite q) × (length q.frames ≤ most_bytes)
recorded-sound from files r q n fits can sound =
    (subst CanWrite (sym sound) (recorded-can n r can), omega (arith, ap (λ (x : Recording). length x.frames) sound, recorded-length n r, fits.few))

-- ---- what a status is not

pub record IsNoStore (s : Status) : Type 0 where
  pub ok : s ≡ status.Ok → ⊥
  pub write : s ≡ status.WriteFault → ⊥

pub unmade-never : (w : Which) (e : PlayError) → IsNoStore (status_unmade w e) × (status_unmade w e ≡ status.ShelfFault → ⊥)
unmade-never w (play_error.Refused e) = (record { ok = λ h. cc; write = λ h. cc }, λ h. cc)
unmade-never w (play_error.TooMuch n) = (record { ok = λ h. cc; write = λ h. cc }, λ h. cc)
unmade-never w play_error.Memory = (record { ok = λ h. cc; write = λ h. cc }, λ h. cc)

whole-never : (files : Option Files) (from : List ℕ) → IsFeedEnd files from end.Whole → ⊥
whole-never files from (inl h) = cc
whole-never files from (inr h) = by h.0 h.2
  where
    by : (found : Option (List ℕ)) → IsFileEnd from found end.Whole → ⊥
    by None h = cc
    by (Some bytes) (inl h) = let no-end = h.1 in cc
    by (Some bytes) (inr h) = let no-end = h.3 in cc

end-never : (files : Option Files) (from : List ℕ) (e : End) → IsFeedEnd files from e → IsNoStore (status_of e)
end-never files from end.Whole h = absurd (whole-never files from h)
end-never files from (end.BadLine line fault) h = record { ok = λ h. cc; write = λ h. cc }
end-never files from end.ScriptLines h = record { ok = λ h. cc; write = λ h. cc }
end-never files from end.ScriptBytes h = record { ok = λ h. cc; write = λ h. cc }
end-never files from end.ShelfFault h = record { ok = λ h. cc; write = λ h. cc }
end-never files from (end.Missing name) h = record { ok = λ h. cc; write = λ h. cc }
end-never files from end.WavBytes h = record { ok = λ h. cc; write = λ h. cc }
end-never files from (end.BadWav name e) h = record { ok = λ h. cc; write = λ h. cc }

pub unloaded-never : (files : Option Files) (from : List ℕ) (why : Unanswered) → ((e : End) → why ≡ unanswered.Ended e → IsFeedEnd files from e) → IsNoStore (status_unloaded why)
unloaded-never files from (unanswered.Ended e) ends = end-never files from e (ends e refl)
unloaded-never files from unanswered.Memory ends = record { ok = λ h. cc; write = λ h. cc }

pub unloaded-shelf : (why : Unanswered) → status_unloaded why ≡ status.ShelfFault → why ≡ unanswered.Ended end.ShelfFault
unloaded-shelf (unanswered.Ended e) h = ap (λ (x : End). unanswered.Ended x) (shelf-status e h)
unloaded-shelf unanswered.Memory h = cc

pub shelf-unloaded : (why : Unanswered) → why ≡ unanswered.Ended end.ShelfFault → status_unloaded why ≡ status.ShelfFault
shelf-unloaded why h = ap status_unloaded h

pub ok-never : {A E : Type 0} (r : Result A E) (x : A) (e : E) → r ≡ Ok x → r ≡ Err e → ⊥
ok-never r x e is h = let both : Ok x ≡ Err e = sym is ∙ h in absurd cc

pub calm-kept : {A : Type 0} {before now : ℕ} (r : Result A Unanswered) (x : A) → r ≡ Ok x → (r ≢ Err (unanswered.Ended end.ShelfFault) → now ≡ before) → now ≡ before
calm-kept r x is calm = calm (λ e. ok-never r x (unanswered.Ended end.ShelfFault) is e)

-- the line of a sound that was played
pub line-played : (line items : List ℕ) (m n frames stored : ℕ) → line ≡ items → items ≡ codes "played " ++ decimal m ++ codes " stored " ++ decimal n ++ 10 ∷ [] → m ≡ frames → n ≡ stored
    → line ≡ codes "played " ++ decimal frames ++ codes " stored " ++ decimal stored ++ 10 ∷ []
line-played line items m n frames stored a b c d = a ∙ b ∙ ap (λ (x : ℕ). codes "played " ++ decimal x ++ codes " stored " ++ decimal n ++ 10 ∷ []) c ∙ ap (λ (x : ℕ). codes "played " ++ decimal frames ++ codes " stored " ++ decimal x ++ 10 ∷ []) d

-- ---- a sound that is ready is stored, where nothing fails

-- the recordings of what is found there
pub ready-fits : (job : Job) (from : List ℕ) (files : Option Files) (r : Recording) → IsReady job files from → IsLoaded files from r → (job.accepted r ≡ true) × (job.bytes r ≤ most_bytes)
ready-fits job from files r ready loaded =
    let h = ready (Some loaded.bytes) loaded.found in
    let bytes : loaded.bytes ≡ h.0 = (let e : Some loaded.bytes ≡ Some h.0 = h.1 in cc) in
    let same : h.3 ≡ r = one_recording h.0 h.3 r h.4 (subst (λ (x : List ℕ). IsWav x r) bytes loaded.says) in
    (subst (λ (x : Recording). job.accepted x ≡ true) same h.5, subst (λ (x : Recording). job.bytes x ≤ most_bytes) same h.6)

pub job-ready : (job : Job) (from to : List ℕ) (files now : Option Files) (before after : Option (List ℕ)) (ended : Status) → JobEnds job from to files now before after ended → IsReady job files from
    → (ended ≡ status.WriteFault → ⊥) → (ended ≡ status.ShelfFault → ⊥) → (ended ≡ status.Ok) ⊎ (ended ≡ status.Memory)
job-ready job from to files now before after status.Ok h ready sink shelf = inl refl
job-ready job from to files now before after status.Memory h ready sink shelf = inr refl
job-ready job from to files now before after status.WriteFault h ready sink shelf = absurd (sink refl)
job-ready job from to files now before after status.ShelfFault h ready sink shelf = absurd (shelf refl)
job-ready job from to files now before after (status.Missing name) h ready sink shelf = let r = ready None h.2 in let no : None ≡ Some r.0 = r.1 in absurd cc
job-ready job from to files now before after (status.BadWav name e) h ready sink shelf =
    let bad = h.1 in
    let r = ready (Some bad.1) bad.2 in
    let bytes : bad.1 ≡ r.0 = (let e : Some bad.1 ≡ Some r.0 = r.1 in cc) in
    absurd (not_both bad.1 r.3 e (subst (λ (x : List ℕ). IsWav x r.3) (sym bytes) r.4) bad.4)
job-ready job from to files now before after (status.Refused e) h ready sink shelf =
    let bad = h.1 in let no : true ≡ false = sym (ready-fits job from files bad.0 ready bad.1).0 ∙ bad.2 in absurd cc
job-ready job from to files now before after (status.Limit w value) h ready sink shelf = absurd (over h.1)
  where
    over : IsOver job files from w value → ⊥
    over (inl long) = let r = ready (Some long.1.bytes) long.1.found in let bytes : long.1.bytes ≡ r.0 = (let e : Some long.1.bytes ≡ Some r.0 = r.1 in cc) in omega (arith, ap length bytes, long.1.long, r.2)
    over (inr much) = omega (arith, (ready-fits job from files much.1 ready much.2).1, much.4)
job-ready job from to files now before after status.Usage h ready sink shelf = absurd h
job-ready job from to files now before after (status.BadLine line fault) h ready sink shelf = absurd h
job-ready job from to files now before after status.ReadFault h ready sink shelf = absurd h
