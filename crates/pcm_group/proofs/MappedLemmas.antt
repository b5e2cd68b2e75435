-- What events that look at the bytes of their call end with.
use Rattle.std.proofs.Common.{◌≡◌, ◌<◌, ◌+◌, ◌*◌, ◌/◌, ◌%◌, ℕ, zero, suc, Bool, List, length, drop, Option, None, Some, Result, Ok, Err, MatchResult, IsSome, IfSome, IfOk, IfErr, OnErr, refl, sym, ap, ◌∙◌, subst, arith, mul-div_cancel}
use Rattle.std.proofs.Math.Nat.{mul-mod_left}
use Rattle.std.specs.Option.{ForSome}
use Rattle.pcm_base.specs.declared.call.Call.TheVariants as call
use Rattle.pcm_base.specs.declared.card.Card.{Ghosts}
use Rattle.pcm_base.specs.declared.config.Shape.{Shape}
use Rattle.pcm_base.specs.declared.ids.ClientId.{ClientId}
use Rattle.pcm_base.specs.declared.reply.Reply.{Reply}
use Rattle.pcm_base.specs.declared.reply.Reply.TheVariants as reply
use Rattle.pcm_base.specs.declared.state.Errno.{Errno}
use Rattle.pcm_base.specs.Shape.{IsSoundShape}
use Rattle.pcm_base.specs.model.Events.{event, hands}
use Rattle.pcm_base.specs.model.Frame.{Frame, bytes_of, frames_of}
use Rattle.pcm_base.specs.model.Program.{fails}
use Rattle.pcm_base.specs.model.Standing.{Put, standing_at}
use Rattle.pcm_base.specs.model.Stream.{Stream, zero_frame}
use Rattle.pcm_base.specs.model.Transfer.{frames_in}
use Rattle.pcm_stream.specs.declared.substream.Substream.{Substream}
use Rattle.pcm_stream.specs.Buffer.{loaded_from, stored_at}
use Rattle.pcm_stream.specs.StandsFor.{IsShapeOf, StandsFor}
use Rattle.mmap_pages.specs.Mapped.{count_in, load_refusal, store_refusal}
use Rattle.pcm_group.specs.Ended.{IsOwnEnd}
use Rattle.pcm_group.specs.Lent.{Loads}
use Rattle.pcm_group.proofs.EndedLemmas.{IsOwnEnd-at, allowed-is, keeps-itself, keeps-same, refused-is}

-- ---- counts

pub length-frames : (n w : ℕ) (bytes : List ℕ) → length (frames_of n w bytes) ≡ n
length-frames zero w bytes = refl
length-frames (suc n) w bytes = ap suc (length-frames n w (drop w bytes))

pub length-standing : (qs : List Put) (b p n : ℕ) (z : Frame) → length (standing_at qs b p n z) ≡ n
length-standing qs b p zero z = refl
length-standing qs b p (suc n) z = ap suc (length-standing qs b (p + 1) n z)

-- bytes of n frames are whole, and n
pub whole_bytes : (n w : ℕ) (io : List ℕ) → length io ≡ n * w → length io % w ≡ 0
whole_bytes n w io h = ap (λ l. l % w) h ∙ mul-mod_left n w

pub counted : (o : Option Shape) (s : Stream) (io : List ℕ) (n : ℕ) → IsSome o → IfSome o IsSoundShape → IfSome o (IsShapeOf s) → ForSome o (λ shape. length io ≡ n * shape.frame_bytes) → count_in s io ≡ n
counted None s io n some sound sized lent = absurd (let no : ⊥ = cc in no)
counted (Some shape) s io n some sound sized lent =
    let wide : 0 < shape.frame_bytes = omega (arith, sound.frame) in
    ap (λ w. length io / w) sized.frame_bytes ∙ ap (λ l. l / shape.frame_bytes) (lent shape refl) ∙ mul-div_cancel n wide

-- ---- a store

pub stores_as : {C : Type 0} {g : Ghosts C} (c : ClientId) (linked : Bool) (o : ℕ) (io : List ℕ) (s : Stream) (r : Result ℕ Errno) (q : Reply) (f m : ℕ) (sub : Substream C g)
    → IfOk r (λ n. (store_refusal o io s ≡ None) × (n ≡ count_in s io) × StandsFor sub (stored_at o (frames_in s io) s)) → IfErr r (λ e. (store_refusal o io s ≡ Some e) × StandsFor sub s)
    → MatchResult r (λ n. q ≡ reply.Frames n) (λ e. q ≡ reply.Err e) → MatchResult r (λ n. m ≡ n) (λ _. m ≡ 0) → f ≡ 0
    → IsOwnEnd s (event (call.Store o) c linked io s) q f m sub
stores_as c linked o io s (Ok n) q f m sub ok refused told moved first =
    IsOwnEnd-at s (event (call.Store o) c linked io s) (hands (reply.Frames (count_in s io)) (frames_in s io) (stored_at o (frames_in s io) s)) q f m sub
    (allowed-is (store_refusal o io s) s (hands (reply.Frames (count_in s io)) (frames_in s io) (stored_at o (frames_in s io) s)) ok.0)
    (told ∙ ap reply.Frames ok.1, first, moved ∙ ok.1 ∙ sym (length-frames (count_in s io) s.setup.frame_bytes io), keeps-same s (stored_at o (frames_in s io) s) refl refl refl, ok.2)
stores_as c linked o io s (Err e) q f m sub ok refused told moved first =
    IsOwnEnd-at s (event (call.Store o) c linked io s) (fails e s) q f m sub
    (refused-is (store_refusal o io s) s (hands (reply.Frames (count_in s io)) (frames_in s io) (stored_at o (frames_in s io) s)) e refused.0)
    (told, first, moved, keeps-itself s, refused.1)

-- ---- a load

refused_not : (o n m : ℕ) (s : Stream) (e : Errno) → m ≡ n → load_refusal o n s ≡ None → load_refusal o m s ≡ Some e → ⊥
refused_not o n m s e same none some = let never : None ≡ Some e = sym none ∙ ap (λ k. load_refusal o k s) (sym same) ∙ some in cc

pub loads_as : {C : Type 0} {g : Ghosts C} (c : ClientId) (linked : Bool) (bytes : List ℕ) (o n : ℕ) (io out : List ℕ) (s : Stream) (r : Result ℕ Errno) (q : Reply) (f m : ℕ) (sub : Substream C g)
    → StandsFor sub s → load_refusal o n s ≡ None → count_in s io ≡ n
    → IfOk r (λ k. (load_refusal o k s ≡ None) × (k ≡ count_in s io) × (out ≡ bytes_of (loaded_from o k s))) → IfErr r (λ e. load_refusal o (count_in s io) s ≡ Some e)
    → MatchResult r (λ k. q ≡ reply.Frames k) (λ e. q ≡ reply.Err e) → MatchResult r (λ k. m ≡ k) (λ _. m ≡ 0) → f ≡ 0
    → IsOwnEnd s (event (call.Load o n) c linked bytes s) q f m sub
loads_as c linked bytes o n io out s (Ok k) q f m sub stands none count ok refused told moved first =
    let same : k ≡ n = ok.1 ∙ count in
    IsOwnEnd-at s (event (call.Load o n) c linked bytes s) (hands (reply.Frames n) (loaded_from o n s) s) q f m sub
    (allowed-is (load_refusal o n s) s (hands (reply.Frames n) (loaded_from o n s) s) none)
    (told ∙ ap reply.Frames same, first, moved ∙ same ∙ sym (length-standing s.puts s.setup.buffer o n (zero_frame s)), keeps-itself s, stands)
loads_as c linked bytes o n io out s (Err e) q f m sub stands none count ok refused told moved first = absurd (refused_not o n (count_in s io) s e count none refused)

pub leaves_as : (o n : ℕ) (io out : List ℕ) (s : Stream) (r : Result ℕ Errno) (q : Reply) → count_in s io ≡ n
    → IfOk r (λ k. (load_refusal o k s ≡ None) × (k ≡ count_in s io) × (out ≡ bytes_of (loaded_from o k s))) → OnErr r (out ≡ io)
    → MatchResult r (λ k. q ≡ reply.Frames k) (λ e. q ≡ reply.Err e) → Loads (call.Load o n) s q io out
leaves_as o n io out s (Ok k) q count ok same told =
    subst (λ (x : Reply). Loads (call.Load o n) s x io out) (sym told) (ok.2 ∙ ap (λ j. bytes_of (loaded_from o j s)) (ok.1 ∙ count))
leaves_as o n io out s (Err e) q count ok same told = subst (λ (x : Reply). Loads (call.Load o n) s x io out) (sym told) same
