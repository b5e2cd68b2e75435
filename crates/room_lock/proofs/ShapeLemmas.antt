-- The shape of a member, and what its card takes in a movement.
use Rattle.std.proofs.Common.{◌≡◌, ℕ, zero, suc, ◌+◌, ◌-◌, ◌*◌, ◌≤◌, ◌<◌, Bool, true, false, cond, not, nat_le, nat_lt, min, List, [], ◌∷◌, length, slice_get, refl, sym, ap, ◌∙◌, subst, arith, length-append}
use Rattle.std.specs.Prelude.{IfNone, IfSome}
use Rattle.std.specs.Option.{option_map}
use Rattle.std.proofs.lemmas.Bool.Decides.{nat_tests}
use Rattle.std.proofs.lemmas.List.{length-replicate}
use Rattle.std.specs.declared.option.Option.{Option}
use Rattle.std.specs.declared.option.Option.TheVariants.{Some, None}
use Rattle.pcm_base.specs.declared.card.Card.{Ghosts}
use Rattle.pcm_base.specs.declared.config.Config.{Config}
use Rattle.pcm_base.specs.declared.config.Shape.{Shape}
use Rattle.pcm_base.specs.declared.ids.SubId.{SubId}
use Rattle.pcm_base.specs.declared.state.Dir.{Dir}
use Rattle.pcm_base.specs.declared.state.Dir.TheVariants as dir
use Rattle.pcm_base.specs.model.Allowed.{shape_of}
use Rattle.pcm_base.specs.model.Frame.{Frame, bytes_of}
use Rattle.pcm_base.specs.model.Group.{stream_of}
use Rattle.pcm_base.specs.model.Movement.{Movement, carried, carried_frames, move, taken_bytes, frames_taken}
use Rattle.pcm_base.specs.model.Replay.{Distinct}
use Rattle.pcm_base.specs.model.Sound.{IsBare, IsConfigured, Sound, SoundAt}
use Rattle.pcm_base.specs.model.Standing.{Put, same_slot, standing, standing_at}
use Rattle.pcm_base.specs.model.Stream.{Setup, Stream, Member as ModelMember, zero_frame}
use Rattle.pcm_base.specs.model.Transfer.{channels_of}
use Rattle.pcm_base.specs.declared.reply.Reply.TheVariants as reply
use Rattle.pcm_stream.specs.declared.members.Member.{Member}
use Rattle.pcm_stream.specs.declared.runtime.Runtime.{Runtime}
use Rattle.pcm_stream.specs.declared.substream.Substream.{Substream}
use Rattle.pcm_stream.specs.Members.{numbers_of}
use Rattle.pcm_stream.specs.MembersStand.{AllStandFor}
use Rattle.pcm_stream.specs.StandsFor.{IsShapeOf, StandsFor, shape_in}
use Rattle.pcm_stream.specs.Wide.{PutsAreWide}
use Rattle.room_lock.specs.Shaped.{HasShape, IsSized}
use Rattle.room_lock.proofs.MemberLemmas.{stands_at}

channels-of : (o : Option Config) (n : ℕ) (h : Shape) → Some h ≡ option_map (λ (c : Config). shape_of c n) o → channels_of o ≡ h.channels
channels-of None n h e = absurd (let no : ⊥ = cc in no)
channels-of (Some c) n h e = let is : h ≡ shape_of c n = cc in sym (ap (λ (x : Shape). x.channels) is)

pub has_shape : {C : Type 0} {g : Ghosts C} (sub : Substream C g) (s : Stream) (o : Option Shape) → o ≡ shape_in sub → StandsFor sub s → IfSome (shape_in sub) (IsShapeOf s) → IfNone (shape_in sub) (s.setup.config ≡ None)
    → shape_in sub ≡ option_map (λ (c : Config). shape_of c s.long_max) s.setup.config → HasShape s o
has_shape sub s o is st model none exact = record {
  sized = λ h e.
      let m : IsShapeOf s h = subst (λ (x : Option Shape). IfSome x (IsShapeOf s)) (sym is ∙ e) model in
      record {
        frame = m.frame_bytes;
        buffer = m.buffer;
        channels = channels-of s.setup.config s.long_max h (sym e ∙ is ∙ exact);
        some = omega (arith, m.sound.frame);
        one = omega (arith, m.sound.channel);
        samples = m.sound.samples;
      };
  bare = λ e. subst (λ (x : Option Shape). IfNone x (s.setup.config ≡ None)) (sym is ∙ e) none;
  none = λ e.
      let bare : s.setup.config ≡ None = subst (λ (x : Option Shape). IfNone x (s.setup.config ≡ None)) (sym is ∙ e) none in
      let b : IsBare s = subst (λ (x : Option Config). SoundAt x s) bare st.sound in ap (λ (u : Setup). u.frame_bytes) b.setup;
}

-- ---- what a card takes

some_member : {C : Type 0} {g : Ghosts C} (ms : List (Member C g)) (i : ℕ) → i < length ms → (m : Member C g) × (slice_get ms i ≡ Some m)
some_member [] i lt = absurd (let no : ⊥ = omega (arith, lt) in no)
some_member (m ∷ ms) zero lt = (m, refl)
some_member (m ∷ ms) (suc i) lt = some_member ms i (omega (arith, lt))

wide-standing : (w : ℕ) (puts : List Put) (b p : ℕ) (z : Frame) → PutsAreWide w puts → length z ≡ w → length (standing puts b p z) ≡ w
wide-standing w [] b p z h e = e
wide-standing w (q ∷ qs) b p z h e = wide-standing w qs b p (cond (same_slot b q.at p) q.frame z) h.1 (one (same_slot b q.at p))
  where
    one : (x : Bool) → length (cond x q.frame z) ≡ w
    one true = h.0
    one false = e

size-standing : (w : ℕ) (puts : List Put) (b p n : ℕ) (z : Frame) → PutsAreWide w puts → length z ≡ w → length (bytes_of (standing_at puts b p n z)) ≡ n * w
size-standing w puts b p zero z h e = omega arith
size-standing w puts b p (suc n) z h e =
    let a = wide-standing w puts b p z h e in
    let r = size-standing w puts b (p + 1) n z h e in
    let l = length-append (standing puts b p z) (bytes_of (standing_at puts b (p + 1) n z)) in
    let m : suc n * w ≡ w + n * w = omega arith in
    omega (arith, a, r, l, m)

no-channels : (s : Stream) (h : Shape) → IsSized s h → s.setup.config ≡ None → ⊥
no-channels s h z e = (let c : 0 ≡ h.channels = sym (ap channels_of e) ∙ z.channels in let o = z.one in let no : ⊥ = omega (arith, c, o) in no)

wide-puts : {C : Type 0} {g : Ghosts C} (sub : Substream C g) (s : Stream) (h : Shape) → IsSized s h → StandsFor sub s → PutsAreWide s.setup.frame_bytes s.puts
wide-puts sub s h z st = by sub.runtime refl
  where
    by : (o : Option Runtime) → sub.runtime ≡ o → PutsAreWide s.setup.frame_bytes s.puts
    by None is = absurd (no-channels s h z (st.shows.unset is).unset)
    by (Some r) is = (let k = st.shows.runs_for r is in subst (λ (w : ℕ). PutsAreWide w s.puts) (sym k.setup.frame_bytes) k.frames.puts)

-- the card is ahead of what is reported
reported : (s : Stream) (h : Shape) → IsSized s h → Sound s → s.at.hw ≤ s.at.card
reported s h z sound = by s.setup.config refl
  where
    by : (o : Option Config) → s.setup.config ≡ o → s.at.hw ≤ s.at.card
    by None e = absurd (no-channels s h z e)
    by (Some c) e = (let is : IsConfigured c s = subst (λ (x : Option Config). SoundAt x s) e sound in is.placed.reported)

taken-most : {C : Type 0} {g : Ghosts C} (sub : Substream C g) (s : Stream) (h : Shape) (n least : ℕ) → StandsFor sub s → IsSized s h → least ≡ min n h.buffer → nat_le (s.at.hw + s.setup.buffer) (s.at.card + n) ≡ false
    → (d : Dir) → length (bytes_of (frames_taken d n s)) ≤ least * h.frame_bytes
taken-most sub s h n least st z e late dir.Capture = omega arith
taken-most sub s h n least st z e late dir.Playback =
    let b : ℕ = s.setup.buffer in
    let ahead = reported s h z st.sound in
    let before : s.at.card + n < s.at.hw + b = grind (arith, nat_tests, late) in
    let buffer = z.buffer in
    let is : n ≡ least = omega (arith, ahead, before, buffer, e) in
    let size = size-standing s.setup.frame_bytes s.puts b s.at.card n (zero_frame s) (wide-puts sub s h z st) (length-replicate s.setup.frame_bytes 0) in
    let same : n * s.setup.frame_bytes ≡ least * h.frame_bytes = ap (λ (k : ℕ). k * s.setup.frame_bytes) is ∙ ap (λ (w : ℕ). least * w) z.frame in
    omega (arith, size, same)

-- by whether the card runs, the movement comes too late, and what it has taken is too much
moved-most : (s : Stream) (n most : ℕ) (a b c : Bool) → (a ≡ false → b ≡ false → (d : Dir) → s.dir ≡ d → length (bytes_of (frames_taken d n s)) ≤ most)
    → length (bytes_of (cond a (let m : Movement = record { reply = reply.Idle; frames = []; stream = s } in m) (cond b (let m : Movement = record { reply = reply.Late (s.setup.buffer - 1 - (s.at.card - s.at.hw)); frames = []; stream = s } in m)
    (cond c (let m : Movement = record { reply = reply.Limit (taken_bytes n s); frames = []; stream = s } in m) (record { reply = reply.Moved n; frames = carried_frames n s; stream = carried n s })))).frames) ≤ most
moved-most s n most true b c h = omega arith
moved-most s n most false true c h = omega arith
moved-most s n most false false true h = omega arith
moved-most s n most false false false h = h refl refl s.dir refl

pub movement_most : {C : Type 0} {g : Ghosts C} (ms : List (Member C g)) (xs : List ModelMember) (i : ℕ) (k : SubId) (n : ℕ) (h : Shape) (least : ℕ) → Distinct (numbers_of ms) → AllStandFor ms xs → i < length ms → slice_get (numbers_of ms) i ≡ Some k
    → HasShape (stream_of k xs) (Some h) → least ≡ min n h.buffer → length (bytes_of (move n (stream_of k xs)).frames) ≤ least * h.frame_bytes
movement_most ms xs i k n h least d st lt is sh e =
    let s : Stream = stream_of k xs in
    let m = some_member ms i lt in
    let at = stands_at ms xs i m.0 k d st m.1 is in
    let stands : StandsFor m.0.stream s = subst (λ (x : Stream). StandsFor m.0.stream x) at.stream at.stands.stream in
    moved-most s n (least * h.frame_bytes) (not s.card.runs) (nat_le (s.at.hw + s.setup.buffer) (s.at.card + n)) (nat_lt 67108864 (taken_bytes n s)) (λ runs late way is_way. taken-most m.0.stream s h n least stands (sh.sized h refl) e late way)

-- a card without a configuration takes nothing
idle-takes : (s : Stream) (n : ℕ) → s.card.runs ≡ false → length (bytes_of (move n s).frames) ≤ 0
idle-takes s n e = moved-most s n 0 (not s.card.runs) (nat_le (s.at.hw + s.setup.buffer) (s.at.card + n)) (nat_lt 67108864 (taken_bytes n s)) (λ runs late way is. absurd (let t : not s.card.runs ≡ true = ap not e in let no : ⊥ = cc in no))

pub bare_still : {C : Type 0} {g : Ghosts C} (ms : List (Member C g)) (xs : List ModelMember) (i : ℕ) (k : SubId) (n : ℕ) → Distinct (numbers_of ms) → AllStandFor ms xs → i < length ms → slice_get (numbers_of ms) i ≡ Some k
    → HasShape (stream_of k xs) None → length (bytes_of (move n (stream_of k xs)).frames) ≤ 0
bare_still ms xs i k n d st lt is sh =
    let s : Stream = stream_of k xs in
    let m = some_member ms i lt in
    let at = stands_at ms xs i m.0 k d st m.1 is in
    let stands : StandsFor m.0.stream s = subst (λ (x : Stream). StandsFor m.0.stream x) at.stream at.stands.stream in
    let b : IsBare s = subst (λ (x : Option Config). SoundAt x s) (sh.bare refl) stands.sound in
    idle-takes s n b.stands
