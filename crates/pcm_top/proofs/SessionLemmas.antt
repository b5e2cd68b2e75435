-- What a line of `run` makes of a session, and the end of its text.
use Rattle.std.proofs.Common.{◌≡◌, ℕ, ◌%◌, ◌^◌, Bool, true, false, not, ◌&&◌, List, [], ◌∷◌, ◌++◌, length, refl, sym, ◌∙◌, ap, subst, inl, inr, Vec, Global, Result, Ok, Err, is_ok, OnOk, min, ◌-◌, append-nil, append_assoc, zero, suc, add-one, arith, mul_comm}
use Rattle.std.specs.FinMap.{get, insert}
use Rattle.std.specs.List.{flat_map, range_with_len}
use Rattle.std.specs.Prelude.{if◌then◌else◌, nat_eq, nat_lt, nat_le, ◌||◌, ◌+◌}
use Rattle.std.proofs.lemmas.Grind.{flat_map-append}
use Rattle.std.proofs.lemmas.Bool.Decides.{nat_tests}
use Rattle.std.specs.declared.alloc.AllocError.{AllocError}
use Rattle.std.specs.declared.option.Option.{Option}
use Rattle.std.specs.declared.option.Option.TheVariants.{Some, None}
use Rattle.pcm_base.specs.declared.config.CardModel.{CardModel}
use Rattle.pcm_base.specs.declared.config.Config.{Config}
use Rattle.pcm_base.specs.declared.config.Model.{Model}
use Rattle.pcm_base.specs.declared.config.Space.{Space as Box}
use Rattle.pcm_base.specs.declared.format.Format.{Format}
use Rattle.pcm_base.specs.declared.format.Format.TheVariants as format
use Rattle.pcm_base.specs.declared.ids.SubId.{SubId}
use Rattle.pcm_base.specs.declared.state.Dir.{Dir}
use Rattle.pcm_base.specs.declared.state.Dir.TheVariants as dir
use Rattle.pcm_base.specs.declared.reply.Reply.{Reply}
use Rattle.pcm_base.specs.declared.reply.Reply.TheVariants as reply
use Rattle.pcm_base.specs.declared.reply.Told.{Told as Shown}
use Rattle.pcm_base.specs.declared.state.Errno.{Errno}
use Rattle.pcm_base.specs.declared.state.Errno.TheVariants as errno
use Rattle.pcm_base.specs.declared.state.State.{State}
use Rattle.pcm_base.specs.declared.state.State.TheVariants as state
use Rattle.pcm_base.specs.contracts.state.State as state_contract
use Rattle.pcm_base.specs.Numbers.{sample_bytes}
use Rattle.pcm_base.specs.model.Frame.{bytes_of}
use Rattle.pcm_base.specs.model.Group.{stream_of}
use Rattle.pcm_base.specs.model.Sound.{Sound, SoundAt, IsConfigured}
use Rattle.pcm_base.specs.model.Events.{page}
use Rattle.pcm_base.specs.model.Stream.{Stream, Member, fresh, no_stream}
use Rattle.pcm_base.specs.model.Words.{when, ◌then◌, is_closed, is_playback}
use Rattle.pcm_base.specs.model.World.{World, Told, holds, group_of, lone, is_declared, set_long, declare, stream_in, state_in, stays}
use Rattle.pcm_io.specs.Shelf.{Files, Stay, Stores, OthersStay}
use Rattle.pcm_line.specs.declared.line.Line.{Line}
use Rattle.pcm_line.specs.declared.line.Line.TheVariants.{Save, Space}
use Rattle.pcm_text.specs.End.{end_line}
use Rattle.pcm_text.specs.Told.{told_line}
use Rattle.wav_file.specs.Grammar.{CanWrite, IsWavFormat, wav_bytes}
use Rattle.pcm_top.specs.CodeSession.{HasWavNumbers, IsSession, IsCut, IsNext, IsStopped, Keeps}
use Rattle.pcm_top.specs.declared.end.End.TheVariants.{ShelfFault}
use Rattle.pcm_top.specs.Refine.{IsAnswer}
use Rattle.pcm_top.specs.Run.{has_wav_format, is_wav_format, save_refusal, saved_file, file_by, save_answer, files_saved, stored, run_line, tells, end_line_of}
use Rattle.pcm_top.specs.Session.{Session}
use Rattle.pcm_top.specs.declared.command.Command.{Command}
use Rattle.pcm_top.specs.declared.command.Command.TheVariants.{Run, Refine}
use Rattle.pcm_top.specs.declared.session.Session.{Session as Kept}
use Rattle.pcm_world.specs.declared.world.World.{World as CodeWorld}
use Rattle.pcm_world.specs.Shown.{IsWorld, shown}
use denote.Enum.Bare.{sameb}

-- ---- what a world shows of a substream

-- a substream that is not declared has no stream of its own
nowhere : (k : SubId) (ms : List Member) → holds k ms ≡ false → stream_of k ms ≡ no_stream
nowhere k [] h = refl
nowhere k (m ∷ ms) h = by (nat_eq m.sub.0 k.0) h (nowhere k ms)
  where
    by : (b : Bool) → (b || holds k ms) ≡ false → (holds k ms ≡ false → stream_of k ms ≡ no_stream) → (if b then m.stream else stream_of k ms) ≡ no_stream
    by true h others = cc
    by false h others = others h

pub stream-undeclared : (k : SubId) (w : World) → is_declared k w ≡ false → stream_in k w ≡ no_stream
stream-undeclared k w h = nowhere k (group_of k w.groups) h

pub state-undeclared : (k : SubId) (w : World) → false ≡ is_declared k w → state.Closed ≡ state_in k w
state-undeclared k w h = sym (ap (λ (s : Stream). s.state) (stream-undeclared k w (sym h)))

pub plays-undeclared : (k : SubId) (w : World) → is_declared k w ≡ false → is_playback (stream_in k w).dir ≡ true
plays-undeclared k w h = ap (λ (s : Stream). is_playback s.dir) (stream-undeclared k w h)

-- a group behind the others holds the substream, where none of them does
group-behind : (k : SubId) (gs : List (List Member)) (g : List Member) → holds k (group_of k gs) ≡ false → group_of k (gs ++ g ∷ []) ≡ group_of k (g ∷ [])
group-behind k [] g h = refl
group-behind k (f ∷ gs) g h = by (holds k f) refl h (group-behind k gs g)
  where
    by : (b : Bool) → holds k f ≡ b → holds k (if b then f else group_of k gs) ≡ false → (holds k (group_of k gs) ≡ false → group_of k (gs ++ g ∷ []) ≡ group_of k (g ∷ []))
        → (if b then f else group_of k (gs ++ g ∷ [])) ≡ group_of k (g ∷ [])
    by true e h others = (let q : true ≡ false = sym e ∙ h in cc)
    by false e h others = others h

number-eq : (n : ℕ) → nat_eq n n ≡ true
number-eq n = grind (arith, nat_tests)

-- a card that was declared is closed
pub declared-state : (k : SubId) (m : CardModel) (d : Dir) (n : ℕ) (gs : List (List Member)) → holds k (group_of k gs) ≡ false → (stream_of k (group_of k (gs ++ lone k m d n ∷ []))).state ≡ state.Closed
declared-state k m d n gs h =
    ap (λ (g : List Member). (stream_of k g).state) (group-behind k gs (lone k m d n) h)
    ∙ ap (λ (b : Bool). (stream_of k (if b || false then lone k m d n else [])).state) (number-eq k.0)
    ∙ ap (λ (b : Bool). (if b then fresh m d n else no_stream).state) (number-eq k.0)

-- a declaration shows the substream's state after it
pub declare-shows : (k : SubId) (m : CardModel) (d : Dir) (w : World) → record { reply = (declare k m d w).reply; state = Some (state_in k (declare k m d w).world); woken = 0 } ≡ shown (declare k m d w)
declare-shows k m d w = by (is_declared k w) refl
  where
    by : (b : Bool) → is_declared k w ≡ b
        → (let t : Told = if b then stays (reply.Err errno.Ebusy) (Some (state_in k w)) w else stays reply.Ok (Some state.Closed) (record w { groups = w.groups ++ lone k m d w.long_max ∷ [] }) in
        record { reply = t.reply; state = Some (state_in k t.world); woken = 0 } ≡ shown t)
    by true e = refl
    by false e = ap (λ (x : State). let r : Shown = record { reply = reply.Ok; state = Some x; woken = 0 } in r) (declared-state k m d w.long_max w.groups e)

-- LONG_MAX names no substream
pub set_long-shows : (n : ℕ) (w : World) → record { reply = (set_long n w).reply; state = None; woken = 0 } ≡ shown (set_long n w)
set_long-shows n w = by (nat_lt 0 (length w.groups)) (nat_lt n 15 || nat_le (2 ^ 36) n)
  where
    by : (a b : Bool) → (let t : Told = if a then stays (reply.Err errno.Ebusy) None w else if b then stays (reply.Err errno.Einval) None w else stays reply.Ok None (record w { long_max = n }) in
        record { reply = t.reply; state = None; woken = 0 } ≡ shown t)
    by true b = refl
    by false true = refl
    by false false = refl

pub is-closed : (x : State) (b : Bool) → b ≡ sameb state_contract.the_type x state.Closed → b ≡ is_closed x
is-closed state.Closed b e = e
is-closed state.Opened b e = e
is-closed state.Setup b e = e
is-closed state.Prepared b e = e
is-closed state.Running b e = e
is-closed state.Xrun b e = e
is-closed state.Draining b e = e
is-closed state.Paused b e = e
is-closed state.Suspended b e = e
is-closed state.Disconnected b e = e

pub and_second : (a b : Bool) → (a && b) ≡ true → b ≡ true
and_second true b h = h
and_second false b h = cc

-- ---- a line of an answer without bytes

pub tells-shown : (r : Result (Unit {0}) AllocError) (world : CodeWorld) (version number : ℕ) (told : Shown) (t : Told) (bytes shows : Option (List ℕ)) (s : Session) (old : List ℕ) (text : Vec ℕ Global)
    → OnOk r (text.items ≡ old ++ told_line number told bytes) → told ≡ shown t → bytes ≡ shows → old ≡ s.text → version ≡ s.version → IsWorld world t.world
    → OnOk r (Keeps (record { world = world; version = version; text = text }) (tells number t shows s))
tells-shown (Ok u) world version number told t bytes shows s old text line e b same v is =
    record {
      world = is;
      version = v;
      text =
          line ∙ ap (λ (l : List ℕ). l ++ told_line number told bytes) same ∙ ap (λ (x : Shown). s.text ++ told_line number x bytes) e
          ∙ ap (λ (x : Option (List ℕ)). s.text ++ told_line number (shown t) x) b;
    }
tells-shown (Err x) world version number told t bytes shows s old text line e b same v is = tt

pub tells-ok : (r : Result (Unit {0}) AllocError) (world : CodeWorld) (version number : ℕ) (told : Shown) (t : Told) (s : Session) (old : List ℕ) (text : Vec ℕ Global)
    → OnOk r (text.items ≡ old ++ told_line number told None) → told ≡ shown t → old ≡ s.text → version ≡ s.version → IsWorld world t.world
    → OnOk r (Keeps (record { world = world; version = version; text = text }) (tells number t None s))
tells-ok r world version number told t s old text line e same v is = tells-shown r world version number told t None None s old text line e refl same v is

-- ---- why what a card took is stored, or not

abbrev refusal_by : Bool → Bool → Option Errno
refusal_by closed savable = when closed errno.Enxio then when (not savable) errno.Einval

pub save-refusal : (k : SubId) (w : World) (closed savable : Bool) → is_closed (state_in k w) ≡ closed → (is_playback (stream_in k w).dir && has_wav_format (stream_in k w).setup.config) ≡ savable
    → save_refusal k w ≡ refusal_by closed savable
save-refusal k w closed savable c f =
    ap (λ (a : Bool). when a errno.Enxio then when (not (is_playback (stream_in k w).dir && has_wav_format (stream_in k w).setup.config)) errno.Einval) c
    ∙ ap (λ (b : Bool). when closed errno.Enxio then when (not b) errno.Einval) f

-- no configuration, no file
pub unset-savable : (d : Dir) (o : Option Config) → o ≡ None → (is_playback d && has_wav_format o) ≡ false
unset-savable dir.Playback o e = ap has_wav_format e
unset-savable dir.Capture o e = refl

-- ---- the file of what a card took

wav-format : (f : Format) → is_wav_format f ≡ true → IsWavFormat f
wav-format format.S8 h = cc
wav-format format.U8 h = tt
wav-format format.S16Le h = tt
wav-format format.S16Be h = cc
wav-format format.S24Le h = tt
wav-format format.S32Le h = tt
wav-format format.S32Be h = cc
wav-format format.S24Le3 h = tt

pub stream-can-write : (s : Stream) (c : Config) (frames : List ℕ) → HasWavNumbers c → Sound s → s.setup.config ≡ Some c → is_wav_format c.format ≡ true
    → length frames % s.setup.frame_bytes ≡ 0 → CanWrite (record { format = c.format; channels = c.channels; rate = c.rate; frames = frames })
stream-can-write s c frames numbers sound has f whole =
    let set : IsConfigured c s = subst (λ (o : Option Config). SoundAt o s) has sound in
    let shaped = subst (λ (k : ℕ). length frames % k ≡ 0) set.shaped.frame_bytes whole in
    record {
      format = wav-format c.format f;
      least = numbers.least;
      most = numbers.most;
      some_rate = numbers.some_rate;
      rate = numbers.rate;
      whole = rw (mul_comm c.channels (sample_bytes c.format)) shaped;
    }

pub saved-file : (s : Stream) (c : Config) (frames file : List ℕ) → s.setup.config ≡ Some c → frames ≡ bytes_of s.card.taken
    → file ≡ wav_bytes (record { format = c.format; channels = c.channels; rate = c.rate; frames = frames }) → file ≡ saved_file s
saved-file s c frames file has took e =
    e ∙ ap (λ (k : List ℕ). file_by (Some c) k) took ∙ ap (λ (o : Option Config). file_by o (bytes_of s.card.taken)) (sym has)

-- ---- what a save answers and stores

-- the answer and the files, by why they are refused
abbrev answer_by : SubId → World → Option Errno → Told
answer_by k w r = elim r [ Some e ↦ stays (reply.Err e) (Some (state_in k w)) w | None ↦ stays reply.Ok (Some (state_in k w)) w ]

abbrev files_by : SubId → List ℕ → World → Option Files → Option Errno → Option Files
files_by k name w files r = elim r [ Some e ↦ files | None ↦ stored name (saved_file (stream_in k w)) files ]

pub reply-allowed : (k : SubId) (w : World) → save_refusal k w ≡ None → reply.Ok ≡ (save_answer k w).reply
reply-allowed k w none = ap (λ (r : Option Errno). (answer_by k w r).reply) (sym none)

pub reply-refused : (k : SubId) (w : World) (e : Errno) → save_refusal k w ≡ Some e → reply.Err e ≡ (save_answer k w).reply
reply-refused k w e some = ap (λ (r : Option Errno). (answer_by k w r).reply) (sym some)

pub stays-along : (files before now : Option Files) → Stay files before → Stay before now → Stay files now
stays-along None before now a b = tt
stays-along (Some f) None now a b = absurd a
stays-along (Some f) (Some g) None a b = absurd b
stays-along (Some f) (Some g) (Some h) a b = b ∙ a

pub others-along : (files before now : Option Files) (name : List ℕ) → Stay files before → OthersStay before now name → OthersStay files now name
others-along None before now name a b = tt
others-along (Some f) None now name a b = absurd a
others-along (Some f) (Some g) None name a b = absurd b
others-along (Some f) (Some g) (Some h) name a b = λ other ne. b other ne ∙ ap (λ (x : Files). get x other) a

stores-along : (files before now : Option Files) (name bytes : List ℕ) → Stay files before → Stores before now name bytes → Stay (stored name bytes files) now
stores-along None before now name bytes a b = tt
stores-along (Some f) None now name bytes a b = absurd a
stores-along (Some f) (Some g) None name bytes a b = absurd b
stores-along (Some f) (Some g) (Some h) name bytes a b = b ∙ ap (λ (x : Files). insert x name bytes) a

pub files-allowed : (k : SubId) (name bytes : List ℕ) (w : World) (files before now : Option Files) → save_refusal k w ≡ None → bytes ≡ saved_file (stream_in k w)
    → Stay files before → Stores before now name bytes → Stay (files_saved k name w files) now
files-allowed k name bytes w files before now none file a b =
    subst (λ (r : Option Errno). Stay (files_by k name w files r) now) (sym none)
    (subst (λ (l : List ℕ). Stay (stored name l files) now) file (stores-along files before now name bytes a b))

pub files-refused : (k : SubId) (name : List ℕ) (w : World) (files now : Option Files) (e : Errno) → save_refusal k w ≡ Some e → Stay files now → Stay (files_saved k name w files) now
files-refused k name w files now e some a = subst (λ (r : Option Errno). Stay (files_by k name w files r) now) (sym some) a

pub world-save : (k : SubId) (w : World) → (save_answer k w).world ≡ w
world-save k w = elim (save_refusal k w) as (λ (r : Option Errno). (answer_by k w r).world ≡ w) [ Some e ↦ refl | None ↦ refl ]

pub shown-save : (k : SubId) (w : World) → record { reply = (save_answer k w).reply; state = Some (state_in k w); woken = 0 } ≡ shown (save_answer k w)
shown-save k w =
    elim (save_refusal k w) as (λ (r : Option Errno). record { reply = (answer_by k w r).reply; state = Some (state_in k w); woken = 0 } ≡ shown (answer_by k w r))
    [ Some e ↦ refl | None ↦ refl ]

-- ---- the session behind a line

-- nothing was done
pub cut-before : (c : Command) (number : ℕ) (line : Line) (k : Kept) (s : Session) (before now : Option Files) → IsSession k before s → Stay before now → IsCut c number line s now
cut-before c number line k s before now is stay = record {
  last = s;
  reached = inl refl;
  shelf = stays-along s.files before now is.shelf stay;
}

pub cut-untouched : (c : Command) (number : ℕ) (line : Line) (k : Kept) (s : Session) (files : Option Files) → IsSession k files s → IsCut c number line s files
cut-untouched c number line k s files is = record {
  last = s;
  reached = inl refl;
  shelf = is.shelf;
}

-- the file was stored, and then memory was wanting
pub save-cut : (number : ℕ) (k : SubId) (name : List ℕ) (s : Session) (now : Option Files) → Stay (files_saved k name s.world s.files) now → IsCut Run number (Save k name) s now
save-cut number k name s now stay = record {
  last = run_line number (Save k name) s;
  reached = inr (refl, refl);
  shelf = stay;
}

-- the line of a save stands behind the text
save-text : (number : ℕ) (k : SubId) (w : World) (told : Shown) (r : Reply) (old text now : List ℕ) → told ≡ record { reply = r; state = Some (state_in k w); woken = 0 } → r ≡ (save_answer k w).reply
    → old ≡ text → now ≡ old ++ told_line number told None → now ≡ text ++ told_line number (shown (save_answer k w)) None
save-text number k w told r old text now t answer same line =
    line ∙ ap (λ (l : List ℕ). l ++ told_line number told None) same
    ∙ ap (λ (x : Shown). text ++ told_line number x None) (t ∙ ap (λ (x : Reply). record { reply = x; state = Some (state_in k w); woken = 0 }) answer ∙ shown-save k w)

pub save-session : (kept : Kept) (number : ℕ) (k : SubId) (name : List ℕ) (s : Session) (files now : Option Files) (told : Shown) (r : Reply) (text : Vec ℕ Global)
    → IsSession kept files s → Stay (files_saved k name s.world s.files) now
    → told ≡ record { reply = r; state = Some (state_in k s.world); woken = 0 } → r ≡ (save_answer k s.world).reply → text.items ≡ kept.text.items ++ told_line number told None
    → IsNext Run number (Save k name) s (record { world = kept.world; version = kept.version; text = text }) now
save-session kept number k name s files now told r text is stay t answer line = record {
  next = run_line number (Save k name) s;
  answers = (refl, refl);
  session = record {
    keeps = record {
      world = subst (λ (w : World). IsWorld kept.world w) (sym (world-save k s.world)) is.keeps.world;
      version = is.keeps.version;
      text = save-text number k s.world told r kept.text.items s.text text.items t answer is.keeps.text line;
    };
    none_lost = is.none_lost;
    shelf = stay;
  };
}

-- the store failed
pub save-stopped : (k : SubId) (name : List ℕ) (kept : Kept) (s : Session) (files now : Option Files) → IsSession kept files s → save_refusal k s.world ≡ None → OthersStay files now name
    → IsStopped Run (Save k name) s kept.text.items now ShelfFault
save-stopped k name kept s files now is none others = record {
  last = record s { lost = Some name };
  halts = (none, refl, refl);
  written = is.keeps.text;
  shelf = others-along s.files files now name is.shelf others;
}

-- ---- the end of the text

-- the lines of the first n substreams
abbrev pub ends_below : World → ℕ → List ℕ
ends_below w n = flat_map (end_line_of w) (range_with_len 0 n)

range-last : (a n : ℕ) → range_with_len a (suc n) ≡ range_with_len a n ++ (a + n) ∷ []
range-last a zero = ap (λ (k : ℕ). k ∷ []) (omega arith)
range-last a (suc n) =
    let shifted : a + 1 + n ≡ a + suc n = omega arith in
    ap (λ (l : List ℕ). a ∷ l) (range-last (a + 1) n ∙ ap (λ (k : ℕ). range_with_len (a + 1) n ++ k ∷ []) shifted)

ends-last : (w : World) (n : ℕ) → ends_below w (n + 1) ≡ ends_below w n ++ end_line_of w n
ends-last w n =
    let numbers : range_with_len 0 (n + 1) ≡ range_with_len 0 n ++ n ∷ [] = rw add-one (range-last 0 n ∙ ap (λ (k : ℕ). range_with_len 0 n ++ k ∷ []) (omega arith)) in
    ap (flat_map (end_line_of w)) numbers
    ∙ flat_map-append (end_line_of w) (range_with_len 0 n) (n ∷ [])
    ∙ ap (λ (l : List ℕ). ends_below w n ++ l) (append-nil (end_line_of w n))

-- one substream more
pub ends-more : (w : World) (n : ℕ) (old text now : List ℕ) → text ≡ old ++ ends_below w n → now ≡ text ++ end_line_of w n → now ≡ old ++ ends_below w (n + 1)
ends-more w n old text now before line = rw (line, before, ends-last) (append_assoc old (ends_below w n) (end_line_of w n))

-- the line of a substream that is declared, and of one that is not
pub end-declared : (k : SubId) (w : World) (line : List ℕ) → is_declared k w ≡ true → line ≡ end_line k (page (stream_in k w)) (min (stream_in k w).moved (2 ^ 64 - 1)) → line ≡ end_line_of w k.0
end-declared k w line own e =
    e ∙ sym (ap (λ (b : Bool). if b then end_line k (page (stream_in k w)) (min (stream_in k w).moved (2 ^ 64 - 1)) else []) own)

pub end-undeclared : (k : SubId) (w : World) → is_declared k w ≡ false → end_line_of w k.0 ≡ []
end-undeclared k w none = ap (λ (b : Bool). if b then end_line k (page (stream_in k w)) (min (stream_in k w).moved (2 ^ 64 - 1)) else []) none

pub on-behind : (r : Result (Unit {0}) AllocError) (old added line new failed : List ℕ) → new ≡ (if is_ok r then old ++ added else failed) → added ≡ line → OnOk r (new ≡ old ++ line)
on-behind (Ok u) old added line new failed e same = e ∙ ap (λ (l : List ℕ). old ++ l) same
on-behind (Err x) old added line new failed e same = tt

-- ---- a space line answered

space-answered : (number : ℕ) (m : Model) (box : Box) (k : Kept) (s : Session) (files : Option Files) (text : Vec ℕ Global) → IsSession k files s
    → (answer : List ℕ) × IsAnswer m box answer × (text.items ≡ k.text.items ++ answer) → IsNext Refine number (Space m box) s (record { world = k.world; version = k.version; text = text }) files
space-answered number m box k s files text is given = record {
  next = record s { text = s.text ++ given.0 };
  answers = (given.0, given.1, refl);
  session = record {
    keeps = record { world = is.keeps.world; version = is.keeps.version; text = given.2 ∙ ap (λ (l : List ℕ). l ++ given.0) is.keeps.text };
    none_lost = is.none_lost;
    shelf = is.shelf;
  };
}

pub next-of-space : (c : Command) (number : ℕ) (line : Line) (m : Model) (box : Box) (k : Kept) (s : Session) (files : Option Files) (text : Vec ℕ Global) → c ≡ Refine → line ≡ Space m box → IsSession k files s
    → (answer : List ℕ) × IsAnswer m box answer × (text.items ≡ k.text.items ++ answer) → IsNext c number line s (record { world = k.world; version = k.version; text = text }) files
next-of-space c number line m box k s files text refine space is given =
    subst (λ (x : Command). IsNext x number line s (record { world = k.world; version = k.version; text = text }) files) (sym refine)
    (subst (λ (l : Line). IsNext Refine number l s (record { world = k.world; version = k.version; text = text }) files) (sym space) (space-answered number m box k s files text is given))
