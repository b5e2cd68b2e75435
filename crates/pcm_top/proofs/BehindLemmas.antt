-- A run whose text so far stands behind another text.
use Rattle.std.proofs.Common.{◌≡◌, ℕ, ◌+◌, Bool, List, [], ◌∷◌, None, Some, refl, sym, ◌∙◌, ap, inl, inr, append_assoc}
use Rattle.std.specs.declared.option.Option.{Option}
use Rattle.pcm_base.specs.declared.ids.SubId.{SubId}
use Rattle.pcm_base.specs.declared.reply.Reply.TheVariants as reply
use Rattle.pcm_base.specs.model.World.{Told, set_long, declare, state_in, step, stays}
use Rattle.card_emul.specs.Limits.{limits_of}
use Rattle.pcm_line.specs.declared.line.Line.{Line}
use Rattle.pcm_line.specs.declared.line.Line.TheVariants.{LongMax, Card, Event, Feed, Save, Space, Beat, Threads, Join, Version, Carry, Wire}
use Rattle.pcm_top.specs.declared.command.Command.{Command}
use Rattle.pcm_top.specs.declared.command.Command.TheVariants.{Run, Refine}
use Rattle.pcm_top.specs.declared.end.End.{End}
use Rattle.pcm_top.specs.CodeSession.{behind}
use Rattle.pcm_top.specs.Run.{Feeds, LineLeads, bytes_shown, carry_answer, feed_answer, run_line, tells, save_answer, files_saved}
use Rattle.pcm_top.specs.Script.{Answers, Halts, Passes, limit_for, LineGives, Gives, Reaches}
use Rattle.pcm_top.specs.Lines.{is_last}
use Rattle.pcm_top.specs.Session.{Session}

tells-behind : (w : List ℕ) (number : ℕ) (t : Told) (bytes : Option (List ℕ)) (s : Session) → behind w (tells number t bytes s) ≡ tells number t bytes (behind w s)
tells-behind w number t bytes s =
    ap (λ (text : List ℕ). let r : Session = record s { world = t.world; text = text } in r) (sym (append_assoc w s.text _))

line-behind : (w : List ℕ) (number : ℕ) (line : Line) (s : Session) → behind w (run_line number line s) ≡ run_line number line (behind w s)
line-behind w number (LongMax n) s = tells-behind w number (set_long n s.world) None s
line-behind w number (Card k model dir) s = tells-behind w number (declare k (limits_of model) dir s.world) None s
line-behind w number (Event e bytes) s = let t = step s.world e bytes in tells-behind w number t (bytes_shown e s.world t) s
line-behind w number (Save k name) s = tells-behind w number (save_answer k s.world) None (record s { files = files_saved k name s.world s.files })
line-behind w number (Feed k name) s = refl
line-behind w number (Space model space) s = refl
line-behind w number (Beat k m n) s = refl
line-behind w number Threads s = refl
line-behind w number Join s = refl
line-behind w number (Version n) s = tells-behind w number (stays reply.Ok None s.world) None (record s { version = n })
line-behind w number (Carry k j) s = tells-behind w number (carry_answer k j s.world) None s
line-behind w number (Wire k j) s = refl

feeds-behind : (w : List ℕ) (number : ℕ) (k : SubId) (name : List ℕ) (s t : Session) → Feeds number k name s t → Feeds number k name (behind w s) (behind w t)
feeds-behind w number k name s t (inl h) = inl (h.0, h.1, ap (behind w) h.2 ∙ tells-behind w number (stays (reply.Err h.0) (Some (state_in k s.world)) s.world) None s)
feeds-behind w number k name s t (inr h) = inr (h.0, h.1, h.2, ap (behind w) h.3 ∙ tells-behind w number (feed_answer k h.1 s.world) None s)

leads-behind : (w : List ℕ) (number : ℕ) (line : Line) (s t : Session) → LineLeads number line s t → LineLeads number line (behind w s) (behind w t)
leads-behind w number (Feed k name) s t h = feeds-behind w number k name s t h
leads-behind w number (LongMax n) s t h = ap (behind w) h ∙ line-behind w number (LongMax n) s
leads-behind w number (Card k model dir) s t h = ap (behind w) h ∙ line-behind w number (Card k model dir) s
leads-behind w number (Event e bytes) s t h = ap (behind w) h ∙ line-behind w number (Event e bytes) s
leads-behind w number (Save k name) s t h = ap (behind w) h ∙ line-behind w number (Save k name) s
leads-behind w number (Space model space) s t h = ap (behind w) h
leads-behind w number (Beat k m n) s t h = ap (behind w) h
leads-behind w number Threads s t h = ap (behind w) h
leads-behind w number Join s t h = ap (behind w) h
leads-behind w number (Version n) s t h = ap (behind w) h ∙ line-behind w number (Version n) s
leads-behind w number (Carry k j) s t h = ap (behind w) h ∙ line-behind w number (Carry k j) s
leads-behind w number (Wire k j) s t h = ap (behind w) h

pub answers-behind : (w : List ℕ) (c : Command) (number : ℕ) (line : Line) (s t : Session) → Answers c number line s t → Answers c number line (behind w s) (behind w t)
answers-behind w Run number line s t h = (h.0, leads-behind w number line s t h.1)
answers-behind w Refine number (Space model space) s t h =
    (h.0, h.1, ap (behind w) h.2 ∙ ap (λ (text : List ℕ). let r : Session = record s { text = text } in r) (sym (append_assoc w s.text h.0)))
answers-behind w Refine number _ s t h = absurd h

halts-behind : (w : List ℕ) (c : Command) (line : Line) (s t : Session) (ended : End) → Halts c line s t ended → Halts c line (behind w s) (behind w t) ended
halts-behind w Run (Save k name) s t ended h = (h.0, ap (behind w) h.1, h.2)
halts-behind w Run (Feed k name) s t ended h = (h.0, ap (behind w) h.1, h.2)
halts-behind w Run _ s t ended h = absurd h
halts-behind w Refine line s t ended h = absurd h

pub passes-behind : (w : List ℕ) (c : Command) (number : ℕ) (P Q : Session → Type 0) (s : Session) (bytes : List ℕ) → ((t : Session) → P t → Q (behind w t)) → Passes c number P s bytes → Passes c number Q (behind w s) bytes
passes-behind w c number P Q s bytes f (inl h) = inl (h.0, f s h.1)
passes-behind w c number P Q s bytes f (inr h) =
    inr (record { speaks = h.speaks; line = h.line; says = h.says; next = behind w h.next; answers = answers-behind w c number h.line s h.next h.answers; follows = f h.next h.follows })

gives-line : (w : List ℕ) (c : Command) (o : Option End) (number : ℕ) (rest rest_behind : Session → Type 0) (s last : Session) (ended : End) (bytes : List ℕ)
    → ((t : Session) → rest t → rest_behind (behind w t)) → LineGives c o number rest s last ended bytes → LineGives c o number rest_behind (behind w s) (behind w last) ended bytes
gives-line w c (Some limit) number rest rest_behind s last ended bytes f h = (ap (behind w) h.0, h.1)
gives-line w c None number rest rest_behind s last ended bytes f (inl x) = inl (passes-behind w c number rest rest_behind s bytes f x)
gives-line w c None number rest rest_behind s last ended bytes f (inr (inl x)) = inr (inl (record { speaks = x.speaks; fault = x.fault; why = x.why; same = ap (behind w) x.same; here = x.here }))
gives-line w c None number rest rest_behind s last ended bytes f (inr (inr x)) = inr (inr (record { speaks = x.speaks; line = x.line; says = x.says; halts = halts-behind w c x.line s last ended x.halts }))

pub gives-behind : (w : List ℕ) (c : Command) (over : Bool) (count : ℕ) (s : Session) (lines : List (List ℕ)) (last : Session) (ended : End)
    → Gives c over count s lines last ended → Gives c over count (behind w s) lines (behind w last) ended
gives-behind w c over count s [] last ended h = (ap (behind w) h.0, h.1)
gives-behind w c over count s (bytes ∷ lines) last ended h =
    gives-line w c (limit_for (is_last over lines) count) (count + 1) (λ t. Gives c over (count + 1) t lines last ended) (λ t. Gives c over (count + 1) t lines (behind w last) ended) s last ended bytes
    (λ t. gives-behind w c over (count + 1) t lines last ended) h

pub reaches-behind : (w : List ℕ) (c : Command) (over : Bool) (count : ℕ) (s : Session) (lines : List (List ℕ)) (last : Session) → Reaches c over count s lines last → Reaches c over count (behind w s) lines (behind w last)
reaches-behind w c over count s [] last h = ap (behind w) h
reaches-behind w c over count s (bytes ∷ lines) last (inl same) = inl (ap (behind w) same)
reaches-behind w c over count s (bytes ∷ lines) last (inr (few, x)) =
    inr (
      few,
      passes-behind w c (count + 1) (λ t. Reaches c over (count + 1) t lines last) (λ t. Reaches c over (count + 1) t lines (behind w last)) s bytes
          (λ t. reaches-behind w c over (count + 1) t lines last) x,
    )
