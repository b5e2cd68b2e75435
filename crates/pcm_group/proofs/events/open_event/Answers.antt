use Rattle.std.proofs.Common.{◌≡◌, ◌≢◌, ℕ, nat_lt, Bool, true, false, List, [], length, refl, sym, ◌∙◌, ap, subst}
use Rattle.pcm_base.specs.declared.call.Call.{Call}
use Rattle.pcm_base.specs.declared.call.Call.TheVariants as call
use Rattle.pcm_base.specs.declared.ids.ClientId.{ClientId}
use Rattle.pcm_base.specs.declared.reply.Reply.{Reply}
use Rattle.pcm_base.specs.declared.reply.Reply.TheVariants as reply
use Rattle.pcm_base.specs.declared.votes.Acted.{Acted}
use Rattle.pcm_base.specs.model.Events.{event}
use Rattle.pcm_base.specs.model.Group.{stream_of}
use Rattle.pcm_base.specs.model.Stream.{Stream}
use Rattle.pcm_stream.specs.Members.{members_of}
use Rattle.pcm_group.specs.Built.{is_waiting_call, own_frames}
use Rattle.pcm_group.specs.Bytes.{bytes_left}
use Rattle.pcm_group.specs.Carried.{IsCarriedBy}
use Rattle.pcm_group.specs.Lent.{Loads, is_lent_call}
use Rattle.pcm_group.specs.Ended.{IsEndedBy, RunsTo}
use Rattle.pcm_group.specs.Turn.{caller, caller_of}
use Rattle.pcm_group.specs.Waiting.{calls_of, is_free}
use Rattle.pcm_group.proofs.AsleepLemmas.{IsEndedBy-of}
use Rattle.pcm_group.proofs.CarryLemmas.{IsEndedBy-told}
use Rattle.pcm_group.proofs.EndedLemmas.{IsEnded-at}
use Rattle.pcm_group.proofs.EventLemmas.{caller_free, io_unused, short_bytes, short_call, short_moved, waiting_moves, waiting_unlent, wanting_reads_none}
use Rattle.pcm_group.proofs.CarriedLemmas.{unlent_leaves}
use Rattle.pcm_group.proofs.events.open_event.Goals as goal

-- an event that is lent nothing loads nothing
unlent_loads : (e : Call) (s : Stream) (r : Reply) (io out : List ℕ) → is_lent_call e ≡ false → Loads e s r io out
unlent_loads (call.Load o n) s r io out h = absurd (let no : ⊥ = cc in no)
unlent_loads _ s r io out h = tt

pub waiting_event-requires-clause-client : goal.waiting_event-requires-clause-client
waiting_event-requires-clause-client g c = c.requires.client c.in-Some.client c.in-Some.is

pub waiting_event-requires-clause-call : goal.waiting_event-requires-clause-call
waiting_event-requires-clause-call g c = sym c.is_waiting.ensures ∙ c.if-is_waiting.true

pub waiting_event-requires-clause-free : goal.waiting_event-requires-clause-free
waiting_event-requires-clause-free g c = c.requires.free c.in-Some.client c.in-Some.is

pub returns-in-Some-clause-done : goal.returns-in-Some-clause-done
returns-in-Some-clause-done g c = λ k tells xs h long n.
    let ev = c.args.event.now in
    let s = stream_of k xs in
    let linked = nat_lt 1 (length xs) in
    let io = c.args.io.now in
    let who : caller ev ≡ c.in-Some.client = ap caller_of c.in-Some.is in
    let w = c.waiting_event.result in
    let acts = c.waiting_event.new.acts in
    let ms = members_of c.waiting_event.new.members in
    let e = c.waiting_event.ensures.done linked k tells xs h long in
    record {
      frames = w.moved;
      ends = subst (λ (l : List Acted). IsEndedBy (caller ev) tells (event ev.call (caller ev) linked io s) k xs l acts w.reply w.first w.moved ms) c.requires.none
          (subst (λ (cl : ClientId). IsEndedBy cl tells (event ev.call cl linked io s) k xs c.args.acts.now acts w.reply w.first w.moved ms) (sym who) e);
      moved = waiting_moves ev.call w.moved (sym c.is_waiting.ensures ∙ c.if-is_waiting.true);
    }

pub returns-in-Some-clause-transferred : goal.returns-in-Some-clause-transferred
returns-in-Some-clause-transferred g c = λ k tells xs b ys h long unlent runs.
    let ev = c.args.event.now in
    let s = stream_of k xs in
    let linked = nat_lt 1 (length xs) in
    let who : caller ev ≡ c.in-Some.client = ap caller_of c.in-Some.is in
    c.waiting_event.ensures.bytes linked k tells xs b ys h long (subst (λ (cl : ClientId). RunsTo tells (event ev.call cl linked c.args.io.now s) k xs c.waiting_event.new.acts b ys) who runs)
    ∙ sym (ap (λ (cl : ClientId). bytes_left ev.call cl s b c.args.io.now) who)

pub short_event-requires-clause-call : goal.short_event-requires-clause-call
short_event-requires-clause-call g c = short_call c.args.event.now.call c.requires.call (sym c.is_waiting.ensures ∙ c.if-is_waiting.false) (sym c.is_lent.ensures ∙ c.if-is_lent.false)

pub returns-else-is_lent-clause-done : goal.returns-else-is_lent-clause-done
returns-else-is_lent-clause-done g c = λ k tells xs h long n.
    let ev = c.args.event.now in
    let s = stream_of k xs in
    let linked = nat_lt 1 (length xs) in
    let io = c.args.io.now in
    let ms = members_of c.args.members.now in
    let ns = members_of c.short_event.new.members in
    let r = c.short_event.result in
    let q = c.said.result in
    let acts = c.short_event.new.acts in
    let frames = own_frames ev.call s in
    let short = short_call ev.call c.requires.call (sym c.is_waiting.ensures ∙ c.if-is_waiting.false) (sym c.is_lent.ensures ∙ c.if-is_lent.false) in
    let told : r ≢ reply.Memory = λ e. n (c.said.ensures.reply ∙ e) in
    let same : event ev.call (caller ev) linked io s ≡ event ev.call (caller ev) linked [] s = io_unused ev.call (caller ev) linked io s short in
    let free : is_free (caller ev) (calls_of ns) ≡ true = ap (is_free (caller ev)) c.short_event.ensures.calls ∙ caller_free ev.call c.args.place ev.client ms xs h.stands (sym c.is_waiting.ensures ∙ c.if-is_waiting.false) c.requires.free in
    let p = event ev.call (caller ev) linked io s in
    let ended : IsEndedBy (caller ev) tells p k xs c.args.acts.now acts r 0 frames ns = IsEndedBy-of (caller ev) tells p k xs c.args.acts.now acts r 0 frames ns c.short_event.ensures.awake free
    (IsEnded-at tells p (event ev.call (caller ev) linked [] s) k xs c.args.acts.now acts r 0 frames ns same (c.short_event.ensures.done (caller ev) k tells xs h told)) in
    record {
      frames = frames;
      ends = subst (λ (l : List Acted). IsEndedBy (caller ev) tells p k xs l acts q.reply q.first frames ns) c.requires.none
          (IsEndedBy-told (caller ev) tells p p k xs c.args.acts.now acts q.reply r q.first 0 frames frames ns refl c.said.ensures.reply c.said.ensures.first refl ended);
      moved = c.said.ensures.moved ∙ short_moved ev.call s;
    }

pub returns-else-is_lent-clause-transferred : goal.returns-else-is_lent-clause-transferred
returns-else-is_lent-clause-transferred g c = λ k tells xs b ys h long unlent runs.
    let ev = c.args.event.now in
    short_bytes ev.call (caller ev) (stream_of k xs) b c.args.io.now (short_call ev.call c.requires.call (sym c.is_waiting.ensures ∙ c.if-is_waiting.false) (sym c.is_lent.ensures ∙ c.if-is_lent.false))

-- ---- what waits

waits : (e : Call) (w : Bool) → w ≡ is_waiting_call e → w ≡ true → is_waiting_call e ≡ true
waits e w is h = sym is ∙ h

pub returns-in-Some-clause-loaded : goal.returns-in-Some-clause-loaded
returns-in-Some-clause-loaded g c = λ k tells xs h.
    let ev = c.args.event.now in
    let does = waits ev.call c.is_waiting.result c.is_waiting.ensures c.if-is_waiting.true in
    unlent_loads ev.call (stream_of k xs) c.waiting_event.result.reply c.args.io.now c.waiting_event.new.io (waiting_unlent ev.call does)

pub returns-in-Some-clause-bytes : goal.returns-in-Some-clause-bytes
returns-in-Some-clause-bytes g c = λ idle reads. absurd (let no : true ≡ false = sym (waits c.args.event.now.call c.is_waiting.result c.is_waiting.ensures c.if-is_waiting.true) ∙ idle in cc)

pub returns-in-Some-clause-kept : goal.returns-in-Some-clause-kept
returns-in-Some-clause-kept g c e = absurd (c.waiting_event.ensures.told e)

pub returns-in-Some-clause-memory : goal.returns-in-Some-clause-memory
returns-in-Some-clause-memory g c = λ xs h e. absurd (c.waiting_event.ensures.told e)

pub returns-in-Some-clause-wants : goal.returns-in-Some-clause-wants
returns-in-Some-clause-wants g c e = absurd (c.waiting_event.ensures.told e)

pub returns-in-Some-clause-idle : goal.returns-in-Some-clause-idle
returns-in-Some-clause-idle g c e = absurd (c.waiting_event.ensures.told e)

pub returns-in-Some-clause-still : goal.returns-in-Some-clause-still
returns-in-Some-clause-still g c e = absurd (c.waiting_event.ensures.told e)

-- ---- what is lent bytes

pub returns-then-is_lent-clause-done : goal.returns-then-is_lent-clause-done
returns-then-is_lent-clause-done g c = λ k tells xs h long n.
    let ev = c.args.event.now in
    let s = stream_of k xs in
    let ms = members_of c.args.members.now in
    let ns = members_of c.bytes_event.new.members in
    let linked = nat_lt 1 (length xs) in
    let q = event ev.call (caller ev) linked c.args.io.now s in
    let r = c.bytes_event.result in
    let b = c.bytes_event.ensures.done (caller ev) linked k tells xs [] h long n in
    let free : is_free (caller ev) (calls_of ns) ≡ true = ap (is_free (caller ev)) c.bytes_event.ensures.calls ∙ caller_free ev.call c.args.place ev.client ms xs h.stands (sym c.is_waiting.ensures ∙ c.if-is_waiting.false) c.requires.free in
    let ended = IsEndedBy-of (caller ev) tells q k xs [] [] r.reply r.first b.frames ns c.bytes_event.ensures.awake free b.ends in
    subst (λ (l : List Acted). IsCarriedBy ev.call (caller ev) tells q k xs l r.reply r.first r.moved ns) (sym c.requires.none) (record { frames = b.frames; moved = b.moved; ends = ended })

pub returns-then-is_lent-clause-transferred : goal.returns-then-is_lent-clause-transferred
returns-then-is_lent-clause-transferred g c = λ k tells xs b ys h long unlent runs. absurd (let no : true ≡ false = sym (sym c.is_lent.ensures ∙ c.if-is_lent.true) ∙ unlent in cc)

pub returns-then-is_lent-clause-loaded : goal.returns-then-is_lent-clause-loaded
returns-then-is_lent-clause-loaded g c = c.bytes_event.ensures.loaded

pub returns-then-is_lent-clause-bytes : goal.returns-then-is_lent-clause-bytes
returns-then-is_lent-clause-bytes g c = λ idle reads. c.bytes_event.ensures.bytes reads

pub returns-then-is_lent-clause-kept : goal.returns-then-is_lent-clause-kept
returns-then-is_lent-clause-kept g c e = c.bytes_event.ensures.bytes (wanting_reads_none c.args.event.now.call (c.bytes_event.ensures.wants e))

pub returns-then-is_lent-clause-still : goal.returns-then-is_lent-clause-still
returns-then-is_lent-clause-still g c = c.bytes_event.ensures.idle

pub returns-then-is_lent-clause-cards : goal.returns-then-is_lent-clause-cards
returns-then-is_lent-clause-cards g c = c.bytes_event.ensures.cards c.args.acts.now

-- ---- a short event

pub returns-else-is_lent-clause-loaded : goal.returns-else-is_lent-clause-loaded
returns-else-is_lent-clause-loaded g c = λ k tells xs h. unlent_leaves c.args.event.now.call (stream_of k xs) c.said.result.reply c.args.io.now (sym c.is_lent.ensures ∙ c.if-is_lent.false)

pub returns-else-is_lent-clause-memory : goal.returns-else-is_lent-clause-memory
returns-else-is_lent-clause-memory g c = λ xs h e. c.short_event.ensures.memory xs h (sym c.said.ensures.reply ∙ e)

pub returns-else-is_lent-clause-wants : goal.returns-else-is_lent-clause-wants
returns-else-is_lent-clause-wants g c e = c.short_event.ensures.wants (sym c.said.ensures.reply ∙ e)

pub returns-else-is_lent-clause-idle : goal.returns-else-is_lent-clause-idle
returns-else-is_lent-clause-idle g c e = c.short_event.ensures.idle (sym c.said.ensures.reply ∙ e)

pub returns-else-is_lent-clause-still : goal.returns-else-is_lent-clause-still
returns-else-is_lent-clause-still g c e = (c.said.ensures.first, c.said.ensures.moved)
