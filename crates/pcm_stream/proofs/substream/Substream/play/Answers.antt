use Rattle.std.proofs.Common.{◌≡◌, ◌≤◌, ◌<◌, ◌+◌, ◌*◌, ◌/◌, ◌%◌, ℕ, List, ◌++◌, length, take, refl, sym, ◌∙◌, ap, subst, arith}
use Rattle.std.specs.declared.option.Option.TheVariants.{Some}
use Rattle.pcm_base.specs.declared.config.Shape.{Shape}
use Rattle.pcm_base.specs.declared.reply.Reply.{Reply}
use Rattle.pcm_base.specs.declared.reply.Reply.TheVariants as reply
use Rattle.pcm_base.specs.CardFacts.{CardFacts, took}
use Rattle.pcm_base.specs.Shape.{AreFrames}
use Rattle.pcm_base.specs.model.Frame.{bytes_of}
use Rattle.pcm_base.specs.model.Movement.{Movement, move, taken_by, taken_bytes}
use Rattle.pcm_base.specs.model.Sound.{Sound}
use Rattle.pcm_base.specs.model.Stream.{Stream}
use Rattle.pcm_laws.proofs.KeptByEvents.{Sound-move}
use Rattle.pcm_stream.specs.Runs.{RunsFor, known}
use Rattle.pcm_stream.specs.StandsFor.{IsUnset}
use Rattle.pcm_stream.specs.declared.runtime.Runtime.{Runtime}
use Rattle.pcm_stream.proofs.CardLemmas.{if_some, stands-at, stands-as, position-on, front-whole, front-count, move-played, total-bytes, played-kept}
use Rattle.pcm_stream.proofs.MoveLemmas.{played, move-limit, move-done, bytes_of-append}
use Rattle.pcm_stream.proofs.StreamLemmas.{for_some, no_none}
use Rattle.pcm_stream.proofs.substream.Substream.play.Goals as goal

pub returns-then-total-gt-TAKEN_LIMIT-clause-reply :
    goal.returns-then-total-gt-TAKEN_LIMIT-clause-reply
returns-then-total-gt-TAKEN_LIMIT-clause-reply g c s h can =
    let r = c.in-Some.runtime in
    let kept = h.shows.runs_for r c.in-Some.is in
    let total : length c.taken.result.now + c.args.n * r.shape.frame_bytes ≡ taken_bytes c.args.n s =
    total-bytes c.args.n r.shape.frame_bytes s c.taken.result.now can.dir kept.setup.frame_bytes kept.frames.taken (c.taken.ensures ∙ h.shows.taken) in
    let over : 67108864 < taken_bytes c.args.n s = subst (λ (x : ℕ). 67108864 < x) total c.if-total-gt-TAKEN_LIMIT.true in
    for_some (λ (x : Reply). x ≡ (move c.args.n s).reply) (reply.Limit (length c.taken.result.now + c.args.n * r.shape.frame_bytes))
    (ap (λ (x : ℕ). reply.Limit x) total ∙ sym (ap (λ (m : Movement). m.reply) (move-limit c.args.n s can.runs can.near over)))

pub returns-then-total-gt-TAKEN_LIMIT-clause-moved :
    goal.returns-then-total-gt-TAKEN_LIMIT-clause-moved
returns-then-total-gt-TAKEN_LIMIT-clause-moved g c s h can other =
    let r = c.in-Some.runtime in
    let kept = h.shows.runs_for r c.in-Some.is in
    let total : length c.taken.result.now + c.args.n * r.shape.frame_bytes ≡ taken_bytes c.args.n s =
    total-bytes c.args.n r.shape.frame_bytes s c.taken.result.now can.dir kept.setup.frame_bytes kept.frames.taken (c.taken.ensures ∙ h.shows.taken) in
    let over : 67108864 < taken_bytes c.args.n s = subst (λ (x : ℕ). 67108864 < x) total c.if-total-gt-TAKEN_LIMIT.true in
    stands-at _ (move c.args.n s).stream s (ap (λ (m : Movement). m.stream) (move-limit c.args.n s can.runs can.near over))
    (stands-as c.args.self.now _ s refl refl refl refl refl (sym c.in-Some.is) h)

pub returns-in_default-reserve-clause-memory : goal.returns-in_default-reserve-clause-memory
returns-in_default-reserve-clause-memory g c s h memory =
    stands-as c.args.self.now _ s c.reserve.ensures.same refl refl refl refl (sym c.in-Some.is) h

pub take-requires-clause-whole : goal.take-requires-clause-whole
take-requires-clause-whole g c =
    let r = c.in-Some.runtime in
    let set : (g.C.Card.facts c.reserve.new.self).shape ≡ Some r.shape = ap (λ (f : CardFacts). f.shape) c.reserve.ensures.same ∙ c.args.self.now.set_up r c.in-Some.is in
    let room : length c.deref.result.now ≡ r.shape.buffer * r.shape.frame_bytes =
    c.deref.ensures.len ∙ c.read.new.self.room ∙ ap (λ (x : Shape). x.buffer * x.frame_bytes) c.read.ensures.shape in
    let few : c.args.n ≤ r.shape.buffer = omega (arith, c.requires r c.in-Some.is) in
    λ x is. for_some (λ (y : Shape). AreFrames y (take (c.args.n * r.shape.frame_bytes) c.deref.result.now)) r.shape
    (front-whole c.args.n r.shape.buffer r.shape.frame_bytes c.deref.result.now room few) x (sym set ∙ is)

pub returns-clause-reply : goal.returns-clause-reply
returns-clause-reply g c s h can =
    let r = c.in-Some.runtime in
    let kept = h.shows.runs_for r c.in-Some.is in
    let total : length c.taken.result.now + c.args.n * r.shape.frame_bytes ≡ taken_bytes c.args.n s =
    total-bytes c.args.n r.shape.frame_bytes s c.taken.result.now can.dir kept.setup.frame_bytes kept.frames.taken (c.taken.ensures ∙ h.shows.taken) in
    let within : taken_bytes c.args.n s ≤ 67108864 = subst (λ (x : ℕ). x ≤ 67108864) total c.if-total-gt-TAKEN_LIMIT.false in
    for_some (λ (x : Reply). x ≡ (move c.args.n s).reply) (reply.Moved c.args.n) (sym (ap (λ (m : Movement). m.reply) (move-done c.args.n s can.runs can.near within)))

pub returns-clause-moved : goal.returns-clause-moved
returns-clause-moved g c s h can other =
    let r = c.in-Some.runtime in
    let kept = h.shows.runs_for r c.in-Some.is in
    let total : length c.taken.result.now + c.args.n * r.shape.frame_bytes ≡ taken_bytes c.args.n s =
    total-bytes c.args.n r.shape.frame_bytes s c.taken.result.now can.dir kept.setup.frame_bytes kept.frames.taken (c.taken.ensures ∙ h.shows.taken) in
    let within : taken_bytes c.args.n s ≤ 67108864 = subst (λ (x : ℕ). x ≤ 67108864) total c.if-total-gt-TAKEN_LIMIT.false in
    let same : (move c.args.n s).stream ≡ played c.args.n s = move-played c.args.n s can.dir can.runs can.near within in
    let facts = c.reserve.ensures.same in
    let set : (g.C.Card.facts c.reserve.new.self).shape ≡ Some r.shape = ap (λ (f : CardFacts). f.shape) facts ∙ c.args.self.now.set_up r c.in-Some.is in
    let stood : (g.C.Card.facts c.reserve.new.self).position ≡ s.at.card % r.shape.buffer = ap (λ (f : CardFacts). f.position) facts ∙ h.shows.position r c.in-Some.is in
    let bytes : take (c.args.n * r.shape.frame_bytes) c.deref.result.now ≡ bytes_of (taken_by c.args.n s) =
    ap (take (c.args.n * r.shape.frame_bytes)) c.deref.ensures.value ∙ c.read.ensures.frames s (c.position.ensures.value ∙ stood) kept in
    let after : g.C.Card.facts c.take.new.self ≡ took (g.C.Card.facts c.reserve.new.self) r.shape (take (c.args.n * r.shape.frame_bytes) c.deref.result.now) =
    if_some (λ (x : Shape). g.C.Card.facts c.take.new.self ≡ took (g.C.Card.facts c.reserve.new.self) x (take (c.args.n * r.shape.frame_bytes) c.deref.result.now))
    (g.C.Card.facts c.reserve.new.self).shape r.shape set c.take.ensures.after in
    let room : length c.deref.result.now ≡ r.shape.buffer * r.shape.frame_bytes =
    c.deref.ensures.len ∙ c.read.new.self.room ∙ ap (λ (x : Shape). x.buffer * x.frame_bytes) c.read.ensures.shape in
    let few : c.args.n ≤ r.shape.buffer = omega (arith, c.requires r c.in-Some.is) in
    let count : length (take (c.args.n * r.shape.frame_bytes) c.deref.result.now) / r.shape.frame_bytes ≡ c.args.n =
    front-count c.args.n r.shape.buffer r.shape.frame_bytes c.deref.result.now r.sound.frame room few in
    let stands : (g.C.Card.facts c.take.new.self).position ≡ (s.at.card + c.args.n) % r.shape.buffer =
    ap (λ (f : CardFacts). f.position) after ∙ ap (λ (x : ℕ). ((g.C.Card.facts c.reserve.new.self).position + x) % r.shape.buffer) count
    ∙ position-on r.shape.buffer (g.C.Card.facts c.reserve.new.self).position s.at.card c.args.n stood in
    let taken : (g.C.Card.facts c.take.new.self).taken ≡ bytes_of (played c.args.n s).card.taken =
    ap (λ (f : CardFacts). f.taken) after
    ∙ ap (λ (x : List ℕ). x ++ take (c.args.n * r.shape.frame_bytes) c.deref.result.now) (ap (λ (f : CardFacts). f.taken) facts ∙ h.shows.taken)
    ∙ ap (λ (x : List ℕ). bytes_of s.card.taken ++ x) bytes
    ∙ sym (bytes_of-append s.card.taken (taken_by c.args.n s)) in
    let now : RunsFor c.count.new.self (played c.args.n s) = played-kept c.count.new.self c.args.n s (c.count.ensures.counted (known s) (c.read.ensures.same s kept)) in
    let sizes : c.count.new.self.shape ≡ r.shape = c.count.ensures.shape ∙ c.read.ensures.shape in
    stands-at _ (move c.args.n s).stream (played c.args.n s) same (record {
      shows = record {
        dir = h.shows.dir;
        model = ap (λ (f : CardFacts). f.model) after ∙ ap (λ (f : CardFacts). f.model) facts ∙ h.shows.model;
        long_max = h.shows.long_max;
        state = h.shows.state;
        kept = h.shows.kept;
        taken = taken;
        to_give = ap (λ (f : CardFacts). f.to_give) after ∙ ap (λ (f : CardFacts). f.to_give) facts ∙ h.shows.to_give;
        unset = λ e. no_none (IsUnset s.setup.config (s.moved + c.args.n)) c.count.new.self e;
        runs_for = for_some (λ (x : Runtime). RunsFor x (played c.args.n s)) c.count.new.self now;
        position = for_some (λ (x : Runtime). (g.C.Card.facts c.take.new.self).position ≡ (s.at.card + c.args.n) % x.shape.buffer) c.count.new.self
            (stands ∙ ap (λ (x : Shape). (s.at.card + c.args.n) % x.buffer) (sym sizes));
      };
      runs = ap (λ (f : CardFacts). f.runs) after ∙ ap (λ (f : CardFacts). f.runs) facts ∙ h.runs;
      plan = λ p is. h.plan p (sym (ap (λ (f : CardFacts). f.plan) facts) ∙ sym (ap (λ (f : CardFacts). f.plan) after) ∙ is);
      sound = subst (λ (t : Stream). Sound t) same (Sound-move c.args.n s h.sound);
    })
